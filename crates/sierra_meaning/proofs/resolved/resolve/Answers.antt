use Rattle.sierra_meaning.proofs.Idling.{idle_resolved}
use Rattle.sierra_meaning.proofs.Resolving.{resolved}
use Rattle.sierra_meaning.proofs.resolved.resolve.Goals as goal

pub returns-clause-resolved : goal.returns-clause-resolved
returns-clause-resolved c =
    resolved c.args.accepted.now c.program-program.result.now c.items.result.now c.items-2.result.now c.in_ok-declared.declared c.in_ok-positions.positions.items c.program-program.ensures.program c.items.ensures c.items-2.ensures c.in_ok-declared.ensures
    c.in_ok-positions.ensures

pub returns-clause-idle : goal.returns-clause-idle
returns-clause-idle c =
    idle_resolved c.args.accepted.now c.program-program.result.now c.items.result.now c.sigs.result.now c.items-3.result.now c.in_ok-declared.declared c.in_ok-idle.idle.items c.program-program.ensures.program c.items.ensures c.sigs.ensures c.items-3.ensures
    c.in_ok-declared.ensures c.in_ok-idle.ensures
