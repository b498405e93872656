use Rattle.std.proofs.Common.{sym, subst}
use Rattle.linear_check.specs.Typed.{Typed}
use Rattle.linear_check.proofs.Deciding.{through}
use Rattle.linear_check.proofs.Ready.{ready}
use Rattle.linear_check.proofs.check.annotate.Goals as goal

pub run-requires : goal.run-requires
run-requires c =
    ready c.args.program.now c.args.types.now c.args.sigs.now c.items.result.now c.in_ok-libfuncs.libfuncs c.in_ok-predecessors.predecessors.items
    c.items.ensures c.in_ok-libfuncs.ensures c.in_ok-predecessors.ensures

pub returns-in-Ok-clause-typed : goal.returns-in-Ok-clause-typed
returns-in-Ok-clause-typed c =
    subst (Typed c.args.program.now c.args.types.now c.args.sigs.now) (sym c.new.ensures)
    ((through c.args.program.now c.args.types.now c.args.sigs.now c.requires c.in-Ok.list.items).1 c.in-Ok.ensures.ok)
