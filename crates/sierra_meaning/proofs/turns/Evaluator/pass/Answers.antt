use Rattle.std.proofs.Common.{refl}
use Rattle.sierra_meaning.specs.Turns.{place_of}
use Rattle.sierra_meaning.proofs.Idling.{idle_turns}
use Rattle.sierra_meaning.proofs.turns.Evaluator.pass.Goals as goal

pub returns-clause-turns : goal.returns-clause-turns
returns-clause-turns c =
    let place = place_of c.args.run.now in
    idle_turns c.args.self.now.accepted.now c.args.self.now.positions.items c.requires.ready place (record { at = c.target_of-run.result; env = place.env; callers = place.callers }) c.args.target c.args.self.now.idle.items
    c.requires.idle c.requires.here c.requires.stands c.items-rising.ensures.rising c.target_of-run.ensures refl refl
