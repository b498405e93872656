use Rattle.std.proofs.Common.{◌≡◌, List, [], map}
use Rattle.value_trees.specs.Meant.{meant}
use Rattle.value_trees.specs.Val.{Plain}
use Rattle.sierra_meaning.specs.Evaluating.{mapped_held, measure_all}
use Rattle.sierra_meaning.specs.Measured.{running_of}
use Rattle.sierra_meaning.specs.Turns.{Stands, Ends, meant_callers, caller_of, place_of}
use Rattle.sierra_meaning.proofs.turns.Evaluator.results.Given as goal

abbrev pub decreases-turns : goal.decreases-turns
decreases-turns l = measure_all (running_of l.self.accepted.now) l.run.at (mapped_held meant l.run.env) (meant_callers (map caller_of l.run.callers.items))

abbrev pub invariant-turns : goal.invariant-turns
invariant-turns l = record {
  stands : Stands l.self.accepted.now (place_of l.run);
  empty : l.run.values.items ≡ [];
  after : (results : List Plain) → Ends l.self.accepted.now (place_of l.run) results → Ends l.self.accepted.now (record { at = l.fn.at; env = l.fn.env; callers = [] }) results;
}
