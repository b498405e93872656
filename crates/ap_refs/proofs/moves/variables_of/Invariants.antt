use Rattle.std.proofs.Common.{◌≡◌, ◌++◌, map, length}
use Rattle.ap_refs.proofs.moves.variables_of.Given as goal

abbrev pub decreases-loop-params : goal.decreases-loop-params
decreases-loop-params l = length l.params

abbrev pub invariant-loop-params : goal.invariant-loop-params
invariant-loop-params l = map (λ x. x.0) l.fn.params ≡ l.variables.items ++ map (λ x. x.0) l.params
