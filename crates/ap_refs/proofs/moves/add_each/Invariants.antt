use Rattle.std.proofs.Common.{◌≡◌, length}
use Rattle.std.specs.List.{All}
use Rattle.libfunc_registry.specs.Wanted.{IsBelow}
use Rattle.ap_refs.specs.Moves.{added}
use Rattle.ap_refs.proofs.moves.add_each.Given as goal

abbrev pub decreases-loop-variables : goal.decreases-loop-variables
decreases-loop-variables g l = length l.variables

abbrev pub invariant-loop-variables : goal.invariant-loop-variables
invariant-loop-variables g l = (added l.types l.fn.variables l.fn.kinds l.fn.cells (g.H.HeldSteps.held l.initial.held) ≡ added l.types l.variables l.kinds l.cells (g.H.HeldSteps.held l.held)) × All (IsBelow l.types) l.kinds
