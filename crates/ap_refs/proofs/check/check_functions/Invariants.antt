use Rattle.std.proofs.Common.{◌≡◌, ◌<◌, ℕ, Some, slice_get}
use Rattle.type_table.specs.View.{FunctionView}
use Rattle.ap_refs.specs.Bounds.{AreFewCells}
use Rattle.ap_refs.proofs.check.check_functions.Given as goal

abbrev pub invariant-loop-f : goal.invariant-loop-f
invariant-loop-f l = (i : ℕ) (g : FunctionView) → i < l.f → slice_get l.types.functions i ≡ Some g → AreFewCells l.types g
