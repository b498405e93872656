-- What results are of the types of a branch.
use Rattle.std.specs.Prelude.{ℕ, ◌≡◌, List, Some, slice_get}
use Rattle.type_trees.specs.Ty.{Ty}
use Rattle.type_trees.specs.declared.num.Num.{Num}
use Rattle.value_trees.specs.Of.{AllOf}
use Rattle.value_trees.specs.Val.{Val}

-- there is such a branch, and the results are of its types, in order
abbrev pub AreOfBranch : {D E : Type 0} → (Num → D → Type 0) → (Num → E → Type 0) → List (List Ty) → ℕ → List (Val D E) → Type 0
AreOfBranch OfDict OfEntry tyss k outs = (tys : List Ty) × (slice_get tyss k ≡ Some tys) × AllOf OfDict OfEntry tys outs
