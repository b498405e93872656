-- What the code is told of its arguments, and what it answers.
use Rattle.std.specs.Prelude.{ℕ, ◌≡◌, List, [], ◌∷◌, ◌++◌, Some, map, slice_get}
use Rattle.std.specs.Global.{Vec}
use Rattle.type_trees.specs.Ty.{Ty}
use Rattle.type_trees.specs.declared.num.Num.{Num}
use Rattle.value_trees.specs.Meant.{meant}
use Rattle.value_trees.specs.Of.{AllOf, AreWords, IsOpenMap}
use Rattle.value_trees.specs.Val.{Plain}
use Rattle.value_trees.specs.Val as val
use Rattle.value_trees.specs.declared.value.Value.{Value}
use Rattle.libfunc_meaning.specs.Mapped.{PlainAnswer}

-- the values are of these types, in order
abbrev pub ArePlain : List Ty → List Plain → Type 0
ArePlain tys vs = AllOf AreWords IsOpenMap tys vs

-- a number, of whatever type, stands at this place
abbrev pub IsNumberAt : List Plain → ℕ → ℕ → Type 0
IsNumberAt vs place n = (k : Num) × (slice_get vs place ≡ Some (val.number k n))

abbrev pub HasNumberAt : List Plain → ℕ → Type 0
HasNumberAt vs place = (n : ℕ) × IsNumberAt vs place n

abbrev pub IsGasAt : List Plain → ℕ → ℕ → Type 0
IsGasAt vs place n = slice_get vs place ≡ Some (val.gas n)

abbrev pub HasGasAt : List Plain → ℕ → Type 0
HasGasAt vs place = (n : ℕ) × IsGasAt vs place n

-- there is a last one
abbrev pub HasLast : List Plain → Type 0
HasLast vs = (first : List Plain) × (last : Plain) × (vs ≡ first ++ last ∷ [])

-- the answer is this branch with these results
abbrev pub IsAnswer : PlainAnswer → ℕ × Vec Value → Type 0
IsAnswer answer r = answer ≡ Some (r.0, map meant r.1.items)
