-- Types and values, and how the cells of a memory stand for a value.
use Rattle.std.specs.Prelude.{ℕ, ◌≡◌, ◌<◌, ◌+◌, List, [], ◌∷◌, take, drop, Option, Some}
use Rattle.felt64.specs.Field.{modulus}
use Rattle.ro_machine.specs.Readings.{Readings}
use Rattle.first_form.specs.declared.verdict.Value.{Value}
use Rattle.first_form.specs.declared.verdict.Value.TheVariants as values

-- the types of numbers
pub data Num : Type 0 where
  felt64 : Num

pub data Ty : Type 0 where
  number : Num → Ty

pub data Val : Type 0 where
  Number : Num → ℕ → Val

-- the value that the code's value means
abbrev pub meant : Value → Val
meant (values.Felt n) = Number felt64 n

-- the numbers of a type
abbrev pub Fits : Num → ℕ → Type 0
Fits felt64 n = n < modulus

-- how many cells a value of the type takes
abbrev pub size : Ty → ℕ
size (number k) = 1

abbrev pub sizes : List Ty → ℕ
sizes [] = 0
sizes (ty ∷ tys) = size ty + sizes tys

-- what is read in the memory m stands for a value of the type
abbrev pub Stands : (ℕ → Option ℕ) → Ty → Readings → Val → Type 0
Stands m (number k) cells v = (n : ℕ) × (cells ≡ Some n ∷ []) × (v ≡ Number k n) × Fits k n

-- what is read stands for values of these types, one after another
abbrev pub StandAll : (ℕ → Option ℕ) → List Ty → Readings → List Val → Type 0
StandAll m [] cells vs = (cells ≡ []) × (vs ≡ [])
StandAll m (ty ∷ tys) cells vs =
    (v : Val) × (rest : List Val) × (vs ≡ v ∷ rest) × Stands m ty (take (size ty) cells) v × StandAll m tys (drop (size ty) cells) rest
