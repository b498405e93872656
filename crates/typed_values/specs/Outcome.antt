-- What a run begins with and what it shows: main's builtins are its own, and all else is the input's or the outcome's.
use Rattle.std.specs.Prelude.{ℕ, ◌-◌, ◌==◌, ◌&&◌, Bool, true, false, eqb, List, [], ◌∷◌, map, Option, Some, None, codes, if◌then◌else◌}
use Rattle.std.specs.List.{starts_with}
use Rattle.std.specs.Option.{unwrap_or}
use Rattle.type_trees.specs.Ty.{Ty, range_check, gas_builtin}
use Rattle.type_trees.specs.Ty as ty
use Rattle.value_trees.specs.Parts.{gas_of}
use Rattle.value_trees.specs.Val.{Plain}
use Rattle.value_trees.specs.Val as val

-- whether main panicked, what it gave, and its gas
pub record OutcomeView : Type 0 where
  pub panic : Bool
  pub values : List Plain
  pub gas_left : ℕ
  pub gas_used : ℕ

-- an outcome, with the steps and the range checks of the run that shows it
pub record VerdictView : Type 0 where
  pub outcome : OutcomeView
  pub steps : ℕ
  pub checks : ℕ

abbrev pub is_builtin : Ty → Bool
is_builtin range_check = true
is_builtin gas_builtin = true
is_builtin _ = false

-- the types that are no builtins
abbrev pub others_of : List Ty → List Ty
others_of [] = []
others_of (t ∷ ts) = if is_builtin t then others_of ts else t ∷ others_of ts

-- what main begins with where the parameter is a builtin: the gas builtin is the counter
abbrev pub builtin_value : (counter : ℕ) → Ty → Option Plain
builtin_value counter range_check = Some val.check
builtin_value counter gas_builtin = Some (val.gas counter)
builtin_value counter _ = None

-- the value of a builtin, or else the next of those that are given
abbrev pub begins : Option Plain → List Plain → (List Plain → List Plain) → List Plain
begins (Some v) given rest = v ∷ rest given
begins None [] rest = []
begins None (v ∷ given) rest = v ∷ rest given

-- The values of main's parameters, of these types: those that are no builtins are given, in order.
abbrev pub beginning : (counter : ℕ) → List Ty → List Plain → List Plain
beginning counter [] given = []
beginning counter (t ∷ ts) given = begins (builtin_value counter t) given (beginning counter ts)

-- the results that are no builtins, with their types
abbrev pub others : List Ty → List Plain → List (Ty × Plain)
others [] vs = []
others (t ∷ ts) [] = []
others (t ∷ ts) (v ∷ vs) = if is_builtin t then others ts vs else (t, v) ∷ others ts vs

-- the gas that is left: the number of the gas builtin among the results, and the counter where there is none
abbrev pub left_of : (counter : ℕ) → List Plain → ℕ
left_of counter [] = counter
left_of counter (v ∷ vs) = unwrap_or (gas_of v) (left_of counter vs)

-- the enums that say whether a function panicked
abbrev pub is_panic_result : Ty → Bool
is_panic_result (ty.enum name tys) = starts_with eqb name (codes "core::panics::PanicResult")
is_panic_result _ = false

-- variant 1 is a panic
abbrev pub is_panic : Plain → Bool
is_panic (val.enum index payload) = index == 1
is_panic _ = false

abbrev pub payload_of : Plain → Plain
payload_of (val.enum index payload) = payload
payload_of v = v

-- Of one result that is a panic result, its payload is shown, and whether it is a panic.
abbrev pub panics : List (Ty × Plain) → Bool
panics (x ∷ []) = is_panic_result x.0 && is_panic x.1
panics _ = false

abbrev pub shown : List (Ty × Plain) → List Plain
shown (x ∷ []) = (if is_panic_result x.0 then payload_of x.1 else x.1) ∷ []
shown results = map (λ (x : Ty × Plain). x.1) results

-- The outcome of main, of which these are the types of the results and the results. The input has this gas, of which main
-- begins with the counter.
abbrev pub outcome_of : (gas counter : ℕ) → List Ty → List Plain → OutcomeView
outcome_of gas counter ts results = record {
  panic = panics (others ts results);
  values = shown (others ts results);
  gas_left = left_of counter results;
  gas_used = gas - left_of counter results;
}
