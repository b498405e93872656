-- How one number stands in the cell below an address, and that values which mean the same are the same.
use Rattle.std.proofs.Common.{◌≡◌, ℕ, ◌<◌, List, [], ◌∷◌, map, Option, Some, refl, sym, ap, ◌∙◌, arith}
use Rattle.felt64.specs.Field.{modulus, sum, difference}
use Rattle.ro_machine.specs.Readings.{cells_below}
use Rattle.first_form.specs.declared.verdict.Value.{Value}
use Rattle.first_form.specs.declared.verdict.Value.TheVariants as values
use Rattle.first_form.specs.Values.{number, felt64, Val, Number, meant, StandAll}

-- one value that stands below an address is the number that is listed there
pub record OneBelow (m : ℕ → Option ℕ) (top : ℕ) (vs : List Val) : Type 0 where
  pub number_there : ℕ
  pub value_is : vs ≡ Number felt64 number_there ∷ []
  pub listed : m (difference top 1) ≡ Some number_there

pub cell_there : (top : ℕ) → sum (difference top 1) 0 ≡ difference top 1
cell_there top = omega arith

same_reading : (o : Option ℕ) (n : ℕ) → ◌≡◌ {A = List (Option ℕ)} (o ∷ []) (Some n ∷ []) → o ≡ Some n
same_reading o n same = cc

pub one_below : (m : ℕ → Option ℕ) (top : ℕ) (vs : List Val) → StandAll m (number felt64 ∷ []) (cells_below m top 1) vs → OneBelow m top vs
one_below m top vs (v, rest, vs_are, (n, cell_is, v_is, fits), (no_cells, none)) = record {
  number_there = n;
  value_is = vs_are ∙ ap (λ u. u ∷ rest) v_is ∙ ap (λ us. Number felt64 n ∷ us) none;
  listed = ap m (sym (cell_there top)) ∙ same_reading (m (sum (difference top 1) 0)) n cell_is;
}

pub stands_below : (m : ℕ → Option ℕ) (top n : ℕ) → n < modulus → m (difference top 1) ≡ Some n → StandAll m (number felt64 ∷ []) (cells_below m top 1) (Number felt64 n ∷ [])
stands_below m top n fits listed = (
  Number felt64 n,
  [],
  refl,
  (n, ap (λ o. o ∷ []) (ap m (cell_there top) ∙ listed), refl, fits),
  (refl, refl),
)

same_number : (n p : ℕ) → Number felt64 n ≡ Number felt64 p → n ≡ p
same_number n p same = cc

pub one_number : (n p : ℕ) → ◌≡◌ {A = List Val} (Number felt64 n ∷ []) (Number felt64 p ∷ []) → n ≡ p
one_number n p same = cc

-- values of one meaning are one
pub meant_once : (v w : Value) → meant v ≡ meant w → v ≡ w
meant_once (values.Felt n) (values.Felt p) same = ap values.Felt (same_number n p same)

first_same : (v w : Val) (vs ws : List Val) → v ∷ vs ≡ w ∷ ws → v ≡ w
first_same v w vs ws same = cc

rest_same : (v w : Val) (vs ws : List Val) → v ∷ vs ≡ w ∷ ws → vs ≡ ws
rest_same v w vs ws same = cc

pub all_meant_once : (vs ws : List Value) → map meant vs ≡ map meant ws → vs ≡ ws
all_meant_once [] [] same = refl
all_meant_once [] (w ∷ ws) same = absurd cc
all_meant_once (v ∷ vs) [] same = absurd cc
all_meant_once (v ∷ vs) (w ∷ ws) same =
    ap (λ u. u ∷ vs) (meant_once v w (first_same _ _ _ _ same)) ∙ ap (λ us. w ∷ us) (all_meant_once vs ws (rest_same _ _ _ _ same))
