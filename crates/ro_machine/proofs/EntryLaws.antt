-- The entries of a memory's map are in the field, and there are at most as many as addresses. A writer of run files needs both.
use Rattle.std.proofs.Common.{◌≡◌, ℕ, ◌+◌, ◌<◌, ◌≤◌, Bool, true, false, ◌&&◌, T, List, [], ◌∷◌, length, Some, Option, cond, arith, ◌∙◌}
use Rattle.std.specs.List.{AllByRecursion}
use Rattle.std.specs.Ordering.{nat_cmp, eq_by_cmp, is_lt}
use Rattle.std.specs.FinMap.{find, get, entries, entries_sorted, is_sorted, get-entries}
use Rattle.std.specs.FinMap.Entries.{below_all}
use Rattle.std.proofs.lemmas.Bool.Decides.{nat_tests}
use Rattle.felt64.specs.Field.{modulus}
use Rattle.ro_machine.specs.Cells.{Cells}
use Rattle.ro_machine.specs.Memory.{IsMemory}

abbrev InField : ℕ × ℕ → Type 0
InField cell = (cell.0 < modulus) × (cell.1 < modulus)

first : (a b : Bool) → T (a && b) → T a
first true b both = tt
first false b both = both

second : (a b : Bool) → T (a && b) → T b
second true b both = both
second false b both = absurd both

less : (x y : ℕ) → T (is_lt (nat_cmp x y)) → x < y
less x y lt = grind (arith, nat_tests, lt)

found_or_later : (x a k w n : ℕ) (later : Option ℕ) → x < k → (later ≡ Some n → x < a) → cond (eq_by_cmp nat_cmp a k) (Some w) later ≡ Some n → x < a
found_or_later x a k w n later above after is = grind (arith, nat_tests)

-- an address that is found lies above what all addresses lie above
found_above : (x a n : ℕ) (cells : List (ℕ × ℕ)) → T (below_all nat_cmp x cells) → find nat_cmp a cells ≡ Some n → x < a
found_above x a n [] below is = absurd (cc)
found_above x a n (cell ∷ cells) below is =
    found_or_later x a cell.0 cell.1 n _ (less x cell.0 (first _ _ below)) (found_above x a n cells (second _ _ below)) is

all_found : (cells : List (ℕ × ℕ)) → T (is_sorted nat_cmp cells) → ((a n : ℕ) → find nat_cmp a cells ≡ Some n → InField (a, n)) → AllByRecursion InField cells
all_found [] sorted field = tt
all_found (cell ∷ cells) sorted field = (
  field cell.0 cell.1 (grind (arith, nat_tests)),
  all_found cells (second _ _ sorted) (λ a n is.
      let above = found_above cell.0 a n cells (first _ _ sorted) is in
      field a n (grind (arith, nat_tests, above, is))),
)

pub entries_in_field : (m : Cells) → IsMemory (get m) → AllByRecursion (λ cell. (cell.0 < modulus) × (cell.1 < modulus)) (entries m)
entries_in_field m field = all_found (entries m) (entries_sorted m) (λ a n is. field a n (get-entries m a ∙ is))

fit_above : (x : ℕ) (cells : List (ℕ × ℕ)) → x < modulus → T (below_all nat_cmp x cells) → T (is_sorted nat_cmp cells) → AllByRecursion InField cells → x + 1 + length cells ≤ modulus
fit_above x [] lt below sorted field = omega arith
fit_above x (cell ∷ cells) lt below sorted field =
    omega (arith, less x cell.0 (first _ _ below), fit_above cell.0 cells field.0.0 (first _ _ sorted) (second _ _ sorted) field.1)

fit : (cells : List (ℕ × ℕ)) → T (is_sorted nat_cmp cells) → AllByRecursion InField cells → length cells ≤ modulus
fit [] sorted field = omega arith
fit (cell ∷ cells) sorted field = omega (arith, fit_above cell.0 cells field.0.0 (first _ _ sorted) (second _ _ sorted) field.1)

pub entries_fit : (m : Cells) → IsMemory (get m) → length (entries m) ≤ modulus
entries_fit m field = fit (entries m) (entries_sorted m) (entries_in_field m field)
