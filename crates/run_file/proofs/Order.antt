-- Cells in order of address: as a list that rises, and as a map that a cell above all others is put into.
use Rattle.std.proofs.Common.{◌≡◌, ℕ, ◌+◌, ◌<◌, ◌≤◌, Bool, true, false, ◌&&◌, T, List, [], ◌∷◌, ◌++◌, None, refl, sym, ◌∙◌, arith}
use Rattle.std.specs.Ordering.{nat_cmp, is_lt}
use Rattle.std.specs.Cmp.{nat_cmp_total}
use Rattle.std.specs.FinMap.{find, put, from_sorted, entries-from_sorted, same_entries_map, is_sorted, entries, entries_sorted, insert, entries-insert, get, get-entries, get-insert, get-empty, empty, len-entries, len-empty}
use Rattle.std.specs.FinMap.Entries.{below_all}
use Rattle.std.proofs.lemmas.Bool.Decides.{nat_tests}
use Rattle.std.proofs.lemmas.List.{nil_from_length}
use Rattle.ro_machine.specs.Cells.{Cells, NoneFrom}

-- the addresses rise, and none is below this
abbrev pub IsRisingFrom : ℕ → List (ℕ × ℕ) → Type 0
IsRisingFrom least [] = Unit {0}
IsRisingFrom least (cell ∷ cells) = (least ≤ cell.0) × IsRisingFrom (cell.0 + 1) cells

left : (a b : Bool) → T (a && b) → T a
left true b h = tt
left false b h = h

right : (a b : Bool) → T (a && b) → T b
right true b h = h
right false b h = absurd h

above : (x y : ℕ) → T (is_lt (nat_cmp x y)) → x + 1 ≤ y
above x y h = grind (arith, nat_tests, h)

is_below : (x y : ℕ) → x < y → T (is_lt (nat_cmp x y))
is_below x y lt = grind (arith, nat_tests)

rising_above : (x : ℕ) (cells : List (ℕ × ℕ)) → T (below_all nat_cmp x cells) → T (is_sorted nat_cmp cells) → IsRisingFrom (x + 1) cells
rising_above x [] below sorted = tt
rising_above x (cell ∷ cells) below sorted = (above x cell.0 (left _ _ below), rising_above cell.0 cells (left _ _ sorted) (right _ _ sorted))

rising_from_sorted : (cells : List (ℕ × ℕ)) → T (is_sorted nat_cmp cells) → IsRisingFrom 0 cells
rising_from_sorted [] sorted = tt
rising_from_sorted (cell ∷ cells) sorted = (omega arith, rising_above cell.0 cells (left _ _ sorted) (right _ _ sorted))

both : (a b : Bool) → T a → T b → T (a && b)
both true b x y = y
both false b x y = x

below_from_rising : (x least : ℕ) (cells : List (ℕ × ℕ)) → x < least → IsRisingFrom least cells → T (below_all nat_cmp x cells)
below_from_rising x least [] lt rising = tt
below_from_rising x least (cell ∷ cells) lt rising = both _ _ (is_below x cell.0 (omega (arith, rising.0))) (below_from_rising x (cell.0 + 1) cells (omega (arith, rising.0)) rising.1)

pub sorted_from_rising : (least : ℕ) (cells : List (ℕ × ℕ)) → IsRisingFrom least cells → T (is_sorted nat_cmp cells)
sorted_from_rising least [] rising = tt
sorted_from_rising least (cell ∷ cells) rising = both _ _ (below_from_rising cell.0 (cell.0 + 1) cells (omega arith) rising.1) (sorted_from_rising (cell.0 + 1) cells rising.1)

pub entries_rise : (m : Cells) → IsRisingFrom 0 (entries m)
entries_rise m = rising_from_sorted (entries m) (entries_sorted m)

-- no cell of the list has an address from this on
abbrev NoneFound : List (ℕ × ℕ) → ℕ → Type 0
NoneFound cells least = (b : ℕ) → least ≤ b → find nat_cmp b cells ≡ None

head_below : (cell : ℕ × ℕ) (cells : List (ℕ × ℕ)) (least : ℕ) → NoneFound (cell ∷ cells) least → cell.0 < least
head_below cell cells least none = grind (arith, nat_tests, none cell.0)

tail_none : (cell : ℕ × ℕ) (cells : List (ℕ × ℕ)) (least : ℕ) → NoneFound (cell ∷ cells) least → NoneFound cells least
tail_none cell cells least none b le = grind (arith, nat_tests, none b le)

put_last : (cells : List (ℕ × ℕ)) (k v : ℕ) → NoneFound cells k → put nat_cmp k v cells ≡ cells ++ (k, v) ∷ []
put_last [] k v none = refl
put_last (cell ∷ cells) k v none =
    let lt : cell.0 < k = head_below cell cells k none in
    let rest : put nat_cmp k v cells ≡ cells ++ (k, v) ∷ [] = put_last cells k v (tail_none cell cells k none) in
    grind (arith, nat_tests)

pub insert_last : (m : Cells) (k v : ℕ) → NoneFrom m k → entries (insert m k v) ≡ entries m ++ (k, v) ∷ []
insert_last m k v none = entries-insert nat_cmp_total m k v ∙ put_last (entries m) k v (λ b le. sym (get-entries m b) ∙ none b le)

pub none_after : (m : Cells) (k v : ℕ) → NoneFrom m k → NoneFrom (insert m k v) (k + 1)
none_after m k v none b le =
    let old : get m b ≡ None = none b (omega arith) in
    rw (get-insert nat_cmp_total m k v b, old) (grind (arith, nat_tests))

pub none_at_first : NoneFrom empty 0
none_at_first b le = get-empty nat_cmp b

pub entries-empty : entries (empty {X = ℕ} {R = nat_cmp}) ≡ []
entries-empty = nil_from_length (entries (empty {X = ℕ} {R = nat_cmp})) (sym (len-entries (empty {X = ℕ} {R = nat_cmp})) ∙ len-empty nat_cmp ℕ)

pub same_cells : (m : Cells) → from_sorted (entries m) ≡ m
same_cells m = same_entries_map _ m (entries-from_sorted nat_cmp (entries m) (entries_sorted m))
