-- How many cells stretches have, that they are the entries of the map in order, and that all is in the field.
use Rattle.std.proofs.Common.{◌≡◌, ℕ, zero, suc, ◌+◌, ◌-◌, ◌<◌, ◌≤◌, Bool, true, false, ◌&&◌, T, List, [], ◌∷◌, ◌++◌, length, Some, None, Option, refl, sym, ap, subst, ◌∙◌, arith, length-append}
use Rattle.std.specs.List.{slice_get, AllByRecursion}
use Rattle.std.specs.Ordering.{nat_cmp, is_lt}
use Rattle.std.specs.FinMap.{get, len, entries, is_sorted, from_sorted, get-from_entries, get-from_sorted, entries-from_sorted, len-entries, same_map, nat_cmp-IsAntisymmetric}
use Rattle.std.specs.FinMap.Entries.{below_all}
use Rattle.std.specs.Cmp.{nat_cmp_total}
use Rattle.std.proofs.lemmas.Bool.Decides.{nat_tests}
use Rattle.std.proofs.lemmas.Option.{slice_get_within, same_Some}
use Rattle.felt64.specs.Field.{modulus}
use Rattle.ro_machine.specs.Cells.{Cells}
use Rattle.ro_machine.specs.Memory.{IsMemory}
use Rattle.ro_machine.specs.Stretches.{Stretch, words_of, end_of, numbered, cells_of, map_of, AreApart}
use Rattle.ro_machine.proofs.Lookups.{first_some, word_in, word_at, get-map_of, inside_stretch, within_stretch}

pub length-numbered : (a : ℕ) (ws : List ℕ) → length (numbered a ws) ≡ length ws
length-numbered a [] = refl
length-numbered a (w ∷ ws) = ap suc (length-numbered (a + 1) ws)

pub length-cells_of : (s : Stretch) (ss : List Stretch) → length (cells_of (s ∷ ss)) ≡ 1 + length s.others + length (cells_of ss)
length-cells_of s ss = omega (arith, length-append (numbered s.start (words_of s)) (cells_of ss), length-numbered s.start (words_of s))

-- there are no more cells than addresses
pub cells_fit : (ss : List Stretch) (least : ℕ) → AreApart least ss → least + length (cells_of ss) ≤ modulus
cells_fit [] least apart = omega arith
cells_fit (s ∷ ss) least apart = omega (arith, apart.0, cells_fit ss (end_of s) apart.2, length-cells_of s ss)

-- the cells in order of address

abbrev RiseFrom : ℕ → List (ℕ × ℕ) → Type 0
RiseFrom least [] = Unit {0}
RiseFrom least (cell ∷ cells) = (least ≤ cell.0) × RiseFrom (cell.0 + 1) cells

rise_wider : (cells : List (ℕ × ℕ)) (low least : ℕ) → low ≤ least → RiseFrom least cells → RiseFrom low cells
rise_wider [] low least le rise = tt
rise_wider (cell ∷ cells) low least le rise = (omega (arith, rise.0), rise.1)

numbered_rise : (a : ℕ) (ws : List ℕ) (cells : List (ℕ × ℕ)) → RiseFrom (a + length ws) cells → RiseFrom a (numbered a ws ++ cells)
numbered_rise a [] cells rise = subst (λ n. RiseFrom n cells) {y = a} (omega arith) rise
numbered_rise a (w ∷ ws) cells rise = (omega arith, numbered_rise (a + 1) ws cells (subst (λ n. RiseFrom n cells) {y = a + 1 + length ws} (omega arith) rise))

cells_rise : (ss : List Stretch) (least : ℕ) → AreApart least ss → RiseFrom least (cells_of ss)
cells_rise [] least apart = tt
cells_rise (s ∷ ss) least apart =
    let later = subst (λ n. RiseFrom n (cells_of ss)) {y = s.start + length (words_of s)} (omega arith) (cells_rise ss (end_of s) apart.2) in
    rise_wider (cells_of (s ∷ ss)) least s.start apart.0 (numbered_rise s.start (words_of s) (cells_of ss) later)

both : (a b : Bool) → T a → T b → T (a && b)
both true b x y = y
both false b x y = x

below_risen : (cells : List (ℕ × ℕ)) (x least : ℕ) → x < least → RiseFrom least cells → T (below_all nat_cmp x cells)
below_risen [] x least lt rise = tt
below_risen (cell ∷ cells) x least lt rise =
    let here : T (is_lt (nat_cmp x cell.0)) = let less : x < cell.0 = omega (arith, rise.0) in grind (arith, nat_tests) in
    both _ _ here (below_risen cells x (cell.0 + 1) (omega (arith, rise.0)) rise.1)

risen_sorted : (cells : List (ℕ × ℕ)) (least : ℕ) → RiseFrom least cells → T (is_sorted nat_cmp cells)
risen_sorted [] least rise = tt
risen_sorted (cell ∷ cells) least rise = both _ _ (below_risen cells cell.0 (cell.0 + 1) (omega arith) rise.1) (risen_sorted cells (cell.0 + 1) rise.1)

-- the map's entries are the cells, as they lie
pub entries-map_of : (ss : List Stretch) → AreApart 0 ss → entries (map_of ss) ≡ cells_of ss
entries-map_of ss apart =
    let cells = cells_of ss in
    let sorted = risen_sorted cells 0 (cells_rise ss 0 apart) in
    let same : map_of ss ≡ from_sorted {R = nat_cmp} cells = same_map nat_cmp_total nat_cmp-IsAntisymmetric _ _ (λ q. get-from_entries nat_cmp_total cells q ∙ sym (get-from_sorted nat_cmp cells q sorted)) in
    ap entries same ∙ entries-from_sorted nat_cmp cells sorted

pub len-map_of : (ss : List Stretch) → AreApart 0 ss → len (map_of ss) ≡ length (cells_of ss)
len-map_of ss apart = len-entries (map_of ss) ∙ ap length (entries-map_of ss apart)

-- all is in the field

pub apart_bound : (ss : List Stretch) (least : ℕ) → AreApart least ss → least ≤ modulus
apart_bound ss least apart = omega (arith, cells_fit ss least apart)

all_get : (ws : List ℕ) (i n : ℕ) → AllByRecursion (λ w. w < modulus) ws → slice_get ws i ≡ Some n → n < modulus
all_get [] i n all is = absurd (omega (arith, slice_get_within [] i n is))
all_get (w ∷ ws) zero n all is = rw (← same_Some w n is) all.0
all_get (w ∷ ws) (suc i) n all is = all_get ws i n all.1 is

word_in_field : (ss : List Stretch) (least q n : ℕ) → AreApart least ss → word_at ss q ≡ Some n → (q < modulus) × (n < modulus)
word_in_field [] least q n apart is = absurd (cc)
word_in_field (s ∷ ss) least q n apart is = by_word (word_in s q) refl (word_in_field ss (end_of s) q n apart.2)
  where
    by_word : (o : Option ℕ) → word_in s q ≡ o → (word_at ss q ≡ Some n → (q < modulus) × (n < modulus)) → (q < modulus) × (n < modulus)
    by_word None here later = later (sym (ap (λ o. first_some o (word_at ss q)) here) ∙ is)
    by_word (Some w) here later =
        let same : w ≡ n = same_Some w n (sym (ap (λ o. first_some o (word_at ss q)) here) ∙ is) in
        let within = within_stretch s q w here in
        let word = all_get (words_of s) (q - s.start) w apart.1 (sym (inside_stretch s q within.0) ∙ here) in
        (omega (arith, within.1, apart_bound ss (end_of s) apart.2), omega (arith, same, word))

pub in_field : (ss : List Stretch) → AreApart 0 ss → (m : Cells) → map_of ss ≡ m → IsMemory (get m)
in_field ss apart m view a n is = word_in_field ss 0 a n apart (sym (get-map_of ss a) ∙ ap (λ m. get m a) view ∙ is)
