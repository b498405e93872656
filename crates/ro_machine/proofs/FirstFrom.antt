-- The first cell from an address on.
use Rattle.std.proofs.Common.{◌≡◌, ℕ, zero, suc, ◌-◌, ◌<◌, ◌≤◌, List, [], ◌∷◌, length, Some, None, inl, inr, refl, sym, ap, subst, ◌∙◌, arith, Bor}
use Rattle.std.specs.List.{slice_get}
use Rattle.std.specs.FinMap.{get}
use Rattle.std.proofs.lemmas.Bool.{cases_lt}
use Rattle.std.proofs.lemmas.Option.{slice_get_past, slice_get_within, slice_get_read, same_Some}
use Rattle.std.specs.Slice.{IsItemAt}
use Rattle.ro_machine.specs.Cells.{Cells, IsFirstFrom, NoneFrom}
use Rattle.ro_machine.specs.Stretches.{Stretch, map_of, AreApart, IsPlace}
use Rattle.ro_machine.proofs.Lookups.{word_in, word_at, get-map_of, slice_get-first, past_stretch, inside_stretch, behind_stretch, word_at_first, word_at_place, starts_rise}

-- the first cell from an address on

slice_get-inside : (ss : List Stretch) (i : ℕ) → i < length ss → (s : Stretch) × (slice_get ss i ≡ Some s)
slice_get-inside [] i lt = absurd (omega arith)
slice_get-inside (s ∷ ss) zero lt = (s, refl)
slice_get-inside (s ∷ ss) (suc i) lt = slice_get-inside ss i (omega arith)

-- behind an address that is not listed nothing is listed before the next stretch
gap_above : (ss : List Stretch) (k b at : ℕ) → AreApart 0 ss → IsPlace ss k at → IsPlace ss b at → k ≤ b → word_at ss k ≡ None → word_at ss b ≡ None
gap_above ss k b zero apart place_k place_b le none = word_at_first ss 0 b apart place_b
gap_above ss k b (suc i) apart place_k place_b le none =
    let found = slice_get-inside ss i (omega (arith, place_k.in_range)) in
    let s = found.0 in
    let behind = behind_stretch s k (place_k.before i s (omega arith) found.1) (sym (word_at_place ss 0 k i s apart place_k found.1) ∙ none) in
    word_at_place ss 0 b i s apart place_b found.1 ∙ past_stretch s b (omega (arith, behind))

place_up : (ss : List Stretch) (k b at : ℕ) → IsPlace ss k at → k ≤ b → ((j : ℕ) (s : Stretch) → at ≤ j → slice_get ss j ≡ Some s → b < s.start) → IsPlace ss b at
place_up ss k b at place le after = record {
  in_range = place.in_range;
  before = λ j s lt is. omega (arith, place.before j s lt is);
  after = after;
}

pub none_from : (ss : List Stretch) (k at : ℕ) → AreApart 0 ss → IsPlace ss k at → word_at ss k ≡ None → slice_get ss at ≡ None → NoneFrom (map_of ss) k
none_from ss k at apart place none past b le =
    let place_b = place_up ss k b at place le (λ j s above is. absurd (none_there j s above is)) in
    get-map_of ss b ∙ gap_above ss k b at apart place place_b le none
  where
    none_there : (j : ℕ) (s : Stretch) → at ≤ j → slice_get ss j ≡ Some s → ⊥
    none_there j s above is =
        elim (cases_lt at (length ss)) [
          | inl inside ↦ let found = slice_get-inside ss at inside in let no = sym past ∙ found.1 in cc
          | inr beyond ↦ omega (arith, slice_get_within ss j s is)
        ]

-- the stretches after place i start above it
pub start_place : (ss : List Stretch) (i : ℕ) (s : Stretch) → AreApart 0 ss → slice_get ss i ≡ Some s → IsPlace ss s.start (suc i)
start_place ss i s apart is = record {
  in_range = omega (arith, slice_get_within ss i s is);
  before = λ j t lt is_t. elim (cases_lt j i) [
    | inl less ↦ omega (arith, starts_rise ss 0 j i t s apart less is_t is)
    | inr more ↦ let e : j ≡ i = omega arith in let same = same_Some t s (sym is_t ∙ ap (slice_get ss) e ∙ is) in rw same (omega arith)
  ];
  after = λ j t le is_t. starts_rise ss 0 i j s t apart (omega arith) is is_t;
}

word_at_start : (s : Stretch) → word_in s s.start ≡ Some s.first
word_at_start s = inside_stretch s s.start (omega arith) ∙ slice_get-first s.first s.others (s.start - s.start) (omega arith)

pub first_from : (ss : List Stretch) (k at : ℕ) (s : Stretch) → AreApart 0 ss → IsPlace ss k at → word_at ss k ≡ None → slice_get ss at ≡ Some s → IsFirstFrom (map_of ss) k (s.start, s.first)
first_from ss k at s apart place none is = record {
  at_or_above = omega (arith, place.after at s (omega arith) is);
  is_listed = get-map_of ss s.start ∙ word_at_place ss 0 s.start at s apart (start_place ss at s apart is) is ∙ word_at_start s;
  none_before = λ b le lt.
      let place_b = place_up ss k b at place le (λ j t above is_t. omega (arith, lt, start_above j t above is_t)) in
      get-map_of ss b ∙ gap_above ss k b at apart place place_b le none;
}
  where
    start_above : (j : ℕ) (t : Stretch) → at ≤ j → slice_get ss j ≡ Some t → s.start ≤ t.start
    start_above j t above is_t = elim (cases_lt at j) [
      | inl less ↦ omega (arith, starts_rise ss 0 at j s t apart less is is_t)
      | inr same ↦ let e : j ≡ at = omega arith in let one = same_Some s t (sym is ∙ ap (slice_get ss) (sym e) ∙ is_t) in rw one (omega arith)
    ]

-- what `get` reads of a list
item_at : (ss : List Stretch) (at : ℕ) (x : Bor Stretch) → IsItemAt ss at (Some x) → slice_get ss at ≡ Some x.now
item_at ss at x item = slice_get_read ss (length ss) at x.now refl item.3.0 item.1

pub first_of_item : (ss : List Stretch) (k at : ℕ) (m : Cells) (x : Bor Stretch) → AreApart 0 ss → map_of ss ≡ m → IsPlace ss k at → None ≡ get (map_of ss) k → IsItemAt ss at (Some x) → IsFirstFrom m k (x.now.start, x.now.first)
first_of_item ss k at m x apart view place none item =
    subst (λ m. IsFirstFrom m k (x.now.start, x.now.first)) view (first_from ss k at x.now apart place (sym (get-map_of ss k) ∙ sym none) (item_at ss at x item))

pub none_of_item : (ss : List Stretch) (k at : ℕ) (m : Cells) → AreApart 0 ss → map_of ss ≡ m → IsPlace ss k at → None ≡ get (map_of ss) k → IsItemAt ss at None → NoneFrom m k
none_of_item ss k at m apart view place none item =
    subst (λ m. NoneFrom m k) view (none_from ss k at apart place (sym (get-map_of ss k) ∙ sym none) (slice_get_past ss at item.3))
