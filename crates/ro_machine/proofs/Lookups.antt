-- Look-ups among stretches that lie apart.
use Rattle.std.proofs.Common.{◌≡◌, ℕ, zero, suc, ◌+◌, ◌-◌, ◌<◌, ◌≤◌, Bool, true, false, List, [], ◌∷◌, ◌++◌, length, get_or, cond, ltb, Some, None, Option, inl, inr, refl, sym, ap, subst, ◌∙◌, arith, leb}
use Rattle.std.specs.List.{slice_get}
use Rattle.std.specs.Ordering.{nat_cmp, eq_by_cmp}
use Rattle.std.specs.FinMap.{find, get, get-from_entries}
use Rattle.std.specs.Cmp.{nat_cmp_total}
use Rattle.std.proofs.lemmas.Bool.{cases_lt}
use Rattle.std.proofs.lemmas.Bool.Decides.{nat_tests}
use Rattle.std.proofs.lemmas.Option.{slice_get_past, slice_get_within, slice_get_read, slice_get-get_or, get_or_from_slice_get, same_Some}
use Rattle.std.specs.List.Sorted.{IsNonDecreasingBy, IsPartitionedBy, IsPartitionPoint}
use Rattle.std.proofs.lemmas.List.Sorted.{IsPartitionedBy-leb}
use Rattle.ro_machine.specs.Stretches.{Stretch, words_of, end_of, numbered, cells_of, map_of, AreApart, IsPlace}

-- the first word that there is
abbrev pub first_some : {A : Type 0} → Option A → Option A → Option A
first_some None b = b
first_some (Some a) b = Some a

-- what a stretch has at an address
abbrev pub word_in : Stretch → ℕ → Option ℕ
word_in s q = cond (ltb q s.start) None (slice_get (words_of s) (q - s.start))

-- what the stretches have at an address
abbrev pub word_at : List Stretch → ℕ → Option ℕ
word_at [] q = None
word_at (s ∷ ss) q = first_some (word_in s q) (word_at ss q)

find-append : (q : ℕ) (xs ys : List (ℕ × ℕ)) → find nat_cmp q (xs ++ ys) ≡ first_some (find nat_cmp q xs) (find nat_cmp q ys)
find-append q [] ys = refl
find-append q (x ∷ xs) ys =
    elim (eq_by_cmp nat_cmp q x.0) as (λ b. cond b (Some x.1) (find nat_cmp q (xs ++ ys)) ≡ first_some (cond b (Some x.1) (find nat_cmp q xs)) (find nat_cmp q ys)) [ true ↦ refl | false ↦ find-append q xs ys ]

slice_get-later : (w : ℕ) (ws : List ℕ) (i j : ℕ) → i ≡ suc j → slice_get (w ∷ ws) i ≡ slice_get ws j
slice_get-later w ws i j e = rw e refl

pub slice_get-first : (w : ℕ) (ws : List ℕ) (i : ℕ) → i ≡ 0 → slice_get (w ∷ ws) i ≡ Some w
slice_get-first w ws i e = rw e refl

pub either_way : (b : Bool) (o : Option ℕ) → cond b o o ≡ o
either_way true o = refl
either_way false o = refl

pub numbered_step : (a q w : ℕ) (ws : List ℕ) (r : Option ℕ) → r ≡ cond (ltb q (a + 1)) None (slice_get ws (q - (a + 1))) → cond (eq_by_cmp nat_cmp q a) (Some w) r ≡ cond (ltb q a) None (slice_get (w ∷ ws) (q - a))
numbered_step a q w ws r e =
    elim (cases_lt q a) [
      | inl below ↦ grind (arith, nat_tests)
      | inr above ↦ elim (cases_lt a q) [
        | inl more ↦ let later = slice_get-later w ws (q - a) (q - (a + 1)) (omega arith) in grind (arith, nat_tests)
        | inr same ↦ let first = slice_get-first w ws (q - a) (omega arith) in grind (arith, nat_tests)
      ]
    ]

find-numbered : (a q : ℕ) (ws : List ℕ) → find nat_cmp q (numbered a ws) ≡ cond (ltb q a) None (slice_get ws (q - a))
find-numbered a q [] = sym (either_way (ltb q a) None)
find-numbered a q (w ∷ ws) = numbered_step a q w ws _ (find-numbered (a + 1) q ws)

find-cells_of : (ss : List Stretch) (q : ℕ) → find nat_cmp q (cells_of ss) ≡ word_at ss q
find-cells_of [] q = refl
find-cells_of (s ∷ ss) q =
    find-append q (numbered s.start (words_of s)) (cells_of ss)
    ∙ ap (λ a. first_some a (find nat_cmp q (cells_of ss))) (find-numbered s.start q (words_of s))
    ∙ ap (first_some (word_in s q)) (find-cells_of ss q)

pub get-map_of : (ss : List Stretch) (q : ℕ) → get (map_of ss) q ≡ word_at ss q
get-map_of ss q = get-from_entries nat_cmp_total (cells_of ss) q ∙ find-cells_of ss q

-- one stretch

pub below_stretch : (s : Stretch) (q : ℕ) → q < s.start → word_in s q ≡ None
below_stretch s q lt = grind (arith, nat_tests)

pub past_stretch : (s : Stretch) (q : ℕ) → end_of s ≤ q → word_in s q ≡ None
past_stretch s q le =
    let past = slice_get_past (words_of s) (q - s.start) (omega arith) in
    grind (arith, nat_tests)

pub inside_stretch : (s : Stretch) (q : ℕ) → s.start ≤ q → word_in s q ≡ slice_get (words_of s) (q - s.start)
inside_stretch s q le = grind (arith, nat_tests)

-- a listed address is in the stretch
pub within_stretch : (s : Stretch) (q n : ℕ) → word_in s q ≡ Some n → (s.start ≤ q) × (q < end_of s)
within_stretch s q n is =
    elim (cases_lt q s.start) [
      | inl below ↦ absurd (let none = below_stretch s q below in grind arith)
      | inr above ↦ elim (cases_lt q (end_of s)) [
        | inl less ↦ (above, less)
        | inr past ↦ absurd (let none = past_stretch s q past in grind arith)
      ]
    ]

-- an unlisted address at or above the start is behind the end
pub behind_stretch : (s : Stretch) (q : ℕ) → s.start ≤ q → word_in s q ≡ None → end_of s ≤ q
behind_stretch s q le none =
    elim (cases_lt q (end_of s)) [
      | inl less ↦ absurd (let some = slice_get-some (words_of s) (q - s.start) (omega arith) in grind (arith, nat_tests, some.1))
      | inr past ↦ past
    ]
  where
    slice_get-some : (ws : List ℕ) (i : ℕ) → i < length ws → (w : ℕ) × (slice_get ws i ≡ Some w)
    slice_get-some [] i lt = absurd (omega arith)
    slice_get-some (w ∷ ws) zero lt = (w, refl)
    slice_get-some (w ∷ ws) (suc i) lt = slice_get-some ws i (omega arith)

-- stretches that lie apart

pub apart_wider : (ss : List Stretch) (low least : ℕ) → low ≤ least → AreApart least ss → AreApart low ss
apart_wider [] low least le apart = omega arith
apart_wider (s ∷ ss) low least le apart = (omega (arith, apart.0), apart.1, apart.2)

below_all_stretches : (ss : List Stretch) (least q : ℕ) → AreApart least ss → q < least → word_at ss q ≡ None
below_all_stretches [] least q apart lt = refl
below_all_stretches (s ∷ ss) least q apart lt =
    let here = below_stretch s q (omega (arith, apart.0)) in
    let later = below_all_stretches ss (end_of s) q apart.2 (omega (arith, apart.0)) in
    rw here later

pub place_tail : (s : Stretch) (ss : List Stretch) (k at : ℕ) → IsPlace (s ∷ ss) k (suc at) → IsPlace ss k at
place_tail s ss k at place = record {
  in_range = omega (arith, place.in_range);
  before = λ j t lt is. place.before (suc j) t (omega arith) is;
  after = λ j t le is. place.after (suc j) t (omega arith) is;
}

-- before the first stretch nothing is listed
pub word_at_first : (ss : List Stretch) (least k : ℕ) → AreApart least ss → IsPlace ss k 0 → word_at ss k ≡ None
word_at_first [] least k apart place = refl
word_at_first (s ∷ ss) least k apart place =
    let lt = place.after 0 s (omega arith) refl in
    let here = below_stretch s k lt in
    rw here (below_all_stretches ss (end_of s) k apart.2 (omega (arith, lt)))

-- the last stretch that starts at or below an address has its word
pub word_at_place : (ss : List Stretch) (least k at : ℕ) (s : Stretch) → AreApart least ss → IsPlace ss k (suc at) → slice_get ss at ≡ Some s → word_at ss k ≡ word_in s k
word_at_place [] least k at s apart place is = absurd (omega (arith, place.in_range))
word_at_place (t ∷ ss) least k zero s apart place is =
    let none = word_at_first ss (end_of t) k apart.2 (place_tail t ss k 0 place) in
    rw none (no_more (word_in t k) ∙ ap (λ o. word_or_none o k) is)
  where
    no_more : (o : Option ℕ) → first_some o None ≡ o
    no_more None = refl
    no_more (Some a) = refl

    word_or_none : Option Stretch → ℕ → Option ℕ
    word_or_none None k = None
    word_or_none (Some s) k = word_in s k
word_at_place (t ∷ []) least k (suc at) s apart place is = absurd (omega (arith, place.in_range))
word_at_place (t ∷ u ∷ ss) least k (suc at) s apart place is =
    let before = place.before 1 u (omega arith) refl in
    let none = past_stretch t k (omega (arith, before, apart.2.0)) in
    rw none (word_at_place (u ∷ ss) (end_of t) k at s apart.2 (place_tail t (u ∷ ss) k (suc at) place) is)

pub start_least : (ss : List Stretch) (least j : ℕ) (t : Stretch) → AreApart least ss → slice_get ss j ≡ Some t → least ≤ t.start
start_least [] least j t apart is = absurd (omega (arith, slice_get_within [] j t is))
start_least (s ∷ ss) least zero t apart is = let e = same_Some s t is in rw (← e) apart.0
start_least (s ∷ ss) least (suc j) t apart is = let later = start_least ss (end_of s) j t apart.2 is in omega (arith, apart.0, later)

pub starts_rise : (ss : List Stretch) (least i j : ℕ) (s t : Stretch) → AreApart least ss → i < j → slice_get ss i ≡ Some s → slice_get ss j ≡ Some t → s.start < t.start
starts_rise [] least i j s t apart lt is_s is_t = absurd (omega (arith, slice_get_within [] j t is_t))
starts_rise (u ∷ ss) least i zero s t apart lt is_s is_t = absurd (omega arith)
starts_rise (u ∷ ss) least zero (suc j) s t apart lt is_s is_t =
    let e = same_Some u s is_s in
    let later = start_least ss (end_of u) j t apart.2 is_t in
    rw (← e) (omega (arith, later))
starts_rise (u ∷ ss) least (suc i) (suc j) s t apart lt is_s is_t = starts_rise ss (end_of u) i j s t apart.2 (omega arith) is_s is_t

-- nothing is listed before the first stretch
pub get_first : (ss : List Stretch) (k at : ℕ) → at ≡ 0 → AreApart 0 ss → IsPlace ss k at → get (map_of ss) k ≡ None
get_first ss k at first apart place = get-map_of ss k ∙ word_at_first ss 0 k apart (subst (IsPlace ss k) first place)

-- the word that the stretch before the place has
pub get_before : (ss : List Stretch) (k at : ℕ) (s : Stretch) → AreApart 0 ss → IsPlace ss k at → 0 < at → s ≡ get_or ss (at - 1) s → get (map_of ss) k ≡ slice_get (words_of s) (k - s.start)
get_before ss k at s apart place some read =
    let inside : at - 1 < length ss = omega (arith, place.in_range) in
    let is = slice_get_read ss (length ss) (at - 1) s refl inside read in
    get-map_of ss k
    ∙ word_at_place ss 0 k (at - 1) s apart (subst (IsPlace ss k) {y = suc (at - 1)} (omega arith) place) is
    ∙ inside_stretch s k (place.before (at - 1) s (omega arith) is)

-- the address that comes after the last start
pub place_last : (ss : List Stretch) (k : ℕ) (s : Stretch) → AreApart 0 ss → slice_get ss (length ss - 1) ≡ Some s → s.start ≤ k → IsPlace ss k (length ss)
place_last ss k s apart is le = record {
  in_range = omega arith;
  before = λ j t lt is_t. elim (cases_lt j (length ss - 1)) [
    | inl less ↦ omega (arith, starts_rise ss 0 j (length ss - 1) t s apart less is_t is)
    | inr more ↦ let e : j ≡ length ss - 1 = omega arith in let same = same_Some t s (sym is_t ∙ ap (slice_get ss) e ∙ is) in rw same le
  ];
  after = λ j t above is_t. absurd (omega (arith, slice_get_within ss j t is_t));
}

starts_do_not_fall : (ss : List Stretch) → AreApart 0 ss → IsNonDecreasingBy (λ s. s.start) ss
starts_do_not_fall ss apart i j d le lt =
    elim (cases_lt i j) [
      | inl less ↦ omega (arith, starts_rise ss 0 i j (get_or ss i d) (get_or ss j d) apart less (slice_get-get_or ss i d (omega arith)) (slice_get-get_or ss j d lt))
      | inr more ↦ let e : i ≡ j = omega arith in rw e (omega arith)
    ]

pub starts_parted : (ss : List Stretch) (k : ℕ) → AreApart 0 ss → IsPartitionedBy (λ s. leb s.start k) ss
starts_parted ss k apart = IsPartitionedBy-leb (λ s. s.start) ss k (starts_do_not_fall ss apart)

pub place_parted : (ss : List Stretch) (k at : ℕ) → at ≤ length ss → IsPartitionPoint (λ s. leb s.start k ≡ true) (λ s. leb s.start k ≡ false) ss at → IsPlace ss k at
place_parted ss k at le point = record {
  in_range = le;
  before = λ j s lt is.
      let read = get_or_from_slice_get ss j s s is in
      let test = point.0 j s (omega arith) lt in
      let here : leb s.start k ≡ true = ap (λ (t : Stretch). leb t.start k) (sym read) ∙ test in
      grind (arith, nat_tests);
  after = λ j s above is.
      let read = get_or_from_slice_get ss j s s is in
      let test = point.1 j s above (slice_get_within ss j s is) in
      let here : leb s.start k ≡ false = ap (λ (t : Stretch). leb t.start k) (sym read) ∙ test in
      grind (arith, nat_tests);
}
