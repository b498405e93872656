-- What a new cell does to stretches that lie apart, and to the map.
use Rattle.std.proofs.Common.{◌≡◌, ℕ, zero, suc, ◌+◌, ◌-◌, ◌<◌, ◌≤◌, Bool, true, false, List, [], ◌∷◌, ◌++◌, length, get_or, set, cond, ltb, Some, None, Option, refl, sym, ap, subst, ◌∙◌, arith, length-append}
use Rattle.std.specs.List.{insert, slice_get, AllByRecursion}
use Rattle.std.specs.Ordering.{nat_cmp, eq_by_cmp}
use Rattle.std.specs.FinMap as map
use Rattle.std.specs.FinMap.{get, get-insert, same_map, nat_cmp-IsAntisymmetric}
use Rattle.std.specs.Cmp.{nat_cmp_total}
use Rattle.std.proofs.lemmas.Bool.Decides.{nat_tests}
use Rattle.std.proofs.lemmas.Option.{slice_get_read, same_Some}
use Rattle.felt64.specs.Field.{modulus}
use Rattle.ro_machine.specs.Cells.{Cells}
use Rattle.ro_machine.specs.Stretches.{Stretch, words_of, end_of, with_next, cells_of, map_of, AreApart, IsPlace, Adds}
use Rattle.ro_machine.proofs.Lookups.{first_some, word_in, word_at, get-map_of, numbered_step, either_way, past_stretch, behind_stretch, place_tail}
use Rattle.ro_machine.proofs.Order.{length-cells_of}

-- what a new cell does

-- the stretches have the new cell, and are still apart
pub record Grows (ss : List Stretch) (k v least : ℕ) (ts : List Stretch) : Type 0 where
  pub looks : (q : ℕ) → word_at ts q ≡ cond (eq_by_cmp nat_cmp q k) (Some v) (word_at ss q)
  pub counted : length (cells_of ts) ≡ length (cells_of ss) + 1
  pub apart : AreApart least ts

all_push : (ws : List ℕ) (v : ℕ) → AllByRecursion (λ w. w < modulus) ws → v < modulus → AllByRecursion (λ w. w < modulus) (ws ++ v ∷ [])
all_push [] v all lt = (lt, tt)
all_push (w ∷ ws) v all lt = (all.0, all_push ws v all.1 lt)

apart_after : (ss : List Stretch) (least k : ℕ) → AreApart least ss → IsPlace ss k 0 → k < modulus → AreApart (k + 1) ss
apart_after [] least k apart place lt = omega arith
apart_after (s ∷ ss) least k apart place lt = (omega (arith, place.after 0 s (omega arith) refl), apart.1, apart.2)

under : (b : Bool) (o l : Option ℕ) (v : ℕ) → first_some (cond b (Some v) o) l ≡ cond b (Some v) (first_some o l)
under true o l v = refl
under false o l v = refl

slice_get-push : (ws : List ℕ) (v i : ℕ) → slice_get (ws ++ v ∷ []) i ≡ cond (eq_by_cmp nat_cmp i (length ws)) (Some v) (slice_get ws i)
slice_get-push [] v zero = refl
slice_get-push [] v (suc i) = grind (arith, nat_tests)
slice_get-push (w ∷ ws) v zero = grind (arith, nat_tests)
slice_get-push (w ∷ ws) v (suc i) = slice_get-push ws v i ∙ ap (λ b. cond b (Some v) (slice_get ws i)) (same_test i (length ws))
  where
    same_test : (i n : ℕ) → eq_by_cmp nat_cmp i n ≡ eq_by_cmp nat_cmp (suc i) (suc n)
    same_test i n = grind (arith, nat_tests)

word_in-with_next : (s : Stretch) (v q : ℕ) → word_in (with_next s v) q ≡ cond (eq_by_cmp nat_cmp q (end_of s)) (Some v) (word_in s q)
word_in-with_next s v q = let pushed = slice_get-push (words_of s) v (q - s.start) in grind (arith, nat_tests)

passes : (b : Bool) (o l : Option ℕ) (v : ℕ) → (b ≡ true → o ≡ None) → first_some o (cond b (Some v) l) ≡ cond b (Some v) (first_some o l)
passes true o l v none = rw (none refl) refl
passes false o l v none = refl

-- a stretch below the new cell stays
grows_later : (t : Stretch) (ss ts : List Stretch) (k v least : ℕ) → AreApart least (t ∷ ss) → end_of t ≤ k → Grows ss k v (end_of t) ts → Grows (t ∷ ss) k v least (t ∷ ts)
grows_later t ss ts k v least apart le grows = record {
  looks = λ q. rw (grows.looks q) (passed q);
  counted = omega (arith, length-cells_of t ss, length-cells_of t ts, grows.counted);
  apart = (apart.0, apart.1, grows.apart);
}
  where
    passed : (q : ℕ) → first_some (word_in t q) (cond (eq_by_cmp nat_cmp q k) (Some v) (word_at ss q)) ≡ cond (eq_by_cmp nat_cmp q k) (Some v) (first_some (word_in t q) (word_at ss q))
    passed q = passes (eq_by_cmp nat_cmp q k) (word_in t q) (word_at ss q) v (λ same. past_stretch t q (let e : q ≡ k = grind (arith, nat_tests) in omega arith))

grows_here : (t : Stretch) (ss : List Stretch) (k v least : ℕ) → AreApart least (t ∷ ss) → IsPlace (t ∷ ss) k 1 → k ≡ end_of t → k < modulus → v < modulus → Grows (t ∷ ss) k v least (with_next t v ∷ ss)
grows_here t ss k v least apart place ends k_lt v_lt = record {
  looks = λ q. ap (λ o. first_some o (word_at ss q)) (word_in-with_next t v q) ∙ under (eq_by_cmp nat_cmp q (end_of t)) (word_in t q) (word_at ss q) v ∙ ap (λ n. cond (eq_by_cmp nat_cmp q n) (Some v) (word_at (t ∷ ss) q)) (sym ends);
  counted = omega (arith, length-cells_of t ss, length-cells_of (with_next t v) ss, length-append t.others (v ∷ []));
  apart = (apart.0, all_push (words_of t) v apart.1 v_lt, subst (λ n. AreApart n ss) {x = k + 1} (omega (arith, length-append t.others (v ∷ []))) (apart_after ss (end_of t) k apart.2 (place_tail t ss k 0 place) k_lt));
}

pub pushed : (ss : List Stretch) (least k v at : ℕ) (s : Stretch) → AreApart least ss → IsPlace ss k (suc at) → slice_get ss at ≡ Some s → k ≡ end_of s → k < modulus → v < modulus → Grows ss k v least (set ss at (with_next s v))
pushed [] least k v at s apart place is ends k_lt v_lt = absurd (omega (arith, place.in_range))
pushed (t ∷ ss) least k v zero s apart place is ends k_lt v_lt =
    let e = same_Some t s is in
    subst (λ x. k ≡ end_of x → Grows (t ∷ ss) k v least (with_next x v ∷ ss)) e (λ here. grows_here t ss k v least apart place here k_lt v_lt) ends
pushed (t ∷ []) least k v (suc at) s apart place is ends k_lt v_lt = absurd (omega (arith, place.in_range))
pushed (t ∷ u ∷ ss) least k v (suc at) s apart place is ends k_lt v_lt =
    let before = place.before 1 u (omega arith) refl in
    grows_later t (u ∷ ss) _ k v least apart (omega (arith, before, apart.2.0)) (pushed (u ∷ ss) (end_of t) k v at s apart.2 (place_tail t (u ∷ ss) k (suc at) place) is ends k_lt v_lt)

first_none : (a b : Option ℕ) → first_some a b ≡ None → (a ≡ None) × (b ≡ None)
first_none None b is = (refl, is)
first_none (Some x) b is = absurd (cc)

pub opened : (ss : List Stretch) (least k v at : ℕ) → AreApart least ss → IsPlace ss k at → word_at ss k ≡ None → least ≤ k → k < modulus → v < modulus → Grows ss k v least (insert ss at (record { start = k; first = v; others = [] }))
opened ss least k v zero apart place none le k_lt v_lt = record {
  looks = λ q. ap (λ o. first_some o (word_at ss q)) (word_in-lone q) ∙ under (eq_by_cmp nat_cmp q k) None (word_at ss q) v;
  counted = omega (arith, length-cells_of (record { start = k; first = v; others = [] }) ss);
  apart = (le, (v_lt, tt), subst (λ n. AreApart n ss) {x = k + 1} (omega arith) (apart_after ss least k apart place k_lt));
}
  where
    word_in-lone : (q : ℕ) → word_in (record { start = k; first = v; others = [] }) q ≡ cond (eq_by_cmp nat_cmp q k) (Some v) None
    word_in-lone q = sym (numbered_step k q v [] None (sym (either_way (ltb q (k + 1)) None)))
opened [] least k v (suc at) apart place none le k_lt v_lt = absurd (omega (arith, place.in_range))
opened (t ∷ ss) least k v (suc at) apart place none le k_lt v_lt =
    let both = first_none (word_in t k) (word_at ss k) none in
    let behind = behind_stretch t k (place.before 0 t (omega arith) refl) both.0 in
    grows_later t ss _ k v least apart behind (opened ss (end_of t) k v at apart.2 (place_tail t ss k at place) both.1 behind k_lt v_lt)

pub adds : (ss ts : List Stretch) (k v : ℕ) → Grows ss k v 0 ts → Adds ss k v ts
adds ss ts k v grows = record {
  listed = same_map nat_cmp_total nat_cmp-IsAntisymmetric _ _ (λ q.
      get-map_of ts q
      ∙ grows.looks q
      ∙ ap (cond (eq_by_cmp nat_cmp q k) (Some v)) (sym (get-map_of ss q))
      ∙ sym (get-insert nat_cmp_total (map_of ss) k v q));
  counted = grows.counted;
  apart = grows.apart;
}

-- to insert the word that a cell has changes nothing
pub insert_same : (m : Cells) (k v : ℕ) → get m k ≡ Some v → map.insert m k v ≡ m
insert_same m k v has = same_map nat_cmp_total nat_cmp-IsAntisymmetric _ _ (λ q. get-insert nat_cmp_total m k v q ∙ same_at q)
  where
    same_at : (q : ℕ) → cond (eq_by_cmp nat_cmp q k) (Some v) (get m q) ≡ get m q
    same_at q = grind (arith, nat_tests, λ (same : q ≡ k). ap (get m) same ∙ has)

-- a cell behind the stretch before the place is pushed onto it
pub adds_pushed : (ss : List Stretch) (k v at : ℕ) (s u t : Stretch) → AreApart 0 ss → IsPlace ss k at → 0 < at → s ≡ get_or ss (at - 1) s → u ≡ get_or ss (at - 1) u → k ≡ end_of s → k < modulus → v < modulus → t ≡ with_next u v → Adds ss k v (set ss (at - 1) t)
adds_pushed ss k v at s u t apart place some read_s read_u ends k_lt v_lt new =
    let inside : at - 1 < length ss = omega (arith, place.in_range) in
    let is_s = slice_get_read ss (length ss) (at - 1) s refl inside read_s in
    let is_u = slice_get_read ss (length ss) (at - 1) u refl inside read_u in
    let same : s ≡ u = same_Some s u (sym is_s ∙ is_u) in
    let place_next = subst (IsPlace ss k) {y = suc (at - 1)} (omega arith) place in
    rw new (adds ss _ k v (pushed ss 0 k v (at - 1) u apart place_next is_u (ends ∙ ap (λ (x : Stretch). end_of x) same) k_lt v_lt))

-- any other cell opens a stretch
pub adds_opened : (ss ts : List Stretch) (k v at : ℕ) (s : Stretch) → AreApart 0 ss → IsPlace ss k at → get (map_of ss) k ≡ None → k < modulus → v < modulus → s ≡ record { start = k; first = v; others = [] } → ts ≡ insert ss at s → Adds ss k v ts
adds_opened ss ts k v at s apart place none k_lt v_lt new is =
    rw (is, new) (adds ss _ k v (opened ss 0 k v at apart place (sym (get-map_of ss k) ∙ none) (omega arith) k_lt v_lt))
