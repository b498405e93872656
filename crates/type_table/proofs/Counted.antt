-- Elements that pass a test: all of a list, and two of it.
use Rattle.std.proofs.Common.{◌≡◌, ℕ, zero, suc, ◌+◌, ◌<◌, ◌≤◌, Bool, true, false, true≢false, cond, List, [], ◌∷◌, map, Some, option_map, slice_get, refl, ap, sym, ◌∙◌, ◌⊎◌, inl, inr, arith}
use Rattle.std.specs.List.{list_all, count_by}
use Rattle.std.proofs.lemmas.Bool.{and_parts, and_cases}
use Rattle.std.proofs.lemmas.List.Sums.{sum_by-cons}
use Rattle.std.proofs.lemmas.Option.{slice_get-map}
use Rattle.type_table.proofs.Plain.{none-some, some_is}
use Rattle.type_table.proofs.DecidedLists.{map_at}

-- where two lists have one image, so have their elements at each position
pub each_same : {A B C : Type 0} (f : A → C) (g : B → C) (xs : List A) (ys : List B) (k : ℕ) (x : A) → map f xs ≡ map g ys → slice_get xs k ≡ Some x → (y : B) × (slice_get ys k ≡ Some y) × (f x ≡ g y)
each_same f g xs ys k x same here =
    let (y, is, image) = map_at g ys k (f x) (ap (λ l. slice_get l k) (sym same) ∙ slice_get-map f xs k ∙ ap (option_map f) here) in
    (y, is, sym image)

module _ {X : Type 0} (test : X → Bool) where
  -- an element of the list that the test answers so
  pub record TestAt (xs : List X) (k : ℕ) (answer : Bool) : Type 0 where
    pub item : X
    pub here : slice_get xs k ≡ Some item
    pub answers : test item ≡ answer

  pub all_pass : (xs : List X) (k : ℕ) (x : X) → list_all test xs ≡ true → slice_get xs k ≡ Some x → test x ≡ true
  all_pass [] k x all here = absurd (none-some x here)
  all_pass (w ∷ xs) zero x all here = ap test (sym (some_is w x here)) ∙ (and_parts (test w) (list_all test xs) all).0
  all_pass (w ∷ xs) (suc k) x all here = all_pass xs k x (and_parts (test w) (list_all test xs) all).1 here

  later : (w : X) (xs : List X) (answer : Bool) → (k : ℕ) × TestAt xs k answer → (k : ℕ) × TestAt (w ∷ xs) k answer
  later w xs answer (k, t) = (suc k, record { item = t.item; here = t.here; answers = t.answers })

  pub not_all : (xs : List X) → list_all test xs ≡ false → (k : ℕ) × TestAt xs k false
  not_all [] none = absurd (true≢false none)
  not_all (w ∷ xs) none = by (and_cases (test w) (list_all test xs) none) (not_all xs)
    where
      by : (test w ≡ false) ⊎ (list_all test xs ≡ false) → (list_all test xs ≡ false → (k : ℕ) × TestAt xs k false) → (k : ℕ) × TestAt (w ∷ xs) k false
      by (inl first) rest = (0, record { item = w; here = refl; answers = first })
      by (inr others) rest = later w xs false (rest others)

  count-cons : (x : X) (xs : List X) (answer : Bool) → test x ≡ answer → count_by test (x ∷ xs) ≡ cond answer 1 0 + count_by test xs
  count-cons x xs answer test_is = sum_by-cons (λ y. cond (test y) 1 0) x xs ∙ ap (λ b. cond b 1 0 + count_by test xs) test_is

  some_counted : (xs : List X) → 0 < count_by test xs → (k : ℕ) × TestAt xs k true
  some_counted [] less = absurd (omega (arith, less))
  some_counted (x ∷ xs) less = by (test x) refl (some_counted xs)
    where
      by : (b : Bool) → test x ≡ b → (0 < count_by test xs → (k : ℕ) × TestAt xs k true) → (k : ℕ) × TestAt (x ∷ xs) k true
      by true test_is rest = (0, record { item = x; here = refl; answers = test_is })
      by false test_is rest = let count = count-cons x xs false test_is in later x xs true (rest (omega (arith, less, count)))

  -- two elements that pass
  pub record TwoPass (xs : List X) : Type 0 where
    pub first : ℕ
    pub second : ℕ
    pub ordered : first < second
    pub one : TestAt xs first true
    pub other : TestAt xs second true

  pub two_counted : (xs : List X) → 1 < count_by test xs → TwoPass xs
  two_counted [] less = absurd (omega (arith, less))
  two_counted (x ∷ xs) less = by (test x) refl (two_counted xs)
    where
      by : (b : Bool) → test x ≡ b → (1 < count_by test xs → TwoPass xs) → TwoPass (x ∷ xs)
      by true test_is rest =
          let count = count-cons x xs true test_is in
          let (k, t) = some_counted xs (omega (arith, less, count)) in
          record { first = 0; second = suc k; ordered = omega arith; one = record { item = x; here = refl; answers = test_is }; other = record { item = t.item; here = t.here; answers = t.answers } }
      by false test_is rest =
          let count = count-cons x xs false test_is in
          let two = rest (omega (arith, less, count)) in
          record {
            first = suc two.first;
            second = suc two.second;
            ordered = omega (arith, two.ordered);
            one = record { item = two.one.item; here = two.one.here; answers = two.one.answers };
            other = record { item = two.other.item; here = two.other.here; answers = two.other.answers };
          }

  more_counted : (x : X) (xs : List X) → count_by test xs ≤ count_by test (x ∷ xs)
  more_counted x xs = let count = count-cons x xs (test x) refl in omega (arith, count)

  counted_some : (xs : List X) (k : ℕ) → TestAt xs k true → 0 < count_by test xs
  counted_some [] k t = absurd (none-some t.item t.here)
  counted_some (x ∷ xs) zero t =
      let count = count-cons x xs true (ap test (some_is x t.item t.here) ∙ t.answers) in
      omega (arith, count)
  counted_some (x ∷ xs) (suc k) t =
      let rest = counted_some xs k (record { item = t.item; here = t.here; answers = t.answers }) in
      omega (arith, rest, more_counted x xs)

  pub counted_two : (xs : List X) (j k : ℕ) → j < k → TestAt xs j true → TestAt xs k true → 1 < count_by test xs
  counted_two [] j k less s t = absurd (none-some t.item t.here)
  counted_two (x ∷ xs) j zero less s t = absurd (omega (arith, less))
  counted_two (x ∷ xs) zero (suc k) less s t =
      let count = count-cons x xs true (ap test (some_is x s.item s.here) ∙ s.answers) in
      let rest = counted_some xs k (record { item = t.item; here = t.here; answers = t.answers }) in
      omega (arith, count, rest)
  counted_two (x ∷ xs) (suc j) (suc k) less s t =
      let rest = counted_two xs j k (omega (arith, less)) (record { item = s.item; here = s.here; answers = s.answers }) (record { item = t.item; here = t.here; answers = t.answers }) in
      omega (arith, rest, more_counted x xs)
