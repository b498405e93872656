-- What `filter_map` gives of the head of a list.
use Rattle.std.proofs.Common.{◌≡◌, ℕ, zero, suc, ◌+◌, List, [], ◌∷◌, take, length, if◌then◌else◌, Option, Some, None, slice_get, refl, ap, ◌∙◌, arith}
use Rattle.std.specs.List.{filter_map, cons_option}
use Rattle.std.specs.Option.{is_some}
use Rattle.type_table.proofs.Plain.{none-some, some_is, cons-nil}

module _ {X Y : Type 0} (f : X → Option Y) where
  nothing : (o : Option Y) (ys : List Y) → cons_option o ys ≡ [] → (o ≡ None) × (ys ≡ [])
  nothing None ys is = (refl, is)
  nothing (Some y) ys is = absurd (cons-nil y ys is)

  -- where nothing comes before, what one element gives is the first
  pub first_given : (xs : List X) (i : ℕ) (x : X) (y : Y) → slice_get xs i ≡ Some x → filter_map f (take i xs) ≡ [] → f x ≡ Some y → (more : List Y) × (filter_map f xs ≡ y ∷ more)
  first_given [] i x y here none gives = absurd (none-some x here)
  first_given (w ∷ xs) zero x y here none gives = (filter_map f xs, ap (λ o. cons_option o (filter_map f xs)) (ap f (some_is w x here) ∙ gives))
  first_given (w ∷ xs) (suc i) x y here none gives =
      let no = nothing (f w) (filter_map f (take i xs)) none in
      let rest = first_given xs i x y here no.1 gives in
      (rest.0, ap (λ o. cons_option o (filter_map f xs)) no.0 ∙ rest.1)

  pub none_given : (xs : List X) (i : ℕ) (x : X) → slice_get xs i ≡ Some x → filter_map f (take i xs) ≡ [] → f x ≡ None → filter_map f (take (i + 1) xs) ≡ []
  none_given [] i x here none gives = absurd (none-some x here)
  none_given (w ∷ xs) zero x here none gives = ap (λ o. cons_option o []) (ap f (some_is w x here) ∙ gives)
  none_given (w ∷ xs) (suc i) x here none gives =
      let no = nothing (f w) (filter_map f (take i xs)) none in
      let more : suc i + 1 ≡ suc (i + 1) = omega arith in
      ap (λ n. filter_map f (take n (w ∷ xs))) more ∙ ap (λ o. cons_option o (filter_map f (take (i + 1) xs))) no.0 ∙ none_given xs i x here no.1 gives

  one_given : (o : Option Y) → length (cons_option o []) ≡ (if is_some o then 1 else 0)
  one_given None = refl
  one_given (Some y) = refl

  more_given : (o : Option Y) (ys : List Y) → length (cons_option o ys) ≡ length (cons_option o []) + length ys
  more_given None ys = omega arith
  more_given (Some y) ys = omega arith

  -- how many more one element gives
  pub count_given : (xs : List X) (i : ℕ) (x : X) → slice_get xs i ≡ Some x → length (filter_map f (take (i + 1) xs)) ≡ length (filter_map f (take i xs)) + (if is_some (f x) then 1 else 0)
  count_given [] i x here = absurd (none-some x here)
  count_given (w ∷ xs) zero x here = ap (λ v. length (cons_option (f v) [])) (some_is w x here) ∙ one_given (f x) ∙ omega arith
  count_given (w ∷ xs) (suc i) x here =
      let next : suc i + 1 ≡ suc (i + 1) = omega arith in
      ap (λ n. length (filter_map f (take n (w ∷ xs)))) next
      ∙ more_given (f w) (filter_map f (take (i + 1) xs))
      ∙ omega (arith, count_given xs i x here, more_given (f w) (filter_map f (take i xs)))
