-- What a list made of another has at its places.
use Rattle.std.proofs.Common.{◌≡◌, ◌⊎◌, inl, inr, ℕ, zero, suc, ◌<◌, ◌≤◌, List, [], ◌∷◌, ◌++◌, map, length, get_or, Option, Some, None, slice_get, refl, ap, ◌∙◌, arith}
use Rattle.std.specs.List.{filter_map, cons_option, All, Contains}
use Rattle.std.proofs.lemmas.Option.{slice_get_cases, slice_get_within, get_or_from_slice_get}
use Rattle.std.proofs.lemmas.List.Elements.{All-nil, All-cons}
use Rattle.type_table.proofs.Plain.{none-some, some_is}

-- what is at a place below the length
pub at_below : {X : Type 0} (xs : List X) (i : ℕ) → i < length xs → (x : X) × (slice_get xs i ≡ Some x)
at_below {X} xs i below = by (slice_get_cases xs i).1
  where
    by : ((x : X) × (i < length xs) × (slice_get xs i ≡ Some x) × (get_or xs i x ≡ x)) ⊎ ((length xs ≤ i) × (slice_get xs i ≡ None)) → (x : X) × (slice_get xs i ≡ Some x)
    by (inl (x, inside, is, get)) = (x, is)
    by (inr (past, is)) = absurd (omega (arith, below, past))

-- a list has what is at one of its places
pub contains_at : {X : Type 0} (xs : List X) (k : ℕ) (x : X) → slice_get xs k ≡ Some x → Contains xs x
contains_at xs k x is = (k, slice_get_within xs k x is, get_or_from_slice_get xs k x x is)

pub map_at : {X Y : Type 0} (f : X → Y) (xs : List X) (i : ℕ) (y : Y) → slice_get (map f xs) i ≡ Some y → (x : X) × (slice_get xs i ≡ Some x) × (f x ≡ y)
map_at f [] i y is = absurd (none-some y is)
map_at f (x ∷ xs) zero y is = (x, refl, some_is (f x) y is)
map_at f (x ∷ xs) (suc i) y is = map_at f xs i y is

-- a place moves by at most one as a list may get one more in front
pub later : {X : Type 0} (o : Option X) (xs : List X) (k : ℕ) (x : X) → slice_get xs k ≡ Some x → (j : ℕ) × (slice_get (cons_option o xs) j ≡ Some x)
later None xs k x is = (k, is)
later (Some y) xs k x is = (suc k, is)

pub filter_map_at : {X Y : Type 0} (f : X → Option Y) (xs : List X) (k : ℕ) (x : X) (y : Y) → slice_get xs k ≡ Some x → f x ≡ Some y → (j : ℕ) × (slice_get (filter_map f xs) j ≡ Some y)
filter_map_at f [] k x y is gives = absurd (none-some x is)
filter_map_at f (w ∷ xs) zero x y is gives = (0, ap (λ o. slice_get (cons_option o (filter_map f xs)) 0) (ap f (some_is w x is) ∙ gives))
filter_map_at f (w ∷ xs) (suc k) x y is gives =
    let rest = filter_map_at f xs k x y is gives in
    later (f w) (filter_map f xs) rest.0 y rest.1

-- what holds of all that is given holds of all in the list
pub filter_map_all : {X Y : Type 0} (P : Y → Type 0) (f : X → Option Y) → ((x : X) (y : Y) → f x ≡ Some y → P y) → (xs : List X) → All P (filter_map f xs)
filter_map_all {X} {Y} P f each [] = All-nil P
filter_map_all {X} {Y} P f each (x ∷ xs) = by (f x) refl (filter_map_all P f each xs)
  where
    by : (o : Option Y) → f x ≡ o → All P (filter_map f xs) → All P (cons_option o (filter_map f xs))
    by None e rest = rest
    by (Some y) e rest = All-cons P y (filter_map f xs) (each x y e) rest

more_at_most : {X : Type 0} (o : Option X) (xs : List X) (n : ℕ) → length xs ≤ n → length (cons_option o xs) ≤ suc n
more_at_most None xs n few = omega (arith, few)
more_at_most (Some x) xs n few = omega (arith, few)

pub length_filter_map : {X Y : Type 0} (f : X → Option Y) (xs : List X) → length (filter_map f xs) ≤ length xs
length_filter_map f [] = omega arith
length_filter_map f (x ∷ xs) = more_at_most (f x) (filter_map f xs) (length xs) (length_filter_map f xs)

pub left_at : {X : Type 0} (xs ys : List X) (k : ℕ) (x : X) → slice_get xs k ≡ Some x → slice_get (xs ++ ys) k ≡ Some x
left_at [] ys k x is = absurd (none-some x is)
left_at (w ∷ xs) ys zero x is = is
left_at (w ∷ xs) ys (suc k) x is = left_at xs ys k x is

pub right_at : {X : Type 0} (xs ys : List X) (k : ℕ) (y : X) → slice_get ys k ≡ Some y → (j : ℕ) × (slice_get (xs ++ ys) j ≡ Some y)
right_at [] ys k y is = (k, is)
right_at (w ∷ xs) ys k y is = let rest = right_at xs ys k y is in (suc rest.0, rest.1)

-- what is in a list with one more at the end
pub push_at : {X : Type 0} (xs : List X) (x y : X) (k : ℕ) → slice_get (xs ++ x ∷ []) k ≡ Some y → (slice_get xs k ≡ Some y) ⊎ ((k ≡ length xs) × (x ≡ y))
push_at [] x y zero is = inr (refl, some_is x y is)
push_at [] x y (suc k) is = absurd (none-some y is)
push_at (w ∷ xs) x y zero is = inl is
push_at (w ∷ xs) x y (suc k) is = by (push_at xs x y k is)
  where
    by : (slice_get xs k ≡ Some y) ⊎ ((k ≡ length xs) × (x ≡ y)) → (slice_get (w ∷ xs) (suc k) ≡ Some y) ⊎ ((suc k ≡ length (w ∷ xs)) × (x ≡ y))
    by (inl there) = inl there
    by (inr (last, same)) = inr (ap suc last, same)

-- equal lists have equal heads and equal rests
abbrev pub behind : {X : Type 0} → List X → List X
behind [] = []
behind (x ∷ xs) = xs

pub heads : {X : Type 0} (x y : X) (xs ys : List X) → x ∷ xs ≡ y ∷ ys → x ≡ y
heads x y xs ys same = some_is x y (ap (λ l. slice_get l 0) same)
