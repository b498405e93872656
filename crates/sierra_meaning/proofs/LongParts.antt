-- How long the longest thing among the results of a libfunc is: by how it takes its arguments apart.
use Rattle.std.proofs.Common.{◌≡◌, ℕ, suc, ◌≤◌, max, Bool, true, false, if◌then◌else◌, List, [], ◌∷◌, length, Some, None, refl, ap, arith}
use Rattle.std.specs.FinMap.{len}
use Rattle.value_trees.specs.Measures.{count, longest_of}
use Rattle.value_trees.specs.Val.{Vals, Plain, WordMap, OpenMap, no_values, values, list_of, vals_of, number, struct, enum, array, boxed, squashed_dict, gas}
use Rattle.libfunc_meaning.specs.Answers.{Answer, of_none, of_one, of_two, of_three, with_number, with_gas, with_members, with_variant, with_elements, with_boxed, with_squashed}
use Rattle.sierra_meaning.specs.Facts.{greatest_of}
use Rattle.sierra_meaning.specs.Measured.{length_of}

abbrev pub PlainAnswer : Type 0
PlainAnswer = Answer WordMap OpenMap

-- the longest thing among some values
abbrev pub longest_in : List Plain → ℕ
longest_in vs = greatest_of length_of vs

abbrev pub longest_among : Vals WordMap OpenMap → ℕ
longest_among vs = longest_of (λ m. len m) (λ e. len e.map) vs

pub listed_longest : (vs : Vals WordMap OpenMap) → longest_in (list_of vs) ≡ longest_among vs
listed_longest no_values = refl
listed_longest (values v vs) = ap (max (length_of v)) (listed_longest vs)

pub vals_longest : (vs : List Plain) → longest_among (vals_of vs) ≡ longest_in vs
vals_longest [] = refl
vals_longest (v ∷ vs) = ap (max (length_of v)) (vals_longest vs)

pub listed_count : (vs : Vals WordMap OpenMap) → length (list_of vs) ≡ count vs
listed_count no_values = refl
listed_count (values v vs) = ap suc (listed_count vs)

pub vals_count : (vs : List Plain) → count (vals_of vs) ≡ length vs
vals_count [] = refl
vals_count (v ∷ vs) = ap suc (vals_count vs)

-- no result has anything longer than m
abbrev pub Within : ℕ → PlainAnswer → Type 0
Within m None = Unit {0}
Within m (Some answer) = longest_in answer.1 ≤ m

module _ (n m : ℕ) where
  pub none_within : (vs : List Plain) (answer : PlainAnswer) → Within m answer → Within m (of_none vs answer)
  none_within [] answer p = p
  none_within (v ∷ vs) answer p = tt

  pub one_within : (vs : List Plain) (answer : Plain → PlainAnswer) → longest_in vs ≤ n → ((v : Plain) → length_of v ≤ n → Within m (answer v)) → Within m (of_one vs answer)
  one_within [] answer le p = tt
  one_within (v ∷ vs) answer le p = none_within vs (answer v) (p v (omega arith))

  pub two_within : (vs : List Plain) (answer : Plain → Plain → PlainAnswer) → longest_in vs ≤ n → ((v u : Plain) → length_of v ≤ n → length_of u ≤ n → Within m (answer v u)) → Within m (of_two vs answer)
  two_within [] answer le p = tt
  two_within (v ∷ vs) answer le p = one_within vs (answer v) (omega arith) (λ u u_le. p v u (omega arith) u_le)

  pub three_within : (vs : List Plain) (answer : Plain → Plain → Plain → PlainAnswer) → longest_in vs ≤ n → ((v u w : Plain) → length_of v ≤ n → length_of u ≤ n → length_of w ≤ n → Within m (answer v u w)) → Within m (of_three vs answer)
  three_within [] answer le p = tt
  three_within (v ∷ vs) answer le p = two_within vs (answer v) (omega arith) (λ u w u_le w_le. p v u w (omega arith) u_le w_le)

  pub number_within : (v : Plain) (answer : ℕ → PlainAnswer) → ((k : ℕ) → Within m (answer k)) → Within m (with_number v answer)
  number_within (number k x) answer p = p x
  number_within _ answer p = tt

  pub gas_within : (v : Plain) (answer : ℕ → PlainAnswer) → ((k : ℕ) → Within m (answer k)) → Within m (with_gas v answer)
  gas_within (gas x) answer p = p x
  gas_within _ answer p = tt

  pub members_within : (v : Plain) (answer : List Plain → PlainAnswer) → length_of v ≤ n → ((us : List Plain) → longest_in us ≤ n → Within m (answer us)) → Within m (with_members v answer)
  members_within (struct vs) answer le p = p (list_of vs) (omega (arith, listed_longest vs))
  members_within _ answer le p = tt

  pub variant_within : (v : Plain) (answer : ℕ → Plain → PlainAnswer) → length_of v ≤ n → ((index : ℕ) (u : Plain) → length_of u ≤ n → Within m (answer index u)) → Within m (with_variant v answer)
  variant_within (enum index u) answer le p = p index u le
  variant_within _ answer le p = tt

  pub elements_within : (v : Plain) (answer : List Plain → PlainAnswer) → length_of v ≤ n → ((us : List Plain) → length us ≤ n → longest_in us ≤ n → Within m (answer us)) → Within m (with_elements v answer)
  elements_within (array vs) answer le p = p (list_of vs) (omega (arith, listed_count vs)) (omega (arith, listed_longest vs))
  elements_within _ answer le p = tt

  pub boxed_within : (v : Plain) (answer : Plain → PlainAnswer) → length_of v ≤ n → ((u : Plain) → length_of u ≤ n → Within m (answer u)) → Within m (with_boxed v answer)
  boxed_within (boxed u) answer le p = p u le
  boxed_within _ answer le p = tt

  pub squashed_within : (v : Plain) (answer : WordMap → PlainAnswer) → length_of v ≤ n → ((map : WordMap) → len map ≤ n → Within m (answer map)) → Within m (with_squashed v answer)
  squashed_within (squashed_dict map) answer le p = p map le
  squashed_within _ answer le p = tt

  pub test_within : (test : Bool) (a b : PlainAnswer) → Within m a → Within m b → Within m (if test then a else b)
  test_within true a b p q = p
  test_within false a b p q = q
