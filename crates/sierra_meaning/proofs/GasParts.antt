-- How much gas is in the results of a libfunc: by how it takes its arguments apart.
use Rattle.std.proofs.Common.{◌≡◌, ℕ, ◌+◌, ◌≤◌, Bool, true, false, if◌then◌else◌, List, [], ◌∷◌, Some, None, refl, ap, arith}
use Rattle.std.specs.List.{sum_by}
use Rattle.std.proofs.lemmas.List.Sums.{sum_by-cons}
use Rattle.value_trees.specs.Measures.{total_weight}
use Rattle.value_trees.specs.Val.{Vals, Plain, WordMap, OpenMap, no_values, values, list_of, vals_of, number, struct, enum, array, boxed, squashed_dict, gas}
use Rattle.libfunc_meaning.specs.Answers.{of_none, of_one, of_two, of_three, with_number, with_gas, with_members, with_variant, with_elements, with_boxed, with_squashed}
use Rattle.sierra_meaning.specs.Measured.{gas_inside}
use Rattle.sierra_meaning.proofs.LongParts.{PlainAnswer}

-- the gas in some values
abbrev pub gas_in : List Plain → ℕ
gas_in [] = 0
gas_in (v ∷ vs) = gas_inside v + gas_in vs

pub gas_in_sum : (vs : List Plain) → sum_by gas_inside vs ≡ gas_in vs
gas_in_sum [] = refl
gas_in_sum (v ∷ vs) = let a = gas_in_sum vs in omega (arith, sum_by-cons gas_inside v vs)

abbrev pub gas_among : Vals WordMap OpenMap → ℕ
gas_among vs = total_weight (λ m. 0) (λ e. 0) vs

pub listed_gas : (vs : Vals WordMap OpenMap) → gas_in (list_of vs) ≡ gas_among vs
listed_gas no_values = refl
listed_gas (values v vs) = ap (λ n. gas_inside v + n) (listed_gas vs)

pub vals_gas : (vs : List Plain) → gas_among (vals_of vs) ≡ gas_in vs
vals_gas [] = refl
vals_gas (v ∷ vs) = ap (λ n. gas_inside v + n) (vals_gas vs)

-- the gas in the results, and what is taken in their branch, is at most m
abbrev pub Costs : (ℕ → ℕ) → ℕ → PlainAnswer → Type 0
Costs taken m None = Unit {0}
Costs taken m (Some answer) = gas_in answer.1 + taken answer.0 ≤ m

module _ (taken : ℕ → ℕ) (m : ℕ) where
  pub none_costs : (vs : List Plain) (answer : PlainAnswer) → (gas_in vs ≡ 0 → Costs taken m answer) → Costs taken m (of_none vs answer)
  none_costs [] answer p = p refl
  none_costs (v ∷ vs) answer p = tt

  pub one_costs : (vs : List Plain) (answer : Plain → PlainAnswer) → ((v : Plain) → gas_inside v ≤ gas_in vs → Costs taken m (answer v)) → Costs taken m (of_one vs answer)
  one_costs [] answer p = tt
  one_costs (v ∷ []) answer p = p v (omega arith)
  one_costs (v ∷ u ∷ vs) answer p = tt

  pub two_costs : (vs : List Plain) (answer : Plain → Plain → PlainAnswer) → ((v u : Plain) → gas_inside v + gas_inside u ≤ gas_in vs → Costs taken m (answer v u)) → Costs taken m (of_two vs answer)
  two_costs [] answer p = tt
  two_costs (v ∷ vs) answer p = one_costs vs (answer v) (λ u u_le. p v u (omega arith))

  pub three_costs : (vs : List Plain) (answer : Plain → Plain → Plain → PlainAnswer) → ((v u w : Plain) → gas_inside v + gas_inside u + gas_inside w ≤ gas_in vs → Costs taken m (answer v u w)) → Costs taken m (of_three vs answer)
  three_costs [] answer p = tt
  three_costs (v ∷ vs) answer p = two_costs vs (answer v) (λ u w le. p v u w (omega arith))

  pub number_costs : (v : Plain) (answer : ℕ → PlainAnswer) → ((x : ℕ) → Costs taken m (answer x)) → Costs taken m (with_number v answer)
  number_costs (number k x) answer p = p x
  number_costs _ answer p = tt

  pub gas_costs : (v : Plain) (answer : ℕ → PlainAnswer) → ((x : ℕ) → x ≡ gas_inside v → Costs taken m (answer x)) → Costs taken m (with_gas v answer)
  gas_costs (gas x) answer p = p x refl
  gas_costs _ answer p = tt

  pub members_costs : (v : Plain) (answer : List Plain → PlainAnswer) → ((us : List Plain) → gas_in us ≡ gas_inside v → Costs taken m (answer us)) → Costs taken m (with_members v answer)
  members_costs (struct vs) answer p = p (list_of vs) (listed_gas vs)
  members_costs _ answer p = tt

  pub variant_costs : (v : Plain) (answer : ℕ → Plain → PlainAnswer) → ((index : ℕ) (u : Plain) → gas_inside u ≡ gas_inside v → Costs taken m (answer index u)) → Costs taken m (with_variant v answer)
  variant_costs (enum index u) answer p = p index u refl
  variant_costs _ answer p = tt

  pub elements_costs : (v : Plain) (answer : List Plain → PlainAnswer) → ((us : List Plain) → gas_in us ≡ gas_inside v → Costs taken m (answer us)) → Costs taken m (with_elements v answer)
  elements_costs (array vs) answer p = p (list_of vs) (listed_gas vs)
  elements_costs _ answer p = tt

  pub boxed_costs : (v : Plain) (answer : Plain → PlainAnswer) → ((u : Plain) → gas_inside u ≡ gas_inside v → Costs taken m (answer u)) → Costs taken m (with_boxed v answer)
  boxed_costs (boxed u) answer p = p u refl
  boxed_costs _ answer p = tt

  pub squashed_costs : (v : Plain) (answer : WordMap → PlainAnswer) → ((map : WordMap) → Costs taken m (answer map)) → Costs taken m (with_squashed v answer)
  squashed_costs (squashed_dict map) answer p = p map
  squashed_costs _ answer p = tt

  pub test_costs : (test : Bool) (a b : PlainAnswer) → (test ≡ true → Costs taken m a) → (test ≡ false → Costs taken m b) → Costs taken m (if test then a else b)
  test_costs true a b p q = p refl
  test_costs false a b p q = q refl
