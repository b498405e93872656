-- What a libfunc answers, and values taken apart. Values of other kinds than a libfunc takes have no answer.
use Rattle.std.specs.Prelude.{ℕ, List, [], ◌∷◌, Option, Some, None}
use Rattle.value_trees.specs.Parts.{number_of, gas_of, members_of, variant_of, elements_of, boxed_of, squashed_of}
use Rattle.value_trees.specs.Val.{Val, WordMap}

-- the branch that is taken, and its results
abbrev pub Answer : (D E : Type 0) → Type 0
Answer D E = Option (ℕ × List (Val D E))

module _ {D E : Type 0} where
  abbrev pub branch : ℕ → List (Val D E) → Answer D E
  branch k outs = Some (k, outs)

  -- the one branch of a libfunc that has no other
  abbrev pub gives : List (Val D E) → Answer D E
  gives outs = branch 0 outs

  -- so many arguments
  abbrev pub of_none : List (Val D E) → Answer D E → Answer D E
  of_none [] answer = answer
  of_none (v ∷ vs) answer = None

  abbrev pub of_one : List (Val D E) → (Val D E → Answer D E) → Answer D E
  of_one [] answer = None
  of_one (v ∷ vs) answer = of_none vs (answer v)

  abbrev pub of_two : List (Val D E) → (Val D E → Val D E → Answer D E) → Answer D E
  of_two [] answer = None
  of_two (v ∷ vs) answer = of_one vs (answer v)

  abbrev pub of_three : List (Val D E) → (Val D E → Val D E → Val D E → Answer D E) → Answer D E
  of_three [] answer = None
  of_three (v ∷ vs) answer = of_two vs (answer v)

  -- the part of a value, where it has that part
  abbrev pub with_part : {X : Type 0} → Option X → (X → Answer D E) → Answer D E
  with_part None answer = None
  with_part (Some x) answer = answer x

  abbrev pub with_number : Val D E → (ℕ → Answer D E) → Answer D E
  with_number v answer = with_part (number_of v) answer

  abbrev pub with_gas : Val D E → (ℕ → Answer D E) → Answer D E
  with_gas v answer = with_part (gas_of v) answer

  abbrev pub with_members : Val D E → (List (Val D E) → Answer D E) → Answer D E
  with_members v answer = with_part (members_of v) answer

  abbrev pub with_variant : Val D E → (ℕ → Val D E → Answer D E) → Answer D E
  with_variant v answer = with_part (variant_of v) (λ p. answer p.0 p.1)

  abbrev pub with_elements : Val D E → (List (Val D E) → Answer D E) → Answer D E
  with_elements v answer = with_part (elements_of v) answer

  abbrev pub with_boxed : Val D E → (Val D E → Answer D E) → Answer D E
  with_boxed v answer = with_part (boxed_of v) answer

  abbrev pub with_squashed : Val D E → (WordMap → Answer D E) → Answer D E
  with_squashed v answer = with_part (squashed_of v) answer
