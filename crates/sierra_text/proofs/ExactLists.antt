-- Lists in Sierra text are read exactly.
use Rattle.std.proofs.Common.{◌≡◌, ℕ, List, [], ◌∷◌, ◌++◌, false, eqb, refl, sym, ◌∙◌, ap, subst, append_assoc, inl, inr, ◌⊎◌}
use Rattle.std.specs.Prelude.{codes}
use Rattle.std.proofs.lemmas.Bool.{eq-eqb}
use Rattle.std.proofs.lemmas.List.{append-nil}
use Rattle.text_reading.specs.Tokens.{Form, Mark}
use Rattle.text_reading.specs.Reading.{begins}
use Rattle.text_reading.proofs.WholeTexts.{Moves}
use Rattle.text_reading.proofs.Exact.{IsExact, exact_as, exact_then, exact_last, exact_branch, exact_mark, mark_begins, Begins}
use Rattle.text_reading.proofs.Repeats.{Turns, Turns.ended, Turns.turned, repeat_exact}
use Rattle.sierra_text.specs.Text.{BehindItem, OneOrMore, AnyNumber, InParentheses}
use Rattle.sierra_text.specs.LabelReading.{Sierra}
use Rattle.sierra_text.specs.Reading.{close_at, one_more_at, behind_items_at, one_or_more_at, any_number_at, comma_at, in_parentheses_at}

module _ {A : Type 0} (separator_form : Form) (close : ℕ) (item_form : A → Form) where
  abbrev EndForm : List A → List A → Form
  EndForm xs ys text rest = (unit : Unit {0}) × (xs ≡ ys) × Mark (close ∷ []) text rest

  abbrev TurnForm : List A → List A → Form
  TurnForm xs ys text rest = (unit : Unit {0}) × (between : List ℕ) × separator_form text between × ((x : A) × (xs ++ x ∷ [] ≡ ys) × item_form x between rest)

  abbrev pub BehindSome : List A → List A → Form
  BehindSome xs ys text rest = (more : List A) × (xs ++ more ≡ ys) × BehindItem separator_form (Mark (close ∷ [])) item_form more text rest

  from_turns : (xs ys : List A) (text rest : List ℕ) → Turns TurnForm EndForm xs ys text rest → BehindSome xs ys text rest
  from_turns xs ys text rest (ended _ _ _ _ h) = ([], append-nil xs ∙ h.1, h.2)
  from_turns xs ys text rest (turned _ after _ _ between _ h more) =
      let others = from_turns after ys between rest more in (
        h.3.0 ∷ others.0,
        sym (append_assoc xs (h.3.0 ∷ []) others.0) ∙ ap (λ (l : List A). l ++ others.0) h.3.1 ∙ others.1,
        (h.1, h.2, (between, h.3.2, others.2)),
      )

  to_turns : (more xs : List A) (text rest : List ℕ) → BehindItem separator_form (Mark (close ∷ [])) item_form more text rest → Turns TurnForm EndForm xs (xs ++ more) text rest
  to_turns [] xs text rest h = ended xs (xs ++ []) text rest (tt, sym (append-nil xs), h)
  to_turns (x ∷ more) xs text rest h =
      turned xs (xs ++ x ∷ []) (xs ++ (x ∷ more)) text h.2.0 rest (tt, h.0, h.1, (x, refl, h.2.1))
      (subst (λ (l : List A). Turns TurnForm EndForm (xs ++ x ∷ []) l h.2.0 rest) (append_assoc xs (x ∷ []) more) (to_turns more (xs ++ x ∷ []) h.2.0 rest h.2.2))

module _ {A : Type 0} (separator : Sierra (Unit {0})) (separator_form : Form) (separates : IsExact separator (λ unit. separator_form)) (close : ℕ) (item : Sierra A) (item_form : A → Form)
    (items : IsExact item item_form) (moves : (xs : List A) → Moves (one_more_at separator close item xs))
    (turns_so : (xs : List A) → Begins (begins close) false (TurnForm separator_form close item_form xs)) where
  pub behind_items_exact : (xs : List A) → IsExact (behind_items_at separator close item xs) (BehindSome separator_form close item_form xs)
  unfolding behind_items_at
  behind_items_exact xs =
      exact_as
      (repeat_exact (begins close) (close_at separator close item) (one_more_at separator close item) (EndForm separator_form close item_form) (TurnForm separator_form close item_form)
      (λ ys. exact_last (λ _. ys) (exact_mark (close ∷ []))) (λ ys. exact_then separates (λ _. exact_last (λ x. ys ++ x ∷ []) items)) moves
      (λ ys zs text rest h. mark_begins close close [] text rest h.2 ∙ eq-eqb close close refl) turns_so xs)
      (λ ys text rest h. from_turns separator_form close item_form xs ys text rest h)
      (λ ys text rest h. subst (λ (l : List A). Turns (TurnForm separator_form close item_form) (EndForm separator_form close item_form) xs l text rest) h.1 (to_turns separator_form close item_form h.0 xs text rest h.2))

  pub one_or_more_exact : IsExact (one_or_more_at separator close item) (OneOrMore separator_form (Mark (close ∷ [])) item_form)
  unfolding one_or_more_at
  one_or_more_exact =
      exact_as (exact_then items (λ x. behind_items_exact (x ∷ [])))
      (λ ys text rest h. subst (λ (l : List A). OneOrMore separator_form (Mark (close ∷ [])) item_form l text rest) h.3.1 (h.1, h.2, h.3.2))
      back
    where
      back : (ys : List A) (text rest : List ℕ) → OneOrMore separator_form (Mark (close ∷ [])) item_form ys text rest
          → (x : A) × (between : List ℕ) × item_form x text between × BehindSome separator_form close item_form (x ∷ []) ys between rest
      back [] text rest h = absurd h
      back (y ∷ ys) text rest h = (y, h.0, h.1, (ys, refl, h.2))

  pub any_number_exact : Begins (begins close) false item_form → IsExact (any_number_at separator close item) (AnyNumber separator_form (Mark (close ∷ [])) item_form)
  unfolding any_number_at
  any_number_exact begins_not =
      exact_as
      (exact_branch close (exact_last (λ _. []) (exact_mark (close ∷ []))) one_or_more_exact
      (λ ys text rest h. mark_begins close close [] text rest h.2 ∙ eq-eqb close close refl))
      there back
    where
      there_more : (ys : List A) (text rest : List ℕ) → OneOrMore separator_form (Mark (close ∷ [])) item_form ys text rest → AnyNumber separator_form (Mark (close ∷ [])) item_form ys text rest
      there_more [] text rest h = absurd h
      there_more (y ∷ ys) text rest h = h

      there : (ys : List A) (text rest : List ℕ)
          → ((unit : Unit {0}) × ([] ≡ ys) × Mark (close ∷ []) text rest) ⊎ ((begins close text ≡ false) × OneOrMore separator_form (Mark (close ∷ [])) item_form ys text rest)
          → AnyNumber separator_form (Mark (close ∷ [])) item_form ys text rest
      there ys text rest (inl h) = subst (λ (l : List A). AnyNumber separator_form (Mark (close ∷ [])) item_form l text rest) h.1 h.2
      there ys text rest (inr h) = there_more ys text rest h.1

      back : (ys : List A) (text rest : List ℕ) → AnyNumber separator_form (Mark (close ∷ [])) item_form ys text rest
          → ((unit : Unit {0}) × ([] ≡ ys) × Mark (close ∷ []) text rest) ⊎ ((begins close text ≡ false) × OneOrMore separator_form (Mark (close ∷ [])) item_form ys text rest)
      back [] text rest h = inl (tt, refl, h)
      back (y ∷ ys) text rest h = inr (begins_not y text h.0 h.1, h)

pub comma_exact : IsExact comma_at (λ unit. Mark (codes ","))
unfolding comma_at
comma_exact = exact_mark (codes ",")

-- a comma ends no list
pub comma_begins : {A : Type 0} (close : ℕ) → eqb 44 close ≡ false → (item_form : A → Form) (xs : List A) → Begins (begins close) false (TurnForm (Mark (codes ",")) close item_form xs)
comma_begins close differs item_form xs ys text rest h = mark_begins 44 close [] text h.1 h.2 ∙ differs

pub in_parentheses_exact : {A : Type 0} (item : Sierra A) (item_form : A → Form) → IsExact item item_form → ((xs : List A) → Moves (one_more_at comma_at 41 item xs)) → Begins (begins 41) false item_form
    → IsExact (in_parentheses_at item) (InParentheses item_form)
unfolding in_parentheses_at
in_parentheses_exact item item_form items moves begins_not =
    exact_as
    (exact_then (exact_mark (codes "(")) (λ _. any_number_exact comma_at (Mark (codes ",")) comma_exact 41 item item_form items moves (comma_begins 41 refl item_form) begins_not))
    (λ xs text rest h. (h.1, h.2, h.3))
    (λ xs text rest h. (tt, h.0, h.1, h.2))
