-- Lists as the code reads them, one item after another.
use Rattle.std.proofs.Common.{◌≡◌, ℕ, List, [], ◌∷◌, ◌++◌, length, ◌<◌, true, false, Option, Ok, Err, refl, ◌∙◌, ap}
use Rattle.text_reading.specs.Reading.{Answer, Answer.answers, done, go_on, ◌>>=◌, begins}
use Rattle.text_reading.specs.TokenReading.{mark_at}
use Rattle.text_reading.specs.Repeating.{choice}
use Rattle.text_reading.proofs.WholeTexts.{Moves}
use Rattle.text_reading.proofs.Repeats.{chosen, repeat_step}
use Rattle.sierra_text.specs.LabelReading.{Sierra}
use Rattle.sierra_text.specs.Reading.{close_at, one_more_at, behind_items_at}

module _ {A : Type 0} (separator : Sierra (Unit {0})) (close : ℕ) (item : Sierra A) (moves : (xs : List A) → Moves (one_more_at separator close item xs)) where
  abbrev behind : List A → Sierra (List A)
  behind = behind_items_at separator close item

  -- what separates items, and an item
  abbrev pub next_item : Sierra A
  next_item = separator >>= λ _. item

  behind_step : (xs : List A) (text : List ℕ) → behind xs text ≡ choice (begins close) (close_at separator close item xs) (one_more_at separator close item xs >>= behind) text
  unfolding behind_items_at
  behind_step xs text = repeat_step (begins close) (close_at separator close item) (one_more_at separator close item) moves xs text

  more_of : (xs : List A) (text : List ℕ) → one_more_at separator close item xs text ≡ (next_item >>= λ x. done (xs ++ x ∷ [])) text
  more_of xs text = go (separator text)
    where
      go : (answer : Answer (Unit {0}) (Unit {0})) → go_on answer (λ _. item >>= λ x. done (xs ++ x ∷ [])) ≡ go_on (go_on answer (λ _. item)) (λ x. done (xs ++ x ∷ []))
      go (answers (Ok unit) rest) = refl
      go (answers (Err why) rest) = refl

  pub list_ends : (xs : List A) (text : List ℕ) → begins close text ≡ true → behind xs text ≡ (mark_at (close ∷ []) >>= λ _. done xs) text
  list_ends xs text is = behind_step xs text ∙ chosen (begins close) (close_at separator close item xs) (one_more_at separator close item xs >>= behind) text true is

  into : (xs : List A) (text : List ℕ) → begins close text ≡ false → behind xs text ≡ go_on ((next_item >>= λ x. done (xs ++ x ∷ [])) text) behind
  into xs text is =
      behind_step xs text ∙ chosen (begins close) (close_at separator close item xs) (one_more_at separator close item xs >>= behind) text false is
      ∙ ap (λ a. go_on a behind) (more_of xs text)

  pub list_more : (xs : List A) (text rest : List ℕ) (x : A) → begins close text ≡ false → next_item text ≡ answers (Ok x) rest → behind xs text ≡ behind (xs ++ x ∷ []) rest
  list_more xs text rest x is read = into xs text is ∙ ap (λ a. go_on (go_on a (λ y. done (xs ++ y ∷ []))) behind) read

  pub list_stops : (xs : List A) (text rest : List ℕ) (why : Option (Unit {0})) → begins close text ≡ false → next_item text ≡ answers (Err why) rest → behind xs text ≡ answers (Err why) rest
  list_stops xs text rest why is read = into xs text is ∙ ap (λ a. go_on (go_on a (λ y. done (xs ++ y ∷ []))) behind) read

  pub list_moves : (xs : List A) (text rest : List ℕ) (x : A) → next_item text ≡ answers (Ok x) rest → length rest < length text
  list_moves xs text rest x read =
      moves xs text rest (xs ++ x ∷ []) (more_of xs text ∙ ap (λ a. go_on a (λ y. done (xs ++ y ∷ []))) read)
