-- A reader reads exactly what a form says: in both directions, form by form.
use Rattle.std.proofs.Common.{◌≡◌, ◌≢◌, ℕ, zero, ◌-◌, ◌&&◌, List, [], ◌∷◌, ◌++◌, Bool, true, false, cond, eqb, Option, None, Some, Ok, refl, sym, ◌∙◌, ap, subst, inl, inr, ◌⊎◌}
use Rattle.std.proofs.lemmas.Bool.{ne_eqb}
use Rattle.text_reading.specs.Tokens.{Form, is_digit, Mark, Word, Number}
use Rattle.text_reading.specs.Reading.{Answer.answers, Reader, done, ◌>>=◌, begins, branch, scan, scan_from}
use Rattle.text_reading.specs.TokenReading.{mark_at, word_at, next_number, number_end, digits_at, number_at}
use Rattle.text_reading.proofs.Readers.{bind_read, then_next}
use Rattle.text_reading.proofs.TokenFacts.{IsWide, mark_sound, mark_complete, word_sound, word_complete}
use Rattle.text_reading.proofs.NumberFacts.{number_sound, number_complete, digits_complete}
use Rattle.text_reading.proofs.WholeTexts.{Sound, Complete}

pub record IsExact {K A : Type 0} (reader : Reader K A) (form : A → Form) : Type 0 where
  pub sound : Sound reader form
  pub complete : Complete reader form

-- the same form in other words
pub exact_as : {K A : Type 0} {reader : Reader K A} {form other : A → Form} → IsExact reader form
    → ((x : A) (text rest : List ℕ) → form x text rest → other x text rest) → ((x : A) (text rest : List ℕ) → other x text rest → form x text rest) → IsExact reader other
exact_as exact there back = record {
  sound = λ text rest x e. there x text rest (exact.sound text rest x e);
  complete = λ text rest x h. exact.complete text rest x (back x text rest h);
}

-- what readers that are joined read: one form and then the next, with its tree
abbrev pub Then : {A B : Type 0} → (A → Form) → (A → B → Form) → B → Form
Then {A} {B} form then_form y text rest = (x : A) × (between : List ℕ) × form x text between × then_form x y between rest

-- a form, and the tree that is made of its own
abbrev pub Made : {A B : Type 0} → (A → B) → (A → Form) → B → Form
Made {A} {B} make form y text rest = (x : A) × (make x ≡ y) × form x text rest

-- the first form, or the second where the byte isn't next
abbrev pub Or : {A : Type 0} → ℕ → (A → Form) → (A → Form) → A → Form
Or byte form other y text rest = form y text rest ⊎ ((begins byte text ≡ false) × other y text rest)

module _ {K A B : Type 0} {reader : Reader K A} {next : A → Reader K B} {form : A → Form} {then_form : A → B → Form} where
  -- one form and then the next
  pub exact_then : IsExact reader form → ((x : A) → IsExact (next x) (then_form x))
      → IsExact (reader >>= next) (Then form then_form)
  exact_then exact nexts = record {
    sound = λ text rest y e.
        let both = bind_read reader next text rest y e in
        (both.0, both.1, exact.sound text both.1 both.0 both.2, (nexts both.0).sound both.1 rest y both.3);
    complete = λ text rest y h.
        then_next reader next text h.1 h.0 (answers (Ok y) rest) (exact.complete text h.1 h.0 h.2) ((nexts h.0).complete h.1 rest y h.3);
  }

-- a form and its tree
pub exact_last : {K A B : Type 0} {reader : Reader K A} {form : A → Form} (make : A → B) → IsExact reader form
    → IsExact (reader >>= λ x. done (make x)) (Made make form)
exact_last {K} {A} {B} {reader} {form} make exact = record {
  sound = λ text rest y e.
      let both = bind_read reader (λ x. done (make x)) text rest y e in
      let tree = made (make both.0) y both.1 rest both.3 in
      let left = left_is (make both.0) y both.1 rest both.3 in
      (both.0, tree, subst (λ (t : List ℕ). form both.0 text t) left (exact.sound text both.1 both.0 both.2));
  complete = λ text rest y h.
      then_next reader (λ x. done (make x)) text rest h.0 (answers (Ok y) rest) (exact.complete text rest h.0 h.2) (ap (λ z. answers (Ok z) rest) h.1);
}
  where
    made : (x y : B) (text rest : List ℕ) → done {K = K} x text ≡ answers (Ok y) rest → x ≡ y
    made x y text rest e = cc

    left_is : (x y : B) (text rest : List ℕ) → done {K = K} x text ≡ answers (Ok y) rest → text ≡ rest
    left_is x y text rest e = cc

pub exact_done : {K A : Type 0} (x : A) → IsExact (done {K = K} x) (λ y text rest. (x ≡ y) × (text ≡ rest))
exact_done {K} {A} x = record {
  sound = λ text rest y e. both y text rest e;
  complete = λ text rest y h. ap (λ z. answers (Ok z) text) h.0 ∙ ap (λ (t : List ℕ). answers (Ok y) t) h.1;
}
  where
    both : (y : A) (text rest : List ℕ) → done {K = K} x text ≡ answers (Ok y) rest → (x ≡ y) × (text ≡ rest)
    both y text rest e = (cc, cc)

-- each text of the form begins so
abbrev pub Begins : {A : Type 0} → (List ℕ → Bool) → Bool → (A → Form) → Type 0
Begins {A} test answer form = (x : A) (text rest : List ℕ) → form x text rest → test text ≡ answer

-- the choice by the next byte
pub exact_branch : {K A : Type 0} (byte : ℕ) {reader other : Reader K A} {form other_form : A → Form} → IsExact reader form → IsExact other other_form
    → Begins (begins byte) true form
    → IsExact (branch byte reader other) (Or byte form other_form)
exact_branch {K} {A} byte {reader} {other} {form} {other_form} exact others begins_so = record {
  sound = λ text rest y e. sound_at text rest y (begins byte text) refl e;
  complete = λ text rest y h. complete_at text rest y h;
}
  where
    sound_at : (text rest : List ℕ) (y : A) (b : Bool) → begins byte text ≡ b → cond b (reader text) (other text) ≡ answers (Ok y) rest
        → form y text rest ⊎ ((begins byte text ≡ false) × other_form y text rest)
    sound_at text rest y true is e = inl (exact.sound text rest y e)
    sound_at text rest y false is e = inr (is, others.sound text rest y e)

    complete_at : (text rest : List ℕ) (y : A) → form y text rest ⊎ ((begins byte text ≡ false) × other_form y text rest) → branch byte reader other text ≡ answers (Ok y) rest
    complete_at text rest y (inl h) = ap (λ b. cond b (reader text) (other text)) (begins_so y text rest h) ∙ exact.complete text rest y h
    complete_at text rest y (inr h) = ap (λ b. cond b (reader text) (other text)) h.0 ∙ others.complete text rest y h.1

-- ---- tokens

pub exact_mark : {K : Type 0} (bytes : List ℕ) → IsExact (mark_at {K = K} bytes) (λ unit. Mark bytes)
exact_mark bytes = record { sound = λ text rest unit e. mark_sound bytes text rest e; complete = λ text rest unit h. mark_complete bytes text rest h }

pub exact_word : {K : Type 0} (bytes : List ℕ) → IsExact (word_at {K = K} bytes) (λ unit. Word bytes)
exact_word bytes = record { sound = λ text rest unit e. word_sound bytes text rest e; complete = λ text rest unit h. word_complete bytes text rest h }

pub exact_number : {K : Type 0} (limit : Option ℕ) (kind : K) → IsWide limit → IsExact (number_at limit true kind) (Number limit)
exact_number limit kind wide = record {
  sound = λ text rest n e. (number_sound limit true kind wide text rest n e).0;
  complete = λ text rest n h. number_complete limit true kind text rest n h (λ clash. absurd (true_is_false clash));
}
  where
    true_is_false : true ≡ false → ⊥
    true_is_false clash = cc

-- a number other than 0
pub exact_positive : {K : Type 0} (limit : Option ℕ) (kind : K) → IsWide limit → IsExact (number_at limit false kind) (λ n text rest. (n ≢ 0) × Number limit n text rest)
exact_positive limit kind wide = record {
  sound = λ text rest n e. let read = number_sound limit false kind wide text rest n e in (read.1 refl, read.0);
  complete = λ text rest n h. number_complete limit false kind text rest n h.1 (λ _. h.0);
}

-- ---- the first byte of a token

first_is : (byte other : ℕ) (text more : List ℕ) → text ≡ byte ∷ more → begins other text ≡ eqb byte other
first_is byte other text more is = ap (begins other) is

pub mark_begins : (byte other : ℕ) (bytes text rest : List ℕ) → Mark (byte ∷ bytes) text rest → begins other text ≡ eqb byte other
mark_begins byte other bytes text rest h = first_is byte other text (bytes ++ h.0) h.1

pub word_begins : (byte other : ℕ) (bytes text rest : List ℕ) → Word (byte ∷ bytes) text rest → begins other text ≡ eqb byte other
word_begins byte other bytes text rest h = first_is byte other text (bytes ++ h.0) h.1.0

-- a number begins with a digit
pub number_begins : (limit : Option ℕ) (n other : ℕ) (text rest : List ℕ) → is_digit other ≡ false → Number limit n text rest → begins other text ≡ false
unfolding digits_at
number_begins limit n other text rest differs h = go text (digits_complete limit true zero text h.0 n h.1 (λ clash. absurd (true_is_false clash)))
  where
    true_is_false : true ≡ false → ⊥
    true_is_false clash = cc

    first_digit : (byte : ℕ) (t : List ℕ) (b : Bool) → is_digit byte ≡ b
        → scan_from (next_number limit true) (number_end zero) (cond (b && true) (Some (Some (byte - 48))) None) None byte t (λ a. scan (next_number limit true) (number_end zero) a t) ≡ answers (Ok n) h.0
        → eqb byte other ≡ false
    first_digit byte t true is e = ne_eqb byte other (λ same. let clash : true ≡ false = sym is ∙ ap is_digit same ∙ differs in true_is_false clash)
    first_digit byte t false is e = absurd cc

    go : (t : List ℕ) → digits_at limit true zero t ≡ answers (Ok n) h.0 → begins other t ≡ false
    go [] e = refl
    go (byte ∷ t) e = first_digit byte t (is_digit byte) refl e
