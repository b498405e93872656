-- Readers of whole texts: where they stop is the place, and a stop at a number's limit is where it is passed.
use Rattle.std.proofs.Common.{◌≡◌, ◌↔◌, ℕ, List, [], ◌∷◌, ◌++◌, true, Option, None, Result, Ok, Err, refl, sym, ◌∙◌, ap, subst, append_assoc}
use Rattle.std.proofs.lemmas.List.{append-nil}
use Rattle.text_reading.specs.Places.{Continues, IsPlace, GoesOnWithDigit}
use Rattle.text_reading.specs.Reading.{first, Answer, Answer.answers, Reader}
use Rattle.text_reading.specs.Repeating.{is_end, finish_at}
use Rattle.text_reading.proofs.Readers.{Ends, IsReader, not_longer}
use Rattle.text_reading.proofs.Limits.{Passes, Lifted, Lifted.kept, Lifted.passed, Lifts, lifts_itself}
use Rattle.text_reading.proofs.WholeTexts.{AtEnd}

-- ---- the end of the text

pub finish_is : {K A : Type 0} (x : A) → IsReader AtEnd (finish_at {K = K} x)
finish_is {K} {A} x = record { takes = finish_takes; local = finish_local; viable = finish_viable }
  where
    finish_takes : (bytes rest : List ℕ) (out : Result A (Option K)) → finish_at x bytes ≡ answers out rest → (taken : List ℕ) × (bytes ≡ taken ++ rest)
    finish_takes [] rest out e = ([], cc)
    finish_takes (byte ∷ bytes) rest out e = ([], cc)

    finish_local : (taken rest other : List ℕ) (out : Result A (Option K)) → finish_at x (taken ++ rest) ≡ answers out rest → first rest ≡ first other → finish_at x (taken ++ other) ≡ answers out other
    finish_local [] [] [] out e same = e
    finish_local [] [] (c ∷ other) out e same = absurd cc
    finish_local [] (byte ∷ rest) [] out e same = absurd cc
    finish_local [] (byte ∷ rest) (c ∷ other) out e same = let out_is : out ≡ Err None = cc in ap (λ o. answers o (c ∷ other)) (sym out_is)
    finish_local (byte ∷ taken) rest other out e same =
        let whole : byte ∷ (taken ++ rest) ≡ rest = cc in
        let none = not_longer (byte ∷ taken) rest whole in absurd cc

    finish_viable : (taken rest : List ℕ) (out : Result A (Option K)) → finish_at x (taken ++ rest) ≡ answers out rest → Ends {K = K} AtEnd (finish_at x) taken
    finish_viable [] rest out e = ([], x, λ end at_end. rw at_end refl)
    finish_viable (byte ∷ taken) rest out e =
        let whole : byte ∷ (taken ++ rest) ≡ rest = cc in
        let none = not_longer (byte ∷ taken) rest whole in absurd cc

pub finish_lifts : {K A : Type 0} (kind : K) (x : A) → Lifts kind (finish_at x) (finish_at x)
finish_lifts {K} {A} kind x = lifts_itself kind (finish_at x) never
  where
    never : (text rest : List ℕ) (out : Result A (Option K)) → finish_at x text ≡ answers out rest → Passes kind out → ⊥
    never [] rest out e p = let out_is : out ≡ Ok x = cc in subst (Passes kind) out_is p
    never (byte ∷ text) rest out e p = let out_is : out ≡ Err None = cc in subst (Passes kind) out_is p

pub finish_test : {K A : Type 0} (x y : A) (text rest : List ℕ) → finish_at {K = K} x text ≡ answers (Ok y) rest → is_end text ≡ true
finish_test x y [] rest e = refl
finish_test x y (byte ∷ text) rest e = absurd cc

-- ---- whole texts

-- a reader of whole texts: it reads to the end, exactly what the language has
pub record IsWhole {K A : Type 0} (reader : Reader K A) (IsText : A → List ℕ → Type 0) : Type 0 where
  pub is : IsReader AtEnd reader
  pub sound : (text rest : List ℕ) (x : A) → reader text ≡ answers (Ok x) rest → IsText x text × (rest ≡ [])
  pub complete : (text : List ℕ) (x : A) → IsText x text → reader text ≡ answers (Ok x) []

module _ {K A : Type 0} (reader : Reader K A) (IsText : A → List ℕ → Type 0) (whole : IsWhole reader IsText) where
  abbrev answered : Result A (Option K) → Answer K A
  answered out = answers out []

  -- a text is the text of one tree
  pub one_tree : (text : List ℕ) (x y : A) → IsText x text → IsText y text → x ≡ y
  one_tree text x y of_x of_y =
      let same : answered (Ok x) ≡ answers (Ok y) [] = sym (whole.complete text x of_x) ∙ whole.complete text y of_y in cc

  -- A reader that stops does so at every text that has the same bytes up to that place and with the next one.
  pub goes_no_further : (front rest : List ℕ) (why : Option K) (byte : ℕ) (more : List ℕ) → reader (front ++ rest) ≡ answers (Err why) rest → rest ≡ byte ∷ more
      → Continues IsText (front ++ (byte ∷ [])) → ⊥
  goes_no_further front rest why byte more e rest_is goes_on =
      let other : List ℕ = byte ∷ goes_on.1 in
      let parts : (front ++ (byte ∷ [])) ++ goes_on.1 ≡ front ++ other = append_assoc front (byte ∷ []) goes_on.1 in
      let heads : first rest ≡ first other = ap first rest_is in
      let stop_there = whole.is.local front rest other (Err why) e heads in
      let read = whole.complete (front ++ other) goes_on.0 (subst (λ (t : List ℕ). IsText goes_on.0 t) parts goes_on.2) in
      let clash : answers (Err why) other ≡ answers (Ok goes_on.0) [] = sym stop_there ∙ read in
      cc

  -- where it stops is the place
  pub whole_place : (text rest : List ℕ) (why : Option K) → reader text ≡ answers (Err why) rest
      → (front : List ℕ) × IsPlace IsText text front rest × ((x : A) → IsText x text → ⊥)
  whole_place text rest why e =
      let taken = whole.is.takes text rest (Err why) e in
      let here : reader (taken.0 ++ rest) ≡ answers (Err why) rest = ap reader (sym taken.1) ∙ e in
      let ends = whole.is.viable taken.0 rest (Err why) here in (
        taken.0,
        record {
          parts = taken.1;
          before = (ends.1, ends.0 ++ [], (whole.sound (taken.0 ++ (ends.0 ++ [])) [] ends.1 (ends.2 [] refl)).0);
          longest = λ byte more rest_is goes_on. goes_no_further taken.0 rest why byte more here rest_is goes_on;
        },
        λ x h. let read = whole.complete text x h in let clash : answers (Err why) rest ≡ answers (Ok x) [] = sym e ∙ read in cc,
      )

-- A stop is one of this kind if and only if the next byte is a digit with which some text goes on in the language
-- where this kind of number has no limit.
pub whole_limit : {K A : Type 0} (kind : K) (reader bare : Reader K A) (IsText : A → List ℕ → Type 0) → IsWhole bare IsText → Lifts kind reader bare
    → (front rest : List ℕ) (why : Option K) → reader (front ++ rest) ≡ answers (Err why) rest → Passes {A = A} kind (Err why) ↔ GoesOnWithDigit IsText front rest
whole_limit {K} {A} kind reader bare IsText bare_whole lifts front rest why e = go (lifts front rest (Err why) e)
  where
    go : Lifted kind bare front rest (Err why) → Passes {A = A} kind (Err why) ↔ GoesOnWithDigit IsText front rest
    go (kept never same) = (
      λ p. absurd (never p),
      λ goes. absurd (goes_no_further bare IsText bare_whole front rest why goes.digit goes.more same goes.next goes.goes_on),
    )
    go (passed p digit more rest_is is_one bare_out same) =
        let parts : (front ++ (digit ∷ [])) ++ [] ≡ front ++ (digit ∷ []) = append-nil (front ++ (digit ∷ [])) in
        let ends = bare_whole.is.viable (front ++ (digit ∷ [])) [] bare_out (ap bare parts ∙ same) in (
          λ _. record {
            digit = digit;
            more = more;
            next = rest_is;
            is_digit = is_one;
            goes_on = (ends.1, ends.0 ++ [], (bare_whole.sound ((front ++ (digit ∷ [])) ++ (ends.0 ++ [])) [] ends.1 (ends.2 [] refl)).0);
          },
          λ _. p,
        )
