-- Marks, words and numbers: the four properties of their readers, and that they read what their forms say.
use Rattle.text_reading.specs.declared.tokens.Spot.{Spot}
use Rattle.text_reading.specs.declared.tokens.Spot.TheVariants as spots
use Rattle.std.proofs.Common.{◌≡◌, ℕ, ◌≤◌, List, [], ◌∷◌, ◌++◌, Bool, true, false, cond, not, ◌||◌, ◌&&◌, eqb, Option, None, Some, Result, Ok, Err, refl, ◌∙◌, ap, subst, append_assoc}
use Rattle.std.proofs.lemmas.Bool.{and_left, and_right, eqb-true, eq-eqb}
use Rattle.text_reading.specs.Tokens.{is_digit, is_word_byte, is_within, NoneNext, Blanks, Mark, WholeWord, Word}
use Rattle.text_reading.specs.Reading.{Answer, Answer.answers, Reader, done, ◌>>=◌, scan, scan_from, go_on}
use Rattle.text_reading.specs.TokenReading.{token, next_spot, blanks_end, blanks_at, next_literal, literal_end, literal_at, mark_at, word_end, word_end_at, whole_word_at, word_at, longer, next_number, number_end, digits_at, number_at}
use Rattle.text_reading.proofs.Readers.{Ends, Starts, Opens, IsReader, scan_is, bind_is, bind_read, done_is, then_next}
use Rattle.text_reading.proofs.Limits.{Passes, Lifts, lifts_itself, lifts_done, bind_lifts, scan_never}
use Rattle.text_reading.proofs.BlankFacts.{Fresh, blanks_is, blanks_none, blanks_line, blanks_sound, blanks_complete, then_blanks_is, token_is, token_reads}

abbrev unit_answer : (K : Type 0) → Result (Unit {0}) (Option K) → List ℕ → Answer K (Unit {0})
unit_answer K out rest = answers out rest

abbrev pub Anything : List ℕ → Type 0
Anything rest = Unit {0}

-- ---- a form and its blanks

-- what the reader of a token read
pub token_sound : {K A : Type 0} (reader : Reader K A) (text rest : List ℕ) (x : A) → token reader text ≡ answers (Ok x) rest
    → (between : List ℕ) × (reader text ≡ answers (Ok x) between) × Blanks between rest
token_sound {K} {A} reader text rest x e = go (reader text) refl e
  where
    then_blanks : A → Reader K A
    then_blanks y = blanks_at >>= λ _. done y

    read_blanks : (answer : Answer K (Unit {0})) (y : A) → go_on answer (λ _. done y) ≡ answers (Ok x) rest → (answer ≡ answers (Ok tt) rest) × (y ≡ x)
    read_blanks (answers (Ok unit) left) y e =
        let left_is : left ≡ rest = cc in
        let y_is : y ≡ x = cc in
        (ap (answers (Ok unit)) left_is, y_is)
    read_blanks (answers (Err why) left) y e = absurd cc

    go : (answer : Answer K A) → reader text ≡ answer → go_on answer then_blanks ≡ answers (Ok x) rest
        → (between : List ℕ) × (reader text ≡ answers (Ok x) between) × Blanks between rest
    go (answers (Err why) left) was e = absurd cc
    go (answers (Ok y) left) was e =
        let both = read_blanks (blanks_at left) y e in
        (left, was ∙ ap (λ z. answers (Ok z) left) both.1, blanks_sound left rest both.0)

pub token_complete : {K A : Type 0} (reader : Reader K A) (text between rest : List ℕ) (x : A) → reader text ≡ answers (Ok x) between → Blanks between rest
    → token reader text ≡ answers (Ok x) rest
token_complete {K} reader text between rest x read blanks = token_reads reader text between rest x read (blanks_complete {K = K} between rest blanks)

-- ---- limits change a token as they change what is read

pub blanks_lift : {K : Type 0} (kind : K) → Lifts kind (blanks_at {K = K}) blanks_at
unfolding blanks_at
blanks_lift kind = lifts_itself kind blanks_at (λ text rest out e p. scan_never kind next_spot blanks_end never text spots.Outside rest out e p)
  where
    never : (spot : Spot) (byte : Option ℕ) → Passes kind (blanks_end spot byte) → ⊥
    never spots.Outside byte p = p
    never spots.AfterSlash byte p = p
    never spots.InComment byte p = p

pub token_lifts : {K A : Type 0} {behind : List ℕ → Type 0} (kind : K) (reader bare : Reader K A) → IsReader behind reader → IsReader behind bare
    → ((rest : List ℕ) → behind (10 ∷ rest)) → Lifts kind reader bare → Lifts kind (token reader) (token bare)
token_lifts {K} {A} {behind} kind reader bare is bare_is line lifts =
    let blanks_behind : A → Reader K A = λ x. blanks_at >>= λ _. done x in
    bind_lifts kind reader bare blanks_behind blanks_behind is (then_blanks_is reader is line) bare_is (then_blanks_is reader is line) lifts
    (λ x. bind_lifts kind blanks_at blanks_at (λ _. done x) (λ _. done x) blanks_is (λ _. done_is Fresh x) blanks_is (λ _. done_is Fresh x) (blanks_lift kind) (λ _. lifts_done kind x))

-- ---- marks

abbrev pub literal_from : {K : Type 0} → List ℕ → Reader K (Unit {0})
literal_from = scan next_literal literal_end

pub literal_end_here : {K : Type 0} (rest : List ℕ) → literal_from {K = K} [] rest ≡ answers (Ok tt) rest
literal_end_here [] = refl
literal_end_here (byte ∷ rest) = refl

literal_reads : {K : Type 0} (bytes rest : List ℕ) → literal_from {K = K} bytes (bytes ++ rest) ≡ answers (Ok tt) rest
literal_reads [] rest = literal_end_here rest
literal_reads (byte ∷ bytes) rest = rw (eq-eqb byte byte refl) (literal_reads bytes rest)

literal_sound : {K : Type 0} (bytes text rest : List ℕ) → literal_from {K = K} bytes text ≡ answers (Ok tt) rest → text ≡ bytes ++ rest
literal_sound [] [] rest e = cc
literal_sound [] (byte ∷ text) rest e = cc
literal_sound (wanted ∷ bytes) [] rest e = absurd cc
literal_sound {K} (wanted ∷ bytes) (byte ∷ text) rest e = go (eqb byte wanted) refl (literal_sound bytes text rest) e
  where
    go : (b : Bool) → eqb byte wanted ≡ b → (literal_from {K = K} bytes text ≡ answers (Ok tt) rest → text ≡ bytes ++ rest)
        → scan_from {K = K} next_literal literal_end (cond b (Some bytes) None) (wanted ∷ bytes) byte text (λ a. literal_from a text) ≡ answers (Ok tt) rest
        → byte ∷ text ≡ wanted ∷ (bytes ++ rest)
    go true is more e = let one = eqb-true byte wanted is in let others = more e in cc
    go false is more e = absurd cc

pub literal_is : {K : Type 0} (bytes : List ℕ) → IsReader Anything (literal_at {K = K} bytes)
unfolding literal_at
literal_is bytes = scan_is next_literal literal_end (λ more. (more, tt, λ rest any. literal_reads more rest)) bytes

pub mark_is : {K : Type 0} (bytes : List ℕ) → IsReader Fresh (mark_at {K = K} bytes)
unfolding mark_at
mark_is bytes = token_is (literal_at bytes) (literal_is bytes) (λ rest. tt)

pub mark_opens : {K : Type 0} (byte : ℕ) (bytes : List ℕ) → Opens byte Fresh (mark_at {K = K} (byte ∷ bytes))
unfolding mark_at literal_at
mark_opens {K} byte bytes = (bytes, tt, λ rest fresh. token_reads (literal_at (byte ∷ bytes)) (byte ∷ (bytes ++ rest)) rest rest tt (literal_reads (byte ∷ bytes) rest) (blanks_none {K = K} rest fresh))

pub mark_sound : {K : Type 0} (bytes text rest : List ℕ) → mark_at {K = K} bytes text ≡ answers (Ok tt) rest → Mark bytes text rest
unfolding mark_at literal_at
mark_sound bytes text rest e =
    let parts = token_sound (literal_at bytes) text rest tt e in
    (parts.0, literal_sound bytes text parts.0 parts.1, parts.2)

pub mark_complete : {K : Type 0} (bytes text rest : List ℕ) → Mark bytes text rest → mark_at {K = K} bytes text ≡ answers (Ok tt) rest
unfolding mark_at literal_at
mark_complete bytes text rest form =
    token_complete (literal_at bytes) text form.0 rest tt (ap (literal_from bytes) form.1 ∙ literal_reads bytes form.0) form.2

never_literal : {K : Type 0} (kind : K) (state : List ℕ) (byte : Option ℕ) → Passes kind (literal_end state byte) → ⊥
never_literal kind [] byte p = p
never_literal kind (wanted ∷ more) byte p = p

pub mark_lifts : {K : Type 0} (kind : K) (bytes : List ℕ) → Lifts kind (mark_at bytes) (mark_at bytes)
unfolding mark_at literal_at
mark_lifts kind bytes =
    token_lifts kind (literal_at bytes) (literal_at bytes) (literal_is bytes) (literal_is bytes) (λ rest. tt)
    (lifts_itself kind (literal_at bytes) (λ text rest out e p. scan_never kind next_literal literal_end (never_literal kind) text bytes rest out e p))

-- ---- words

abbrev WordEnd : List ℕ → Type 0
WordEnd = NoneNext is_word_byte

word_ends : {K : Type 0} (rest : List ℕ) → WordEnd rest → word_end_at {K = K} rest ≡ answers (Ok tt) rest
unfolding word_end_at
word_ends [] ends = refl
word_ends (byte ∷ rest) ends = rw ends refl

word_end_is : {K : Type 0} → IsReader WordEnd (word_end_at {K = K})
unfolding word_end_at
word_end_is = scan_is (λ unit byte. None) (λ unit byte. word_end byte) (λ unit. ([], tt, word_ends)) tt

word_end_sound : {K : Type 0} (text rest : List ℕ) → word_end_at {K = K} text ≡ answers (Ok tt) rest → (text ≡ rest) × WordEnd rest
unfolding word_end_at
word_end_sound [] rest e = let none : [] ≡ rest = cc in (none, subst WordEnd none tt)
word_end_sound {K} (byte ∷ text) rest e = go (is_word_byte byte) refl e
  where
    go : (b : Bool) → is_word_byte byte ≡ b → unit_answer K (cond b (Err None) (Ok tt)) (byte ∷ text) ≡ unit_answer K (Ok tt) rest → (byte ∷ text ≡ rest) × WordEnd rest
    go true is e = absurd cc
    go false is e = let whole : byte ∷ text ≡ rest = cc in (whole, subst WordEnd whole is)

word_end_starts : {K : Type 0} → Starts Anything WordEnd (word_end_at {K = K})
word_end_starts = ([], tt, λ rest ends. (tt, word_ends rest ends))

whole_word_is : {K : Type 0} (bytes : List ℕ) → IsReader WordEnd (whole_word_at {K = K} bytes)
whole_word_is bytes = bind_is (literal_at bytes) (λ _. word_end_at) (literal_is bytes) (λ _. word_end_is) (λ _. word_end_starts)

whole_word_reads : {K : Type 0} (bytes rest : List ℕ) → WordEnd rest → whole_word_at {K = K} bytes (bytes ++ rest) ≡ answers (Ok tt) rest
unfolding literal_at
whole_word_reads {K} bytes rest ends =
    then_next (literal_at {K = K} bytes) (λ _. word_end_at) (bytes ++ rest) rest tt (answers (Ok tt) rest) (literal_reads bytes rest) (word_ends rest ends)

whole_word_sound : {K : Type 0} (bytes text rest : List ℕ) → whole_word_at {K = K} bytes text ≡ answers (Ok tt) rest → WholeWord bytes text rest
unfolding literal_at
whole_word_sound {K} bytes text rest e =
    let parts = bind_read (literal_at {K = K} bytes) (λ _. word_end_at) text rest tt e in
    let end = word_end_sound parts.1 rest parts.3 in
    (literal_sound {K = K} bytes text parts.1 parts.2 ∙ ap (λ (t : List ℕ). bytes ++ t) end.0, end.1)

whole_word_lifts : {K : Type 0} (kind : K) (bytes : List ℕ) → Lifts kind (whole_word_at bytes) (whole_word_at bytes)
unfolding literal_at word_end_at
whole_word_lifts {K} kind bytes =
    bind_lifts kind (literal_at bytes) (literal_at bytes) (λ _. word_end_at) (λ _. word_end_at) (literal_is bytes) (λ _. word_end_is) (literal_is bytes) (λ _. word_end_is)
    (lifts_itself kind (literal_at bytes) (λ text rest out e p. scan_never kind next_literal literal_end (never_literal kind) text bytes rest out e p))
    (λ _. lifts_itself kind word_end_at (λ text rest out e p. scan_never kind (λ unit byte. None) (λ unit byte. word_end byte) (λ unit byte p. never byte p) text tt rest out e p))
  where
    here : (b : Bool) → Passes {A = Unit {0}} kind (cond b (Err None) (Ok tt)) → ⊥
    here true p = p
    here false p = p

    never : (byte : Option ℕ) → Passes kind (word_end byte) → ⊥
    never None p = p
    never (Some byte) p = here (is_word_byte byte) p

pub word_is : {K : Type 0} (bytes : List ℕ) → IsReader Fresh (word_at {K = K} bytes)
unfolding word_at
word_is bytes = token_is (whole_word_at bytes) (whole_word_is bytes) (λ rest. refl)

pub word_lifts : {K : Type 0} (kind : K) (bytes : List ℕ) → Lifts kind (word_at bytes) (word_at bytes)
unfolding word_at
word_lifts kind bytes = token_lifts kind (whole_word_at bytes) (whole_word_at bytes) (whole_word_is bytes) (whole_word_is bytes) (λ rest. refl) (whole_word_lifts kind bytes)

pub word_opens : {K : Type 0} (byte : ℕ) (bytes : List ℕ) → Opens byte Fresh (word_at {K = K} (byte ∷ bytes))
unfolding word_at
word_opens {K} byte bytes = (
  bytes ++ (10 ∷ []),
  tt,
  λ rest fresh.
      let whole : byte ∷ ((bytes ++ (10 ∷ [])) ++ rest) ≡ (byte ∷ bytes) ++ (10 ∷ rest) = ap (λ (t : List ℕ). byte ∷ t) (append_assoc bytes (10 ∷ []) rest) in
      ap (token (whole_word_at (byte ∷ bytes))) whole
      ∙ token_reads (whole_word_at (byte ∷ bytes)) ((byte ∷ bytes) ++ (10 ∷ rest)) (10 ∷ rest) rest tt (whole_word_reads (byte ∷ bytes) (10 ∷ rest) refl) (blanks_line {K = K} rest fresh),
)

pub word_sound : {K : Type 0} (bytes text rest : List ℕ) → word_at {K = K} bytes text ≡ answers (Ok tt) rest → Word bytes text rest
unfolding word_at
word_sound {K} bytes text rest e =
    let parts = token_sound (whole_word_at {K = K} bytes) text rest tt e in
    (parts.0, whole_word_sound {K = K} bytes text parts.0 parts.1, parts.2)

pub word_complete : {K : Type 0} (bytes text rest : List ℕ) → Word bytes text rest → word_at {K = K} bytes text ≡ answers (Ok tt) rest
unfolding word_at
word_complete {K} bytes text rest form =
    token_complete (whole_word_at bytes) text form.0 rest tt (ap (whole_word_at bytes) form.1.0 ∙ whole_word_reads {K = K} bytes form.0 form.1.1) form.2

-- ---- numbers

-- A limit of fewer than ten would be passed by a first digit.
abbrev pub IsWide : Option ℕ → Type 0
IsWide None = Unit {0}
IsWide (Some limit) = 10 ≤ limit

module _ {K : Type 0} (limit : Option ℕ) (zero_too : Bool) (kind : K) where
  abbrev pub number_from : Option ℕ → Reader K ℕ
  number_from = scan (next_number limit zero_too) (number_end kind)

  -- the digits end before what is no digit
  pub number_ends : (n : ℕ) (rest : List ℕ) → NoneNext is_digit rest → number_from (Some n) rest ≡ answers (Ok n) rest
  number_ends n [] ends = refl
  number_ends n (byte ∷ rest) ends =
      let none : (not (eqb n 0) && (is_digit byte && is_within limit (longer n byte))) ≡ false =
      and_right (not (eqb n 0)) (is_digit byte && is_within limit (longer n byte)) (and_left (is_digit byte) (is_within limit (longer n byte)) ends) in
      rw (none, ends) refl

  pub one_reads : (rest : List ℕ) → NoneNext is_digit rest → number_from None (49 ∷ rest) ≡ answers (Ok 1) rest
  one_reads rest ends = rw (or_true zero_too) (number_ends 1 rest ends)
    where
      or_true : (b : Bool) → (b || true) ≡ true
      or_true true = refl
      or_true false = refl

  number_state_ends : (state : Option ℕ) → Ends (NoneNext is_digit) (number_from state) []
  number_state_ends None = (49 ∷ [], 1, one_reads)
  number_state_ends (Some n) = ([], n, number_ends n)

  pub digits_is : IsReader (NoneNext is_digit) (digits_at limit zero_too kind)
  unfolding digits_at
  digits_is = scan_is (next_number limit zero_too) (number_end kind) number_state_ends None

  pub number_is : IsReader Fresh (number_at limit zero_too kind)
  unfolding number_at
  number_is = token_is (digits_at limit zero_too kind) digits_is (λ rest. refl)

  pub number_starts : Starts Fresh Fresh (number_at limit zero_too kind)
  unfolding number_at digits_at
  number_starts = (
    49 ∷ 10 ∷ [],
    1,
    λ rest fresh. (
      refl,
      token_reads (digits_at limit zero_too kind) (49 ∷ 10 ∷ rest) (10 ∷ rest) rest 1 (one_reads (10 ∷ rest) refl) (blanks_line {K = K} rest fresh),
    ),
  )
