-- Choices by what is next and turns until an end: the properties of their readers, and what they read.
use Rattle.std.proofs.Common.{◌≡◌, ℕ, zero, suc, ◌+◌, ◌<◌, ◌≤◌, List, [], ◌∷◌, ◌++◌, length, Bool, true, false, cond, Option, Result, Ok, Err, refl, sym, ◌∙◌, ap, arith, inl, inr, ◌⊎◌}
use Rattle.std.proofs.lemmas.List.{length-append}
use Rattle.text_reading.specs.Tokens.{Form}
use Rattle.text_reading.specs.Reading.{first, Answer, Answer.answers, Reader, go_on, ◌>>=◌, begins}
use Rattle.text_reading.specs.Repeating.{begins_with, is_end, choice, repeat_within, repeat_at}
use Rattle.text_reading.proofs.Readers.{Ends, Starts, IsReader, bind_is, bind_read, then_next, first-append, begins-first}
use Rattle.text_reading.proofs.Limits.{Lifted, Lifted.kept, Lifted.passed, Lifts, bind_lifts}
use Rattle.text_reading.proofs.BlankFacts.{Fresh}
use Rattle.text_reading.proofs.WholeTexts.{Moves}
use Rattle.text_reading.proofs.Languages.{Limited}
use Rattle.text_reading.proofs.Exact.{IsExact, Begins}

-- ---- tests of what is next

-- a test that depends on the next byte alone
abbrev pub LooksAhead : (List ℕ → Bool) → Type 0
LooksAhead test = (rest other : List ℕ) → first rest ≡ first other → test rest ≡ test other

pub begins_with-looks : (kind : ℕ → Bool) → LooksAhead (begins_with kind)
begins_with-looks kind [] [] same = refl
begins_with-looks kind [] (c ∷ other) same = absurd cc
begins_with-looks kind (b ∷ rest) [] same = absurd cc
begins_with-looks kind (b ∷ rest) (c ∷ other) same = let one : b ≡ c = cc in ap kind one

pub begins-looks : (byte : ℕ) → LooksAhead (begins byte)
begins-looks byte rest other same = begins-first byte rest other same

pub is_end-looks : LooksAhead is_end
is_end-looks [] [] same = refl
is_end-looks [] (c ∷ other) same = absurd cc
is_end-looks (b ∷ rest) [] same = absurd cc
is_end-looks (b ∷ rest) (c ∷ other) same = refl

-- bytes that the reader reads, where the test holds, and before which blanks may end
abbrev pub OpensBy : {K A : Type 0} → (List ℕ → Bool) → (List ℕ → Type 0) → Reader K A → Type 0
OpensBy {K} {A} test follow reader =
    (text : List ℕ) × (x : A) × ((rest : List ℕ) → follow rest → (test (text ++ rest) ≡ true) × Fresh (text ++ rest) × (reader (text ++ rest) ≡ answers (Ok x) rest))

-- ---- choices

pub chosen : {K A : Type 0} (test : List ℕ → Bool) (reader other : Reader K A) (text : List ℕ) (b : Bool) → test text ≡ b → choice test reader other text ≡ cond b (reader text) (other text)
chosen test reader other text b is = ap (λ c. cond c (reader text) (other text)) is

same_test : (test : List ℕ → Bool) → LooksAhead test → (taken rest more : List ℕ) → first rest ≡ first more → test (taken ++ rest) ≡ test (taken ++ more)
same_test test looks taken rest more same = looks (taken ++ rest) (taken ++ more) (first-append taken rest more same)

module _ {K A : Type 0} (test : List ℕ → Bool) (looks : LooksAhead test) where
  module _ {follow : List ℕ → Type 0} (reader other : Reader K A) (opens : OpensBy test follow reader) (is : IsReader follow reader) (other_is : IsReader follow other) where
    choice_takes : (bytes rest : List ℕ) (out : Result A (Option K)) → choice test reader other bytes ≡ answers out rest → (taken : List ℕ) × (bytes ≡ taken ++ rest)
    choice_takes bytes rest out e = go (test bytes) e
      where
        go : (b : Bool) → cond b (reader bytes) (other bytes) ≡ answers out rest → (taken : List ℕ) × (bytes ≡ taken ++ rest)
        go true e = is.takes bytes rest out e
        go false e = other_is.takes bytes rest out e

    choice_local : (taken rest more : List ℕ) (out : Result A (Option K)) → choice test reader other (taken ++ rest) ≡ answers out rest → first rest ≡ first more
        → choice test reader other (taken ++ more) ≡ answers out more
    choice_local taken rest more out e same =
        ap (λ b. cond b (reader (taken ++ more)) (other (taken ++ more))) (sym (same_test test looks taken rest more same)) ∙ go (test (taken ++ rest)) e
      where
        go : (b : Bool) → cond b (reader (taken ++ rest)) (other (taken ++ rest)) ≡ answers out rest → cond b (reader (taken ++ more)) (other (taken ++ more)) ≡ answers out more
        go true e = is.local taken rest more out e same
        go false e = other_is.local taken rest more out e same

    opened : (end : List ℕ) → follow end → choice test reader other (opens.0 ++ end) ≡ answers (Ok opens.1) end
    opened end fits = let open_ = opens.2 end fits in chosen test reader other (opens.0 ++ end) true open_.0 ∙ open_.2

    choice_viable : (taken rest : List ℕ) (out : Result A (Option K)) → choice test reader other (taken ++ rest) ≡ answers out rest → Ends follow (choice test reader other) taken
    choice_viable [] rest out e = (opens.0, opens.1, λ end fits. opened end fits)
    choice_viable (c ∷ taken) rest out e = go (test (c ∷ (taken ++ rest))) refl e
      where
        alike : (other_rest : List ℕ) → test (c ∷ (taken ++ other_rest)) ≡ test (c ∷ (taken ++ rest))
        alike other_rest = looks (c ∷ (taken ++ other_rest)) (c ∷ (taken ++ rest)) refl

        go : (b : Bool) → test (c ∷ (taken ++ rest)) ≡ b → cond b (reader (c ∷ (taken ++ rest))) (other (c ∷ (taken ++ rest))) ≡ answers out rest → Ends follow (choice test reader other) (c ∷ taken)
        go true was e =
            let ends = is.viable (c ∷ taken) rest out e in
            (ends.0, ends.1, λ end fits. chosen test reader other (c ∷ (taken ++ (ends.0 ++ end))) true (alike (ends.0 ++ end) ∙ was) ∙ ends.2 end fits)
        go false was e =
            let ends = other_is.viable (c ∷ taken) rest out e in
            (ends.0, ends.1, λ end fits. chosen test reader other (c ∷ (taken ++ (ends.0 ++ end))) false (alike (ends.0 ++ end) ∙ was) ∙ ends.2 end fits)

    pub choice_is : IsReader follow (choice test reader other)
    choice_is = record { takes = choice_takes; local = choice_local; viable = choice_viable }

    pub choice_starts : Starts Fresh follow (choice test reader other)
    choice_starts = (opens.0, opens.1, λ end fits. let open_ = opens.2 end fits in (open_.1, opened end fits))

  pub choice_lifts : (kind : K) (reader bare other other_bare : Reader K A) → Lifts kind reader bare → Lifts kind other other_bare
      → Lifts kind (choice test reader other) (choice test bare other_bare)
  choice_lifts kind reader bare other other_bare lifts other_lifts taken rest out e = go (test (taken ++ rest)) refl e
    where
      lifted : (b : Bool) → test (taken ++ rest) ≡ b → Lifted kind (λ text. cond b (bare text) (other_bare text)) taken rest out → Lifted kind (choice test bare other_bare) taken rest out
      lifted b is (kept never same) = kept never (chosen test bare other_bare (taken ++ rest) b is ∙ same)
      lifted b is (passed p digit more rest_is is_one bare_out same) =
          let heads : first (digit ∷ []) ≡ first rest = ap first (sym rest_is) in
          let here = same_test test looks taken (digit ∷ []) rest heads in
          passed p digit more rest_is is_one bare_out (chosen test bare other_bare (taken ++ (digit ∷ [])) b (here ∙ is) ∙ same)

      go : (b : Bool) → test (taken ++ rest) ≡ b → cond b (reader (taken ++ rest)) (other (taken ++ rest)) ≡ answers out rest → Lifted kind (choice test bare other_bare) taken rest out
      go true is e = lifted true is (lifts taken rest out e)
      go false is e = lifted false is (other_lifts taken rest out e)

-- the choice, with and without limits
pub limited_choice : {K A : Type 0} (test : List ℕ → Bool) → LooksAhead test → (kind : K) {reader bare other other_bare : Reader K A}
    → OpensBy test Fresh reader → OpensBy test Fresh bare → Limited kind reader bare → Limited kind other other_bare
    → Limited kind (choice test reader other) (choice test bare other_bare)
limited_choice test looks kind {reader} {bare} {other} {other_bare} opens bare_opens form others = record {
  reads = record {
    is = choice_is test looks reader other opens form.reads.is others.reads.is;
    starts = choice_starts test looks reader other opens form.reads.is others.reads.is;
  };
  bare_reads = record {
    is = choice_is test looks bare other_bare bare_opens form.bare_reads.is others.bare_reads.is;
    starts = choice_starts test looks bare other_bare bare_opens form.bare_reads.is others.bare_reads.is;
  };
  lifts = choice_lifts test looks kind reader bare other other_bare form.lifts others.lifts;
}

-- the choice reads one form where the test holds, and the other where it doesn't
pub exact_choice : {K A : Type 0} (test : List ℕ → Bool) {reader other : Reader K A} {form other_form : A → Form} → IsExact reader form → IsExact other other_form
    → IsExact (choice test reader other) (λ x text rest. ((test text ≡ true) × form x text rest) ⊎ ((test text ≡ false) × other_form x text rest))
exact_choice {K} {A} test {reader} {other} {form} {other_form} exact others = record {
  sound = λ text rest x e. sound_at text rest x (test text) refl e;
  complete = λ text rest x h. complete_at text rest x h;
}
  where
    sound_at : (text rest : List ℕ) (x : A) (b : Bool) → test text ≡ b → cond b (reader text) (other text) ≡ answers (Ok x) rest
        → ((test text ≡ true) × form x text rest) ⊎ ((test text ≡ false) × other_form x text rest)
    sound_at text rest x true is e = inl (is, exact.sound text rest x e)
    sound_at text rest x false is e = inr (is, others.sound text rest x e)

    complete_at : (text rest : List ℕ) (x : A) → ((test text ≡ true) × form x text rest) ⊎ ((test text ≡ false) × other_form x text rest)
        → choice test reader other text ≡ answers (Ok x) rest
    complete_at text rest x (inl h) = ap (λ b. cond b (reader text) (other text)) h.0 ∙ exact.complete text rest x h.1
    complete_at text rest x (inr h) = ap (λ b. cond b (reader text) (other text)) h.0 ∙ others.complete text rest x h.1

pub moves_choice : {K A : Type 0} (test : List ℕ → Bool) (reader other : Reader K A) → Moves reader → Moves other → Moves (choice test reader other)
moves_choice {K} {A} test reader other moves others text rest x e = go (test text) e
  where
    go : (b : Bool) → cond b (reader text) (other text) ≡ answers (Ok x) rest → length rest < length text
    go true e = moves text rest x e
    go false e = others text rest x e

-- ---- turns

module _ {K S A : Type 0} (test : List ℕ → Bool) (looks : LooksAhead test) {follow : List ℕ → Type 0} (end : S → Reader K A) (turn : S → Reader K S)
    (opens : (state : S) → OpensBy test follow (end state)) (end_is : (state : S) → IsReader follow (end state)) (turn_is : (state : S) → IsReader Fresh (turn state)) where
  abbrev within : ℕ → S → Reader K A
  within = repeat_within test end turn

  pub within_starts : (most : ℕ) (state : S) → Starts Fresh follow (within most state)
  unfolding repeat_within
  within_starts zero state = let open_ = opens state in (open_.0, open_.1, λ rest fits. let both = open_.2 rest fits in (both.1, both.2))
  within_starts (suc most) state =
      let open_ = opens state in (
        open_.0,
        open_.1,
        λ rest fits. let both = open_.2 rest fits in
            (both.1, ap (λ b. cond b (end state (open_.0 ++ rest)) ((turn state >>= λ after. within most after) (open_.0 ++ rest))) both.0 ∙ both.2),
      )

  pub within_is : (most : ℕ) (state : S) → IsReader follow (within most state)
  unfolding repeat_within
  within_is zero state = end_is state
  within_is (suc most) state =
      choice_is test looks (end state) (turn state >>= λ after. within most after) (opens state) (end_is state)
      (bind_is (turn state) (λ after. within most after) (turn_is state) (λ after. within_is most after) (λ after. within_starts most after))

  pub within_reads : (most : ℕ) (state : S) → IsReader follow (within most state) × Starts Fresh follow (within most state)
  within_reads most state = (within_is most state, within_starts most state)

-- how many turns are allowed makes no difference, where there are enough
module _ {K S A : Type 0} (test : List ℕ → Bool) (end : S → Reader K A) (turn : S → Reader K S) (moves : (state : S) → Moves (turn state)) where
  pub within_any : (most other : ℕ) (state : S) (text : List ℕ) → length text < most → length text < other → repeat_within test end turn most state text ≡ repeat_within test end turn other state text
  unfolding repeat_within
  within_any zero other state text short shorter = absurd (omega arith)
  within_any (suc most) zero state text short shorter = absurd (omega arith)
  within_any (suc most) (suc other) state text short shorter =
      ap (λ answer. cond (test text) (end state text) answer) (go (turn state text) refl (within_any most other))
    where
      go : (answer : Answer K S) → turn state text ≡ answer
          → ((s : S) (t : List ℕ) → length t < most → length t < other → repeat_within test end turn most s t ≡ repeat_within test end turn other s t)
          → go_on answer (λ after. repeat_within test end turn most after) ≡ go_on answer (λ after. repeat_within test end turn other after)
      go (answers (Err why) rest) was more = refl
      go (answers (Ok after) rest) was more =
          let less = moves state text rest after was in
          more after rest (omega arith) (omega arith)

  -- a turn and then the others, or the end
  pub repeat_step : (state : S) (text : List ℕ) → repeat_at test end turn state text ≡ choice test (end state) (turn state >>= repeat_at test end turn) text
  unfolding repeat_within repeat_at
  repeat_step state text = ap (λ answer. cond (test text) (end state text) answer) (go (turn state text) refl)
    where
      go : (answer : Answer K S) → turn state text ≡ answer
          → go_on answer (λ after. repeat_within test end turn (length text) after) ≡ go_on answer (repeat_at test end turn)
      go (answers (Err why) rest) was = refl
      go (answers (Ok after) rest) was =
          let less = moves state text rest after was in
          within_any (length text) (suc (length rest)) after rest (omega arith) (omega arith)

  pub repeat_any : (state : S) (text : List ℕ) (most : ℕ) → length text < most → repeat_at test end turn state text ≡ repeat_within test end turn most state text
  unfolding repeat_at
  repeat_any state text most short = within_any (suc (length text)) most state text (omega arith) (omega arith)

-- ---- what turns read

-- turns, each by its form, and then the end
pub data Turns {S A : Type 0} (turn : S → S → Form) (end : S → A → Form) : S → A → List ℕ → List ℕ → Type 0 where
  ended : (state : S) (x : A) (text rest : List ℕ) → end state x text rest → Turns turn end state x text rest
  turned : (state after : S) (x : A) (text between rest : List ℕ) → turn state after text between → Turns turn end after x between rest → Turns turn end state x text rest

module _ {K S A : Type 0} (test : List ℕ → Bool) (end : S → Reader K A) (turn : S → Reader K S) (end_form : S → A → Form) (turn_form : S → S → Form)
    (ends : (state : S) → IsExact (end state) (end_form state)) (turns : (state : S) → IsExact (turn state) (turn_form state)) where
  within_sound : (most : ℕ) (state : S) (text rest : List ℕ) (x : A) → repeat_within test end turn most state text ≡ answers (Ok x) rest → Turns turn_form end_form state x text rest
  unfolding repeat_within
  within_sound zero state text rest x e = ended state x text rest ((ends state).sound text rest x e)
  within_sound (suc most) state text rest x e = go (test text) (within_sound most) e
    where
      go : (b : Bool) → ((s : S) (t r : List ℕ) (y : A) → repeat_within test end turn most s t ≡ answers (Ok y) r → Turns turn_form end_form s y t r)
          → cond b (end state text) ((turn state >>= λ after. repeat_within test end turn most after) text) ≡ answers (Ok x) rest → Turns turn_form end_form state x text rest
      go true more e = ended state x text rest ((ends state).sound text rest x e)
      go false more e =
          let both = bind_read (turn state) (λ after. repeat_within test end turn most after) text rest x e in
          turned state both.0 x text both.1 rest ((turns state).sound text both.1 both.0 both.2) (more both.0 both.1 rest x both.3)

  pub repeat_exact : (moves : (state : S) → Moves (turn state)) → ((state : S) → Begins test true (end_form state)) → ((state : S) → Begins test false (turn_form state))
      → (state : S) → IsExact (repeat_at test end turn state) (Turns turn_form end_form state)
  unfolding repeat_at
  repeat_exact moves ends_so turns_so state = record {
    sound = λ text rest x e. within_sound (suc (length text)) state text rest x e;
    complete = λ text rest x h. complete_at state x text rest h;
  }
    where
      complete_at : (s : S) (x : A) (text rest : List ℕ) → Turns turn_form end_form s x text rest → repeat_at test end turn s text ≡ answers (Ok x) rest
      complete_at s x text rest (ended _ _ _ _ form) =
          repeat_step test end turn moves s text
          ∙ ap (λ b. cond b (end s text) ((turn s >>= repeat_at test end turn) text)) (ends_so s x text rest form)
          ∙ (ends s).complete text rest x form
      complete_at s x text rest (turned _ after _ _ between _ form more) =
          repeat_step test end turn moves s text
          ∙ ap (λ b. cond b (end s text) ((turn s >>= repeat_at test end turn) text)) (turns_so s after text between form)
          ∙ then_next (turn s) (repeat_at test end turn) text between after (answers (Ok x) rest) ((turns s).complete text between after form) (complete_at after x between rest more)

-- ---- turns, with and without limits

module _ {K S A : Type 0} (test : List ℕ → Bool) (looks : LooksAhead test) {follow : List ℕ → Type 0} (kind : K)
    (end end_bare : S → Reader K A) (turn turn_bare : S → Reader K S)
    (opens : (state : S) → OpensBy test follow (end state)) (opens_bare : (state : S) → OpensBy test follow (end_bare state))
    (end_is : (state : S) → IsReader follow (end state)) (end_bare_is : (state : S) → IsReader follow (end_bare state)) (end_lifts : (state : S) → Lifts kind (end state) (end_bare state))
    (turns : (state : S) → Limited kind (turn state) (turn_bare state)) where
  pub within_lifts : (most : ℕ) (state : S) → Lifts kind (repeat_within test end turn most state) (repeat_within test end_bare turn_bare most state)
  unfolding repeat_within
  within_lifts zero state = end_lifts state
  within_lifts (suc most) state =
      choice_lifts test looks kind (end state) (end_bare state) (turn state >>= λ after. repeat_within test end turn most after) (turn_bare state >>= λ after. repeat_within test end_bare turn_bare most after)
      (end_lifts state)
      (bind_lifts kind (turn state) (turn_bare state) (λ after. repeat_within test end turn most after) (λ after. repeat_within test end_bare turn_bare most after)
      (turns state).reads.is (λ after. within_is test looks end turn opens end_is (λ s. (turns s).reads.is) most after)
      (turns state).bare_reads.is (λ after. within_is test looks end_bare turn_bare opens_bare end_bare_is (λ s. (turns s).bare_reads.is) most after)
      (turns state).lifts (λ after. within_lifts most after))

-- ---- turns without a bound

module _ {K S A : Type 0} (test : List ℕ → Bool) (end : S → Reader K A) (turn : S → Reader K S)
    (end_test : (state : S) (text rest : List ℕ) (x : A) → end state text ≡ answers (Ok x) rest → test text ≡ true) where
  -- with more turns allowed the same is read
  pub within_more : (most other : ℕ) → most ≤ other → (state : S) (text rest : List ℕ) (x : A) → repeat_within test end turn most state text ≡ answers (Ok x) rest
      → repeat_within test end turn other state text ≡ answers (Ok x) rest
  unfolding repeat_within
  within_more zero zero more state text rest x e = e
  within_more zero (suc other) more state text rest x e =
      ap (λ b. cond b (end state text) ((turn state >>= λ after. repeat_within test end turn other after) text)) (end_test state text rest x e) ∙ e
  within_more (suc most) zero more state text rest x e = absurd (omega arith)
  within_more (suc most) (suc other) more state text rest x e = go (test text) refl e (within_more most other (omega arith))
    where
      go : (b : Bool) → test text ≡ b → cond b (end state text) ((turn state >>= λ after. repeat_within test end turn most after) text) ≡ answers (Ok x) rest
          → ((s : S) (t r : List ℕ) (y : A) → repeat_within test end turn most s t ≡ answers (Ok y) r → repeat_within test end turn other s t ≡ answers (Ok y) r)
          → choice test (end state) (turn state >>= λ after. repeat_within test end turn other after) text ≡ answers (Ok x) rest
      go true was e others = chosen test (end state) (turn state >>= λ after. repeat_within test end turn other after) text true was ∙ e
      go false was e others =
          let both = bind_read (turn state) (λ after. repeat_within test end turn most after) text rest x e in
          chosen test (end state) (turn state >>= λ after. repeat_within test end turn other after) text false was
          ∙ then_next (turn state) (λ after. repeat_within test end turn other after) text both.1 both.0 (answers (Ok x) rest) both.2 (others both.0 both.1 rest x both.3)

  module _ (looks : LooksAhead test) {follow : List ℕ → Type 0} (opens : (state : S) → OpensBy test follow (end state))
      (end_is : (state : S) → IsReader follow (end state)) (turn_is : (state : S) → IsReader Fresh (turn state)) (moves : (state : S) → Moves (turn state)) where
    abbrev all : S → Reader K A
    all = repeat_at test end turn

    abbrev bound : ℕ → S → Reader K A
    bound = repeat_within test end turn

    some_more : (most : ℕ) (state : S) (text rest : List ℕ) (x : A) → bound most state text ≡ answers (Ok x) rest → all state text ≡ answers (Ok x) rest
    some_more most state text rest x e =
        let enough = most + suc (length text) in
        repeat_any test end turn moves state text enough (omega arith) ∙ within_more most enough (omega arith) state text rest x e

    pub repeat_is : (state : S) → IsReader follow (all state)
    repeat_is state = record {
      takes = λ bytes rest out e.
          (within_is test looks end turn opens end_is turn_is (suc (length bytes)) state).takes bytes rest out (sym (repeat_any test end turn moves state bytes (suc (length bytes)) (omega arith)) ∙ e);
      local = λ taken rest other out e same.
          let enough = suc (length (taken ++ rest) + length (taken ++ other)) in
          repeat_any test end turn moves state (taken ++ other) enough (omega arith)
          ∙ (within_is test looks end turn opens end_is turn_is enough state).local taken rest other out (sym (repeat_any test end turn moves state (taken ++ rest) enough (omega arith)) ∙ e) same;
      viable = λ taken rest out e.
          let enough = suc (length (taken ++ rest)) in
          let ends = (within_is test looks end turn opens end_is turn_is enough state).viable taken rest out (sym (repeat_any test end turn moves state (taken ++ rest) enough (omega arith)) ∙ e) in
          (ends.0, ends.1, λ after fits. some_more enough state (taken ++ (ends.0 ++ after)) after ends.1 (ends.2 after fits));
    }

    pub repeat_starts : (state : S) → Starts Fresh follow (all state)
    repeat_starts state =
        let starts = within_starts test looks end turn opens end_is turn_is 0 state in
        (starts.0, starts.1, λ rest fits. let both = starts.2 rest fits in (both.0, some_more 0 state (starts.0 ++ rest) rest starts.1 both.1))

module _ {K S A : Type 0} (test : List ℕ → Bool) (looks : LooksAhead test) {follow : List ℕ → Type 0} (kind : K)
    (end end_bare : S → Reader K A) (turn turn_bare : S → Reader K S)
    (opens : (state : S) → OpensBy test follow (end state)) (opens_bare : (state : S) → OpensBy test follow (end_bare state))
    (end_is : (state : S) → IsReader follow (end state)) (end_bare_is : (state : S) → IsReader follow (end_bare state)) (end_lifts : (state : S) → Lifts kind (end state) (end_bare state))
    (turns : (state : S) → Limited kind (turn state) (turn_bare state)) (moves : (state : S) → Moves (turn state)) (bare_moves : (state : S) → Moves (turn_bare state)) where
  pub repeat_lifts : (state : S) → Lifts kind (repeat_at test end turn state) (repeat_at test end_bare turn_bare state)
  repeat_lifts state taken rest out e =
      go (within_lifts test looks kind end end_bare turn turn_bare opens opens_bare end_is end_bare_is end_lifts turns enough state taken rest out
      (sym (repeat_any test end turn moves state (taken ++ rest) enough (omega arith)) ∙ e))
    where
      enough : ℕ
      enough = suc (length (taken ++ rest))

      go : Lifted kind (repeat_within test end_bare turn_bare enough state) taken rest out → Lifted kind (repeat_at test end_bare turn_bare state) taken rest out
      go (kept never same) = kept never (repeat_any test end_bare turn_bare bare_moves state (taken ++ rest) enough (omega arith) ∙ same)
      go (passed p digit more rest_is is_one bare_out same) =
          let short : length (taken ++ (digit ∷ [])) < enough = omega (arith, ap length rest_is, length-append taken rest, length-append taken (digit ∷ [])) in
          passed p digit more rest_is is_one bare_out (repeat_any test end_bare turn_bare bare_moves state (taken ++ (digit ∷ [])) enough short ∙ same)
