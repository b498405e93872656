-- Whole texts: the items of a text are read exactly, and where reading stops is the place.
use Rattle.std.proofs.Common.{◌≡◌, ◌↔◌, ℕ, zero, suc, ◌+◌, ◌<◌, ◌≤◌, List, [], ◌∷◌, ◌++◌, length, Option, Result, Ok, Err, refl, sym, ◌∙◌, ap, subst, append_assoc, arith}
use Rattle.std.proofs.lemmas.List.{append-nil, length-append}
use Rattle.text_reading.specs.Tokens.{Form}
use Rattle.text_reading.specs.Places.{Items, TextOf, Continues, IsPlace, GoesOnWithDigit}
use Rattle.text_reading.specs.Reading.{first, Answer, Answer.answers, Reader, done, go_on, ◌>>=◌, unless_end, items_within, items_at}
use Rattle.text_reading.specs.TokenReading.{blanks_at, text_at}
use Rattle.text_reading.proofs.Readers.{Ends, Starts, IsReader, bind_is, done_is, done_starts, bind_read, then_next, then_stops}
use Rattle.text_reading.proofs.Limits.{Passes, Lifted, Lifted.kept, Lifted.passed, Lifts, lifts_done, bind_lifts}
use Rattle.text_reading.proofs.BlankFacts.{Fresh, blanks_is, blanks_sound, blanks_complete}
use Rattle.text_reading.proofs.TokenFacts.{blanks_lift}

abbrev pub AtEnd : List ℕ → Type 0
AtEnd rest = rest ≡ []

-- what is read is of the form
abbrev pub Sound : {K A : Type 0} → Reader K A → (A → Form) → Type 0
Sound {K} {A} reader form = (text rest : List ℕ) (x : A) → reader text ≡ answers (Ok x) rest → form x text rest

-- what is of the form is read
abbrev pub Complete : {K A : Type 0} → Reader K A → (A → Form) → Type 0
Complete {K} {A} reader form = (text rest : List ℕ) (x : A) → form x text rest → reader text ≡ answers (Ok x) rest

-- it takes a byte at least
abbrev pub Moves : {K A : Type 0} → Reader K A → Type 0
Moves {K} {A} reader = (text rest : List ℕ) (x : A) → reader text ≡ answers (Ok x) rest → length rest < length text

module _ {K A : Type 0} (item : Reader K A) (is : IsReader Fresh item) where
  abbrev more_items : ℕ → A → Reader K (List A)
  more_items most x = items_within item most >>= λ items. done (x ∷ items)

  items_none : (most : ℕ) → items_within item most [] ≡ answers (Ok []) []
  unfolding items_within
  items_none zero = refl
  items_none (suc most) = refl

  more_starts : (most : ℕ) (x : A) → Starts Fresh AtEnd (more_items most x)
  more_starts most x = (
    [],
    x ∷ [],
    λ rest end.
        (rw end tt, rw end (then_next (items_within item most) (λ items. done (x ∷ items)) [] [] [] (answers (Ok (x ∷ [])) []) (items_none most) refl)),
  )

  end_is : (reader : Reader K (List A)) → IsReader AtEnd reader → IsReader AtEnd (unless_end [] reader)
  end_is reader reader_is = record { takes = end_takes; local = end_local; viable = end_viable }
    where
      end_takes : (bytes rest : List ℕ) (out : Result (List A) (Option K)) → unless_end [] reader bytes ≡ answers out rest → (taken : List ℕ) × (bytes ≡ taken ++ rest)
      end_takes [] rest out e = ([], cc)
      end_takes (byte ∷ bytes) rest out e = reader_is.takes (byte ∷ bytes) rest out e

      end_local : (taken rest other : List ℕ) (out : Result (List A) (Option K)) → unless_end [] reader (taken ++ rest) ≡ answers out rest → first rest ≡ first other
          → unless_end [] reader (taken ++ other) ≡ answers out other
      end_local [] [] [] out e same = e
      end_local [] [] (c ∷ other) out e same = absurd cc
      end_local [] (byte ∷ rest) [] out e same = absurd cc
      end_local [] (byte ∷ rest) (c ∷ other) out e same = reader_is.local [] (byte ∷ rest) (c ∷ other) out e same
      end_local (byte ∷ taken) rest other out e same = reader_is.local (byte ∷ taken) rest other out e same

      end_viable : (taken rest : List ℕ) (out : Result (List A) (Option K)) → unless_end [] reader (taken ++ rest) ≡ answers out rest → Ends AtEnd (unless_end [] reader) taken
      end_viable [] rest out e = ([], [], λ end at_end. rw at_end refl)
      end_viable (byte ∷ taken) rest out e = reader_is.viable (byte ∷ taken) rest out e

  pub within_is : (most : ℕ) → IsReader AtEnd (items_within item most)
  unfolding items_within
  within_is zero = done_is AtEnd []
  within_is (suc most) =
      end_is (item >>= more_items most)
      (bind_is item (more_items most) is
      (λ x. bind_is (items_within item most) (λ items. done (x ∷ items)) (within_is most) (λ items. done_is AtEnd (x ∷ items)) (λ items. done_starts AtEnd (x ∷ items)))
      (more_starts most))

  abbrev text_within : ℕ → Reader K (List A)
  text_within most = blanks_at >>= λ _. items_within item most

  items_start : (most : ℕ) → Starts Fresh AtEnd (items_within item most)
  items_start most = ([], [], λ rest end. (rw end tt, rw end (items_none most)))

  pub text_is : (most : ℕ) → IsReader AtEnd (text_within most)
  text_is most = bind_is blanks_at (λ _. items_within item most) blanks_is (λ _. within_is most) (λ _. items_start most)

-- ---- how many items are read doesn't depend on the bound

module _ {K A : Type 0} (item : Reader K A) (moves : Moves item) where
  pub within_any : (most other : ℕ) (text : List ℕ) → length text ≤ most → length text ≤ other → items_within item most text ≡ items_within item other text
  unfolding items_within
  within_any zero zero text short shorter = refl
  within_any zero (suc other) [] short shorter = refl
  within_any zero (suc other) (byte ∷ text) short shorter = absurd (omega arith)
  within_any (suc most) zero [] short shorter = refl
  within_any (suc most) zero (byte ∷ text) short shorter = absurd (omega arith)
  within_any (suc most) (suc other) [] short shorter = refl
  within_any (suc most) (suc other) (byte ∷ text) short shorter = go (item (byte ∷ text)) refl (within_any most other)
    where
      go : (answer : Answer K A) → item (byte ∷ text) ≡ answer → ((t : List ℕ) → length t ≤ most → length t ≤ other → items_within item most t ≡ items_within item other t)
          → go_on answer (λ x. items_within item most >>= λ items. done (x ∷ items)) ≡ go_on answer (λ x. items_within item other >>= λ items. done (x ∷ items))
      go (answers (Err why) rest) was more = refl
      go (answers (Ok x) rest) was more =
          let less = moves (byte ∷ text) rest x was in
          ap (λ answer. go_on answer (λ items. done (x ∷ items))) (more rest (omega arith) (omega arith))

  -- one item and then the others
  pub items_step : (byte : ℕ) (text : List ℕ) → items_at item (byte ∷ text) ≡ (item >>= λ x. items_at item >>= λ items. done (x ∷ items)) (byte ∷ text)
  unfolding items_within items_at
  items_step byte text = go (item (byte ∷ text)) refl
    where
      go : (answer : Answer K A) → item (byte ∷ text) ≡ answer
          → go_on answer (λ x. items_within item (length text) >>= λ items. done (x ∷ items)) ≡ go_on answer (λ x. items_at item >>= λ items. done (x ∷ items))
      go (answers (Err why) rest) was = refl
      go (answers (Ok x) rest) was =
          let less = moves (byte ∷ text) rest x was in
          ap (λ answer. go_on answer (λ items. done (x ∷ items))) (within_any (length text) (length rest) rest (omega arith) (omega arith))

  pub text_any : (is : IsReader Fresh item) (text : List ℕ) (most : ℕ) → length text ≤ most → text_at item text ≡ text_within item is most text
  unfolding items_at text_at
  text_any is text most short = go (blanks_at text) refl
    where
      go : (answer : Answer K (Unit {0})) → blanks_at text ≡ answer → go_on answer (λ _. items_at item) ≡ go_on answer (λ _. items_within item most)
      go (answers (Err why) rest) was = refl
      go (answers (Ok unit) rest) was =
          let front = blanks_is.takes text rest (Ok unit) was in
          let less : length rest ≤ length text = omega (arith, ap length front.1, length-append front.0 rest) in
          within_any (length rest) most rest (omega arith) (omega arith)

-- ---- what is read is the text's, and the text's is read

module _ {K A : Type 0} (item : Reader K A) (form : A → Form) (sound : Sound item form) (complete : Complete item form) (moves : Moves item) where
  within_sound : (most : ℕ) (text : List ℕ) (items : List A) → items_within item most text ≡ answers (Ok items) [] → Items form items text
  unfolding items_within
  within_sound zero text items e =
      let none : [] ≡ items = cc in
      let end : text ≡ [] = cc in
      subst (λ (l : List A). Items form l text) none end
  within_sound (suc most) [] items e =
      let none : [] ≡ items = cc in
      subst (λ (l : List A). Items form l []) none refl
  within_sound (suc most) (byte ∷ text) items e =
      let front = bind_read item (λ x. items_within item most >>= λ others. done (x ∷ others)) (byte ∷ text) [] items e in
      let back = bind_read (items_within item most) (λ others. done (front.0 ∷ others)) front.1 [] items front.3 in
      let items_is : front.0 ∷ back.0 ≡ items = done_is_read (front.0 ∷ back.0) items back.1 back.3 in
      let end : back.1 ≡ [] = done_left (front.0 ∷ back.0) items back.1 back.3 in
      let others : items_within item most front.1 ≡ answers (Ok back.0) [] = back.2 ∙ ap (answers (Ok back.0)) end in
      subst (λ (l : List A). Items form l (byte ∷ text)) items_is
      (front.1, sound (byte ∷ text) front.1 front.0 front.2, within_sound most front.1 back.0 others)
    where
      done_is_read : (x y : List A) (left : List ℕ) → done {K = K} x left ≡ answers (Ok y) [] → x ≡ y
      done_is_read x y left e = cc

      done_left : (x y : List A) (left : List ℕ) → done {K = K} x left ≡ answers (Ok y) [] → left ≡ []
      done_left x y left e = cc

  within_complete : (most : ℕ) (text : List ℕ) (items : List A) → length text ≤ most → Items form items text → items_within item most text ≡ answers (Ok items) []
  unfolding items_within
  within_complete zero [] [] short h = refl
  within_complete (suc most) [] [] short h = refl
  within_complete most (byte ∷ text) [] short h = absurd cc
  within_complete zero text (x ∷ items) short h =
      let less = moves text h.0 x (complete text h.0 x h.1) in absurd (omega arith)
  within_complete (suc most) [] (x ∷ items) short h =
      let less = moves [] h.0 x (complete [] h.0 x h.1) in absurd (omega arith)
  within_complete (suc most) (byte ∷ text) (x ∷ items) short h =
      let read = complete (byte ∷ text) h.0 x h.1 in
      let less = moves (byte ∷ text) h.0 x read in
      let others = within_complete most h.0 items (omega arith) h.2 in
      then_next item (λ y. items_within item most >>= λ l. done (y ∷ l)) (byte ∷ text) h.0 x (answers (Ok (x ∷ items)) []) read
      (then_next (items_within item most) (λ l. done (x ∷ l)) h.0 [] items (answers (Ok (x ∷ items)) []) others refl)

  -- reading ends at the end of the text
  within_all : (most : ℕ) (text rest : List ℕ) (items : List A) → length text ≤ most → items_within item most text ≡ answers (Ok items) rest → rest ≡ []
  unfolding items_within
  within_all zero [] rest items short e = cc
  within_all zero (byte ∷ text) rest items short e = absurd (omega arith)
  within_all (suc most) [] rest items short e = cc
  within_all (suc most) (byte ∷ text) rest items short e =
      let front = bind_read item (λ x. items_within item most >>= λ others. done (x ∷ others)) (byte ∷ text) rest items e in
      let back = bind_read (items_within item most) (λ others. done (front.0 ∷ others)) front.1 rest items front.3 in
      let less = moves (byte ∷ text) front.1 front.0 front.2 in
      let end : back.1 ≡ rest = left_is (front.0 ∷ back.0) back.1 back.3 in
      sym end ∙ within_all most front.1 back.1 back.0 (omega arith) back.2
    where
      left_is : (x : List A) (left : List ℕ) → done {K = K} x left ≡ answers (Ok items) rest → left ≡ rest
      left_is x left e = cc

module _ {K A : Type 0} (item : Reader K A) (form : A → Form) (is : IsReader Fresh item) (sound : Sound item form) (complete : Complete item form) (moves : Moves item) where
  whole_sound : (most : ℕ) (text : List ℕ) (items : List A) → text_within item is most text ≡ answers (Ok items) [] → TextOf form items text
  whole_sound most text items e =
      let front = bind_read blanks_at (λ _. items_within item most) text [] items e in
      (front.1, blanks_sound text front.1 front.2, within_sound item form sound complete moves most front.1 items front.3)

  whole_complete : (most : ℕ) (text : List ℕ) (items : List A) → length text ≤ most → TextOf form items text → text_within item is most text ≡ answers (Ok items) []
  whole_complete most text items short h =
      let blank = blanks_complete {K = K} text h.0 h.1 in
      let front = blanks_is.takes text h.0 (Ok tt) blank in
      let less : length h.0 ≤ length text = omega (arith, ap length front.1, length-append front.0 h.0) in
      then_next blanks_at (λ _. items_within item most) text h.0 tt (answers (Ok items) []) blank
      (within_complete item form sound complete moves most h.0 items (omega arith) h.2)

  -- what is read is the text's tree
  pub text_sound : (text rest : List ℕ) (items : List A) → text_at item text ≡ answers (Ok items) rest → TextOf form items text × (rest ≡ [])
  text_sound text rest items e =
      let e_within = sym (text_any item moves is text (length text) (omega arith)) ∙ e in
      let front = bind_read blanks_at (λ _. items_within item (length text)) text rest items e_within in
      let taken = blanks_is.takes text front.1 (Ok tt) front.2 in
      let less : length front.1 ≤ length text = omega (arith, ap length taken.1, length-append taken.0 front.1) in
      let end = within_all item form sound complete moves (length text) front.1 rest items less front.3 in
      (whole_sound (length text) text items (e_within ∙ ap (answers (Ok items)) end), end)

  -- the text of a tree is read
  pub text_complete : (text : List ℕ) (items : List A) → TextOf form items text → text_at item text ≡ answers (Ok items) []
  text_complete text items h = text_any item moves is text (length text) (omega arith) ∙ whole_complete (length text) text items (omega arith) h

  -- A reader that stops does so at every text that has the same bytes up to that place and with the next one.
  no_continuation : (front rest : List ℕ) (why : Option K) (byte : ℕ) (more : List ℕ) → text_at item (front ++ rest) ≡ answers (Err why) rest → rest ≡ byte ∷ more
      → Continues (TextOf form) (front ++ (byte ∷ [])) → ⊥
  no_continuation front rest why byte more e rest_is goes_on =
      let other : List ℕ = byte ∷ goes_on.1 in
      let whole : (front ++ (byte ∷ [])) ++ goes_on.1 ≡ front ++ other = append_assoc front (byte ∷ []) goes_on.1 in
      let most : ℕ = length (front ++ rest) + length (front ++ other) in
      let stop : text_within item is most (front ++ rest) ≡ answers (Err why) rest = sym (text_any item moves is (front ++ rest) most (omega arith)) ∙ e in
      let heads : first rest ≡ first other = ap first rest_is in
      let stop_there = (text_is item is most).local front rest other (Err why) stop heads in
      let read = whole_complete most (front ++ other) goes_on.0 (omega arith) (subst (λ (t : List ℕ). TextOf form goes_on.0 t) whole goes_on.2) in
      let clash : answers (Err why) other ≡ answers (Ok goes_on.0) [] = sym stop_there ∙ read in
      cc

  pub text_place : (text rest : List ℕ) (why : Option K) → text_at item text ≡ answers (Err why) rest
      → (front : List ℕ) × IsPlace (TextOf form) text front rest × ((items : List A) → TextOf form items text → ⊥)
  text_place text rest why e =
      let stop : text_within item is (length text) text ≡ answers (Err why) rest = sym (text_any item moves is text (length text) (omega arith)) ∙ e in
      let taken = (text_is item is (length text)).takes text rest (Err why) stop in
      let here : text_within item is (length text) (taken.0 ++ rest) ≡ answers (Err why) rest = ap (text_within item is (length text)) (sym taken.1) ∙ stop in
      let ends = (text_is item is (length text)).viable taken.0 rest (Err why) here in
      let e_here : text_at item (taken.0 ++ rest) ≡ answers (Err why) rest = ap (text_at item) (sym taken.1) ∙ e in (
        taken.0,
        record {
          parts = taken.1;
          before = (ends.1, ends.0 ++ [], whole_sound (length text) (taken.0 ++ (ends.0 ++ [])) ends.1 (ends.2 [] refl));
          longest = λ byte more rest_is goes_on. no_continuation taken.0 rest why byte more e_here rest_is goes_on;
        },
        λ items h. let read = text_complete text items h in let clash : answers (Err why) rest ≡ answers (Ok items) [] = sym e ∙ read in cc,
      )

-- ---- limits

module _ {K A : Type 0} (kind : K) (item bare : Reader K A) (is : IsReader Fresh item) (bare_is : IsReader Fresh bare) (lifts : Lifts kind item bare) where
  end_lifts : (reader other : Reader K (List A)) → Lifts kind reader other → Lifts kind (unless_end [] reader) (unless_end [] other)
  end_lifts reader other reader_lifts = go
    where
      never : (rest : List ℕ) (out : Result (List A) (Option K)) → done {K = K} {A = List A} [] [] ≡ answers out rest → Passes kind out → ⊥
      never rest out e p = let same : out ≡ Ok [] = cc in subst (Passes kind) same p

      here : (byte : ℕ) (more : List ℕ) (out : Result (List A) (Option K)) → Lifted kind other [] (byte ∷ more) out → Lifted kind (unless_end [] other) [] (byte ∷ more) out
      here byte more out (kept never same) = kept never same
      here byte more out (passed p digit after rest_is is bare_out same) = passed p digit after rest_is is bare_out same

      later : (byte : ℕ) (taken rest : List ℕ) (out : Result (List A) (Option K)) → Lifted kind other (byte ∷ taken) rest out → Lifted kind (unless_end [] other) (byte ∷ taken) rest out
      later byte taken rest out (kept never same) = kept never same
      later byte taken rest out (passed p digit after rest_is is bare_out same) = passed p digit after rest_is is bare_out same

      go : Lifts kind (unless_end [] reader) (unless_end [] other)
      go [] [] out e = kept (never [] out e) e
      go [] (byte ∷ more) out e = here byte more out (reader_lifts [] (byte ∷ more) out e)
      go (byte ∷ taken) rest out e = later byte taken rest out (reader_lifts (byte ∷ taken) rest out e)

  within_lifts : (most : ℕ) → Lifts kind (items_within item most) (items_within bare most)
  unfolding items_within
  within_lifts zero = lifts_done kind []
  within_lifts (suc most) =
      end_lifts (item >>= more_items item is most) (bare >>= more_items bare bare_is most)
      (bind_lifts kind item bare (more_items item is most) (more_items bare bare_is most) is (more_is item is) bare_is (more_is bare bare_is) lifts
      (λ x. bind_lifts kind (items_within item most) (items_within bare most) (λ l. done (x ∷ l)) (λ l. done (x ∷ l))
      (within_is item is most) (λ l. done_is AtEnd (x ∷ l)) (within_is bare bare_is most) (λ l. done_is AtEnd (x ∷ l))
      (within_lifts most) (λ l. lifts_done kind (x ∷ l))))
    where
      more_is : (one : Reader K A) (one_is : IsReader Fresh one) (x : A) → IsReader AtEnd (more_items one one_is most x)
      more_is one one_is x = bind_is (items_within one most) (λ l. done (x ∷ l)) (within_is one one_is most) (λ l. done_is AtEnd (x ∷ l)) (λ l. done_starts AtEnd (x ∷ l))

  text_lifts : (most : ℕ) → Lifts kind (text_within item is most) (text_within bare bare_is most)
  text_lifts most =
      bind_lifts kind blanks_at blanks_at (λ _. items_within item most) (λ _. items_within bare most) blanks_is (λ _. within_is item is most) blanks_is (λ _. within_is bare bare_is most)
      (blanks_lift kind) (λ _. within_lifts most)

-- A stop is one of this kind if and only if the next byte is a digit with which some text goes on in the language
-- where this kind of number has no limit.
pub text_limit : {K A : Type 0} (kind : K) (item bare : Reader K A) (bare_form : A → Form) (is : IsReader Fresh item) (moves : Moves item)
    → (bare_is : IsReader Fresh bare) → Sound bare bare_form → Complete bare bare_form → Moves bare → Lifts kind item bare
    → (front rest : List ℕ) (why : Option K) → text_at item (front ++ rest) ≡ answers (Err why) rest
    → Passes {A = List A} kind (Err why) ↔ GoesOnWithDigit (TextOf bare_form) front rest
text_limit {K} {A} kind item bare bare_form is moves bare_is sound complete bare_moves lifts front rest why e =
    go (text_lifts kind item bare is bare_is lifts most front rest (Err why) stop)
  where
    most : ℕ
    most = length (front ++ rest)

    stop : text_within item is most (front ++ rest) ≡ answers (Err why) rest
    stop = sym (text_any item moves is (front ++ rest) most (omega arith)) ∙ e

    go : Lifted kind (text_within bare bare_is most) front rest (Err why) → Passes {A = List A} kind (Err why) ↔ GoesOnWithDigit (TextOf bare_form) front rest
    go (kept never same) =
        let bare_stop : text_at bare (front ++ rest) ≡ answers (Err why) rest = text_any bare bare_moves bare_is (front ++ rest) most (omega arith) ∙ same in (
          λ p. absurd (never p),
          λ goes. absurd (no_continuation bare bare_form bare_is sound complete bare_moves front rest why goes.digit goes.more bare_stop goes.next goes.goes_on),
        )
    go (passed p digit more rest_is is_one bare_out same) =
        let whole : (front ++ (digit ∷ [])) ++ [] ≡ front ++ (digit ∷ []) = append-nil (front ++ (digit ∷ [])) in
        let left = ap (text_within bare bare_is most) whole ∙ same in
        let ends = (text_is bare bare_is most).viable (front ++ (digit ∷ [])) [] bare_out left in (
          λ _. record {
            digit = digit;
            more = more;
            next = rest_is;
            is_digit = is_one;
            goes_on = (ends.1, ends.0 ++ [], whole_sound bare bare_form bare_is sound complete bare_moves most ((front ++ (digit ∷ [])) ++ (ends.0 ++ [])) ends.1 (ends.2 [] refl));
          },
          λ _. p,
        )

-- ---- items, read one after another

-- an answer with items before those that were read
abbrev pub behind_items : {K A : Type 0} → List A → Answer K (List A) → Answer K (List A)
behind_items front (answers (Ok items) rest) = answers (Ok (front ++ items)) rest
behind_items front (answers (Err why) rest) = answers (Err why) rest

module _ {K A : Type 0} (item : Reader K A) (moves : Moves item) where
  -- at the end there are no more
  pub items_end : (front : List A) (text : List ℕ) → length text ≡ 0 → behind_items front (items_at item text) ≡ answers (Ok front) []
  unfolding items_at items_within
  items_end front [] short = ap (λ (l : List A). answers (Ok l) []) (append-nil front)
  items_end front (byte ∷ text) short = absurd (omega arith)

  -- a stop within an item
  pub items_stop : (front : List A) (text rest : List ℕ) (why : Option K) → 0 < length text → item text ≡ answers (Err why) rest
      → behind_items front (items_at item text) ≡ answers (Err why) rest
  items_stop front [] rest why some e = absurd (omega arith)
  items_stop front (byte ∷ text) rest why some e =
      ap (behind_items front) (items_step item moves byte text ∙ then_stops item (λ x. items_at item >>= λ items. done (x ∷ items)) (byte ∷ text) rest why e)

  -- one more item
  pub items_more : (front : List A) (text rest : List ℕ) (x : A) → 0 < length text → item text ≡ answers (Ok x) rest
      → behind_items front (items_at item text) ≡ behind_items (front ++ (x ∷ [])) (items_at item rest)
  items_more front [] rest x some e = absurd (omega arith)
  items_more front (byte ∷ text) rest x some e =
      ap (behind_items front) (items_step item moves byte text ∙ then_next item (λ y. items_at item >>= λ items. done (y ∷ items)) (byte ∷ text) rest x (go_on (items_at item rest) (λ items. done (x ∷ items))) e refl)
      ∙ go (items_at item rest)
    where
      go : (answer : Answer K (List A)) → behind_items front (go_on answer (λ items. done (x ∷ items))) ≡ behind_items (front ++ (x ∷ [])) answer
      go (answers (Ok items) left) = ap (λ (l : List A). answers (Ok l) left) (sym (append_assoc front (x ∷ []) items))
      go (answers (Err why) left) = refl
