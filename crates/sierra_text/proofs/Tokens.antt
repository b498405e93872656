-- The tokens of Sierra text as readers: labels and words, with the blanks behind them.
use Rattle.std.proofs.Common.{◌≡◌, ℕ, ◌<◌, List, [], ◌∷◌, ◌++◌, length, Bool, true, false, cond, not, ◌&&◌, Option, None, Some, Ok, Err, refl, sym, ◌∙◌, ap, subst, append_assoc, arith}
use Rattle.std.specs.List.{list_all}
use Rattle.std.proofs.lemmas.Bool.{and_parts, and_from}
use Rattle.std.proofs.lemmas.List.{append-nil, length-append}
use Rattle.text_reading.specs.Tokens.{Form, ◌then◌, is_word_byte, NoneNext, Blanks}
use Rattle.text_reading.specs.Reading.{first, Answer.answers, Reader, scan, scan_from}
use Rattle.text_reading.specs.TokenReading.{blanks_at, token}
use Rattle.text_reading.proofs.Readers.{Starts, Ends, IsReader, scan_is}
use Rattle.text_reading.proofs.Limits.{Passes, Lifts, lifts_itself, scan_never}
use Rattle.text_reading.proofs.BlankFacts.{Fresh, blanks_is, blanks_none, blanks_sound, blanks_complete, token_is, token_starts}
use Rattle.text_reading.proofs.TokenFacts.{token_sound, token_complete, token_lifts, blanks_lift}
use Rattle.text_reading.proofs.WholeTexts.{Moves}
use Rattle.text_reading.proofs.Languages.{Reads, Limited}
use Rattle.text_reading.proofs.Exact.{IsExact}
use Rattle.sierra_text.specs.declared.part.Part.{Part}
use Rattle.sierra_text.specs.declared.labels.LabelSpot.{LabelSpot}
use Rattle.sierra_text.specs.declared.labels.LabelSpot.TheVariants as spots
use Rattle.sierra_text.specs.Ids.{is_word_start, IsWord, WordText, is_reserved}
use Rattle.sierra_text.specs.Text.{AnyWord}
use Rattle.sierra_text.specs.LabelReading.{Sierra, too_wide, may_begin, at_start, next_label, ends_tail, end_at, label_end, label_at, word_goes_on, next_word, any_word_end, bare_word_at, any_word_at}
use Rattle.sierra_text.proofs.LabelFacts.{ends_label, label_is, ending_of, label_ends, step, stops, label_answer, label_from, taken_from, state_at}
use Rattle.sierra_text.proofs.LabelSound.{label_exact}
use Rattle.sierra_text.proofs.LabelForms.{AnyLabel}

-- ---- a token and its blanks

pub exact_token : {K A : Type 0} {reader : Reader K A} {form : A → Form} → IsExact reader form → IsExact (token reader) (λ x. form x then Blanks)
exact_token {K} {A} {reader} exact = record {
  sound = λ text rest x e.
      let parts = token_sound reader text rest x e in
      (parts.0, exact.sound text parts.0 x parts.1, parts.2);
  complete = λ text rest x h. token_complete reader text h.0 rest x (exact.complete text h.0 x h.1) h.2;
}

pub exact_blanks : {K : Type 0} → IsExact (blanks_at {K = K}) (λ unit. Blanks)
exact_blanks = record { sound = λ text rest unit e. blanks_sound text rest e; complete = λ text rest unit h. blanks_complete text rest h }

pub limited_token : {A : Type 0} (behind : List ℕ → Type 0) {reader : Sierra A} → IsReader behind reader → ((rest : List ℕ) → behind (10 ∷ rest)) → Starts Fresh behind reader
    → Lifts too_wide reader reader → Limited too_wide (token reader) (token reader)
limited_token behind {reader} is line starts lifts =
    let reads : Reads (token reader) = record { is = token_is reader is line; starts = token_starts reader is line starts } in
    record { reads = reads; bare_reads = reads; lifts = token_lifts too_wide reader reader is is line lifts }

pub limited_blanks : Limited too_wide blanks_at blanks_at
limited_blanks =
    let reads : Reads (blanks_at {K = Unit {0}}) = record { is = blanks_is; starts = ([], tt, λ rest fresh. (fresh, blanks_none rest fresh)) } in
    record { reads = reads; bare_reads = reads; lifts = blanks_lift too_wide }

-- ---- labels

label_starts_by : (part : Part) (behind : List ℕ → Type 0) → ((rest : List ℕ) → behind (97 ∷ 58 ∷ 58 ∷ 97 ∷ rest)) → Starts behind ends_label (label_at part)
unfolding label_at label_ends ending_of
label_starts_by part behind may =
    let ends = label_ends part (state_at [] spots.Start) in
    (97 ∷ 58 ∷ 58 ∷ 97 ∷ [], ends.1, λ rest fits. (may rest, ends.2 rest fits))

pub label_starts : (part : Part) → Starts Fresh ends_label (label_at part)
label_starts part = label_starts_by part Fresh (λ rest. refl)

pub label_lifts : (part : Part) → Lifts too_wide (label_at part) (label_at part)
unfolding label_at
label_lifts part = lifts_itself too_wide (label_at part) (λ text rest out e p. scan_never too_wide next_label (label_end part) (λ state byte. never state.spot state.so_far byte) text at_start rest out e p)
  where
    reserved_never : (b : Bool) (label : List ℕ) → Passes {A = List ℕ} too_wide (cond b (Err None) (Ok label)) → ⊥
    reserved_never true label p = p
    reserved_never false label p = p

    tail_never : (label : List ℕ) (byte : Option ℕ) → Passes too_wide (ends_tail label byte) → ⊥
    tail_never label None p = p
    tail_never label (Some byte) p = reserved_never (is_word_byte byte) label p

    never : (spot : LabelSpot) (label : List ℕ) (byte : Option ℕ) → Passes too_wide (end_at part spot label byte) → ⊥
    never spots.Start label byte p = p
    never spots.FirstWord label byte p = reserved_never (is_reserved label && not (may_begin part label)) label p
    never spots.Colon label byte p = p
    never spots.Path label byte p = p
    never spots.Word label byte p = p
    never (spots.Group around) label byte p = p
    never spots.Bracket label byte p = p
    never spots.InBracket label byte p = p
    never spots.Behind label byte p = tail_never label byte p

pub limited_label : (part : Part) → Limited too_wide (token (label_at part)) (token (label_at part))
limited_label part = limited_token ends_label (label_is part) (λ rest. refl) (label_starts part) (label_lifts part)

pub exact_label_token : (part : Part) → IsExact (token (label_at part)) (λ label. AnyLabel part label then Blanks)
exact_label_token part = exact_token (label_exact part)

pub label_moves : (part : Part) → Moves (label_at part)
unfolding label_at
label_moves part [] rest label e = absurd cc
label_moves part (byte ∷ text) rest label e = go (is_word_start byte) refl
  where
    go : (b : Bool) → is_word_start byte ≡ b → length rest < length (byte ∷ text)
    go true was =
        let others : label_from part (state_at (byte ∷ []) spots.FirstWord) text ≡ answers (Ok label) rest = sym (step part [] spots.Start spots.FirstWord byte text (rw was refl)) ∙ e in
        let taken = taken_from part text rest (byte ∷ []) label spots.FirstWord others in
        omega (arith, ap length taken.1, length-append taken.0 rest)
    go false was =
        let stop : label_answer (Err None) (byte ∷ text) ≡ answers (Ok label) rest = sym (stops part [] spots.Start byte text (rw was refl)) ∙ e in
        absurd cc

-- ---- words

abbrev pub word_from : List ℕ → Sierra (List ℕ)
word_from = scan next_word any_word_end

-- what may stand behind a word
abbrev pub ends_word : List ℕ → Type 0
ends_word = NoneNext is_word_byte

pub word_step : (so_far : List ℕ) (byte : ℕ) (text : List ℕ) → word_goes_on so_far byte ≡ true → word_from so_far (byte ∷ text) ≡ word_from (so_far ++ byte ∷ []) text
word_step so_far byte text is =
    ap (λ b. scan_from {K = Unit {0}} next_word any_word_end (cond b (Some (so_far ++ byte ∷ [])) None) so_far byte text (λ a. word_from a text)) is

pub word_stop : (so_far : List ℕ) (byte : ℕ) (text : List ℕ) → word_goes_on so_far byte ≡ false → word_from so_far (byte ∷ text) ≡ label_answer (any_word_end so_far (Some byte)) (byte ∷ text)
word_stop so_far byte text is =
    ap (λ b. scan_from {K = Unit {0}} next_word any_word_end (cond b (Some (so_far ++ byte ∷ [])) None) so_far byte text (λ a. word_from a text)) is

word_end_here : (first : ℕ) (more rest : List ℕ) → ends_word rest → word_from (first ∷ more) rest ≡ answers (Ok (first ∷ more)) rest
word_end_here first more [] ends = refl
word_end_here first more (byte ∷ rest) ends = word_stop (first ∷ more) byte rest ends

word_bytes_read : (first : ℕ) (before more rest : List ℕ) → list_all is_word_byte more ≡ true → ends_word rest → word_from (first ∷ before) (more ++ rest) ≡ answers (Ok (first ∷ (before ++ more))) rest
word_bytes_read first before [] rest all ends = word_end_here first before rest ends ∙ ap (λ (w : List ℕ). answers (Ok (first ∷ w)) rest) (sym (append-nil before))
word_bytes_read first before (byte ∷ more) rest all ends =
    let both = and_parts (is_word_byte byte) (list_all is_word_byte more) all in
    word_step (first ∷ before) byte (more ++ rest) both.0
    ∙ word_bytes_read first (before ++ byte ∷ []) more rest both.1 ends
    ∙ ap (λ (w : List ℕ). answers (Ok (first ∷ w)) rest) (append_assoc before (byte ∷ []) more)

bare_word_complete : (text rest word : List ℕ) → WordText word text rest → bare_word_at text ≡ answers (Ok word) rest
unfolding bare_word_at
bare_word_complete text rest word form = go word form.is_word form.whole.0
  where
    go : (w : List ℕ) → IsWord w → text ≡ w ++ rest → word_from [] text ≡ answers (Ok w) rest
    go [] is text_is = absurd is
    go (byte ∷ more) is text_is = ap (word_from []) text_is ∙ word_step [] byte (more ++ rest) is.0 ∙ word_bytes_read byte [] more rest is.1 form.whole.1

-- the rest of a word
record MoreWord (before text rest word : List ℕ) : Type 0 where
  more : List ℕ
  text_is : text ≡ more ++ rest
  word_is : word ≡ before ++ more
  all : list_all is_word_byte more ≡ true
  ends : ends_word rest

more_sound : (first : ℕ) (before text rest word : List ℕ) → word_from (first ∷ before) text ≡ answers (Ok word) rest → MoreWord (first ∷ before) text rest word
more_sound first before [] rest word e =
    let same : first ∷ before ≡ word = cc in
    let none : [] ≡ rest = cc in
    record { more = []; text_is = none; word_is = sym same ∙ sym (append-nil (first ∷ before)); all = refl; ends = subst ends_word none tt }
more_sound first before (byte ∷ text) rest word e = go (is_word_byte byte) refl (more_sound first (before ++ byte ∷ []) text rest word)
  where
    go : (b : Bool) → is_word_byte byte ≡ b → (word_from (first ∷ (before ++ byte ∷ [])) text ≡ answers (Ok word) rest → MoreWord (first ∷ (before ++ byte ∷ [])) text rest word)
        → MoreWord (first ∷ before) (byte ∷ text) rest word
    go true was others =
        let w = others (sym (word_step (first ∷ before) byte text was) ∙ e) in
        record {
          more = byte ∷ w.more;
          text_is = ap (λ (t : List ℕ). byte ∷ t) w.text_is;
          word_is = w.word_is ∙ append_assoc (first ∷ before) (byte ∷ []) w.more;
          all = and_from (is_word_byte byte) (list_all is_word_byte w.more) was w.all;
          ends = w.ends;
        }
    go false was others =
        let stop : label_answer (Ok (first ∷ before)) (byte ∷ text) ≡ answers (Ok word) rest = sym (word_stop (first ∷ before) byte text was) ∙ e in
        let same : first ∷ before ≡ word = cc in
        let left : byte ∷ text ≡ rest = cc in
        record { more = []; text_is = left; word_is = sym same ∙ sym (append-nil (first ∷ before)); all = refl; ends = subst ends_word left was }

bare_word_sound : (text rest word : List ℕ) → bare_word_at text ≡ answers (Ok word) rest → WordText word text rest
unfolding bare_word_at
bare_word_sound [] rest word e = absurd cc
bare_word_sound (byte ∷ text) rest word e = go (is_word_start byte) refl
  where
    go : (b : Bool) → is_word_start byte ≡ b → WordText word (byte ∷ text) rest
    go true was =
        let w = more_sound byte [] text rest word (sym (word_step [] byte text was) ∙ e) in
        subst (λ (l : List ℕ). WordText l (byte ∷ text) rest) (sym w.word_is)
        (record { is_word = (was, w.all); whole = (ap (λ (t : List ℕ). byte ∷ t) w.text_is, w.ends) })
    go false was =
        let stop : label_answer (Err None) (byte ∷ text) ≡ answers (Ok word) rest = sym (word_stop [] byte text was) ∙ e in
        absurd cc

word_state_ends : (so_far : List ℕ) → Ends ends_word (word_from so_far) []
word_state_ends [] = (97 ∷ [], 97 ∷ [], λ rest ends. word_step [] 97 rest refl ∙ word_end_here 97 [] rest ends)
word_state_ends (first ∷ more) = ([], first ∷ more, λ rest ends. word_end_here first more rest ends)

bare_word_is : IsReader ends_word bare_word_at
unfolding bare_word_at
bare_word_is = scan_is next_word any_word_end word_state_ends []

bare_word_starts : Starts Fresh ends_word bare_word_at
unfolding bare_word_at
bare_word_starts = (97 ∷ [], 97 ∷ [], λ rest ends. (refl, word_step [] 97 rest refl ∙ word_end_here 97 [] rest ends))

bare_word_lifts : Lifts too_wide bare_word_at bare_word_at
unfolding bare_word_at
bare_word_lifts = lifts_itself too_wide (word_from []) (λ text rest out e p. scan_never too_wide next_word any_word_end never text [] rest out e p)
  where
    never : (so_far : List ℕ) (byte : Option ℕ) → Passes too_wide (any_word_end so_far byte) → ⊥
    never [] byte p = p
    never (first ∷ more) byte p = p

pub limited_any_word : Limited too_wide any_word_at any_word_at
unfolding any_word_at
limited_any_word = limited_token ends_word bare_word_is (λ rest. refl) bare_word_starts bare_word_lifts

pub exact_any_word : IsExact any_word_at AnyWord
unfolding any_word_at
exact_any_word = exact_token (record { sound = bare_word_sound; complete = bare_word_complete })
