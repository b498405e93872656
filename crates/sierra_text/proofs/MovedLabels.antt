-- A label, a word or an id of one text may stand before whatever doesn't continue it, and its bytes are ASCII.
use Rattle.std.proofs.Common.{◌≡◌, ℕ, ◌<◌, List, [], ◌∷◌, ◌++◌, Bool, true, eqb, refl, sym, ◌∙◌, ap, subst, append_assoc, arith}
use Rattle.std.specs.List.{list_all}
use Rattle.std.specs.Str.{IsAscii}
use Rattle.std.proofs.lemmas.Bool.{and_parts}
use Rattle.std.proofs.lemmas.Bool.Decides.{nat_tests}
use Rattle.std.proofs.lemmas.Str.{IsAscii-append}
use Rattle.std.proofs.lemmas.Str.Ascii.{IsAscii-nil, IsAscii-cons}
use Rattle.text_reading.specs.Tokens.{Form, is_word_byte, NoneNext}
use Rattle.text_reading.proofs.Readers.{cancel}
use Rattle.sierra_text.specs.Ids.{is_word_start, IsWord, is_printable, Grouped, Bracketed, Tails, Label}
use Rattle.sierra_text.specs.Ids.{Grouped.nothing, Grouped.character as group_character, Grouped.group as inner_group, Bracketed.last, Bracketed.character as bracket_character, Tails.no_more, Tails.path, Tails.path_group, Tails.group, Tails.bracket}
use Rattle.sierra_text.proofs.LabelFacts.{ends_label, no_label_byte}

-- ---- which bytes are ASCII

word_byte_ascii : (byte : ℕ) → is_word_byte byte ≡ true → byte < 128
word_byte_ascii byte is = grind (arith, nat_tests)

printable_ascii : (byte : ℕ) → is_printable byte ≡ true → byte < 128
printable_ascii byte is = grind (arith, nat_tests)

word_ascii : (word : List ℕ) → list_all is_word_byte word ≡ true → IsAscii word
word_ascii [] all = IsAscii-nil
word_ascii (byte ∷ word) all =
    let both = and_parts (is_word_byte byte) (list_all is_word_byte word) all in
    IsAscii-cons byte word (word_byte_ascii byte both.0) (word_ascii word both.1)

pub is_word_ascii : (word : List ℕ) → IsWord word → IsAscii word
is_word_ascii [] is = absurd is
is_word_ascii (byte ∷ word) is = IsAscii-cons byte word (start_ascii byte is.0) (word_ascii word is.1)
  where
    start_ascii : (byte : ℕ) → is_word_start byte ≡ true → byte < 128
    start_ascii byte is = grind (arith, nat_tests)

-- ---- tails

-- the bytes that a form took are ASCII, and the form has them before any other rest that it may end at
record Movable (form : Form) (ends : List ℕ → Type 0) (text rest : List ℕ) : Type 0 where
  taken : List ℕ
  text_is : text ≡ taken ++ rest
  ascii : IsAscii taken
  moved : (after : List ℕ) → ends after → form (taken ++ after) after

abbrev Anything : List ℕ → Type 0
Anything after = Unit {0}

none_taken : {form : Form} {ends : List ℕ → Type 0} (rest : List ℕ) → ((after : List ℕ) → ends after → form after after) → Movable form ends rest rest
none_taken rest moved = record { taken = []; text_is = refl; ascii = IsAscii-nil; moved = moved }

-- one byte more before what was taken
byte_more : (form : Form) (ends : List ℕ → Type 0) (byte : ℕ) (text rest : List ℕ) → byte < 128 → ((text after : List ℕ) → form text after → form (byte ∷ text) after)
    → Movable form ends text rest → Movable form ends (byte ∷ text) rest
byte_more form ends byte text rest low build behind = record {
  taken = byte ∷ behind.taken;
  text_is = ap (λ (t : List ℕ). byte ∷ t) behind.text_is;
  ascii = IsAscii-cons byte behind.taken low behind.ascii;
  moved = λ after there. build (behind.taken ++ after) after (behind.moved after there);
}

grouped_moves : (text rest : List ℕ) → Grouped text rest → Movable Grouped Anything text rest
grouped_moves text rest (nothing _) = none_taken rest (λ after any. nothing after)
grouped_moves text rest (group_character byte more _ is form) =
    byte_more Grouped Anything byte more rest (printable_ascii byte (and_parts (is_printable byte) _ is).0) (λ text after form. group_character byte text after is form) (grouped_moves more rest form)
grouped_moves text rest (inner_group inner between _ form more) =
    let inside = grouped_moves inner (62 ∷ between) form in
    let behind = grouped_moves between rest more in
    record {
      taken = 60 ∷ (inside.taken ++ (62 ∷ behind.taken));
      text_is = ap (λ (t : List ℕ). 60 ∷ t) (inside.text_is ∙ ap (λ (t : List ℕ). inside.taken ++ (62 ∷ t)) behind.text_is ∙ sym (append_assoc inside.taken (62 ∷ behind.taken) rest));
      ascii = IsAscii-cons 60 _ (omega arith) (IsAscii-append inside.taken (62 ∷ behind.taken) inside.ascii (IsAscii-cons 62 behind.taken (omega arith) behind.ascii));
      moved = λ after any.
          subst (λ (t : List ℕ). Grouped (60 ∷ t) after) (sym (append_assoc inside.taken (62 ∷ behind.taken) after))
          (inner_group (inside.taken ++ (62 ∷ (behind.taken ++ after))) (behind.taken ++ after) after (inside.moved (62 ∷ (behind.taken ++ after)) tt) (behind.moved after any));
    }

bracketed_moves : (text rest : List ℕ) → Bracketed text rest → Movable Bracketed Anything text rest
bracketed_moves text rest (last byte _ is) =
    record {
      taken = byte ∷ [];
      text_is = refl;
      ascii = IsAscii-cons byte [] (printable_ascii byte (and_parts (is_printable byte) _ is).0) IsAscii-nil;
      moved = λ after any. last byte after is;
    }
bracketed_moves text rest (bracket_character byte more _ is form) =
    byte_more Bracketed Anything byte more rest (printable_ascii byte (and_parts (is_printable byte) _ is).0) (λ text after form. bracket_character byte text after is form) (bracketed_moves more rest form)

-- no byte of this kind is next, whatever may stand behind what was taken
none_next : (kind : ℕ → Bool) (taken rest after : List ℕ) → NoneNext kind (taken ++ rest) → NoneNext kind after → NoneNext kind (taken ++ after)
none_next kind [] rest after here behind = behind
none_next kind (byte ∷ taken) rest after here behind = here

no_word_next : (after : List ℕ) → ends_label after → NoneNext is_word_byte after
no_word_next [] ends = tt
no_word_next (byte ∷ after) ends = (no_label_byte byte ends).no_word

no_bracket_next : (after : List ℕ) → ends_label after → NoneNext (λ byte. eqb byte 91) after
no_bracket_next [] ends = tt
no_bracket_next (byte ∷ after) ends = (no_label_byte byte ends).no_bracket

-- a tail that opens with these bytes and closes with that one, and the tails behind it
closed_moves : (opening : List ℕ) (closing : ℕ) (form : Form) → IsAscii opening → closing < 128
    → ((text between rest : List ℕ) → form text (closing ∷ between) → Tails between rest → Tails (opening ++ text) rest)
    → (text between rest : List ℕ) → Movable form Anything text (closing ∷ between) → Movable Tails ends_label between rest → Movable Tails ends_label (opening ++ text) rest
closed_moves opening closing form opening_ascii closing_ascii build text between rest inside behind =
    record {
      taken = opening ++ (inside.taken ++ (closing ∷ behind.taken));
      text_is =
          ap (λ (t : List ℕ). opening ++ t) (inside.text_is ∙ ap (λ (t : List ℕ). inside.taken ++ (closing ∷ t)) behind.text_is ∙ sym (append_assoc inside.taken (closing ∷ behind.taken) rest))
          ∙ sym (append_assoc opening (inside.taken ++ (closing ∷ behind.taken)) rest);
      ascii = IsAscii-append opening _ opening_ascii (IsAscii-append inside.taken (closing ∷ behind.taken) inside.ascii (IsAscii-cons closing behind.taken closing_ascii behind.ascii));
      moved = λ after ends.
          subst (λ (t : List ℕ). Tails t after)
          (ap (λ (t : List ℕ). opening ++ t) (sym (append_assoc inside.taken (closing ∷ behind.taken) after)) ∙ sym (append_assoc opening (inside.taken ++ (closing ∷ behind.taken)) after))
          (build (inside.taken ++ (closing ∷ (behind.taken ++ after))) (behind.taken ++ after) after (inside.moved (closing ∷ (behind.taken ++ after)) tt) (behind.moved after ends));
    }

tails_move : (text rest : List ℕ) → Tails text rest → Movable Tails ends_label text rest
tails_move text rest (no_more _) = none_taken rest (λ after ends. no_more after)
tails_move text rest (path word inner between _ form more) =
    let behind = tails_move between rest more in
    record {
      taken = 58 ∷ 58 ∷ (word ++ behind.taken);
      text_is = ap (λ (t : List ℕ). 58 ∷ 58 ∷ t) (form.whole.0 ∙ ap (λ (t : List ℕ). word ++ t) behind.text_is ∙ sym (append_assoc word behind.taken rest));
      ascii = IsAscii-cons 58 (58 ∷ (word ++ behind.taken)) (omega arith) (IsAscii-cons 58 (word ++ behind.taken) (omega arith) (IsAscii-append word behind.taken (is_word_ascii word form.is_word) behind.ascii));
      moved = λ after ends.
          let next : NoneNext is_word_byte (behind.taken ++ rest) = subst (NoneNext is_word_byte) behind.text_is form.whole.1 in
          subst (λ (t : List ℕ). Tails (58 ∷ 58 ∷ t) after) (sym (append_assoc word behind.taken after))
          (path word (word ++ (behind.taken ++ after)) (behind.taken ++ after) after
          (record { is_word = form.is_word; whole = (refl, none_next is_word_byte behind.taken rest after next (no_word_next after ends)) }) (behind.moved after ends));
    }
tails_move text rest (path_group inner between _ form more) =
    closed_moves (58 ∷ 58 ∷ 60 ∷ []) 62 Grouped (IsAscii-cons 58 (58 ∷ 60 ∷ []) (omega arith) (IsAscii-cons 58 (60 ∷ []) (omega arith) (IsAscii-cons 60 [] (omega arith) IsAscii-nil))) (omega arith)
    (λ text between rest form more. path_group text between rest form more) inner between rest (grouped_moves inner (62 ∷ between) form) (tails_move between rest more)
tails_move text rest (group inner between _ form more) =
    closed_moves (60 ∷ []) 62 Grouped (IsAscii-cons 60 [] (omega arith) IsAscii-nil) (omega arith)
    (λ text between rest form more. group text between rest form more) inner between rest (grouped_moves inner (62 ∷ between) form) (tails_move between rest more)
tails_move text rest (bracket inner between _ form more) =
    closed_moves (91 ∷ []) 93 Bracketed (IsAscii-cons 91 [] (omega arith) IsAscii-nil) (omega arith)
    (λ text between rest form more. bracket text between rest form more) inner between rest (bracketed_moves inner (93 ∷ between) form) (tails_move between rest more)

-- ---- labels

-- a label is its first word and what its tails took
label_parts : (label text rest : List ℕ) (form : Label label text rest) → label ≡ form.word ++ (tails_move form.tails rest form.tails_are).taken
label_parts label text rest form =
    let behind = tails_move form.tails rest form.tails_are in
    cancel label (form.word ++ behind.taken) rest
    (sym form.text_is ∙ form.first_word.whole.0 ∙ ap (λ (t : List ℕ). form.word ++ t) behind.text_is ∙ sym (append_assoc form.word behind.taken rest))

pub label_ascii : (label text rest : List ℕ) → Label label text rest → IsAscii label
label_ascii label text rest form =
    let behind = tails_move form.tails rest form.tails_are in
    subst IsAscii (sym (label_parts label text rest form)) (IsAscii-append form.word behind.taken (is_word_ascii form.word form.first_word.is_word) behind.ascii)

pub label_moves_to : (label text rest : List ℕ) → Label label text rest → (after : List ℕ) → ends_label after → Label label (label ++ after) after
label_moves_to label text rest form after ends =
    let behind = tails_move form.tails rest form.tails_are in
    record {
      word = form.word;
      tails = behind.taken ++ after;
      first_word = record {
        is_word = form.first_word.is_word;
        whole = (
          ap (λ (t : List ℕ). t ++ after) (label_parts label text rest form) ∙ append_assoc form.word behind.taken after,
          none_next is_word_byte behind.taken rest after (subst (NoneNext is_word_byte) behind.text_is form.first_word.whole.1) (no_word_next after ends),
        );
      };
      tails_are = behind.moved after ends;
      no_bracket = λ reserved.
          none_next (λ byte. eqb byte 91) behind.taken rest after (subst (NoneNext (λ byte. eqb byte 91)) behind.text_is (form.no_bracket reserved)) (no_bracket_next after ends);
      text_is = refl;
      whole = ends;
    }

-- what a label begins with
pub label_first : (label text rest : List ℕ) → Label label text rest → (byte : ℕ) × (more : List ℕ) × (label ≡ byte ∷ more) × (is_word_start byte ≡ true)
label_first label text rest form = go form.word form.first_word.is_word (label_parts label text rest form)
  where
    taken : List ℕ
    taken = (tails_move form.tails rest form.tails_are).taken

    go : (word : List ℕ) → IsWord word → label ≡ word ++ taken → (byte : ℕ) × (more : List ℕ) × (label ≡ byte ∷ more) × (is_word_start byte ≡ true)
    go [] is same = absurd is
    go (byte ∷ more) is same = (byte, more ++ taken, same, is.0)
