-- Labels are read exactly: what is read is a label of the definition, and each label is read.
use Rattle.std.proofs.Common.{◌≡◌, ℕ, List, [], ◌∷◌, ◌++◌, Bool, true, false, cond, not, ◌||◌, ◌&&◌, eqb, None, Some, Ok, Err, refl, sym, ◌∙◌, ap, subst, append_assoc, inl, inr, ◌⊎◌}
use Rattle.std.specs.Prelude.{codes}
use Rattle.std.specs.List.{list_all}
use Rattle.std.specs.Str.{bytes_eq}
use Rattle.std.proofs.lemmas.Bool.{or_parts, and_parts, and_right}
use Rattle.std.proofs.lemmas.Slice.Eq.{bytes_eq-Decides}
use Rattle.std.proofs.lemmas.List.{append-nil}
use Rattle.text_reading.specs.Tokens.{Form, is_word_byte, NoneNext}
use Rattle.text_reading.specs.Reading.{Answer.answers}
use Rattle.text_reading.proofs.Readers.{cancel}
use Rattle.sierra_text.specs.declared.part.Part.{Part}
use Rattle.sierra_text.specs.declared.labels.LabelSpot.TheVariants as spots
use Rattle.sierra_text.specs.Ids.{IsWord, is_reserved, Tails, Label, makes_label, Reserved}
use Rattle.sierra_text.specs.Ids.{Tails.no_more, Tails.path, Tails.path_group, Tails.group, Tails.bracket}
use Rattle.sierra_text.specs.LabelReading.{may_begin, next_spot, at_start, label_at}
use Rattle.sierra_text.proofs.LabelFacts.{state_at, label_answer, ends_label, no_label_byte, label_from, step, stops, taken_from, goes, group_reads, bracket_reads, path_word_reads, tails_read}

-- a label that is no reserved word, or a reserved word that may begin a declaration
abbrev pub AnyLabel : Part → List ℕ → Form
AnyLabel part label text rest = ((is_reserved label ≡ false) × Label label text rest) ⊎ ((is_reserved label ≡ true) × (may_begin part label ≡ true) × Reserved label text rest)

-- ---- reserved words are words

pub same_bytes : (xs ys : List ℕ) → bytes_eq xs ys ≡ true → xs ≡ ys
same_bytes xs ys is = (bytes_eq-Decides xs ys).0 is

-- which word it is
pub reserved_cases : (word : List ℕ) → is_reserved word ≡ true → (word ≡ codes "type") ⊎ (word ≡ codes "libfunc") ⊎ (word ≡ codes "return")
reserved_cases word is = go (bytes_eq word (codes "type")) (bytes_eq word (codes "libfunc")) refl refl is
  where
    go : (a b : Bool) → bytes_eq word (codes "type") ≡ a → bytes_eq word (codes "libfunc") ≡ b → (a || (b || bytes_eq word (codes "return"))) ≡ true
        → (word ≡ codes "type") ⊎ (word ≡ codes "libfunc") ⊎ (word ≡ codes "return")
    go true b was_a was_b is = inl (same_bytes word (codes "type") was_a)
    go false true was_a was_b is = inr (inl (same_bytes word (codes "libfunc") was_b))
    go false false was_a was_b is = inr (inr (same_bytes word (codes "return") is))

pub reserved_is_word : (word : List ℕ) → is_reserved word ≡ true → IsWord word × (list_all is_word_byte word ≡ true)
reserved_is_word word is = go (reserved_cases word is)
  where
    both : List ℕ → Type 0
    both w = IsWord w × (list_all is_word_byte w ≡ true)

    go : (word ≡ codes "type") ⊎ (word ≡ codes "libfunc") ⊎ (word ≡ codes "return") → IsWord word × (list_all is_word_byte word ≡ true)
    go (inl e) = subst (λ (w : List ℕ). IsWord w × (list_all is_word_byte w ≡ true)) (sym e) ((refl, refl), refl)
    go (inr (inl e)) = subst (λ (w : List ℕ). IsWord w × (list_all is_word_byte w ≡ true)) (sym e) ((refl, refl), refl)
    go (inr (inr e)) = subst (λ (w : List ℕ). IsWord w × (list_all is_word_byte w ≡ true)) (sym e) ((refl, refl), refl)

-- with another byte in it it is none
not_all : (front : List ℕ) (byte : ℕ) (more : List ℕ) → is_word_byte byte ≡ false → list_all is_word_byte (front ++ (byte ∷ more)) ≡ false
not_all [] byte more is = rw is refl
not_all (first ∷ front) byte more is = and_right (is_word_byte first) (list_all is_word_byte (front ++ (byte ∷ more))) (not_all front byte more is)

pub no_reserved : (front : List ℕ) (byte : ℕ) (more : List ℕ) → is_word_byte byte ≡ false → is_reserved (front ++ (byte ∷ more)) ≡ false
no_reserved front byte more is = go (is_reserved (front ++ (byte ∷ more))) refl
  where
    go : (b : Bool) → is_reserved (front ++ (byte ∷ more)) ≡ b → b ≡ false
    go false was = refl
    go true was =
        let all = (reserved_is_word (front ++ (byte ∷ more)) was).1 in
        sym all ∙ not_all front byte more is

-- a word ends where no word byte is next, and a tail begins there
pub tails_begin : (text rest : List ℕ) → Tails text rest → (text ≡ rest) ⊎ ((byte : ℕ) × (more : List ℕ) × (text ≡ byte ∷ more) × (is_word_byte byte ≡ false))
tails_begin text rest (no_more _) = inl refl
tails_begin text rest (path word inner between _ form others) = inr (58, 58 ∷ inner, refl, refl)
tails_begin text rest (path_group inner between _ form others) = inr (58, 58 ∷ 60 ∷ inner, refl, refl)
tails_begin text rest (group inner between _ form others) = inr (60, inner, refl, refl)
tails_begin text rest (bracket inner between _ form others) = inr (91, inner, refl, refl)

-- ---- each label is read

module _ (part : Part) where
  first_bytes_read : (so_far more tails : List ℕ) → list_all is_word_byte more ≡ true
      → label_from part (state_at so_far spots.FirstWord) (more ++ tails) ≡ label_from part (state_at (so_far ++ more) spots.FirstWord) tails
  first_bytes_read so_far [] tails all = ap (λ (s : List ℕ). label_from part (state_at s spots.FirstWord) tails) (sym (append-nil so_far))
  first_bytes_read so_far (byte ∷ more) tails all =
      let both = and_parts (is_word_byte byte) (list_all is_word_byte more) all in
      let is = both.0 in
      step part so_far spots.FirstWord spots.FirstWord byte (more ++ tails) (rw is refl)
      ∙ first_bytes_read (so_far ++ byte ∷ []) more tails both.1
      ∙ ap (λ (s : List ℕ). label_from part (state_at s spots.FirstWord) tails) (append_assoc so_far (byte ∷ []) more)

  word_read : (word text tails : List ℕ) → IsWord word → text ≡ word ++ tails → label_from part at_start text ≡ label_from part (state_at word spots.FirstWord) tails
  word_read [] text tails is text_is = absurd is
  word_read (byte ∷ more) text tails is text_is =
      let starts = is.0 in
      ap (label_from part at_start) text_is
      ∙ step part [] spots.Start spots.FirstWord byte (more ++ tails) (rw starts refl)
      ∙ first_bytes_read (byte ∷ []) more tails is.1

  first_tails_read : (word tails rest : List ℕ) → Tails tails rest → ends_label rest → (is_reserved word ≡ true → NoneNext (λ byte. eqb byte 91) tails)
      → (tails ≡ rest → is_reserved word ≡ false) → (label : List ℕ) × (label_from part (state_at word spots.FirstWord) tails ≡ answers (Ok label) rest)
  first_tails_read word tails rest (no_more _) ends no_bracket plain = (word, go rest ends)
    where
      free : is_reserved word ≡ false
      free = plain refl

      go : (t : List ℕ) → ends_label t → label_from part (state_at word spots.FirstWord) t ≡ answers (Ok word) t
      go [] ends = ap (λ b. label_answer (cond (b && not (may_begin part word)) (Err None) (Ok word)) []) free
      go (byte ∷ more) ends =
          let none = no_label_byte byte ends in
          stops part word spots.FirstWord byte more (rw (none.no_word, none.no_bracket, none.no_colon, none.no_group) refl)
          ∙ ap (λ b. label_answer (cond (b && not (may_begin part word)) (Err None) (Ok word)) (byte ∷ more)) free
  first_tails_read word tails rest (path inner_word inner between _ form others) ends no_bracket plain =
      goes part spots.FirstWord spots.Colon 58 (58 ∷ inner) rest (λ so_far. refl)
      (goes part spots.Colon spots.Path 58 inner rest (λ so_far. refl) (path_word_reads part inner_word inner between rest form (tails_read part between rest others ends).1)) word
  first_tails_read word tails rest (path_group inner between _ form others) ends no_bracket plain =
      goes part spots.FirstWord spots.Colon 58 (58 ∷ 60 ∷ inner) rest (λ so_far. refl)
      (goes part spots.Colon spots.Path 58 (60 ∷ inner) rest (λ so_far. refl)
      (goes part spots.Path (spots.Group 0) 60 inner rest (λ so_far. refl) (group_reads part inner between rest form (tails_read part between rest others ends).0))) word
  first_tails_read word tails rest (group inner between _ form others) ends no_bracket plain =
      goes part spots.FirstWord (spots.Group 0) 60 inner rest (λ so_far. refl) (group_reads part inner between rest form (tails_read part between rest others ends).0) word
  first_tails_read word tails rest (bracket inner between _ form others) ends no_bracket plain =
      let reads = bracket_reads part inner between rest form (tails_read part between rest others ends).0 (word ++ 91 ∷ []) in
      (reads.0, step part word spots.FirstWord spots.Bracket 91 inner (go (is_reserved word) refl) ∙ reads.1)
    where
      go : (b : Bool) → is_reserved word ≡ b → cond b None (Some spots.Bracket) ≡ Some spots.Bracket
      go false was = refl
      go true was = let clash : true ≡ false = no_bracket was in absurd cc

  reserved_read : (word rest : List ℕ) → is_reserved word ≡ true → may_begin part word ≡ true → NoneNext makes_label rest
      → label_from part (state_at word spots.FirstWord) rest ≡ answers (Ok word) rest
  reserved_read word [] is may ends = ap (λ b. label_answer (cond (is_reserved word && not b) (Err None) (Ok word)) []) may ∙ ap (λ b. label_answer (cond b (Err None) (Ok word)) []) (and_right (is_reserved word) false refl)
  reserved_read word (byte ∷ rest) is may ends =
      let first_parts = or_parts (is_word_byte byte) (eqb byte 58 || eqb byte 60) ends in
      let others = or_parts (eqb byte 58) (eqb byte 60) first_parts.1 in
      stops part word spots.FirstWord byte rest (go (eqb byte 91) refl first_parts.0 others.0 others.1)
      ∙ ap (λ b. label_answer (cond (is_reserved word && not b) (Err None) (Ok word)) (byte ∷ rest)) may
      ∙ ap (λ b. label_answer (cond b (Err None) (Ok word)) (byte ∷ rest)) (and_right (is_reserved word) false refl)
    where
      go : (b : Bool) → eqb byte 91 ≡ b → is_word_byte byte ≡ false → eqb byte 58 ≡ false → eqb byte 60 ≡ false
          → next_spot (is_reserved word) spots.FirstWord byte ≡ None
      go true was no_word no_colon no_group = rw (no_word, was, is) refl
      go false was no_word no_colon no_group = rw (no_word, was, no_colon, no_group) refl

  pub label_complete : (text rest label : List ℕ) → AnyLabel part label text rest → label_at part text ≡ answers (Ok label) rest
  unfolding label_at
  label_complete text rest label (inl (free, form)) =
      let start = word_read form.word text form.tails form.first_word.is_word form.first_word.whole.0 in
      let read = first_tails_read form.word form.tails rest form.tails_are form.whole form.no_bracket plain in
      let whole : label_from part at_start text ≡ answers (Ok read.0) rest = start ∙ read.1 in
      let taken = taken_from part text rest [] read.0 spots.Start whole in
      let same = cancel label taken.0 rest (sym form.text_is ∙ taken.1) in
      whole ∙ ap (λ (l : List ℕ). answers (Ok l) rest) (taken.2 ∙ sym same)
    where
      plain : form.tails ≡ rest → is_reserved form.word ≡ false
      plain e =
          let text_is : form.word ++ rest ≡ label ++ rest = ap (λ (t : List ℕ). form.word ++ t) (sym e) ∙ sym form.first_word.whole.0 ∙ form.text_is in
          ap is_reserved (cancel form.word label rest text_is) ∙ free
  label_complete text rest label (inr (is, may, form)) =
      word_read label text rest (reserved_is_word label is).0 form.0 ∙ reserved_read label rest is may form.1
