-- Labels: their reader reads the labels of the definition, and where it stops every label stops.
use Rattle.std.proofs.Common.{◌≡◌, ℕ, zero, suc, List, [], ◌∷◌, ◌++◌, Bool, true, false, cond, not, ◌||◌, ◌&&◌, eqb, Option, None, Some, Result, Ok, Err, refl, sym, ◌∙◌, ap, subst, append_assoc}
use Rattle.std.specs.Prelude.{option_map}
use Rattle.std.specs.List.{list_all}
use Rattle.std.proofs.lemmas.Bool.{or_parts, and_parts}
use Rattle.std.proofs.lemmas.List.{append-nil}
use Rattle.text_reading.specs.Tokens.{is_word_byte, NoneNext}
use Rattle.text_reading.specs.Reading.{Answer, Answer.answers, scan, scan_from}
use Rattle.text_reading.proofs.Readers.{Ends, IsReader, scan_is, cancel}
use Rattle.sierra_text.specs.declared.part.Part.{Part}
use Rattle.sierra_text.specs.declared.labels.LabelSpot.{LabelSpot}
use Rattle.sierra_text.specs.declared.labels.LabelSpot.TheVariants as spots
use Rattle.sierra_text.specs.Ids.{IsWord, WordText, is_reserved, Grouped, Bracketed, Tails, is_label_byte}
use Rattle.sierra_text.specs.Ids.{Grouped.nothing, Grouped.character as group_character, Grouped.group as inner_group, Bracketed.last, Bracketed.character as bracket_character, Tails.no_more, Tails.path, Tails.path_group, Tails.group, Tails.bracket}
use Rattle.sierra_text.specs.LabelReading.{Sierra, may_begin, next_spot, LabelState, at_start, next_label, end_at, label_end, label_at}

abbrev pub state_at : List ℕ → LabelSpot → LabelState
state_at so_far spot = record { so_far = so_far; spot = spot }

abbrev pub label_answer : Result (List ℕ) (Option (Unit {0})) → List ℕ → Answer (Unit {0}) (List ℕ)
label_answer out rest = answers out rest

abbrev pub ends_label : List ℕ → Type 0
ends_label = NoneNext is_label_byte

-- what a byte is no more
pub record IsNoLabelByte (byte : ℕ) : Type 0 where
  pub no_word : is_word_byte byte ≡ false
  pub no_colon : eqb byte 58 ≡ false
  pub no_group : eqb byte 60 ≡ false
  pub no_bracket : eqb byte 91 ≡ false

pub no_label_byte : (byte : ℕ) → is_label_byte byte ≡ false → IsNoLabelByte byte
no_label_byte byte is =
    let first_parts = or_parts (is_word_byte byte) (eqb byte 58 || (eqb byte 60 || eqb byte 91)) is in
    let others = or_parts (eqb byte 58) (eqb byte 60 || eqb byte 91) first_parts.1 in
    let last_parts = or_parts (eqb byte 60) (eqb byte 91) others.1 in
    record { no_word = first_parts.0; no_colon = others.0; no_group = last_parts.0; no_bracket = last_parts.1 }

module _ (part : Part) where
  abbrev pub label_from : LabelState → Sierra (List ℕ)
  label_from = scan next_label (label_end part)

  -- one more byte
  pub step : (so_far : List ℕ) (spot after : LabelSpot) (byte : ℕ) (text : List ℕ) → next_spot (is_reserved so_far) spot byte ≡ Some after
      → label_from (state_at so_far spot) (byte ∷ text) ≡ label_from (state_at (so_far ++ byte ∷ []) after) text
  step so_far spot after byte text is =
      ap (λ o. scan_from next_label (label_end part) (option_map (λ s. state_at (so_far ++ byte ∷ []) s) o) (state_at so_far spot) byte text (λ a. label_from a text)) is

  -- no more byte
  pub stops : (so_far : List ℕ) (spot : LabelSpot) (byte : ℕ) (text : List ℕ) → next_spot (is_reserved so_far) spot byte ≡ None
      → label_from (state_at so_far spot) (byte ∷ text) ≡ answers (end_at part spot so_far (Some byte)) (byte ∷ text)
  stops so_far spot byte text is =
      ap (λ o. scan_from next_label (label_end part) (option_map (λ s. state_at (so_far ++ byte ∷ []) s) o) (state_at so_far spot) byte text (λ a. label_from a text)) is

  -- the answer is what was taken
  pub taken_from : (text rest so_far label : List ℕ) (spot : LabelSpot) → label_from (state_at so_far spot) text ≡ answers (Ok label) rest
      → (taken : List ℕ) × (text ≡ taken ++ rest) × (label ≡ so_far ++ taken)
  taken_from [] rest so_far label spot e = at_end spot e
    where
      done_so : label_answer (Ok so_far) [] ≡ answers (Ok label) rest → (taken : List ℕ) × ([] ≡ taken ++ rest) × (label ≡ so_far ++ taken)
      done_so e = let same : so_far ≡ label = cc in let none : [] ≡ rest = cc in ([], none, sym same ∙ sym (append-nil so_far))

      checked : (b : Bool) → label_answer (cond b (Err None) (Ok so_far)) [] ≡ answers (Ok label) rest → (taken : List ℕ) × ([] ≡ taken ++ rest) × (label ≡ so_far ++ taken)
      checked true e = absurd cc
      checked false e = done_so e

      at_end : (s : LabelSpot) → label_from (state_at so_far s) [] ≡ answers (Ok label) rest → (taken : List ℕ) × ([] ≡ taken ++ rest) × (label ≡ so_far ++ taken)
      at_end spots.Start e = absurd cc
      at_end spots.FirstWord e = checked (is_reserved so_far && not (may_begin part so_far)) e
      at_end spots.Colon e = absurd cc
      at_end spots.Path e = absurd cc
      at_end spots.Word e = done_so e
      at_end (spots.Group around) e = absurd cc
      at_end spots.Bracket e = absurd cc
      at_end spots.InBracket e = absurd cc
      at_end spots.Behind e = done_so e
  taken_from (byte ∷ text) rest so_far label spot e = go (next_spot (is_reserved so_far) spot byte) (λ after. taken_from text rest (so_far ++ byte ∷ []) label after) e
    where
      done_so : label_answer (Ok so_far) (byte ∷ text) ≡ answers (Ok label) rest → (taken : List ℕ) × (byte ∷ text ≡ taken ++ rest) × (label ≡ so_far ++ taken)
      done_so e = let same : so_far ≡ label = cc in let whole : byte ∷ text ≡ rest = cc in ([], whole, sym same ∙ sym (append-nil so_far))

      checked : (b : Bool) → label_answer (cond b (Err None) (Ok so_far)) (byte ∷ text) ≡ answers (Ok label) rest → (taken : List ℕ) × (byte ∷ text ≡ taken ++ rest) × (label ≡ so_far ++ taken)
      checked true e = absurd cc
      checked false e = done_so e

      ended : (s : LabelSpot) → label_answer (end_at part s so_far (Some byte)) (byte ∷ text) ≡ answers (Ok label) rest → (taken : List ℕ) × (byte ∷ text ≡ taken ++ rest) × (label ≡ so_far ++ taken)
      ended spots.Start e = absurd cc
      ended spots.FirstWord e = checked (is_reserved so_far && not (may_begin part so_far)) e
      ended spots.Colon e = absurd cc
      ended spots.Path e = absurd cc
      ended spots.Word e = done_so e
      ended (spots.Group around) e = absurd cc
      ended spots.Bracket e = absurd cc
      ended spots.InBracket e = absurd cc
      ended spots.Behind e = checked (is_word_byte byte) e

      go : (o : Option LabelSpot)
          → ((after : LabelSpot) → label_from (state_at (so_far ++ byte ∷ []) after) text ≡ answers (Ok label) rest → (taken : List ℕ) × (text ≡ taken ++ rest) × (label ≡ (so_far ++ byte ∷ []) ++ taken))
          → scan_from next_label (label_end part) (option_map (λ s. state_at (so_far ++ byte ∷ []) s) o) (state_at so_far spot) byte text (λ a. label_from a text) ≡ answers (Ok label) rest
          → (taken : List ℕ) × (byte ∷ text ≡ taken ++ rest) × (label ≡ so_far ++ taken)
      go None more e = ended spot e
      go (Some after) more e =
          let others = more after e in
          (byte ∷ others.0, ap (λ (t : List ℕ). byte ∷ t) others.1, others.2 ∙ append_assoc so_far (byte ∷ []) others.0)

  -- ---- what the form has is read

  -- from this spot on, whatever the label is so far
  abbrev pub ReadsFrom : LabelSpot → List ℕ → List ℕ → Type 0
  ReadsFrom spot text rest = (so_far : List ℕ) → (label : List ℕ) × (label_from (state_at so_far spot) text ≡ answers (Ok label) rest)

  pub goes : (spot after : LabelSpot) (byte : ℕ) (text rest : List ℕ) → ((so_far : List ℕ) → next_spot (is_reserved so_far) spot byte ≡ Some after)
      → ReadsFrom after text rest → ReadsFrom spot (byte ∷ text) rest
  goes spot after byte text rest is reads so_far =
      let more = reads (so_far ++ byte ∷ []) in (more.0, step so_far spot after byte text (is so_far) ∙ more.1)

  pub word_ends : (rest : List ℕ) → ends_label rest → ReadsFrom spots.Word rest rest
  word_ends [] ends so_far = (so_far, refl)
  word_ends (byte ∷ rest) ends so_far =
      let none = no_label_byte byte ends in
      (so_far, stops so_far spots.Word byte rest (rw (none.no_word, none.no_colon, none.no_group, none.no_bracket) refl))

  pub behind_ends : (rest : List ℕ) → ends_label rest → ReadsFrom spots.Behind rest rest
  behind_ends [] ends so_far = (so_far, refl)
  behind_ends (byte ∷ rest) ends so_far =
      let none = no_label_byte byte ends in (
        so_far,
        stops so_far spots.Behind byte rest (rw (none.no_colon, none.no_group, none.no_bracket) refl)
            ∙ ap (λ b. label_answer (cond b (Err None) (Ok so_far)) (byte ∷ rest)) none.no_word,
      )

  grouped_reads : (text rest final : List ℕ) (around : ℕ) → Grouped text rest → ReadsFrom (spots.Group around) rest final → ReadsFrom (spots.Group around) text final
  grouped_reads text rest final around (nothing _) reads = reads
  grouped_reads text rest final around (group_character byte more _ is form) reads =
      goes (spots.Group around) (spots.Group around) byte more final (λ so_far. rw is refl) (grouped_reads more rest final around form reads)
  grouped_reads text rest final around (inner_group inner between _ form more) reads =
      goes (spots.Group around) (spots.Group (suc around)) 60 inner final (λ so_far. refl)
      (grouped_reads inner (62 ∷ between) final (suc around) form
      (goes (spots.Group (suc around)) (spots.Group around) 62 between final (λ so_far. refl) (grouped_reads between rest final around more reads)))

  -- a group, from behind its `<`
  pub group_reads : (text between final : List ℕ) → Grouped text (62 ∷ between) → ReadsFrom spots.Behind between final → ReadsFrom (spots.Group 0) text final
  group_reads text between final form reads =
      grouped_reads text (62 ∷ between) final 0 form (goes (spots.Group 0) spots.Behind 62 between final (λ so_far. refl) reads)

  in_bracket_reads : (text rest final : List ℕ) → Bracketed text rest → ReadsFrom spots.InBracket rest final → ReadsFrom spots.Bracket text final × ReadsFrom spots.InBracket text final
  in_bracket_reads text rest final (last byte _ is) reads =
      (goes spots.Bracket spots.InBracket byte rest final (λ so_far. rw is refl) reads, goes spots.InBracket spots.InBracket byte rest final (λ so_far. rw is refl) reads)
  in_bracket_reads text rest final (bracket_character byte more _ is form) reads =
      let others = in_bracket_reads more rest final form reads in
      (goes spots.Bracket spots.InBracket byte more final (λ so_far. rw is refl) others.1, goes spots.InBracket spots.InBracket byte more final (λ so_far. rw is refl) others.1)

  -- a bracket, from behind its `[`
  pub bracket_reads : (text between final : List ℕ) → Bracketed text (93 ∷ between) → ReadsFrom spots.Behind between final → ReadsFrom spots.Bracket text final
  bracket_reads text between final form reads =
      (in_bracket_reads text (93 ∷ between) final form (goes spots.InBracket spots.Behind 93 between final (λ so_far. refl) reads)).0

  word_bytes_read : (more between final : List ℕ) → list_all is_word_byte more ≡ true → ReadsFrom spots.Word between final → ReadsFrom spots.Word (more ++ between) final
  word_bytes_read [] between final all reads = reads
  word_bytes_read (byte ∷ more) between final all reads =
      let both = and_parts (is_word_byte byte) (list_all is_word_byte more) all in
      let is = both.0 in
      goes spots.Word spots.Word byte (more ++ between) final (λ so_far. rw is refl) (word_bytes_read more between final both.1 reads)

  pub path_word_reads : (word text between final : List ℕ) → WordText word text between → ReadsFrom spots.Word between final → ReadsFrom spots.Path text final
  path_word_reads word text between final form reads = go word form.is_word form.whole.0
    where
      go : (w : List ℕ) → IsWord w → text ≡ w ++ between → ReadsFrom spots.Path text final
      go [] is text_is = absurd is
      go (byte ∷ more) is text_is =
          let starts = is.0 in
          subst (λ (t : List ℕ). ReadsFrom spots.Path t final) (sym text_is)
          (goes spots.Path spots.Word byte (more ++ between) final (λ so_far. rw starts refl) (word_bytes_read more between final is.1 reads))

  -- what a tail begins with, from where its first byte was taken
  pub tails_read : (text rest : List ℕ) → Tails text rest → ends_label rest → ReadsFrom spots.Behind text rest × ReadsFrom spots.Word text rest
  tails_read text rest (no_more _) ends = (behind_ends rest ends, word_ends rest ends)
  tails_read text rest (path word inner between _ form more) ends =
      let colon = goes spots.Colon spots.Path 58 inner rest (λ so_far. refl) (path_word_reads word inner between rest form (tails_read between rest more ends).1) in
      (goes spots.Behind spots.Colon 58 (58 ∷ inner) rest (λ so_far. refl) colon, goes spots.Word spots.Colon 58 (58 ∷ inner) rest (λ so_far. refl) colon)
  tails_read text rest (path_group inner between _ form more) ends =
      let behind_path = goes spots.Path (spots.Group 0) 60 inner rest (λ so_far. refl) (group_reads inner between rest form (tails_read between rest more ends).0) in
      let colon = goes spots.Colon spots.Path 58 (60 ∷ inner) rest (λ so_far. refl) behind_path in
      (goes spots.Behind spots.Colon 58 (58 ∷ 60 ∷ inner) rest (λ so_far. refl) colon, goes spots.Word spots.Colon 58 (58 ∷ 60 ∷ inner) rest (λ so_far. refl) colon)
  tails_read text rest (group inner between _ form more) ends =
      let opened = group_reads inner between rest form (tails_read between rest more ends).0 in
      (goes spots.Behind (spots.Group 0) 60 inner rest (λ so_far. refl) opened, goes spots.Word (spots.Group 0) 60 inner rest (λ so_far. refl) opened)
  tails_read text rest (bracket inner between _ form more) ends =
      let opened = bracket_reads inner between rest form (tails_read between rest more ends).0 in
      (goes spots.Behind spots.Bracket 91 inner rest (λ so_far. refl) opened, goes spots.Word spots.Bracket 91 inner rest (λ so_far. refl) opened)

  -- ---- each state can be ended

  unfoldable pub ending_of : (spot : LabelSpot) → (ending : List ℕ) × ((rest : List ℕ) → ends_label rest → ReadsFrom spot (ending ++ rest) rest)
  ending_of spots.Start = (
    97 ∷ 58 ∷ 58 ∷ 97 ∷ [],
    λ rest ends.
        goes spots.Start spots.FirstWord 97 (58 ∷ 58 ∷ 97 ∷ rest) rest (λ so_far. refl) (goes spots.FirstWord spots.Colon 58 (58 ∷ 97 ∷ rest) rest (λ so_far. refl)
        (goes spots.Colon spots.Path 58 (97 ∷ rest) rest (λ so_far. refl) (goes spots.Path spots.Word 97 rest rest (λ so_far. refl) (word_ends rest ends)))),
  )
  ending_of spots.FirstWord = (
    58 ∷ 58 ∷ 97 ∷ [],
    λ rest ends.
        goes spots.FirstWord spots.Colon 58 (58 ∷ 97 ∷ rest) rest (λ so_far. refl)
        (goes spots.Colon spots.Path 58 (97 ∷ rest) rest (λ so_far. refl) (goes spots.Path spots.Word 97 rest rest (λ so_far. refl) (word_ends rest ends))),
  )
  ending_of spots.Colon = (
    58 ∷ 97 ∷ [],
    λ rest ends.
        goes spots.Colon spots.Path 58 (97 ∷ rest) rest (λ so_far. refl) (goes spots.Path spots.Word 97 rest rest (λ so_far. refl) (word_ends rest ends)),
  )
  ending_of spots.Path = (97 ∷ [], λ rest ends. goes spots.Path spots.Word 97 rest rest (λ so_far. refl) (word_ends rest ends))
  ending_of spots.Word = ([], word_ends)
  ending_of (spots.Group around) = go around
    where
      go : (n : ℕ) → (ending : List ℕ) × ((rest : List ℕ) → ends_label rest → ReadsFrom (spots.Group n) (ending ++ rest) rest)
      go zero = (62 ∷ [], λ rest ends. goes (spots.Group 0) spots.Behind 62 rest rest (λ so_far. refl) (behind_ends rest ends))
      go (suc n) =
          let others = go n in
          (62 ∷ others.0, λ rest ends. goes (spots.Group (suc n)) (spots.Group n) 62 (others.0 ++ rest) rest (λ so_far. refl) (others.1 rest ends))
  ending_of spots.Bracket = (
    97 ∷ 93 ∷ [],
    λ rest ends.
        goes spots.Bracket spots.InBracket 97 (93 ∷ rest) rest (λ so_far. refl) (goes spots.InBracket spots.Behind 93 rest rest (λ so_far. refl) (behind_ends rest ends)),
  )
  ending_of spots.InBracket = (93 ∷ [], λ rest ends. goes spots.InBracket spots.Behind 93 rest rest (λ so_far. refl) (behind_ends rest ends))
  ending_of spots.Behind = ([], behind_ends)

  unfoldable pub label_ends : (state : LabelState) → Ends ends_label (label_from state) []
  label_ends state =
      let ending = ending_of state.spot in (
        ending.0,
        state.so_far ++ ending.0,
        λ rest ends.
            let read = ending.1 rest ends state.so_far in
            let taken = taken_from (ending.0 ++ rest) rest state.so_far read.0 state.spot read.1 in
            let same = cancel ending.0 taken.0 rest taken.1 in
            read.1 ∙ ap (λ l. answers (Ok l) rest) (taken.2 ∙ ap (λ (t : List ℕ). state.so_far ++ t) (sym same)),
      )

  pub label_is : IsReader ends_label (label_at part)
  unfolding label_at
  label_is = scan_is next_label (label_end part) label_ends at_start
