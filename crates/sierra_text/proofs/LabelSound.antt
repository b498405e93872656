-- What is read as a label is one.
use Rattle.std.proofs.Common.{◌≡◌, ℕ, zero, suc, List, [], ◌∷◌, ◌++◌, Bool, true, false, cond, not, ◌&&◌, eqb, Option, None, Some, Ok, Err, refl, sym, ◌∙◌, ap, subst, append_assoc, inl, inr, ◌⊎◌}
use Rattle.std.specs.Prelude.{option_map}
use Rattle.std.specs.List.{list_all}
use Rattle.std.proofs.lemmas.Bool.{and_parts, and_from, eqb-true}
use Rattle.std.proofs.lemmas.List.{append-nil}
use Rattle.text_reading.specs.Tokens.{is_word_byte, NoneNext}
use Rattle.text_reading.specs.Reading.{first, Answer.answers, scan_from}
use Rattle.text_reading.proofs.Exact.{IsExact}
use Rattle.sierra_text.specs.declared.part.Part.{Part}
use Rattle.sierra_text.specs.declared.labels.LabelSpot.{LabelSpot}
use Rattle.sierra_text.specs.declared.labels.LabelSpot.TheVariants as spots
use Rattle.sierra_text.specs.Ids.{is_word_start, WordText, is_reserved, is_group_byte, is_bracket_byte, Grouped, Bracketed, Tails, is_label_byte, makes_label}
use Rattle.sierra_text.specs.Ids.{Grouped.nothing, Grouped.character as group_character, Grouped.group as inner_group, Bracketed.last, Bracketed.character as bracket_character, Tails.no_more, Tails.path, Tails.path_group, Tails.group, Tails.bracket}
use Rattle.sierra_text.specs.LabelReading.{may_begin, tail_spot, behind_group, next_spot, LabelState, next_label, end_at, label_end, label_at}
use Rattle.sierra_text.proofs.LabelFacts.{state_at, label_answer, ends_label, label_from, step, stops, taken_from}
use Rattle.sierra_text.proofs.LabelForms.{AnyLabel, no_reserved, label_complete}

-- groups that are still open, each with what stands in it, and the tails behind them
abbrev Closing : ℕ → List ℕ → List ℕ → Type 0
Closing zero text rest = (between : List ℕ) × Grouped text (62 ∷ between) × Tails between rest
Closing (suc around) text rest = (between : List ℕ) × Grouped text (62 ∷ between) × Closing around between rest

-- a tail, from behind its `::`
abbrev PathTail : List ℕ → List ℕ → Type 0
PathTail text rest =
    ((word : List ℕ) × (between : List ℕ) × WordText word text between × Tails between rest)
    ⊎ ((inner : List ℕ) × (between : List ℕ) × (text ≡ 60 ∷ inner) × Grouped inner (62 ∷ between) × Tails between rest)

-- what stands from a spot on
abbrev FromSpot : LabelSpot → List ℕ → List ℕ → Type 0
FromSpot spots.Start text rest = Unit {0}
FromSpot spots.FirstWord text rest = Unit {0}
FromSpot spots.Colon text rest = (inner : List ℕ) × (text ≡ 58 ∷ inner) × PathTail inner rest
FromSpot spots.Path text rest = PathTail text rest
FromSpot spots.Word text rest = (more : List ℕ) × (between : List ℕ) × (text ≡ more ++ between) × (list_all is_word_byte more ≡ true) × NoneNext is_word_byte between × Tails between rest
FromSpot (spots.Group around) text rest = Closing around text rest
FromSpot spots.Bracket text rest = (between : List ℕ) × Bracketed text (93 ∷ between) × Tails between rest
FromSpot spots.InBracket text rest = (between : List ℕ) × ((text ≡ 93 ∷ between) ⊎ Bracketed text (93 ∷ between)) × Tails between rest
FromSpot spots.Behind text rest = Tails text rest

open_more : (around byte : ℕ) (text rest : List ℕ) → is_group_byte byte ≡ true → Closing around text rest → Closing around (byte ∷ text) rest
open_more zero byte text rest is c = (c.0, group_character byte text (62 ∷ c.0) is c.1, c.2)
open_more (suc around) byte text rest is c = (c.0, group_character byte text (62 ∷ c.0) is c.1, c.2)

open_inner : (around : ℕ) (text between rest : List ℕ) → Grouped text (62 ∷ between) → Closing around between rest → Closing around (60 ∷ text) rest
open_inner zero text between rest form c = (c.0, inner_group text between (62 ∷ c.0) form c.1, c.2)
open_inner (suc around) text between rest form c = (c.0, inner_group text between (62 ∷ c.0) form c.1, c.2)

-- a tail by its first byte, or none
tail_by : (byte : ℕ) (text rest : List ℕ) → ((after : LabelSpot) → tail_spot byte ≡ Some after → FromSpot after text rest) → (tail_spot byte ≡ None → byte ∷ text ≡ rest) → Tails (byte ∷ text) rest
tail_by byte text rest next none = colon_by (eqb byte 58) refl
  where
    Whole : ℕ → Type 0
    Whole b = Tails (b ∷ text) rest

    path_by : (inner : List ℕ) → PathTail inner rest → Tails (58 ∷ 58 ∷ inner) rest
    path_by inner (inl w) = path w.0 inner w.1 rest w.2 w.3
    path_by inner (inr w) = subst (λ (t : List ℕ). Tails (58 ∷ 58 ∷ t) rest) (sym w.2) (path_group w.0 w.1 rest w.3 w.4)

    bracket_by : (b : Bool) → eqb byte 91 ≡ b → eqb byte 58 ≡ false → eqb byte 60 ≡ false → Tails (byte ∷ text) rest
    bracket_by true was no_colon no_group =
        let w = next spots.Bracket (rw (no_colon, no_group, was) refl) in
        subst (λ (b : ℕ). Tails (b ∷ text) rest) (sym (eqb-true byte 91 was)) (bracket text w.0 rest w.1 w.2)
    bracket_by false was no_colon no_group =
        let same = none (rw (no_colon, no_group, was) refl) in
        subst (λ (t : List ℕ). Tails (byte ∷ text) t) same (no_more (byte ∷ text))

    group_by : (b : Bool) → eqb byte 60 ≡ b → eqb byte 58 ≡ false → Tails (byte ∷ text) rest
    group_by true was no_colon =
        let w = next (spots.Group 0) (rw (no_colon, was) refl) in
        subst (λ (b : ℕ). Tails (b ∷ text) rest) (sym (eqb-true byte 60 was)) (group text w.0 rest w.1 w.2)
    group_by false was no_colon = bracket_by (eqb byte 91) refl no_colon was

    colon_by : (b : Bool) → eqb byte 58 ≡ b → Tails (byte ∷ text) rest
    colon_by true was =
        let w = next spots.Colon (rw was refl) in
        subst (λ (b : ℕ). Tails (b ∷ text) rest) (sym (eqb-true byte 58 was)) (subst (λ (t : List ℕ). Tails (58 ∷ t) rest) (sym w.1) (path_by w.0 w.2))
    colon_by false was = group_by (eqb byte 60) refl was

module _ (part : Part) where
  -- the spots behind one byte more
  more_from : (spot : LabelSpot) (byte : ℕ) (text rest so_far label : List ℕ)
      → ((after : LabelSpot) → next_spot (is_reserved so_far) spot byte ≡ Some after → FromSpot after text rest)
      → (next_spot (is_reserved so_far) spot byte ≡ None → label_answer (end_at part spot so_far (Some byte)) (byte ∷ text) ≡ answers (Ok label) rest)
      → FromSpot spot (byte ∷ text) rest
  more_from spots.Start byte text rest so_far label next none = tt
  more_from spots.FirstWord byte text rest so_far label next none = tt
  more_from spots.Colon byte text rest so_far label next none = go (eqb byte 58) refl
    where
      go : (b : Bool) → eqb byte 58 ≡ b → FromSpot spots.Colon (byte ∷ text) rest
      go true was = (text, ap (λ (c : ℕ). c ∷ text) (eqb-true byte 58 was), next spots.Path (rw was refl))
      go false was = let stop = none (rw was refl) in absurd cc
  more_from spots.Path byte text rest so_far label next none = go (is_word_start byte) refl
    where
      open_by : (b : Bool) → eqb byte 60 ≡ b → is_word_start byte ≡ false → PathTail (byte ∷ text) rest
      open_by true was no_word =
          let w = next (spots.Group 0) (rw (no_word, was) refl) in
          inr (text, w.0, ap (λ (c : ℕ). c ∷ text) (eqb-true byte 60 was), w.1, w.2)
      open_by false was no_word = let stop = none (rw (no_word, was) refl) in absurd cc

      go : (b : Bool) → is_word_start byte ≡ b → PathTail (byte ∷ text) rest
      go true was =
          let w = next spots.Word (rw was refl) in
          inl (byte ∷ w.0, w.1, record { is_word = (was, w.3); whole = (ap (λ (t : List ℕ). byte ∷ t) w.2, w.4) }, w.5)
      go false was = open_by (eqb byte 60) refl was
  more_from spots.Word byte text rest so_far label next none = go (is_word_byte byte) refl
    where
      go : (b : Bool) → is_word_byte byte ≡ b → FromSpot spots.Word (byte ∷ text) rest
      go true was =
          let w = next spots.Word (rw was refl) in
          (byte ∷ w.0, w.1, ap (λ (t : List ℕ). byte ∷ t) w.2, and_from (is_word_byte byte) (list_all is_word_byte w.0) was w.3, w.4, w.5)
      go false was = (
        [],
        byte ∷ text,
        refl,
        refl,
        was,
        tail_by byte text rest (λ after is. next after (rw was is)) (λ is. let stop = none (rw was is) in let same : byte ∷ text ≡ rest = cc in same),
      )
  more_from (spots.Group around) byte text rest so_far label next none = go (is_group_byte byte) refl
    where
      close : (n : ℕ) → FromSpot (behind_group n) text rest → Closing n (62 ∷ text) rest
      close zero behind = (text, nothing (62 ∷ text), behind)
      close (suc n) behind = (text, nothing (62 ∷ text), behind)

      close_by : (b : Bool) → eqb byte 62 ≡ b → is_group_byte byte ≡ false → eqb byte 60 ≡ false → Closing around (byte ∷ text) rest
      close_by true was no_character no_group =
          let w = next (behind_group around) (rw (no_character, no_group, was) refl) in
          subst (λ (c : ℕ). Closing around (c ∷ text) rest) (sym (eqb-true byte 62 was)) (close around w)
      close_by false was no_character no_group = let stop = none (rw (no_character, no_group, was) refl) in absurd cc

      open_by : (b : Bool) → eqb byte 60 ≡ b → is_group_byte byte ≡ false → Closing around (byte ∷ text) rest
      open_by true was no_character =
          let w = next (spots.Group (suc around)) (rw (no_character, was) refl) in
          subst (λ (c : ℕ). Closing around (c ∷ text) rest) (sym (eqb-true byte 60 was)) (open_inner around text w.0 rest w.1 w.2)
      open_by false was no_character = close_by (eqb byte 62) refl no_character was

      go : (b : Bool) → is_group_byte byte ≡ b → Closing around (byte ∷ text) rest
      go true was = open_more around byte text rest was (next (spots.Group around) (rw was refl))
      go false was = open_by (eqb byte 60) refl was
  more_from spots.Bracket byte text rest so_far label next none = go (is_bracket_byte byte) refl
    where
      behind : is_bracket_byte byte ≡ true → FromSpot spots.InBracket text rest → FromSpot spots.Bracket (byte ∷ text) rest
      behind was (between, inl end, others) = (between, subst (λ (t : List ℕ). Bracketed (byte ∷ t) (93 ∷ between)) (sym end) (last byte (93 ∷ between) was), others)
      behind was (between, inr form, others) = (between, bracket_character byte text (93 ∷ between) was form, others)

      go : (b : Bool) → is_bracket_byte byte ≡ b → FromSpot spots.Bracket (byte ∷ text) rest
      go true was = behind was (next spots.InBracket (rw was refl))
      go false was = let stop = none (rw was refl) in absurd cc
  more_from spots.InBracket byte text rest so_far label next none = go (is_bracket_byte byte) refl
    where
      behind : is_bracket_byte byte ≡ true → FromSpot spots.InBracket text rest → FromSpot spots.InBracket (byte ∷ text) rest
      behind was (between, inl end, others) = (between, inr (subst (λ (t : List ℕ). Bracketed (byte ∷ t) (93 ∷ between)) (sym end) (last byte (93 ∷ between) was)), others)
      behind was (between, inr form, others) = (between, inr (bracket_character byte text (93 ∷ between) was form), others)

      close_by : (b : Bool) → eqb byte 93 ≡ b → is_bracket_byte byte ≡ false → FromSpot spots.InBracket (byte ∷ text) rest
      close_by true was no_character = (text, inl (ap (λ (c : ℕ). c ∷ text) (eqb-true byte 93 was)), next spots.Behind (rw (no_character, was) refl))
      close_by false was no_character = let stop = none (rw (no_character, was) refl) in absurd cc

      go : (b : Bool) → is_bracket_byte byte ≡ b → FromSpot spots.InBracket (byte ∷ text) rest
      go true was = behind was (next spots.InBracket (rw was refl))
      go false was = close_by (eqb byte 93) refl was
  more_from spots.Behind byte text rest so_far label next none = tail_by byte text rest next (λ is. stopped (is_word_byte byte) (none is))
    where
      stopped : (b : Bool) → label_answer (cond b (Err None) (Ok so_far)) (byte ∷ text) ≡ answers (Ok label) rest → byte ∷ text ≡ rest
      stopped true e = absurd cc
      stopped false e = cc

  sound_from : (text rest so_far label : List ℕ) (spot : LabelSpot) → label_from part (state_at so_far spot) text ≡ answers (Ok label) rest → FromSpot spot text rest
  sound_from [] rest so_far label spots.Start e = tt
  sound_from [] rest so_far label spots.FirstWord e = tt
  sound_from [] rest so_far label spots.Colon e = absurd cc
  sound_from [] rest so_far label spots.Path e = absurd cc
  sound_from [] rest so_far label spots.Word e =
      let none : [] ≡ rest = cc in ([], [], refl, refl, tt, subst (λ (t : List ℕ). Tails [] t) none (no_more []))
  sound_from [] rest so_far label (spots.Group around) e = absurd cc
  sound_from [] rest so_far label spots.Bracket e = absurd cc
  sound_from [] rest so_far label spots.InBracket e = absurd cc
  sound_from [] rest so_far label spots.Behind e = let none : [] ≡ rest = cc in subst (λ (t : List ℕ). Tails [] t) none (no_more [])
  sound_from (byte ∷ text) rest so_far label spot e =
      more_from spot byte text rest so_far label
      (λ after is. sound_from text rest (so_far ++ byte ∷ []) label after (sym (step part so_far spot after byte text is) ∙ e))
      (λ is. sym (stops part so_far spot byte text is) ∙ e)

  -- ---- the first word

  -- What stands behind the first bytes of the first word: more of it, and then nothing more or tails.
  pub record FirstWord (so_far text rest label : List ℕ) : Type 0 where
    pub more : List ℕ
    pub tails : List ℕ
    pub text_is : text ≡ more ++ tails
    pub all : list_all is_word_byte more ≡ true
    pub word_ends : NoneNext is_word_byte tails
    pub behind : ((tails ≡ rest) × (label ≡ so_far ++ more) × ((is_reserved label && not (may_begin part label)) ≡ false))
        ⊎ (Tails tails rest × (is_reserved (so_far ++ more) ≡ true → NoneNext (λ byte. eqb byte 91) tails) × (is_reserved label ≡ false))

  ends_word : (so_far text rest label : List ℕ) → label_answer (cond (is_reserved so_far && not (may_begin part so_far)) (Err None) (Ok so_far)) text ≡ answers (Ok label) rest
      → NoneNext is_word_byte text → FirstWord so_far text rest label
  ends_word so_far text rest label e ends = go (is_reserved so_far && not (may_begin part so_far)) refl e
    where
      go : (b : Bool) → (is_reserved so_far && not (may_begin part so_far)) ≡ b → label_answer (cond b (Err None) (Ok so_far)) text ≡ answers (Ok label) rest → FirstWord so_far text rest label
      go true was e = absurd cc
      go false was e =
          let same : so_far ≡ label = cc in
          let left : text ≡ rest = cc in
          record {
            more = [];
            tails = text;
            text_is = refl;
            all = refl;
            word_ends = ends;
            behind = inl (left, sym same ∙ sym (append-nil so_far), subst (λ (l : List ℕ). (is_reserved l && not (may_begin part l)) ≡ false) same was);
          }

  first_sound : (text rest so_far label : List ℕ) → label_from part (state_at so_far spots.FirstWord) text ≡ answers (Ok label) rest → FirstWord so_far text rest label
  first_sound [] rest so_far label e = ends_word so_far [] rest label e tt
  first_sound (byte ∷ text) rest so_far label e = go (is_word_byte byte) refl (first_sound text rest (so_far ++ byte ∷ []) label)
    where
      longer : is_word_byte byte ≡ true → FirstWord (so_far ++ byte ∷ []) text rest label → FirstWord so_far (byte ∷ text) rest label
      longer was w =
          let whole : (so_far ++ byte ∷ []) ++ w.more ≡ so_far ++ (byte ∷ w.more) = append_assoc so_far (byte ∷ []) w.more in
          record {
            more = byte ∷ w.more;
            tails = w.tails;
            text_is = ap (λ (t : List ℕ). byte ∷ t) w.text_is;
            all = and_from (is_word_byte byte) (list_all is_word_byte w.more) was w.all;
            word_ends = w.word_ends;
            behind = subst (λ (l : List ℕ). ((w.tails ≡ rest) × (label ≡ l) × ((is_reserved label && not (may_begin part label)) ≡ false))
                ⊎ (Tails w.tails rest × (is_reserved l ≡ true → NoneNext (λ b. eqb b 91) w.tails) × (is_reserved label ≡ false))) whole w.behind;
          }

      ends_here : is_word_byte byte ≡ false → next_spot (is_reserved so_far) spots.FirstWord byte ≡ None → FirstWord so_far (byte ∷ text) rest label
      ends_here no_word is = ends_word so_far (byte ∷ text) rest label (sym (stops part so_far spots.FirstWord byte text is) ∙ e) no_word

      tail_here : is_word_byte byte ≡ false → (eqb byte 91 && is_reserved so_far) ≡ false → (o : Option LabelSpot) → tail_spot byte ≡ o → FirstWord so_far (byte ∷ text) rest label
      tail_here no_word no_bracket None was = ends_here no_word (rw (no_word, no_bracket) was)
      tail_here no_word no_bracket (Some after) was = record {
        more = [];
        tails = byte ∷ text;
        text_is = refl;
        all = refl;
        word_ends = no_word;
        behind = inr (
          tail_by byte text rest
              (λ spot is. sound_from text rest (so_far ++ byte ∷ []) label spot (sym (step part so_far spots.FirstWord spot byte text (rw (no_word, no_bracket) is)) ∙ e))
              (λ is. let clash : Some after ≡ None = sym was ∙ is in absurd cc),
          λ reserved. no_open (eqb byte 91) (is_reserved so_far) no_bracket (ap is_reserved (sym (append-nil so_far)) ∙ reserved),
          ap is_reserved (others.2 ∙ append_assoc so_far (byte ∷ []) others.0) ∙ no_reserved so_far byte others.0 no_word,
        );
      }
        where
          others : (taken : List ℕ) × (text ≡ taken ++ rest) × (label ≡ (so_far ++ byte ∷ []) ++ taken)
          others = taken_from part text rest (so_far ++ byte ∷ []) label after (sym (step part so_far spots.FirstWord after byte text (rw (no_word, no_bracket) was)) ∙ e)

          no_open : (a b : Bool) → (a && b) ≡ false → b ≡ true → a ≡ false
          no_open true b is reserved = let clash : true ≡ false = sym reserved ∙ is in absurd cc
          no_open false b is reserved = refl

      bracket_by : (b : Bool) → (eqb byte 91 && is_reserved so_far) ≡ b → is_word_byte byte ≡ false → FirstWord so_far (byte ∷ text) rest label
      bracket_by true was no_word = ends_here no_word (rw (no_word, was) refl)
      bracket_by false was no_word = tail_here no_word was (tail_spot byte) refl

      go : (b : Bool) → is_word_byte byte ≡ b → (label_from part (state_at (so_far ++ byte ∷ []) spots.FirstWord) text ≡ answers (Ok label) rest → FirstWord (so_far ++ byte ∷ []) text rest label)
          → FirstWord so_far (byte ∷ text) rest label
      go true was more = longer was (more (sym (step part so_far spots.FirstWord spots.FirstWord byte text (rw was refl)) ∙ e))
      go false was more = bracket_by (eqb byte 91 && is_reserved so_far) refl was

  -- ---- the end

  -- the state at which the scan ended, which goes no further
  record Ended (rest label : List ℕ) : Type 0 where
    final : LabelState
    answer : label_answer (label_end part final (first rest)) rest ≡ answers (Ok label) rest
    no_further : (byte : ℕ) (more : List ℕ) → rest ≡ byte ∷ more → next_spot (is_reserved final.so_far) final.spot byte ≡ None

  ended_at : (text rest so_far label : List ℕ) (spot : LabelSpot) → label_from part (state_at so_far spot) text ≡ answers (Ok label) rest → Ended rest label
  ended_at [] rest so_far label spot e =
      let none : [] ≡ rest = cc in
      subst (λ (t : List ℕ). Ended t label) none (record { final = state_at so_far spot; answer = e ∙ ap (λ (t : List ℕ). label_answer (Ok label) t) (sym none); no_further = λ byte more clash. absurd cc })
  ended_at (byte ∷ text) rest so_far label spot e = go (next_spot (is_reserved so_far) spot byte) refl (λ after. ended_at text rest (so_far ++ byte ∷ []) label after) e
    where
      go : (o : Option LabelSpot) → next_spot (is_reserved so_far) spot byte ≡ o
          → ((after : LabelSpot) → label_from part (state_at (so_far ++ byte ∷ []) after) text ≡ answers (Ok label) rest → Ended rest label)
          → scan_from next_label (label_end part) (option_map (λ s. state_at (so_far ++ byte ∷ []) s) o) (state_at so_far spot) byte text (λ a. label_from part a text) ≡ answers (Ok label) rest
          → Ended rest label
      go None was more e =
          let same : byte ∷ text ≡ rest = cc in
          subst (λ (t : List ℕ). Ended t label) same (record {
            final = state_at so_far spot;
            answer = e ∙ ap (λ (t : List ℕ). label_answer (Ok label) t) (sym same);
            no_further = λ other others is. let one : byte ≡ other = cc in subst (λ (b : ℕ). next_spot (is_reserved so_far) spot b ≡ None) one was;
          })
      go (Some after) was more e = more after e

  -- no byte follows that would go on with the label
  abbrev EndsSo : List ℕ → List ℕ → Type 0
  EndsSo label rest = (is_reserved label ≡ false → ends_label rest) × NoneNext makes_label rest

  none_left : (byte : ℕ) → is_word_byte byte ≡ false → tail_spot byte ≡ None → (is_label_byte byte ≡ false) × (makes_label byte ≡ false)
  none_left byte no_word none = go (eqb byte 58) (eqb byte 60) (eqb byte 91) refl refl refl
    where
      go : (a b c : Bool) → eqb byte 58 ≡ a → eqb byte 60 ≡ b → eqb byte 91 ≡ c → (is_label_byte byte ≡ false) × (makes_label byte ≡ false)
      go true b c was_a was_b was_c = let clash : Some spots.Colon ≡ None = sym (rw was_a refl) ∙ none in absurd cc
      go false true c was_a was_b was_c = let clash : Some (spots.Group 0) ≡ None = sym (rw (was_a, was_b) refl) ∙ none in absurd cc
      go false false true was_a was_b was_c = let clash : Some spots.Bracket ≡ None = sym (rw (was_a, was_b, was_c) refl) ∙ none in absurd cc
      go false false false was_a was_b was_c = (rw (no_word, was_a, was_b, was_c) refl, rw (no_word, was_a, was_b) refl)

  ends_so : (rest label : List ℕ) → Ended rest label → EndsSo label rest
  ends_so [] label ended = (λ _. tt, tt)
  ends_so (byte ∷ rest) label ended = go ended.final.spot ended.answer (ended.no_further byte rest refl)
    where
      so_far : List ℕ
      so_far = ended.final.so_far

      both_of : is_word_byte byte ≡ false → tail_spot byte ≡ None → EndsSo label (byte ∷ rest)
      both_of no_word none = let both = none_left byte no_word none in (λ _. both.0, both.1)

      in_word : (b : Bool) → is_word_byte byte ≡ b → cond b (Some spots.Word) (tail_spot byte) ≡ None → EndsSo label (byte ∷ rest)
      in_word true was none = absurd cc
      in_word false was none = both_of was none

      behind : (b : Bool) → is_word_byte byte ≡ b → label_answer (cond b (Err None) (Ok so_far)) (byte ∷ rest) ≡ answers (Ok label) (byte ∷ rest) → tail_spot byte ≡ None → EndsSo label (byte ∷ rest)
      behind true was e none = absurd cc
      behind false was e none = both_of was none

      first_same : (b : Bool) → label_answer (cond b (Err None) (Ok so_far)) (byte ∷ rest) ≡ answers (Ok label) (byte ∷ rest) → so_far ≡ label
      first_same true e = absurd cc
      first_same false e = cc

      in_first : (w o : Bool) → is_word_byte byte ≡ w → (eqb byte 91 && is_reserved so_far) ≡ o → so_far ≡ label
          → cond w (Some spots.FirstWord) (cond o None (tail_spot byte)) ≡ None → EndsSo label (byte ∷ rest)
      in_first true o was was_o same none = absurd cc
      in_first false false was was_o same none = both_of was none
      in_first false true was was_o same none =
          let parts = and_parts (eqb byte 91) (is_reserved so_far) was_o in
          let is : byte ≡ 91 = eqb-true byte 91 parts.0 in (
            λ free. let clash : true ≡ false = sym parts.1 ∙ ap is_reserved same ∙ free in absurd cc,
            subst (λ (b : ℕ). makes_label b ≡ false) (sym is) refl,
          )

      go : (spot : LabelSpot) → label_answer (end_at part spot so_far (Some byte)) (byte ∷ rest) ≡ answers (Ok label) (byte ∷ rest) → next_spot (is_reserved so_far) spot byte ≡ None → EndsSo label (byte ∷ rest)
      go spots.Start e none = absurd cc
      go spots.FirstWord e none = in_first (is_word_byte byte) (eqb byte 91 && is_reserved so_far) refl refl (first_same (is_reserved so_far && not (may_begin part so_far)) e) none
      go spots.Colon e none = absurd cc
      go spots.Path e none = absurd cc
      go spots.Word e none = in_word (is_word_byte byte) refl none
      go (spots.Group around) e none = absurd cc
      go spots.Bracket e none = absurd cc
      go spots.InBracket e none = absurd cc
      go spots.Behind e none = behind (is_word_byte byte) refl e none

  -- ---- the whole label

  label_parts : (byte : ℕ) (text rest label : List ℕ) → is_word_start byte ≡ true → (byte ∷ text ≡ label ++ rest) → EndsSo label rest → FirstWord (byte ∷ []) text rest label → AnyLabel part label (byte ∷ text) rest
  label_parts byte text rest label starts whole ends w = go w.behind
    where
      word : List ℕ
      word = byte ∷ w.more

      made : Tails w.tails rest → (is_reserved word ≡ true → NoneNext (λ b. eqb b 91) w.tails) → is_reserved label ≡ false → AnyLabel part label (byte ∷ text) rest
      made tails_are no_bracket free = inl (
        free,
        record {
          word = word;
          tails = w.tails;
          first_word = record { is_word = (starts, w.all); whole = (ap (λ (t : List ℕ). byte ∷ t) w.text_is, w.word_ends) };
          tails_are = tails_are;
          no_bracket = no_bracket;
          text_is = whole;
          whole = ends.0 free;
        },
      )

      reserved_by : (b : Bool) → is_reserved label ≡ b → (w.tails ≡ rest) → (label ≡ word) → (b && not (may_begin part label)) ≡ false → AnyLabel part label (byte ∷ text) rest
      reserved_by false was left same flag =
          made (subst (λ (t : List ℕ). Tails w.tails t) left (no_more w.tails)) (λ reserved. let clash : true ≡ false = sym reserved ∙ sym (ap is_reserved same) ∙ was in absurd cc) was
      reserved_by true was left same flag = inr (was, may (may_begin part label) refl flag, (whole, ends.1))
        where
          may : (m : Bool) → may_begin part label ≡ m → not m ≡ false → may_begin part label ≡ true
          may true was flag = was
          may false was flag = absurd cc

      go : ((w.tails ≡ rest) × (label ≡ (byte ∷ []) ++ w.more) × ((is_reserved label && not (may_begin part label)) ≡ false))
          ⊎ (Tails w.tails rest × (is_reserved ((byte ∷ []) ++ w.more) ≡ true → NoneNext (λ b. eqb b 91) w.tails) × (is_reserved label ≡ false)) → AnyLabel part label (byte ∷ text) rest
      go (inl h) = reserved_by (is_reserved label) refl h.0 h.1 (h.2)
      go (inr h) = made h.0 h.1 h.2

  pub label_sound : (text rest label : List ℕ) → label_at part text ≡ answers (Ok label) rest → AnyLabel part label text rest
  unfolding label_at
  label_sound [] rest label e = absurd cc
  label_sound (byte ∷ text) rest label e = go (is_word_start byte) refl
    where
      taken : (t : List ℕ) × (byte ∷ text ≡ t ++ rest) × (label ≡ [] ++ t)
      taken = taken_from part (byte ∷ text) rest [] label spots.Start e

      whole : byte ∷ text ≡ label ++ rest
      whole = taken.1 ∙ ap (λ (t : List ℕ). t ++ rest) (sym taken.2)

      go : (b : Bool) → is_word_start byte ≡ b → AnyLabel part label (byte ∷ text) rest
      go true was =
          let others : label_from part (state_at (byte ∷ []) spots.FirstWord) text ≡ answers (Ok label) rest = sym (step part [] spots.Start spots.FirstWord byte text (rw was refl)) ∙ e in
          label_parts byte text rest label was whole (ends_so rest label (ended_at text rest (byte ∷ []) label spots.FirstWord others)) (first_sound text rest (byte ∷ []) label others)
      go false was =
          let stop : label_answer (Err None) (byte ∷ text) ≡ answers (Ok label) rest = sym (stops part [] spots.Start byte text (rw was refl)) ∙ e in
          absurd cc

  pub label_exact : IsExact (label_at part) (AnyLabel part)
  label_exact = record { sound = label_sound; complete = label_complete part }
