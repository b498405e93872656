-- Reading labels and words, byte by byte.
use Rattle.std.specs.Prelude.{ℕ, zero, suc, List, [], ◌∷◌, ◌++◌, Bool, true, false, cond, not, ◌&&◌, ◌==◌, Option, None, Some, Result, Ok, Err, option_map, codes}
use Rattle.std.specs.Str.{bytes_eq}
use Rattle.text_reading.specs.Tokens.{is_word_byte}
use Rattle.text_reading.specs.Reading.{Reader, scan}
use Rattle.text_reading.specs.TokenReading.{token}
use Rattle.sierra_text.specs.declared.part.Part.{Part}
use Rattle.sierra_text.specs.declared.part.Part.TheVariants as parts
use Rattle.sierra_text.specs.declared.labels.LabelSpot.{LabelSpot}
use Rattle.sierra_text.specs.declared.labels.LabelSpot.TheVariants as spots
use Rattle.sierra_text.specs.Ids.{is_word_start, is_reserved, is_group_byte, is_bracket_byte}

-- readers of Sierra text: numbers have one kind of limit, that of their place
abbrev pub Sierra : Type 0 → Type 0
Sierra = Reader (Unit {0})

-- that kind
abbrev pub too_wide : Unit {0}
too_wide = tt

-- which reserved words may begin a declaration, where the last declaration belongs to this part
abbrev pub may_begin : Part → List ℕ → Bool
may_begin parts.Types word = true
may_begin parts.Libfuncs word = not (bytes_eq word (codes "type"))
may_begin parts.Statements word = bytes_eq word (codes "return")
may_begin parts.Functions word = false

-- ---- labels

-- the beginning of a tail
abbrev pub tail_spot : ℕ → Option LabelSpot
tail_spot byte = cond (byte == 58) (Some spots.Colon) (cond (byte == 60) (Some (spots.Group 0)) (cond (byte == 91) (Some spots.Bracket) None))

-- behind the end of a group, with so many groups open around it
abbrev pub behind_group : ℕ → LabelSpot
behind_group zero = spots.Behind
behind_group (suc around) = spots.Group around

-- where the byte behind this one stands, if the label goes on with it
abbrev pub next_spot : Bool → LabelSpot → ℕ → Option LabelSpot
next_spot reserved spots.Start byte = cond (is_word_start byte) (Some spots.FirstWord) None
next_spot reserved spots.FirstWord byte = cond (is_word_byte byte) (Some spots.FirstWord) (cond (byte == 91 && reserved) None (tail_spot byte))
next_spot reserved spots.Colon byte = cond (byte == 58) (Some spots.Path) None
next_spot reserved spots.Path byte = cond (is_word_start byte) (Some spots.Word) (cond (byte == 60) (Some (spots.Group 0)) None)
next_spot reserved spots.Word byte = cond (is_word_byte byte) (Some spots.Word) (tail_spot byte)
next_spot reserved (spots.Group around) byte =
    cond (is_group_byte byte) (Some (spots.Group around)) (cond (byte == 60) (Some (spots.Group (suc around))) (cond (byte == 62) (Some (behind_group around)) None))
next_spot reserved spots.Bracket byte = cond (is_bracket_byte byte) (Some spots.InBracket) None
next_spot reserved spots.InBracket byte = cond (is_bracket_byte byte) (Some spots.InBracket) (cond (byte == 93) (Some spots.Behind) None)
next_spot reserved spots.Behind byte = tail_spot byte

-- the label so far, and where its next byte stands
pub record LabelState : Type 0 where
  pub so_far : List ℕ
  pub spot : LabelSpot

abbrev pub at_start : LabelState
at_start = record { so_far = []; spot = spots.Start }

abbrev pub next_label : LabelState → ℕ → Option LabelState
next_label state byte =
    option_map (λ spot. record { so_far = state.so_far ++ byte ∷ []; spot = spot }) (next_spot (is_reserved state.so_far) state.spot byte)

-- a group or a bracket has ended, and no word follows it
abbrev pub ends_tail : List ℕ → Option ℕ → Result (List ℕ) (Option (Unit {0}))
ends_tail label None = Ok label
ends_tail label (Some byte) = cond (is_word_byte byte) (Err None) (Ok label)

-- the label, unless it ends where none may, or is a reserved word that may not begin a declaration here
abbrev pub end_at : Part → LabelSpot → List ℕ → Option ℕ → Result (List ℕ) (Option (Unit {0}))
end_at part spots.Start label byte = Err None
end_at part spots.FirstWord label byte = cond (is_reserved label && not (may_begin part label)) (Err None) (Ok label)
end_at part spots.Colon label byte = Err None
end_at part spots.Path label byte = Err None
end_at part spots.Word label byte = Ok label
end_at part (spots.Group around) label byte = Err None
end_at part spots.Bracket label byte = Err None
end_at part spots.InBracket label byte = Err None
end_at part spots.Behind label byte = ends_tail label byte

abbrev pub label_end : Part → LabelState → Option ℕ → Result (List ℕ) (Option (Unit {0}))
label_end part state byte = end_at part state.spot state.so_far byte

unfoldable pub label_at : Part → Sierra (List ℕ)
label_at part = scan next_label (label_end part) at_start

-- ---- words

-- whether a word goes on with the byte
abbrev pub word_goes_on : List ℕ → ℕ → Bool
word_goes_on [] byte = is_word_start byte
word_goes_on (first ∷ more) byte = is_word_byte byte

abbrev pub next_word : List ℕ → ℕ → Option (List ℕ)
next_word so_far byte = cond (word_goes_on so_far byte) (Some (so_far ++ byte ∷ [])) None

abbrev pub any_word_end : List ℕ → Option ℕ → Result (List ℕ) (Option (Unit {0}))
any_word_end [] byte = Err None
any_word_end (first ∷ more) byte = Ok (first ∷ more)

unfoldable pub bare_word_at : Sierra (List ℕ)
bare_word_at = scan next_word any_word_end []

unfoldable pub any_word_at : Sierra (List ℕ)
any_word_at = token bare_word_at
