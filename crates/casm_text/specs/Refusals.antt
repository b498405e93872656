-- Which bytes are refused, and why.
use Rattle.std.specs.Prelude.{◌≡◌, ℕ, ◌<◌, ◌≤◌, ◌^◌, List, length}
use Rattle.std.specs.List.{flat_map}
use Rattle.casm_word.specs.declared.instr.Instr.{Instr}
use Rattle.casm_word.specs.Encoding.{words_of}
use Rattle.text_reading.specs.declared.stop.Stop.{Stop}
use Rattle.text_reading.specs.declared.stop.Stop.TheVariants as stops
use Rattle.text_reading.specs.declared.place.Place.{Place}
use Rattle.text_reading.specs.Places.{IsPlace, GoesOnWithDigit, line_behind, column_behind}
use Rattle.casm_text.specs.declared.fault.NumberKind.{NumberKind}
use Rattle.casm_text.specs.declared.fault.NumberKind.TheVariants as kinds
use Rattle.casm_text.specs.declared.fault.AsmFault.{AsmFault}
use Rattle.casm_text.specs.declared.fault.AsmFault.TheVariants as faults
use Rattle.casm_text.specs.Text.{Text, standard, without}

abbrev pub word_count : List Instr → ℕ
word_count code = length (flat_map words_of code)

-- code that is no longer than code may be
abbrev pub IsShort : List Instr → Type 0
IsShort code = word_count code ≤ 2 ^ 24

-- the place of the byte behind these bytes
abbrev pub place_behind : List ℕ → Place
place_behind front = record { line = line_behind front; column = column_behind front }

-- the fault of a reader that stopped behind these bytes
abbrev pub refusal_of : Stop NumberKind → List ℕ → AsmFault
refusal_of stops.Syntax front = faults.Syntax (place_behind front)
refusal_of (stops.Limit kinds.Offset) front = faults.OffsetRange (line_behind front)
refusal_of (stops.Limit kinds.Imm) front = faults.ImmRange (line_behind front)
refusal_of stops.Memory front = faults.Memory

-- No code has this text, and some code's text goes on from the front, but from no longer prefix.
pub record Ends (text front rest : List ℕ) : Type 0 where
  pub place : IsPlace (Text standard) text front rest
  pub no_code : (code : List Instr) → Text standard code text → ⊥

-- The byte behind the front is a digit with which some text goes on where this kind of number has no limit.
abbrev pub PassesLimit : NumberKind → List ℕ → List ℕ → Type 0
PassesLimit kind front rest = GoesOnWithDigit (Text (without kind standard)) front rest

-- Why a text is refused. A number has its digits on one line, so the line of the digit with which it passes its limit
-- is that of its first digit.
abbrev pub Refused : List ℕ → AsmFault → Type 0
Refused text (faults.Syntax place) =
    (front : List ℕ) × (rest : List ℕ) × Ends text front rest × ((kind : NumberKind) → PassesLimit kind front rest → ⊥) × (place ≡ place_behind front)
Refused text (faults.OffsetRange line) = (front : List ℕ) × (rest : List ℕ) × Ends text front rest × PassesLimit kinds.Offset front rest × (line ≡ line_behind front)
Refused text (faults.ImmRange line) = (front : List ℕ) × (rest : List ℕ) × Ends text front rest × PassesLimit kinds.Imm front rest × (line ≡ line_behind front)
Refused text faults.TooLong = (code : List Instr) × Text standard code text × (2 ^ 24 < word_count code)
Refused text faults.Memory = ⊥
