-- Which bytes are refused, and why.
use Rattle.std.specs.Prelude.{◌≡◌, ◌⊎◌, ℕ, ◌-◌, ◌<◌, ◌≤◌, ◌^◌, List, length, take, reverse}
use Rattle.std.specs.List.{take_while}
use Rattle.text_reading.specs.declared.stop.Stop.{Stop}
use Rattle.text_reading.specs.declared.stop.Stop.TheVariants as stops
use Rattle.text_reading.specs.declared.place.Place.{Place}
use Rattle.text_reading.specs.Places.{IsPlace, GoesOnWithDigit, line_behind, column_behind}
use Rattle.text_reading.specs.Tokens.{is_digit}
use Rattle.sierra_types.specs.declared.program.Program.{Program}
use Rattle.sierra_text.specs.declared.fault.TextFault.{TextFault}
use Rattle.sierra_text.specs.declared.fault.TextFault.TheVariants as faults
use Rattle.sierra_text.specs.Text.{Text, standard, unlimited}

-- at most 2^20 statements, and at most 2^16 types, libfuncs and functions
pub record IsShort (program : Program) : Type 0 where
  pub types : length program.types ≤ 2 ^ 16
  pub libfuncs : length program.libfuncs ≤ 2 ^ 16
  pub statements : length program.statements ≤ 2 ^ 20
  pub functions : length program.functions ≤ 2 ^ 16

-- more of one kind
abbrev pub IsLong : Program → Type 0
IsLong program =
    ((2 ^ 16 < length program.types) ⊎ (2 ^ 16 < length program.libfuncs)) ⊎ ((2 ^ 20 < length program.statements) ⊎ (2 ^ 16 < length program.functions))

-- the place of the byte behind these bytes
abbrev pub place_behind : List ℕ → Place
place_behind front = record { line = line_behind front; column = column_behind front }

-- the bytes before the digits at the end
abbrev pub before_digits : List ℕ → List ℕ
before_digits front = take (length front - length (take_while is_digit (reverse front))) front

-- the fault of a reader that stopped behind these bytes
abbrev pub refusal_of : Stop (Unit {0}) → List ℕ → TextFault
refusal_of stops.Syntax front = faults.Syntax (place_behind front)
refusal_of (stops.Limit kind) front = faults.NumberTooWide (place_behind (before_digits front))
refusal_of stops.Memory front = faults.Memory

-- No program has this text, and some program's text goes on from the front, but from no longer prefix.
pub record Ends (text front rest : List ℕ) : Type 0 where
  pub place : IsPlace (Text standard) text front rest
  pub no_program : (program : Program) → Text standard program text → ⊥

-- The byte behind the front is a digit with which some text goes on where numbers have no limit.
abbrev pub PassesLimit : List ℕ → List ℕ → Type 0
PassesLimit front rest = GoesOnWithDigit (Text unlimited) front rest

-- Why a text is refused. A number that is too wide is named by the place of its first digit.
abbrev pub Refused : List ℕ → TextFault → Type 0
Refused text (faults.Syntax place) =
    (front : List ℕ) × (rest : List ℕ) × Ends text front rest × (PassesLimit front rest → ⊥) × (place ≡ place_behind front)
Refused text (faults.NumberTooWide place) =
    (front : List ℕ) × (rest : List ℕ) × Ends text front rest × PassesLimit front rest × (place ≡ place_behind (before_digits front))
Refused text faults.TooLong = (program : Program) × Text standard program text × IsLong program
Refused text faults.Memory = ⊥

-- This program and no other has the text, and nothing refuses it: so it is what reading the text answers.
pub record ReadsAs (program : Program) (text : List ℕ) : Type 0 where
  pub is_text : Text standard program text
  pub no_other : (other : Program) → Text standard other text → other ≡ program
  pub accepted : (fault : TextFault) → Refused text fault → ⊥
