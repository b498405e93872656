-- The marks and numbers of an input, each read by its next byte. A reader stops at the byte at which a syntax fault is told, and at the
-- first byte of a number or an index that is out of range.
use Rattle.std.specs.Prelude.{ℕ, zero, suc, Bool, true, false, cond, ◌==◌, nat_lt, List, [], ◌∷◌, length, drop, Option, Some, None, Result, Ok, Err}
use Rattle.std.specs.List.{take_while}
use Rattle.std.specs.Str.Parse.{digits_value}
use Rattle.type_trees.specs.Ty.{Tys, no_types, types}
use Rattle.text_reading.specs.Reading.{Answer, Answer.answers, Reader, done, go_on, ◌>>=◌, begins, branch}
use Rattle.text_reading.specs.Tokens.{is_digit}
use Rattle.typed_values.specs.declared.fault.ValueLimit.{ValueLimit}
use Rattle.typed_values.specs.declared.fault.ValueLimit.TheVariants as limits

abbrev pub ValueReader : Type 0 → Type 0
ValueReader A = Reader ValueLimit A

-- this byte
unfoldable pub byte_at : ℕ → ValueReader (Unit {0})
byte_at wanted [] = answers (Err None) []
byte_at wanted (byte ∷ rest) = cond (byte == wanted) (answers (Ok tt) rest) (answers (Err None) (byte ∷ rest))

-- the digits of the number at the head: behind a 0 no digit continues it
abbrev pub front_of : List ℕ → List ℕ
front_of bytes = cond (begins 48 bytes) (48 ∷ []) (take_while is_digit bytes)

abbrev pub number_of_front : List ℕ → List ℕ → Option (ℕ × List ℕ)
number_of_front [] bytes = None
number_of_front (digit ∷ digits) bytes = Some (digits_value 10 (digit ∷ digits), drop (length (digit ∷ digits)) bytes)

-- the number at the head, however long it is, and what follows it
unfoldable pub leading : List ℕ → Option (ℕ × List ℕ)
leading bytes = number_of_front (front_of bytes) bytes

abbrev pub below : ℕ → Option (ℕ × List ℕ) → List ℕ → Answer ValueLimit ℕ
below limit None bytes = answers (Err None) bytes
below limit (Some (n, rest)) bytes = cond (nat_lt n limit) (answers (Ok n) rest) (answers (Err (Some limits.OutOfRange)) bytes)

-- a number below a limit
unfoldable pub number_at : ℕ → ValueReader ℕ
number_at limit bytes = below limit (leading bytes) bytes

abbrev pub comma_at : ValueReader (Unit {0})
comma_at = byte_at 44 >>= λ _. byte_at 32

-- what stands before a member
unfoldable pub separator_at : Bool → ValueReader (Unit {0})
separator_at true = done tt
separator_at false = comma_at

-- the space before an element
unfoldable pub space_at : Bool → ValueReader (Unit {0})
space_at true = done tt
space_at false = byte_at 32

-- whether an array goes on behind an element
unfoldable pub goes_on_at : ValueReader Bool
goes_on_at = branch 93 (byte_at 93 >>= λ _. done false) (byte_at 44 >>= λ _. done true)

-- no value of the type has a text
abbrev pub none_at : {A : Type 0} → ValueReader A
none_at bytes = answers (Err None) bytes

abbrev pub count : Tys → ℕ
count no_types = 0
count (types ty tys) = suc (count tys)
