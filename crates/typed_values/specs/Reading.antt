-- Reading an input: line by line, and within a line form by form, each by its next byte. A reader stops at the byte at which a syntax
-- fault is told, at the first byte of a number or index that is out of range, and at the `[` of an array that is too long.
use Rattle.std.specs.Prelude.{ℕ, zero, suc, ◌+◌, ◌-◌, ◌^◌, ◌++◌, Bool, true, false, cond, ◌==◌, nat_lt, List, [], ◌∷◌, length, take, slice_get, Option, Some, None, Result, Ok, Err}
use Rattle.std.specs.List.{count_by}
use Rattle.type_trees.specs.Ty.{Ty, Tys, number, nonzero, range_check, gas_builtin, box, array, snapshot, struct, enum, dict, dict_entry, squashed_dict, uninitialized, no_types, types}
use Rattle.text_reading.specs.Places.{line_behind, column_behind}
use Rattle.text_reading.specs.Reading.{Answer, Answer.answers, Reader, done, go_on, ◌>>=◌, branch}
use Rattle.text_reading.specs.declared.place.Place.{Place}
use Rattle.text_reading.specs.declared.stop.Stop.{Stop}
use Rattle.text_reading.specs.declared.stop.Stop.TheVariants as stops
use Rattle.value_trees.specs.Of.{bound}
use Rattle.value_trees.specs.Val.{Plain, Vals, WordMap, OpenMap, no_values, values}
use Rattle.value_trees.specs.Val as val
use Rattle.typed_values.specs.Inputs.{InputView, most_elements}
use Rattle.typed_values.specs.Marks.{ValueReader, byte_at, leading, number_at, separator_at, space_at, goes_on_at, none_at, count}
use Rattle.typed_values.specs.Skimming.{skim_array, skim_at}
use Rattle.typed_values.specs.declared.fault.ValueLimit.{ValueLimit}
use Rattle.typed_values.specs.declared.fault.ValueLimit.TheVariants as limits
use Rattle.typed_values.specs.declared.fault.InputFault.{InputFault}
use Rattle.typed_values.specs.declared.fault.InputFault.TheVariants as faults

-- behind an element: the others, if the array goes on
abbrev pub behind_at : ValueReader (Vals WordMap OpenMap) → Plain × Bool → ValueReader (Vals WordMap OpenMap)
behind_at others p bytes = cond p.1 ((others >>= λ vs. done (values p.0 vs)) bytes) (answers (Ok (values p.0 no_values)) bytes)

module _ (item : ValueReader Plain) where
  -- an element, and whether the array goes on behind it
  unfoldable pub element_at : Bool → ValueReader (Plain × Bool)
  element_at is_first = space_at is_first >>= λ _. item >>= λ v. goes_on_at >>= λ goes_on. done (v, goes_on)

  -- The elements of an array, of which so many more may come, up to its end. One more is too many as soon as its comma stands there. The
  -- array begins at `start`.
  unfoldable pub elements_at : List ℕ → ℕ → Bool → ValueReader (Vals WordMap OpenMap)
  elements_at start zero is_first bytes = answers (Err (Some limits.LongArray)) start
  elements_at start (suc room) is_first bytes = (element_at is_first >>= behind_at (elements_at start room false)) bytes

-- an array of so many elements at most
unfoldable pub array_at : ValueReader Plain → ℕ → ValueReader Plain
array_at item most bytes =
    (byte_at 91 >>= λ _. branch 93 (byte_at 93 >>= λ _. done (val.array no_values)) (elements_at item bytes most true >>= λ vs. done (val.array vs))) bytes

-- A number out of range ends the reading. Its form is taken all the same: where the array is too long, this is told, since the array
-- begins before the number.
abbrev pub told : {A : Type 0} → Answer ValueLimit A → Answer ValueLimit (Unit {0}) → Answer ValueLimit A
told (answers (Err (Some limits.OutOfRange)) rest) (answers (Err (Some limits.LongArray)) start) = answers (Err (Some limits.LongArray)) start
told answer form = answer

unfoldable pub whole_array_at : ValueReader Plain → ValueReader (Unit {0}) → ℕ → ValueReader Plain
whole_array_at item form most bytes = told (array_at item most bytes) (skim_array form most bytes)

-- a member, with what stands before it
unfoldable pub member_at : Bool → ValueReader Plain → ValueReader Plain
member_at is_first value = separator_at is_first >>= λ _. value

module _ (most : Ty → ℕ) where
  unfoldable mutual
    -- a value of the type
    pub value_at : Ty → ValueReader Plain
    value_at (number k) = number_at (bound k) >>= λ n. done (val.number k n)
    value_at (array ty) = whole_array_at (value_at ty) (skim_at most ty) (most ty)
    value_at (struct name tys) = byte_at 40 >>= λ _. members_at true tys >>= λ vs. byte_at 41 >>= λ _. done (val.struct vs)
    value_at (enum name tys) = number_at (count tys) >>= λ index. byte_at 58 >>= λ _. variant_at tys index >>= λ v. done (val.enum index v)
    value_at (nonzero k) = none_at
    value_at range_check = none_at
    value_at gas_builtin = none_at
    value_at (box ty) = none_at
    value_at (snapshot ty) = none_at
    value_at (dict k) = none_at
    value_at (dict_entry k) = none_at
    value_at (squashed_dict k) = none_at
    value_at (uninitialized ty) = none_at

    -- the members of a struct
    pub members_at : Bool → Tys → ValueReader (Vals WordMap OpenMap)
    members_at is_first no_types = done no_values
    members_at is_first (types ty tys) = member_at is_first (value_at ty) >>= λ v. members_at false tys >>= λ vs. done (values v vs)

    -- the payload of the variant with this index
    pub variant_at : Tys → ℕ → ValueReader Plain
    variant_at no_types index = none_at
    variant_at (types ty tys) zero = value_at ty
    variant_at (types ty tys) (suc index) = variant_at tys index

  -- a line of its own for a value
  unfoldable pub line_at : Ty → ValueReader Plain
  line_at ty = value_at ty >>= λ v. byte_at 10 >>= λ _. done v

  -- a line for each value, up to the end of the text
  unfoldable pub lines_at : List Ty → ValueReader (List Plain)
  lines_at [] [] = answers (Ok []) []
  lines_at [] (byte ∷ rest) = answers (Err None) (byte ∷ rest)
  lines_at (ty ∷ tys) bytes = (line_at ty >>= λ v. lines_at tys >>= λ vs. done (v ∷ vs)) bytes

-- ---- the whole text

-- a number below 2^32, and none for a greater one
abbrev pub gas_of : ℕ → Option ℕ
gas_of n = cond (nat_lt n (2 ^ 32)) (Some n) None

abbrev pub any_number : Option (ℕ × List ℕ) → List ℕ → Answer ValueLimit (Option ℕ)
any_number None bytes = answers (Err None) bytes
any_number (Some (n, rest)) bytes = answers (Ok (gas_of n)) rest

-- the number of the gas, however long it is
unfoldable pub gas_at : ValueReader (Option ℕ)
gas_at bytes = any_number (leading bytes) bytes

-- `gas `
unfoldable pub head_at : ValueReader (Unit {0})
head_at = byte_at 103 >>= λ _. byte_at 97 >>= λ _. byte_at 115 >>= λ _. byte_at 32

-- `gas N`, and the end of the line
unfoldable pub first_line_at : ValueReader (Option ℕ)
first_line_at = head_at >>= λ _. gas_at >>= λ gas. byte_at 10 >>= λ _. done gas

-- bytes that end with no newline have a line more than newlines
abbrev pub open_line : Option ℕ → ℕ
open_line None = 0
open_line (Some byte) = cond (byte == 10) 0 1

abbrev pub line_count : List ℕ → ℕ
line_count bytes = count_by (λ byte. byte == 10) bytes + open_line (slice_get bytes (length bytes - 1))

-- the place at which these bytes are left of the text
abbrev pub place_of : List ℕ → List ℕ → Place
place_of text rest = let front = take (length text - length rest) text in record { line = line_behind front; column = column_behind front }

abbrev pub fault_of : Stop ValueLimit → List ℕ → List ℕ → InputFault
fault_of stops.Syntax text rest = faults.Syntax (place_of text rest)
fault_of (stops.Limit limits.OutOfRange) text rest = faults.OutOfRange (place_of text rest)
fault_of (stops.Limit limits.LongArray) text rest = faults.LongArray (place_of text rest)
fault_of stops.Memory text rest = faults.Memory

abbrev pub stop_of : Option ValueLimit → Stop ValueLimit
stop_of None = stops.Syntax
stop_of (Some limit) = stops.Limit limit

abbrev pub of_lines : (gas : ℕ) → List ℕ → Answer ValueLimit (List Plain) → Result InputView InputFault
of_lines gas text (answers (Ok vs) rest) = Ok (record { gas = gas; args = vs })
of_lines gas text (answers (Err why) rest) = Err (fault_of (stop_of why) text rest)

module _ (tys : List Ty) (text : List ℕ) where
  -- the lines behind the first, of which there is one for each type
  abbrev pub values_of : (gas : ℕ) → List ℕ → Result InputView InputFault
  values_of gas rest = cond (line_count rest == length tys) (of_lines gas text (lines_at most_elements tys rest)) (Err (faults.LineCount (length tys) (line_count rest)))

  abbrev pub of_gas : Answer ValueLimit (Option ℕ) → Result InputView InputFault
  of_gas (answers (Ok (Some gas)) rest) = values_of gas rest
  of_gas (answers (Ok None) rest) = Err faults.GasRange
  of_gas (answers (Err why) rest) = Err (fault_of (stop_of why) text rest)

  -- the input, or the fault that is told
  abbrev pub input_at : Result InputView InputFault
  input_at = of_gas (first_line_at text)
