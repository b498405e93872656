-- Reading a run file from left to right, with the first refusal that is met.
-- A reader takes a place in the file, and answers what it read and the place behind it.
use Rattle.std.specs.Prelude.{ℕ, ◌+◌, ◌^◌, List, length, drop, Result, Ok, Err, nat_eq, nat_lt, ◌==◌, if◌then◌else◌}
use Rattle.std.specs.FinMap.{from_sorted}
use Rattle.std.specs.List.{starts_with}
use Rattle.byte_reading.specs.Reading.{Place, ◌>>=◌, counted}
use Rattle.byte_reading.specs.Reading as reading_bytes
use Rattle.felt64.specs.Field.{modulus}
use Rattle.ro_machine.specs.declared.machine.State.{State}
use Rattle.run_file.specs.declared.refusal.FileRefusal.{FileRefusal}
use Rattle.run_file.specs.declared.refusal.FileRefusal.TheVariants as refusals
use Rattle.run_file.specs.declared.run.Run.{Run}
use Rattle.run_file.specs.Spelling.{magic, Listing}

-- A byte that differs from the magic goes before the want of a byte.
unfoldable pub magic_at : Place → Result Place FileRefusal
magic_at p =
    if starts_with nat_eq p.rest magic then Ok (record { at = p.at + 8; rest = drop 8 p.rest })
    else (if starts_with nat_eq magic p.rest then Err (refusals.Cut (p.at + length p.rest)) else Err refusals.Magic)

abbrev pub number_at : Place → Result (ℕ × Place) FileRefusal
number_at p = reading_bytes.number_at refusals.Cut p

unfoldable pub word_at : Place → Result (ℕ × Place) FileRefusal
word_at p = do
  n ← number_at p
  if nat_lt n.0 modulus then Ok n else Err (refusals.WordRange p.at)

-- an address that is at least this
unfoldable pub address_at : ℕ → Place → Result (ℕ × Place) FileRefusal
address_at least p = do
  address ← word_at p
  if nat_lt address.0 least then Err (refusals.Order p.at) else Ok address

unfoldable pub cell_at : ℕ → Place → Result ((ℕ × ℕ) × Place) FileRefusal
cell_at least p = do
  address ← address_at least p
  word ← word_at address.1
  Ok ((address.0, word.0), word.1)

-- so many cells, each above the one before
abbrev pub cells_at : ℕ → ℕ → Place → Result (List (ℕ × ℕ) × Place) FileRefusal
cells_at least n p = counted cell_at (λ (cell : ℕ × ℕ). cell.0 + 1) least n p

unfoldable pub steps_at : Place → Result (ℕ × Place) FileRefusal
steps_at p = do
  n ← number_at p
  if nat_lt n.0 (2 ^ 32) then Ok n else Err refusals.StepsAbove

unfoldable pub state_at : Place → Result (State × Place) FileRefusal
state_at p = do
  pc ← word_at p
  ap ← word_at pc.1
  fp ← word_at ap.1
  Ok (record { pc = pc.0; ap = ap.0; fp = fp.0 }, fp.1)

abbrev pub states_at : ℕ → Place → Result (List State × Place) FileRefusal
states_at n p = counted (λ (_ : ℕ). state_at) (λ (_ : State). 0) 0 n p

-- the bytes end here
abbrev pub ends_at : Listing → Place → Result Listing FileRefusal
ends_at l p = if length p.rest == 0 then Ok l else Err (refusals.Extra p.at)

unfoldable pub listing_at : Place → Result Listing FileRefusal
listing_at p = do
  start ← magic_at p
  rc ← word_at start
  count ← number_at rc.1
  cells ← cells_at 0 count.0 count.1
  steps ← steps_at cells.1
  states ← states_at (steps.0 + 1) steps.1
  ends_at (record { rc = rc.0; cells = cells.0; states = states.0 }) states.1

abbrev pub run_of : Listing → Run
run_of l = record { rc = l.rc; memory = from_sorted l.cells; states = l.states }

-- all of the bytes
unfoldable pub reading : List ℕ → Result Run FileRefusal
reading bytes = do
  l ← listing_at (record { at = 0; rest = bytes })
  Ok (run_of l)

-- what a reader that takes the bytes piece by piece has to refuse by now: a file that ends early may still go on
abbrev pub refusal_in : {X : Type 0} → Result X FileRefusal → Result Unit FileRefusal
refusal_in (Ok x) = Ok tt
refusal_in (Err refusals.Magic) = Err refusals.Magic
refusal_in (Err (refusals.WordRange at)) = Err (refusals.WordRange at)
refusal_in (Err (refusals.Order at)) = Err (refusals.Order at)
refusal_in (Err (refusals.Cut at)) = Ok tt
refusal_in (Err (refusals.Extra at)) = Err (refusals.Extra at)
refusal_in (Err refusals.StepsAbove) = Err refusals.StepsAbove
refusal_in (Err refusals.Memory) = Err refusals.Memory
