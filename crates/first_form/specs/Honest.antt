-- The honest run of a program on an input: the code lies from address 0 on, the execution from 2 ^ 32 on with the
-- argument first, and the range-check cells from 2 * 2 ^ 32 on.
use Rattle.std.specs.Prelude.{ℕ, ◌≡◌, ◌<◌, ◌+◌, ◌*◌, ◌^◌, ◌⊎◌, List, [], ◌∷◌, ◌++◌, length, Option}
use Rattle.std.specs.FinMap.{from_sorted}
use Rattle.felt64.specs.Field.{sum, difference}
use Rattle.ro_machine.specs.declared.machine.State.{State}
use Rattle.ro_machine.specs.Step.{Step, op0_address, op1_address, dst_address}
use Rattle.run_file.specs.declared.run.Run.{Run}
use Rattle.first_form.specs.declared.program.Program.{Program}
use Rattle.first_form.specs.declared.input.Input.{Input}
use Rattle.first_form.specs.Accepted.{StartsAt, Follows}
use Rattle.first_form.specs.Meaning.{applied, code_of}
use Rattle.first_form.specs.Values.{Ty, sizes}

-- where the execution begins, and where the frame of its first state lies: behind the argument
abbrev pub execution_start : ℕ
execution_start = 2 ^ 32

abbrev pub first_frame : ℕ
first_frame = execution_start + 1

-- words in a row of cells, from this address on
abbrev pub cells_from : ℕ → List ℕ → List (ℕ × ℕ)
cells_from at [] = []
cells_from at (word ∷ words) = (at, word) ∷ cells_from (at + 1) words

-- the argument, what the call to main writes, and the result
abbrev pub execution_of : Program → Input → List ℕ
execution_of program input = input.argument ∷ first_frame ∷ 2 ∷ applied program.operation input.argument program.constant ∷ []

abbrev pub honest_states : List State
honest_states =
    record { pc = 0; ap = first_frame; fp = first_frame }
    ∷ record { pc = 4; ap = first_frame + 2; fp = first_frame + 2 }
    ∷ record { pc = 6; ap = first_frame + 3; fp = first_frame + 2 }
    ∷ record { pc = 2; ap = first_frame + 3; fp = first_frame }
    ∷ []

-- the address of the first range-check cell
abbrev pub range_start : ℕ
range_start = 2 * 2 ^ 32

abbrev pub honest_run : Program → Input → Run
honest_run program input = record {
  rc = range_start;
  memory = from_sorted (cells_from 0 (code_of program) ++ cells_from execution_start (execution_of program input));
  states = honest_states;
}

-- the step reads the cell: the word, op0, op1 or dst
abbrev pub IsReadBy : (m : ℕ → Option ℕ) (s next : State) → Step m s next → ℕ → Type 0
IsReadBy m s next step at =
    (at ≡ s.pc) ⊎ ((at ≡ op0_address step.flags s) ⊎ ((at ≡ op1_address step.flags s step.op0) ⊎ (at ≡ dst_address step.flags s)))

-- the cell is one of the code, of the arguments below the first frame, or one that a step between two states reads
abbrev pub IsNeeded : List ℕ → List Ty → (ℕ → Option ℕ) → List State → ℕ → Type 0
IsNeeded code types m states at =
    (at < length code)
    ⊎ (((base : ℕ) × (k : ℕ) × StartsAt states base × (k < sizes types) × (at ≡ sum (difference base (sizes types)) k))
    ⊎ ((i : ℕ) × (s : State) × (next : State) × Follows states i s next × ((step : Step m s next) × IsReadBy m s next step at)))
