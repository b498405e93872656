-- Rejected runs: the first part of an accepted run that fails, and its values.
use Rattle.std.specs.Prelude.{ℕ, ◌≡◌, ◌≢◌, ◌<◌, ◌≤◌, ◌+◌, ◌⊎◌, List, [], ◌∷◌, length, Option, Some, slice_get}
use Rattle.std.specs.FinMap.{get}
use Rattle.felt64.specs.Field.{sum, difference}
use Rattle.ro_machine.specs.declared.machine.State.{State}
use Rattle.ro_machine.specs.declared.machine.StepFault.{StepFault}
use Rattle.ro_machine.specs.Readings.{cells_at}
use Rattle.ro_machine.specs.Step.{Step}
use Rattle.ro_machine.specs.Stops.{Stops}
use Rattle.first_form.specs.declared.accepted.CheckFault.{CheckFault}
use Rattle.first_form.specs.declared.accepted.CheckFault.TheVariants as faults
use Rattle.run_file.specs.declared.run.Run.{Run}
use Rattle.first_form.specs.declared.program.Program.{Program}
use Rattle.first_form.specs.declared.input.Input.{Input}
use Rattle.first_form.specs.Meaning.{code_of, parameter_types, arguments_of}
use Rattle.first_form.specs.Accepted.{final_pc, range_limit, HoldsCode, StartsAt, ArgumentsStand, GoesOn, Follows, AllGoOn, Ends, AllInRange}
use Rattle.first_form.specs.Values.{Ty, number, Val, Number, size, sizes, Stands}

-- the least address whose cell isn't listed, or has another word than the code's
abbrev pub CodeFails : (ℕ → Option ℕ) → List ℕ → CheckFault → Type 0
CodeFails m code fault =
    (k : ℕ) × (fault ≡ faults.CodeCell k) × (k < length code) × (m k ≢ slice_get code k) × ((j : ℕ) → j < k → m j ≡ slice_get code j)

abbrev pub StartFails : List State → CheckFault → Type 0
StartFails states fault = (fault ≡ faults.Start) × ((base : ℕ) → StartsAt states base → ⊥)

-- the first cell of one argument, of those that begin k cells from the base: its address, and the words wanted and read
abbrev pub ArgumentFails : (ℕ → Option ℕ) → Ty → ℕ → ℕ → Val → CheckFault → Type 0
ArgumentFails m (number kind) base k v fault =
    (n : ℕ) × (v ≡ Number kind n) × (m (sum base k) ≢ Some n) × (fault ≡ faults.ArgCells (sum base k) (Some n) (m (sum base k)))

-- the first such cell of the arguments, in their order
abbrev pub ArgumentsFail : (ℕ → Option ℕ) → List Ty → ℕ → ℕ → List Val → CheckFault → Type 0
ArgumentsFail m [] base k vs fault = ⊥
ArgumentsFail m (ty ∷ tys) base k vs fault =
    (v : Val) × (rest : List Val) × (vs ≡ v ∷ rest)
    × (ArgumentFails m ty base k v fault
    ⊎ (Stands m ty (cells_at m base k (size ty)) v × ArgumentsFail m tys base (k + size ty) rest fault))

-- state i is at the end though another follows, or no step starts at it, or what the step gives doesn't follow
abbrev pub StateFails : (ℕ → Option ℕ) → ℕ → State → State → CheckFault → Type 0
StateFails m i s follower fault =
    ((fault ≡ faults.FinalEarly i) × (s.pc ≡ final_pc))
    ⊎ ((s.pc ≢ final_pc)
    × (((stop : StepFault) × (fault ≡ faults.Step i stop) × Stops m s stop)
    ⊎ ((next : State) × Step m s next × (fault ≡ faults.NextState i) × (follower ≢ next))))

-- the first state that fails
abbrev pub StatesFail : (ℕ → Option ℕ) → List State → CheckFault → Type 0
StatesFail m states fault =
    (i : ℕ) × (s : State) × (follower : State) × Follows states i s follower × StateFails m i s follower fault
    × ((j : ℕ) (s follower : State) → j < i → Follows states j s follower → GoesOn m s follower)

abbrev pub FinalFails : List State → CheckFault → Type 0
FinalFails states fault = (fault ≡ faults.FinalMissing) × (Ends states → ⊥)

-- the first listed cell, of this many from rc on, that isn't in range: its address and its word
abbrev pub RangeFails : (ℕ → Option ℕ) → ℕ → ℕ → CheckFault → Type 0
RangeFails m rc count fault =
    (k : ℕ) × (word : ℕ) × (fault ≡ faults.RangeCell (sum rc k) word) × (k < count) × (m (sum rc k) ≡ Some word) × (range_limit ≤ word)
    × AllInRange m rc k

-- A run with at most as many states as a run may have is rejected: each part either fails, or holds and one behind it
-- fails.
abbrev pub Rejects : List ℕ → List Ty → List Val → ℕ → (ℕ → Option ℕ) → List State → CheckFault → Type 0
Rejects code types arguments rc m states fault =
    CodeFails m code fault
    ⊎ (HoldsCode m code
    × (StartFails states fault
    ⊎ ((base : ℕ) × StartsAt states base
    × (ArgumentsFail m types (difference base (sizes types)) 0 arguments fault
    ⊎ (ArgumentsStand m base types arguments
    × (StatesFail m states fault
    ⊎ (AllGoOn m states
    × (FinalFails states fault
    ⊎ (Ends states × RangeFails m rc (length states) fault)))))))))

-- the run of the program's code on the input is rejected for this fault
abbrev pub IsRejected : Program → Input → Run → CheckFault → Type 0
IsRejected program input run = Rejects (code_of program) (parameter_types program) (arguments_of program input) run.rc (get run.memory) run.states
