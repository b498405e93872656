-- The verdict that a run of a program on an input shows, and what makes it one to believe.
use Rattle.std.specs.Prelude.{ℕ, ◌≡◌, ◌≤◌, ◌+◌, ◌*◌, false, List, length, map, Option}
use Rattle.std.specs.FinMap.{get}
use Rattle.ro_machine.specs.declared.machine.State.{State}
use Rattle.ro_machine.specs.Readings.{cells_below}
use Rattle.run_file.specs.declared.run.Run.{Run}
use Rattle.first_form.specs.declared.program.Program.{Program}
use Rattle.first_form.specs.declared.input.Input.{Input}
use Rattle.first_form.specs.declared.verdict.Verdict.{Verdict}
use Rattle.first_form.specs.Accepted.{Accepts, IsLast}
use Rattle.first_form.specs.Meaning.{entry_gas, code_of, parameter_types, result_types, arguments_of, Means}
use Rattle.first_form.specs.Values.{StandAll, sizes, meant}

-- the run of the program's code on the input is accepted
abbrev pub IsAccepted : Program → Input → Run → Type 0
IsAccepted program input run = Accepts (code_of program) (parameter_types program) (arguments_of program input) run.rc (get run.memory) run.states

-- The verdict that the run itself shows: its values stand in the cells that end below the last state's ap. Main has
-- no gas builtin, so its gas left is the input's less what the program needs; it has no range check builtin, so it
-- shows no checks.
pub record Shows (program : Program) (input : Input) (rc : ℕ) (m : ℕ → Option ℕ) (states : List State) (verdict : Verdict) : Type 0 where
  pub last : State
  pub last_is : IsLast states last
  pub values : StandAll m (result_types program) (cells_below m last.ap (sizes (result_types program))) (map meant verdict.outcome.values)
  pub panic : verdict.outcome.panic ≡ false
  pub gas_left : verdict.outcome.gas_left + entry_gas program ≡ input.gas
  pub gas_used : verdict.outcome.gas_left + verdict.outcome.gas_used ≡ input.gas
  pub steps : verdict.steps + 1 ≡ length states
  pub checks : verdict.checks ≡ 0

-- the steps and range checks cost at most the gas used
abbrev pub CostsAtMost : Verdict → Type 0
CostsAtMost verdict = 100 * verdict.steps + 70 * verdict.checks ≤ verdict.outcome.gas_used

-- the verdict is what the run shows, its outcome is the meaning, and it costs at most the gas used
pub record IsVerdict (program : Program) (input : Input) (run : Run) (verdict : Verdict) : Type 0 where
  pub shown : Shows program input run.rc (get run.memory) run.states verdict
  pub meant : Means program input verdict.outcome
  pub cost : CostsAtMost verdict
