-- What was read so far, and what the rest of the file says behind it.
use Rattle.std.specs.Prelude.{ℕ, ◌+◌, ◌-◌, ◌≡◌, List, [], length, Result, vec_len, vec_capacity}
use Rattle.std.specs.FinMap.{entries, empty}
use Rattle.run_file.specs.declared.refusal.FileRefusal.{FileRefusal}
use Rattle.run_file.specs.declared.stage.Stage.TheVariants as stages
use Rattle.run_file.specs.declared.stage.Part.{Part}
use Rattle.run_file.specs.declared.progress.RunSoFar.{RunSoFar}
use Rattle.run_file.specs.declared.progress.Progress.{Progress}
use Rattle.run_file.specs.Spelling.{Listing}
use Rattle.run_file.specs.Stages.{from_stage, with_part, cells_with, Fits, HasRoom}

abbrev pub so_far : RunSoFar → Listing
so_far run = record { rc = run.rc; cells = entries run.memory; states = run.states.items }

-- how many states can be added without taking memory
abbrev pub room_for : RunSoFar → ℕ
room_for run = vec_capacity run.states - vec_len run.states

-- what the file says if these bytes are the rest of it
abbrev pub rest_of : Progress → List ℕ → Result Listing FileRefusal
rest_of p bytes = from_stage p.stage (so_far p.run) (record { at = p.at; rest = bytes })

abbrev pub IsProgress : Progress → Type 0
IsProgress p = Fits p.stage p.run.memory (room_for p.run)

pub record IsStart (p : Progress) : Type 0 where
  pub at_magic : p.stage ≡ stages.Magic
  pub at_0 : p.at ≡ 0
  pub no_cells : p.run.memory ≡ empty
  pub no_states : p.run.states.items ≡ []
  pub rc_0 : p.run.rc ≡ 0

-- the part was added
pub record Keeps (old : RunSoFar) (part : Part) (new : RunSoFar) : Type 0 where
  pub parts_are : so_far new ≡ with_part (so_far old) part
  pub cells_are : new.memory ≡ cells_with old.memory part
  pub room_is : HasRoom (room_for old) part (room_for new)

-- the offset behind the bytes of a number that isn't whole
abbrev pub offset_behind : Progress → List ℕ → ℕ
offset_behind p unfinished = p.at + length unfinished
