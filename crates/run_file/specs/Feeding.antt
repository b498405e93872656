-- What a reader promises of the file that it is fed.
use Rattle.std.specs.Prelude.{ℕ, ◌+◌, ◌≡◌, ◌<◌, ◌^◌, Bool, false, List, ◌++◌, length, Option, Some, None, Result, Ok, Err}
use Rattle.byte_reading.specs.Reading.{◌>>=◌}
use Rattle.run_file.specs.declared.refusal.FileRefusal.{FileRefusal}
use Rattle.run_file.specs.declared.run.Run.{Run}
use Rattle.run_file.specs.declared.stage.Stage.{Stage}
use Rattle.run_file.specs.declared.progress.Progress.{Progress}
use Rattle.run_file.specs.Spelling.{Listing}
use Rattle.run_file.specs.Reading.{run_of, refusal_in}
use Rattle.run_file.specs.Stages.{from_stage, in_states}
use Rattle.run_file.specs.Progress.{so_far, IsProgress}

-- what contracts see of a reader: its refusal, or the parts that it has read and the bytes of a number that isn't whole
pub record Fed : Type 0 where
  pub refused : Option FileRefusal
  pub stage : Stage
  pub at : ℕ
  pub parts : Listing
  pub unfinished : List ℕ

abbrev pub fed : Progress → List ℕ → Option FileRefusal → Fed
fed progress unfinished refused = record {
  refused = refused;
  stage = progress.stage;
  at = progress.at;
  parts = so_far progress.run;
  unfinished = unfinished;
}

abbrev pub IsReader : Progress → List ℕ → Option FileRefusal → Type 0
IsReader progress unfinished None = IsProgress progress × (progress.at + length unfinished < 2 ^ 64)
IsReader progress unfinished (Some e) = refusal_in {X = Listing} (Err e) ≡ Err e

-- what the file says if these bytes are the rest of it
abbrev pub says_with : Option FileRefusal → Fed → List ℕ → Result Run FileRefusal
says_with None reader bytes = from_stage reader.stage reader.parts (record { at = reader.at; rest = reader.unfinished ++ bytes }) >>= λ l. Ok (run_of l)
says_with (Some e) reader bytes = Err e

abbrev pub says : Fed → List ℕ → Result Run FileRefusal
says reader bytes = says_with reader.refused reader bytes

-- how many bytes were fed; a reader that refused takes nothing, so none count
abbrev pub taken_with : Option FileRefusal → ℕ → ℕ
taken_with None n = n
taken_with (Some e) n = 0

abbrev pub taken : Fed → ℕ
taken reader = taken_with reader.refused (reader.at + length reader.unfinished)

-- the number of steps was read, and all states have their room
abbrev pub room_with : Option FileRefusal → Bool → Bool
room_with None room = room
room_with (Some e) room = false

abbrev pub has_room : Fed → Bool
has_room reader = room_with reader.refused (in_states reader.stage)
