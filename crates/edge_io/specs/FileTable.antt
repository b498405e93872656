-- Files in memory whose reads fail by a list of calls.
use Rattle.std.specs.Prelude.{ℕ, ◌-◌, List, ◌++◌, length, take, drop, Bool, true, false, Option, None, Some, Result, Ok, Err, min}
use Rattle.std.specs.FinMap.{get, from_entries}
use Rattle.edge_io.specs.declared.files.FileFault.{FileFault}
use Rattle.edge_io.specs.declared.files.FileFault.TheVariants.{Missing, Failed}
use Rattle.edge_io.specs.Counts.{risen, call_fails}
use Rattle.edge_io.specs.Files.{FileMap, FilesView}

-- The files by their names, the numbers of the calls that fail, and how many calls there were, how many of them
-- failed and how many named no file.
pub record FileTable : Type 0 where
  pub files : List (List ℕ × List ℕ)
  pub fails : List ℕ
  pub calls : ℕ
  pub faults : ℕ
  pub misses : ℕ

-- the first of equal names counts
abbrev pub file_map : List (List ℕ × List ℕ) → FileMap
file_map files = from_entries files

-- what the table tells of itself
abbrev pub table_view : FileTable → FilesView
table_view t = record { contents = Some (file_map t.files); faults = t.faults; misses = t.misses }

-- the same of one whose reads never fail
abbrev pub quiet_view : FileTable → FilesView
quiet_view t = record { contents = Some (file_map t.files); faults = 0; misses = t.misses }

-- before the first call
abbrev pub new_table : List (List ℕ × List ℕ) → List ℕ → FileTable
new_table files fails = record { files = files; fails = fails; calls = 0; faults = 0; misses = 0 }

-- what a read of this many bytes from this place on answers
abbrev pub answer_of : Option (List ℕ) → Bool → ℕ → ℕ → Result ℕ FileFault
answer_of None fails at room = Err Missing
answer_of (Some bytes) true at room = Err Failed
answer_of (Some bytes) false at room = Ok (min room (length bytes - at))

abbrev pub read_answer : FileTable → List ℕ → ℕ → ℕ → Result ℕ FileFault
read_answer t name at room = answer_of (get (file_map t.files) name) (call_fails t.fails t.calls) at room

-- the counts after a call with this answer
abbrev pub counted : FileTable → Result ℕ FileFault → FileTable
counted t (Ok n) = record t { calls = risen t.calls }
counted t (Err Missing) = record t { calls = risen t.calls; misses = risen t.misses }
counted t (Err Failed) = record t { calls = risen t.calls; faults = risen t.faults }

-- The buffer then: the bytes that came in its front, and the rest as it was.
abbrev pub filled : List ℕ → ℕ → List ℕ → ℕ → List ℕ
filled bytes at buffer n = take n (drop at bytes) ++ drop n buffer

abbrev pub buffer_of : Option (List ℕ) → Bool → ℕ → List ℕ → List ℕ
buffer_of None fails at buffer = buffer
buffer_of (Some bytes) true at buffer = buffer
buffer_of (Some bytes) false at buffer = filled bytes at buffer (min (length buffer) (length bytes - at))

abbrev pub read_buffer : FileTable → List ℕ → ℕ → List ℕ → List ℕ
read_buffer t name at buffer = buffer_of (get (file_map t.files) name) (call_fails t.fails t.calls) at buffer
