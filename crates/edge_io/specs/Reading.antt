-- What a read of a whole file answers.
use Rattle.std.specs.Prelude.{ℕ, ◌≡◌, ◌<◌, ◌≤◌, List, length, Result, Ok, Err}
use Rattle.std.specs.Global.{Vec}
use Rattle.edge_io.specs.declared.files.FileFault.{FileFault}
use Rattle.edge_io.specs.declared.files.FileFault.TheVariants.{Missing as NoSuchFile, Failed as NotRead}
use Rattle.edge_io.specs.declared.files.ReadFault.{ReadFault}
use Rattle.edge_io.specs.declared.files.ReadFault.TheVariants.{Missing, Failed, TooLong, Memory}

-- the cause, as a read of the whole file has it
abbrev pub read_fault : FileFault → ReadFault
read_fault NoSuchFile = Missing
read_fault NotRead = Failed

-- Of a file of these bytes: all of them where they are at most `limit`, and too long only where they are more.
abbrev pub ReadsWhole : List ℕ → ℕ → Result (Vec ℕ) ReadFault → Type 0
ReadsWhole bytes limit (Ok v) = (v.items ≡ bytes) × (length bytes ≤ limit)
ReadsWhole bytes limit (Err Missing) = ⊥
ReadsWhole bytes limit (Err Failed) = Unit {0}
ReadsWhole bytes limit (Err TooLong) = limit < length bytes
ReadsWhole bytes limit (Err Memory) = Unit {0}
