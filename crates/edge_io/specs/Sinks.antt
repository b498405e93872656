-- What a write leaves in a sink that tells what it holds, and in one that doesn't.
use Rattle.std.specs.Prelude.{⊤, ℕ, ◌≡◌, ◌≤◌, List, ◌++◌, take, Option, Some, None, Result, Ok, Err}
use Rattle.edge_io.specs.Counts.{Rose}
use Rattle.edge_io.specs.declared.sinks.Failed.{Failed}

-- What a sink tells of itself: all bytes that were written, where they are known, and how many writes have failed so far.
pub record SinkView : Type 0 where
  pub written : Option (List ℕ)
  pub faults : ℕ

-- These bytes were added at the end. Of a sink that tells nothing when the call returns nothing is said, and
-- one that tells then told before too.
abbrev pub Appends : Option (List ℕ) → Option (List ℕ) → List ℕ → Type 0
Appends before None bytes = Unit {0}
Appends None (Some now) bytes = ⊥
Appends (Some before) (Some now) bytes = now ≡ before ++ bytes

-- all of these bytes were written, and no count falls
pub record WritesAll (before now : SinkView) (bytes : List ℕ) : Type 0 where
  pub appended : Appends before.written now.written bytes
  pub kept : before.faults ≤ now.faults

-- a prefix of these bytes was written, and the count of faults rose, where it isn't at its greatest value
pub record WritesPart (before now : SinkView) (bytes : List ℕ) : Type 0 where
  pub prefix : ℕ
  pub appended : Appends before.written now.written (take prefix bytes)
  pub kept : before.faults ≤ now.faults
  pub rose : Rose before.faults now.faults

-- the outcome of writing these bytes
abbrev pub Writes : SinkView → SinkView → List ℕ → Result ⊤ Failed → Type 0
Writes before now bytes (Ok done) = WritesAll before now bytes
Writes before now bytes (Err fault) = WritesPart before now bytes
