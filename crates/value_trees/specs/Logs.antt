-- Logged values: a dictionary is the log of its accesses.
use Rattle.std.specs.Prelude.{ℕ, List}
use Rattle.value_trees.specs.Val.{Val}

-- one access: its key, the word that it found and the word that it left
pub record Access : Type 0 where
  pub key : ℕ
  pub previous : ℕ
  pub new : ℕ

-- the accesses so far, the last one first
abbrev pub Log : Type 0
Log = List Access

-- a log, and the key of the entry that is open with the word that it found
pub record OpenLog : Type 0 where
  pub log : Log
  pub key : ℕ
  pub previous : ℕ

abbrev pub Logged : Type 0
Logged = Val Log OpenLog
