-- Dictionaries by the logs of their accesses: how a run in which each dictionary is its log begins, accesses and ends one.
use Rattle.std.specs.Prelude.{ℕ, ◌≡◌, ◌==◌, if◌then◌else◌, [], ◌∷◌}
use Rattle.std.specs.FinMap as finite
use Rattle.value_trees.specs.Val.{WordMap}
use Rattle.value_trees.specs.Logs.{Log, OpenLog}
use Rattle.libfunc_meaning.specs.Dictionaries.{Dictionary}

-- the word that the last access of this key left, or 0 where there is none; the last access of a log is its first element
abbrev pub last_word : ℕ → Log → ℕ
last_word key [] = 0
last_word key (a ∷ log) = if a.key == key then a.new else last_word key log

-- each access found the word that the last one before it of its key left
abbrev pub IsConsistent : Log → Type 0
IsConsistent [] = Unit {0}
IsConsistent (a ∷ log) = (a.previous ≡ last_word a.key log) × IsConsistent log

-- each key that was accessed, with its last word
abbrev pub map_of : Log → WordMap
map_of [] = finite.empty
map_of (a ∷ log) = finite.insert (map_of log) a.key a.new

-- An opened entry may find any word: that it was the right one is known where the dictionary is squashed, of which the log is
-- consistent.
abbrev pub logged : Dictionary Log OpenLog
logged = record {
  Begins = λ log. log ≡ [];
  Opens = λ log key word e. e ≡ record { log = log; key = key; previous = word };
  Closes = λ e word log. log ≡ record { key = e.key; previous = e.previous; new = word } ∷ e.log;
  Ends = λ log squashed. IsConsistent log × (squashed ≡ map_of log);
}

-- the same, but an opened entry finds the right word, as in an honest run
abbrev pub honest : Dictionary Log OpenLog
honest = record {
  Begins = λ log. log ≡ [];
  Opens = λ log key word e. (word ≡ last_word key log) × (e ≡ record { log = log; key = key; previous = word });
  Closes = λ e word log. log ≡ record { key = e.key; previous = e.previous; new = word } ∷ e.log;
  Ends = λ log squashed. IsConsistent log × (squashed ≡ map_of log);
}
