-- What is asked of a run before an honest one goes through a fragment, besides that its arguments hold values: which cells have no
-- word yet, and what the honest source knows.
use Rattle.std.specs.Prelude.{◌≡◌, ℕ, Option, Some, None, List, [], ◌∷◌, ◌++◌, map, take, drop, reverse, eqb}
use Rattle.std.specs.Option.{unwrap_or}
use Rattle.std.specs.List.{AllByRecursion, IsDistinct, range_with_len}
use Rattle.std.specs.FinMap.{get}
use Rattle.felt64.specs.Field.{sum}
use Rattle.type_trees.specs.Ty.{Ty, dict, size}
use Rattle.casm_word.specs.declared.cell_expr.CellExpr.{CellExpr}
use Rattle.cell_terms.specs.Resolving.{at_of, argument}
use Rattle.ro_machine.specs.Readings.{Readings}
use Rattle.casm_steps.specs.Reading.{address, reading}
use Rattle.hint_source.specs.Honest.{fresh_answer}
use Rattle.hint_source.specs.Accesses.{Accesses}
use Rattle.hint_source.specs.Remembered.{Remembered}
use Rattle.libfunc_registry.specs.Control as controls
use Rattle.libfunc_registry.specs.Data as datas
use Rattle.libfunc_registry.specs.Arrays as array
use Rattle.libfunc_registry.specs.Dictionaries as dictionary
use Rattle.libfunc_registry.specs.Fam.{Fam, control, data_, arrays, dictionaries}
use Rattle.value_trees.specs.Logs.{Log, Logged}
use Rattle.value_trees.specs.Val as val
use Rattle.cost_table.specs.Costs.{row_of}
use Rattle.lower_kit.specs.Counting.{change_by}

-- so many cells from one on
abbrev pub cells_from : ℕ → ℕ → List ℕ
cells_from base n = map (sum base) (range_with_len 0 n)

-- the cells are all different, and none of them has a word
abbrev pub IsFree : (ℕ → Option ℕ) → List ℕ → Type 0
IsFree m cells = AllByRecursion (λ a. m a ≡ None) cells × IsDistinct eqb cells

module _ (r : Remembered) (m : ℕ → Option ℕ) (ap fp : ℕ) (args : List CellExpr) where
  -- the word of the argument expression of this number
  abbrev pub word_at : ℕ → ℕ
  word_at i = unwrap_or (reading m ap fp (argument args i)) 0

  -- The cells besides those above ap and the range checks': those of the local where a value is stored, those of a new box, those behind an array that
  -- grows, and those of an access at the end of its log.
  abbrev pub targets : Fam → List ℕ
  targets (control (controls.store_local ty)) = map (λ i. address ap fp (at_of (argument args i))) (range_with_len 0 (size ty))
  targets (data_ (datas.into_box ty)) = cells_from (unwrap_or (fresh_answer r.fresh) 0) (size ty)
  targets (arrays (array.array_append ty)) = cells_from (word_at 1) (size ty)
  targets (dictionaries (dictionary.dict_entry_get num)) = cells_from (word_at 2) 2
  targets (dictionaries (dictionary.dict_entry_finalize num)) = sum (word_at 1) 2 ∷ []
  targets _ = []

  -- the cells that may get a word on branch k: those from ap to where ap is then, those of the range checks, and the targets
  abbrev pub free_cells : Fam → (amount k : ℕ) → List ℕ
  free_cells fam amount k = cells_from ap (change_by amount fam k) ++ (cells_from (word_at 0) (row_of fam k).checks ++ targets fam)

-- the key and the new word of each access, the first one first
abbrev pub accesses_of : Log → Accesses
accesses_of log = map (λ a. (a.key, a.new)) (reverse log)

abbrev pub KnowsLog : Remembered → Ty → Readings → List Logged → Type 0
KnowsLog r (dict num) cells vs = (start : ℕ) (log : Log) → take 1 cells ≡ Some start ∷ [] → take 1 vs ≡ val.dict log ∷ [] → get r.logs start ≡ Some (accesses_of log)
KnowsLog r _ cells vs = Unit {0}

-- the source knows the log of each dictionary among values of these types in these cells, by its start
abbrev pub KnowsLogs : Remembered → List Ty → Readings → List Logged → Type 0
KnowsLogs r [] cells vs = Unit {0}
KnowsLogs r (ty ∷ tys) cells vs = KnowsLog r ty cells vs × KnowsLogs r tys (drop (size ty) cells) (drop 1 vs)

-- a new array, and a new dictionary, begins and ends where the next free segment does
abbrev pub BeginsFresh : Remembered → Fam → Readings → Type 0
BeginsFresh r (arrays (array.array_new ty)) cells = cells ≡ fresh_answer r.fresh ∷ fresh_answer r.fresh ∷ []
BeginsFresh r (dictionaries (dictionary.dict_new num)) cells = cells ≡ fresh_answer r.fresh ∷ fresh_answer r.fresh ∷ []
BeginsFresh r _ cells = Unit {0}
