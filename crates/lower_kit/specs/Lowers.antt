-- The lowering contract: what is promised of the fragment of a libfunc over the expressions of its arguments. It speaks of all
-- families but two whose fragments do only a part of what their rows say, and whose values are another's: a call, and the squash
-- of a dictionary.
use Rattle.std.specs.Prelude.{◌≡◌, ◌<◌, ◌≤◌, ◌+◌, ℕ, Option, Some, None, List, [], ◌∷◌, length, IsTrue, IsSome}
use Rattle.std.specs.List.{AllByRecursion, Contains}
use Rattle.std.specs.FinMap.{get}
use Rattle.felt64.specs.Field.{modulus, sum}
use Rattle.casm_word.specs.declared.cell_expr.CellExpr.{CellExpr}
use Rattle.ro_machine.specs.Cells.{Cells}
use Rattle.ro_machine.specs.Memory.{IsMemory}
use Rattle.casm_steps.specs.Reading.{readings}
use Rattle.hint_source.specs.Honest.{fresh_answer}
use Rattle.hint_source.specs.Remembered.{Remembered}
use Rattle.frag_code.specs.declared.piece.Piece.{Piece}
use Rattle.frag_code.specs.Evaluation.{Evaluation, Tally}
use Rattle.frag_code.specs.Form.{IsWellFormed, hints_met}
use Rattle.frag_fills.specs.Filling.{Filled, Filling}
use Rattle.libfunc_registry.specs.Arrays as array
use Rattle.libfunc_registry.specs.Dictionaries as dictionary
use Rattle.libfunc_registry.specs.Fam.{Fam, arrays, dictionaries, takes}
use Rattle.value_trees.specs.Logs.{Log, OpenLog, Logged}
use Rattle.value_trees.specs.Val.{vals_of}
use Rattle.value_trees.specs.Val as val
use Rattle.libfunc_meaning.specs.Dictionaries.{Dictionary}
use Rattle.libfunc_meaning.specs.Do.{Do}
use Rattle.cost_table.specs.Costs.{row_of}
use Rattle.cost_table.specs.Results.{branch_types, results}
use Rattle.cell_forms.specs.Stands.{most_elements}
use Rattle.cell_forms.specs.Standing.{Padding, listed, AllLoggedStand}
use Rattle.lower_kit.specs.Completing.{IsFree, free_cells, KnowsLogs, BeginsFresh}
use Rattle.lower_kit.specs.Logged.{honest}
use Rattle.lower_kit.specs.Counting.{range_bound, Counts, token_in, TokensAre}

-- an array, or a log, that grows has room for one element more
abbrev pub HasRoom : Fam → List Logged → Type 0
HasRoom (arrays (array.array_append ty)) vs =
    (us : List Logged) (v : Logged) → vs ≡ val.array (vals_of us) ∷ v ∷ [] → length us + 1 < most_elements
HasRoom (dictionaries (dictionary.dict_entry_finalize num)) vs =
    (e : OpenLog) (v : Logged) → vs ≡ val.dict_entry e ∷ v ∷ [] → length e.log + 1 < most_elements
HasRoom _ vs = Unit {0}

module _ (d : Dictionary Log OpenLog) where
  -- what the family does with these values on branch k stands in the cells of the results' expressions
  pub record Shows (padding : Padding) (m : ℕ → Option ℕ) (ap fp : ℕ) (fam : Fam) (args : List CellExpr) (amount : ℕ) (vs : List Logged) (k : ℕ) (end : Tally) : Type 0 where
    pub outs : List Logged
    pub means : Do d fam vs amount k outs
    pub stand : AllLoggedStand padding m (branch_types fam k) (readings m (sum ap end.change) fp (results args amount fam k)) outs

  -- An honest run goes through the fragment on branch k. The cells get their words as the equations and the honest answers say: no
  -- cells but free ones, small words where ranges are checked, and the memory stays one. The results hold these values, their padding
  -- listed. The source has no other logs than before, and gave no more free segments than there were steps.
  pub record Completes (r : Remembered) (m : Cells) (ap fp : ℕ) (fam : Fam) (args : List CellExpr) (amount k : ℕ) (outs : List Logged) (frag : List Piece) : Type 0 where
    pub filled : Filled
    pub filling : Filling frag ap fp r m k filled
    pub small : AllByRecursion (λ cell. cell.1 < range_bound) filled.end.named
    pub only : (a : ℕ) → get m a ≡ None → IsSome (get filled.cells a) → Contains (free_cells r (get m) ap fp args fam amount k) a
    pub in_field : IsMemory (get filled.cells)
    pub stand : AllLoggedStand listed (get filled.cells) (branch_types fam k) (readings (get filled.cells) (sum ap filled.end.change) fp (results args amount fam k)) outs
    pub begins : BeginsFresh r fam (readings (get filled.cells) (sum ap filled.end.change) fp (results args amount fam k))
    pub logs : filled.remembered.logs ≡ r.logs
    pub segments : filled.remembered.fresh ≤ r.fresh + filled.end.steps

  pub record Lowers (fam : Fam) (args : List CellExpr) (amount : ℕ) (frag : List Piece) : Type 0 where
    pub form : IsWellFormed frag
    -- no jump passes over a query that is asked at its target
    pub hints : IsTrue (hints_met 0 frag)
    pub counts : (m : ℕ → Option ℕ) (ap fp k : ℕ) (end : Tally) → Evaluation frag m ap fp k end → Counts m ap fp fam args amount k end
    -- each evaluation over cells in which the arguments hold values, and over words below the bound in the range-check cells
    -- that it names, takes the branch that the family takes with these values, and its results hold theirs
    pub sound : (padding : Padding) (m : ℕ → Option ℕ) (ap fp k : ℕ) (end : Tally) (vs : List Logged) → IsMemory m
        → AllLoggedStand padding m (takes fam) (readings m ap fp args) vs → HasRoom fam vs
        → Evaluation frag m ap fp k end → AllByRecursion (λ cell. cell.1 < range_bound) end.named
        → Shows padding m ap fp fam args amount vs k end
    -- a range-check token among the results has the word of the one among the arguments and the row's checks
    pub token : (m : ℕ → Option ℕ) (ap fp k pointer : ℕ) (end : Tally) → Evaluation frag m ap fp k end → pointer < modulus
        → token_in (takes fam) (readings m ap fp args) ≡ Some pointer
        → TokensAre (sum pointer (row_of fam k).checks) (branch_types fam k) (readings m (sum ap end.change) fp (results args amount fam k))
    -- Where the arguments hold values, with their padding listed, and the family does something with these values on branch k, each
    -- entry that it opens finding the right word: an honest run goes through the fragment on that branch, if the cells that may get
    -- a word are free, and the source knows the logs and has an answer to Fresh.
    pub whole : (r : Remembered) (m : Cells) (ap fp k : ℕ) (vs outs : List Logged) → IsMemory (get m)
        → AllLoggedStand listed (get m) (takes fam) (readings (get m) ap fp args) vs → HasRoom fam vs → Do honest fam vs amount k outs
        → IsFree (get m) (free_cells r (get m) ap fp args fam amount k) → KnowsLogs r (takes fam) (readings (get m) ap fp args) vs → IsSome (fresh_answer r.fresh)
        → Completes r m ap fp fam args amount k outs frag
