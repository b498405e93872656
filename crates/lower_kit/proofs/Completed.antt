-- An honest run through a fragment, from a filling of its cells.
use Rattle.std.proofs.Common.{◌≡◌, ◌<◌, ◌≤◌, ◌+◌, ℕ, Option, Some, None, List, [], ◌∷◌, refl, sym, ap, ◌∙◌, subst, arith}
use Rattle.std.specs.FinMap.{get}
use Rattle.std.specs.List.{AllByRecursion}
use Rattle.casm_word.specs.declared.cell_expr.CellExpr.{CellExpr}
use Rattle.ro_machine.specs.Cells.{Cells}
use Rattle.ro_machine.specs.Extends.{Extends}
use Rattle.ro_machine.specs.Memory.{IsMemory}
use Rattle.casm_steps.specs.Reading.{address, readings}
use Rattle.casm_steps.proofs.Readings.{reading_extends}
use Rattle.hint_source.specs.Remembered.{Remembered}
use Rattle.frag_code.specs.declared.piece.Piece.{Piece}
use Rattle.frag_code.specs.Evaluation.{Evaluation, Tally}
use Rattle.frag_fills.specs.Filling.{Filled, Filling}
use Rattle.frag_fills.proofs.Fillings.{filling_evaluates, filling_extends}
use Rattle.type_trees.specs.Ty.{Ty}
use Rattle.libfunc_registry.specs.Fam.{Fam, control, gas, felts, integers, data_, arrays, dictionaries, takes}
use Rattle.value_trees.specs.Logs.{Log, OpenLog, Logged}
use Rattle.libfunc_meaning.specs.Dictionaries.{Dictionary}
use Rattle.libfunc_meaning.specs.Do.{Do}
use Rattle.cell_forms.specs.Growing.{KeepEach}
use Rattle.cell_forms.specs.LogStands.{LogStands, OpenLogStands}
use Rattle.cell_forms.specs.Standing.{Padding, Asked, listed, AllLoggedStand}
use Rattle.cell_forms.proofs.Growth.{all_kept}
use Rattle.cell_forms.proofs.Logs.{asked_kept, log_kept, open_log_kept}
use Rattle.felt64.specs.Field.{sum}
use Rattle.ro_machine.specs.Readings.{Readings}
use Rattle.cost_table.specs.Results.{branch_types, results}
use Rattle.lower_kit.specs.Completing.{free_cells, BeginsFresh}
use Rattle.lower_kit.specs.Logged.{honest}
use Rattle.lower_kit.specs.Counting.{range_bound}
use Rattle.lower_kit.specs.Lowers.{HasRoom, Shows, Completes}
use Rattle.lower_kit.proofs.Free.{Grown}

module _ (m more : ℕ → Option ℕ) (extends : Extends m more) (ap_ fp : ℕ) where
  -- what expressions read they read still
  pub readings_keep : (args : List CellExpr) → KeepEach (readings m ap_ fp args) (readings more ap_ fp args)
  readings_keep [] = refl
  readings_keep (e ∷ args) = (_, _, refl, (λ n is. reading_extends m more extends (address ap_ fp) e n is), readings_keep args)

  -- values that stand in a memory stand in a larger one
  pub stand_still : (padding : Padding) (tys : List Ty) (args : List CellExpr) (vs : List Logged) → AllLoggedStand padding m tys (readings m ap_ fp args) vs
      → AllLoggedStand padding more tys (readings more ap_ fp args) vs
  stand_still padding tys args vs stand =
      all_kept (Asked padding) (Asked padding) (asked_kept padding) m more extends (LogStands m) (LogStands more) (OpenLogStands m) (OpenLogStands more)
      (log_kept m more extends) (open_log_kept m more extends) tys (readings m ap_ fp args) (readings more ap_ fp args) vs (readings_keep args) stand

-- the family touches no dictionary that is open
abbrev pub IsUnlogged : Fam → Type 0
IsUnlogged (dictionaries fam) = ⊥
IsUnlogged _ = Unit {0}

abbrev branch_in : Option (ℕ × List Logged) → ℕ
branch_in None = 0
branch_in (Some told) = told.0

abbrev outs_in : Option (ℕ × List Logged) → List Logged
outs_in None = []
outs_in (Some told) = told.1

-- it takes one branch, and gives the same whatever dictionaries are
pub one_answer : (d e : Dictionary Log OpenLog) (fam : Fam) (vs : List Logged) (amount k l : ℕ) (outs rest : List Logged) → IsUnlogged fam → Do d fam vs amount k outs → Do e fam vs amount l rest
    → (k ≡ l) × (outs ≡ rest)
one_answer d e (control fam) vs amount k l outs rest un first second = (ap branch_in (sym first ∙ second), ap outs_in (sym first ∙ second))
one_answer d e (gas fam) vs amount k l outs rest un first second = (ap branch_in (sym first ∙ second), ap outs_in (sym first ∙ second))
one_answer d e (felts fam) vs amount k l outs rest un first second = (ap branch_in (sym first ∙ second), ap outs_in (sym first ∙ second))
one_answer d e (integers fam) vs amount k l outs rest un first second = (ap branch_in (sym first ∙ second), ap outs_in (sym first ∙ second))
one_answer d e (data_ fam) vs amount k l outs rest un first second = (ap branch_in (sym first ∙ second), ap outs_in (sym first ∙ second))
one_answer d e (arrays fam) vs amount k l outs rest un first second = (ap branch_in (sym first ∙ second), ap outs_in (sym first ∙ second))
one_answer d e (dictionaries fam) vs amount k l outs rest un first second = absurd un

pub one_branch : (d e : Dictionary Log OpenLog) (fam : Fam) (vs : List Logged) (amount k l : ℕ) (outs rest : List Logged) → IsUnlogged fam → Do d fam vs amount k outs → Do e fam vs amount l rest → k ≡ l
one_branch d e fam vs amount k l outs rest un first second = (one_answer d e fam vs amount k l outs rest un first second).0

module _ (d : Dictionary Log OpenLog) (fam : Fam) (args : List CellExpr) (amount : ℕ) (frag : List Piece) where
  abbrev pub Sound : Type 0
  Sound = (padding : Padding) (m : ℕ → Option ℕ) (ap_ fp k : ℕ) (end : Tally) (vs : List Logged) → IsMemory m
      → AllLoggedStand padding m (takes fam) (readings m ap_ fp args) vs → HasRoom fam vs
      → Evaluation frag m ap_ fp k end → AllByRecursion (λ cell. cell.1 < range_bound) end.named
      → Shows d padding m ap_ fp fam args amount vs k end

  -- a filling that names no range-check cell and adds free cells alone is an honest run
  pub quietly : Sound → IsUnlogged fam → ((r : Remembered) (cells : Readings) → BeginsFresh r fam cells) → (r : Remembered) (m : Cells) (ap_ fp k : ℕ) (vs outs : List Logged) → IsMemory (get m)
      → AllLoggedStand listed (get m) (takes fam) (readings (get m) ap_ fp args) vs → HasRoom fam vs → Do honest fam vs amount k outs → (z : Filled) → Filling frag ap_ fp r m k z
      → Grown m (free_cells r (get m) ap_ fp args fam amount k) z.cells → z.end.named ≡ [] → z.remembered.logs ≡ r.logs → z.remembered.fresh ≤ r.fresh + z.end.steps
      → Completes d r m ap_ fp fam args amount k outs frag
  quietly sound un begins r m ap_ fp k vs outs in_field stand room does z filling grown named logs segments =
      let small = subst (λ cells. AllByRecursion (λ cell. cell.1 < range_bound) cells) (sym named) tt in
      let still = stand_still (get m) (get z.cells) (filling_extends frag ap_ fp k r m z filling) ap_ fp listed (takes fam) args vs stand in
      let shows = sound listed (get z.cells) ap_ fp k z.end vs (grown.in_field in_field) still room (filling_evaluates frag ap_ fp k r m z filling) small in
      let same = (one_answer d honest fam vs amount k k shows.outs outs un shows.means does).1 in
      record {
        filled = z;
        filling = filling;
        small = small;
        only = grown.only;
        in_field = grown.in_field in_field;
        stand = subst (λ us. AllLoggedStand listed (get z.cells) (branch_types fam k) (readings (get z.cells) (sum ap_ z.end.change) fp (results args amount fam k)) us) same shows.stand;
        begins = begins r _;
        logs = logs;
        segments = segments;
      }

  -- where the source is asked nothing
  pub unasked : (r : Remembered) (z : Filled) → z.remembered ≡ r → (z.remembered.logs ≡ r.logs) × (z.remembered.fresh ≤ r.fresh + z.end.steps)
  unasked r z is = (ap (λ s. s.logs) is, let same : z.remembered.fresh ≡ r.fresh = ap (λ s. s.fresh) is in omega (arith, same))
