-- What a fragment counts: its steps, how far it moves ap, and the range-check cells that it names.
use Rattle.std.specs.Prelude.{◌≡◌, ◌≤◌, ◌^◌, ℕ, Option, Some, None, List, [], ◌∷◌, map, take, drop, length}
use Rattle.std.specs.List.{range_with_len}
use Rattle.felt64.specs.Field.{sum}
use Rattle.casm_word.specs.declared.cell_expr.CellExpr.{CellExpr}
use Rattle.cell_terms.specs.Resolving.{argument}
use Rattle.ro_machine.specs.Readings.{Readings}
use Rattle.casm_steps.specs.Reading.{reading}
use Rattle.frag_code.specs.Evaluation.{Tally}
use Rattle.type_trees.specs.Ty.{Ty, range_check, size}
use Rattle.libfunc_registry.specs.Control as controls
use Rattle.libfunc_registry.specs.Fam.{Fam, control}
use Rattle.cost_table.specs.Costs.{row_of}
use Rattle.cost_table.specs.Results.{moved_by}

-- a word that a range check names is below this one
abbrev pub range_bound : ℕ
range_bound = 2 ^ 32

-- how far ap moves in the fragment: as its branch says, but for `finalize_locals`, where it is the amount
abbrev pub change_by : ℕ → Fam → ℕ → ℕ
change_by amount (control controls.finalize_locals) branch = amount
change_by amount fam branch = moved_by fam branch

-- the named range-check cells are those from the pointer on, which is the word of the first argument
abbrev pub NamesInOrder : (m : ℕ → Option ℕ) (ap fp : ℕ) (args : List CellExpr) → (checks : ℕ) → List (ℕ × ℕ) → Type 0
NamesInOrder m ap fp args checks named =
    (pointer : ℕ) → reading m ap fp (argument args 0) ≡ Some pointer → map (λ cell. cell.0) named ≡ map (sum pointer) (range_with_len 0 checks)

-- the counts of an evaluation of a family's branch
pub record Counts (m : ℕ → Option ℕ) (ap fp : ℕ) (fam : Fam) (args : List CellExpr) (amount k : ℕ) (end : Tally) : Type 0 where
  -- at most the steps of the row
  pub steps : end.steps ≤ (row_of fam k).steps
  -- ap moves as far as the branch says
  pub change : end.change ≡ change_by amount fam k
  -- as many range-check cells are named as the row has checks, in their order
  pub checks : length end.named ≡ (row_of fam k).checks
  pub in_order : NamesInOrder m ap fp args (row_of fam k).checks end.named
  -- at least as many steps as checks
  pub paid : (row_of fam k).checks ≤ end.steps

abbrev pub first_of : Readings → Option ℕ
first_of [] = None
first_of (o ∷ cells) = o

-- The word of the range-check token among values of these types in these cells: of the first one, if there is one. Any word stands
-- for a token, so that what stands doesn't say it.
abbrev pub token_in : List Ty → Readings → Option ℕ
token_in [] cells = None
token_in (range_check ∷ tys) cells = first_of cells
token_in (ty ∷ tys) cells = token_in tys (drop (size ty) cells)

abbrev pub TokenIs : ℕ → Ty → Readings → Type 0
TokenIs w range_check cells = cells ≡ Some w ∷ []
TokenIs w _ cells = Unit {0}

-- each range-check token among them has this word
abbrev pub TokensAre : ℕ → List Ty → Readings → Type 0
TokensAre w [] cells = Unit {0}
TokensAre w (ty ∷ tys) cells = TokenIs w ty (take (size ty) cells) × TokensAre w tys (drop (size ty) cells)
