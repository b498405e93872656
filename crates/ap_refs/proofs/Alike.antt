-- The places hold the variables that the linear check gives.
use Rattle.std.proofs.Common.{◌≡◌, ℕ, ◌<◌, List, [], ◌∷◌, take, drop, length}
use Rattle.sierra_types.specs.declared.program.Program.{Program}
use Rattle.type_table.specs.View.{TypesView, trees_of}
use Rattle.type_table.specs.declared.type_id.TypeId.{TypeId}
use Rattle.libfunc_registry.specs.declared.sig.Sig.{Sig}
use Rattle.libfunc_registry.specs.Fam.{fam_of}
use Rattle.cost_table.specs.Results.{cells_of, results}
use Rattle.linear_check.specs.Statements.{param_types}
use Rattle.linear_check.specs.Typed.{TypedList}
use Rattle.ap_refs.specs.Arguments.{Cells, joined}
use Rattle.ap_refs.specs.Locals.{size_of}
use Rattle.ap_refs.specs.Moves.{argument_cells}
use Rattle.ap_refs.specs.Placed.{PlacedList, Placed, IsAlike}
use Rattle.ap_refs.specs.Prepared.{IsTypedProgram}
use Rattle.ap_refs.proofs.Holding.{Asked, AreParts, held_at}

abbrev AnyCells : Asked
AnyCells ty cells = Unit {0}

any_parts : (t : TypesView) (types : List TypeId) (own : Cells) → AreParts AnyCells t types own
any_parts t [] own = tt
any_parts t (ty ∷ tys) own = (tt, any_parts t tys (drop (size_of t ty) own))

pub same_variables : (p : Program) (t : TypesView) (sigs : List Sig) (envs : TypedList) → IsTypedProgram p t sigs envs → (a : PlacedList) → Placed p t sigs a → (s : ℕ) → s < length p.statements → IsAlike envs a s
same_variables p t sigs envs program a placed =
    held_at p t sigs envs program a placed AnyCells (λ ty n cells is. tt) (λ f. any_parts t (param_types t f) (argument_cells (cells_of (trees_of t (param_types t f)))))
    (λ sig signature args are amount k types is. any_parts t types (results (joined args) amount (fam_of t sig.libfunc) k))
