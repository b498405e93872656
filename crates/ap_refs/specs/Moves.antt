-- What a branch gives its target: ap moves, what is held is named anew, and the results are added.
use Rattle.std.specs.Prelude.{ℕ, ◌+◌, pos, ◌-ℤ◌, List, [], ◌∷◌, map, take, drop, Option, Some, None}
use Rattle.std.specs.Option.{unwrap_or}
use Rattle.std.specs.List.{range_with_len}
use Rattle.casm_word.specs.declared.instr.Reg.TheVariants as reg
use Rattle.casm_word.specs.declared.cell_expr.CellExpr.{CellExpr}
use Rattle.casm_word.specs.declared.cell_expr.CellExpr.TheVariants as expr
use Rattle.casm_word.specs.Expressions.{lowered}
use Rattle.type_table.specs.declared.type_id.TypeId.{TypeId}
use Rattle.type_table.specs.View.{TypesView, trees_of}
use Rattle.libfunc_registry.specs.declared.libfunc.Libfunc.{Libfunc}
use Rattle.libfunc_registry.specs.declared.libfunc.Libfunc.TheVariants.{FinalizeLocals, DisableApTracking}
use Rattle.libfunc_registry.specs.Fam.{fam_of}
use Rattle.cost_table.specs.declared.costs.ApChange.{ApChange}
use Rattle.cost_table.specs.declared.costs.ApChange.TheVariants as changes
use Rattle.cost_table.specs.Costs.{cost}
use Rattle.cost_table.specs.Results.{results, cells_of}
use Rattle.held_list.specs.Held.{Held}
use Rattle.held_list.specs.Editing.{add}
use Rattle.ap_refs.specs.Arguments.{Cells, Argument, joined}
use Rattle.ap_refs.specs.Locals.{size_of}
use Rattle.ap_refs.specs.declared.place.Locals.{Locals}
use Rattle.ap_refs.specs.declared.place.Locals.TheVariants.{Before}
use Rattle.ap_refs.specs.declared.place.Place.{Place}

abbrev pub known : ApChange → Option ℕ
known (changes.Known n) = Some n
known changes.Unknown = None

-- How far a branch moves ap, None where nobody knows. `finalize_locals` moves it by the cells of the locals, its amount;
-- behind `disable_ap_tracking` nobody knows where ap is.
abbrev pub change : TypesView → Libfunc → (amount branch : ℕ) → Option ℕ
change t FinalizeLocals amount branch = Some amount
change t DisableApTracking amount branch = None
change t libfunc amount branch = known (cost (fam_of t libfunc) branch).ap

-- how far ap is from where it was at the function's begin, once it has moved
abbrev pub further : Option ℕ → Option ℕ → Option ℕ
further (Some ap) (Some n) = Some (ap + n)
further (Some ap) None = None
further None moved = None

-- what is held, named after ap moved up by n
abbrev pub lowered_all : ℕ → Held Cells → Held Cells
lowered_all n held = map (λ (x : Argument). (x.0, map (lowered n) x.1)) held

-- A variable is added. Where it is held already, nothing is; in a typed program no result is.
abbrev pub added_one : ℕ → Cells → Held Cells → Held Cells
added_one v cells held = unwrap_or (add v cells held) held

-- these variables, of these types, are added with these cells, each taking as many as its type says
abbrev pub added : TypesView → List ℕ → List TypeId → Cells → Held Cells → Held Cells
added t [] types cells held = held
added t (v ∷ vs) [] cells held = held
added t (v ∷ vs) (ty ∷ tys) cells held = added t vs tys (drop (size_of t ty) cells) (added_one v (take (size_of t ty) cells) held)

-- What is known behind a branch: `rest` is held without the arguments, which have these cells, and the results have these
-- types.
abbrev pub behind : TypesView → Libfunc → Place → (args : Cells) → (rest : Held Cells) → Locals → (amount branch : ℕ) → List ℕ → List TypeId → Place
behind t libfunc place args rest locals amount branch vs types = record {
  cells = added t vs types (results args amount (fam_of t libfunc) branch) (lowered_all (unwrap_or (change t libfunc amount branch) 0) rest);
  ap = further place.ap (change t libfunc amount branch);
  locals = locals;
}

-- argument cell k of a function that has n
abbrev pub argument_cell : ℕ → ℕ → CellExpr
argument_cell n k = expr.Cell (record { base = reg.Fp; off = pos k -ℤ pos (n + 2) })

-- the n argument cells of a function, from fp - 2 - n to fp - 3
abbrev pub argument_cells : ℕ → Cells
argument_cells n = map (argument_cell n) (range_with_len 0 n)

-- what is known where a function with these parameters begins
abbrev pub beginning : TypesView → List ℕ → List TypeId → Place
beginning t vs types = record {
  cells = added t vs types (argument_cells (cells_of (trees_of t types))) [];
  ap = Some 0;
  locals = Before;
}
