use Rattle.std.proofs.Common.{◌≡◌, ◌≢◌, ◌↔◌, Some, sym, subst}
use Rattle.type_table.specs.declared.fault.TypeFault.TheVariants as faults
use Rattle.type_table.specs.declared.kind.Shape.{Shape}
use Rattle.type_table.specs.declared.type_id.TypeId.{TypeId}
use Rattle.type_table.specs.Refusals.{FirstFault}
use Rattle.type_table.specs.Lookups.{found_shape}
use Rattle.type_table.specs.View.{HasTree}
use Rattle.type_table.specs.Shapes.{shaped}
use Rattle.type_table.specs.Shaping.{view_of, AreDistinct}
use Rattle.type_table.specs.Table.{HasTypes}
use Rattle.type_table.specs.Functions.{HasRows}
use Rattle.type_table.specs.Made.{AreTyped, FirstTypeFault}
use Rattle.type_table.proofs.RowsMade.{type_fault_first, typed_rows, behind_first, has_types, are_distinct, is_kept}
use Rattle.type_table.proofs.SignatureLaws.{fault_passed}
use Rattle.type_table.proofs.making.table.Goals as goal

pub returns-in_err-typed-clause-refused : goal.returns-in_err-typed-clause-refused
returns-in_err-typed-clause-refused c =
    let p = c.args.program.now in
    let fault = c.in_err-typed.field-0.0 in
    fault_passed (λ e. e ≢ faults.Memory → FirstFault p e) fault c.from_residual.result c.from_residual.ensures.1
    (λ real. type_fault_first p fault (subst (λ l. FirstTypeFault l fault) c.items.ensures (c.in_err-typed.ensures.refused real)))

pub functions_of-requires : goal.functions_of-requires
functions_of-requires c =
    let p = c.args.program.now in
    let positions = c.in_ok-typed.typed.positions in
    let rows = c.in_ok-typed.typed.rows.items in
    let typed : AreTyped p.types positions rows = subst (λ l. AreTyped l positions rows) c.items.ensures c.in_ok-typed.ensures.found in
    subst (HasRows p positions) (sym c.deref.ensures.value) (typed_rows p positions rows typed)

pub returns-in_err-functions-clause-refused : goal.returns-in_err-functions-clause-refused
returns-in_err-functions-clause-refused c =
    let p = c.args.program.now in
    let positions = c.in_ok-typed.typed.positions in
    let rows = c.in_ok-typed.typed.rows.items in
    let fault = c.in_err-functions.field-0.0 in
    let typed : AreTyped p.types positions rows = subst (λ l. AreTyped l positions rows) c.items.ensures c.in_ok-typed.ensures.found in
    fault_passed (λ e. e ≢ faults.Memory → FirstFault p e) fault c.from_residual-in_err-functions.result c.from_residual-in_err-functions.ensures.1
    (λ real. behind_first p positions rows typed fault (c.in_err-functions.ensures.refused real))

pub shapes_of-requires : goal.shapes_of-requires
shapes_of-requires c =
    let p = c.args.program.now in
    let positions = c.in_ok-typed.typed.positions in
    let rows = c.in_ok-typed.typed.rows.items in
    let functions = c.in_ok-functions.functions in
    let typed : AreTyped p.types positions rows = subst (λ l. AreTyped l positions rows) c.items.ensures c.in_ok-typed.ensures.found in
    subst AreDistinct (sym c.deref-2.ensures.value) (are_distinct p positions rows typed functions.ids functions.signatures.items c.in_ok-functions.ensures.found)

pub new-requires : goal.new-requires
new-requires c =
    let p = c.args.program.now in
    let positions = c.in_ok-typed.typed.positions in
    let rows = c.in_ok-typed.typed.rows.items in
    let functions = c.in_ok-functions.functions in
    let shapes = c.in_ok-shapes.shapes in
    let typed : AreTyped p.types positions rows = subst (λ l. AreTyped l positions rows) c.items.ensures c.in_ok-typed.ensures.found in
    is_kept p positions rows typed functions.ids functions.signatures.items c.in_ok-functions.ensures.found shapes
    (subst (λ l. (shape : Shape) (t : TypeId) → (found_shape shapes shape ≡ Some t) ↔ HasTree (view_of l) t.0 (shaped (view_of l) shape)) c.deref-2.ensures.value c.in_ok-shapes.ensures)

pub returns-clause-found : goal.returns-clause-found
returns-clause-found c =
    let p = c.args.program.now in
    let positions = c.in_ok-typed.typed.positions in
    let rows = c.in_ok-typed.typed.rows.items in
    let functions = c.in_ok-functions.functions in
    let typed : AreTyped p.types positions rows = subst (λ l. AreTyped l positions rows) c.items.ensures c.in_ok-typed.ensures.found in
    subst (HasTypes p) (sym c.new.ensures) (has_types p positions rows typed functions.ids functions.signatures.items c.in_ok-functions.ensures.found)
