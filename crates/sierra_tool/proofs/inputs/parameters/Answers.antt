use Rattle.std.proofs.Common.{◌≡◌, ◌<◌, ℕ, length, Some, sym, ap, subst, ◌∙◌}
use Rattle.std.specs.List.{slice_get, All}
use Rattle.type_table.specs.View.{TypesView, trees_of}
use Rattle.type_table.specs.declared.type_id.TypeId.{TypeId}
use Rattle.sierra_tool.proofs.Arguments.{main_below, main_parameters}
use Rattle.sierra_tool.proofs.inputs.parameters.Goals as goal

-- main is in the table of functions
pub params-requires : goal.params-requires
params-requires c =
    let a = c.args.accepted.now in
    subst (λ (n : ℕ). n < length c.types.result.now.functions) (sym c.main.ensures)
    (subst (λ (t : TypesView). a.main < length t.functions) (sym c.types.ensures) (main_below a c.program-program.ensures.accepted))

-- these are its parameters
pub returns-clause-trees : goal.returns-clause-trees
returns-clause-trees c =
    let a = c.args.accepted.now in
    let found = main_parameters a c.program-program.ensures.accepted in
    let there = subst (λ (n : ℕ). slice_get c.types.result.now.functions n ≡ Some found.0) (sym c.main.ensures) (subst (λ (t : TypesView). slice_get t.functions a.main ≡ Some found.0) (sym c.types.ensures) found.1) in
    ap (λ ids. trees_of a.types ids) (c.params.ensures found.0 there) ∙ found.2

pub returns-clause-below : goal.returns-clause-below
returns-clause-below c =
    let a = c.args.accepted.now in
    let found = main_parameters a c.program-program.ensures.accepted in
    let there = subst (λ (n : ℕ). slice_get c.types.result.now.functions n ≡ Some found.0) (sym c.main.ensures) (subst (λ (t : TypesView). slice_get t.functions a.main ≡ Some found.0) (sym c.types.ensures) found.1) in
    subst (All (λ t. t.0 < length a.types.rows)) (sym (c.params.ensures found.0 there)) found.3
