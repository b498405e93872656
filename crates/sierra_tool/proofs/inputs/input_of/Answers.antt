use Rattle.std.proofs.Common.{◌≡◌, sym, subst}
use Rattle.type_table.specs.View.{TypesView, trees_of}
use Rattle.typed_values.specs.Shown.{input_meant}
use Rattle.sierra_tool.specs.Causes.{argument_types}
use Rattle.sierra_tool.proofs.Evaluating.{input_is, fault_is}
use Rattle.sierra_tool.proofs.inputs.input_of.Goals as goal

-- the text is that of an input, ..
pub returns-in-Ok : goal.returns-in-Ok
returns-in-Ok c =
    let a = c.args.accepted.now in
    let same = subst (λ ids. trees_of c.types.result.now ids ≡ argument_types a) (sym c.deref.ensures.value) (subst (λ (t : TypesView). trees_of t c.in_ok-args.args.items ≡ argument_types a) (sym c.types.ensures) c.in_ok-args.ensures.trees) in
    input_is c.known.ensures a c.args.text.now (trees_of c.types.result.now c.deref.result.now) (input_meant c.in-Ok.input) same c.in-Ok.ensures
