use Rattle.std.proofs.Common.{◌≡◌, sym, subst}
use Rattle.type_table.specs.View.{TypesView, trees_of}
use Rattle.sierra_tool.specs.Causes.{argument_types}
use Rattle.sierra_tool.proofs.OneNumber.{tested}
use Rattle.sierra_tool.proofs.inputs.takes_one_felt.Goals as goal

-- the types are those of main's parameters that are no builtins
pub returns : goal.returns
returns c =
    let a = c.args.accepted.now in
    let tys = argument_types a in
    let same = subst (λ ids. trees_of c.types.result.now ids ≡ tys) (sym c.deref.ensures.value) (subst (λ (t : TypesView). trees_of t c.in_ok-args.args.items ≡ tys) (sym c.types.ensures) c.in_ok-args.ensures.trees) in
    tested (trees_of c.types.result.now c.deref.result.now) tys c.is_one_felt.result c.is_one_felt.ensures same
