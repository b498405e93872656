use Rattle.std.proofs.Common.{◌≡◌, ◌≤◌, length, ap, arith}
use Rattle.std.proofs.lemmas.List.{length-map}
use Rattle.type_table.specs.declared.type_id.TypeId.{TypeId}
use Rattle.type_table.specs.Trees.{parts}
use Rattle.type_table.specs.View.{tree_of}
use Rattle.libfunc_registry.proofs.Finds.{few_parts}
use Rattle.libfunc_registry.proofs.arguments.part_count.Goals as goal

pub overflow_cast-result : goal.overflow_cast-result
overflow_cast-result c =
    let types = c.args.types.now in
    let few = few_parts types c.keeps.ensures c.args.t c.requires in
    let same = ap length c.members.ensures.trees in
    let mapped = length-map c.members.result.now (λ (t : TypeId). tree_of types t.0) in
    omega arith

pub returns : goal.returns
returns c =
    let types = c.args.types.now in
    let same = ap length c.members.ensures.trees in
    let mapped = length-map c.members.result.now (λ (t : TypeId). tree_of types t.0) in
    omega arith
