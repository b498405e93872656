use Rattle.std.proofs.Common.{◌∙◌, ap, sym, subst}
use Rattle.std.specs.List.{All}
use Rattle.libfunc_registry.specs.Fam.{fam_of}
use Rattle.libfunc_registry.specs.Wanted.{IsBelow}
use Rattle.type_table.specs.View.{trees_of}
use Rattle.cost_table.specs.Results.{cells_of}
use Rattle.cost_table.proofs.Signatures.{trees_are, trees_below, branch_found, branch_within}
use Rattle.cost_table.proofs.Made.{made}
use Rattle.cost_table.proofs.expressions.results.Goals as goal

pub cells_of-requires : goal.cells_of-requires
cells_of-requires c =
    let types = c.args.types.now in
    let found = branch_found types c.args.sig.now c.args.branch _ _ c.items.ensures c.index-items-branch.is c.requires.signature c.requires.branch in
    subst (All (IsBelow types)) (sym c.items-2.ensures) (trees_below types _ _ found)

pub parts_of-parts-requires-clause-branch : goal.parts_of-parts-requires-clause-branch
parts_of-parts-requires-clause-branch c = branch_within c.args.types.now c.args.sig.now c.args.branch c.requires.signature c.requires.branch

pub returns : goal.returns
returns c =
    let types = c.args.types.now in
    let fam = fam_of types c.args.sig.now.libfunc in
    let found = branch_found types c.args.sig.now c.args.branch _ _ c.items.ensures c.index-items-branch.is c.requires.signature c.requires.branch in
    let count_is = c.in-Some.ensures.few.0 ∙ ap (λ ts. cells_of (trees_of types ts)) c.items-2.ensures ∙ ap cells_of (trees_are types _ _ found) in
    made c.args.args.now c.args.amount fam c.args.branch c.row_of-row.result _ c.in-Some.count c.moved.result c.new-cells.result.items c.push_parts.new.cells.items
    c.row_of-row.ensures count_is c.parts_of-parts.ensures.terms c.moved.ensures c.new-cells.ensures.items c.in_ok-push_parts.ensures
