use Rattle.std.proofs.Common.{sym, subst}
use Rattle.std.specs.List.{All}
use Rattle.type_table.specs.View.{IsInTable}
use Rattle.libfunc_registry.specs.Wanted.{FindsAll, FindsEach, listed_trees, branch_trees}
use Rattle.libfunc_registry.proofs.declarations.declared.Goals as goal

pub find_list-requires : goal.find_list-requires
find_list-requires c = c.takes.ensures.placed c.args.types.now c.requires

pub find_branches-requires : goal.find_branches-requires
find_branches-requires c = c.gives.ensures.placed c.args.types.now c.requires

pub returns-in_default : goal.returns-in_default
returns-in_default c = λ declared.
    let types = c.args.types.now in
    (subst (FindsAll types (listed_trees types c.takes.result)) c.in_default.is c.in_ok-params.ensures)
    (subst (All (IsInTable types)) (sym (c.takes.ensures.trees types)) declared.takes)

pub returns-in_default-2 : goal.returns-in_default-2
returns-in_default-2 c = λ declared.
    let types = c.args.types.now in
    (subst (FindsEach types (branch_trees types c.gives.result)) c.in_default-2.is c.in_ok-branches.ensures)
    (subst (All (All (IsInTable types))) (sym (c.gives.ensures.trees types)) declared.gives)
