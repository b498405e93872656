use Rattle.std.proofs.Common.{sym, subst, ap, map}
use Rattle.type_trees.specs.Ty.{snap}
use Rattle.type_table.specs.Trees.{parts}
use Rattle.type_table.specs.View.{tree_of, trees_of}
use Rattle.libfunc_registry.specs.Signature.{AreTrees}
use Rattle.libfunc_registry.specs.Wanted.{listed_trees, FindsAll}
use Rattle.std.specs.Prelude.{IfOk}
use Rattle.libfunc_registry.specs.Fam.{params_of, results_of}
use Rattle.libfunc_registry.proofs.Finds.{are_trees, are_params, are_results, snaps_of}
use Rattle.libfunc_registry.proofs.finding.find_list.Goals as goal

pub returns-in-One : goal.returns-in-One
returns-in-One c = rw c.in-One.is c.find_all.ensures

pub returns-in-Two : goal.returns-in-Two
returns-in-Two c = rw c.in-Two.is c.find_all-in-Two.ensures

pub returns-in-Three : goal.returns-in-Three
returns-in-Three c = rw c.in-Three.is c.find_all-in-Three.ensures

pub returns-in_ok-copied-in-Parts : goal.returns-in_ok-copied-in-Parts
returns-in_ok-copied-in-Parts c =
    let types = c.args.types.now in
    let ms = c.members.result.now in
    rw c.in-Parts.is (subst (λ ts. AreTrees types ts (parts (tree_of types c.in-Parts.t.0))) (sym c.in_ok-copied-in-Parts.ensures)
    (subst (AreTrees types ms) c.members.ensures.trees (are_trees types ms c.members.ensures.below)))

pub returns-in-Snaps : goal.returns-in-Snaps
returns-in-Snaps c =
    let types = c.args.types.now in
    let ms = c.members-in-Snaps.result.now in
    rw c.in-Snaps.is (subst (λ tys. IfOk c.find_snaps.result (FindsAll types (map snap tys))) c.members-in-Snaps.ensures.trees
    (subst (λ tys. IfOk c.find_snaps.result (FindsAll types tys)) (snaps_of types ms) c.find_snaps.ensures))

pub returns-in_ok-copied-in-Params : goal.returns-in_ok-copied-in-Params
returns-in_ok-copied-in-Params c =
    let types = c.args.types.now in
    let f = c.in-Params.f in
    rw c.in-Params.is (subst (λ ts. AreTrees types ts (params_of types f)) (sym c.in_ok-copied-in-Params.ensures)
    (are_params types c.keeps.ensures f (rw c.in-Params.is at c.requires) c.params.result.now c.params.ensures))

pub returns-in_ok-copied-in-Results : goal.returns-in_ok-copied-in-Results
returns-in_ok-copied-in-Results c =
    let types = c.args.types.now in
    let f = c.in-Results.f in
    rw c.in-Results.is (subst (λ ts. AreTrees types ts (results_of types f)) (sym c.in_ok-copied-in-Results.ensures)
    (are_results types c.keeps.ensures f (rw c.in-Results.is at c.requires) c.results.result.now c.results.ensures))
