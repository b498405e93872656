use Rattle.std.proofs.Common.{sym, subst, ap, map, ◌∷◌, [], ◌∙◌}
use Rattle.std.specs.List.{All, AllZip}
use Rattle.type_trees.specs.Ty.{snap}
use Rattle.type_table.specs.Trees.{parts}
use Rattle.type_table.specs.View.{tree_of, trees_of, IsInTable}
use Rattle.libfunc_registry.specs.Wanted.{FindsAll, listed_trees}
use Rattle.libfunc_registry.specs.Signature.{AreTrees}
use Rattle.libfunc_registry.proofs.Finds.{are_trees, are_alone, not_first, not_second, not_alone, snaps_of, snaps_alone}
use Rattle.libfunc_registry.proofs.finding.find_branches.Goals as goal

pub returns-in_default : goal.returns-in_default
returns-in_default c = rw c.in-Single.is (not_first c.args.types.now _ [] _ c.in_default.is c.in_ok-only-in-Single.ensures)

pub returns-in_default-2 : goal.returns-in_default-2
returns-in_default-2 c = rw c.in-Double.is (not_first c.args.types.now _ (listed_trees c.args.types.now c.in-Double.second ∷ []) _ c.in_default-2.is c.in_ok-first-in-Double.ensures)

pub returns-in_default-3 : goal.returns-in_default-3
returns-in_default-3 c = rw c.in-Double.is (not_second c.args.types.now _ _ [] _ c.in_default-3.is c.in_ok-second-in-Double.ensures)

pub returns-in_default-4 : goal.returns-in_default-4
returns-in_default-4 c =
    let types = c.args.types.now in
    let ms = c.members-in-EachSnap.result.now in
    let tys = parts (tree_of types c.in-EachSnap.t.0) in
    rw c.in-EachSnap.is (subst (λ tyss. All (All (IsInTable types)) tyss → ⊥) (snaps_alone tys)
    (not_alone types (map snap tys) _ c.in_default-4.is (subst (λ us. FindsAll types us c.in_ok-snaps-in-EachSnap.field-0) (snaps_of types ms ∙ ap (map snap) c.members-in-EachSnap.ensures.trees) c.in_ok-snaps-in-EachSnap.ensures)))

pub returns-in_ok-each_alone-in-EachPart : goal.returns-in_ok-each_alone-in-EachPart
returns-in_ok-each_alone-in-EachPart c =
    let types = c.args.types.now in
    let ms = c.members.result.now in
    let tys = parts (tree_of types c.in-EachPart.t.0) in
    rw c.in-EachPart.is (subst (λ tss. AllZip (AreTrees types) tss (map (λ ty. ty ∷ []) tys)) (sym c.in_ok-each_alone-in-EachPart.ensures)
    (are_alone types ms tys (subst (AreTrees types ms) c.members.ensures.trees (are_trees types ms c.members.ensures.below))))

pub returns-in_ok-each_alone-in-EachSnap : goal.returns-in_ok-each_alone-in-EachSnap
returns-in_ok-each_alone-in-EachSnap c =
    let types = c.args.types.now in
    let ms = c.members-in-EachSnap.result.now in
    let ts = c.in-Some-4.snaps in
    let tys = parts (tree_of types c.in-EachSnap.t.0) in
    let found : AreTrees types ts (map snap tys) =
    subst (λ us. AreTrees types ts us) (snaps_of types ms ∙ ap (map snap) c.members-in-EachSnap.ensures.trees)
    (subst (FindsAll types (map (λ t. snap (tree_of types t.0)) ms)) c.in-Some-4.is c.in_ok-snaps-in-EachSnap.ensures) in
    rw c.in-EachSnap.is (subst (λ tss. AllZip (AreTrees types) tss (map (λ ty. snap ty ∷ []) tys)) (sym (c.in_ok-each_alone-in-EachSnap.ensures ∙ ap (map (λ t. t ∷ [])) c.items.ensures))
    (subst (λ tyss. AllZip (AreTrees types) (map (λ t. t ∷ []) ts) tyss) (snaps_alone tys) (are_alone types ts (map snap tys) found)))
