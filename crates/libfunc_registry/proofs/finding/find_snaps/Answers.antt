use Rattle.std.proofs.Common.{◌≡◌, ◌++◌, ◌∷◌, [], refl}
use Rattle.std.proofs.lemmas.Slice.{pushed}
use Rattle.type_trees.specs.Ty.{snap}
use Rattle.type_table.specs.View.{tree_of}
use Rattle.libfunc_registry.proofs.Finds.{found_more, found_none}
use Rattle.libfunc_registry.proofs.finding.find_snaps.Goals as goal

pub returns-in_default : goal.returns-in_default
returns-in_default c =
    let types = c.args.types.now in
    found_none types (λ t. snap (tree_of types t.0)) c.args.parts.now c.loop-part.part-index _ c.snap.result c.loop-part-test.true c.in_default.is c.snap.ensures

pub loop-part-preserved : goal.loop-part-preserved
loop-part-preserved c =
    let types = c.args.types.now in
    let items : c.push.new.self.items ≡ c.loop-part.found.items ++ c.in-Some.t ∷ [] =
    pushed (c.in-Some.t ∷ []) refl c.in_ok-push.was c.push.ensures.items in
    rw items (found_more types (λ t. snap (tree_of types t.0)) c.args.parts.now c.loop-part.part-index _ c.loop-part.found.items c.in-Some.t c.snap.result c.loop-part-test.true c.loop-part.invariant c.in-Some.is c.snap.ensures)
