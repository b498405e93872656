use Rattle.std.proofs.Common.{◌≡◌, ◌++◌, ◌∷◌, [], refl}
use Rattle.std.proofs.lemmas.Slice.{pushed}
use Rattle.libfunc_registry.specs.Wanted.{wanted_tree}
use Rattle.libfunc_registry.proofs.Finds.{found_more, found_none}
use Rattle.libfunc_registry.proofs.finding.find_all.Goals as goal

pub returns-in_default : goal.returns-in_default
returns-in_default c =
    let types = c.args.types.now in
    found_none types (wanted_tree types) c.args.wanted.now c.loop-one.one-index _ c.find.result c.loop-one-test.true c.in_default.is c.find.ensures

pub loop-one-preserved : goal.loop-one-preserved
loop-one-preserved c =
    let types = c.args.types.now in
    let items : c.push.new.self.items ≡ c.loop-one.found.items ++ c.in-Some.t ∷ [] =
    pushed (c.in-Some.t ∷ []) refl c.in_ok-push.was c.push.ensures.items in
    rw items (found_more types (wanted_tree types) c.args.wanted.now c.loop-one.one-index _ c.loop-one.found.items c.in-Some.t c.find.result c.loop-one-test.true c.loop-one.invariant c.in-Some.is c.find.ensures)
