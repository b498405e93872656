use Rattle.std.proofs.Common.{map, take}
use Rattle.libfunc_registry.specs.Signature.{AreTrees}
use Rattle.libfunc_registry.specs.Wanted.{wanted_tree}
use Rattle.libfunc_registry.proofs.finding.find_all.Given as goal

abbrev pub invariant-loop-one : goal.invariant-loop-one
invariant-loop-one l = AreTrees l.types l.found.items (map (wanted_tree l.types) (take l.one-index l.wanted))
