use Rattle.std.proofs.Common.{map, take}
use Rattle.type_trees.specs.Ty.{snap}
use Rattle.type_table.specs.View.{tree_of}
use Rattle.libfunc_registry.specs.Signature.{AreTrees}
use Rattle.libfunc_registry.proofs.finding.find_snaps.Given as goal

abbrev pub invariant-loop-part : goal.invariant-loop-part
invariant-loop-part l = AreTrees l.types l.found.items (map (λ t. snap (tree_of l.types t.0)) (take l.part-index l.parts))
