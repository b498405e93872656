use Rattle.std.proofs.Common.{◌≡◌, map, take}
use Rattle.type_table.specs.Resolving.{targets_in}
use Rattle.type_table.proofs.resolving.argument_graph.Given as goal

abbrev pub invariant-loop-declaration : goal.invariant-loop-declaration
invariant-loop-declaration l = l.graph ≡ map (λ d. targets_in l.positions d.args) (take l.declaration-index l.declarations)
