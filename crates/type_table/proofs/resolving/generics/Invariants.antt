use Rattle.std.proofs.Common.{◌≡◌, map, take}
use Rattle.type_table.specs.Named.{generic_named}
use Rattle.type_table.proofs.resolving.generics.Given as goal

abbrev pub invariant-loop-declaration : goal.invariant-loop-declaration
invariant-loop-declaration l = l.generics.items ≡ map (λ d. generic_named d.generic) (take l.declaration-index l.declarations)
