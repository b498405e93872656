use Rattle.std.proofs.Common.{◌≡◌, map, take}
use Rattle.value_trees.specs.Meant.{meant}
use Rattle.libfunc_meaning.specs.Dictionaries.{entry_of}
use Rattle.libfunc_meaning.proofs.dictionaries.accesses.Given as goal

abbrev pub invariant-loop-key : goal.invariant-loop-key
invariant-loop-key l = map meant l.accesses.items ≡ map (entry_of l.num) (take l.key-index l.pairs)
