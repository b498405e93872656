use Rattle.std.proofs.Common.{◌≡◌, ◌++◌, take}
use Rattle.std.specs.List.{flat_map, AllByRecursion}
use Rattle.run_file.specs.Spelling.{state, IsState}
use Rattle.run_file.proofs.writer.put_states.Given as goal

abbrev pub invariant-loop-pc : goal.invariant-loop-pc
invariant-loop-pc l = record {
  put : l.bytes.items ≡ l.fn.bytes.items ++ flat_map state (take l.pc-index l.states);
  words : AllByRecursion IsState (take l.pc-index l.states);
}
