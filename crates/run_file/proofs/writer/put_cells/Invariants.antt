use Rattle.std.proofs.Common.{◌≡◌, ◌++◌}
use Rattle.std.specs.FinMap.{entries}
use Rattle.std.specs.List.{flat_map}
use Rattle.run_file.specs.Spelling.{cell}
use Rattle.run_file.proofs.writer.put_cells.Given as goal

abbrev pub invariant-loop-address : goal.invariant-loop-address
invariant-loop-address l = l.bytes.items ++ flat_map cell l.address-iterator ≡ l.fn.bytes.items ++ flat_map cell (entries l.fn.memory)
