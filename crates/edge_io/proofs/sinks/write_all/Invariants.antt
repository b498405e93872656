use Rattle.std.proofs.Common.{◌-◌, ◌≤◌, length, take}
use Rattle.edge_io.specs.Sinks.{WritesAll}
use Rattle.edge_io.proofs.sinks.write_all.Given as goal

abbrev pub invariant-loop-done : goal.invariant-loop-done
invariant-loop-done g l =
    (l.done ≤ length l.bytes) × WritesAll (g.S.Sink.view l.initial.sink) (g.S.Sink.view l.sink) (take l.done l.bytes)

abbrev pub decreases-loop-done : goal.decreases-loop-done
decreases-loop-done g l = length l.bytes - l.done
