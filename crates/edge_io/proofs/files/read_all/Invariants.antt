use Rattle.std.proofs.Common.{◌≡◌, ◌+◌, ◌-◌, length, take}
use Rattle.edge_io.specs.Files.{Keeps, ForFile}
use Rattle.edge_io.proofs.files.read_all.Given as goal

abbrev pub invariant-loop-whole : goal.invariant-loop-whole
invariant-loop-whole g l =
    (length l.whole.items + l.room ≡ l.limit)
    × Keeps (g.F.Files.view l.initial.files) (g.F.Files.view l.files)
    × ForFile (g.F.Files.view l.files).contents l.name (Unit {0}) (λ bytes. l.whole.items ≡ take (l.limit - l.room) bytes)

abbrev pub decreases-loop-whole : goal.decreases-loop-whole
decreases-loop-whole g l = l.room
