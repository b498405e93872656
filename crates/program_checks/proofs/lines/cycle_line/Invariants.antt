use Rattle.std.proofs.Common.{◌≡◌, ◌++◌, take}
use Rattle.std.specs.Prelude.{codes, string_bytes}
use Rattle.std.specs.List.{flat_map}
use Rattle.program_checks.specs.Lines.{spaced}
use Rattle.program_checks.proofs.lines.cycle_line.Given as goal

-- the statements so far
abbrev pub invariant-loop-statement : goal.invariant-loop-statement
invariant-loop-statement l = string_bytes l.line ≡ codes "P40" ++ flat_map spaced (take l.statement-index l.statements)
