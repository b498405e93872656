use Rattle.std.proofs.Common.{◌≡◌, ◌++◌, string_bytes}
use Rattle.gas_solver.specs.Printing.{plan_text}
use Rattle.gas_solver.proofs.Lines.{lines_from}
use Rattle.gas_solver.proofs.printing.print.Given as goal

abbrev pub invariant-loop-statement : goal.invariant-loop-statement
invariant-loop-statement l = string_bytes l.text ++ lines_from l.plan.need l.plan.amount l.statement ≡ plan_text l.plan
