use Rattle.std.proofs.Common.{◌≡◌, length, string_bytes, refl, sym, ap, ◌++◌, ◌∙◌, ◌+◌, arith}
use Rattle.gas_solver.specs.Printing.{plan_text, statement_line}
use Rattle.gas_solver.proofs.Lines.{lines_from, lines_more}
use Rattle.gas_solver.proofs.printing.print.Goals as goal

pub loop-statement-preserved : goal.loop-statement-preserved
loop-statement-preserved c =
    let long : length c.args.plan.now.amount ≡ length c.args.plan.now.need = sym c.len-statement-end.ensures.amount ∙ c.len-statement-end.ensures.need in
    ap (λ t. t ++ lines_from c.args.plan.now.need c.args.plan.now.amount (c.loop-statement.statement + 1)) c.in_ok-push_line.ensures
    ∙ lines_more c.args.plan.now.need c.args.plan.now.amount c.loop-statement.statement c.need.result c.amount.result (string_bytes c.loop-statement.text) (statement_line c.loop-statement.statement c.need.result c.amount.result) (plan_text c.args.plan.now)
    long (omega (arith, c.len-statement-end.ensures.need, c.loop-statement-test.true)) c.need.ensures c.amount.ensures refl c.loop-statement.invariant
