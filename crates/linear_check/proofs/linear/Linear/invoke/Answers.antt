use Rattle.std.proofs.Common.{length}
use Rattle.linear_check.proofs.Lawfulness.{shape_tests}
use Rattle.linear_check.proofs.linear.Linear.invoke.Goals as goal

pub give_each-requires-clause-inside : goal.give_each-requires-clause-inside
give_each-requires-clause-inside c = (shape_tests (length c.args.self.now.program.now.statements) c.args.statement c.in-Ok.sig.now c.args.args.now c.args.branches.now c.in-Ok.ensures.passes.shape).3
