use Rattle.std.proofs.Common.{length, sym, ap, ◌∙◌}
use Rattle.linear_check.proofs.Parameters.{entries_length}
use Rattle.linear_check.proofs.linear.LinearWalkRules.functions.Goals as goal

pub returns : goal.returns
returns c = ap length c.items.ensures ∙ sym (entries_length c.args.self.now.types.now c.args.self.now.program.now.functions 0)
