use Rattle.std.proofs.Common.{arith}
use Rattle.linear_check.proofs.Parameters.{entries_length, entry_is}
use Rattle.linear_check.proofs.linear.LinearWalkRules.entry.Goals as goal

pub function-declared-requires : goal.function-declared-requires
function-declared-requires c = omega (arith, c.requires, entries_length c.args.self.now.types.now c.args.self.now.program.now.functions 0)

pub returns : goal.returns
returns c =
    entry_is c.args.self.now.types.now c.args.self.now.program.now.functions c.args.function c.function-declared.result.now c.items.result.now c.param_types.result.now c.in_ok-params.params
    c.function-declared.ensures c.items.ensures c.param_types.ensures c.in_ok-params.ensures
