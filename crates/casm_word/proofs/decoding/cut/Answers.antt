use Rattle.std.proofs.Common.{rules}
use Rattle.casm_word.proofs.BrokenRules.{defined_from}
use Rattle.casm_word.proofs.decoding.cut.Goals as goal

-- no rule is broken by the flags that were found
pub invariant_of-result : goal.invariant_of-result
invariant_of-result c = defined_from _ (search rules)
