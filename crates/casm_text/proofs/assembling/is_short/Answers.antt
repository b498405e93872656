use Rattle.std.proofs.Common.{arith}
use Rattle.casm_text.proofs.Words.{count_within, first_instr}
use Rattle.casm_text.proofs.assembling.is_short.Goals as goal

pub returns-then-count-gt-LONGEST : goal.returns-then-count-gt-LONGEST
returns-then-count-gt-LONGEST c = (
  λ no_test. absurd cc,
  λ short. absurd (omega (arith, c.word_count-count.ensures.value, count_within c.args.code.now c.loop-i.i-index first_instr c.loop-i-test.true)),
)
