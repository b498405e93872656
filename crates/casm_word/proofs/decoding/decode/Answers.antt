use Rattle.std.proofs.Common.{arith}
use Rattle.casm_word.proofs.WordLaws.{decodes, decoded_high_bit, decoded_undefined}
use Rattle.casm_word.proofs.decoding.decode.Goals as goal

pub returns-clause-ok : goal.returns-clause-ok
returns-clause-ok c = λ f. rw c.cut.ensures (decodes f c.args.word)

pub returns-clause-high_bit : goal.returns-clause-high_bit
returns-clause-high_bit c = rw c.cut.ensures (decoded_high_bit c.args.word (omega arith))

pub returns-clause-undefined : goal.returns-clause-undefined
returns-clause-undefined c = λ rule. rw c.cut.ensures (decoded_undefined rule c.args.word (omega arith))
