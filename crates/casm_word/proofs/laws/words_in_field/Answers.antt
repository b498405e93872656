use Rattle.std.proofs.Common.{arith}
use Rattle.casm_word.proofs.WordLaws.{defined_word}
use Rattle.casm_word.proofs.laws.words_in_field.Goals as goal

pub returns : goal.returns
returns c = λ f word w. omega (arith, (defined_word f word w).0)
