use Rattle.casm_word.proofs.EncodingLaws.{instr_word}
use Rattle.casm_word.proofs.laws.instructions_have_words.Goals as goal

pub returns : goal.returns
returns c = instr_word
