use Rattle.casm_word.proofs.WordLaws.{defined_word, word_has_flags}
use Rattle.casm_word.proofs.laws.defined_words.Goals as goal

pub returns : goal.returns
returns c = λ word. (λ has. defined_word has.0 word has.1, λ fits. word_has_flags word fits.0 fits.1)
