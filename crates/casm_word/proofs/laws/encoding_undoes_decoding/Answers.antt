use Rattle.casm_word.proofs.WordLaws.{decodes}
use Rattle.casm_word.proofs.laws.encoding_undoes_decoding.Goals as goal

pub returns : goal.returns
returns c = λ f word is. ((decodes f word).0 is).is
