use Rattle.std.proofs.Common.{refl}
use Rattle.casm_word.specs.Word.{word_of}
use Rattle.casm_word.proofs.WordLaws.{decodes}
use Rattle.casm_word.proofs.laws.decoding_undoes_encoding.Goals as goal

pub returns : goal.returns
returns c = λ f near defined. (decodes f (word_of f)).1 (record { is = refl; near = near; defined = defined })
