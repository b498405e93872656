use Rattle.std.proofs.Common.{ℕ, ◌<◌, arith}
use Rattle.felt64.specs.Field.{modulus}
use Rattle.casm_word.specs.declared.instr.Instr.{Instr}
use Rattle.casm_word.specs.Encoding.{flags_of}
use Rattle.casm_word.specs.Word.{Word, word_of}
use Rattle.casm_word.proofs.ImmediateLaws.{words_of_in_field}
use Rattle.casm_word.proofs.WordLaws.{defined_word}
use Rattle.casm_word.proofs.code.push_words.Goals as goal

below_order : (i : Instr) (word : ℕ) → Word (flags_of i) word → word_of (flags_of i) < modulus
below_order i word w = omega (arith, w.is, (defined_word (flags_of i) word w).0)

pub returns-in_default-clause-in_field : goal.returns-in_default-clause-in_field
returns-in_default-clause-in_field c = words_of_in_field c.args.i.now c.requires (below_order c.args.i.now _ c.encode-encoded.ensures.word)
