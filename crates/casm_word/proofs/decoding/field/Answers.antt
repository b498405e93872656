use Rattle.std.proofs.lemmas.Nat.{one_shl, and_mask}
use Rattle.casm_word.proofs.decoding.field.Goals as goal

-- the mask has so many ones
pub returns-clause-value : goal.returns-clause-value
returns-clause-value c = rw (one_shl c.args.count 64 c.requires.few) (and_mask _ _)
