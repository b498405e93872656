-- The limit is below 10 ^ 64, where std's `decimal` is the decimal text.
use Rattle.std.proofs.Common.{◌∙◌, sym, refl, arith}
use Rattle.byte_reading.proofs.DecimalLaws.{decimal_is_decimal_text}
use Rattle.felt64.proofs.Felt.read_decimal.Goals as goal

pub returns-in-Ok-clause-found : goal.returns-in-Ok-clause-found
returns-in-Ok-clause-found c =
    let read = (c.in-Ok.ensures.number c.in-Ok.value).0 refl in
    read.1 ∙ sym (decimal_is_decimal_text c.in-Ok.value (omega (arith, read.0)))

pub returns-in-Ok-clause-reads : goal.returns-in-Ok-clause-reads
returns-in-Ok-clause-reads c n below same =
    let number = (c.in-Ok.ensures.number n).1 (omega arith, same ∙ decimal_is_decimal_text n (omega arith)) in cc

pub returns-in-Err-NotDigits-clause-reads : goal.returns-in-Err-NotDigits-clause-reads
returns-in-Err-NotDigits-clause-reads c n below same =
    let number = (c.in-Err-NotDigits.ensures.number n).1 (omega arith, same ∙ decimal_is_decimal_text n (omega arith)) in absurd cc

pub returns-in-Err-TooLarge-clause-reads : goal.returns-in-Err-TooLarge-clause-reads
returns-in-Err-TooLarge-clause-reads c n below same =
    let number = (c.in-Err-TooLarge.ensures.number n).1 (omega arith, same ∙ decimal_is_decimal_text n (omega arith)) in absurd cc
