use Rattle.std.proofs.Common.{arith}
use Rattle.byte_reading.proofs.DecimalLaws.{decimal_or_none}
use Rattle.byte_reading.proofs.decimal.split_number.Goals as goal
use Rattle.byte_reading.proofs.decimal.split_number.Goals.{else-not-is_empty-via-then-not-is_empty+else-text-eq48, else-not-is_empty-via-else-not-is_empty}

pub returns-else-not-is_empty-clause-digits : goal.returns-else-not-is_empty-clause-digits
returns-else-not-is_empty-clause-digits c =
    decimal_or_none c.args.text.now c.split_digits.result.0.now c.split_digits.result.1.now c.split_digits.ensures.parts c.split_digits.ensures.digits (λ some.
    elim c.else-not-is_empty.branch [
      | else-not-is_empty-via-then-not-is_empty+else-text-eq48 w ↦ w.if-text-eq48.false
      | else-not-is_empty-via-else-not-is_empty w ↦ grind (arith, w.if-not-is_empty.false, c.is_empty.ensures)
    ])
