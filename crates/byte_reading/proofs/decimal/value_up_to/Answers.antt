use Rattle.std.proofs.Common.{arith, ◌+◌, lit≤}
use Rattle.std.proofs.lemmas.Str.Parse.{digit_at, digits_value-take-le}
use Rattle.byte_reading.proofs.DecimalLaws.{value_more}
use Rattle.byte_reading.proofs.decimal.value_up_to.Goals as goal

pub overflow_sub-byte : goal.overflow_sub-byte
overflow_sub-byte c = (digit_at c.args.digits.now c.loop-byte.byte-index c.requires c.loop-byte-test.true).0

pub returns-in_err-value : goal.returns-in_err-value
returns-in_err-value c =
    let whole = value_more _ _ _ c.requires c.loop-byte-test.true c.loop-byte.invariant.0 in
    let kept = digits_value-take-le 10 c.args.digits.now (c.loop-byte.byte-index + 1) (lit≤ tt) in
    rw c.from_residual.ensures (λ below. c.in_err-value.ensures (omega arith))

pub loop-byte-preserved : goal.loop-byte-preserved
loop-byte-preserved c =
    let whole = value_more _ _ _ c.requires c.loop-byte-test.true c.loop-byte.invariant.0 in
    (omega (arith, c.in_ok-value.ensures.1), omega (arith, c.in_ok-value.ensures.0, c.in_ok-value.ensures.1))
