use Rattle.std.proofs.Common.{rules, ◌≡◌, ◌<◌, ◌^◌, arith}
use Rattle.std.specs.Prelude.{decimal}
use Rattle.byte_reading.specs.Decimal.{decimal_text}
use Rattle.byte_reading.proofs.DecimalLaws.{decimal_is_decimal_text}
use Rattle.sierra_text.proofs.plain.push_number.Goals as goal

-- the library's decimal text has no limit that a number of 128 bits reaches
pub returns : goal.returns
returns c =
    let small : c.args.n < 10 ^ 64 = omega arith in
    let same : decimal c.args.n ≡ decimal_text c.args.n = decimal_is_decimal_text c.args.n small in
    rw (← same) (search rules)
