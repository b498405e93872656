use Rattle.std.proofs.Common.{◌<◌, ◌^◌, arith, rules}
use Rattle.byte_reading.proofs.DecimalLaws.{decimal_is_decimal_text}
use Rattle.sierra_text.proofs.ids.numbered_name.Goals as goal

pub returns : goal.returns
returns c =
    let below : c.args.n < 10 ^ 64 = omega arith in
    let text = decimal_is_decimal_text c.args.n below in
    search rules
