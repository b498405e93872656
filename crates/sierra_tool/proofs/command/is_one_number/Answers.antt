use Rattle.sierra_tool.proofs.CommandLaws.{one, is_a_number}
use Rattle.sierra_tool.proofs.command.is_one_number.Goals as goal

-- the argument is the one that was matched, and the number that was read is its own
pub returns-in-len1 : goal.returns-in-len1
returns-in-len1 c =
    let arguments = one c.args.arguments.now c.argument-item.result c.in-len1.len_at_least c.in-len1.len_below c.argument-item.is in
    let number = is_a_number c.as_bytes.result.now c.read_decimal.result c.is_ok.result c.is_ok.ensures.value (rw c.from.ensures at c.read_decimal.ensures.number) in
    rw arguments (rw c.as_bytes.ensures.value at number)
