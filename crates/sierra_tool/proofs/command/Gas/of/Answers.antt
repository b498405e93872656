use Rattle.std.proofs.Common.{◌≡◌, ◌∙◌, sym}
use Rattle.std.specs.Prelude.{codes}
use Rattle.std.proofs.lemmas.Slice.Eq.{bytes_eq-Decides}
use Rattle.sierra_tool.proofs.CommandLaws.{two}
use Rattle.sierra_tool.proofs.command.Gas.of.Goals as goal

-- the arguments are those that were matched, and the first is the command's word
pub returns-in-len2 : goal.returns-in-len2
returns-in-len2 c =
    let arguments = two c.args.arguments.now c.word-item.result c.program-item.result c.in-len2.len_at_least c.in-len2.len_below c.word-item.is c.program-item.is in
    let same : c.as_str.result.now ≡ codes "gas" = (bytes_eq-Decides c.as_str.result.now (codes "gas")).0 (sym c.if-eq.ensures) in
    let word = sym c.as_str.ensures.value ∙ same in
    let program = sym c.as_str-in-len2.ensures.value in
    rw arguments (cc)
