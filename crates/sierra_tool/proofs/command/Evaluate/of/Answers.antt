use Rattle.std.proofs.Common.{◌≡◌, ◌∙◌, sym}
use Rattle.std.specs.Prelude.{codes}
use Rattle.std.proofs.lemmas.Slice.Eq.{bytes_eq-Decides}
use Rattle.sierra_tool.proofs.CommandLaws.{three}
use Rattle.sierra_tool.proofs.command.Evaluate.of.Goals as goal

-- the arguments are those that were matched, and the first is the command's word
pub returns-in-len3 : goal.returns-in-len3
returns-in-len3 c =
    let arguments = three c.args.arguments.now c.word-item.result c.program-item.result c.input-item.result c.in-len3.len_at_least c.in-len3.len_below c.word-item.is c.program-item.is c.input-item.is in
    let same : c.as_str.result.now ≡ codes "eval" = (bytes_eq-Decides c.as_str.result.now (codes "eval")).0 (sym c.if-eq.ensures) in
    let word = sym c.as_str.ensures.value ∙ same in
    let program = sym c.as_str-in-len3.ensures.value in
    let input = sym c.as_str-in-len3-2.ensures.value in
    rw arguments (cc)
