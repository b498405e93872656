use Rattle.std.proofs.Common.{◌≡◌, ◌∙◌, sym}
use Rattle.std.specs.Prelude.{codes}
use Rattle.std.proofs.lemmas.Slice.Eq.{bytes_eq-Decides}
use Rattle.sierra_tool.proofs.CommandLaws.{two}
use Rattle.sierra_tool.proofs.command.Assemble.of.Goals as goal

-- the arguments are those that were matched, and the first is the command's word
pub returns-in-len2 : goal.returns-in-len2
returns-in-len2 c =
    let arguments = two c.args.arguments.now c.word-item.result c.file-item.result c.in-len2.len_at_least c.in-len2.len_below c.word-item.is c.file-item.is in
    let same : c.as_str.result.now ≡ codes "asm" = (bytes_eq-Decides c.as_str.result.now (codes "asm")).0 (sym c.if-eq.ensures) in
    let word = sym c.as_str.ensures.value ∙ same in
    let file = sym c.as_str-in-len2.ensures.value in
    rw arguments (cc)
