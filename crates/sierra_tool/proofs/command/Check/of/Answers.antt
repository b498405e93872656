use Rattle.std.proofs.Common.{◌≡◌, ◌∙◌, sym}
use Rattle.std.specs.Prelude.{codes}
use Rattle.std.proofs.lemmas.Slice.Eq.{bytes_eq-Decides}
use Rattle.sierra_tool.proofs.CommandLaws.{four}
use Rattle.sierra_tool.proofs.command.Check.of.Goals as goal

-- the arguments are those that were matched, and the first is the command's word
pub returns-in-len4 : goal.returns-in-len4
returns-in-len4 c =
    let arguments = four c.args.arguments.now c.word-item.result c.program-item.result c.input-item.result c.run-item.result c.in-len4.len_at_least c.in-len4.len_below c.word-item.is c.program-item.is c.input-item.is c.run-item.is in
    let same : c.as_str.result.now ≡ codes "check" = (bytes_eq-Decides c.as_str.result.now (codes "check")).0 (sym c.if-eq.ensures) in
    let word = sym c.as_str.ensures.value ∙ same in
    let program = sym c.as_str-in-len4.ensures.value in
    let input = sym c.as_str-in-len4-2.ensures.value in
    let run = sym c.as_str-in-len4-3.ensures.value in
    rw arguments (cc)
