use Rattle.std.proofs.Common.{sym, subst}
use Rattle.sierra_tool.specs.Evaluating.{ReadsInput}
use Rattle.sierra_tool.proofs.Evaluating.{reads_input}
use Rattle.sierra_tool.proofs.inputs.read_given.Goals as goal

-- what was read of the text
pub returns : goal.returns
returns g c =
    let text = c.in_ok-text.ensures in
    reads_input (g.F.Files.view c.args.files.now) (g.F.Files.view c.bytes.new.files) c.args.name.now c.args.accepted.now text.reading c.in_ok-text.text.items text.keeps text.given text.outcome c.input_of.result
    (subst (λ bytes. ReadsInput c.args.accepted.now bytes c.input_of.result) c.deref.ensures.value c.input_of.ensures)
