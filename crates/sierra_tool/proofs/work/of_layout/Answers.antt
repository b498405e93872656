use Rattle.std.proofs.Common.{◌≡◌, ◌↔◌, ◌∙◌, Some, subst}
use Rattle.first_form.specs.Forms.{IsProgram}
use Rattle.sierra_tool.proofs.work.of_layout.Goals as goal

-- the program of the layout
pub returns : goal.returns
returns c = λ program.
    subst (λ text. (c.read_program.result ≡ Some program) ↔ IsProgram text program) (c.as_bytes.ensures.value ∙ c.in_ok-text.ensures.printed) (c.read_program.ensures program)
