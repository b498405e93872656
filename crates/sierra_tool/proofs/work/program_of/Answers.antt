use Rattle.std.proofs.Common.{◌∙◌, refl, sym}
use Rattle.sierra_tool.proofs.Stages.{never}
use Rattle.sierra_tool.proofs.work.program_of.Goals as goal

-- it is of the form, ..
pub returns-in-Some : goal.returns-in-Some
returns-in-Some c = (c.in_ok-program.ensures c.in-Some.program).0 c.in-Some.is

-- .. or of none
pub returns-in-None : goal.returns-in-None
returns-in-None c = (λ program is. never program (sym c.in-None.is ∙ (c.in_ok-program.ensures program).1 is), refl)
