use Rattle.std.proofs.Common.{Some, Err, refl, sym, subst, inl, arith}
use Rattle.sierra_tool.specs.Causes.{absent}
use Rattle.sierra_tool.specs.Stages.{Works}
use Rattle.sierra_tool.specs.declared.answer.Answer.TheVariants as answers
use Rattle.sierra_tool.specs.declared.answer.Stop.TheVariants as stops
use Rattle.sierra_tool.specs.declared.command.Command.{Command}
use Rattle.sierra_tool.proofs.Stages.{uncounted}
use Rattle.sierra_tool.proofs.tool.answer.Goals as goal

-- a command that isn't built reads nothing
pub returns-in-Planned : goal.returns-in-Planned
returns-in-Planned g c =
    let files = g.F.Files.view c.args.files.now in
    subst (λ (command : Command). Works files files (Some command) (Err (stops.Refused answers.NotBuilt))) (sym c.in-Planned.is)
    (record {
      keeps = record { contents = refl; faults = omega arith; misses = omega arith };
      readings = λ source. absent;
      given = λ source. refl;
      outcome = (inl refl, uncounted files files answers.NotBuilt (λ source e. cc) (λ source e. cc));
    })
