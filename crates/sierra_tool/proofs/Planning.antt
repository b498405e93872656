-- The work of `gas`, behind the text of a program: the checks, which find its gas plan.
use Rattle.std.proofs.Common.{Some, Ok, Err, refl, sym, subst}
use Rattle.edge_io.specs.Files.{FilesView}
use Rattle.program_checks.specs.Checks as checks
use Rattle.program_checks.specs.declared.checking.Checked.{Checked}
use Rattle.sierra_types.specs.declared.program.Program.{Program as Tree}
use Rattle.sierra_tool.specs.declared.answer.Answer.TheVariants as answers
use Rattle.sierra_tool.specs.declared.answer.Stop.{Stop}
use Rattle.sierra_tool.specs.declared.answer.Stop.TheVariants as stops
use Rattle.sierra_tool.specs.declared.command.Command.{Command}
use Rattle.sierra_tool.specs.declared.command.Command.TheVariants as commands
use Rattle.sierra_tool.specs.declared.command.Gas.{Gas}
use Rattle.sierra_tool.specs.declared.command.Source.TheVariants as sources
use Rattle.sierra_tool.specs.Causes.{SourceReadings, Cause}
use Rattle.sierra_tool.specs.Stages.{IsRefused, NoTree, PassesChecks, ReadsSource, Works}
use Rattle.sierra_tool.proofs.Stages.{Progress, uncounted}
use Rattle.sierra_tool.proofs.Trees.{TakesTree, tree_progress, with_text, no_room_behind}

module _ (before now : FilesView) (gas : Gas) (tree : Tree) (part : ReadsSource before now gas.program.now TakesTree (IsRefused sources.Program NoTree) (Ok tree)) where
  abbrev command : Command
  command = commands.Gas gas

  abbrev readings : SourceReadings
  readings = with_text before now command gas.program.now refl part.reading

  progress : Progress before now command readings
  progress = tree_progress before now command gas.program.now refl (Ok tree) part

  -- the program is refused, or there is no memory for the checks, ..
  pub stops_at_checks : (stop : Stop) → PassesChecks tree (Err stop) → Works before now (Some command) (Err stop)
  stops_at_checks (stops.Refused answer) refused =
      let held = part.outcome.0 in
      record {
        keeps = progress.keeps;
        readings = readings;
        given = progress.given;
        outcome = (
          subst (Cause (Some command) readings) (sym refused.2) (tt, (held.0, held.1, held.2, (tree, held.3, refused.1))),
          uncounted before now answer (λ source e. cc (refused.2)) (λ source e. cc (refused.2)),
        );
      }
  stops_at_checks stops.OutOfMemory out = no_room_behind before now command gas.program.now refl tree part

  -- .. or it has a plan
  pub has_plan : (checked : Checked) → checks.Finds tree checked → Works before now (Some command) (Ok (answers.Plan checked.plan))
  has_plan checked finds =
      let held = part.outcome.0 in
      record {
        keeps = progress.keeps;
        readings = readings;
        given = progress.given;
        outcome = (
          (gas, refl, tree, (held.0, held.1, held.2, (held.3, (checked, finds))), (checked, finds, refl)),
          uncounted before now (answers.Plan checked.plan) (λ source e. cc) (λ source e. cc),
        );
      }
