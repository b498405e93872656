-- The work of showing, behind the text of a program: it is laid out.
use Rattle.std.proofs.Common.{◌≡◌, ℕ, List, Some, Ok, refl}
use Rattle.edge_io.specs.Files.{FilesView}
use Rattle.sierra_text.specs.Layout.{layout}
use Rattle.sierra_types.specs.declared.program.Program.{Program as Tree}
use Rattle.sierra_tool.specs.declared.answer.Answer.TheVariants as answers
use Rattle.sierra_tool.specs.declared.command.Command.TheVariants as commands
use Rattle.sierra_tool.specs.declared.command.Show.{Show}
use Rattle.sierra_tool.specs.declared.command.Source.TheVariants as sources
use Rattle.sierra_tool.specs.Stages.{IsRefused, NoTree, ReadsSource, Works}
use Rattle.sierra_tool.proofs.Stages.{uncounted}
use Rattle.sierra_tool.proofs.Trees.{TakesTree, tree_progress, with_text}

pub laid_out : (before now : FilesView) (show : Show) (tree : Tree) → ReadsSource before now show.program.now TakesTree (IsRefused sources.Program NoTree) (Ok tree) → (text : List ℕ) → text ≡ layout tree → Works before now (Some (commands.Show show)) (Ok (answers.Printed text))
laid_out before now show tree part text is =
    let progress = tree_progress before now (commands.Show show) show.program.now refl (Ok tree) part in
    record {
      keeps = progress.keeps;
      readings = with_text before now (commands.Show show) show.program.now refl part.reading;
      given = progress.given;
      outcome = ((show, refl, tree, part.outcome.0, is), uncounted before now (answers.Printed text) (λ source e. cc) (λ source e. cc));
    }
