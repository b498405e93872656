-- The text of a program, which a command reads first: its refusal is the answer, or there is no memory for more.
use Rattle.std.proofs.Common.{◌≡◌, ℕ, List, Some, Result, Ok, Err, refl, sym, subst, inl, inr}
use Rattle.edge_io.specs.Files.{FilesView}
use Rattle.sierra_text.specs.AsciiNames.{HasAsciiNames}
use Rattle.sierra_types.specs.declared.program.Program.{Program as Tree}
use Rattle.sierra_tool.specs.declared.answer.Answer.{Answer}
use Rattle.sierra_tool.specs.declared.answer.Stop.{Stop}
use Rattle.sierra_tool.specs.declared.answer.Stop.TheVariants as stops
use Rattle.sierra_tool.specs.declared.command.Command.{Command}
use Rattle.sierra_tool.specs.declared.command.Source.TheVariants as sources
use Rattle.sierra_tool.specs.Causes.{Reading, SourceReadings, Holds, IsTree, Cause}
use Rattle.sierra_tool.specs.Command.{name_of, IsRead}
use Rattle.sierra_tool.specs.Stages.{IsRefused, NoTree, ReadsSource, IsCaused, Works}
use Rattle.sierra_tool.proofs.Stages.{unfit_cause, put, unasked, Progress, begins, goes_on, stops_there, program_present, held_present}

abbrev pub TakesTree : Reading → Tree → Type 0
TakesTree given tree = Holds sources.Program given (λ text. IsTree text tree) × HasAsciiNames tree

module _ (before now : FilesView) (command : Command) (name : List ℕ) (is : name_of (Some command) sources.Program ≡ Some name) where
  abbrev ReadsTree : Result Tree Stop → Type 0
  ReadsTree = ReadsSource before now name TakesTree (IsRefused sources.Program NoTree)

  -- what the sources gave, with the text
  abbrev pub with_text : Reading → SourceReadings
  with_text reading = put sources.Program reading (unasked before.contents (Some command))

  reads : IsRead command sources.Program
  reads = rw is refl

  pub tree_progress : (result : Result Tree Stop) (part : ReadsTree result) → Progress before now command (with_text part.reading)
  tree_progress result part =
      goes_on before before now command (unasked before.contents (Some command)) sources.Program name (begins before command) is TakesTree (IsRefused sources.Program NoTree) result part

  -- the text is refused, ..
  pub stops_at_tree : (stop : Stop) → ReadsTree (Err stop) → Works before now (Some command) (Err stop)
  stops_at_tree stop part =
      let readings = with_text part.reading in
      let caused : (answer : Answer) → IsRefused sources.Program NoTree part.reading answer → Cause (Some command) readings answer = λ answer no_text. elim no_text [
        | inl unfit ↦ unfit_cause command readings sources.Program answer reads unfit
        | inr held ↦ subst (Cause (Some command) readings) (sym held.3.2) (reads, (held.0, held.1, held.2, held.3.1))
      ] in
      stops_there before before now command (unasked before.contents (Some command)) sources.Program name (begins before command) is TakesTree (IsRefused sources.Program NoTree) (IsCaused before now (Some command)) stop part caused
      (program_present before.contents command readings (tree_progress (Err stop) part).given reads)

  -- .. or is there, but there is no memory for more
  pub no_room_behind : (tree : Tree) → ReadsTree (Ok tree) → Works before now (Some command) (Err stops.OutOfMemory)
  no_room_behind tree part =
      record {
        keeps = (tree_progress (Ok tree) part).keeps;
        readings = with_text part.reading;
        given = (tree_progress (Ok tree) part).given;
        outcome = program_present before.contents command (with_text part.reading) (tree_progress (Ok tree) part).given reads (held_present sources.Program part.reading (λ text. IsTree text tree) part.outcome.0);
      }
