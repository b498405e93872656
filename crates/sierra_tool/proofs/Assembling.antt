-- The work of assembling: the text of code, read and assembled.
use Rattle.std.proofs.Common.{List, Some, Ok, Err, refl, sym, subst, inl, inr}
use Rattle.casm_word.specs.declared.instr.Instr.{Instr}
use Rattle.edge_io.specs.Files.{FilesView}
use Rattle.sierra_tool.specs.declared.answer.Answer.{Answer}
use Rattle.sierra_tool.specs.declared.answer.Answer.TheVariants as answers
use Rattle.sierra_tool.specs.declared.answer.Stop.{Stop}
use Rattle.sierra_tool.specs.declared.command.Assemble.{Assemble}
use Rattle.sierra_tool.specs.declared.command.Command.{Command}
use Rattle.sierra_tool.specs.declared.command.Command.TheVariants as commands
use Rattle.sierra_tool.specs.declared.command.Source.TheVariants as sources
use Rattle.sierra_tool.specs.Causes.{Reading, Holds, IsCasm, Cause}
use Rattle.sierra_tool.specs.Stages.{IsRefused, NoCasm, ReadsSource, IsCaused, Works}
use Rattle.sierra_tool.proofs.Stages.{unfit_cause, put, unasked, begins, goes_on, stops_there, may_be_there, uncounted}

abbrev pub TakesCasm : Reading → List Instr → Type 0
TakesCasm given code = Holds sources.Casm given (λ text. IsCasm text code)

module _ (before now : FilesView) (assemble : Assemble) where
  abbrev command : Command
  command = commands.Asm assemble

  -- the text is refused, ..
  pub stops_at_casm : (stop : Stop) → ReadsSource before now assemble.file.now TakesCasm (IsRefused sources.Casm NoCasm) (Err stop) → Works before now (Some command) (Err stop)
  stops_at_casm stop part =
      let untouched = unasked before.contents (Some command) in
      let readings = put sources.Casm part.reading untouched in
      let caused : (answer : Answer) → IsRefused sources.Casm NoCasm part.reading answer → Cause (Some command) readings answer = λ answer refused. elim refused [
        | inl unfit ↦ unfit_cause command readings sources.Casm answer refl unfit
        | inr held ↦ subst (Cause (Some command) readings) (sym held.3.2) (refl, (held.0, held.1, held.2, held.3.1))
      ] in
      stops_there before before now command untouched sources.Casm assemble.file.now (begins before command) refl TakesCasm (IsRefused sources.Casm NoCasm) (IsCaused before now (Some command)) stop part caused
      (may_be_there before.contents assemble.file.now part.reading part.given)

  -- .. or assembled
  pub assembled : (code : List Instr) → ReadsSource before now assemble.file.now TakesCasm (IsRefused sources.Casm NoCasm) (Ok code) → Works before now (Some command) (Ok (answers.Assembled code))
  assembled code part =
      let untouched = unasked before.contents (Some command) in
      let progress = goes_on before before now command untouched sources.Casm assemble.file.now (begins before command) refl TakesCasm (IsRefused sources.Casm NoCasm) (Ok code) part in
      record {
        keeps = progress.keeps;
        readings = put sources.Casm part.reading untouched;
        given = progress.given;
        outcome = ((refl, part.outcome), uncounted before now (answers.Assembled code) (λ source e. cc) (λ source e. cc));
      }
