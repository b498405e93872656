-- What a run starts from: the program, the input and its gas, read one after the other.
use Rattle.std.proofs.Common.{◌≡◌, ℕ, ◌<◌, ◌≤◌, List, Some, Result, Ok, Err, refl, sym, subst, ap, inl, inr}
use Rattle.edge_io.specs.Files.{FilesView}
use Rattle.first_form.specs.declared.program.Program.{Program}
use Rattle.first_form.specs.declared.input.Input.{Input}
use Rattle.first_form.specs.Forms.{IsInput}
use Rattle.typed_values.specs.declared.input.Input.{Input as Given}
use Rattle.first_form.specs.Meaning.{entry_gas}
use Rattle.gas_solver.specs.Accepting.{AcceptedView}
use Rattle.sierra_tool.specs.declared.answer.Answer.{Answer}
use Rattle.sierra_tool.specs.declared.answer.Answer.TheVariants as answers
use Rattle.sierra_tool.specs.declared.answer.Stop.{Stop}
use Rattle.sierra_tool.specs.declared.answer.Stop.TheVariants as stops
use Rattle.sierra_tool.specs.declared.command.Command.{Command}
use Rattle.sierra_tool.specs.declared.command.Source.TheVariants as sources
use Rattle.sierra_tool.specs.Causes.{Reading, SourceReadings, Holds, IsAcceptedText, IsForm, HasProgram, HasInput, HasAccepted, CanRun, Cause}
use Rattle.sierra_tool.specs.Command.{name_of, IsRead, RunsCode}
use Rattle.sierra_tool.specs.Stages.{IsRefused, NoProgram, NoInputOf, ReadsSource, GivesStart, Starts}
use Rattle.sierra_tool.proofs.Causes.{reads_compiled}
use Rattle.sierra_tool.proofs.Evaluating.{TakesInputOf}
use Rattle.sierra_tool.proofs.OneNumber.{has_one_number, to_form}
use Rattle.sierra_tool.specs.OneNumber.{HasOneNumber, with_number}
use Rattle.sierra_tool.specs.declared.work.Start.{Start}
use Rattle.typed_values.specs.Inputs.{InputView}
use Rattle.typed_values.specs.Shown.{input_meant}
use Rattle.sierra_tool.proofs.Stages.{unfit_cause, put, unasked, Progress, begins, goes_on, stops_there, program_present, program_read_present, uncounted}

-- a program of the form that is built, with what is found of it
pub record Form : Type 0 where
  pub accepted : AcceptedView
  pub program : Program

abbrev pub TakesForm : Reading → Form → Type 0
TakesForm given form = Holds sources.Program given (λ text. IsAcceptedText text form.accepted × IsForm form.accepted form.program)

-- an input that was read for a program of the form has one number, and is one of the form
pub one_given : (form : Form) (given : Given) {first second : Reading} → TakesForm first form → TakesInputOf form.accepted second given → HasOneNumber (input_meant given)
one_given form given p q = let is = p.3 in let form_is = is.1 in has_one_number form.accepted q.0 (input_meant given) form_is.1 q.3

pub is_input : (form : Form) (given : Given) {first second : Reading} → TakesForm first form → TakesInputOf form.accepted second given → {input : Input} → input_meant given ≡ with_number input
    → Holds sources.Input second (λ text. IsInput form.program text input)
is_input form given p q {input} same = let is = p.3 in let form_is = is.1 in (q.0, q.1, q.2, to_form form.accepted form.program q.0 (input_meant given) input form_is.1 q.3 same)

module _ (before middle : FilesView) (command : Command) (name : List ℕ) (is : name_of (Some command) sources.Program ≡ Some name) where
  first_progress : (result : Result Form Stop) (part : ReadsSource before middle name TakesForm (IsRefused sources.Program NoProgram) result)
      → Progress before middle command (put sources.Program part.reading (unasked before.contents (Some command)))
  first_progress result part =
      goes_on before before middle command (unasked before.contents (Some command)) sources.Program name (begins before command) is TakesForm (IsRefused sources.Program NoProgram) result part

  -- it stops at the program, ..
  pub stops_at_program : (stop : Stop) → IsRead command sources.Program → IsRead command sources.Input → RunsCode command → ReadsSource before middle name TakesForm (IsRefused sources.Program NoProgram) (Err stop) → Starts before middle (Some command) (Err stop)
  stops_at_program stop reads reads_input runs part =
      let readings = put sources.Program part.reading (unasked before.contents (Some command)) in
      let caused : (answer : Answer) → IsRefused sources.Program NoProgram part.reading answer → Cause (Some command) readings answer = λ answer refused. elim refused [
        | inl unfit ↦ unfit_cause command readings sources.Program answer reads unfit
        | inr held ↦ elim held.3 [
          | inl no_text ↦ subst (Cause (Some command) readings) (sym no_text.2) (reads, (held.0, held.1, held.2, no_text.1))
          | inr behind ↦ elim behind [
            | inl refused ↦ subst (Cause (Some command) readings) (sym refused.2) (reads_compiled command reads_input, (held.0, held.1, held.2, refused.1))
            | inr no_form ↦ subst (Cause (Some command) readings) (sym no_form.1) (inr (runs, (held.0, held.1, held.2, no_form.0)))
          ]
        ]
      ] in
      stops_there before before middle command (unasked before.contents (Some command)) sources.Program name (begins before command) is
      TakesForm (IsRefused sources.Program NoProgram) (λ readings start. CanRun readings start.program start.input) stop part caused
      (program_present before.contents command readings (first_progress (Err stop) part).given reads)

  module _ (now : FilesView) (input_name : List ℕ) (form : Form)
      (input_is : name_of (Some command) sources.Input ≡ Some input_name)
      (first : ReadsSource before middle name TakesForm (IsRefused sources.Program NoProgram) (Ok form))
    where
      has : HasProgram (put sources.Program first.reading (unasked before.contents (Some command))) form.program
      has = let held = first.outcome in let is = held.3 in (held.0, held.1, held.2, (form.accepted, is.0, is.1))

      -- .. at the input, ..
      pub stops_at_input : (stop : Stop) → IsRead command sources.Program → RunsCode command → ReadsSource middle now input_name (TakesInputOf form.accepted) (IsRefused sources.Input (NoInputOf form.accepted)) (Err stop) → Starts before now (Some command) (Err stop)
      stops_at_input stop reads runs part =
          let read = put sources.Program first.reading (unasked before.contents (Some command)) in
          let readings = put sources.Input part.reading read in
          let progress = first_progress (Ok form) first in
          let taken = first.outcome in
          let is = taken.3 in
          let accepted : HasAccepted readings form.accepted = (taken.0, taken.1, taken.2, is.0) in
          let caused : (answer : Answer) → IsRefused sources.Input (NoInputOf form.accepted) part.reading answer → Cause (Some command) readings answer = λ answer refused. elim refused [
            | inl unfit ↦ unfit_cause command readings sources.Input answer (inl (runs, form.program, has)) unfit
            | inr held ↦ subst (Cause (Some command) readings) (sym held.3.2) (inl (runs, form.program, has), form.accepted, accepted, (held.0, held.1, held.2, held.3.1))
          ] in
          stops_there before middle now command read sources.Input input_name progress input_is
          (TakesInputOf form.accepted) (IsRefused sources.Input (NoInputOf form.accepted)) (λ readings start. CanRun readings start.program start.input) stop part caused
          (λ present. program_read_present before.contents command read form.program progress.given reads has)

      module _ (given : Given) (second : ReadsSource middle now input_name (TakesInputOf form.accepted) (IsRefused sources.Input (NoInputOf form.accepted)) (Ok given)) where
        abbrev both : SourceReadings
        both = put sources.Input second.reading (put sources.Program first.reading (unasked before.contents (Some command)))

        second_progress : Progress before now command both
        second_progress =
            goes_on before middle now command (put sources.Program first.reading (unasked before.contents (Some command))) sources.Input input_name (first_progress (Ok form) first) input_is
            (TakesInputOf form.accepted) (IsRefused sources.Input (NoInputOf form.accepted)) (Ok given) second

        input_read : (input : Input) → input_meant given ≡ with_number input → HasInput both form.program input
        input_read input number_is = is_input form given first.outcome second.outcome number_is

        -- .. for too little gas, or comes to its end
        pub starts : RunsCode command → (result : Result Start Stop) → GivesStart form.program (input_meant given) result → Starts before now (Some command) result
        starts runs (Ok start) (program_is, number_is, enough) =
            record {
              keeps = second_progress.keeps;
              readings = both;
              given = second_progress.given;
              outcome = subst (λ (program : Program). CanRun both program start.input) (sym program_is)
                  (record { program_read = has; input_read = input_read start.input number_is; gas = subst (λ (i : InputView). entry_gas form.program ≤ i.gas) number_is enough });
            }
        starts runs (Err (stops.Refused answer)) (less, told) =
            let one = one_given form given first.outcome second.outcome in
            record {
              keeps = second_progress.keeps;
              readings = both;
              given = second_progress.given;
              outcome = (
                subst (Cause (Some command) both) (sym told) (inl (runs, form.program, one.number, has, input_read one.number one.is, less, refl, ap (λ (i : InputView). i.gas) one.is)),
                uncounted before now answer (λ source e. cc (told)) (λ source e. cc (told)),
              );
            }
        starts runs (Err stops.OutOfMemory) never = absurd never
