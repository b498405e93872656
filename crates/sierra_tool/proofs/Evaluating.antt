-- The work of `eval`: the program, the input and its outcome, one after the other.
use Rattle.std.proofs.Common.{◌≡◌, ◌≢◌, ℕ, List, Option, Some, Result, Ok, Err, refl, sym, subst, inl, inr}
use Rattle.edge_io.specs.Files.{FilesView, Keeps}
use Rattle.gas_solver.specs.Accepting.{AcceptedView, IsAccepted}
use Rattle.program_checks.specs.Checks as checks
use Rattle.program_checks.specs.Checks.{accepted_by}
use Rattle.program_checks.specs.declared.checking.Checked.{Checked}
use Rattle.program_checks.proofs.Accepting.{found_accepted}
use Rattle.sierra_types.specs.declared.program.Program.{Program as Tree}
use Rattle.type_trees.specs.Ty.{Ty}
use Rattle.typed_values.specs.Inputs.{InputView}
use Rattle.typed_values.specs.Reading.{input_at}
use Rattle.typed_values.specs.Shown.{input_meant}
use Rattle.typed_values.specs.declared.fault.InputFault.{InputFault}
use Rattle.typed_values.specs.declared.input.Input.{Input}
use Rattle.sierra_tool.specs.declared.answer.Answer.{Answer}
use Rattle.sierra_tool.specs.declared.answer.Answer.TheVariants as answers
use Rattle.sierra_tool.specs.declared.answer.Stop.{Stop}
use Rattle.sierra_tool.specs.declared.answer.Stop.TheVariants as stops
use Rattle.sierra_tool.specs.declared.command.Command.{Command}
use Rattle.sierra_tool.specs.declared.command.Command.TheVariants as commands
use Rattle.sierra_tool.specs.declared.command.Evaluate.{Evaluate}
use Rattle.sierra_tool.specs.declared.command.Source.TheVariants as sources
use Rattle.sierra_tool.specs.Causes.{Reading, absent, SourceReadings, Gives, Holds, IsTree, IsAcceptedText, IsInputOf, argument_types, Cause}
use Rattle.sierra_tool.specs.Evaluating.{ReadsInput, GivesOutcome}
use Rattle.sierra_tool.specs.Known.{Known}
use Rattle.sierra_tool.specs.Stages.{Stops, IsRefused, IsFound, NoTree, NoChecked, NoInputOf, PassesChecks, ReadsSource, ReadsAccepted, IsCaused, Works}
use Rattle.sierra_tool.specs.Tool.{IsCounted, MayHaveFirst}
use Rattle.sierra_tool.proofs.Causes.{as_checked}
use Rattle.sierra_tool.proofs.Stages.{unfit_cause, put, unasked, Progress, begins, goes_on, stops_there, program_present, held_present, uncounted}
use Rattle.sierra_tool.proofs.Trees.{TakesTree}

abbrev pub TakesAccepted : Reading → AcceptedView → Type 0
TakesAccepted given a = Holds sources.Program given (λ text. IsAcceptedText text a)

abbrev pub TakesInputOf : AcceptedView → Reading → Input → Type 0
TakesInputOf a given input = Holds sources.Input given (λ text. IsInputOf a text (input_meant input))

-- ---- The program

module _ (before now : FilesView) (name : List ℕ) where
  abbrev ReadsTree : Result Tree Stop → Type 0
  ReadsTree = ReadsSource before now name TakesTree (IsRefused sources.Program NoTree)

  -- the text is refused, ..
  pub not_tree : (stop : Stop) → ReadsTree (Err stop) → ReadsAccepted before now name (Err stop)
  not_tree stop part = record { keeps = part.keeps; reading = part.reading; given = part.given; outcome = by_stop stop part.outcome }
    where
      by_stop : (stop : Stop) → Stops (λ answer. IsRefused sources.Program NoTree part.reading answer × IsCounted before now answer) (part.reading ≢ absent) stop → Stops (λ answer. IsRefused sources.Program NoChecked part.reading answer × IsCounted before now answer) (part.reading ≢ absent) stop
      by_stop (stops.Refused answer) h = (as_checked part.reading answer h.0, h.1)
      by_stop stops.OutOfMemory h = h

  module _ (tree : Tree) (part : ReadsTree (Ok tree)) where
    -- .. or its program is refused, or there is no memory for the checks, ..
    pub not_checked : (stop : Stop) → PassesChecks tree (Err stop) → ReadsAccepted before now name (Err stop)
    not_checked (stops.Refused answer) refused =
        let held = part.outcome.0 in
        record {
          keeps = part.keeps;
          reading = part.reading;
          given = part.given;
          outcome = (
            inr (held.0, held.1, held.2, inr (refused.0, (tree, held.3, refused.1), refused.2)),
            uncounted before now answer (λ source e. cc (refused.2)) (λ source e. cc (refused.2)),
          );
        }
    not_checked stops.OutOfMemory out =
        record { keeps = part.keeps; reading = part.reading; given = part.given; outcome = held_present sources.Program part.reading (λ text. IsTree text tree) part.outcome.0 }

    -- .. or it is accepted
    pub is_accepted : (checked : Checked) → checks.Finds tree checked → ReadsAccepted before now name (Ok (accepted_by tree checked))
    is_accepted checked finds =
        let held = part.outcome.0 in
        record {
          keeps = part.keeps;
          reading = part.reading;
          given = part.given;
          outcome = (held.0, held.1, held.2, ((held.3, (checked, finds)), found_accepted tree checked finds));
        }

-- ---- The input

pub input_is : Known → (a : AcceptedView) (text : List ℕ) (tys : List Ty) (input : InputView) → tys ≡ argument_types a → input_at tys text ≡ Ok input → IsInputOf a text input
input_is known a text tys input same read = (known.texts (argument_types a) text input).0 (subst (λ (ts : List Ty). input_at ts text ≡ Ok input) same read)

pub fault_is : Known → (a : AcceptedView) → IsAccepted a → (text : List ℕ) (tys : List Ty) (fault : InputFault) → tys ≡ argument_types a → input_at tys text ≡ Err fault → NoInputOf a text (answers.InputRefused fault)
fault_is known a ok text tys fault same read = (fault, (known.faults a ok text fault).0 (subst (λ (ts : List Ty). input_at ts text ≡ Err fault) same read), refl)

-- what was read of the bytes that were found
pub reads_input : (before now : FilesView) (name : List ℕ) (a : AcceptedView) (reading : Reading) (text : List ℕ) → Keeps before now → Gives before.contents name reading → IsFound sources.Input reading text
    → (result : Result Input Stop) → ReadsInput a text result → ReadsSource before now name (TakesInputOf a) (IsRefused sources.Input (NoInputOf a)) result
reads_input before now name a reading text keeps given found (Ok input) is =
    record { keeps = keeps; reading = reading; given = given; outcome = (text, found.0, found.1, is) }
reads_input before now name a reading text keeps given found (Err (stops.Refused answer)) is =
    record {
      keeps = keeps;
      reading = reading;
      given = given;
      outcome = (inr (text, found.0, found.1, is), uncounted before now answer (λ source e. cc (is.2)) (λ source e. cc (is.2)));
    }
reads_input before now name a reading text keeps given found (Err stops.OutOfMemory) is =
    record { keeps = keeps; reading = reading; given = given; outcome = λ e. cc (found.0) }

-- ---- The whole

module _ (before middle : FilesView) (evaluate : Evaluate) where
  abbrev command : Command
  command = commands.Eval evaluate

  abbrev with_program : Reading → SourceReadings
  with_program reading = put sources.Program reading (unasked before.contents (Some command))

  abbrev First : Result AcceptedView Stop → Type 0
  First = ReadsAccepted before middle evaluate.program.now

  first_progress : (result : Result AcceptedView Stop) (part : First result) → Progress before middle command (with_program part.reading)
  first_progress result part =
      goes_on before before middle command (unasked before.contents (Some command)) sources.Program evaluate.program.now (begins before command) refl
      TakesAccepted (IsRefused sources.Program NoChecked) result part

  -- the name of the command's program is its own
  pub with_own_name : (a : AcceptedView) (name : List ℕ) → ◌≡◌ {A = Option (List ℕ)} (Some evaluate.program.now) (Some name) → ReadsAccepted before middle name (Ok a) → First (Ok a)
  with_own_name a name is read = subst (λ (n : List ℕ). ReadsAccepted before middle n (Ok a)) (sym (same is)) read
    where
      same : ◌≡◌ {A = Option (List ℕ)} (Some evaluate.program.now) (Some name) → evaluate.program.now ≡ name
      same is = cc

  -- it stops at the program, ..
  pub stops_at_program : (stop : Stop) → First (Err stop) → Works before middle (Some command) (Err stop)
  stops_at_program stop part =
      let readings = with_program part.reading in
      let caused : (answer : Answer) → IsRefused sources.Program NoChecked part.reading answer → Cause (Some command) readings answer = λ answer refused. elim refused [
        | inl unfit ↦ unfit_cause command readings sources.Program answer refl unfit
        | inr held ↦ elim held.3 [
          | inl no_text ↦ subst (Cause (Some command) readings) (sym no_text.2) (refl, (held.0, held.1, held.2, no_text.1))
          | inr refused ↦ subst (Cause (Some command) readings) (sym refused.2) (tt, (held.0, held.1, held.2, refused.1))
        ]
      ] in
      stops_there before before middle command (unasked before.contents (Some command)) sources.Program evaluate.program.now (begins before command) refl
      TakesAccepted (IsRefused sources.Program NoChecked) (IsCaused before middle (Some command)) stop part caused
      (program_present before.contents command readings (first_progress (Err stop) part).given refl)

  module _ (now : FilesView) (a : AcceptedView) (first : First (Ok a)) where
    abbrev Second : Result Input Stop → Type 0
    Second = ReadsSource middle now evaluate.input.now (TakesInputOf a) (IsRefused sources.Input (NoInputOf a))

    abbrev with_both : Reading → SourceReadings
    with_both reading = put sources.Input reading (with_program first.reading)

    present : MayHaveFirst before.contents (Some command)
    present =
        program_present before.contents command (with_program first.reading) (first_progress (Ok a) first).given refl
        (held_present sources.Program first.reading (λ text. IsAcceptedText text a) first.outcome)

    -- .. at the input, ..
    pub stops_at_input : (stop : Stop) → Second (Err stop) → Works before now (Some command) (Err stop)
    stops_at_input stop part =
        let readings = with_both part.reading in
        let caused : (answer : Answer) → IsRefused sources.Input (NoInputOf a) part.reading answer → Cause (Some command) readings answer = λ answer refused. elim refused [
          | inl unfit ↦ unfit_cause command readings sources.Input answer (inr (tt, a, first.outcome)) unfit
          | inr held ↦ subst (Cause (Some command) readings) (sym held.3.2) (inr (tt, a, first.outcome), a, first.outcome, (held.0, held.1, held.2, held.3.1))
        ] in
        stops_there before middle now command (with_program first.reading) sources.Input evaluate.input.now (first_progress (Ok a) first) refl
        (TakesInputOf a) (IsRefused sources.Input (NoInputOf a)) (IsCaused before now (Some command)) stop part caused (λ there. present)

    module _ (input : Input) (second : Second (Ok input)) where
      second_progress : Progress before now command (with_both second.reading)
      second_progress =
          goes_on before middle now command (with_program first.reading) sources.Input evaluate.input.now (first_progress (Ok a) first) refl
          (TakesInputOf a) (IsRefused sources.Input (NoInputOf a)) (Ok input) second

      -- .. for too little gas or memory, or comes to its end
      pub evaluates : (result : Result Answer Stop) → GivesOutcome a (input_meant input) result → Works before now (Some command) result
      evaluates (Ok answer) (text, is, told) =
          let enough = is.1.2.enough in
          record {
            keeps = second_progress.keeps;
            readings = with_both second.reading;
            given = second_progress.given;
            outcome = (
              subst (Cause (Some command) (with_both second.reading)) (sym told) (tt, a, input_meant input, record { program_read = first.outcome; input_read = second.outcome; gas = enough }, is),
              uncounted before now answer (λ source e. cc (told)) (λ source e. cc (told)),
            );
          }
      evaluates (Err (stops.Refused answer)) short =
          record {
            keeps = second_progress.keeps;
            readings = with_both second.reading;
            given = second_progress.given;
            outcome = (
              subst (Cause (Some command) (with_both second.reading)) (sym short.1) (inr (tt, a, input_meant input, first.outcome, second.outcome, short.0, refl, refl)),
              uncounted before now answer (λ source e. cc (short.1)) (λ source e. cc (short.1)),
            );
          }
      evaluates (Err stops.OutOfMemory) out =
          record { keeps = second_progress.keeps; readings = with_both second.reading; given = second_progress.given; outcome = present }
