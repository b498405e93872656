-- What `run` writes is the run file of an accepted run, and what `eval` writes is the meaning.
use Rattle.std.proofs.Common.{◌≡◌, ℕ, ◌<◌, List, Option, Some, refl, sym, ◌∙◌, ap, subst, inl, inr, arith}
use Rattle.edge_io.specs.Files.{FilesView}
use Rattle.edge_io.specs.Sinks.{SinkView, WritesAll}
use Rattle.felt64.specs.Field.{modulus}
use Rattle.first_form.specs.declared.program.Program.{Program}
use Rattle.first_form.specs.declared.input.Input.{Input}
use Rattle.first_form.specs.Honest.{honest_run}
use Rattle.first_form.proofs.HonestLaws.{accepted, shown, is_run, is_short}
use Rattle.run_file.specs.Spelling.{spelling}
use Rattle.sierra_tool.specs.declared.command.Command.{Command}
use Rattle.sierra_tool.specs.declared.command.Command.TheVariants as commands
use Rattle.sierra_tool.specs.declared.command.Evaluate.{Evaluate}
use Rattle.sierra_tool.specs.declared.command.Execute.{Execute}
use Rattle.std.specs.Prelude.{MatchOption}
use Rattle.sierra_tool.specs.declared.command.Source.{Source}
use Rattle.sierra_tool.specs.Causes.{absent, SourceReadings, Gives, AreReadings, CanRun}
use Rattle.sierra_tool.specs.Command.{name_of, text_of}
use Rattle.sierra_tool.specs.Headline.{WritesAcceptedRun, RunsAreAccepted, WritesMeaning, OutcomesAreMeant}
use Rattle.sierra_tool.specs.Tool.{Tool, IsAnswered}
use Rattle.sierra_tool.proofs.Exact.{of_zero, zero_ran, zero_evaluated, alike, run_alone, eval_alone}
use Rattle.typed_values.specs.Texts.{outcome_text}

module _ (before now : FilesView) (out written : SinkView) (execute : Execute) where
  -- the honest run of what was read is accepted, and shows the meaning
  of_start : (readings : SourceReadings) (program : Program) (input : Input) → AreReadings before.contents (Some (commands.Run execute)) readings → CanRun readings program input → WritesAll out written (spelling (honest_run program input)) → WritesAcceptedRun before out written execute
  of_start readings program input given can whole =
      let constant : program.constant < modulus = can.program_read.3.2.0.below in
      let argument : input.argument < modulus = can.input_read.3.argument_below in
      let verdict = shown program input constant argument can.gas in
      record {
        readings = readings;
        given = given;
        program = program;
        input = input;
        start = can;
        run = honest_run program input;
        file = spelling (honest_run program input);
        written_whole = whole;
        is_file = (is_run program input constant argument, refl);
        is_short = is_short program input;
        accepted = accepted program input constant argument;
        verdict = verdict.0;
        is_verdict = verdict.1;
      }

  of_answer : IsAnswered before now out written (Some (commands.Run execute)) 0 → WritesAcceptedRun before out written execute
  of_answer answered = elim answered.delivered [
    | inr failed ↦ absurd (omega (arith, failed.0))
    | inl whole ↦
        let ran = zero_ran execute answered.readings answered.answer (of_zero answered.answer (sym whole.0)) answered.cause in
        let text : text_of (Some (commands.Run execute)) answered.answer ≡ spelling (honest_run ran.2 ran.3) = ap (text_of (Some (commands.Run execute))) ran.1 ∙ ran.5 in
        of_start answered.readings ran.2 ran.3 answered.given ran.4 (subst (WritesAll out written) text whole.1)
  ]

-- two runs of the same names read the same
over_names : (before : FilesView) (out written : SinkView) (execute other : Execute) → ((source : Source) → name_of (Some (commands.Run execute)) source ≡ name_of (Some (commands.Run other)) source) → WritesAcceptedRun before out written execute → WritesAcceptedRun before out written other
over_names before out written execute other same w =
    record {
      readings = w.readings;
      given = λ source. subst (λ (name : Option (List ℕ)). MatchOption name (w.readings source ≡ absent) (λ n. Gives before.contents n (w.readings source))) (same source) (w.given source);
      program = w.program;
      input = w.input;
      start = w.start;
      run = w.run;
      file = w.file;
      written_whole = w.written_whole;
      is_file = w.is_file;
      is_short = w.is_short;
      accepted = w.accepted;
      verdict = w.verdict;
      is_verdict = w.is_verdict;
    }

pub runs_are_accepted : (arguments : List (List ℕ)) (before now : FilesView) (out written : SinkView) (status : ℕ) → Tool arguments before now out written status → RunsAreAccepted arguments before out written status
runs_are_accepted arguments before now out written status (command, parses, inr ran_out) execute is zero = absurd (omega (arith, ran_out.0, zero))
runs_are_accepted arguments before now out written status (command, parses, inl answered) execute is zero =
    let (another, same, another_is) = run_alone arguments command execute parses is in
    let of_command = subst (λ (c : Option Command). IsAnswered before now out written c status) same answered in
    let at_zero = subst (λ (s : ℕ). IsAnswered before now out written (Some (commands.Run another)) s) zero of_command in
    over_names before out written another execute (alike arguments (commands.Run another) (commands.Run execute) another_is is).names (of_answer before now out written another at_zero)

-- the outcome of an evaluation that was delivered is the meaning
of_outcome : (before now : FilesView) (out written : SinkView) (evaluate : Evaluate) → IsAnswered before now out written (Some (commands.Eval evaluate)) 0 → WritesMeaning before out written evaluate
of_outcome before now out written evaluate answered = elim answered.delivered [
  | inr failed ↦ absurd (omega (arith, failed.0))
  | inl whole ↦
      let to = zero_evaluated evaluate answered.readings answered.answer (of_zero answered.answer (sym whole.0)) answered.cause in
      let is = to.5 in
      let text : text_of (Some (commands.Eval evaluate)) answered.answer ≡ outcome_text is.0 = ap (text_of (Some (commands.Eval evaluate))) to.1 ∙ is.2 in
      record {
        readings = answered.readings;
        given = answered.given;
        program = to.2;
        input = to.3;
        start = to.4;
        outcome = is.0;
        is_meaning = is.1;
        written_whole = subst (WritesAll out written) text whole.1;
      }
]

-- two evaluations of the same names read the same
of_same_names : (before : FilesView) (out written : SinkView) (evaluate other : Evaluate) → ((source : Source) → name_of (Some (commands.Eval evaluate)) source ≡ name_of (Some (commands.Eval other)) source) → WritesMeaning before out written evaluate → WritesMeaning before out written other
of_same_names before out written evaluate other same w =
    record {
      readings = w.readings;
      given = λ source. subst (λ (name : Option (List ℕ)). MatchOption name (w.readings source ≡ absent) (λ n. Gives before.contents n (w.readings source))) (same source) (w.given source);
      program = w.program;
      input = w.input;
      start = w.start;
      outcome = w.outcome;
      is_meaning = w.is_meaning;
      written_whole = w.written_whole;
    }

pub outcomes_are_meant : (arguments : List (List ℕ)) (before now : FilesView) (out written : SinkView) (status : ℕ) → Tool arguments before now out written status → OutcomesAreMeant arguments before out written status
outcomes_are_meant arguments before now out written status (command, parses, inr ran_out) evaluate is zero = absurd (omega (arith, ran_out.0, zero))
outcomes_are_meant arguments before now out written status (command, parses, inl answered) evaluate is zero =
    let (another, same, another_is) = eval_alone arguments command evaluate parses is in
    let of_command = subst (λ (c : Option Command). IsAnswered before now out written c status) same answered in
    let at_zero = subst (λ (s : ℕ). IsAnswered before now out written (Some (commands.Eval another)) s) zero of_command in
    of_same_names before out written another evaluate (alike arguments (commands.Eval another) (commands.Eval evaluate) another_is is).names (of_outcome before now out written another at_zero)
