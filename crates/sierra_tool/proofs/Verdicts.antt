-- What `check` writes at status 0 is the verdict of an accepted run.
use Rattle.std.proofs.Common.{◌≡◌, ℕ, ◌<◌, List, Option, Some, None, refl, sym, ◌∙◌, ap, subst, inl, inr, arith}
use Rattle.std.specs.Prelude.{⊤, MatchOption}
use Rattle.edge_io.specs.Files.{FilesView}
use Rattle.edge_io.specs.Sinks.{SinkView, WritesAll}
use Rattle.first_form.specs.declared.verdict.Verdict.{Verdict}
use Rattle.first_form.specs.Texts.{verdict_text}
use Rattle.sierra_tool.specs.declared.answer.Answer.{Answer}
use Rattle.sierra_tool.specs.declared.answer.Answer.TheVariants as answers
use Rattle.sierra_tool.specs.declared.command.Check.{Check}
use Rattle.sierra_tool.specs.declared.command.Command.{Command}
use Rattle.sierra_tool.specs.declared.command.Command.TheVariants as commands
use Rattle.sierra_tool.specs.declared.command.Source.{Source}
use Rattle.sierra_tool.specs.declared.command.Source.TheVariants as sources
use Rattle.sierra_tool.specs.Causes.{Reading, found, SourceReadings, Gives, AreReadings, Cause}
use Rattle.sierra_tool.specs.Command.{IsCommand, Parses, name_of, text_of}
use Rattle.sierra_tool.specs.Tool.{Tool, IsAnswered}
use Rattle.sierra_tool.specs.Verdicts.{WritesVerdict, VerdictsAreMeant}
use Rattle.sierra_tool.proofs.Exact.{OfZero, of_zero, alike}

-- arguments that are a check are no other command: no other one reads a run file
some_not_none : {A : Type 0} (x : A) → Some x ≡ None → ⊥
some_not_none x e = absurd (cc)

check_alone : (arguments : List (List ℕ)) (command : Option Command) (check : Check) → Parses arguments command → IsCommand arguments (commands.Check check) → (another : Check) × (command ≡ Some (commands.Check another)) × IsCommand arguments (commands.Check another)
check_alone arguments None check p q = absurd (p (commands.Check check) q)
check_alone arguments (Some (commands.Check another)) check p q = (another, refl, p)
check_alone arguments (Some (commands.Run other)) check p q = absurd (some_not_none check.run.now ((alike arguments (commands.Check check) (commands.Run other) q p).names sources.Run))
check_alone arguments (Some (commands.Eval other)) check p q = absurd (some_not_none check.run.now ((alike arguments (commands.Check check) (commands.Eval other) q p).names sources.Run))
check_alone arguments (Some (commands.Gas other)) check p q = absurd (some_not_none check.run.now ((alike arguments (commands.Check check) (commands.Gas other) q p).names sources.Run))
check_alone arguments (Some (commands.Show other)) check p q = absurd (some_not_none check.run.now ((alike arguments (commands.Check check) (commands.Show other) q p).names sources.Run))
check_alone arguments (Some (commands.Asm other)) check p q = absurd (some_not_none check.run.now ((alike arguments (commands.Check check) (commands.Asm other) q p).names sources.Run))
check_alone arguments (Some commands.Planned) check p q = absurd (some_not_none check.run.now ((alike arguments (commands.Check check) commands.Planned q p).names sources.Run))

-- an answer of status 0 to a check is a verdict
zero_judged : (check : Check) (readings : SourceReadings) (answer : Answer) → OfZero answer → Cause (Some (commands.Check check)) readings answer → (verdict : Verdict) × (answer ≡ answers.Judged verdict)
zero_judged check readings answer (inl zero) c = zero
zero_judged check readings answer (inr (inl zero)) c = let d = subst (Cause (Some (commands.Check check)) readings) zero.1 c in absurd (cc (d.1))
zero_judged check readings answer (inr (inr (inl zero))) c = let d = subst (Cause (Some (commands.Check check)) readings) zero.1 c in absurd (cc (d.1))
zero_judged check readings answer (inr (inr (inr (inl zero)))) c = let d = subst (Cause (Some (commands.Check check)) readings) zero.1 c in absurd (cc (d.1))
zero_judged check readings answer (inr (inr (inr (inr (inl zero))))) c = let d = subst (Cause (Some (commands.Check check)) readings) zero.1 c in absurd (cc (d.0))
zero_judged check readings answer (inr (inr (inr (inr (inr zero))))) c = let d = subst (Cause (Some (commands.Check check)) readings) zero.1 c in absurd d.0

module _ (before now : FilesView) (out written : SinkView) (check : Check) where
  of_judged : (readings : SourceReadings) (verdict : Verdict) → AreReadings before.contents (Some (commands.Check check)) readings → Cause (Some (commands.Check check)) readings (answers.Judged verdict) → WritesAll out written (verdict_text verdict) → WritesVerdict before out written check
  of_judged readings verdict given (read, program, input, run, can, has_run, accepted, is_verdict) whole = record {
    program_text = can.program_read.0;
    program_read = subst (Gives before.contents check.program.now) can.program_read.1 (given sources.Program);
    program = program;
    is_program = can.program_read.3;
    input_text = can.input_read.0;
    input_read = subst (Gives before.contents check.input.now) can.input_read.1 (given sources.Input);
    input = input;
    is_input = can.input_read.3;
    run_bytes = has_run.0;
    run_read = subst (Gives before.contents check.run.now) has_run.1 (given sources.Run);
    run = run;
    is_run = has_run.3;
    accepted = accepted;
    verdict = verdict;
    is_verdict = is_verdict;
    written_whole = whole;
  }

  of_answer : IsAnswered before now out written (Some (commands.Check check)) 0 → WritesVerdict before out written check
  of_answer answered = elim answered.delivered [
    | inr failed ↦ absurd (omega (arith, failed.0))
    | inl whole ↦
        let judged = zero_judged check answered.readings answered.answer (of_zero answered.answer (sym whole.0)) answered.cause in
        let text : text_of (Some (commands.Check check)) answered.answer ≡ verdict_text judged.0 = ap (text_of (Some (commands.Check check))) judged.1 in
        of_judged answered.readings judged.0 answered.given (subst (Cause (Some (commands.Check check)) answered.readings) judged.1 answered.cause) (subst (WritesAll out written) text whole.1)
  ]

-- the file of the same name gave the same
read_alike : (before : FilesView) (one other : Option (List ℕ)) (given : Reading) → one ≡ other → MatchOption one ⊤ (λ name. Gives before.contents name given) → MatchOption other ⊤ (λ name. Gives before.contents name given)
read_alike before one other given same = subst (λ (name : Option (List ℕ)). MatchOption name ⊤ (λ n. Gives before.contents n given)) same

-- two checks of the same names read the same
over_names : (before : FilesView) (out written : SinkView) (check other : Check) → ((source : Source) → name_of (Some (commands.Check check)) source ≡ name_of (Some (commands.Check other)) source) → WritesVerdict before out written check → WritesVerdict before out written other
over_names before out written check other same w = record {
  program_text = w.program_text;
  program_read = read_alike before (Some check.program.now) (Some other.program.now) (found w.program_text) (same sources.Program) w.program_read;
  program = w.program;
  is_program = w.is_program;
  input_text = w.input_text;
  input_read = read_alike before (Some check.input.now) (Some other.input.now) (found w.input_text) (same sources.Input) w.input_read;
  input = w.input;
  is_input = w.is_input;
  run_bytes = w.run_bytes;
  run_read = read_alike before (Some check.run.now) (Some other.run.now) (found w.run_bytes) (same sources.Run) w.run_read;
  run = w.run;
  is_run = w.is_run;
  accepted = w.accepted;
  verdict = w.verdict;
  is_verdict = w.is_verdict;
  written_whole = w.written_whole;
}

pub verdicts_are_meant : (arguments : List (List ℕ)) (before now : FilesView) (out written : SinkView) (status : ℕ) → Tool arguments before now out written status → VerdictsAreMeant arguments before out written status
verdicts_are_meant arguments before now out written status (command, parses, inr ran_out) check is zero = absurd (omega (arith, ran_out.0, zero))
verdicts_are_meant arguments before now out written status (command, parses, inl answered) check is zero =
    let (another, same, another_is) = check_alone arguments command check parses is in
    let of_command = subst (λ (c : Option Command). IsAnswered before now out written c status) same answered in
    let at_zero = subst (λ (s : ℕ). IsAnswered before now out written (Some (commands.Check another)) s) zero of_command in
    over_names before out written another check (alike arguments (commands.Check another) (commands.Check check) another_is is).names (of_answer before now out written another at_zero)
