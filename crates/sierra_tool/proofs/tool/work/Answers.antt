use Rattle.std.proofs.Common.{inl, inr, refl, subst, Some, None}
use Rattle.edge_io.proofs.Writing.{writes_nothing}
use Rattle.sierra_tool.specs.Causes.{absent}
use Rattle.sierra_tool.specs.Stages.{Stops, IsCaused}
use Rattle.sierra_tool.specs.Tool.{MayHaveFirst}
use Rattle.sierra_tool.specs.declared.answer.Answer.TheVariants as answers
use Rattle.sierra_tool.proofs.Stages.{uncounted, delivers_answer}
use Rattle.sierra_tool.proofs.tool.work.Goals as goal

-- the arguments are no command
pub returns-in_default-clause-tool : goal.returns-in_default-clause-tool
returns-in_default-clause-tool g c =
    let files = g.F.Files.view c.args.files.now in (
      None,
      c.in_default.ensures,
      inl (record {
        readings = λ source. absent;
        given = λ source. refl;
        answer = answers.Usage;
        cause = refl;
        counted = uncounted files files answers.Usage (λ source e. cc) (λ source e. cc);
        delivered = c.refuse.ensures;
      }),
    )

-- the answer was delivered, ..
pub returns-in-Ok-clause-tool : goal.returns-in-Ok-clause-tool
returns-in-Ok-clause-tool g c =
    let files = g.F.Files.view in
    let out = g.S.Sink.view in
    let works = c.in-Ok.ensures in
    (Some c.in-Some.command, c.in-Some.ensures, delivers_answer c.known.ensures (files c.args.files.now) (files c.answer.new.files) (out c.args.out.now) (out c.deliver.new.out) c.in-Some.command works.readings c.in-Ok.answer c.deliver.result works.given works.outcome c.deliver.ensures)

-- .. or the refusal, ..
pub returns-in-Err-Refused-clause-tool : goal.returns-in-Err-Refused-clause-tool
returns-in-Err-Refused-clause-tool g c =
    let files = g.F.Files.view in
    let out = g.S.Sink.view in
    let works = c.in-Err-Refused.ensures in
    let caused = subst (Stops (IsCaused (files c.args.files.now) (files c.answer.new.files) (Some c.in-Some.command) works.readings) (MayHaveFirst (files c.args.files.now).contents (Some c.in-Some.command))) c.in-Err-Refused.field-0-is works.outcome in
    (Some c.in-Some.command, c.in-Some.ensures, delivers_answer c.known.ensures (files c.args.files.now) (files c.answer.new.files) (out c.args.out.now) (out c.deliver-in-Err-Refused.new.out) c.in-Some.command works.readings c.in-Err-Refused.answer c.deliver-in-Err-Refused.result works.given caused c.deliver-in-Err-Refused.ensures)

-- .. or there was no memory, and nothing was written
pub returns-in-Err-OutOfMemory-clause-tool : goal.returns-in-Err-OutOfMemory-clause-tool
returns-in-Err-OutOfMemory-clause-tool g c =
    let files = g.F.Files.view in
    let works = c.in-Err-OutOfMemory.ensures in
    let first = subst (Stops (IsCaused (files c.args.files.now) (files c.answer.new.files) (Some c.in-Some.command) works.readings) (MayHaveFirst (files c.args.files.now).contents (Some c.in-Some.command))) c.in-Err-OutOfMemory.field-0-is works.outcome in
    (Some c.in-Some.command, c.in-Some.ensures, inr (refl, first, writes_nothing (g.S.Sink.view c.args.out.now)))
