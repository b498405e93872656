-- Each stage's reader is met at the head of what is left.
use Rattle.std.proofs.Common.{◌+◌, refl}
use Rattle.std.proofs.lemmas.Result.{err_from_is_err_and}
use Rattle.byte_reading.proofs.ReadingLaws.{number_step}
use Rattle.run_file.specs.declared.refusal.FileRefusal.TheVariants as refusals
use Rattle.run_file.specs.Stages.{from_count, from_steps, from_word, from_stage}
use Rattle.run_file.proofs.StageLaws.{some_states, ends_refused}
use Rattle.run_file.proofs.stage.Stage.next.Goals as goal

pub returns-in_err-address-in-Address-clause-goes_on : goal.returns-in_err-address-in-Address-clause-goes_on
unfolding from_stage
returns-in_err-address-in-Address-clause-goes_on c =
    let p = err_from_is_err_and c.from_residual.result c.from_residual.ensures.1 in
    rw (p.1, p.2, c.in-Address.is) (c.in_err-address-in-Address.ensures.read.0, λ l more. rw (c.in_err-address-in-Address.ensures.read.1 more) refl)

pub returns-in_err-left-in-StepCount-clause-goes_on : goal.returns-in_err-left-in-StepCount-clause-goes_on
unfolding from_stage from_steps
returns-in_err-left-in-StepCount-clause-goes_on c =
    let p = err_from_is_err_and c.from_residual-in_err-left-in-StepCount.result c.from_residual-in_err-left-in-StepCount.ensures.1 in
    let read = c.in_err-left-in-StepCount.ensures.read c.args.at in
    rw (p.1, p.2, c.in-StepCount.is) (read.0, λ l more. rw (read.1 more) refl)

pub returns-in_err-word-in-Word-clause-goes_on : goal.returns-in_err-word-in-Word-clause-goes_on
unfolding from_stage
returns-in_err-word-in-Word-clause-goes_on c =
    let p = err_from_is_err_and c.from_residual-in_err-word-in-Word.result c.from_residual-in_err-word-in-Word.ensures.1 in
    rw (p.1, p.2, c.in-Word.is) (c.in_err-word-in-Word.ensures.0, λ l more. rw (c.in_err-word-in-Word.ensures.1 more) refl)

pub returns-in-Magic-clause-goes_on : goal.returns-in-Magic-clause-goes_on
returns-in-Magic-clause-goes_on c = rw c.in-Magic.is (c.magic.ensures.goes_on c.args.at)

pub returns-in-CellCount-clause-goes_on : goal.returns-in-CellCount-clause-goes_on
unfolding from_stage from_count
returns-in-CellCount-clause-goes_on c l more =
    let count = number_step refusals.Cut c.args.at c.args.number more c.requires in
    rw (c.in-CellCount.is, count, c.without_part.ensures, c.cells.ensures.goes_on l (record { at = c.args.at + 8; rest = more }), c.from_le_bytes.ensures) refl

pub returns-in_ok-address-in-Address-clause-goes_on : goal.returns-in_ok-address-in-Address-clause-goes_on
unfolding from_stage from_word
returns-in_ok-address-in-Address-clause-goes_on c l more = rw (c.in-Address.is, c.in_ok-address-in-Address.ensures.read more, c.without_part-in-Address.ensures) refl

pub returns-in_ok-left-in-StepCount-clause-goes_on : goal.returns-in_ok-left-in-StepCount-clause-goes_on
unfolding from_stage from_steps
returns-in_ok-left-in-StepCount-clause-goes_on c l more =
    rw (c.in-StepCount.is, c.in_ok-left-in-StepCount.ensures.read c.args.at more, c.with.ensures) (some_states c.in_ok-left-in-StepCount.left l (record { at = c.args.at + 8; rest = more }))

pub returns-in_ok-word-in-Word-clause-goes_on : goal.returns-in_ok-word-in-Word-clause-goes_on
unfolding from_stage
returns-in_ok-word-in-Word-clause-goes_on c l more =
    rw (c.in-Word.is, c.in_ok-word-in-Word.ensures more) (c.next.ensures.goes_on l (record { at = c.args.at + 8; rest = more }))

pub returns-in-End-clause-goes_on : goal.returns-in-End-clause-goes_on
unfolding from_stage
returns-in-End-clause-goes_on c = rw c.in-End.is (tt, λ l more. ends_refused l c.args.at c.args.number more c.requires)
