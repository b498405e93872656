use Rattle.std.proofs.Common.{◌≡◌, ◌≢◌, ◌<◌, ◌∙◌, Ok, length, sym, ap, arith}
use Rattle.std.proofs.lemmas.Bool.{eqb-true, eqb-false}
use Rattle.std.proofs.lemmas.Result.{err_from_is_err_and}
use Rattle.text_reading.specs.Reading.{Answer.answers}
use Rattle.text_reading.proofs.Stops.{gives_stop}
use Rattle.sierra_text.specs.Text.{standard}
use Rattle.sierra_text.specs.Parts.{progress_of}
use Rattle.sierra_text.specs.ProgramReading.{at_start, declaration_at, declarations_at}
use Rattle.sierra_text.proofs.DeclarationSteps.{declarations_end, declarations_more, declarations_stop, standard_moves}
use Rattle.sierra_text.proofs.reading.declarations.Goals as goal

pub returns-in_err-next : goal.returns-in_err-next
returns-in_err-next c =
    let p = err_from_is_err_and c.from_residual.result c.from_residual.ensures.1 in
    let some : length c.loop-alloc.rest.now ≢ 0 = eqb-false _ _ (sym c.loop-alloc-test.ensures) in
    let above : 0 < length c.loop-alloc.rest.now = omega arith in
    rw (p.1, p.2) (gives_stop (λ d. d) (λ program. program) c.in_err-next.field-0.0 c.declaration.new.rest.now (declaration_at standard c.loop-alloc.parts.part c.loop-alloc.rest.now)
    (declarations_at standard at_start c.args.rest.now.now)
    (λ why e. sym c.loop-alloc.invariant ∙ declarations_stop (progress_of c.loop-alloc.parts) c.loop-alloc.rest.now c.declaration.new.rest.now why above e)
    c.in_err-next.ensures)

pub loop-alloc-smaller : goal.loop-alloc-smaller
loop-alloc-smaller c = standard_moves c.loop-alloc.parts.part c.loop-alloc.rest.now c.declaration.new.rest.now c.in_ok-next.next c.in_ok-next.ensures

pub loop-alloc-preserved : goal.loop-alloc-preserved
loop-alloc-preserved c =
    let some : length c.loop-alloc.rest.now ≢ 0 = eqb-false _ _ (sym c.loop-alloc-test.ensures) in
    let above : 0 < length c.loop-alloc.rest.now = omega arith in
    ap (λ s. declarations_at standard s c.declaration.new.rest.now) c.in_ok-push.ensures
    ∙ sym (declarations_more (progress_of c.loop-alloc.parts) c.loop-alloc.rest.now c.declaration.new.rest.now c.in_ok-next.next above c.in_ok-next.ensures) ∙ c.loop-alloc.invariant

pub returns : goal.returns
returns c =
    let none : length c.loop-alloc.rest.now ≡ 0 = eqb-true _ _ (sym c.loop-alloc-test.ensures) in
    sym c.loop-alloc.invariant ∙ declarations_end (progress_of c.loop-alloc.parts) c.loop-alloc.rest.now none
    ∙ ap (λ p. answers (Ok p) c.loop-alloc.rest.now) (sym c.into_program.ensures)
