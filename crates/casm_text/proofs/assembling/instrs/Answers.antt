use Rattle.std.proofs.Common.{◌≡◌, ◌≢◌, ◌<◌, ◌∙◌, ℕ, List, Ok, length, sym, ap, arith}
use Rattle.std.proofs.lemmas.Bool.{eqb-true, eqb-false}
use Rattle.std.proofs.lemmas.List.{nil_from_length}
use Rattle.std.proofs.lemmas.Result.{err_from_is_err_and}
use Rattle.text_reading.specs.Reading.{Answer.answers, items_at}
use Rattle.text_reading.proofs.WholeTexts.{items_end, items_stop, items_more}
use Rattle.text_reading.proofs.Stops.{gives_stop}
use Rattle.casm_text.specs.Text.{standard}
use Rattle.casm_text.specs.Reading.{instr_at}
use Rattle.casm_text.proofs.CodeReading.{instr_in_field, standard_moves}
use Rattle.casm_text.proofs.assembling.instrs.Goals as goal

pub returns-in_err-i : goal.returns-in_err-i
returns-in_err-i c =
    let p = err_from_is_err_and c.from_residual.result c.from_residual.ensures.1 in
    let some : length c.loop-rest.rest.now ≢ 0 = eqb-false _ _ (sym c.loop-rest-test.ensures) in
    let above : 0 < length c.loop-rest.rest.now = omega arith in
    rw (p.1, p.2) (gives_stop (λ i. i) (λ code. code) c.in_err-i.field-0.0 c.instr.new.rest.now (instr_at standard c.loop-rest.rest.now) (items_at (instr_at standard) c.args.rest.now.now)
    (λ why e. sym c.loop-rest.invariant ∙ items_stop (instr_at standard) standard_moves c.loop-rest.code c.loop-rest.rest.now c.instr.new.rest.now why above e)
    c.in_err-i.ensures)

pub push-requires : goal.push-requires
push-requires c = instr_in_field c.loop-rest.rest.now c.instr.new.rest.now c.in_ok-i.i c.in_ok-i.ensures

pub loop-rest-smaller : goal.loop-rest-smaller
loop-rest-smaller c = standard_moves c.loop-rest.rest.now c.instr.new.rest.now c.in_ok-i.i c.in_ok-i.ensures

pub loop-rest-preserved : goal.loop-rest-preserved
loop-rest-preserved c =
    let some : length c.loop-rest.rest.now ≢ 0 = eqb-false _ _ (sym c.loop-rest-test.ensures) in
    let above : 0 < length c.loop-rest.rest.now = omega arith in
    rw c.in_ok-push.ensures.ok
    (sym (items_more (instr_at standard) standard_moves c.loop-rest.code c.loop-rest.rest.now c.instr.new.rest.now c.in_ok-i.i above c.in_ok-i.ensures) ∙ c.loop-rest.invariant)

pub returns : goal.returns
returns c =
    let none : length c.loop-rest.rest.now ≡ 0 = eqb-true _ _ (sym c.loop-rest-test.ensures) in
    sym c.loop-rest.invariant ∙ items_end (instr_at standard) standard_moves c.loop-rest.code c.loop-rest.rest.now none
    ∙ ap (λ (t : List ℕ). answers (Ok c.loop-rest.code) t) (sym (nil_from_length c.loop-rest.rest.now none))
