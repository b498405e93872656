use Rattle.std.proofs.Common.{◌≡◌, [], ◌∷◌, ◌∙◌, true, false, Ok, refl, sym}
use Rattle.std.proofs.lemmas.Result.{err_from_is_err_and}
use Rattle.text_reading.specs.Reading.{Answer.answers, done, begins}
use Rattle.text_reading.specs.TokenReading.{mark_at}
use Rattle.text_reading.proofs.Readers.{then_next, then_stops}
use Rattle.text_reading.proofs.Stops.{gives_stop}
use Rattle.sierra_text.specs.Text.{standard}
use Rattle.sierra_text.specs.Reading.{behind_items_at, branch_at}
use Rattle.sierra_text.proofs.ListSteps.{list_ends, list_more, list_stops, list_moves}
use Rattle.sierra_text.proofs.StandardLists.{branch_moves}
use Rattle.sierra_text.proofs.branches.branches_behind.Goals as goal

pub returns-in_err-next : goal.returns-in_err-next
returns-in_err-next c =
    let p = err_from_is_err_and c.from_residual.result c.from_residual.ensures.1 in
    let more : begins 125 c.loop-alloc.rest.now ≡ false = sym c.loop-alloc-test.ensures in
    rw (p.1, p.2) (gives_stop (λ x. x) (λ xs. xs) c.in_err-next.field-0.0 c.one_branch.new.rest.now (branch_at standard c.loop-alloc.rest.now) (behind_items_at (done tt) 125 (branch_at standard) (c.args.first ∷ []) c.args.rest.now.now)
    (λ why e. sym c.loop-alloc.invariant ∙ list_stops (done tt) 125 (branch_at standard) branch_moves c.loop-alloc.branches c.loop-alloc.rest.now c.one_branch.new.rest.now why more e)
    c.in_err-next.ensures)

pub loop-alloc-smaller : goal.loop-alloc-smaller
loop-alloc-smaller c = list_moves (done tt) 125 (branch_at standard) branch_moves [] c.loop-alloc.rest.now c.one_branch.new.rest.now c.in_ok-next.next c.in_ok-next.ensures

pub loop-alloc-preserved : goal.loop-alloc-preserved
loop-alloc-preserved c =
    let more : begins 125 c.loop-alloc.rest.now ≡ false = sym c.loop-alloc-test.ensures in
    rw c.in_ok-push.ensures.ok
    (sym (list_more (done tt) 125 (branch_at standard) branch_moves c.loop-alloc.branches c.loop-alloc.rest.now c.one_branch.new.rest.now c.in_ok-next.next more c.in_ok-next.ensures) ∙ c.loop-alloc.invariant)

pub returns-in_err-mark : goal.returns-in_err-mark
returns-in_err-mark c =
    let p = err_from_is_err_and c.from_residual-in_err-mark.result c.from_residual-in_err-mark.ensures.1 in
    let end : begins 125 c.loop-alloc.rest.now ≡ true = sym c.loop-alloc-test.ensures in
    rw (p.1, p.2) (gives_stop (λ (unit : Unit {0}). tt) (λ xs. xs) c.in_err-mark.field-0.0 c.mark.new.rest.now (mark_at (125 ∷ []) c.loop-alloc.rest.now) (behind_items_at (done tt) 125 (branch_at standard) (c.args.first ∷ []) c.args.rest.now.now)
    (λ why e. sym c.loop-alloc.invariant ∙ list_ends (done tt) 125 (branch_at standard) branch_moves c.loop-alloc.branches c.loop-alloc.rest.now end
    ∙ then_stops (mark_at (125 ∷ [])) (λ _. done c.loop-alloc.branches) c.loop-alloc.rest.now c.mark.new.rest.now why e)
    c.in_err-mark.ensures)

pub returns : goal.returns
returns c =
    let end : begins 125 c.loop-alloc.rest.now ≡ true = sym c.loop-alloc-test.ensures in
    sym c.loop-alloc.invariant ∙ list_ends (done tt) 125 (branch_at standard) branch_moves c.loop-alloc.branches c.loop-alloc.rest.now end
    ∙ then_next (mark_at (125 ∷ [])) (λ _. done c.loop-alloc.branches) c.loop-alloc.rest.now c.mark.new.rest.now tt (answers (Ok c.loop-alloc.branches) c.mark.new.rest.now) c.in_ok-mark.ensures refl
