use Rattle.std.proofs.Common.{◌≡◌, [], ◌∷◌, ◌∙◌, true, false, Ok, refl, sym}
use Rattle.std.proofs.lemmas.Result.{err_from_is_err_and}
use Rattle.text_reading.specs.Reading.{Answer.answers, done, begins}
use Rattle.text_reading.specs.TokenReading.{mark_at}
use Rattle.text_reading.proofs.Readers.{then_next, then_stops}
use Rattle.text_reading.proofs.Stops.{gives_stop}
use Rattle.sierra_text.specs.Reading.{comma_at, next_item_at, behind_items_at}
use Rattle.sierra_text.proofs.ListSteps.{list_ends, list_more, list_stops, list_moves}
use Rattle.sierra_text.proofs.lists.items_behind.Goals as goal

pub returns-in_err-next : goal.returns-in_err-next
returns-in_err-next g c =
    let p = err_from_is_err_and c.from_residual.result c.from_residual.ensures.1 in
    let more : begins c.args.close c.loop-alloc.rest.now ≡ false = sym c.loop-alloc-test.ensures in
    rw (p.1, p.2) (gives_stop (λ x. x) (λ xs. xs) c.in_err-next.field-0.0 c.next_item.new.rest.now (next_item_at g.T.Item.reader c.loop-alloc.rest.now) (behind_items_at comma_at c.args.close g.T.Item.reader (c.args.first ∷ []) c.args.rest.now.now)
    (λ why e. sym c.loop-alloc.invariant ∙ list_stops comma_at c.args.close g.T.Item.reader (c.requires.shorter c.args.close) c.loop-alloc.items c.loop-alloc.rest.now c.next_item.new.rest.now why more e)
    c.in_err-next.ensures)

pub loop-alloc-smaller : goal.loop-alloc-smaller
loop-alloc-smaller g c = list_moves comma_at c.args.close g.T.Item.reader (c.requires.shorter c.args.close) [] c.loop-alloc.rest.now c.next_item.new.rest.now c.in_ok-next.next c.in_ok-next.ensures

pub loop-alloc-preserved : goal.loop-alloc-preserved
loop-alloc-preserved g c =
    let more : begins c.args.close c.loop-alloc.rest.now ≡ false = sym c.loop-alloc-test.ensures in
    rw c.in_ok-push.ensures.ok
    (sym (list_more comma_at c.args.close g.T.Item.reader (c.requires.shorter c.args.close) c.loop-alloc.items c.loop-alloc.rest.now c.next_item.new.rest.now c.in_ok-next.next more c.in_ok-next.ensures) ∙ c.loop-alloc.invariant)

pub returns-in_err-mark : goal.returns-in_err-mark
returns-in_err-mark g c =
    let p = err_from_is_err_and c.from_residual-in_err-mark.result c.from_residual-in_err-mark.ensures.1 in
    let end : begins c.args.close c.loop-alloc.rest.now ≡ true = sym c.loop-alloc-test.ensures in
    rw (p.1, p.2) (gives_stop (λ (unit : Unit {0}). tt) (λ xs. xs) c.in_err-mark.field-0.0 c.mark.new.rest.now (mark_at (c.args.close ∷ []) c.loop-alloc.rest.now) (behind_items_at comma_at c.args.close g.T.Item.reader (c.args.first ∷ []) c.args.rest.now.now)
    (λ why e. sym c.loop-alloc.invariant ∙ list_ends comma_at c.args.close g.T.Item.reader (c.requires.shorter c.args.close) c.loop-alloc.items c.loop-alloc.rest.now end
    ∙ then_stops (mark_at (c.args.close ∷ [])) (λ _. done c.loop-alloc.items) c.loop-alloc.rest.now c.mark.new.rest.now why e)
    c.in_err-mark.ensures)

pub returns : goal.returns
returns g c =
    let end : begins c.args.close c.loop-alloc.rest.now ≡ true = sym c.loop-alloc-test.ensures in
    sym c.loop-alloc.invariant ∙ list_ends comma_at c.args.close g.T.Item.reader (c.requires.shorter c.args.close) c.loop-alloc.items c.loop-alloc.rest.now end
    ∙ then_next (mark_at (c.args.close ∷ [])) (λ _. done c.loop-alloc.items) c.loop-alloc.rest.now c.mark.new.rest.now tt (answers (Ok c.loop-alloc.items) c.mark.new.rest.now) c.in_ok-mark.ensures refl
