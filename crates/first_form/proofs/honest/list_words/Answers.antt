use Rattle.std.proofs.Common.{◌≡◌, ◌+◌, ◌<◌, ◌++◌, length, drop, sym, ap, subst, ◌∙◌, arith}
use Rattle.std.specs.FinMap.{insert, entries}
use Rattle.ro_machine.specs.Cells.{NoneFrom}
use Rattle.run_file.proofs.Order.{none_after}
use Rattle.first_form.specs.Honest.{cells_from}
use Rattle.first_form.proofs.ListedLaws.{listed_next}
use Rattle.first_form.proofs.honest.list_words.Goals as goal

-- the cell is listed behind the others, and the next address is free
pub loop-word-preserved : goal.loop-word-preserved
loop-word-preserved c =
    let m = c.loop-word.memory in
    let addr = c.loop-word.addr in
    let word = c.word-item.result in
    let words = c.args.words.now in
    let n = c.loop-word.word-index in
    let free = c.loop-word.invariant.free in
    let within : n < length words = omega arith in
    let next : c.add-addr.result ≡ addr + 1 = omega arith in
    let new = c.in_ok-insert_new.ensures.ok in
    record {
      place = omega arith;
      free = subst (λ m. NoneFrom m c.add-addr.result) (sym new) (subst (NoneFrom (insert m addr word)) (sym next) (none_after m addr word free));
      listed = ap (λ m. entries m ++ cells_from c.add-addr.result (drop (n + 1) words)) new
          ∙ listed_next m words n addr c.add-addr.result word free within c.word-item.is next ∙ c.loop-word.invariant.listed;
    }
