use Rattle.std.proofs.Common.{Some, sym, ap, ◌∙◌, arith}
use Rattle.std.specs.FinMap as map
use Rattle.std.proofs.lemmas.Result.{on_ok_weaker}
use Rattle.ro_machine.proofs.NewCells.{insert_same}
use Rattle.ro_machine.proofs.Order.{cells_fit}
use Rattle.ro_machine.proofs.memory.Memory.insert.Goals as goal

pub overflow_add-self : goal.overflow_add-self
overflow_add-self c = omega (arith, cells_fit _ 0 c.self.invariant.apart, c.self.invariant.counted)

pub returns-in-Some-clause-ok : goal.returns-in-Some-clause-ok
returns-in-Some-clause-ok c =
    let has = ap (λ m. map.get m c.args.addr) (sym c.self.view_is) ∙ sym (rw c.deref-2.ensures.value at c.in-Some.ensures) in
    on_ok_weaker c.same.result (λ same. sym (insert_same _ _ _ (has ∙ ap Some same))) c.same.ensures.ok
