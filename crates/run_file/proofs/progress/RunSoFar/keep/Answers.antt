use Rattle.std.proofs.Common.{List, ℕ, refl, ap, arith}
use Rattle.run_file.proofs.Order.{insert_last}
use Rattle.run_file.proofs.progress.RunSoFar.keep.Goals as goal

pub returns-in_ok-insert_new-in-Cell-clause-ok : goal.returns-in_ok-insert_new-in-Cell-clause-ok
returns-in_ok-insert_new-in-Cell-clause-ok c =
    let none = rw c.in-Cell.is at c.requires in
    rw (c.in-Cell.is, c.in_ok-insert_new-in-Cell.ensures.ok) (record {
      parts_are = ap (λ (cells : List (ℕ × ℕ)). record { rc = c.args.self.now.rc; cells = cells; states = c.args.self.now.states.items }) (insert_last c.args.self.now.memory c.in-Cell.address c.in-Cell.word none);
      cells_are = refl;
      room_is = omega arith;
    })
