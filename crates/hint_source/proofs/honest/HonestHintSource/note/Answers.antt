use Rattle.std.proofs.Common.{Some, sym, ap}
use Rattle.hint_source.specs.Remembered.{Remembered, honest_view}
use Rattle.hint_source.proofs.Answering.{unlogged}
use Rattle.hint_source.proofs.honest.HonestHintSource.note.Goals as goal
use Rattle.hint_source.proofs.honest.HonestHintSource.note.Goals.{in-Begun, in-Written}

pub returns-clause-ok : goal.returns-clause-ok
returns-clause-ok c =
    let none = ap (λ (remembered : Remembered). remembered.logs) (sym c.self.view_is) in
    elim c.match-n.branch [
      | in-Begun w ↦ rw w.result-is tt
      | in-Written w ↦ rw w.result-is (ap (λ logs. Some (honest_view (record { logs = logs; fresh = c.args.self.now.fresh }))) (unlogged _ _ _ _ _ none w.in-Written.is))
    ]
