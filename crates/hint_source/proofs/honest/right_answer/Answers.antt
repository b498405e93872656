use Rattle.std.proofs.Common.{sym, subst, ⊎_elim}
use Rattle.hint_source.proofs.Answering.{NamesLog, no_log}
use Rattle.hint_source.proofs.honest.right_answer.Goals as goal

pub returns-in-Previous : goal.returns-in-Previous
returns-in-Previous c =
    let names : NamesLog c.args.kind = ⊎_elim
    (λ parts. subst NamesLog (sym parts.2) tt)
    (⊎_elim (λ parts. subst NamesLog (sym parts.1) tt)
    (⊎_elim (λ parts. subst NamesLog (sym parts.2) tt)
    (⊎_elim (λ parts. subst NamesLog (sym parts.2) tt)
    (λ parts. subst NamesLog (sym parts.3) tt)))) c.in-Previous.is in
    sym (no_log _ _ names)
