use Rattle.std.proofs.Common.{ap, sym, ◌∙◌}
use Rattle.std.specs.FinMap.{get}
use Rattle.hint_source.proofs.Words.{get-words, answer_of-overlay}
use Rattle.hint_source.proofs.overlay.OverlayHintSource.answer.Goals as goal

pub returns-clause-known : goal.returns-clause-known
returns-clause-known c =
    c.copied.ensures
    ∙ c.get.ensures.value
    ∙ sym (get-words _ _)
    ∙ ap (λ words. get words c.args.q.now.number) c.self.view_is
    ∙ sym (answer_of-overlay c.args.self.now c.args.q.now)
