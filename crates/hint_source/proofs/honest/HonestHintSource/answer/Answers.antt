use Rattle.std.proofs.Common.{sym, ap, ◌∙◌, inl, inr, is_some}
use Rattle.std.proofs.lemmas.Bool.{true≢false}
use Rattle.hint_source.proofs.Answering.{known, uncounted, is_fresh-other}
use Rattle.hint_source.proofs.honest.HonestHintSource.answer.Goals as goal
use Rattle.hint_source.proofs.honest.HonestHintSource.answer.Goals.{else-is_some-via-then-is_some+else-matches, in-Fresh, in_default, else-is_some-via-else-is_some}

pub returns-then-matches-clause-known : goal.returns-then-matches-clause-known
returns-then-matches-clause-known c = known _ _ c.args.q.now _ c.self.view_is c.right_answer-answer.ensures

pub returns-else-is_some-clause-known : goal.returns-else-is_some-clause-known
returns-else-is_some-clause-known c = known _ _ c.args.q.now _ c.self.view_is c.right_answer-answer.ensures

pub returns-else-is_some-clause-after : goal.returns-else-is_some-clause-after
returns-else-is_some-clause-after c =
    let is = known _ _ c.args.q.now _ c.self.view_is c.right_answer-answer.ensures in
    uncounted c.args.self.now c.args.q.now (elim c.else-is_some.branch [
      | else-is_some-via-then-is_some+else-matches w ↦ elim w.match-matches.branch [
        | in-Fresh w' ↦ absurd (true≢false (sym w'.matches-is ∙ w.if-matches.false))
        | in_default w' ↦ inl (is_fresh-other _ w'.in_default.not-Fresh)
      ]
      | else-is_some-via-else-is_some w ↦ inr (ap is_some (sym is) ∙ sym c.is_some.ensures ∙ w.if-is_some.false)
    ])
