use Rattle.std.proofs.Common.{Some, ap, refl, sym, ◌∙◌}
use Rattle.std.specs.FinMap.{insert}
use Rattle.hint_source.specs.Remembered.{overlay_view}
use Rattle.hint_source.proofs.Words.{get-words, from_entries-insert, none_from_false}
use Rattle.hint_source.proofs.overlay.OverlayHintSource.teach.Goals as goal

pub returns-then-contains_key-clause-known : goal.returns-then-contains_key-clause-known
returns-then-contains_key-clause-known c =
    (refl, rw (← c.self.view_is, get-words c.self.inside.taught.entries c.args.number) (sym c.contains_key.ensures ∙ c.if-contains_key.true))

pub returns-clause-known : goal.returns-clause-known
returns-clause-known c =
    (refl, rw (← c.self.view_is, get-words c.self.inside.taught.entries c.args.number) (none_from_false _ (sym c.contains_key.ensures ∙ c.if-contains_key.false)))

pub returns-clause-ok : goal.returns-clause-ok
returns-clause-ok c = ap (λ words. Some (overlay_view words))
    (from_entries-insert c.self.inside.taught.entries c.insert.new.self.entries c.args.number c.args.word (c.in_ok-insert.ensures.updates.0)
    ∙ ap (λ words. insert words c.args.number c.args.word) c.self.view_is)
