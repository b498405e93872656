use Rattle.std.proofs.Common.{set, sym, ap, ◌∙◌, arith}
use Rattle.statement_walk.specs.Waits.{has}
use Rattle.statement_walk.specs.Walk.{waiting}
use Rattle.statement_walk.proofs.Storing.{added, added_seen, stored_within}
use Rattle.statement_walk.proofs.walk.Walk.add.Goals as goal

pub invariant_of-self : goal.invariant_of-self
invariant_of-self g c = λ s waits. c.self.invariant s (sym (ap (λ ks. has ks s) c.in_err-add.ensures.err) ∙ waits)

pub index_mut-requires : goal.index_mut-requires
index_mut-requires g c = omega (arith, stored_within _ _ _ _ c.self.view_is c.requires, c.self.inside.stored.ok.0)

pub invariant_of-self-2 : goal.invariant_of-self-2
invariant_of-self-2 g c = added_seen _ _ _ _ _ c.in_ok-add.ensures.updates (stored_within _ _ _ _ c.self.view_is c.requires) c.self.invariant

pub returns-clause-ok : goal.returns-clause-ok
returns-clause-ok g c =
    added _ _ _ _ c.args.function c.args.env c.in_ok-add.ensures.updates (stored_within _ _ _ _ c.self.view_is c.requires)
    ∙ ap (λ u. set u c.args.statement (waiting c.args.function c.args.env)) c.self.view_is
