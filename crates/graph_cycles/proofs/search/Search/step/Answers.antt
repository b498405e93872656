use Rattle.std.proofs.Common.{sym, subst, arith}
use Rattle.std.proofs.lemmas.Result.{on_ok_weaker}
use Rattle.graph_cycles.specs.Kept.{Steps}
use Rattle.graph_cycles.specs.Searching.{state_of}
use Rattle.graph_cycles.proofs.Following.{next_target, follows}
use Rattle.graph_cycles.proofs.search.Search.step.Goals as goal

pub follow-requires-clause-target : goal.follow-requires-clause-target
follow-requires-clause-target c =
    let found = c.in-Some.ensures.lookup.3 in
    let next = next_target c.args.graph.now (state_of c.args.self.now) c.args.frame c.targets.result.now c.in-Some.field-0.now c.requires.closed c.requires.kept c.requires.top c.targets.ensures found.0 (found.1 0) in
    omega (arith, next.node, c.requires.kept.marks.size)

pub returns-in-Some : goal.returns-in-Some
returns-in-Some c =
    let s = state_of c.args.self.now in
    let found = c.in-Some.ensures.lookup.3 in
    let next = next_target c.args.graph.now s c.args.frame c.targets.result.now c.in-Some.field-0.now c.requires.closed c.requires.kept c.requires.top c.targets.ensures found.0 (found.1 0) in
    on_ok_weaker c.follow.result (λ is. subst (λ x. Steps c.args.graph.now s x) (sym is) (follows c.args.graph.now s c.args.frame c.in-Some.field-0.now next)) c.follow.ensures
