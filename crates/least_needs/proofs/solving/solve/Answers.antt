use Rattle.std.proofs.Common.{ℕ, ◌≤◌, List, None, Some, length, get_or, sym, subst}
use Rattle.std.specs.Prelude.{IsTrue, false}
use Rattle.std.proofs.Common.{Bool}
use Rattle.graph_cycles.specs.Cycles.{TellsCycles, TargetsFirst}
use Rattle.least_needs.specs.First.{IsFirst}
use Rattle.least_needs.specs.Terms.{graph_of}
use Rattle.least_needs.specs.Needs.{limit}
use Rattle.least_needs.proofs.Answering.{least_start, none_cyclic, too_large, all_small}
use Rattle.least_needs.proofs.solving.solve.Goals as goal

pub least_cycle-requires-clause-start : goal.least_cycle-requires-clause-start
least_cycle-requires-clause-start c =
    least_start c.in_ok-graph.graph c.in_ok-found.found.cyclic c.in-Some.start c.in_ok-found.ensures.cyclic
    (subst (λ (flags : List Bool). IsFirst (λ k. IsTrue (get_or flags k false)) (length flags) (Some c.in-Some.start)) c.cyclic.ensures c.in-Some.ensures)

pub cut_needs-requires-clause-targets_first : goal.cut_needs-requires-clause-targets_first
cut_needs-requires-clause-targets_first c =
    subst (λ order. TargetsFirst (graph_of c.args.terms.now) order) (sym c.order.ensures) (subst (λ g. TargetsFirst g c.in_ok-found.found.order) c.in_ok-graph.ensures c.in_ok-found.ensures.targets_first)

pub cut_needs-requires-clause-acyclic : goal.cut_needs-requires-clause-acyclic
cut_needs-requires-clause-acyclic c =
    let tells = subst (λ g. TellsCycles g c.in_ok-found.found.cyclic) c.in_ok-graph.ensures c.in_ok-found.ensures.cyclic in
    none_cyclic (graph_of c.args.terms.now) c.in_ok-found.found.cyclic tells (subst (λ (flags : List Bool). IsFirst (λ k. IsTrue (get_or flags k false)) (length flags) None) c.cyclic.ensures c.in_default.ensures)

pub returns-in-Some-first_large-clause-err : goal.returns-in-Some-first_large-clause-err
returns-in-Some-first_large-clause-err c =
    let tells = subst (λ g. TellsCycles g c.in_ok-found.found.cyclic) c.in_ok-graph.ensures c.in_ok-found.ensures.cyclic in
    let acyclic = none_cyclic (graph_of c.args.terms.now) c.in_ok-found.found.cyclic tells (subst (λ (flags : List Bool). IsFirst (λ k. IsTrue (get_or flags k false)) (length flags) None) c.cyclic.ensures c.in_default.ensures) in
    let first = subst (λ (needs : List ℕ). IsFirst (λ k. limit ≤ get_or needs k 0) (length needs) (Some c.in-Some-first_large.statement)) c.deref.ensures.value c.in-Some-first_large.ensures in
    too_large c.args.terms.now c.in_ok-needs.needs.items c.in-Some-first_large.statement c.requires acyclic c.in_ok-needs.ensures.size c.in_ok-needs.ensures.needs first

pub returns-clause-ok : goal.returns-clause-ok
returns-clause-ok c =
    let tells = subst (λ g. TellsCycles g c.in_ok-found.found.cyclic) c.in_ok-graph.ensures c.in_ok-found.ensures.cyclic in
    let acyclic = none_cyclic (graph_of c.args.terms.now) c.in_ok-found.found.cyclic tells (subst (λ (flags : List Bool). IsFirst (λ k. IsTrue (get_or flags k false)) (length flags) None) c.cyclic.ensures c.in_default.ensures) in
    let none = subst (λ (needs : List ℕ). IsFirst (λ k. limit ≤ get_or needs k 0) (length needs) None) c.deref.ensures.value c.in-None.ensures in
    all_small c.args.terms.now c.in_ok-needs.needs.items c.requires acyclic c.in_ok-needs.ensures.size c.in_ok-needs.ensures.needs none
