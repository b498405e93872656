use Rattle.std.proofs.Common.{◌≡◌, ℕ, ◌<◌, ◌+◌, ◌-◌, List, length, get_or, sym, subst, ap, ◌∙◌, arith}
use Rattle.std.specs.List.{All}
use Rattle.type_table.specs.declared.type_id.TypeId.{TypeId}
use Rattle.libfunc_registry.specs.Wanted.{IsBelow}
use Rattle.ap_refs.specs.Moves.{behind}
use Rattle.ap_refs.proofs.Giving.{SoFar, not_empty, one_given, all_given}
use Rattle.ap_refs.proofs.Ready.{kinds_below}
use Rattle.ap_refs.proofs.passing.Passing.give_all.Goals as goal

pub part-requires-clause-below : goal.part-requires-clause-below
part-requires-clause-below c =
    let types = c.args.self.now.types.now in
    let sig = c.args.self.now.sig.now in
    subst (All (IsBelow types)) (sym (c.items.ensures ∙ c.index-kinds-k.is ∙ ap (λ l. get_or l c.loop-k.k c.index-kinds-k.result) c.items-kinds.ensures))
    (kinds_below types sig c.requires.step.signature c.loop-k.k c.index-kinds-k.result (omega (arith, c.loop-k-test.true, c.loop-k.auto.k-end, c.requires.counted)))

pub part-requires-2-clause-below : goal.part-requires-2-clause-below
part-requires-2-clause-below c =
    let types = c.args.self.now.types.now in
    let sig = c.args.self.now.sig.now in
    let last = length c.args.branches.now - 1 in
    let some = not_empty (length c.args.branches.now) (sym c.if-is_empty.ensures) in
    subst (All (IsBelow types)) (sym (c.items-2.ensures ∙ c.index-kinds-last.is ∙ ap (λ l. get_or l last c.index-kinds-last.result) c.items-kinds.ensures))
    (kinds_below types sig c.requires.step.signature last c.index-kinds-last.result (omega (arith, some, c.requires.counted)))

pub returns : goal.returns
returns c =
    let self = c.args.self.now in
    let bs = c.args.branches.now in
    let ts = self.sig.now.branches in
    let last : ℕ = length bs - 1 in
    let some = not_empty (length bs) (sym c.if-is_empty.ensures) in
    let b = c.index-branches-last.result in
    let kinds = c.index-kinds-last.result in
    let given = c.loop-k.given.items in
    let more = c.keep-2.new.list.items in
    let t = self.types.now in
    let libfunc = self.sig.now.libfunc in
    let at_last : c.loop-k.k ≡ last = omega (arith, c.loop-k-test.false, c.loop-k.auto.k-end) in
    let by_kinds = subst (λ (l : List (List TypeId)). SoFar t c.args.statement libfunc self.place.now self.args.now c.args.rest self.locals self.amount bs l c.loop-k.k given) c.items-kinds.ensures c.loop-k.invariant in
    let so_far = subst (λ (k : ℕ). SoFar t c.args.statement libfunc self.place.now self.args.now c.args.rest self.locals self.amount bs ts k given) at_last by_kinds in
    let whole =
    one_given t c.args.statement libfunc self.place.now self.args.now c.args.rest self.locals self.amount bs ts last b kinds given more c.in_ok-part-2.part
    (omega (arith, some)) c.requires.counted c.index-branches-last.is
    (c.index-kinds-last.is ∙ ap (λ l. get_or l last kinds) c.items-kinds.ensures) c.in_ok-keep-2.ensures c.in_ok-part-2.ensures.target
    (c.in_ok-part-2.ensures.place ∙ ap (λ (k : List TypeId). behind t libfunc self.place.now self.args.now c.args.rest self.locals self.amount last b.results k) c.items-2.ensures) so_far in
    all_given t c.args.statement libfunc self.place.now self.args.now c.args.rest self.locals self.amount bs ts (last + 1) more (omega (arith, some)) whole
