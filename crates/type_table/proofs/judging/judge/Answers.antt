use Rattle.std.proofs.Common.{◌≡◌, ◌∙◌, ap, sym, subst, refl, length, Some, Err, false, get_or, slice_get, []}
use Rattle.std.proofs.lemmas.Option.{slice_get_read, get_or_from_slice_get}
use Rattle.sierra_types.specs.declared.program.TypeDecl.{TypeDecl}
use Rattle.type_table.specs.declared.outcome.Outcome.{Outcome}
use Rattle.type_table.specs.Outcomes.{found_of, parts_at}
use Rattle.type_table.specs.Found.{IsFoundOf}
use Rattle.type_table.proofs.Plain.{some_is}
use Rattle.type_table.proofs.JudgeSteps.{cyclic_right, judge_right, if_ok}
use Rattle.type_table.proofs.judging.judge.Goals as goal

pub returns-in-Err : goal.returns-in-Err
returns-in-Err c d here =
    c.requires.resolved.kinds c.args.i d (Err c.in-Err.rule) here
    (ap (λ l. slice_get l c.args.i) (sym c.deref.ensures.value) ∙ c.kind_at.ensures ∙ ap Some c.in-Err.is)

pub returns-then-is_cyclic : goal.returns-then-is_cyclic
returns-then-is_cyclic c d here =
    cyclic_right c.args.declarations.now c.args.resolved.now c.requires.resolved c.args.known.now c.args.i d here c.in-Ok.kind
    (ap (λ l. slice_get l c.args.i) (sym c.deref.ensures.value) ∙ c.kind_at.ensures ∙ ap Some c.in-Ok.is)
    (sym c.is_cyclic.ensures ∙ c.if-is_cyclic.true)

pub returns : goal.returns
returns c =
    let ds = c.args.declarations.now in
    let i = c.args.i in
    let known = c.args.known.now in
    let flags = c.args.resolved.now.repeated.items in
    let P : Outcome → Type 0 = λ outcome. outcome ≡ found_of c.index-declarations-i.result c.in-Ok.kind (parts_at known c.targets-targets.result.now) c.index.result.now in
    let Q : Outcome → Type 0 = λ outcome. (d : TypeDecl) → slice_get ds i ≡ Some d → IsFoundOf ds known i d outcome in
    if_ok c.found_at.result P Q c.found_at.ensures (λ outcome is d here.
    let decl : c.index-declarations-i.result ≡ d = some_is _ d (sym (slice_get_read ds (length ds) i c.index-declarations-i.result refl c.requires.below c.index-declarations-i.is) ∙ here) in
    let flag : c.index.result.now ≡ get_or flags i false =
    sym (get_or_from_slice_get flags i c.index.result.now false (slice_get_read flags (length ds) i c.index.result.now (sym c.requires.resolved.each_repeated) c.requires.below c.index.ensures)) in
    let right = judge_right ds c.args.resolved.now c.requires.resolved known i d here c.in-Ok.kind
    (ap (λ l. slice_get l i) (sym c.deref.ensures.value) ∙ c.kind_at.ensures ∙ ap Some c.in-Ok.is)
    (sym c.is_cyclic.ensures ∙ c.if-is_cyclic.false) (c.requires.known d here) in
    let same = is ∙ ap (λ x. found_of x c.in-Ok.kind (parts_at known c.targets-targets.result.now) c.index.result.now) decl
    ∙ ap (λ l. found_of d c.in-Ok.kind (parts_at known l) c.index.result.now) c.targets-targets.ensures
    ∙ ap (λ b. found_of d c.in-Ok.kind (parts_at known (get_or c.args.resolved.now.graph i [])) b) flag in
    subst (IsFoundOf ds known i d) (sym same) right)
