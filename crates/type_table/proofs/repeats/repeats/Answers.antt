use Rattle.std.proofs.Common.{◌≡◌, ◌+◌, ◌∙◌, ◌||◌, ◌++◌, ◌∷◌, [], false, ap, sym, refl, length, get_or}
use Rattle.std.proofs.lemmas.Option.{slice_get_read}
use Rattle.type_table.specs.Repeats.{again_of, after}
use Rattle.type_table.proofs.RepeatSteps.{AreTold, told_more, told_as, told_all}
use Rattle.type_table.proofs.repeats.repeats.Goals as goal
use Rattle.type_table.proofs.repeats.repeats.Goals.{then-ids_repeated-i, else-ids_repeated-i}

pub loop-i-preserved : goal.loop-i-preserved
loop-i-preserved c =
    let ds = c.args.declarations.now in
    let i = c.loop-i.i in
    let d = c.index-declarations-i.result in
    let kind = c.kind_at-kind.result in
    let ids = c.args.ids_repeated.now in
    let graph = c.args.graph.now in
    let here = slice_get_read ds (length ds) i d refl c.loop-i-test.true c.index-declarations-i.is in
    let kind_here = c.kind_at-kind.ensures in
    let told : c.in_ok-again.again ≡ again_of c.loop-i.set kind d.args (get_or graph i []) =
    c.in_ok-again.ensures.told ∙ ap (λ args. again_of c.loop-i.set kind args c.targets.result.now) c.items.ensures ∙ ap (again_of c.loop-i.set kind d.args) c.targets.ensures in
    let set_is : c.is_again.new.set ≡ after c.loop-i.set kind d.args (get_or graph i []) =
    c.in_ok-again.ensures.after ∙ ap (λ args. after c.loop-i.set kind args c.targets.result.now) c.items.ensures ∙ ap (after c.loop-i.set kind d.args) c.targets.ensures in
    let more = told_more ds c.args.kinds.now graph ids i c.loop-i.set c.loop-i.flags.items c.loop-i.invariant d kind here kind_here c.in_ok-again.again told (get_or ids i false) refl in
    let end : c.if-ids_repeated-i.push ≡ (get_or ids i false || c.in_ok-again.again) → AreTold ds c.args.kinds.now graph ids (i + 1) c.is_again.new.set c.push.new.self.items =
    λ pushed. told_as ds c.args.kinds.now graph ids (i + 1) more set_is (c.in_ok-push.ensures.items ∙ ap (λ b. c.loop-i.flags.items ++ b ∷ []) pushed) in
    elim c.if-ids_repeated-i.branch [
      | then-ids_repeated-i w ↦ end (w.push-is ∙ w.if-ids_repeated-i.true ∙ sym (ap (λ b. b || c.in_ok-again.again) w.if-ids_repeated-i.true))
      | else-ids_repeated-i w ↦ end (w.push-is ∙ sym (ap (λ b. b || c.in_ok-again.again) w.if-ids_repeated-i.false))
    ]

pub returns : goal.returns
returns c = told_all c.args.declarations.now c.args.kinds.now c.args.graph.now c.args.ids_repeated.now c.loop-i.i c.loop-i.set c.loop-i.flags.items c.loop-i.invariant c.loop-i.auto.i-end c.loop-i-test.false
