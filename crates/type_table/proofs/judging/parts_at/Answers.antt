use Rattle.std.proofs.Common.{◌∙◌, ap, sym, Some, get_or}
use Rattle.std.proofs.lemmas.Option.{slice_get-get_or}
use Rattle.type_table.proofs.JudgeSteps.{parts_more, parts_stop}
use Rattle.type_table.proofs.judging.parts_at.Goals as goal

pub returns-in-None : goal.returns-in-None
returns-in-None c =
    let ts = c.args.targets.now in
    let i = c.loop-t.t-index in
    sym (parts_stop c.args.known.now ts i (get_or ts i 0) (slice_get-get_or ts i 0 c.loop-t-test.true) (sym c.facts_at.ensures ∙ c.in-None.is))

pub loop-t-preserved : goal.loop-t-preserved
loop-t-preserved c =
    let ts = c.args.targets.now in
    let i = c.loop-t.t-index in
    parts_more c.args.known.now ts i (get_or ts i 0) c.in-Some.facts c.loop-t.parts.items (slice_get-get_or ts i 0 c.loop-t-test.true)
    (sym c.facts_at.ensures ∙ c.in-Some.is) c.loop-t.invariant
    ∙ ap Some (sym c.in_ok-push-in-Some.ensures.items)
