use Rattle.std.proofs.Common.{◌≡◌, ◌++◌, ◌<◌, ◌-◌, ◌+◌, ◌==◌, false, OnOk, length, map, get_or, drop, replicate, sym, ap, ◌∙◌, refl, subst, arith}
use Rattle.type_trees.specs.Ty.{size}
use Rattle.type_table.specs.View.{tree_of, trees_of, tree_at}
use Rattle.value_trees.specs.Meant.{meant}
use Rattle.value_trees.specs.Val.{vals_of}
use Rattle.cell_forms.specs.Laying.{laid, laid_each}
use Rattle.cell_forms.proofs.LaidSteps.{laid_alone, laid_enum, none_left, one_laid, all_behind, all_laid_by}
use Rattle.cell_forms.proofs.laying.+lay.Goals as goal

pub push_each-returns-then-is_empty : goal.push_each-returns-then-is_empty
push_each-returns-then-is_empty t c =
    sym (none_left c.args.t.now.rows c.loop-value.rest.now (vals_of (map meant (drop c.loop-value.value-index c.args.values.now))) c.loop-value.words.items (sym c.is_empty.ensures ∙ c.if-is_empty.true))
    ∙ c.loop-value.invariant.0

pub push_each-loop-value-preserved : goal.push_each-loop-value-preserved
push_each-loop-value-preserved t c =
    let some : (length c.loop-value.rest.now == 0) ≡ false = sym c.is_empty.ensures ∙ c.if-is_empty.false in (
      one_laid c.args.t.now.rows c.loop-value.rest.now c.behind_first-rest.result.now record { 0 = 0 } c.args.values.now c.loop-value.value-index c.value-item.result c.loop-value.words.items c.push_value.new.words.items
          (c.args.words.now.items ++ laid_each (vals_of (map meant c.args.values.now)) (trees_of c.args.t.now c.args.ids.now)) some (omega arith) c.behind_first-rest.ensures c.loop-value.invariant.0
          (c.in_ok-push_value.ensures ∙ ap (λ v. c.loop-value.words.items ++ laid (meant v) (tree_of c.args.t.now (get_or c.loop-value.rest.now 0 record { 0 = 0 }).0)) c.value-item.is),
      all_behind (λ a. a.0 < length c.args.t.now.rows) c.loop-value.rest.now c.behind_first-rest.result.now some c.behind_first-rest.ensures c.loop-value.invariant.1,
    )

pub push_each-returns : goal.push_each-returns
push_each-returns t c =
    sym (all_laid_by (trees_of c.args.t.now c.loop-value.rest.now) c.args.values.now c.loop-value.value-index c.loop-value.words.items (omega arith)) ∙ c.loop-value.invariant.0

pub push_variant-returns-then-index-variants : goal.push_variant-returns-then-index-variants
push_variant-returns-then-index-variants t c =
    laid_alone c.args.t.now.rows c.members-variants.result.now (tree_of c.args.t.now c.args.ty.0) c.args.index c.from.result (meant c.args.payload.now) c.args.words.now.items c.push_word.new.words.items
    c.members-variants.ensures.trees c.if-index-variants.true c.from.ensures c.in_ok-push_word.ensures

pub push_variant-returns : goal.push_variant-returns
push_variant-returns t c =
    let rows = c.args.t.now.rows in
    let ty = tree_of c.args.t.now c.args.ty.0 in
    let variant = tree_at rows (get_or c.members-variants.result.now c.args.index record { 0 = 0 }).0 in
    let below : c.args.index < length c.members-variants.result.now = omega arith in
    let count : c.saturating_sub-padding.result ≡ size ty - (1 + size variant) =
    c.saturating_sub-padding.ensures ∙ ap (λ i. i.size - (1 + c.info.result.size)) c.info-2.ensures ∙ ap (λ i. size ty - (1 + i.size)) c.info.ensures in
    subst (λ l. OnOk c.push_payload.result (c.push_payload.new.words.items ≡ l))
    (laid_enum rows c.members-variants.result.now ty c.args.index c.from.result record { 0 = 0 } (meant c.args.payload.now) c.args.words.now.items c.push_word.new.words.items
    (c.push_word.new.words.items ++ replicate c.saturating_sub-padding.result 0) c.saturating_sub-padding.result c.members-variants.ensures.trees below c.from.ensures c.in_ok-push_word.ensures count refl)
    c.push_payload.ensures
