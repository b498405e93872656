use Rattle.std.proofs.Common.{◌≡◌, ◌≢◌, ◌+◌, ◌<◌, ◌≤◌, ℕ, length, drop, get_or, map, refl, sym, ap, ◌∙◌, rules, arith}
use Rattle.std.proofs.lemmas.Bool.{eqb-true, eqb-false}
use Rattle.type_table.specs.View.{tree_of, trees_of, tree_at, trees_at}
use Rattle.value_trees.specs.Meant.{meant}
use Rattle.typed_values.specs.Inputs.{most_elements}
use Rattle.typed_values.specs.Reading.{line_at, lines_at}
use Rattle.typed_values.proofs.ByKind.{list_from, empty_from}
use Rattle.typed_values.proofs.ValueSteps.{passes, pushed, lines_none, lines_stop, lines_more, lines_end, lines_left}
use Rattle.typed_values.proofs.reading.lines.Goals as goal

pub loop-id-init : goal.loop-id-init
loop-id-init c =
    lines_none (map meant c.in_ok-values.values.items) (lines_at most_elements (trees_of c.args.types.now c.args.ids.now) c.args.rest.now.now) (ap (map meant) c.in_ok-values.ensures.items)

pub returns-in_err-value : goal.returns-in_err-value
returns-in_err-value c =
    let below : c.loop-id.id-index < length c.args.ids.now = omega arith in
    let rows = c.args.types.now.rows in
    let ty = tree_at rows (get_or c.args.ids.now c.loop-id.id-index record { 0 = 0 }).0 in
    let others = trees_at rows (drop (c.loop-id.id-index + 1) c.args.ids.now) in
    passes meant _ c.in_err-value.field-0.0 c.from_residual-in_err-value.result c.line.new.rest.now (line_at most_elements ty c.loop-id.rest.now)
    (lines_at most_elements (trees_of c.args.types.now c.args.ids.now) c.args.rest.now.now) c.from_residual-in_err-value.ensures.1
    (λ why e.
    sym c.loop-id.invariant
    ∙ lines_stop (map meant c.loop-id.values.items) (trees_at rows (drop c.loop-id.id-index c.args.ids.now)) others ty
    (list_from rows c.args.ids.now c.loop-id.id-index record { 0 = 0 } below) c.loop-id.rest.now c.line.new.rest.now why e)
    c.in_err-value.ensures

pub loop-id-preserved : goal.loop-id-preserved
loop-id-preserved c =
    let below : c.loop-id.id-index < length c.args.ids.now = omega arith in
    let rows = c.args.types.now.rows in
    let ty = tree_at rows (get_or c.args.ids.now c.loop-id.id-index record { 0 = 0 }).0 in
    let others = trees_at rows (drop (c.loop-id.id-index + 1) c.args.ids.now) in
    lines_more (map meant c.loop-id.values.items) (trees_at rows (drop c.loop-id.id-index c.args.ids.now)) others ty
    (list_from rows c.args.ids.now c.loop-id.id-index record { 0 = 0 } below) (meant c.in_ok-value.value) (map meant c.push.new.self.items) c.loop-id.rest.now c.line.new.rest.now
    c.in_ok-value.ensures (pushed c.loop-id.values.items c.push.new.self.items c.in_ok-value.value c.in_ok-push.ensures.items)
    ∙ c.loop-id.invariant

pub returns-then-is_empty : goal.returns-then-is_empty
returns-then-is_empty c =
    let none : length c.loop-id.rest.now ≡ 0 = eqb-true _ _ (sym c.if-is_empty.ensures) in
    let past : length c.args.ids.now ≤ c.loop-id.id-index = omega arith in
    sym c.loop-id.invariant
    ∙ lines_end (map meant c.loop-id.values.items) (trees_at c.args.types.now.rows (drop c.loop-id.id-index c.args.ids.now)) c.loop-id.rest.now
    (empty_from c.args.types.now.rows c.args.ids.now c.loop-id.id-index past) none

pub returns-else-is_empty : goal.returns-else-is_empty
returns-else-is_empty c =
    let some : length c.loop-id.rest.now ≢ 0 = eqb-false _ _ (sym c.if-is_empty.ensures) in
    let past : length c.args.ids.now ≤ c.loop-id.id-index = omega arith in
    sym c.loop-id.invariant
    ∙ lines_left (map meant c.loop-id.values.items) (trees_at c.args.types.now.rows (drop c.loop-id.id-index c.args.ids.now)) c.loop-id.rest.now
    (empty_from c.args.types.now.rows c.args.ids.now c.loop-id.id-index past) (omega arith)
