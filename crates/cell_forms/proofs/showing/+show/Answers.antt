use Rattle.std.proofs.Common.{◌==◌, true, false, Vec, Global, ◌≡◌, ◌-◌, ◌<◌, ◌≤◌, ◌+◌, drop, take, length, map, get_or, Some, None, refl, sym, ap, ◌∙◌, arith}
use Rattle.type_trees.specs.Ty.{size}
use Rattle.type_table.specs.Trees.{parts}
use Rattle.type_table.specs.View.{tree_of, trees_of, tree_at, trees_at, joined}
use Rattle.type_table.specs.declared.kind.TypeKind.TheVariants as kinds
use Rattle.value_trees.specs.Meant.{meant}
use Rattle.value_trees.specs.declared.value.Value.{Value}
use Rattle.cell_forms.specs.Showing.{enum_in, shown, shown_together, struct_shown, behind_shown}
use Rattle.cell_forms.proofs.ByType.{shown_of, types_from, no_types_from, variant_picked, no_variant, lower_parts, lower_part}
use Rattle.cell_forms.proofs.Shown.{members_more, members_none, members_end, members_left, pushed}
use Rattle.cell_forms.proofs.ShowSteps.{passes, behind_first, enum_empty, enum_of, nothing}
use Rattle.cell_forms.proofs.showing.+show.Goals as goal

pub members_in-value_in-requires : goal.members_in-value_in-requires
members_in-value_in-requires t c =
    let below : c.loop-id.id-index < length c.args.ids.now = c.loop-id-test.true in
    let low = lower_part c.args.t.now.rows c.args.ids.now c.loop-id.id-index record { 0 = 0 } below in
    (omega arith, c.requires c.loop-id.id-index record { 0 = 0 } below)

pub members_in-returns-in_err-member : goal.members_in-returns-in_err-member
members_in-returns-in_err-member t c =
    let below : c.loop-id.id-index < length c.args.ids.now = c.loop-id-test.true in
    let rows = c.args.t.now.rows in
    let ty = tree_at rows (get_or c.args.ids.now c.loop-id.id-index record { 0 = 0 }).0 in
    let others = joined (trees_at rows (drop (c.loop-id.id-index + 1) c.args.ids.now)) in
    let cells : c.parted.result.0.now ≡ take (size ty) c.loop-id.rest.now = c.parted.ensures.front ∙ ap (λ i. take i.size c.loop-id.rest.now) c.info.ensures in
    passes meant (λ (vs : Vec Value Global). map meant vs.items) c.in_err-member.field-0.0 c.from_residual-in_err-member.result (shown ty c.parted.result.0.now)
    (shown_together (joined (trees_of c.args.t.now c.args.ids.now)) c.args.cells.now) c.from_residual-in_err-member.ensures.1
    (λ none. sym c.loop-id.invariant
    ∙ members_none (map meant c.loop-id.members.items) (joined (trees_at rows (drop c.loop-id.id-index c.args.ids.now))) others ty c.loop-id.rest.now
    (types_from rows c.args.ids.now c.loop-id.id-index record { 0 = 0 } below) (sym (ap (shown ty) cells) ∙ none))
    c.in_err-member.ensures

pub members_in-loop-id-preserved : goal.members_in-loop-id-preserved
members_in-loop-id-preserved t c =
    let below : c.loop-id.id-index < length c.args.ids.now = c.loop-id-test.true in
    let rows = c.args.t.now.rows in
    let ty = tree_at rows (get_or c.args.ids.now c.loop-id.id-index record { 0 = 0 }).0 in
    let others = joined (trees_at rows (drop (c.loop-id.id-index + 1) c.args.ids.now)) in
    let front : c.parted.result.0.now ≡ take (size ty) c.loop-id.rest.now = c.parted.ensures.front ∙ ap (λ i. take i.size c.loop-id.rest.now) c.info.ensures in
    let behind : c.parted.result.1.now ≡ drop (size ty) c.loop-id.rest.now = c.parted.ensures.behind ∙ ap (λ i. drop i.size c.loop-id.rest.now) c.info.ensures in
    ap (λ cs. behind_shown (map meant c.push.new.self.items) (shown_together others cs)) behind
    ∙ members_more (map meant c.loop-id.members.items) (map meant c.push.new.self.items) (meant c.in_ok-member.member)
    (joined (trees_at rows (drop c.loop-id.id-index c.args.ids.now))) others ty c.loop-id.rest.now
    (types_from rows c.args.ids.now c.loop-id.id-index record { 0 = 0 } below) (sym (ap (shown ty) front) ∙ c.in_ok-member.ensures)
    (pushed c.loop-id.members.items c.push.new.self.items c.in_ok-member.member c.in_ok-push.ensures.items)
    ∙ c.loop-id.invariant

pub members_in-returns-then-is_empty : goal.members_in-returns-then-is_empty
members_in-returns-then-is_empty t c =
    let rows = c.args.t.now.rows in
    let past : length c.args.ids.now ≤ c.loop-id.id-index = omega arith in
    let none : (length c.loop-id.rest.now == 0) ≡ true = sym c.is_empty.ensures ∙ c.if-is_empty.true in
    sym c.loop-id.invariant
    ∙ members_end (map meant c.loop-id.members.items) (joined (trees_at rows (drop c.loop-id.id-index c.args.ids.now))) c.loop-id.rest.now
    (no_types_from rows c.args.ids.now c.loop-id.id-index past) none

pub members_in-returns-else-is_empty : goal.members_in-returns-else-is_empty
members_in-returns-else-is_empty t c =
    let rows = c.args.t.now.rows in
    let past : length c.args.ids.now ≤ c.loop-id.id-index = omega arith in
    let some : (length c.loop-id.rest.now == 0) ≡ false = sym c.is_empty.ensures ∙ c.if-is_empty.false in
    sym c.loop-id.invariant
    ∙ members_left (map meant c.loop-id.members.items) (joined (trees_at rows (drop c.loop-id.id-index c.args.ids.now))) c.loop-id.rest.now
    (no_types_from rows c.args.ids.now c.loop-id.id-index past) some

pub value_in-members_in-requires : goal.value_in-members_in-requires
value_in-members_in-requires t c =
    let low = lower_parts (trees_of c.args.t.now c.members.result.now) (tree_of c.args.t.now c.args.ty.0) c.members.ensures.trees in
    (omega arith, c.members.ensures.below)

pub value_in-returns-in_err-members_in-in-Struct : goal.value_in-returns-in_err-members_in-in-Struct
value_in-returns-in_err-members_in-in-Struct t c =
    let ty = tree_of c.args.t.now c.args.ty.0 in
    let tys = trees_of c.args.t.now c.members.result.now in
    passes (λ (vs : Vec Value Global). map meant vs.items) meant c.in_err-members_in-in-Struct.field-0.0 c.from_residual.result (shown_together (joined tys) c.args.cells.now)
    (shown ty c.args.cells.now) c.from_residual.ensures.1
    (λ none. sym (shown_of kinds.Struct tys ty c.args.cells.now c.in-Struct.ensures c.members.ensures.trees) ∙ ap struct_shown none)
    c.in_err-members_in-in-Struct.ensures

pub value_in-variant_in-requires : goal.value_in-variant_in-requires
value_in-variant_in-requires t c =
    let low = lower_parts (trees_of c.args.t.now c.members-in-Enum.result.now) (tree_of c.args.t.now c.args.ty.0) c.members-in-Enum.ensures.trees in
    (omega arith, (c.members-in-Enum.ensures.below, c.members-in-Enum.ensures.few))

pub value_in-returns-in-Number : goal.value_in-returns-in-Number
value_in-returns-in-Number t c =
    let ty = tree_of c.args.t.now c.args.ty.0 in
    rw (← shown_of (kinds.Number c.in-Number.num) (parts ty) ty c.args.cells.now c.in-Number.ensures refl) c.number_in.ensures

pub value_in-returns-in_ok-members_in-in-Struct : goal.value_in-returns-in_ok-members_in-in-Struct
value_in-returns-in_ok-members_in-in-Struct t c =
    let ty = tree_of c.args.t.now c.args.ty.0 in
    let tys = trees_of c.args.t.now c.members.result.now in
    sym (shown_of kinds.Struct tys ty c.args.cells.now c.in-Struct.ensures c.members.ensures.trees)
    ∙ ap struct_shown c.in_ok-members_in-in-Struct.ensures ∙ ap Some (sym c.from_members.ensures)

pub value_in-returns-in-Enum : goal.value_in-returns-in-Enum
value_in-returns-in-Enum t c =
    let ty = tree_of c.args.t.now c.args.ty.0 in
    rw (← shown_of kinds.Enum (trees_of c.args.t.now c.members-in-Enum.result.now) ty c.args.cells.now c.in-Enum.ensures c.members-in-Enum.ensures.trees) c.variant_in.ensures

pub value_in-returns-in_default : goal.value_in-returns-in_default
value_in-returns-in_default t c =
    let ty = tree_of c.args.t.now c.args.ty.0 in
    sym (shown_of c.kind.result (parts ty) ty c.args.cells.now c.kind.ensures refl)
    ∙ nothing c.kind.result (parts ty) c.args.cells.now c.in_default.not-Number c.in_default.not-Struct c.in_default.not-Enum

pub variant_in-returns-then-is_empty : goal.variant_in-returns-then-is_empty
variant_in-returns-then-is_empty t c =
    let none : (length c.args.cells.now == 0) ≡ true = sym c.is_empty.ensures ∙ c.if-is_empty.true in
    enum_empty (joined (trees_of c.args.t.now c.args.ids.now)) c.args.cells.now none

pub variant_in-returns-then-index-ids : goal.variant_in-returns-then-index-ids
variant_in-returns-then-index-ids t c =
    let rows = c.args.t.now.rows in
    let some : (length c.args.cells.now == 0) ≡ false = sym c.is_empty.ensures ∙ c.if-is_empty.false in
    enum_of (joined (trees_at rows c.args.ids.now)) c.args.cells.now 0 c.selector-index.result None some c.selector-index.ensures
    (no_variant rows c.args.ids.now c.selector-index.result (drop 1 c.args.cells.now) c.if-index-ids.true)

pub variant_in-value_in-requires : goal.variant_in-value_in-requires
variant_in-value_in-requires t c =
    let below : c.selector-index.result < length c.args.ids.now = omega arith in
    let low = lower_part c.args.t.now.rows c.args.ids.now c.selector-index.result record { 0 = 0 } below in
    (omega arith, c.requires.below c.selector-index.result record { 0 = 0 } below)

pub variant_in-returns-in_err-payload : goal.variant_in-returns-in_err-payload
variant_in-returns-in_err-payload t c =
    let rows = c.args.t.now.rows in
    let some : (length c.args.cells.now == 0) ≡ false = sym c.is_empty.ensures ∙ c.if-is_empty.false in
    let below : c.selector-index.result < length c.args.ids.now = omega arith in
    let ty = tree_at rows (get_or c.args.ids.now c.selector-index.result record { 0 = 0 }).0 in
    let behind = drop 1 c.args.cells.now in
    let cells : c.last.result.now ≡ drop (length behind - size ty) behind =
    c.last.ensures ∙ ap (λ l. drop (length l - c.info.result.size) l) (behind_first c.args.cells.now) ∙ ap (λ i. drop (length behind - i.size) behind) c.info.ensures in
    let picked = variant_picked rows c.args.ids.now c.selector-index.result record { 0 = 0 } behind below in
    passes meant meant c.in_err-payload.field-0.0 c.from_residual.result (shown ty c.last.result.now) (enum_in (joined (trees_at rows c.args.ids.now)) c.args.cells.now)
    c.from_residual.ensures.1
    (λ none. enum_of (joined (trees_at rows c.args.ids.now)) c.args.cells.now 0 c.selector-index.result None some c.selector-index.ensures
    (sym picked ∙ sym (ap (shown ty) cells) ∙ none))
    c.in_err-payload.ensures

pub variant_in-returns : goal.variant_in-returns
variant_in-returns t c =
    let rows = c.args.t.now.rows in
    let some : (length c.args.cells.now == 0) ≡ false = sym c.is_empty.ensures ∙ c.if-is_empty.false in
    let below : c.selector-index.result < length c.args.ids.now = omega arith in
    let ty = tree_at rows (get_or c.args.ids.now c.selector-index.result record { 0 = 0 }).0 in
    let behind = drop 1 c.args.cells.now in
    let cells : c.last.result.now ≡ drop (length behind - size ty) behind =
    c.last.ensures ∙ ap (λ l. drop (length l - c.info.result.size) l) (behind_first c.args.cells.now) ∙ ap (λ i. drop (length behind - i.size) behind) c.info.ensures in
    let picked = variant_picked rows c.args.ids.now c.selector-index.result record { 0 = 0 } behind below in
    enum_of (joined (trees_at rows c.args.ids.now)) c.args.cells.now 0 c.selector-index.result (Some (meant c.in_ok-payload.payload)) some c.selector-index.ensures
    (sym picked ∙ sym (ap (shown ty) cells) ∙ c.in_ok-payload.ensures)
    ∙ ap Some (sym c.in_ok-from_variant.ensures)
