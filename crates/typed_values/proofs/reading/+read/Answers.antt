use Rattle.std.proofs.Common.{◌≡◌, ◌+◌, ◌<◌, ◌≤◌, ℕ, suc, length, drop, get_or, map, Bool, true, false, Option, Some, Result, Ok, Err, refl, sym, ap, ◌∙◌, rules, arith}
use Rattle.std.proofs.lemmas.List.{length-map}
use Rattle.text_reading.specs.Reading.{Answer.answers}
use Rattle.type_table.specs.Trees.{parts}
use Rattle.type_table.specs.View.{tree_of, trees_of, tree_at, trees_at, joined}
use Rattle.type_table.specs.declared.kind.TypeKind.TheVariants as kinds
use Rattle.type_trees.specs.Ty.{depth, greatest_depth}
use Rattle.value_trees.specs.Meant.{meant}
use Rattle.value_trees.specs.Val.{Plain}
use Rattle.value_trees.specs.declared.value.Value.{Value}
use Rattle.typed_values.specs.Inputs.{most_elements}
use Rattle.typed_values.specs.Kinds.{enum_at, array_of, array_form_of}
use Rattle.typed_values.specs.Reading.{array_at, whole_array_at, element_at, elements_at, member_at, value_at, members_at, variant_at}
use Rattle.typed_values.specs.declared.fault.ValueLimit.TheVariants as limits
use Rattle.typed_values.proofs.ByKind.{value_of, one_type, types_from, no_types_from, value_picked, lower_parts, lower_part, no_value}
use Rattle.typed_values.proofs.ValueSteps.{passes, behind_none, pushed, elements_stop, elements_end, elements_more, elements_full, members_stop, members_more, members_end, enum_stop, enum_end}
use Rattle.typed_values.proofs.reading.+read.Goals as goal

pub array-returns-in-Err-Limit-OutOfRange : goal.array-returns-in-Err-Limit-OutOfRange
unfolding array_of whole_array_at array_form_of
array-returns-in-Err-Limit-OutOfRange t c =
    let ty = tree_of c.args.types.now c.args.item.0 in
    let read = rw (c.in-Err-Limit-OutOfRange.field-0-is, c.in-Err-Limit-OutOfRange.field-0-0-is) at c.in-Err-Limit-OutOfRange.ensures in
    let is : array_at (value_at most_elements ty) (most_elements ty) c.args.rest.now.now ≡ answers (Err (Some limits.OutOfRange)) c.array_within.new.rest.now = read in
    rw is c.out_of_range.ensures

pub elements-loop-room-init : goal.elements-loop-room-init
elements-loop-room-init t c =
    let item = value_at most_elements (tree_of c.args.types.now c.args.item.0) in
    behind_none (map meant c.new-elements.result.items) (elements_at item c.args.start.now c.most_elements-room.result true c.args.rest.now.now) (ap (map meant) c.new-elements.ensures.items)
    ∙ ap (λ n. elements_at item c.args.start.now n true c.args.rest.now.now) c.most_elements-room.ensures

pub elements-returns-in_err-element : goal.elements-returns-in_err-element
elements-returns-in_err-element t c =
    let item = value_at most_elements (tree_of c.args.types.now c.args.item.0) in
    let some : 0 < c.loop-room.room = omega arith in
    passes (λ (p : Value × Bool). (meant p.0, p.1)) _ c.in_err-element.field-0.0 c.from_residual.result c.element.new.rest.now
    (element_at item c.loop-room.is_first c.loop-room.rest.now)
    (elements_at item c.args.start.now (most_elements (tree_of c.args.types.now c.args.item.0)) true c.args.rest.now.now) c.from_residual.ensures.1
    (λ why e.
    sym c.loop-room.invariant
    ∙ elements_stop item c.args.start.now (map meant c.loop-room.elements.items) c.loop-room.room c.loop-room.is_first c.loop-room.rest.now c.element.new.rest.now why some e)
    c.in_err-element.ensures

pub elements-returns-then-not-goes_on : goal.elements-returns-then-not-goes_on
elements-returns-then-not-goes_on t c =
    let item = value_at most_elements (tree_of c.args.types.now c.args.item.0) in
    let some : 0 < c.loop-room.room = omega arith in
    let ends : c.in_ok-element.goes_on ≡ false = search rules in
    sym c.loop-room.invariant
    ∙ elements_end item c.args.start.now (map meant c.loop-room.elements.items) c.loop-room.room c.loop-room.is_first c.in_ok-element.goes_on (meant c.in_ok-element.element)
    (map meant c.push_back.new.self.items) c.loop-room.rest.now c.element.new.rest.now some ends c.in_ok-element.ensures
    (pushed c.loop-room.elements.items c.push_back.new.self.items c.in_ok-element.element c.in_ok-push_back.ensures.items)

pub elements-loop-room-preserved : goal.elements-loop-room-preserved
elements-loop-room-preserved t c =
    let item = value_at most_elements (tree_of c.args.types.now c.args.item.0) in
    let some : 0 < c.loop-room.room = omega arith in
    let more : c.in_ok-element.goes_on ≡ true = search rules in
    elements_more item c.args.start.now (map meant c.loop-room.elements.items) c.loop-room.room c.loop-room.is_first c.in_ok-element.goes_on (meant c.in_ok-element.element)
    (map meant c.push_back.new.self.items) c.loop-room.rest.now c.element.new.rest.now some more c.in_ok-element.ensures
    (pushed c.loop-room.elements.items c.push_back.new.self.items c.in_ok-element.element c.in_ok-push_back.ensures.items)
    ∙ c.loop-room.invariant

pub elements-returns : goal.elements-returns
elements-returns t c =
    let item = value_at most_elements (tree_of c.args.types.now c.args.item.0) in
    let none : c.loop-room.room ≡ 0 = omega arith in
    sym c.loop-room.invariant ∙ elements_full item c.args.start.now (map meant c.loop-room.elements.items) c.loop-room.room c.loop-room.is_first c.loop-room.rest.now none

pub members-loop-id-init : goal.members-loop-id-init
members-loop-id-init t c =
    behind_none (map meant c.in_ok-members.members.items) (members_at most_elements true (joined (trees_of c.args.types.now c.args.ids.now)) c.args.rest.now.now)
    (ap (map meant) c.in_ok-members.ensures.items)

pub members-member-requires : goal.members-member-requires
members-member-requires t c =
    let below : c.loop-id.id-index < length c.args.ids.now = omega arith in
    let low = lower_part c.args.types.now.rows c.args.ids.now c.loop-id.id-index record { 0 = 0 } below in
    (omega arith, c.requires c.loop-id.id-index record { 0 = 0 } below)

pub members-returns-in_err-member : goal.members-returns-in_err-member
members-returns-in_err-member t c =
    let below : c.loop-id.id-index < length c.args.ids.now = omega arith in
    let rows = c.args.types.now.rows in
    let ty = tree_at rows (get_or c.args.ids.now c.loop-id.id-index record { 0 = 0 }).0 in
    let others = joined (trees_at rows (drop (c.loop-id.id-index + 1) c.args.ids.now)) in
    passes meant _ c.in_err-member.field-0.0 c.from_residual-in_err-member.result c.member.new.rest.now
    (member_at c.loop-id.is_first (value_at most_elements ty) c.loop-id.rest.now)
    (members_at most_elements true (joined (trees_of c.args.types.now c.args.ids.now)) c.args.rest.now.now) c.from_residual-in_err-member.ensures.1
    (λ why e.
    sym c.loop-id.invariant
    ∙ members_stop (map meant c.loop-id.members.items) (joined (trees_at rows (drop c.loop-id.id-index c.args.ids.now))) others ty
    (types_from rows c.args.ids.now c.loop-id.id-index record { 0 = 0 } below) c.loop-id.is_first c.loop-id.rest.now c.member.new.rest.now why e)
    c.in_err-member.ensures

pub members-loop-id-preserved : goal.members-loop-id-preserved
members-loop-id-preserved t c =
    let below : c.loop-id.id-index < length c.args.ids.now = omega arith in
    let rows = c.args.types.now.rows in
    let ty = tree_at rows (get_or c.args.ids.now c.loop-id.id-index record { 0 = 0 }).0 in
    let others = joined (trees_at rows (drop (c.loop-id.id-index + 1) c.args.ids.now)) in
    members_more (map meant c.loop-id.members.items) (joined (trees_at rows (drop c.loop-id.id-index c.args.ids.now))) others ty
    (types_from rows c.args.ids.now c.loop-id.id-index record { 0 = 0 } below) c.loop-id.is_first (meant c.in_ok-member.member) (map meant c.push.new.self.items)
    c.loop-id.rest.now c.member.new.rest.now c.in_ok-member.ensures
    (pushed c.loop-id.members.items c.push.new.self.items c.in_ok-member.member c.in_ok-push.ensures.items)
    ∙ c.loop-id.invariant

pub members-returns : goal.members-returns
members-returns t c =
    let rows = c.args.types.now.rows in
    let none : length c.args.ids.now ≤ c.loop-id.id-index = omega arith in
    sym c.loop-id.invariant
    ∙ members_end (map meant c.loop-id.members.items) c.loop-id.is_first (joined (trees_at rows (drop c.loop-id.id-index c.args.ids.now))) c.loop-id.rest.now
    (no_types_from rows c.args.ids.now c.loop-id.id-index none)

pub value-structure-requires : goal.value-structure-requires
value-structure-requires t c =
    let low = lower_parts (trees_of c.args.types.now c.members.result.now) (tree_of c.args.types.now c.args.id.0) c.members.ensures.trees in
    (omega arith, c.members.ensures.below)

pub value-variant-requires : goal.value-variant-requires
value-variant-requires t c =
    let low = lower_parts (trees_of c.args.types.now c.members-in-Enum.result.now) (tree_of c.args.types.now c.args.id.0) c.members-in-Enum.ensures.trees in
    (omega arith, (c.members-in-Enum.ensures.below, c.members-in-Enum.ensures.few))

pub value-returns-in-Number : goal.value-returns-in-Number
value-returns-in-Number t c =
    let ty = tree_of c.args.types.now c.args.id.0 in
    rw (← value_of (kinds.Number c.in-Number.num) (parts ty) ty c.in-Number.ensures refl) c.number_of.ensures

pub value-returns-in-Struct : goal.value-returns-in-Struct
value-returns-in-Struct t c =
    let ty = tree_of c.args.types.now c.args.id.0 in
    rw (← value_of kinds.Struct (trees_of c.args.types.now c.members.result.now) ty c.in-Struct.ensures c.members.ensures.trees) c.structure.ensures

pub value-returns-in-Enum : goal.value-returns-in-Enum
value-returns-in-Enum t c =
    let ty = tree_of c.args.types.now c.args.id.0 in
    let tys = trees_of c.args.types.now c.members-in-Enum.result.now in
    let many : length tys ≡ length c.members-in-Enum.result.now = length-map c.members-in-Enum.result.now _ in
    rw (← value_of kinds.Enum tys ty c.in-Enum.ensures c.members-in-Enum.ensures.trees, many) c.variant.ensures

pub value-returns-in-len1 : goal.value-returns-in-len1
value-returns-in-len1 t c =
    let ty = tree_of c.args.types.now c.args.id.0 in
    let ids = c.members-in-Array.result.now in
    let one = one_type c.args.types.now.rows ids record { 0 = 0 } c.in-len1.len_at_least c.in-len1.len_below in
    rw (← value_of kinds.Array (trees_of c.args.types.now ids) ty c.in-Array.ensures c.members-in-Array.ensures.trees, one) c.array.ensures

pub value-returns-in_default : goal.value-returns-in_default
value-returns-in_default t c =
    let ty = tree_of c.args.types.now c.args.id.0 in
    rw (← value_of c.kind.result (parts ty) ty c.kind.ensures refl)
    (no_value c.kind.result (parts ty) c.args.rest.now.now c.in_default.not-Number c.in_default.not-Array c.in_default.not-Struct c.in_default.not-Enum)

pub variant-value-requires : goal.variant-value-requires
variant-value-requires t c =
    let below : c.in_ok-index.index < length c.args.ids.now = c.in_ok-index.ensures.within in
    let low = lower_part c.args.types.now.rows c.args.ids.now c.in_ok-index.index record { 0 = 0 } below in
    (omega arith, c.requires.below c.in_ok-index.index record { 0 = 0 } below)

pub variant-returns-in_err-payload : goal.variant-returns-in_err-payload
variant-returns-in_err-payload t c =
    let rows = c.args.types.now.rows in
    let tys = joined (trees_at rows c.args.ids.now) in
    let value = value_at most_elements (tree_at rows (get_or c.args.ids.now c.in_ok-index.index record { 0 = 0 }).0) in
    passes meant meant c.in_err-payload.field-0.0 c.from_residual-in_err-payload.result c.value.new.rest.now (value c.byte.new.rest.now)
    (enum_at (length c.args.ids.now) tys c.args.rest.now.now) c.from_residual-in_err-payload.ensures.1
    (λ why e.
    enum_stop (length c.args.ids.now) tys c.in_ok-index.index c.args.rest.now.now c.number.new.rest.now c.byte.new.rest.now c.in_ok-index.ensures.read c.in_ok-byte.ensures
    value c.value.new.rest.now why (value_picked rows c.args.ids.now c.in_ok-index.index record { 0 = 0 } c.in_ok-index.ensures.within) e)
    c.in_err-payload.ensures

pub variant-returns : goal.variant-returns
variant-returns t c =
    let rows = c.args.types.now.rows in
    let tys = joined (trees_at rows c.args.ids.now) in
    let value = value_at most_elements (tree_at rows (get_or c.args.ids.now c.in_ok-index.index record { 0 = 0 }).0) in
    enum_end (length c.args.ids.now) tys c.in_ok-index.index c.args.rest.now.now c.number.new.rest.now c.byte.new.rest.now c.in_ok-index.ensures.read c.in_ok-byte.ensures
    value (meant c.in_ok-payload.payload) (meant c.in_ok-from_variant.field-0) c.value.new.rest.now
    (value_picked rows c.args.ids.now c.in_ok-index.index record { 0 = 0 } c.in_ok-index.ensures.within) c.in_ok-payload.ensures c.in_ok-from_variant.ensures
