use Rattle.std.proofs.Common.{◌≡◌, ◌+◌, ◌<◌, ◌≤◌, ℕ, suc, length, drop, get_or, Bool, true, false, refl, sym, ap, ◌∙◌, rules, arith}
use Rattle.std.proofs.lemmas.List.{length-map}
use Rattle.std.proofs.lemmas.Result.{err_from_is_err_and}
use Rattle.text_reading.proofs.Stops.{gives_stop}
use Rattle.type_table.specs.Trees.{parts}
use Rattle.type_table.specs.View.{tree_of, trees_of, tree_at, trees_at, joined}
use Rattle.type_table.specs.declared.kind.TypeKind.TheVariants as kinds
use Rattle.type_trees.specs.Ty.{depth, greatest_depth}
use Rattle.typed_values.specs.Inputs.{most_elements}
use Rattle.typed_values.specs.Kinds.{enum_form_at}
use Rattle.typed_values.specs.Skimming.{skim_at, skim_element, skim_elements, skim_member, skim_members}
use Rattle.typed_values.proofs.ByKind.{form_of, one_type, types_from, no_types_from, form_picked, lower_parts, lower_part, no_form}
use Rattle.typed_values.proofs.FormSteps.{elements_stop, elements_end, elements_more, elements_full, members_stop, members_more, members_end, enum_read}
use Rattle.typed_values.proofs.skimming.+skim.Goals as goal

pub skim-skim_struct-requires : goal.skim-skim_struct-requires
skim-skim_struct-requires t c =
    let low = lower_parts (trees_of c.args.types.now c.members.result.now) (tree_of c.args.types.now c.args.id.0) c.members.ensures.trees in
    (omega arith, c.members.ensures.below)

pub skim-skim_variant-requires : goal.skim-skim_variant-requires
skim-skim_variant-requires t c =
    let low = lower_parts (trees_of c.args.types.now c.members-in-Enum.result.now) (tree_of c.args.types.now c.args.id.0) c.members-in-Enum.ensures.trees in
    (omega arith, c.members-in-Enum.ensures.below)

pub skim-returns-in-Number : goal.skim-returns-in-Number
skim-returns-in-Number t c =
    let ty = tree_of c.args.types.now c.args.id.0 in
    rw (← form_of (kinds.Number c.in-Number.field-0) (parts ty) ty c.in-Number.ensures refl) c.any_number.ensures

pub skim-returns-in-Struct : goal.skim-returns-in-Struct
skim-returns-in-Struct t c =
    let ty = tree_of c.args.types.now c.args.id.0 in
    rw (← form_of kinds.Struct (trees_of c.args.types.now c.members.result.now) ty c.in-Struct.ensures c.members.ensures.trees) c.skim_struct.ensures

pub skim-returns-in-Enum : goal.skim-returns-in-Enum
skim-returns-in-Enum t c =
    let ty = tree_of c.args.types.now c.args.id.0 in
    let tys = trees_of c.args.types.now c.members-in-Enum.result.now in
    let many : length tys ≡ length c.members-in-Enum.result.now = length-map c.members-in-Enum.result.now _ in
    rw (← form_of kinds.Enum tys ty c.in-Enum.ensures c.members-in-Enum.ensures.trees, many) c.skim_variant.ensures

pub skim-returns-in-len1 : goal.skim-returns-in-len1
skim-returns-in-len1 t c =
    let ty = tree_of c.args.types.now c.args.id.0 in
    let ids = c.members-in-Array.result.now in
    let one = one_type c.args.types.now.rows ids record { 0 = 0 } c.in-len1.len_at_least c.in-len1.len_below in
    rw (← form_of kinds.Array (trees_of c.args.types.now ids) ty c.in-Array.ensures c.members-in-Array.ensures.trees, one) c.skim_array.ensures

pub skim-returns-in_default : goal.skim-returns-in_default
skim-returns-in_default t c =
    let ty = tree_of c.args.types.now c.args.id.0 in
    rw (← form_of c.kind.result (parts ty) ty c.kind.ensures refl)
    (no_form c.kind.result (parts ty) c.args.rest.now.now c.in_default.not-Number c.in_default.not-Array c.in_default.not-Struct c.in_default.not-Enum)

pub skim_elements-returns-in_err-goes_on : goal.skim_elements-returns-in_err-goes_on
skim_elements-returns-in_err-goes_on t c =
    let p = err_from_is_err_and c.from_residual.result c.from_residual.ensures.1 in
    let item = skim_at most_elements (tree_of c.args.types.now c.args.item.0) in
    let some : 0 < c.loop-room.room = omega arith in
    rw (p.1, p.2)
    (gives_stop {X = Bool} {Y = Unit {0}} (λ g. g) (λ u. tt) c.in_err-goes_on.field-0.0 c.skim_element.new.rest.now (skim_element item c.loop-room.is_first c.loop-room.rest.now)
    (skim_elements item c.args.start.now (most_elements (tree_of c.args.types.now c.args.item.0)) true c.args.rest.now.now)
    (λ why e. sym c.loop-room.invariant ∙ elements_stop item c.args.start.now c.loop-room.room c.loop-room.is_first c.loop-room.rest.now c.skim_element.new.rest.now why some e)
    c.in_err-goes_on.ensures)

pub skim_elements-returns-then-not-goes_on : goal.skim_elements-returns-then-not-goes_on
skim_elements-returns-then-not-goes_on t c =
    let item = skim_at most_elements (tree_of c.args.types.now c.args.item.0) in
    let some : 0 < c.loop-room.room = omega arith in
    let ends : c.in_ok-goes_on.goes_on ≡ false = search rules in
    sym c.loop-room.invariant
    ∙ elements_end item c.args.start.now c.loop-room.room c.loop-room.is_first c.in_ok-goes_on.goes_on c.loop-room.rest.now c.skim_element.new.rest.now some ends c.in_ok-goes_on.ensures

pub skim_elements-loop-room-preserved : goal.skim_elements-loop-room-preserved
skim_elements-loop-room-preserved t c =
    let item = skim_at most_elements (tree_of c.args.types.now c.args.item.0) in
    let some : 0 < c.loop-room.room = omega arith in
    let more : c.in_ok-goes_on.goes_on ≡ true = search rules in
    elements_more item c.args.start.now c.loop-room.room c.loop-room.is_first c.in_ok-goes_on.goes_on c.loop-room.rest.now c.skim_element.new.rest.now some more c.in_ok-goes_on.ensures
    ∙ c.loop-room.invariant

pub skim_elements-returns : goal.skim_elements-returns
skim_elements-returns t c =
    let item = skim_at most_elements (tree_of c.args.types.now c.args.item.0) in
    let none : c.loop-room.room ≡ 0 = omega arith in
    sym c.loop-room.invariant ∙ elements_full item c.args.start.now c.loop-room.room c.loop-room.is_first c.loop-room.rest.now none

pub skim_members-skim_member-requires : goal.skim_members-skim_member-requires
skim_members-skim_member-requires t c =
    let below : c.loop-id.id-index < length c.args.ids.now = omega arith in
    let low = lower_part c.args.types.now.rows c.args.ids.now c.loop-id.id-index record { 0 = 0 } below in
    (omega arith, c.requires c.loop-id.id-index record { 0 = 0 } below)

pub skim_members-returns-in_err-skim_member : goal.skim_members-returns-in_err-skim_member
skim_members-returns-in_err-skim_member t c =
    let p = err_from_is_err_and c.from_residual.result c.from_residual.ensures.1 in
    let below : c.loop-id.id-index < length c.args.ids.now = omega arith in
    let rows = c.args.types.now.rows in
    let ty = tree_at rows (get_or c.args.ids.now c.loop-id.id-index record { 0 = 0 }).0 in
    let others = joined (trees_at rows (drop (c.loop-id.id-index + 1) c.args.ids.now)) in
    rw (p.1, p.2)
    (gives_stop {X = Unit {0}} {Y = Unit {0}} (λ u. tt) (λ u. tt) c.in_err-skim_member.field-0.0 c.skim_member.new.rest.now (skim_member c.loop-id.is_first (skim_at most_elements ty) c.loop-id.rest.now)
    (skim_members most_elements true (joined (trees_of c.args.types.now c.args.ids.now)) c.args.rest.now.now)
    (λ why e.
    sym c.loop-id.invariant
    ∙ members_stop (joined (trees_at rows (drop c.loop-id.id-index c.args.ids.now))) others ty (types_from rows c.args.ids.now c.loop-id.id-index record { 0 = 0 } below)
    c.loop-id.is_first c.loop-id.rest.now c.skim_member.new.rest.now why e)
    c.in_err-skim_member.ensures)

pub skim_members-loop-id-preserved : goal.skim_members-loop-id-preserved
skim_members-loop-id-preserved t c =
    let below : c.loop-id.id-index < length c.args.ids.now = omega arith in
    let rows = c.args.types.now.rows in
    let ty = tree_at rows (get_or c.args.ids.now c.loop-id.id-index record { 0 = 0 }).0 in
    let others = joined (trees_at rows (drop (c.loop-id.id-index + 1) c.args.ids.now)) in
    members_more (joined (trees_at rows (drop c.loop-id.id-index c.args.ids.now))) others ty (types_from rows c.args.ids.now c.loop-id.id-index record { 0 = 0 } below)
    c.loop-id.is_first c.loop-id.rest.now c.skim_member.new.rest.now c.in_ok-skim_member.ensures
    ∙ c.loop-id.invariant

pub skim_members-returns : goal.skim_members-returns
skim_members-returns t c =
    let rows = c.args.types.now.rows in
    let none : length c.args.ids.now ≤ c.loop-id.id-index = omega arith in
    sym c.loop-id.invariant
    ∙ members_end c.loop-id.is_first (joined (trees_at rows (drop c.loop-id.id-index c.args.ids.now))) c.loop-id.rest.now (no_types_from rows c.args.ids.now c.loop-id.id-index none)

pub skim_variant-skim-requires : goal.skim_variant-skim-requires
skim_variant-skim-requires t c =
    let below : c.in_ok-index.index < length c.args.ids.now = c.in_ok-index.ensures.within in
    let low = lower_part c.args.types.now.rows c.args.ids.now c.in_ok-index.index record { 0 = 0 } below in
    (omega arith, c.requires c.in_ok-index.index record { 0 = 0 } below)

pub skim_variant-returns : goal.skim_variant-returns
skim_variant-returns t c =
    let rows = c.args.types.now.rows in
    let tys = joined (trees_at rows c.args.ids.now) in
    rw (
      enum_read (length c.args.ids.now) tys c.in_ok-index.index c.args.rest.now.now c.number.new.rest.now c.byte.new.rest.now c.in_ok-index.ensures.read c.in_ok-byte.ensures,
      ← form_picked rows c.args.ids.now c.in_ok-index.index record { 0 = 0 } c.in_ok-index.ensures.within,
    )
    c.skim.ensures
