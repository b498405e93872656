-- Enums that are made, structs, snapshots, and boxes that are opened: no code.
use Rattle.std.proofs.Common.{◌≡◌, ℕ, ◌+◌, ◌<◌, Option, Some, List, [], ◌∷◌, ◌++◌, map, length, replicate, refl, sym, ap, ◌∙◌, subst, arith, length-append}
use Rattle.std.specs.List.{slice_index_or}
use Rattle.std.proofs.lemmas.List.{map-append, length-replicate}
use Rattle.type_trees.specs.Ty.{Ty, Tys, size, struct, enum, box, snap, range_check, size_together, greatest_size}
use Rattle.type_table.specs.Trees.{listed}
use Rattle.casm_word.specs.declared.cell_expr.CellExpr.{CellExpr}
use Rattle.ro_machine.specs.Readings.{cells_at}
use Rattle.casm_steps.specs.Reading.{readings}
use Rattle.cell_terms.specs.declared.term.Slot.TheVariants as slots
use Rattle.cell_terms.specs.Resolving.{argument}
use Rattle.frag_plan.specs.Scene.{slot_address}
use Rattle.libfunc_registry.specs.Data.{enum_init, struct_construct, struct_deconstruct, struct_snapshot_deconstruct, snapshot_take, unbox}
use Rattle.libfunc_registry.specs.Fam.{data_}
use Rattle.value_trees.specs.Logs.{Log, OpenLog}
use Rattle.value_trees.specs.Val.{vals_of, list_of}
use Rattle.value_trees.specs.Val as val
use Rattle.value_trees.proofs.Variants.{list_back}
use Rattle.libfunc_meaning.specs.Data.{data_does}
use Rattle.libfunc_meaning.specs.Dictionaries.{Dictionary}
use Rattle.cost_table.specs.Data.{padding}
use Rattle.cost_table.specs.Terms.{kept, zeros}
use Rattle.cost_table.proofs.Counts.{part_fits}
use Rattle.cell_forms.specs.LogStands.{LogStands, OpenLogStands}
use Rattle.cell_forms.specs.Standing.{Asked, AllLoggedStand}
use Rattle.cell_forms.proofs.Snapshots.{to_type}
use Rattle.frag_plan.specs.AtBegin.{at_begin}
use Rattle.lower_kit.specs.Fitting.{Takes}
use Rattle.lower_kit.proofs.AtOnce.{Moves}
use Rattle.lower_kit.proofs.Lists.{zeros_read, behind_read}
use Rattle.lower_kit.proofs.Members.{asked_zeros, to_together, of_together, snapped, all_snapped, variant_made}
use Rattle.lower_kit.proofs.Shown.{long, one_stood, one_stands, both_stood, whole_read, all_kept_read, first_read}
use Rattle.lower_kit.proofs.Ways.{is_read, all_cells}

module _ (d : Dictionary Log OpenLog) (args : List CellExpr) (amount : ℕ) where
  pub init_moves : (name : List ℕ) (tys : Tys) (index : ℕ) → index < length (listed tys) → Moves d (data_ (enum_init (enum name tys) index)) args amount
  init_moves name tys index within asked m ap_ fp vs in_field stand =
      let part = slice_index_or (listed tys) index range_check in
      let cells = readings m ap_ fp args in
      let one = one_stands asked m part cells vs stand in
      let pad = padding (enum name tys) index in
      let pads = replicate pad (Some 0) in
      let many = long asked m part cells one.0 one.2 in
      let fits = part_fits tys index within in
      let whole = whole_read asked m ap_ fp args part one.0 one.2 in
      let read : map (at_begin m ap_ fp args) (zeros pad ++ kept 0 (size part)) ≡ pads ++ cells =
      map-append (at_begin m ap_ fp args) (zeros pad) (kept 0 (size part)) ∙ ap (λ c. c ++ map (at_begin m ap_ fp args) (kept 0 (size part))) (zeros_read m ap_ fp args pad) ∙ ap (λ c. pads ++ c) whole in
      let long_ : length (Some index ∷ (pads ++ cells)) ≡ 1 + greatest_size tys = omega (arith, many, fits, length-append pads cells, length-replicate {A = Option ℕ} pad (Some 0)) in
      let made = variant_made asked m tys index pads cells one.0 within (asked_zeros asked pad) one.2 in (
        val.enum index one.0 ∷ [],
        ap (λ us. data_does (enum_init (enum name tys) index) us) one.1,
        subst (λ c. AllLoggedStand asked m (enum name tys ∷ []) (Some index ∷ c) (val.enum index one.0 ∷ [])) (sym read)
            (one_stood asked m (enum name tys) (Some index ∷ (pads ++ cells)) (val.enum index one.0) (index, one.0, refl, long_, refl, made)),
      )

  pub construct_moves : (name : List ℕ) (tys : Tys) → length args ≡ size_together tys → Moves d (data_ (struct_construct (struct name tys))) args amount
  construct_moves name tys many asked m ap_ fp vs in_field stand =
      let cells = readings m ap_ fp args in (
        val.struct (vals_of vs) ∷ [],
        refl,
        subst (λ c. AllLoggedStand asked m (struct name tys ∷ []) c (val.struct (vals_of vs) ∷ [])) (sym (all_kept_read m ap_ fp args (size_together tys) many))
            (one_stood asked m (struct name tys) cells (val.struct (vals_of vs)) (vs, refl, to_together asked m tys cells vs stand)),
      )

  pub deconstruct_moves : (name : List ℕ) (tys : Tys) → Moves d (data_ (struct_deconstruct (struct name tys))) args amount
  deconstruct_moves name tys asked m ap_ fp vs in_field stand =
      let cells = readings m ap_ fp args in
      let one = one_stands asked m (struct name tys) cells vs stand in (
        one.2.0,
        ap (λ us. data_does (struct_deconstruct (struct name tys)) us) (one.1 ∙ ap (λ v. v ∷ []) one.2.1) ∙ ap (λ us. Some (0, us)) (list_back one.2.0),
        subst (λ c. AllLoggedStand asked m (listed tys) c one.2.0) (sym (whole_read asked m ap_ fp args (struct name tys) one.0 one.2)) (of_together asked m tys cells one.2.0 one.2.2),
      )

  pub snapshot_deconstruct_moves : (name : List ℕ) (tys : Tys) → Moves d (data_ (struct_snapshot_deconstruct (struct name tys))) args amount
  snapshot_deconstruct_moves name tys asked m ap_ fp vs in_field stand =
      let ty = struct name tys in
      let cells = readings m ap_ fp args in
      let one = one_stands asked m (snap ty) cells vs stand in
      let as_type = to_type (Asked asked) (LogStands m) (OpenLogStands m) m ty cells one.0 one.2 in (
        as_type.0,
        ap (λ us. data_does (struct_snapshot_deconstruct ty) us) (one.1 ∙ ap (λ v. v ∷ []) as_type.1) ∙ ap (λ us. Some (0, us)) (list_back as_type.0),
        subst (λ c. AllLoggedStand asked m (map snap (listed tys)) c as_type.0) (sym (whole_read asked m ap_ fp args ty one.0 as_type))
            (all_snapped asked m (listed tys) cells as_type.0 (of_together asked m tys cells as_type.0 as_type.2)),
      )

  pub snapshot_moves : (ty : Ty) → Moves d (data_ (snapshot_take ty)) args amount
  snapshot_moves ty asked m ap_ fp vs in_field stand =
      let cells = readings m ap_ fp args in
      let one = one_stands asked m ty cells vs stand in
      let whole = whole_read asked m ap_ fp args ty one.0 one.2 in (
        one.0 ∷ one.0 ∷ [],
        ap (λ us. data_does (snapshot_take ty) us) one.1,
        subst (λ c. AllLoggedStand asked m (ty ∷ snap ty ∷ []) c (one.0 ∷ one.0 ∷ []))
            (sym (map-append (at_begin m ap_ fp args) (kept 0 (size ty)) (kept 0 (size ty)) ∙ ap (λ c. c ++ map (at_begin m ap_ fp args) (kept 0 (size ty))) whole ∙ ap (λ c. cells ++ c) whole))
            (both_stood asked m ty (snap ty) cells cells one.0 one.0 one.2 (snapped asked m ty cells one.0 one.2)),
      )

  pub unbox_moves : (ty : Ty) → Takes (data_ (unbox ty)) args amount → Moves d (data_ (unbox ty)) args amount
  unbox_moves ty taken asked m ap_ fp vs in_field stand =
      let cells = readings m ap_ fp args in
      let one = one_stands asked m (box ty) cells vs stand in
      let a = one.2.2.0 in
      let many : length args ≡ 1 = taken.fit.many in
      let cell = all_cells 1 args taken.fit.marked.0 0 (omega arith) (omega (arith, many)) in
      let here : m (slot_address ap_ fp args (slots.Arg 0)) ≡ Some a = is_read m ap_ fp args (argument args 0) cell ∙ first_read m ap_ fp a args one.2.2.1 in (
        one.2.0 ∷ [],
        ap (λ us. data_does (unbox ty) us) (one.1 ∙ ap (λ v. v ∷ []) one.2.1),
        subst (λ c. AllLoggedStand asked m (ty ∷ []) c (one.2.0 ∷ [])) (sym (behind_read m ap_ fp args (slots.Arg 0) a (size ty) here))
            (one_stood asked m ty (cells_at m a 0 (size ty)) one.2.0 one.2.2.2),
      )
