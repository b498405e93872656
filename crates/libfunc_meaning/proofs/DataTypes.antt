-- Enums, structs, snapshots and boxes: there is an answer, of the types of its branch.
use Rattle.std.proofs.Common.{◌≡◌, ℕ, zero, suc, ◌<◌, true, false, List, [], ◌∷◌, Some, refl, sym, ap, ◌∙◌, subst, map, length, option_map, slice_get, get_or, if◌then◌else◌, arith}
use Rattle.std.proofs.lemmas.Option.{slice_get-map}
use Rattle.type_trees.specs.Ty.{Ty, Tys, range_check, box, snapshot, struct, enum, no_types, types, duplicable, snap}
use Rattle.type_trees.specs.declared.num.Num.{Num}
use Rattle.type_table.specs.Trees.{listed, parts}
use Rattle.libfunc_registry.specs.Data.{DataFam, enum_init, enum_match, enum_snapshot_match, struct_construct, struct_deconstruct, struct_snapshot_deconstruct, snapshot_take, into_box, unbox, data_takes, data_gives, part_at}
use Rattle.value_trees.specs.Of.{AllOf, AreOf, IsOf, IsOfVariant}
use Rattle.value_trees.specs.Val.{Val, vals_of, list_of}
use Rattle.value_trees.specs.Val as val
use Rattle.value_trees.proofs.Variants.{list_back}
use Rattle.libfunc_meaning.specs.Answers.{branch}
use Rattle.libfunc_meaning.specs.Data.{data_does}
use Rattle.libfunc_meaning.specs.Proper.{IsProperData, IsEnum, IsStruct}
use Rattle.libfunc_meaning.proofs.Typed.{IsAnswered, at_one, at_box, gives_one, gives_two}

module _ {D E : Type 0} (OfDict : Num → D → Type 0) (OfEntry : Num → E → Type 0) where
  -- members as a list
  are_listed : (tys : Tys) (vs : List (Val D E)) → AreOf OfDict OfEntry tys vs → AllOf OfDict OfEntry (listed tys) vs
  are_listed no_types vs h = h
  are_listed (types ty tys) vs (v, rest, is, v_is, more) =
      let later : AllOf OfDict OfEntry (listed tys) rest = are_listed tys rest more in
      (v, rest, is, v_is, later)

  are_members : (tys : Tys) (vs : List (Val D E)) → AllOf OfDict OfEntry (listed tys) vs → AreOf OfDict OfEntry tys vs
  are_members no_types vs h = h
  are_members (types ty tys) vs (v, rest, is, v_is, more) =
      let later : AreOf OfDict OfEntry tys rest = are_members tys rest more in
      (v, rest, is, v_is, later)

  -- a snapshot has the values of its type
  pub of_snap : (ty : Ty) (v : Val D E) → IsOf OfDict OfEntry ty v → IsOf OfDict OfEntry (snap ty) v
  of_snap ty v h = elim (duplicable ty) as (λ b. IsOf OfDict OfEntry (if b then ty else snapshot ty) v) [ true ↦ h | false ↦ h ]

  snap_of : (ty : Ty) (v : Val D E) → IsOf OfDict OfEntry (snap ty) v → IsOf OfDict OfEntry ty v
  snap_of ty v h = elim (duplicable ty) as (λ b. IsOf OfDict OfEntry (if b then ty else snapshot ty) v → IsOf OfDict OfEntry ty v) [ true ↦ λ x. x | false ↦ λ x. x ] h

  are_snaps : (tys : List Ty) (vs : List (Val D E)) → AllOf OfDict OfEntry tys vs → AllOf OfDict OfEntry (map snap tys) vs
  are_snaps [] vs h = h
  are_snaps (ty ∷ tys) vs (v, rest, is, v_is, more) =
      let later : AllOf OfDict OfEntry (map snap tys) rest = are_snaps tys rest more in
      (v, rest, is, of_snap ty v v_is, later)

  -- the variant of a payload
  variant_type : (tys : Tys) (index : ℕ) (v : Val D E) → IsOfVariant OfDict OfEntry tys index v
      → (ty : Ty) × (slice_get (listed tys) index ≡ Some ty) × IsOf OfDict OfEntry ty v
  variant_type no_types index v h = absurd h
  variant_type (types ty tys) zero v h = (ty, refl, h)
  variant_type (types ty tys) (suc index) v h = variant_type tys index v h

  is_variant : (tys : Tys) (index : ℕ) (v : Val D E) → index < length (listed tys) → IsOf OfDict OfEntry (get_or (listed tys) index range_check) v
      → IsOfVariant OfDict OfEntry tys index v
  is_variant no_types index v within h = absurd (omega arith)
  is_variant (types ty tys) zero v within h = h
  is_variant (types ty tys) (suc index) v within h = is_variant tys index v (omega arith) h

  abbrev Does : DataFam → List (Val D E) → Type 0
  Does fam vs = IsAnswered OfDict OfEntry (data_gives fam) (data_does fam vs)

  -- a value of an enum, and what is in it
  at_enum : (P : Val D E → Type 0) (name : List ℕ) (tys : Tys) (v : Val D E) → IsOf OfDict OfEntry (enum name tys) v
      → ((index : ℕ) (payload : Val D E) → IsOfVariant OfDict OfEntry tys index payload → P (val.enum index payload)) → P v
  at_enum P name tys v (index, payload, is, of) p = subst P (sym is) (p index payload of)

  at_struct : (P : Val D E → Type 0) (name : List ℕ) (tys : Tys) (v : Val D E) → IsOf OfDict OfEntry (struct name tys) v
      → ((us : List (Val D E)) → AreOf OfDict OfEntry tys us → P (val.struct (vals_of us))) → P v
  at_struct P name tys v (us, is, are) p = subst P (sym is) (p us are)

  -- the payload in the branch of its variant, where each variant gives a type
  payload_given : (of : Ty → Ty) (tys : Tys) (index : ℕ) (payload : Val D E) → ((ty : Ty) → IsOf OfDict OfEntry ty payload → IsOf OfDict OfEntry (of ty) payload)
      → IsOfVariant OfDict OfEntry tys index payload
      → IsAnswered OfDict OfEntry (map (λ variant. of variant ∷ []) (listed tys)) (branch index (payload ∷ []))
  payload_given of tys index payload as_of h =
      let found = variant_type tys index payload h in
      gives_one OfDict OfEntry (map (λ variant. of variant ∷ []) (listed tys)) index (of found.0) payload
      (slice_get-map (λ variant. of variant ∷ []) (listed tys) index ∙ ap (option_map (λ variant. of variant ∷ [])) found.1)
      (as_of found.0 found.2)

  matched : (ty : Ty) (v : Val D E) → IsEnum ty → IsOf OfDict OfEntry ty v → Does (enum_match ty) (v ∷ [])
  matched ty v (name, tys, is) h =
      let of_enum : IsOf OfDict OfEntry (enum name tys) v = subst (λ t. IsOf OfDict OfEntry t v) is h in
      subst (λ t. Does (enum_match t) (v ∷ [])) (sym is)
      (at_enum (λ u. Does (enum_match (enum name tys)) (u ∷ [])) name tys v of_enum (λ index payload of. payload_given (λ t. t) tys index payload (λ t x. x) of))

  snapshot_matched : (ty : Ty) (v : Val D E) → IsEnum ty → IsOf OfDict OfEntry ty v → Does (enum_snapshot_match ty) (v ∷ [])
  snapshot_matched ty v (name, tys, is) h =
      let of_enum : IsOf OfDict OfEntry (enum name tys) v = subst (λ t. IsOf OfDict OfEntry t v) is h in
      subst (λ t. Does (enum_snapshot_match t) (v ∷ [])) (sym is)
      (at_enum (λ u. Does (enum_snapshot_match (enum name tys)) (u ∷ [])) name tys v of_enum (λ index payload of. payload_given snap tys index payload (λ t x. of_snap t payload x) of))

  constructed : (ty : Ty) (vs : List (Val D E)) → IsStruct ty → AllOf OfDict OfEntry (parts ty) vs → Does (struct_construct ty) vs
  constructed ty vs (name, tys, is) h =
      let members : AllOf OfDict OfEntry (listed tys) vs = subst (λ t. AllOf OfDict OfEntry (parts t) vs) is h in
      subst (λ t. Does (struct_construct t) vs) (sym is)
      (gives_one OfDict OfEntry _ 0 (struct name tys) (val.struct (vals_of vs)) refl (vs, refl, are_members tys vs members))

  -- members that are given in branch 0
  members_given : (tys : List Ty) (us : List (Val D E)) → AllOf OfDict OfEntry tys us → IsAnswered OfDict OfEntry (tys ∷ []) (branch 0 (list_of (vals_of us)))
  members_given tys us h = record {
    branch = 0;
    outs = us;
    tys = tys;
    is = ap (λ (ws : List (Val D E)). branch 0 ws) (list_back us);
    there = refl;
    typed = h;
  }

  deconstructed : (ty : Ty) (v : Val D E) → IsStruct ty → IsOf OfDict OfEntry ty v → Does (struct_deconstruct ty) (v ∷ [])
  deconstructed ty v (name, tys, is) h =
      let of_struct : IsOf OfDict OfEntry (struct name tys) v = subst (λ t. IsOf OfDict OfEntry t v) is h in
      subst (λ t. Does (struct_deconstruct t) (v ∷ [])) (sym is)
      (at_struct (λ u. Does (struct_deconstruct (struct name tys)) (u ∷ [])) name tys v of_struct (λ us are. members_given (listed tys) us (are_listed tys us are)))

  snapshot_deconstructed : (ty : Ty) (v : Val D E) → IsStruct ty → IsOf OfDict OfEntry ty v → Does (struct_snapshot_deconstruct ty) (v ∷ [])
  snapshot_deconstructed ty v (name, tys, is) h =
      let of_struct : IsOf OfDict OfEntry (struct name tys) v = subst (λ t. IsOf OfDict OfEntry t v) is h in
      subst (λ t. Does (struct_snapshot_deconstruct t) (v ∷ [])) (sym is)
      (at_struct (λ u. Does (struct_snapshot_deconstruct (struct name tys)) (u ∷ [])) name tys v of_struct (λ us are.
      members_given (map snap (listed tys)) us (are_snaps (listed tys) us (are_listed tys us are))))

  made : (ty : Ty) (index : ℕ) (v : Val D E) → IsProperData (enum_init ty index) → IsOf OfDict OfEntry (part_at ty index) v → Does (enum_init ty index) (v ∷ [])
  made ty index v (name, tys, is, within) h =
      let part : IsOf OfDict OfEntry (get_or (listed tys) index range_check) v = subst (λ t. IsOf OfDict OfEntry (part_at t index) v) is h in
      subst (λ t. Does (enum_init t index) (v ∷ [])) (sym is)
      (gives_one OfDict OfEntry _ 0 (enum name tys) (val.enum index v) refl (index, v, refl, is_variant tys index v within part))

  pub data_answers : (fam : DataFam) (vs : List (Val D E)) → IsProperData fam → AllOf OfDict OfEntry (data_takes fam) vs
      → IsAnswered OfDict OfEntry (data_gives fam) (data_does fam vs)
  data_answers (enum_init ty index) vs proper h = at_one OfDict OfEntry (Does (enum_init ty index)) (part_at ty index) vs h (λ v v_is. made ty index v proper v_is)
  data_answers (enum_match ty) vs proper h = at_one OfDict OfEntry (Does (enum_match ty)) ty vs h (λ v v_is. matched ty v proper v_is)
  data_answers (enum_snapshot_match ty) vs proper h =
      at_one OfDict OfEntry (Does (enum_snapshot_match ty)) (snap ty) vs h (λ v v_is. snapshot_matched ty v proper (snap_of ty v v_is))
  data_answers (struct_construct ty) vs proper h = constructed ty vs proper h
  data_answers (struct_deconstruct ty) vs proper h = at_one OfDict OfEntry (Does (struct_deconstruct ty)) ty vs h (λ v v_is. deconstructed ty v proper v_is)
  data_answers (struct_snapshot_deconstruct ty) vs proper h =
      at_one OfDict OfEntry (Does (struct_snapshot_deconstruct ty)) (snap ty) vs h (λ v v_is. snapshot_deconstructed ty v proper (snap_of ty v v_is))
  data_answers (snapshot_take ty) vs proper h =
      at_one OfDict OfEntry (Does (snapshot_take ty)) ty vs h (λ v v_is. gives_two OfDict OfEntry _ 0 ty (snap ty) v v refl v_is (of_snap ty v v_is))
  data_answers (into_box ty) vs proper h =
      at_one OfDict OfEntry (Does (into_box ty)) ty vs h (λ v v_is. gives_one OfDict OfEntry _ 0 (box ty) (val.boxed v) refl (v, refl, v_is))
  data_answers (unbox ty) vs proper h =
      at_one OfDict OfEntry (Does (unbox ty)) (box ty) vs h (λ v v_is.
      at_box OfDict OfEntry (λ u. Does (unbox ty) (u ∷ [])) ty v v_is (λ inner inner_is. gives_one OfDict OfEntry _ 0 ty inner refl inner_is))
