-- A libfunc that isn't a call gives as many builtins in each branch as it takes.
use Rattle.std.proofs.Common.{◌≡◌, ◌≢◌, ℕ, zero, suc, true, false, Bool, if◌then◌else◌, List, [], ◌∷◌, map, Some, refl, sym, ap, ◌∙◌, arith}
use Rattle.std.specs.List.{slice_get, AllByRecursion}
use Rattle.std.proofs.lemmas.Option.{none-some, same_Some}
use Rattle.type_trees.specs.Ty.{Ty, range_check, gas_builtin, snapshot, duplicable, snap}
use Rattle.type_table.specs.Trees.{parts}
use Rattle.libfunc_registry.specs.Control as controls
use Rattle.libfunc_registry.specs.Gas as gases
use Rattle.libfunc_registry.specs.Felts as felt
use Rattle.libfunc_registry.specs.Integers as integer
use Rattle.libfunc_registry.specs.Data as datas
use Rattle.libfunc_registry.specs.Data.{part_at}
use Rattle.libfunc_registry.specs.Arrays as array
use Rattle.libfunc_registry.specs.Dictionaries as dictionary
use Rattle.libfunc_registry.specs.Fam.{Fam, control, gas, felts, integers, data_, arrays, dictionaries, takes, gives}
use Rattle.gas_solver.specs.Balance.{builtin, builtins}

module _ (check gas_weight : ℕ) where
  -- a type that is no builtin
  abbrev pub IsOther : Ty → Type 0
  IsOther ty = builtin check gas_weight ty ≡ 0

  -- a type all of whose parts, and which itself, are none
  pub record HasOtherParts (ty : Ty) : Type 0 where
    pub itself : IsOther ty
    pub parts_are : AllByRecursion IsOther (parts ty)

  -- what is asked of a family
  abbrev pub Suits : Fam → Type 0
  Suits (control (controls.dup ty)) = IsOther ty
  Suits (control (controls.drop ty)) = IsOther ty
  Suits (gas (gases.function_call f params results)) = ⊥
  Suits (data_ (datas.enum_init ty index)) = IsOther ty × IsOther (part_at ty index)
  Suits (data_ (datas.enum_match ty)) = HasOtherParts ty × (parts ty ≢ [])
  Suits (data_ (datas.enum_snapshot_match ty)) = HasOtherParts ty × (parts ty ≢ [])
  Suits (data_ (datas.struct_construct ty)) = HasOtherParts ty
  Suits (data_ (datas.struct_deconstruct ty)) = HasOtherParts ty
  Suits (data_ (datas.struct_snapshot_deconstruct ty)) = HasOtherParts ty
  Suits (data_ (datas.snapshot_take ty)) = IsOther ty
  Suits (data_ (datas.into_box ty)) = IsOther ty
  Suits (data_ (datas.unbox ty)) = IsOther ty
  Suits (arrays (array.array_append ty)) = IsOther ty
  Suits _ = Unit {0}

  abbrev sums : List Ty → ℕ
  sums tys = builtins check gas_weight tys

  one : (n : ℕ) (tys : List Ty) → n ≡ builtins check gas_weight tys → (k : ℕ) (found : List Ty) → slice_get (tys ∷ []) k ≡ Some found → n ≡ builtins check gas_weight found
  one n tys same zero found is = same ∙ ap (builtins check gas_weight) (same_Some tys found is)
  one n tys same (suc k) found is = absurd (none-some found is)

  two : (n : ℕ) (tys others : List Ty) → n ≡ builtins check gas_weight tys → n ≡ builtins check gas_weight others → (k : ℕ) (found : List Ty) → slice_get (tys ∷ others ∷ []) k ≡ Some found → n ≡ builtins check gas_weight found
  two n tys others same also zero found is = same ∙ ap (builtins check gas_weight) (same_Some tys found is)
  two n tys others same also (suc k) found is = one n others also k found is

  pub snap_other : (ty : Ty) → IsOther ty → IsOther (snap ty)
  snap_other ty other = by (duplicable ty)
    where
      by : (b : Bool) → IsOther (if b then ty else snapshot ty)
      by true = other
      by false = refl

  none_together : (tys : List Ty) → AllByRecursion IsOther tys → builtins check gas_weight tys ≡ 0
  none_together [] all = refl
  none_together (ty ∷ tys) all = let a = all.0 in let b = none_together tys all.1 in omega arith

  snaps_together : (tys : List Ty) → AllByRecursion IsOther tys → builtins check gas_weight (map snap tys) ≡ 0
  snaps_together [] all = refl
  snaps_together (ty ∷ tys) all = let a = snap_other ty all.0 in let b = snaps_together tys all.1 in omega arith

  each : (give : Ty → Ty) → ((ty : Ty) → IsOther ty → IsOther (give ty)) → (tys : List Ty) → AllByRecursion IsOther tys → (k : ℕ) (found : List Ty) → slice_get (map (λ ty. give ty ∷ []) tys) k ≡ Some found → builtins check gas_weight found ≡ 0
  each give keeps [] all k found is = absurd (none-some found is)
  each give keeps (ty ∷ tys) all zero found is =
      let none : builtins check gas_weight (give ty ∷ []) ≡ 0 = (let a = keeps ty all.0 in omega arith) in
      ap (builtins check gas_weight) (sym (same_Some (give ty ∷ []) found is)) ∙ none
  each give keeps (ty ∷ tys) all (suc k) found is = each give keeps tys all.1 k found is

  abbrev Keeps : Fam → Type 0
  Keeps fam = (k : ℕ) (found : List Ty) → slice_get (gives fam) k ≡ Some found → builtins check gas_weight (takes fam) ≡ builtins check gas_weight found

  control_keeps : (fam : controls.ControlFam) → Suits (control fam) → Keeps (control fam)
  control_keeps controls.branch_align suits k found is = one 0 [] (omega arith) k found is
  control_keeps controls.jump suits k found is = one 0 [] (omega arith) k found is
  control_keeps (controls.rename ty) suits k found is = one (sums (ty ∷ [])) (ty ∷ []) refl k found is
  control_keeps (controls.dup ty) suits k found is = one (sums (ty ∷ [])) (ty ∷ ty ∷ []) (omega arith) k found is
  control_keeps (controls.drop ty) suits k found is = one (sums (ty ∷ [])) [] (omega arith) k found is
  control_keeps (controls.store_temp ty) suits k found is = one (sums (ty ∷ [])) (ty ∷ []) refl k found is
  control_keeps (controls.store_local ty) suits k found is = one (sums (takes (control (controls.store_local ty)))) (ty ∷ []) (omega arith) k found is
  control_keeps (controls.alloc_local ty) suits k found is = one 0 _ (omega arith) k found is
  control_keeps controls.finalize_locals suits k found is = one 0 [] (omega arith) k found is
  control_keeps controls.disable_ap_tracking suits k found is = one 0 [] (omega arith) k found is
  control_keeps controls.enable_ap_tracking suits k found is = one 0 [] (omega arith) k found is

  gas_keeps : (fam : gases.GasFam) → Suits (gas fam) → Keeps (gas fam)
  gas_keeps (gases.function_call f params results) suits = absurd suits
  gas_keeps gases.withdraw_gas suits = two (sums (range_check ∷ gas_builtin ∷ [])) (range_check ∷ gas_builtin ∷ []) (range_check ∷ gas_builtin ∷ []) refl refl

  felts_keeps : (fam : felt.FeltsFam) → Keeps (felts fam)
  felts_keeps (felt.const num word) k found is = one 0 _ (omega arith) k found is
  felts_keeps felt.felt64_add k found is = one _ _ (omega arith) k found is
  felts_keeps felt.felt64_sub k found is = one _ _ (omega arith) k found is
  felts_keeps felt.felt64_mul k found is = one _ _ (omega arith) k found is
  felts_keeps (felt.is_zero num) k found is = two _ _ _ (omega arith) (omega arith) k found is
  felts_keeps (felt.unwrap_non_zero num) k found is = one _ _ (omega arith) k found is

  integers_keeps : (fam : integer.IntegersFam) → Keeps (integers fam)
  integers_keeps (integer.to_felt64 w) k found is = one _ _ (omega arith) k found is
  integers_keeps (integer.try_from_felt64 w) k found is = two _ _ _ (omega arith) (omega arith) k found is
  integers_keeps (integer.overflowing_add w) k found is = two _ _ _ (omega arith) (omega arith) k found is
  integers_keeps (integer.overflowing_sub w) k found is = two _ _ _ (omega arith) (omega arith) k found is
  integers_keeps (integer.wide_mul w) k found is = one _ _ (omega arith) k found is
  integers_keeps integer.split_mul k found is = one _ _ (omega arith) k found is
  integers_keeps (integer.safe_divmod w) k found is = one _ _ (omega arith) k found is
  integers_keeps (integer.eq w) k found is = two _ _ _ (omega arith) (omega arith) k found is
  integers_keeps (integer.upcast a b) k found is = one _ _ (omega arith) k found is
  integers_keeps (integer.downcast a b) k found is = two _ _ _ (omega arith) (omega arith) k found is

  data_keeps : (fam : datas.DataFam) → Suits (data_ fam) → Keeps (data_ fam)
  data_keeps (datas.enum_init ty index) suits k found is = one _ _ (let a = suits.0 in let b = suits.1 in omega arith) k found is
  data_keeps (datas.enum_match ty) suits k found is = (let a = suits.0.itself in let b = each (λ variant. variant) (λ variant other. other) (parts ty) suits.0.parts_are k found is in omega arith)
  data_keeps (datas.enum_snapshot_match ty) suits k found is = (let a = snap_other ty suits.0.itself in let b = each snap snap_other (parts ty) suits.0.parts_are k found is in omega arith)
  data_keeps (datas.struct_construct ty) suits k found is = one _ _ (let a = suits.itself in let b = none_together (parts ty) suits.parts_are in omega arith) k found is
  data_keeps (datas.struct_deconstruct ty) suits k found is = one _ _ (let a = suits.itself in let b = none_together (parts ty) suits.parts_are in omega arith) k found is
  data_keeps (datas.struct_snapshot_deconstruct ty) suits k found is = one _ _ (let a = snap_other ty suits.itself in let b = snaps_together (parts ty) suits.parts_are in omega arith) k found is
  data_keeps (datas.snapshot_take ty) suits k found is = one _ _ (let a = snap_other ty suits in omega arith) k found is
  data_keeps (datas.into_box ty) suits k found is = one _ _ (let a = suits in omega arith) k found is
  data_keeps (datas.unbox ty) suits k found is = one _ _ (let a = suits in omega arith) k found is

  arrays_keeps : (fam : array.ArraysFam) → Suits (arrays fam) → Keeps (arrays fam)
  arrays_keeps (array.array_new ty) suits k found is = one 0 _ (omega arith) k found is
  arrays_keeps (array.array_append ty) suits k found is = one _ _ (let a = suits in omega arith) k found is
  arrays_keeps (array.array_len ty) suits k found is = one _ _ (omega arith) k found is
  arrays_keeps (array.array_get ty) suits k found is = two _ _ _ (omega arith) (omega arith) k found is
  arrays_keeps (array.array_pop_front ty) suits k found is = two _ _ _ (omega arith) (omega arith) k found is

  dictionaries_keeps : (fam : dictionary.DictionariesFam) → Keeps (dictionaries fam)
  dictionaries_keeps (dictionary.dict_new num) k found is = one 0 _ (omega arith) k found is
  dictionaries_keeps (dictionary.dict_entry_get num) k found is = one _ _ (omega arith) k found is
  dictionaries_keeps (dictionary.dict_entry_finalize num) k found is = one _ _ (omega arith) k found is
  dictionaries_keeps (dictionary.dict_squash num) k found is = one _ _ (omega arith) k found is
  dictionaries_keeps (dictionary.dict_entries num) k found is = one _ _ (omega arith) k found is

  pub keeps : (fam : Fam) → Suits fam → (k : ℕ) (found : List Ty) → slice_get (gives fam) k ≡ Some found → builtins check gas_weight (takes fam) ≡ builtins check gas_weight found
  keeps (control fam) suits = control_keeps fam suits
  keeps (gas fam) suits = gas_keeps fam suits
  keeps (felts fam) suits = felts_keeps fam
  keeps (integers fam) suits = integers_keeps fam
  keeps (data_ fam) suits = data_keeps fam suits
  keeps (arrays fam) suits = arrays_keeps fam suits
  keeps (dictionaries fam) suits = dictionaries_keeps fam
