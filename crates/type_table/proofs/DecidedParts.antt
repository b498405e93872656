-- The parts of a type that isn't refused are ordinary.
use Rattle.std.proofs.Common.{◌≡◌, ◌≢◌, ℕ, List, [], ◌∷◌, ap, sym, subst, ◌∙◌}
use Rattle.std.specs.List.{All, AllZip}
use Rattle.std.proofs.lemmas.List.Elements.{All-head, All-tail, All-nil, All-cons}
use Rattle.type_trees.specs.Ty.{Ty, number, nonzero, range_check, gas_builtin, box, array, snapshot, struct, enum, dict, dict_entry, squashed_dict, uninitialized}
use Rattle.sierra_types.specs.declared.program.TypeDecl.{TypeDecl}
use Rattle.sierra_types.specs.declared.program.Arg.{Arg}
use Rattle.sierra_types.specs.declared.program.Arg.TheVariants.{OfType}
use Rattle.type_table.specs.declared.generic.Generic.{Generic}
use Rattle.type_table.specs.declared.generic.Generic.TheVariants as generics
use Rattle.type_table.specs.Generics.{generic_name, IsOrdinary, IsInitialized, NamesType, OneType, FitsGeneric, Fits}
use Rattle.type_table.specs.Trees.{kind_of, generic_of, listed}
use Rattle.type_table.specs.Naming.{Names}
use Rattle.type_table.specs.IsType.{HasArgs, IsType}
use Rattle.type_table.specs.Resolving.{type_args}
use Rattle.type_table.specs.Parts.{IsInitializedType, IsOrdinaryType, HasOrdinaryParts}
use Rattle.type_table.proofs.Plain.{cons-nil}
use Rattle.type_table.proofs.NamedLaws.{same_generic}
use Rattle.type_table.proofs.Places.{names_once}
use Rattle.type_table.proofs.Trees.{arguments_of}
use Rattle.type_table.proofs.DecidedLists.{heads, behind}
use Rattle.type_table.specs.Refusals.{named_types}

abbrev name_in : Ty → List ℕ
name_in ty = generic_name (generic_of (kind_of ty))

initialized_type : (ty : Ty) → IsInitialized (name_in ty) → IsInitializedType ty
initialized_type ty fits inner is = fits (ap name_in is)

ordinary_type : (ty : Ty) → IsOrdinary (name_in ty) → IsOrdinaryType ty
ordinary_type ty fits = record { no_check = λ is. fits.no_check (ap name_in is); no_gas = λ is. fits.no_gas (ap name_in is); initialized = initialized_type ty fits.initialized }

module _ (ds : List TypeDecl) where
  -- the type that an argument names has the generic name that is asked
  name_is : (Is : List ℕ → Type 0) (ty : Ty) (id : List ℕ) → IsType ds ty id → NamesType ds Is (OfType id) → Is (name_in ty)
  name_is Is ty id (i, d, others, args, passes) names =
      let id_is : names.id ≡ id = sym (heads id names.id [] [] (ap (λ a. named_types (a ∷ [])) names.arg_is)) in
      let decl = (names_once ds id names.position i names.decl d (subst (λ x. Names ds x names.position names.decl) id_is names.names) others).1 in
      subst Is (ap (λ e. e.generic) decl ∙ (arguments_of ds ty d args).generic) names.generic

  names_are : (Is : List ℕ → Type 0) (tys : List Ty) (ids : List (List ℕ)) → AllZip (IsType ds) tys ids → All (NamesType ds Is) (type_args ids) → All (λ ty. Is (name_in ty)) tys
  names_are Is [] [] each names = All-nil (λ ty. Is (name_in ty))
  names_are Is [] (id ∷ ids) each names = absurd each
  names_are Is (ty ∷ tys) [] each names = absurd each
  names_are Is (ty ∷ tys) (id ∷ ids) (first, rest) names =
      All-cons (λ ty. Is (name_in ty)) ty tys
      (name_is Is ty id first (All-head (NamesType ds Is) (OfType id) (type_args ids) names))
      (names_are Is tys ids rest (All-tail (NamesType ds Is) (OfType id) (type_args ids) names))

  -- arguments fit as their generic name asks
  fits_as : (g : Generic) (d : TypeDecl) → d.generic ≡ generic_name g → Fits ds d.generic d.args → FitsGeneric ds g d.args
  fits_as g d is (h, name, fits) = subst (λ k. FitsGeneric ds k d.args) (same_generic h g (sym name ∙ is)) fits

  one_part : (Is : List ℕ → Type 0) (ty : Ty) (id : List ℕ) (args : List Arg) → args ≡ OfType id ∷ [] → IsType ds ty id → OneType ds Is args → Is (name_in ty)
  one_part Is ty id args is at (arg, one, names) =
      name_is Is ty id at (subst (NamesType ds Is) (heads arg (OfType id) [] [] (sym one ∙ is)) names)

  members_ordinary : (tys : List Ty) (ids : List (List ℕ)) (members : List Arg) → members ≡ type_args ids → AllZip (IsType ds) tys ids → All (NamesType ds IsOrdinary) members → All IsOrdinaryType tys
  members_ordinary tys ids members are each names =
      λ k d below. ordinary_type _ (names_are IsOrdinary tys ids each (subst (All (NamesType ds IsOrdinary)) are names) k d below)

  some_part : (tys : List Ty) (ids : List (List ℕ)) (variant : Arg) (more : List Arg) → variant ∷ more ≡ type_args ids → AllZip (IsType ds) tys ids → tys ≢ []
  some_part [] [] variant more are each none = cons-nil variant more are
  some_part [] (id ∷ ids) variant more are each none = each
  some_part (ty ∷ tys) ids variant more are each none = cons-nil ty tys none

  -- ordinary parts, for a declaration that fits
  pub parts_ordinary : (ty : Ty) (d : TypeDecl) → HasArgs ds ty d → Fits ds d.generic d.args → HasOrdinaryParts ty
  parts_ordinary (number num) d args fits = tt
  parts_ordinary (nonzero num) d args fits = tt
  parts_ordinary range_check d args fits = tt
  parts_ordinary gas_builtin d args fits = tt
  parts_ordinary (box ty) d (generic, (id, is, at)) fits = ordinary_type ty (one_part IsOrdinary ty id d.args is at (fits_as generics.Box d generic fits))
  parts_ordinary (array ty) d (generic, (id, is, at)) fits = ordinary_type ty (one_part IsOrdinary ty id d.args is at (fits_as generics.Array d generic fits))
  parts_ordinary (snapshot ty) d (generic, (id, is, at)) fits = ordinary_type ty (one_part IsOrdinary ty id d.args is at (fits_as generics.Snapshot d generic fits))
  parts_ordinary (struct name tys) d args fits =
      let a = arguments_of ds (struct name tys) d args in
      let form = fits_as generics.Struct d a.generic fits in
      let members : form.0 ≡ type_args a.ids = ap behind (sym form.1.1 ∙ a.args) in
      members_ordinary (listed tys) a.ids form.0 members a.each form.1.2
  parts_ordinary (enum name tys) d args fits =
      let a = arguments_of ds (enum name tys) d args in
      let form = fits_as generics.Enum d a.generic fits in
      let members : form.0 ∷ form.1 ≡ type_args a.ids = ap behind (sym form.2.1 ∙ a.args) in
      (some_part (listed tys) a.ids form.0 form.1 members a.each, members_ordinary (listed tys) a.ids (form.0 ∷ form.1) members a.each form.2.2)
  parts_ordinary (dict num) d args fits = tt
  parts_ordinary (dict_entry num) d args fits = tt
  parts_ordinary (squashed_dict num) d args fits = tt
  parts_ordinary (uninitialized ty) d (generic, (id, is, at)) fits = initialized_type ty (one_part IsInitialized ty id d.args is at (fits_as generics.Uninitialized d generic fits))

  -- the parts of a type are ordinary
  pub ordinary_parts : (ty : Ty) (id : List ℕ) → IsType ds ty id → HasOrdinaryParts ty
  ordinary_parts ty id (i, d, names, args, passes) = parts_ordinary ty d args passes.fits
