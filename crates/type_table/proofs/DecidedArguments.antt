-- The type that a declaration's arguments make, where they fit, and where the types that they name can't be denied.
use Rattle.std.proofs.Common.{◌≡◌, ℕ, zero, suc, List, [], ◌∷◌, Some, slice_get, refl, ap, sym, subst, ◌∙◌}
use Rattle.std.specs.List.{All, cons_option}
use Rattle.std.proofs.lemmas.List.Elements.{All-head, All-tail, All-nil, All-cons}
use Rattle.type_trees.specs.Ty.{Ty, Tys, number, nonzero, range_check, gas_builtin, box, array, snapshot, struct, enum, dict, dict_entry, squashed_dict, uninitialized, no_types, types}
use Rattle.type_trees.specs.declared.num.Num.{Num}
use Rattle.sierra_types.specs.declared.program.TypeDecl.{TypeDecl}
use Rattle.sierra_types.specs.declared.program.Arg.{Arg}
use Rattle.sierra_types.specs.declared.program.Arg.TheVariants.{OfType, User}
use Rattle.type_table.specs.declared.generic.Generic.{Generic}
use Rattle.type_table.specs.declared.generic.Generic.TheVariants as generics
use Rattle.type_table.specs.Generics.{generic_name, IsNumber, IsOrdinary, IsInitialized, NamesType, OneType, UserThenTypes, FitsGeneric, Fits}
use Rattle.type_table.specs.Trees.{kind_of, generic_of, user_of, parts}
use Rattle.type_table.specs.Refusals.{named_type, named_types}
use Rattle.type_table.specs.IsType.{HasArgs, IsType, OneArgument, AreTypes}
use Rattle.type_table.specs.Naming.{IsDeclared, ids_of}
use Rattle.type_table.proofs.Plain.{none-some, some_is}
use Rattle.type_table.proofs.NamedLaws.{same_generic}
use Rattle.type_table.proofs.Places.{names_once}
use Rattle.type_table.proofs.Trees.{arguments_of}
use Rattle.type_table.proofs.Unique.{of_generic, name_of, of_generic-parts}
use Rattle.type_table.proofs.DecidedDoubt.{Undeniable, sure, and_then}
use Rattle.type_table.proofs.DecidedLists.{later, contains_at}

is_number : (ty : Ty) (num : Num) → generics.Number num ≡ generic_of (kind_of ty) → number num ≡ ty
is_number ty num generic = ap (λ g. of_generic g (name_of (user_of ty)) (parts ty)) generic ∙ of_generic-parts ty

module _ (ds : List TypeDecl) where
  -- each type that the arguments name can't be denied
  abbrev pub AreKnown : List Arg → Type 0
  AreKnown args = (k : ℕ) (id : List ℕ) → slice_get (named_types args) k ≡ Some id → Undeniable ((ty : Ty) × IsType ds ty id)

  known_later : (arg : Arg) (args : List Arg) → AreKnown (arg ∷ args) → AreKnown args
  known_later arg args known k id is = let at = later (named_type arg) (named_types args) k id is in known at.0 id at.1

  known_first : (arg : Arg) (args : List Arg) (id : List ℕ) → arg ≡ OfType id → AreKnown (arg ∷ args) → Undeniable ((ty : Ty) × IsType ds ty id)
  known_first arg args id is known = known 0 id (ap (λ a. slice_get (cons_option (named_type a) (named_types args)) 0) is)

  one : (Is : List ℕ → Type 0) (args : List Arg) → OneType ds Is args → AreKnown args → Undeniable ((ty : Ty) × OneArgument ds (IsType ds ty) args)
  one Is args (arg, is, names) known =
      and_then (known_first arg [] names.id names.arg_is (subst AreKnown is known))
      (λ found. sure (found.0, (names.id, is ∙ ap (λ a. a ∷ []) names.arg_is, found.1)))

  -- a type whose generic name is that of a number is this number
  number_type : (id : List ℕ) (ty : Ty) (arg : Arg) (names : NamesType ds IsNumber arg) → IsType ds ty names.id → (num : Num) × IsType ds (number num) names.id
  number_type id ty arg names (i, e, others, args, passes) =
      let decl = (names_once ds names.id i names.position e names.decl others names.names).1 in
      let num = names.generic.0 in
      let a = arguments_of ds ty e args in
      let generic : generic_name (generics.Number num) ≡ generic_name (generic_of (kind_of ty)) = sym names.generic.1 ∙ ap (λ d. d.generic) (sym decl) ∙ a.generic in
      let same = is_number ty num (same_generic (generics.Number num) (generic_of (kind_of ty)) generic) in
      (num, subst (λ t. IsType ds t names.id) (sym same) (i, e, others, args, passes))

  numbered : (args : List Arg) → OneType ds IsNumber args → AreKnown args → Undeniable ((num : Num) × OneArgument ds (IsType ds (number num)) args)
  numbered args (arg, is, names) known =
      and_then (known_first arg [] names.id names.arg_is (subst AreKnown is known))
      (λ found. let right = number_type names.id found.0 arg names found.1 in sure (right.0, (names.id, is ∙ ap (λ a. a ∷ []) names.arg_is, right.1)))

  members_made : (members : List Arg) → All (NamesType ds IsOrdinary) members → AreKnown members → Undeniable ((tys : Tys) × AreTypes ds tys members)
  members_made [] each known = sure (no_types, refl)
  members_made (arg ∷ members) each known =
      let names : NamesType ds IsOrdinary arg = All-head (NamesType ds IsOrdinary) arg members each in
      and_then (known_first arg members names.id names.arg_is known) (λ found.
      and_then (members_made members (All-tail (NamesType ds IsOrdinary) arg members each) (known_later arg members known)) (λ rest.
      sure (types found.0 rest.0, (names.id, members, ap (λ a. a ∷ members) names.arg_is, found.1, rest.1))))

  user_made : (args members : List Arg) → UserThenTypes ds args members → AreKnown args
      → Undeniable ((name : List ℕ) × (tys : Tys) × (args ≡ User name ∷ members) × AreTypes ds tys members)
  user_made args members (name, is, each) known =
      and_then (members_made members each (known_later (User name) members (subst AreKnown is known))) (λ found. sure (name, found.0, is, found.1))

  generic_made : (d : TypeDecl) (g : Generic) → d.generic ≡ generic_name g → FitsGeneric ds g d.args → AreKnown d.args → Undeniable ((ty : Ty) × HasArgs ds ty d)
  generic_made d (generics.Number num) is fits known = sure (number num, (is, fits))
  generic_made d generics.RangeCheck is fits known = sure (range_check, (is, fits))
  generic_made d generics.GasBuiltin is fits known = sure (gas_builtin, (is, fits))
  generic_made d generics.NonZero is fits known = and_then (numbered d.args fits known) (λ a. sure (nonzero a.0, (is, a.1)))
  generic_made d generics.Box is fits known = and_then (one _ d.args fits known) (λ a. sure (box a.0, (is, a.1)))
  generic_made d generics.Array is fits known = and_then (one _ d.args fits known) (λ a. sure (array a.0, (is, a.1)))
  generic_made d generics.Snapshot is fits known = and_then (one _ d.args fits known) (λ a. sure (snapshot a.0, (is, a.1)))
  generic_made d generics.Struct is (members, fits) known = and_then (user_made d.args members fits known) (λ a. sure (struct a.0 a.1, (is, members, a.2, a.3)))
  generic_made d generics.Enum is (variant, more, fits) known = and_then (user_made d.args (variant ∷ more) fits known) (λ a. sure (enum a.0 a.1, (is, variant ∷ more, a.2, a.3)))
  generic_made d generics.Dict is fits known = and_then (numbered d.args fits known) (λ a. sure (dict a.0, (is, a.1)))
  generic_made d generics.DictEntry is fits known = and_then (numbered d.args fits known) (λ a. sure (dict_entry a.0, (is, a.1)))
  generic_made d generics.SquashedDict is fits known = and_then (numbered d.args fits known) (λ a. sure (squashed_dict a.0, (is, a.1)))
  generic_made d generics.Uninitialized is fits known = and_then (one _ d.args fits known) (λ a. sure (uninitialized a.0, (is, a.1)))

  -- arguments that fit make a type
  pub type_made : (d : TypeDecl) → Fits ds d.generic d.args → AreKnown d.args → Undeniable ((ty : Ty) × HasArgs ds ty d)
  type_made d (g, is, fits) known = generic_made d g is fits known

  -- ---- arguments that fit name declared types

  members_declared : (Is : List ℕ → Type 0) (args : List Arg) → All (NamesType ds Is) args → (k : ℕ) (id : List ℕ) → slice_get (named_types args) k ≡ Some id → IsDeclared ds id
  members_declared Is [] each k id is = absurd (none-some id is)
  members_declared Is (arg ∷ args) each k id is =
      let names : NamesType ds Is arg = All-head (NamesType ds Is) arg args each in
      by names k (ap (λ a. slice_get (cons_option (named_type a) (named_types args)) k) (sym names.arg_is) ∙ is) (λ j there. members_declared Is args (All-tail (NamesType ds Is) arg args each) j id there)
    where
      by : (names : NamesType ds Is arg) (k : ℕ) → slice_get (names.id ∷ named_types args) k ≡ Some id → ((j : ℕ) → slice_get (named_types args) j ≡ Some id → IsDeclared ds id) → IsDeclared ds id
      by names zero is rest = subst (IsDeclared ds) (some_is names.id id is) (contains_at (ids_of ds) names.position names.id names.names.first.here)
      by names (suc k) is rest = rest k is

  abbrev Declares : List Arg → Type 0
  Declares args = (k : ℕ) (id : List ℕ) → slice_get (named_types args) k ≡ Some id → IsDeclared ds id

  none_declared : (args : List Arg) → args ≡ [] → Declares args
  none_declared args is k id there = absurd (none-some id (ap (λ l. slice_get (named_types l) k) (sym is) ∙ there))

  one_declared : (Is : List ℕ → Type 0) (args : List Arg) → OneType ds Is args → Declares args
  one_declared Is args (arg, is, names) = subst Declares (sym is) (members_declared Is (arg ∷ []) (All-cons (NamesType ds Is) arg [] names (All-nil (NamesType ds Is))))

  user_declared : (args members : List Arg) → UserThenTypes ds args members → Declares args
  user_declared args members (name, is, each) = subst Declares (sym is) (members_declared IsOrdinary members each)

  generic_declared : (g : Generic) (args : List Arg) → FitsGeneric ds g args → Declares args
  generic_declared (generics.Number num) args fits = none_declared args fits
  generic_declared generics.RangeCheck args fits = none_declared args fits
  generic_declared generics.GasBuiltin args fits = none_declared args fits
  generic_declared generics.NonZero args fits = one_declared IsNumber args fits
  generic_declared generics.Box args fits = one_declared IsOrdinary args fits
  generic_declared generics.Array args fits = one_declared IsOrdinary args fits
  generic_declared generics.Snapshot args fits = one_declared IsOrdinary args fits
  generic_declared generics.Struct args (members, fits) = user_declared args members fits
  generic_declared generics.Enum args (variant, more, fits) = user_declared args (variant ∷ more) fits
  generic_declared generics.Dict args fits = one_declared IsNumber args fits
  generic_declared generics.DictEntry args fits = one_declared IsNumber args fits
  generic_declared generics.SquashedDict args fits = one_declared IsNumber args fits
  generic_declared generics.Uninitialized args fits = one_declared IsInitialized args fits

  -- what arguments that fit name is declared
  pub fits_declared : (d : TypeDecl) → Fits ds d.generic d.args → Declares d.args
  fits_declared d (g, is, fits) = generic_declared g d.args fits
