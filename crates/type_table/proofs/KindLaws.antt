-- What a declaration makes of the types that its arguments name.
use Rattle.std.proofs.Common.{◌≡◌, ℕ, suc, Bool, true, false, true≢false, List, [], ◌∷◌, Option, Some, None, refl, ap, sym, subst, ◌∙◌}
use Rattle.std.specs.List.{AllZip, cons_option}
use Rattle.type_trees.specs.Ty.{Ty, number, nonzero, range_check, gas_builtin, box, array, snapshot, struct, enum, dict, dict_entry, squashed_dict, uninitialized}
use Rattle.type_trees.specs.declared.num.Num.{Num}
use Rattle.sierra_types.specs.declared.program.TypeDecl.{TypeDecl}
use Rattle.sierra_types.specs.declared.program.Arg.{Arg}
use Rattle.sierra_types.specs.declared.program.Arg.TheVariants.{OfType}
use Rattle.type_table.specs.declared.generic.Generic.{Generic}
use Rattle.type_table.specs.declared.generic.Generic.TheVariants as generics
use Rattle.type_table.specs.declared.kind.TypeKind.{TypeKind}
use Rattle.type_table.specs.declared.kind.TypeKind.TheVariants as kinds
use Rattle.type_table.specs.declared.forms.Form.{Form}
use Rattle.type_table.specs.declared.forms.Form.TheVariants as forms
use Rattle.type_table.specs.declared.forms.Given.{Given}
use Rattle.type_table.specs.declared.forms.Given.TheVariants as givens
use Rattle.type_table.specs.Naming.{Names}
use Rattle.type_table.specs.Generics.{generic_name}
use Rattle.type_table.specs.Named.{generic_named}
use Rattle.type_table.specs.Trees.{kind_of, generic_of}
use Rattle.type_table.specs.IsType.{HasArgs, IsType}
use Rattle.type_table.specs.Refusals.{named_types, positions_of}
use Rattle.type_table.specs.Resolving.{written, user_in}
use Rattle.type_table.specs.Rows.{IsTypeAt, targets}
use Rattle.type_table.specs.Forms.{IsForm, given_of, kind_given, nothing_given, number_given, type_given, initialized_given, members_given, variants_given, if_true, is_ordinary, is_initialized}
use Rattle.type_table.proofs.Plain.{none-some, some_is}
use Rattle.type_table.proofs.NamedLaws.{named_right, same_generic}
use Rattle.type_table.proofs.Places.{names_place}
use Rattle.type_table.proofs.Trees.{arguments_of, has_args}
use Rattle.type_table.proofs.Unique.{user_in-written}
use Rattle.type_table.proofs.Acyclic.{types_named}
use Rattle.type_table.specs.Resolved.{all_generics, IsClear}
use Rattle.type_table.proofs.GivenLaws.{IsGiven, given_right}
use Rattle.type_table.proofs.MadeLaws.{Takes, made, kind_of-made, user_of-made, parts-made}

abbrev is_number : Generic → Bool
is_number (generics.Number num) = true
is_number _ = false

abbrev number_in : Num → Generic → Num
number_in other (generics.Number num) = num
number_in other _ = other

-- what is a number by its generic name is that number
number_type : (ty : Ty) (num : Num) → generic_of (kind_of ty) ≡ generics.Number num → ty ≡ number num
number_type (number other) num is = ap number (ap (number_in num) is)
number_type range_check num is = absurd (true≢false (sym (ap is_number is)))
number_type gas_builtin num is = absurd (true≢false (sym (ap is_number is)))
number_type (nonzero other) num is = absurd (true≢false (sym (ap is_number is)))
number_type (box ty) num is = absurd (true≢false (sym (ap is_number is)))
number_type (array ty) num is = absurd (true≢false (sym (ap is_number is)))
number_type (snapshot ty) num is = absurd (true≢false (sym (ap is_number is)))
number_type (struct name tys) num is = absurd (true≢false (sym (ap is_number is)))
number_type (enum name tys) num is = absurd (true≢false (sym (ap is_number is)))
number_type (dict other) num is = absurd (true≢false (sym (ap is_number is)))
number_type (dict_entry other) num is = absurd (true≢false (sym (ap is_number is)))
number_type (squashed_dict other) num is = absurd (true≢false (sym (ap is_number is)))
number_type (uninitialized ty) num is = absurd (true≢false (sym (ap is_number is)))

no_more : {A B : Type 0} (R : A → B → Type 0) (xs : List A) → AllZip R xs [] → xs ≡ []
no_more R [] each = refl
no_more R (x ∷ xs) each = absurd each

just_one : {A B : Type 0} (R : A → B → Type 0) (xs : List A) (y : B) → AllZip R xs (y ∷ []) → (x : A) × (xs ≡ x ∷ []) × R x y
just_one R [] y each = absurd each
just_one R (x ∷ []) y each = (x, refl, each.0)
just_one R (x ∷ z ∷ xs) y each = absurd each.1

module _ (ds : List TypeDecl) where
  abbrev pub Parts : List Ty → List Arg → Type 0
  Parts tys args = AllZip (IsTypeAt ds) tys (positions_of ds (named_types args))

  abbrev Taken : TypeKind → Generic → List Arg → List Ty → Type 0
  Taken kind g args tys = Takes kind (user_in args) tys × (generic_of kind ≡ g)

  no_args : (args : List Arg) (tys : List Ty) → args ≡ [] → Parts tys args → (user_in args ≡ None) × (tys ≡ [])
  no_args args tys is each = (ap user_in is, no_more (IsTypeAt ds) tys (subst (Parts tys) is each))

  one_arg : (args : List Arg) (tys : List Ty) (id : List ℕ) (t : ℕ) (e : TypeDecl) → args ≡ OfType id ∷ [] → Names ds id t e → Parts tys args
      → (ty : Ty) × (user_in args ≡ None) × (tys ≡ ty ∷ []) × IsTypeAt ds ty t
  one_arg args tys id t e is names each =
      let at = just_one (IsTypeAt ds) tys t (subst (λ o. AllZip (IsTypeAt ds) tys (cons_option o [])) (names_place ds id t e names) (subst (Parts tys) is each)) in
      (at.0, ap user_in is, at.1, at.2)

  nothing_taken : (kind : TypeKind) (g : Generic) → generic_of kind ≡ g → ((tys : List Ty) (user : Option (List ℕ)) → (user ≡ None) × (tys ≡ []) → Takes kind user tys)
      → (given : Given) (args : List Arg) (tys : List Ty) (found : TypeKind) → IsGiven ds given args → Parts tys args → nothing_given kind given ≡ Some found → Taken found g args tys
  nothing_taken kind g same takes givens.Nothing args tys found is each told =
      subst (λ k. Taken k g args tys) (some_is kind found told) (takes tys (user_in args) (no_args args tys is each), same)
  nothing_taken kind g same takes _ args tys found is each told = absurd (none-some found told)

  type_taken : (kind : TypeKind) (g : Generic) → generic_of kind ≡ g → ((tys : List Ty) (user : Option (List ℕ)) → (ty : Ty) × (user ≡ None) × (tys ≡ ty ∷ []) → Takes kind user tys)
      → (given : Given) (args : List Arg) (tys : List Ty) (found : TypeKind) → IsGiven ds given args → Parts tys args → type_given kind given ≡ Some found → Taken found g args tys
  type_taken kind g same takes (givens.One generic) args tys found (id, t, e, is, names, gen) each told = by (is_ordinary generic) told
    where
      by : (b : Bool) → if_true b kind ≡ Some found → Taken found g args tys
      by false none = absurd (none-some found none)
      by true some =
          let at = one_arg args tys id t e is names each in
          subst (λ k. Taken k g args tys) (some_is kind found some) (takes tys (user_in args) (at.0, at.1, at.2), same)
  type_taken kind g same takes _ args tys found is each told = absurd (none-some found told)

  initialized_taken : (given : Given) (args : List Arg) (tys : List Ty) (found : TypeKind) → IsGiven ds given args → Parts tys args → initialized_given kinds.Uninitialized given ≡ Some found
      → Taken found generics.Uninitialized args tys
  initialized_taken (givens.One generic) args tys found (id, t, e, is, names, gen) each told = by (is_initialized generic) told
    where
      by : (b : Bool) → if_true b kinds.Uninitialized ≡ Some found → Taken found generics.Uninitialized args tys
      by false none = absurd (none-some found none)
      by true some =
          let at = one_arg args tys id t e is names each in
          subst (λ k. Taken k generics.Uninitialized args tys) (some_is kinds.Uninitialized found some) ((at.0, at.1, at.2), refl)
  initialized_taken _ args tys found is each told = absurd (none-some found told)

  number_at : (ty : Ty) (id : List ℕ) (t : ℕ) (e : TypeDecl) (num : Num) → Names ds id t e → Some (generics.Number num) ≡ generic_named e.generic → IsTypeAt ds ty t → ty ≡ number num
  number_at ty id t e num names gen at =
      let decl = some_is at.decl e (sym at.here ∙ names.here) in
      let name = (arguments_of ds ty at.decl at.args).generic in
      number_type ty num (same_generic (generic_of (kind_of ty)) (generics.Number num)
      (sym name ∙ ap (λ d. d.generic) decl ∙ named_right e.generic (generics.Number num) (sym gen)))

  number_taken : (kind : Num → TypeKind) (g : Generic) → ((num : Num) → generic_of (kind num) ≡ g)
      → ((num : Num) (tys : List Ty) (user : Option (List ℕ)) → (user ≡ None) × (tys ≡ number num ∷ []) → Takes (kind num) user tys)
      → (given : Given) (args : List Arg) (tys : List Ty) (found : TypeKind) → IsGiven ds given args → Parts tys args → number_given kind given ≡ Some found → Taken found g args tys
  number_taken kind g same takes (givens.One (Some (generics.Number num))) args tys found (id, t, e, is, names, gen) each told =
      let at = one_arg args tys id t e is names each in
      subst (λ k. Taken k g args tys) (some_is (kind num) found told)
      (takes num tys (user_in args) (at.1, at.2 ∙ ap (λ ty. ty ∷ []) (number_at at.0 id t e num names gen at.3)), same num)
  number_taken kind g same takes _ args tys found is each told = absurd (none-some found told)

  members_taken : (given : Given) (args : List Arg) (tys : List Ty) (found : TypeKind) → IsGiven ds given args → members_given given ≡ Some found → Taken found generics.Struct args tys
  members_taken (givens.Members n) args tys found (name, members, is, all, count) told =
      subst (λ k. Taken k generics.Struct args tys) (some_is kinds.Struct found told) ((name, ap user_in is), refl)
  members_taken _ args tys found is told = absurd (none-some found told)

  variants_taken : (given : Given) (args : List Arg) (tys : List Ty) (found : TypeKind) → IsGiven ds given args → variants_given given ≡ Some found → Taken found generics.Enum args tys
  variants_taken (givens.Members (suc n)) args tys found (name, members, is, all, count) told =
      subst (λ k. Taken k generics.Enum args tys) (some_is kinds.Enum found told) ((name, ap user_in is), refl)
  variants_taken _ args tys found is told = absurd (none-some found told)

  pub given_takes : (g : Generic) (given : Given) (args : List Arg) (tys : List Ty) (found : TypeKind) → IsGiven ds given args → Parts tys args → kind_given g given ≡ Some found → Taken found g args tys
  given_takes (generics.Number num) given args tys found = nothing_taken (kinds.Number num) (generics.Number num) refl (λ tys user t. t) given args tys found
  given_takes generics.RangeCheck given args tys found = nothing_taken kinds.RangeCheck generics.RangeCheck refl (λ tys user t. t) given args tys found
  given_takes generics.GasBuiltin given args tys found = nothing_taken kinds.GasBuiltin generics.GasBuiltin refl (λ tys user t. t) given args tys found
  given_takes generics.NonZero given args tys found = number_taken (λ num. kinds.NonZero num) generics.NonZero (λ num. refl) (λ num tys user t. t) given args tys found
  given_takes generics.Box given args tys found = type_taken kinds.Box generics.Box refl (λ tys user t. t) given args tys found
  given_takes generics.Array given args tys found = type_taken kinds.Array generics.Array refl (λ tys user t. t) given args tys found
  given_takes generics.Snapshot given args tys found = type_taken kinds.Snapshot generics.Snapshot refl (λ tys user t. t) given args tys found
  given_takes generics.Struct given args tys found = λ is each. members_taken given args tys found is
  given_takes generics.Enum given args tys found = λ is each. variants_taken given args tys found is
  given_takes generics.Dict given args tys found = number_taken (λ num. kinds.Dict num) generics.Dict (λ num. refl) (λ num tys user t. t) given args tys found
  given_takes generics.DictEntry given args tys found = number_taken (λ num. kinds.DictEntry num) generics.DictEntry (λ num. refl) (λ num tys user t. t) given args tys found
  given_takes generics.SquashedDict given args tys found = number_taken (λ num. kinds.SquashedDict num) generics.SquashedDict (λ num. refl) (λ num tys user t. t) given args tys found
  given_takes generics.Uninitialized given args tys found = initialized_taken given args tys found

  -- nothing is made of other arguments
  pub none_of_other : (g : Generic) → kind_given g givens.Other ≡ None
  none_of_other (generics.Number num) = refl
  none_of_other generics.RangeCheck = refl
  none_of_other generics.GasBuiltin = refl
  none_of_other generics.NonZero = refl
  none_of_other generics.Box = refl
  none_of_other generics.Array = refl
  none_of_other generics.Snapshot = refl
  none_of_other generics.Struct = refl
  none_of_other generics.Enum = refl
  none_of_other generics.Dict = refl
  none_of_other generics.DictEntry = refl
  none_of_other generics.SquashedDict = refl
  none_of_other generics.Uninitialized = refl

  pub args_written : (form : Form) (g : Generic) (given : List (Option Generic)) (ts : List ℕ) (args : List Arg) (kind : TypeKind) → IsForm form args → kind_given g (given_of form given ts) ≡ Some kind
      → args ≡ written (user_in args) (named_types args)
  args_written forms.Types g given ts args kind is told =
      is ∙ ap (λ user. written user (named_types args)) (sym (ap user_in is ∙ user_in-written None (named_types args)))
  args_written (forms.User name) g given ts args kind is told =
      is ∙ ap (λ user. written user (named_types args)) (sym (ap user_in is))
  args_written forms.Other g given ts args kind is told = absurd (none-some kind (sym (none_of_other g) ∙ told))

  pub clear_takes : (d : TypeDecl) (g : Generic) (form : Form) (kind : TypeKind) (tys : List Ty) → IsClear ds d g form kind → AllZip (IsTypeAt ds) tys (targets ds d)
      → Takes kind (user_in d.args) tys × (generic_of kind ≡ g)
  clear_takes d g form kind tys clear each = given_takes g (given_of form (all_generics ds) (targets ds d)) d.args tys kind (given_right ds form d.args clear.form_right clear.known) each clear.kind_is

  -- the declaration makes a type of the types at the positions that its arguments name
  pub clear_makes : (d : TypeDecl) (g : Generic) (form : Form) (kind : TypeKind) (tys : List Ty) → IsClear ds d g form kind → AllZip (IsTypeAt ds) tys (targets ds d) → HasArgs ds (made kind (user_in d.args) tys) d
  clear_makes d g form kind tys clear each =
      let (takes, same) = clear_takes d g form kind tys clear each in
      let wrote = args_written form g (all_generics ds) (targets ds d) d.args kind clear.form_right clear.kind_is in
      let ty = made kind (user_in d.args) tys in
      has_args ds ty d (record {
        ids = named_types d.args;
        generic = named_right d.generic g clear.generic ∙ ap generic_name (sym same ∙ ap generic_of (sym (kind_of-made kind (user_in d.args) tys)));
        args = wrote ∙ ap (λ user. written user (named_types d.args)) (sym (user_of-made kind (user_in d.args) tys takes));
        each = subst (λ l. AllZip (IsType ds) l (named_types d.args)) (sym (parts-made kind (user_in d.args) tys takes)) (types_named ds tys (named_types d.args) clear.known each);
      })
