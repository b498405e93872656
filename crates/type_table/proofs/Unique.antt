-- A declaration makes one type at most, and a type is made by one declaration at most.
use Rattle.std.proofs.Common.{◌≡◌, ◌⊎◌, inl, inr, ℕ, zero, suc, ◌<◌, ◌≤◌, List, [], ◌∷◌, Option, Some, None, unwrap_or, refl, ap, sym, subst, ◌∙◌, arith}
use Rattle.std.specs.List.{AllZip}
use Rattle.std.proofs.lemmas.Bool.{cases_order}
use Rattle.type_trees.specs.Ty.{Ty, number, nonzero, range_check, gas_builtin, box, array, snapshot, struct, enum, dict, dict_entry, squashed_dict, uninitialized, depth}
use Rattle.type_trees.specs.declared.num.Num.{Num}
use Rattle.type_trees.specs.declared.num.Num.TheVariants as nums
use Rattle.sierra_types.specs.declared.program.TypeDecl.{TypeDecl}
use Rattle.type_table.specs.declared.generic.Generic.{Generic}
use Rattle.type_table.specs.declared.generic.Generic.TheVariants as generics
use Rattle.type_table.specs.Naming.{Names}
use Rattle.type_table.specs.Trees.{kind_of, generic_of, user_of, parts}
use Rattle.type_table.specs.Refusals.{named_types}
use Rattle.type_table.specs.IsType.{HasArgs, IsType}
use Rattle.type_table.specs.Resolving.{type_args, written, user_in}
use Rattle.type_table.specs.Rows.{IsTypeAt}
use Rattle.type_table.specs.View.{joined, only}
use Rattle.type_table.proofs.Plain.{some_is}
use Rattle.type_table.proofs.NamedLaws.{same_generic}
use Rattle.type_table.proofs.Places.{names_once, names_id}
use Rattle.type_table.proofs.Trees.{arguments_of, joined-listed, AllBelow, parts_below, depth_positive}

-- what arguments are written of
pub ids_in : (ids : List (List ℕ)) → named_types (type_args ids) ≡ ids
ids_in [] = refl
ids_in (id ∷ ids) = ap (λ l. id ∷ l) (ids_in ids)

pub named_types-written : (user : Option (List ℕ)) (ids : List (List ℕ)) → named_types (written user ids) ≡ ids
named_types-written None ids = ids_in ids
named_types-written (Some name) ids = ids_in ids

pub user_in-written : (user : Option (List ℕ)) (ids : List (List ℕ)) → user_in (written user ids) ≡ user
user_in-written None [] = refl
user_in-written None (id ∷ ids) = refl
user_in-written (Some name) ids = refl

-- the number that a type is
abbrev pub number_in : Ty → Num
number_in (number num) = num
number_in _ = nums.Felt64

-- the type of this generic type, with this name behind `ut@` and these type arguments
abbrev pub of_generic : Generic → List ℕ → List Ty → Ty
of_generic (generics.Number num) name tys = number num
of_generic generics.NonZero name tys = nonzero (number_in (only tys))
of_generic generics.RangeCheck name tys = range_check
of_generic generics.GasBuiltin name tys = gas_builtin
of_generic generics.Box name tys = box (only tys)
of_generic generics.Array name tys = array (only tys)
of_generic generics.Snapshot name tys = snapshot (only tys)
of_generic generics.Struct name tys = struct name (joined tys)
of_generic generics.Enum name tys = enum name (joined tys)
of_generic generics.Dict name tys = dict (number_in (only tys))
of_generic generics.DictEntry name tys = dict_entry (number_in (only tys))
of_generic generics.SquashedDict name tys = squashed_dict (number_in (only tys))
of_generic generics.Uninitialized name tys = uninitialized (only tys)

abbrev pub name_of : Option (List ℕ) → List ℕ
name_of user = unwrap_or user []

pub of_generic-parts : (ty : Ty) → of_generic (generic_of (kind_of ty)) (name_of (user_of ty)) (parts ty) ≡ ty
of_generic-parts (number num) = refl
of_generic-parts range_check = refl
of_generic-parts gas_builtin = refl
of_generic-parts (nonzero num) = refl
of_generic-parts (box ty) = refl
of_generic-parts (array ty) = refl
of_generic-parts (snapshot ty) = refl
of_generic-parts (struct name tys) = ap (struct name) (joined-listed tys)
of_generic-parts (enum name tys) = ap (enum name) (joined-listed tys)
of_generic-parts (dict num) = refl
of_generic-parts (dict_entry num) = refl
of_generic-parts (squashed_dict num) = refl
of_generic-parts (uninitialized ty) = refl

pub same_type : (a b : Ty) → generic_of (kind_of a) ≡ generic_of (kind_of b) → user_of a ≡ user_of b → parts a ≡ parts b → a ≡ b
same_type a b g u p =
    sym (of_generic-parts a)
    ∙ ap (λ h. of_generic h (name_of (user_of a)) (parts a)) g
    ∙ ap (λ o. of_generic (generic_of (kind_of b)) (name_of o) (parts a)) u
    ∙ ap (of_generic (generic_of (kind_of b)) (name_of (user_of b))) p
    ∙ of_generic-parts b

module _ (ds : List TypeDecl) where
  -- how two ways in which a declaration's arguments make types are one
  same_parts : (n : ℕ) → ((a b : Ty) (d : TypeDecl) → depth a ≤ n → HasArgs ds a d → HasArgs ds b d → a ≡ b)
      → (limit : ℕ) → limit ≤ suc n → (ps qs : List Ty) (ids : List (List ℕ)) → AllBelow limit ps → AllZip (IsType ds) ps ids → AllZip (IsType ds) qs ids → ps ≡ qs
  same_parts n one limit few [] [] [] below x y = refl
  same_parts n one limit few [] (b ∷ qs) [] below x y = absurd y
  same_parts n one limit few (a ∷ ps) qs [] below x y = absurd x
  same_parts n one limit few [] qs (id ∷ ids) below x y = absurd x
  same_parts n one limit few (a ∷ ps) [] (id ∷ ids) below x y = absurd y
  same_parts n one limit few (a ∷ ps) (b ∷ qs) (id ∷ ids) below ((i, d, names, args, passes), xs) ((j, e, others, brgs, basses), ys) =
      let decl = (names_once ds id j i e d others names).1 in
      let same : a ≡ b = one a b d (omega (arith, below.0, few)) args (subst (HasArgs ds b) decl brgs) in
      let rest : ps ≡ qs = same_parts n one limit few ps qs ids below.1 xs ys in
      ap (λ t. t ∷ ps) same ∙ ap (λ l. b ∷ l) rest

  step : (n : ℕ) → ((a b : Ty) (d : TypeDecl) → depth a ≤ n → HasArgs ds a d → HasArgs ds b d → a ≡ b)
      → (a b : Ty) (d : TypeDecl) → depth a ≤ suc n → HasArgs ds a d → HasArgs ds b d → a ≡ b
  step n one a b d few x y =
      let p = arguments_of ds a d x in
      let q = arguments_of ds b d y in
      let wrote = sym p.args ∙ q.args in
      let ids = sym (named_types-written (user_of a) p.ids) ∙ ap named_types wrote ∙ named_types-written (user_of b) q.ids in
      let user = sym (user_in-written (user_of a) p.ids) ∙ ap user_in wrote ∙ user_in-written (user_of b) q.ids in
      let generic = same_generic (generic_of (kind_of a)) (generic_of (kind_of b)) (sym p.generic ∙ q.generic) in
      same_type a b generic user
      (same_parts n one (depth a) few (parts a) (parts b) q.ids (parts_below a) (subst (AllZip (IsType ds) (parts a)) ids p.each) q.each)

  within : (n : ℕ) (a b : Ty) (d : TypeDecl) → depth a ≤ n → HasArgs ds a d → HasArgs ds b d → a ≡ b
  within zero a b d few x y = absurd (omega (arith, depth_positive a, few))
  within (suc n) a b d few x y = step n (within n) a b d few x y

  -- a declaration's arguments make one type
  pub one_type : (a b : Ty) (d : TypeDecl) → HasArgs ds a d → HasArgs ds b d → a ≡ b
  one_type a b d x y = within (depth a) a b d (omega arith) x y

  pub one_type_at : (a b : Ty) (i : ℕ) → IsTypeAt ds a i → IsTypeAt ds b i → a ≡ b
  one_type_at a b i x y = one_type a b x.decl x.args (subst (HasArgs ds b) (some_is y.decl x.decl (sym y.here ∙ x.here)) y.args)

  -- what is said of the declarations of types that aren't deeper than this
  abbrev Once : ℕ → Type 0
  Once n = (ty : Ty) (i j : ℕ) → depth ty ≤ n → IsTypeAt ds ty i → IsTypeAt ds ty j → i ≡ j

  same_ids : (n : ℕ) → Once n → (limit : ℕ) → limit ≤ suc n → (tys : List Ty) (ps qs : List (List ℕ)) → AllBelow limit tys → AllZip (IsType ds) tys ps → AllZip (IsType ds) tys qs → ps ≡ qs
  same_ids n once limit few [] [] [] below x y = refl
  same_ids n once limit few [] [] (b ∷ qs) below x y = absurd y
  same_ids n once limit few [] (a ∷ ps) qs below x y = absurd x
  same_ids n once limit few (ty ∷ tys) [] qs below x y = absurd x
  same_ids n once limit few (ty ∷ tys) (a ∷ ps) [] below x y = absurd y
  same_ids n once limit few (ty ∷ tys) (a ∷ ps) (b ∷ qs) below ((i, d, names, args, passes), xs) ((j, e, others, brgs, basses), ys) =
      let place : i ≡ j = once ty i j (omega (arith, below.0, few))
      (record { decl = d; here = names.here; args = args; passes = passes }) (record { decl = e; here = others.here; args = brgs; passes = basses }) in
      let same : a ≡ b = names_id ds a b j d e (subst (λ k. Names ds a k d) place names) others in
      ap (λ id. id ∷ ps) same ∙ ap (λ l. b ∷ l) (same_ids n once limit few tys ps qs below.1 xs ys)

  same_args : (n : ℕ) → Once n → (ty : Ty) (d e : TypeDecl) → depth ty ≤ suc n → HasArgs ds ty d → HasArgs ds ty e → (d.generic ≡ e.generic) × (d.args ≡ e.args)
  same_args n once ty d e few x y =
      let p = arguments_of ds ty d x in
      let q = arguments_of ds ty e y in
      let ids = same_ids n once (depth ty) few (parts ty) p.ids q.ids (parts_below ty) p.each q.each in
      (p.generic ∙ sym q.generic, p.args ∙ ap (written (user_of ty)) ids ∙ sym q.args)

  once_step : (n : ℕ) → Once n → Once (suc n)
  once_step n once ty i j few x y = by (cases_order i j)
    where
      by : (i ≡ j) ⊎ ((i < j) ⊎ (j < i)) → i ≡ j
      by (inl same) = same
      by (inr (inl less)) = absurd (y.passes.fresh (i, x.decl, less, x.here, inr (same_args n once ty x.decl y.decl few x.args y.args)))
      by (inr (inr less)) = absurd (x.passes.fresh (j, y.decl, less, y.here, inr (same_args n once ty y.decl x.decl few y.args x.args)))

  once_within : (n : ℕ) → Once n
  once_within zero ty i j few x y = absurd (omega (arith, depth_positive ty, few))
  once_within (suc n) ty i j few x y = once_step n (once_within n) ty i j few x y

  -- a type is at one position
  pub one_position : (ty : Ty) (i j : ℕ) → IsTypeAt ds ty i → IsTypeAt ds ty j → i ≡ j
  one_position ty i j = once_within (depth ty) ty i j (omega arith)
