-- A type and its arguments, without cases on the kind of type: its generic name, the name behind `ut@`, and the types that
-- its arguments name.
use Rattle.std.proofs.Common.{◌≡◌, ℕ, ◌+◌, ◌<◌, ◌≤◌, max, List, [], ◌∷◌, unwrap_or, refl, ap, sym, subst, ◌∙◌, arith}
use Rattle.std.specs.List.{AllZip}
use Rattle.type_trees.specs.Ty.{Ty, Tys, number, nonzero, range_check, gas_builtin, box, array, snapshot, struct, enum, dict, dict_entry, squashed_dict, uninitialized, no_types, types, depth, greatest_depth}
use Rattle.type_trees.specs.declared.num.Num.{Num}
use Rattle.sierra_types.specs.declared.program.TypeDecl.{TypeDecl}
use Rattle.sierra_types.specs.declared.program.Arg.{Arg}
use Rattle.sierra_types.specs.declared.program.Arg.TheVariants.{OfType, User}
use Rattle.type_table.specs.Generics.{generic_name}
use Rattle.type_table.specs.Trees.{kind_of, generic_of, user_of, listed, parts}
use Rattle.type_table.specs.IsType.{HasArgs, AreTypes, IsType, OneArgument}
use Rattle.type_table.specs.Resolving.{type_args, written}
use Rattle.type_table.specs.View.{joined, made_of}

pub record Arguments (ds : List TypeDecl) (ty : Ty) (d : TypeDecl) : Type 0 where
  pub ids : List (List ℕ)
  pub generic : d.generic ≡ generic_name (generic_of (kind_of ty))
  pub args : d.args ≡ written (user_of ty) ids
  pub each : AllZip (IsType ds) (parts ty) ids

module _ (ds : List TypeDecl) where
  pub listed_args : (tys : Tys) (args : List Arg) → AreTypes ds tys args → (ids : List (List ℕ)) × (args ≡ type_args ids) × AllZip (IsType ds) (listed tys) ids
  listed_args no_types args is = ([], is, tt)
  listed_args (types ty tys) args (id, more, is, first, rest) =
      let others = listed_args tys more rest in
      (id ∷ others.0, is ∙ ap (λ l. OfType id ∷ l) others.1, (first, others.2))

  pub joined_args : (tys : Tys) (ids : List (List ℕ)) → AllZip (IsType ds) (listed tys) ids → AreTypes ds tys (type_args ids)
  joined_args no_types [] each = refl
  joined_args no_types (id ∷ ids) each = absurd each
  joined_args (types ty tys) [] each = absurd each
  joined_args (types ty tys) (id ∷ ids) each = (id, type_args ids, refl, each.0, joined_args tys ids each.1)

  one : (ty : Ty) (args : List Arg) → OneArgument ds (IsType ds ty) args → (ids : List (List ℕ)) × (args ≡ type_args ids) × AllZip (IsType ds) (ty ∷ []) ids
  one ty args (id, is, first) = (id ∷ [], is, (first, tt))

  back_one : (ty : Ty) (ids : List (List ℕ)) → AllZip (IsType ds) (ty ∷ []) ids → OneArgument ds (IsType ds ty) (type_args ids)
  back_one ty [] each = absurd each
  back_one ty (id ∷ []) each = (id, refl, each.0)
  back_one ty (id ∷ other ∷ ids) each = absurd each.1

  made : (ty : Ty) (d : TypeDecl) → d.generic ≡ generic_name (generic_of (kind_of ty)) → (ids : List (List ℕ)) × (d.args ≡ written (user_of ty) ids) × AllZip (IsType ds) (parts ty) ids → Arguments ds ty d
  made ty d generic others = record { ids = others.0; generic = generic; args = others.1; each = others.2 }

  pub arguments_of : (ty : Ty) (d : TypeDecl) → HasArgs ds ty d → Arguments ds ty d
  arguments_of (number num) d (generic, none) = record { ids = []; generic = generic; args = none; each = tt }
  arguments_of range_check d (generic, none) = record { ids = []; generic = generic; args = none; each = tt }
  arguments_of gas_builtin d (generic, none) = record { ids = []; generic = generic; args = none; each = tt }
  arguments_of (nonzero num) d (generic, arg) = made (nonzero num) d generic (one (number num) d.args arg)
  arguments_of (box ty) d (generic, arg) = made (box ty) d generic (one ty d.args arg)
  arguments_of (array ty) d (generic, arg) = made (array ty) d generic (one ty d.args arg)
  arguments_of (snapshot ty) d (generic, arg) = made (snapshot ty) d generic (one ty d.args arg)
  arguments_of (struct name tys) d (generic, members, is, each) =
      let others = listed_args tys members each in
      made (struct name tys) d generic (others.0, is ∙ ap (λ l. User name ∷ l) others.1, others.2)
  arguments_of (enum name tys) d (generic, variants, is, each) =
      let others = listed_args tys variants each in
      made (enum name tys) d generic (others.0, is ∙ ap (λ l. User name ∷ l) others.1, others.2)
  arguments_of (dict num) d (generic, arg) = made (dict num) d generic (one (number num) d.args arg)
  arguments_of (dict_entry num) d (generic, arg) = made (dict_entry num) d generic (one (number num) d.args arg)
  arguments_of (squashed_dict num) d (generic, arg) = made (squashed_dict num) d generic (one (number num) d.args arg)
  arguments_of (uninitialized ty) d (generic, arg) = made (uninitialized ty) d generic (one ty d.args arg)

  none_left : (ids : List (List ℕ)) (args : List Arg) → args ≡ type_args ids → AllZip (IsType ds) [] ids → args ≡ []
  none_left [] args is each = is
  none_left (id ∷ ids) args is each = absurd each

  back : (ty : Ty) (args : List Arg) (ids : List (List ℕ)) → args ≡ type_args ids → AllZip (IsType ds) (ty ∷ []) ids → OneArgument ds (IsType ds ty) args
  back ty args ids is each = subst (OneArgument ds (IsType ds ty)) (sym is) (back_one ty ids each)

  pub has_args : (ty : Ty) (d : TypeDecl) → Arguments ds ty d → HasArgs ds ty d
  has_args (number num) d a = (a.generic, none_left a.ids d.args a.args a.each)
  has_args range_check d a = (a.generic, none_left a.ids d.args a.args a.each)
  has_args gas_builtin d a = (a.generic, none_left a.ids d.args a.args a.each)
  has_args (nonzero num) d a = (a.generic, back (number num) d.args a.ids a.args a.each)
  has_args (box ty) d a = (a.generic, back ty d.args a.ids a.args a.each)
  has_args (array ty) d a = (a.generic, back ty d.args a.ids a.args a.each)
  has_args (snapshot ty) d a = (a.generic, back ty d.args a.ids a.args a.each)
  has_args (struct name tys) d a = (a.generic, type_args a.ids, a.args, joined_args tys a.ids a.each)
  has_args (enum name tys) d a = (a.generic, type_args a.ids, a.args, joined_args tys a.ids a.each)
  has_args (dict num) d a = (a.generic, back (number num) d.args a.ids a.args a.each)
  has_args (dict_entry num) d a = (a.generic, back (number num) d.args a.ids a.args a.each)
  has_args (squashed_dict num) d a = (a.generic, back (number num) d.args a.ids a.args a.each)
  has_args (uninitialized ty) d a = (a.generic, back ty d.args a.ids a.args a.each)

-- the number that a type is
abbrev pub number_of : Ty → Num → Num
number_of (number num) other = num
number_of _ other = other

pub joined-listed : (tys : Tys) → joined (listed tys) ≡ tys
joined-listed no_types = refl
joined-listed (types ty tys) = ap (types ty) (joined-listed tys)

-- a type is what its kind, its name and its parts make
pub made_of-parts : (ty : Ty) → made_of (kind_of ty) (unwrap_or (user_of ty) []) (parts ty) ≡ ty
made_of-parts (number num) = refl
made_of-parts range_check = refl
made_of-parts gas_builtin = refl
made_of-parts (nonzero num) = refl
made_of-parts (box ty) = refl
made_of-parts (array ty) = refl
made_of-parts (snapshot ty) = refl
made_of-parts (struct name tys) = ap (struct name) (joined-listed tys)
made_of-parts (enum name tys) = ap (enum name) (joined-listed tys)
made_of-parts (dict num) = refl
made_of-parts (dict_entry num) = refl
made_of-parts (squashed_dict num) = refl
made_of-parts (uninitialized ty) = refl

-- each is less deep than the limit
abbrev pub AllBelow : ℕ → List Ty → Type 0
AllBelow limit [] = Unit {0}
AllBelow limit (ty ∷ tys) = (depth ty < limit) × AllBelow limit tys

below_more : (a b : ℕ) (tys : List Ty) → a ≤ b → AllBelow a tys → AllBelow b tys
below_more a b [] le each = tt
below_more a b (ty ∷ tys) le each = (omega (arith, each.0), below_more a b tys le each.1)

listed_below : (tys : Tys) → AllBelow (1 + greatest_depth tys) (listed tys)
listed_below no_types = tt
listed_below (types ty tys) =
    (grind arith, below_more (1 + greatest_depth tys) (1 + max (depth ty) (greatest_depth tys)) (listed tys) (grind arith) (listed_below tys))

pub parts_below : (ty : Ty) → AllBelow (depth ty) (parts ty)
parts_below (number num) = tt
parts_below range_check = tt
parts_below gas_builtin = tt
parts_below (nonzero num) = (omega arith, tt)
parts_below (box ty) = (omega arith, tt)
parts_below (array ty) = (omega arith, tt)
parts_below (snapshot ty) = (omega arith, tt)
parts_below (struct name tys) = listed_below tys
parts_below (enum name tys) = listed_below tys
parts_below (dict num) = (omega arith, tt)
parts_below (dict_entry num) = (omega arith, tt)
parts_below (squashed_dict num) = (omega arith, tt)
parts_below (uninitialized ty) = (omega arith, tt)

pub depth_positive : (ty : Ty) → 0 < depth ty
depth_positive (number num) = omega arith
depth_positive range_check = omega arith
depth_positive gas_builtin = omega arith
depth_positive (nonzero num) = omega arith
depth_positive (box ty) = omega arith
depth_positive (array ty) = omega arith
depth_positive (snapshot ty) = omega arith
depth_positive (struct name tys) = omega arith
depth_positive (enum name tys) = omega arith
depth_positive (dict num) = omega arith
depth_positive (dict_entry num) = omega arith
depth_positive (squashed_dict num) = omega arith
depth_positive (uninitialized ty) = omega arith
