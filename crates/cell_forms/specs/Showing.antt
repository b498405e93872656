-- Which value is shown of some cells: by recursion on the type, of plain types in which no array is.
use Rattle.std.specs.Prelude.{ℕ, zero, suc, ◌-◌, nat_lt, cond, List, [], ◌∷◌, ◌++◌, take, drop, length, Option, Some, None, option_map, Result, Ok, Err, ◌≡◌}
use Rattle.type_trees.specs.Ty.{Ty, Tys, number, nonzero, range_check, gas_builtin, box, array, snapshot, struct, enum, dict, dict_entry, squashed_dict, uninitialized, no_types, types, size}
use Rattle.type_trees.specs.declared.num.Num.{Num}
use Rattle.type_table.specs.View.{joined}
use Rattle.type_table.specs.declared.kind.TypeKind.{TypeKind}
use Rattle.type_table.specs.declared.kind.TypeKind.TheVariants as kinds
use Rattle.value_trees.specs.Of.{bound}
use Rattle.value_trees.specs.Val.{Plain, vals_of}
use Rattle.value_trees.specs.Val as val
use Rattle.cell_forms.specs.declared.showing.ShowFault.{ShowFault}
use Rattle.cell_forms.specs.declared.showing.ShowFault.TheVariants as faults

-- a number of the type, in one cell
unfoldable pub number_in : Num → List ℕ → Option Plain
number_in k [] = None
number_in k (n ∷ []) = cond (nat_lt n (bound k)) (Some (val.number k n)) None
number_in k (n ∷ o ∷ cells) = None

-- the values that were shown, before those that are shown of what is left
abbrev pub behind_shown : List Plain → Option (List Plain) → Option (List Plain)
behind_shown done None = None
behind_shown done (Some vs) = Some (done ++ vs)

-- a value, and those that are shown behind it
abbrev pub first_shown : Option Plain → Option (List Plain) → Option (List Plain)
first_shown None rest = None
first_shown (Some v) rest = behind_shown (v ∷ []) rest

abbrev pub struct_shown : Option (List Plain) → Option Plain
struct_shown o = option_map (λ vs. val.struct (vals_of vs)) o

unfoldable mutual
  pub shown : Ty → List ℕ → Option Plain
  shown (number k) cells = number_in k cells
  shown (struct name tys) cells = struct_shown (shown_together tys cells)
  shown (enum name tys) [] = None
  shown (enum name tys) (index ∷ cells) = option_map (val.enum index) (shown_variant tys index cells)
  shown (nonzero k) cells = None
  shown range_check cells = None
  shown gas_builtin cells = None
  shown (box ty) cells = None
  shown (array ty) cells = None
  shown (snapshot ty) cells = None
  shown (dict k) cells = None
  shown (dict_entry k) cells = None
  shown (squashed_dict k) cells = None
  shown (uninitialized ty) cells = None

  -- the values of a struct's members, which take all of the cells
  pub shown_together : Tys → List ℕ → Option (List Plain)
  shown_together no_types [] = Some []
  shown_together no_types (n ∷ cells) = None
  shown_together (types ty tys) cells = first_shown (shown ty (take (size ty) cells)) (shown_together tys (drop (size ty) cells))

  -- the payload of the variant with this index, in the last cells
  pub shown_variant : Tys → ℕ → List ℕ → Option Plain
  shown_variant no_types index cells = None
  shown_variant (types ty tys) zero cells = shown ty (drop (length cells - size ty) cells)
  shown_variant (types ty tys) (suc index) cells = shown_variant tys index cells

unfoldable pub enum_in : Tys → List ℕ → Option Plain
enum_in tys [] = None
enum_in tys (index ∷ cells) = option_map (val.enum index) (shown_variant tys index cells)

-- what is shown of the type of this kind that is made of these types
abbrev pub shown_of_kind : TypeKind → List Ty → List ℕ → Option Plain
shown_of_kind (kinds.Number k) tys cells = number_in k cells
shown_of_kind kinds.Struct tys cells = struct_shown (shown_together (joined tys) cells)
shown_of_kind kinds.Enum tys cells = enum_in (joined tys) cells
shown_of_kind _ tys cells = None

-- what was returned, seen by view, is what is shown, unless memory ran out
abbrev pub Shows : {X A : Type 0} → (X → A) → Result X ShowFault → Option A → Type 0
Shows view (Ok x) o = o ≡ Some (view x)
Shows view (Err faults.NoValue) o = o ≡ None
Shows view (Err faults.Memory) o = Unit {0}
