-- What a declaration is read as: functions by which the code computes. Laws join them to the forms of arguments.
use Rattle.std.specs.Prelude.{ℕ, suc, ◌-◌, length, List, [], ◌∷◌, Bool, true, false, ◌&&◌, Option, Some, None, if◌then◌else◌, option_and_then, nat_lt}
use Rattle.std.specs.Option.{option_map}
use Rattle.std.specs.Str.{bytes_eq}
use Rattle.felt64.specs.Field.{modulus}
use Rattle.type_trees.specs.declared.num.Num.{Num}
use Rattle.type_trees.specs.declared.num.Num.TheVariants as nums
use Rattle.sierra_types.specs.declared.program.Arg.{Arg}
use Rattle.sierra_types.specs.declared.program.Arg.TheVariants as args
use Rattle.type_table.specs.declared.kind.TypeKind.{TypeKind}
use Rattle.type_table.specs.declared.kind.TypeKind.TheVariants as kinds
use Rattle.type_table.specs.declared.type_id.TypeId.{TypeId}
use Rattle.type_table.specs.Trees.{kind_of, parts}
use Rattle.type_table.specs.View.{TypesView, tree_of}
use Rattle.libfunc_registry.specs.declared.width.Width.{Width}
use Rattle.libfunc_registry.specs.declared.width.Width.TheVariants as widths
use Rattle.libfunc_registry.specs.declared.libfunc.Libfunc.{Libfunc}
use Rattle.libfunc_registry.specs.Control.{control_rows}
use Rattle.libfunc_registry.specs.Gas.{gas_rows}
use Rattle.libfunc_registry.specs.Felts.{felts_rows}
use Rattle.libfunc_registry.specs.Integers.{u8_rows, u16_rows, u32_rows, cast_rows}
use Rattle.libfunc_registry.specs.Data.{data_rows}
use Rattle.libfunc_registry.specs.Arrays.{arrays_rows}
use Rattle.libfunc_registry.specs.Dictionaries.{dictionaries_rows}
use Rattle.libfunc_registry.specs.Arguments.{Form, nothing, a_type, a_number_type, an_enum, a_variant, a_struct, a_function, a_constant, two_widths, range_of}

-- the first place of an id
unfoldable pub place_of : List (List ℕ) → List ℕ → Option ℕ
place_of [] id = None
place_of (x ∷ xs) id = if bytes_eq x id then Some 0 else option_map suc (place_of xs id)

-- the width whose integers are of this type
abbrev pub width_of : Num → Option Width
width_of nums.Felt64 = None
width_of nums.U8 = Some widths.W8
width_of nums.U16 = Some widths.W16
width_of nums.U32 = Some widths.W32

abbrev pub number_kind : TypeKind → Option Num
number_kind (kinds.Number num) = Some num
number_kind _ = None

abbrev pub is_enum : TypeKind → Bool
is_enum kinds.Enum = true
is_enum _ = false

abbrev pub is_struct : TypeKind → Bool
is_struct kinds.Struct = true
is_struct _ = false

abbrev pub checked : {A : Type 0} → Bool → A → Option A
checked b a = if b then Some a else None

-- the word of a constant
abbrev pub word_of : Num → Bool → ℕ → Option ℕ
word_of num false n = checked (nat_lt n (range_of num)) n
word_of nums.Felt64 true n = checked (nat_lt 0 n && nat_lt n modulus) (modulus - n)
word_of num true n = None

-- the first of two that is there
abbrev pub first_of : {A : Type 0} → Option A → Option A → Option A
first_of None later = later
first_of (Some found) later = Some found

-- the one argument, if it is a type
abbrev pub only_type : List Arg → Option (List ℕ)
only_type (args.OfType id ∷ []) = Some id
only_type _ = None

-- the one argument as the word of a constant
abbrev pub constant_in : Num → List Arg → Option ℕ
constant_in num (args.Number negative n ∷ []) = word_of num negative n
constant_in num _ = None

module _ (types : TypesView) where
  -- the type with this id
  unfoldable pub type_named : List ℕ → Option TypeId
  type_named id = option_map (λ i. record { 0 = i }) (place_of types.ids id)

  -- the function with this id
  unfoldable pub function_named : List ℕ → Option ℕ
  function_named id = place_of types.function_ids id

  abbrev pub kind_at : TypeId → TypeKind
  kind_at t = kind_of (tree_of types t.0)

  abbrev pub number_named : List ℕ → Option Num
  number_named id = option_and_then (λ t. number_kind (kind_at t)) (type_named id)

  abbrev pub enum_named : List ℕ → Option TypeId
  enum_named id = option_and_then (λ t. checked (is_enum (kind_at t)) t) (type_named id)

  abbrev pub struct_named : List ℕ → Option TypeId
  struct_named id = option_and_then (λ t. checked (is_struct (kind_at t)) t) (type_named id)

  abbrev pub width_named : List ℕ → Option Width
  width_named id = option_and_then width_of (number_named id)

  abbrev pub type_in : List Arg → Option TypeId
  type_in given = option_and_then type_named (only_type given)

  abbrev pub number_in : List Arg → Option Num
  number_in given = option_and_then number_named (only_type given)

  abbrev pub enum_in : List Arg → Option TypeId
  enum_in given = option_and_then enum_named (only_type given)

  abbrev pub struct_in : List Arg → Option TypeId
  struct_in given = option_and_then struct_named (only_type given)

  -- an enum, and the index of one of its variants
  abbrev pub variant_in : List Arg → Option (TypeId × ℕ)
  variant_in (args.OfType id ∷ args.Number false index ∷ []) =
      option_and_then (λ t. checked (nat_lt index (length (parts (tree_of types t.0)))) (t, index)) (enum_named id)
  variant_in _ = None

  abbrev pub function_in : List Arg → Option ℕ
  function_in (args.Callee id ∷ []) = function_named id
  function_in _ = None

  abbrev pub widths_in : List Arg → Option (Width × Width)
  widths_in (args.OfType from ∷ args.OfType to ∷ []) =
      option_and_then (λ a. option_map (λ b. (a, b)) (width_named to)) (width_named from)
  widths_in _ = None

  -- the libfunc that arguments of a form make
  abbrev pub made : Form → List Arg → Option Libfunc
  made (nothing libfunc) [] = Some libfunc
  made (nothing libfunc) (arg ∷ given) = None
  made (a_type make) given = option_map make (type_in given)
  made (a_number_type make) given = option_map make (number_in given)
  made (an_enum make) given = option_map make (enum_in given)
  made (a_variant make) given = option_map (λ p. make p.0 p.1) (variant_in given)
  made (a_struct make) given = option_map make (struct_in given)
  made (a_function make) given = option_map make (function_in given)
  made (a_constant num make) given = option_map make (constant_in num given)
  made (two_widths may make) given = option_and_then (λ p. checked (may p.0 p.1) (make p.0 p.1)) (widths_in given)

  -- what the first row with this name makes
  abbrev pub read : List (List ℕ × Form) → List ℕ → List Arg → Option (Option Libfunc)
  read [] name given = None
  read (row ∷ rows) name given = if bytes_eq name row.0 then Some (made row.1 given) else read rows name given

  -- the same of all widths
  abbrev pub read_integers : List ℕ → List Arg → Option (Option Libfunc)
  read_integers name given =
      first_of (read u8_rows name given)
      (first_of (read u16_rows name given)
      (first_of (read u32_rows name given) (read cast_rows name given)))

  -- the same of all groups
  abbrev pub read_all : List ℕ → List Arg → Option (Option Libfunc)
  read_all name given =
      first_of (read control_rows name given)
      (first_of (read gas_rows name given)
      (first_of (read felts_rows name given)
      (first_of (read_integers name given)
      (first_of (read data_rows name given)
      (first_of (read arrays_rows name given) (read dictionaries_rows name given))))))
