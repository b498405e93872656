-- Reading a value by the kind of its type.
use Rattle.std.specs.Prelude.{ℕ, List, [], ◌∷◌, length, true}
use Rattle.type_trees.specs.Ty.{Ty, Tys}
use Rattle.type_trees.specs.declared.num.Num.{Num}
use Rattle.type_table.specs.View.{joined}
use Rattle.type_table.specs.declared.kind.TypeKind.{TypeKind}
use Rattle.type_table.specs.declared.kind.TypeKind.TheVariants as kinds
use Rattle.text_reading.specs.Reading.{done, ◌>>=◌}
use Rattle.value_trees.specs.Of.{bound}
use Rattle.value_trees.specs.Val.{Plain}
use Rattle.value_trees.specs.Val as val
use Rattle.typed_values.specs.Inputs.{most_elements}
use Rattle.typed_values.specs.Marks.{ValueReader, byte_at, number_at, none_at}
use Rattle.typed_values.specs.Reading.{whole_array_at, value_at, members_at, variant_at}
use Rattle.typed_values.specs.Skimming.{any_number_at, skim_array, skim_at, skim_members, skim_variant}

unfoldable pub number_of : Num → ValueReader Plain
number_of k = number_at (bound k) >>= λ n. done (val.number k n)

unfoldable pub struct_at : Tys → ValueReader Plain
struct_at tys = byte_at 40 >>= λ _. members_at most_elements true tys >>= λ vs. byte_at 41 >>= λ _. done (val.struct vs)

-- so many variants there are
unfoldable pub enum_at : ℕ → Tys → ValueReader Plain
enum_at variants tys = number_at variants >>= λ index. byte_at 58 >>= λ _. variant_at most_elements tys index >>= λ v. done (val.enum index v)

-- an array of the one type
unfoldable pub array_of : List Ty → ValueReader Plain
array_of (ty ∷ []) = whole_array_at (value_at most_elements ty) (skim_at most_elements ty) (most_elements ty)
array_of _ = none_at

-- a value of the type of this kind that is made of these types
abbrev pub value_of_kind : TypeKind → List Ty → ValueReader Plain
value_of_kind (kinds.Number k) tys = number_of k
value_of_kind kinds.Array tys = array_of tys
value_of_kind kinds.Struct tys = struct_at (joined tys)
value_of_kind kinds.Enum tys = enum_at (length tys) (joined tys)
value_of_kind _ tys = none_at

-- ---- the form alone

unfoldable pub struct_form_at : Tys → ValueReader (Unit {0})
struct_form_at tys = byte_at 40 >>= λ _. skim_members most_elements true tys >>= λ _. byte_at 41

unfoldable pub enum_form_at : ℕ → Tys → ValueReader (Unit {0})
enum_form_at variants tys = number_at variants >>= λ index. byte_at 58 >>= λ _. skim_variant most_elements tys index

-- an array of the one type
unfoldable pub array_form_of : List Ty → ValueReader (Unit {0})
array_form_of (ty ∷ []) = skim_array (skim_at most_elements ty) (most_elements ty)
array_form_of _ = none_at

-- the form of a value of the type of this kind that is made of these types
abbrev pub form_of_kind : TypeKind → List Ty → ValueReader (Unit {0})
form_of_kind (kinds.Number k) tys = any_number_at
form_of_kind kinds.Array tys = array_form_of tys
form_of_kind kinds.Struct tys = struct_form_at (joined tys)
form_of_kind kinds.Enum tys = enum_form_at (length tys) (joined tys)
form_of_kind _ tys = none_at
