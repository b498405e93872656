-- The generic type that a name is, as the code tells it.
use Rattle.std.specs.Prelude.{ℕ, List, Option, Some, None, if◌then◌else◌, bytes_eq, codes}
use Rattle.type_trees.specs.declared.num.Num.{Num}
use Rattle.type_trees.specs.declared.num.Num.TheVariants as nums
use Rattle.type_table.specs.declared.generic.Generic.{Generic}
use Rattle.type_table.specs.declared.generic.Generic.TheVariants as generics

abbrev pub number_named : List ℕ → Option Num
number_named name =
    if bytes_eq name (codes "felt64") then Some nums.Felt64 else
    if bytes_eq name (codes "u8") then Some nums.U8 else
    if bytes_eq name (codes "u16") then Some nums.U16 else
    if bytes_eq name (codes "u32") then Some nums.U32 else None

abbrev pub user_named : List ℕ → Option Generic
user_named name =
    if bytes_eq name (codes "Struct") then Some generics.Struct else
    if bytes_eq name (codes "Enum") then Some generics.Enum else
    if bytes_eq name (codes "RangeCheck") then Some generics.RangeCheck else
    if bytes_eq name (codes "GasBuiltin") then Some generics.GasBuiltin else None

abbrev pub wrapper_named : List ℕ → Option Generic
wrapper_named name =
    if bytes_eq name (codes "Box") then Some generics.Box else
    if bytes_eq name (codes "Array") then Some generics.Array else
    if bytes_eq name (codes "Snapshot") then Some generics.Snapshot else
    if bytes_eq name (codes "Uninitialized") then Some generics.Uninitialized else None

abbrev pub numeric_named : List ℕ → Option Generic
numeric_named name =
    if bytes_eq name (codes "NonZero") then Some generics.NonZero else
    if bytes_eq name (codes "Felt64Dict") then Some generics.Dict else
    if bytes_eq name (codes "Felt64DictEntry") then Some generics.DictEntry else
    if bytes_eq name (codes "SquashedFelt64Dict") then Some generics.SquashedDict else None

abbrev pub first_of : Option Num → Option Generic → Option Generic → Option Generic → Option Generic
first_of (Some num) user wrapper numeric = Some (generics.Number num)
first_of None (Some g) wrapper numeric = Some g
first_of None None (Some g) numeric = Some g
first_of None None None numeric = numeric

abbrev pub generic_named : List ℕ → Option Generic
generic_named name = first_of (number_named name) (user_named name) (wrapper_named name) (numeric_named name)
