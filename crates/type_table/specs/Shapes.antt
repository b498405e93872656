-- Types that are told by their shape: those that a signature makes of a number or of another type.
use Rattle.std.specs.Prelude.{codes}
use Rattle.type_trees.specs.Ty.{Ty, number, nonzero, range_check, gas_builtin, box, array, snapshot, struct, dict, dict_entry, squashed_dict, uninitialized, no_types, types}
use Rattle.type_trees.specs.declared.num.Num.{Num}
use Rattle.type_trees.specs.declared.num.Num.TheVariants as nums
use Rattle.type_table.specs.declared.kind.Shape.{Shape}
use Rattle.type_table.specs.declared.kind.Shape.TheVariants as shapes
use Rattle.type_table.specs.View.{TypesView, tree_of}

-- an access of a dictionary as a tuple: its key, the value before, and the value behind
abbrev pub access : Num → Ty
access num = struct (codes "Tuple") (types (number nums.Felt64) (types (number num) (types (number num) no_types)))

-- the type of this shape, where a part is that at its position
abbrev pub shaped : TypesView → Shape → Ty
shaped view (shapes.Number num) = number num
shaped view (shapes.NonZero num) = nonzero num
shaped view shapes.RangeCheck = range_check
shaped view shapes.GasBuiltin = gas_builtin
shaped view (shapes.Box t) = box (tree_of view t.0)
shaped view (shapes.Array t) = array (tree_of view t.0)
shaped view (shapes.Snapshot t) = snapshot (tree_of view t.0)
shaped view (shapes.Uninitialized t) = uninitialized (tree_of view t.0)
shaped view (shapes.Dict num) = dict num
shaped view (shapes.DictEntry num) = dict_entry num
shaped view (shapes.SquashedDict num) = squashed_dict num
shaped view (shapes.Access num) = access num
