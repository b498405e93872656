-- What a `Value` of the code stands for.
use Rattle.std.specs.Prelude.{ℕ, ◌==◌, if◌then◌else◌}
use Rattle.type_trees.specs.declared.num.Num.{Num}
use Rattle.type_trees.specs.declared.num.Num.TheVariants as nums
use Rattle.value_trees.specs.Val.{Plain, WordMap, OpenMap, vals_of}
use Rattle.value_trees.specs.Val as val
use Rattle.value_trees.specs.declared.value.Value.{Value, fold-Value}
use Rattle.value_trees.specs.declared.value.Value.TheOpen.{Value-F}

-- the type of the unsigned numbers of so many bits
abbrev pub num_of_bits : ℕ → Num
num_of_bits bits = if bits == 8 then nums.U8 else if bits == 16 then nums.U16 else nums.U32

-- a dictionary of which the entry of this key is open
abbrev pub opened : WordMap × ℕ → OpenMap
opened e = record { map = e.0; key = e.1 }

-- one level, with each value inside already seen as what it stands for
abbrev pub level : Value-F Plain → Plain
level (Value-F.Felt n) = val.number nums.Felt64 n
level (Value-F.Int bits n) = val.number (num_of_bits bits) n
level (Value-F.Struct members) = val.struct (vals_of members.items)
level (Value-F.Enum index v) = val.enum index v.value
level (Value-F.Array vs) = val.array (vals_of vs.value.items)
level (Value-F.Boxed v) = val.boxed v.value
level (Value-F.Dict m) = val.dict m
level (Value-F.Entry m key) = val.dict_entry (opened (m, key))
level (Value-F.Squashed m) = val.squashed_dict m
level (Value-F.Gas n) = val.gas n
level Value-F.Check = val.check
level Value-F.Empty = val.empty

abbrev pub meant : Value → Plain
meant = fold-Value Plain level
