-- Values taken apart: what is in a value of one form, and nothing for the other forms.
use Rattle.std.specs.Prelude.{ℕ, List, Option, Some, None}
use Rattle.value_trees.specs.Val.{Val, WordMap, list_of}
use Rattle.value_trees.specs.Val as val

module _ {D E : Type 0} where
  abbrev pub number_of : Val D E → Option ℕ
  number_of (val.number k n) = Some n
  number_of _ = None

  abbrev pub gas_of : Val D E → Option ℕ
  gas_of (val.gas n) = Some n
  gas_of _ = None

  -- the members of a struct
  abbrev pub members_of : Val D E → Option (List (Val D E))
  members_of (val.struct vs) = Some (list_of vs)
  members_of _ = None

  -- the index and the payload of an enum
  abbrev pub variant_of : Val D E → Option (ℕ × Val D E)
  variant_of (val.enum index payload) = Some (index, payload)
  variant_of _ = None

  -- the elements of an array
  abbrev pub elements_of : Val D E → Option (List (Val D E))
  elements_of (val.array vs) = Some (list_of vs)
  elements_of _ = None

  abbrev pub boxed_of : Val D E → Option (Val D E)
  boxed_of (val.boxed v) = Some v
  boxed_of _ = None

  abbrev pub dict_of : Val D E → Option D
  dict_of (val.dict d) = Some d
  dict_of _ = None

  abbrev pub entry_of : Val D E → Option E
  entry_of (val.dict_entry e) = Some e
  entry_of _ = None

  abbrev pub squashed_of : Val D E → Option WordMap
  squashed_of (val.squashed_dict m) = Some m
  squashed_of _ = None
