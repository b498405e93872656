-- What the table asks of a declaration whose type arguments are known, as the code tells it.
use Rattle.std.specs.Prelude.{List, [], ◌∷◌, Bool, true, false, not, ◌&&◌, ◌==◌, nat_lt, Option, Some, None}
use Rattle.sierra_types.specs.declared.program.Info.{Info}
use Rattle.type_table.specs.declared.facts.Facts.{Facts}
use Rattle.type_table.specs.declared.kind.TypeKind.{TypeKind}
use Rattle.type_table.specs.declared.kind.TypeKind.TheVariants as kinds
use Rattle.type_table.specs.Facts.{cell, dictionary, together, variants, wrapped}

abbrev pub wrapped_first : TypeKind → List Facts → Facts
wrapped_first kind [] = cell false
wrapped_first kind (part ∷ parts) = wrapped kind part

abbrev pub facts_given : TypeKind → List Facts → Facts
facts_given (kinds.Number num) parts = cell true
facts_given (kinds.NonZero num) parts = record (cell true) { depth = 2; plain = false }
facts_given kinds.RangeCheck parts = cell false
facts_given kinds.GasBuiltin parts = cell false
facts_given kinds.Box parts = wrapped_first kinds.Box parts
facts_given kinds.Array parts = wrapped_first kinds.Array parts
facts_given kinds.Snapshot parts = wrapped_first kinds.Snapshot parts
facts_given kinds.Struct parts = together parts
facts_given kinds.Enum parts = variants parts
facts_given (kinds.Dict num) parts = dictionary false true
facts_given (kinds.DictEntry num) parts = dictionary false true
facts_given (kinds.SquashedDict num) parts = dictionary true false
facts_given kinds.Uninitialized parts = wrapped_first kinds.Uninitialized parts

abbrev pub is_element : Facts → Bool
is_element part = part.storable && (nat_lt 0 part.size && not part.holds_dict)

abbrev pub has_snapshots : Facts → Bool
has_snapshots part = not part.dup && (part.storable && not part.holds_dict)

abbrev pub first_is : (Facts → Bool) → List Facts → Bool
first_is test [] = true
first_is test (part ∷ parts) = test part

abbrev pub is_allowed : TypeKind → List Facts → Bool
is_allowed kinds.Box parts = first_is is_element parts
is_allowed kinds.Array parts = first_is is_element parts
is_allowed kinds.Snapshot parts = first_is has_snapshots parts
is_allowed kinds.Uninitialized parts = first_is (λ part. part.storable) parts
is_allowed _ parts = true

abbrev pub same : Bool → Bool → Bool
same true b = b
same false b = not b

abbrev pub info_fits : Option Info → Facts → Bool
info_fits None facts = true
info_fits (Some info) facts =
    same info.storable facts.storable && (same info.drop facts.drop && (same info.dup facts.dup && same info.zero_sized (facts.size == 0)))
