-- Types of which each cell of a value has a word.
use Rattle.type_trees.specs.Ty.{Ty, Tys, number, nonzero, range_check, gas_builtin, box, array, snapshot, struct, enum, dict, dict_entry, squashed_dict, uninitialized, no_types, types}

-- none of the type's own cells is of a value that isn't there yet
abbrev mutual
  pub IsWorded : Ty → Type 0
  IsWorded (number k) = Unit {0}
  IsWorded (nonzero k) = Unit {0}
  IsWorded range_check = Unit {0}
  IsWorded gas_builtin = Unit {0}
  IsWorded (box ty) = Unit {0}
  IsWorded (array ty) = Unit {0}
  IsWorded (snapshot ty) = IsWorded ty
  IsWorded (struct name tys) = AreWorded tys
  IsWorded (enum name tys) = AreWorded tys
  IsWorded (dict k) = Unit {0}
  IsWorded (dict_entry k) = Unit {0}
  IsWorded (squashed_dict k) = Unit {0}
  IsWorded (uninitialized ty) = ⊥

  pub AreWorded : Tys → Type 0
  AreWorded no_types = Unit {0}
  AreWorded (types ty tys) = IsWorded ty × AreWorded tys
