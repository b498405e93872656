-- What the form of arguments says of a type's parts.
use Rattle.std.specs.Prelude.{◌≢◌, []}
use Rattle.std.specs.List.{All}
use Rattle.type_trees.specs.Ty.{Ty, range_check, gas_builtin, box, array, snapshot, struct, enum, uninitialized}
use Rattle.type_table.specs.Trees.{listed}

abbrev pub IsInitializedType : Ty → Type 0
IsInitializedType ty = (inner : Ty) → ty ≢ uninitialized inner

-- neither a builtin nor an uninitialized type
pub record IsOrdinaryType (ty : Ty) : Type 0 where
  pub no_check : ty ≢ range_check
  pub no_gas : ty ≢ gas_builtin
  pub initialized : IsInitializedType ty

-- in a box, an array or a snapshot, and as members and variants, there are ordinary types alone; in an uninitialized type
-- there is no other; an enum has a variant or more
abbrev pub HasOrdinaryParts : Ty → Type 0
HasOrdinaryParts (box ty) = IsOrdinaryType ty
HasOrdinaryParts (array ty) = IsOrdinaryType ty
HasOrdinaryParts (snapshot ty) = IsOrdinaryType ty
HasOrdinaryParts (struct name tys) = All IsOrdinaryType (listed tys)
HasOrdinaryParts (enum name tys) = (listed tys ≢ []) × All IsOrdinaryType (listed tys)
HasOrdinaryParts (uninitialized ty) = IsInitializedType ty
HasOrdinaryParts _ = Unit {0}
