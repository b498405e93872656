-- Types by position, as the code makes them.
use Rattle.std.specs.Prelude.{ℕ, ◌≡◌, List, Some, slice_get}
use Rattle.type_trees.specs.Ty.{Ty}
use Rattle.sierra_types.specs.declared.program.TypeDecl.{TypeDecl}
use Rattle.type_table.specs.IsType.{HasArgs, Passes}
use Rattle.type_table.specs.Refusals.{named_types, positions_of}

-- the declaration at position i makes this type, and isn't refused
pub record IsTypeAt (ds : List TypeDecl) (ty : Ty) (i : ℕ) : Type 0 where
  pub decl : TypeDecl
  pub here : slice_get ds i ≡ Some decl
  pub args : HasArgs ds ty decl
  pub passes : Passes ds i decl ty

-- the positions of the types that a declaration's arguments name
abbrev pub targets : List TypeDecl → TypeDecl → List ℕ
targets ds d = positions_of ds (named_types d.args)
