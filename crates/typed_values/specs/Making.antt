-- Kinds of types that are builtins, and what is seen of results with their types.
use Rattle.std.specs.Prelude.{List, [], ◌∷◌, map, Bool, true, false, if◌then◌else◌}
use Rattle.type_trees.specs.Ty.{Ty}
use Rattle.type_table.specs.View.{TypesView, tree_of}
use Rattle.type_table.specs.declared.kind.TypeKind.{TypeKind}
use Rattle.type_table.specs.declared.kind.TypeKind.TheVariants as kinds
use Rattle.type_table.specs.declared.type_id.TypeId.{TypeId}
use Rattle.value_trees.specs.Meant.{meant}
use Rattle.value_trees.specs.Val.{Plain}
use Rattle.value_trees.specs.declared.value.Value.{Value}
use Rattle.typed_values.specs.Outcome.{is_builtin}

abbrev pub is_builtin_kind : TypeKind → Bool
is_builtin_kind kinds.RangeCheck = true
is_builtin_kind kinds.GasBuiltin = true
is_builtin_kind _ = false

-- a result with its type where it is no builtin
abbrev pub kept : Ty → Plain → List (Ty × Plain)
kept ty v = if is_builtin ty then [] else (ty, v) ∷ []

abbrev pub pair_meant : TypesView → TypeId × Value → Ty × Plain
pair_meant t p = (tree_of t p.0.0, meant p.1)

-- results, each with the type that it is of
abbrev pub pairs_meant : TypesView → List (TypeId × Value) → List (Ty × Plain)
pairs_meant t ps = map (pair_meant t) ps
