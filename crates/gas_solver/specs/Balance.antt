-- How many builtins are held.
use Rattle.std.specs.Prelude.{◌≡◌, ℕ, ◌+◌, List, [], ◌∷◌, Some, map, slice_get}
use Rattle.type_trees.specs.Ty.{Ty, range_check, gas_builtin}
use Rattle.type_table.specs.declared.type_id.TypeId.{TypeId}
use Rattle.type_table.specs.View.{TypesView, FunctionView, tree_of, trees_of}
use Rattle.held_list.specs.Held.{Held}
use Rattle.linear_check.specs.Statements.{result_types}
use Rattle.linear_check.specs.Typed.{TypedList}

-- a weight for each of the two builtins, and none for other types
abbrev pub builtin : (check gas : ℕ) → Ty → ℕ
builtin check gas range_check = check
builtin check gas gas_builtin = gas
builtin check gas _ = 0

-- The weight of some types together. With 1 and 0 it is the number of range checks among them, and with 0 and 1 that of gas
-- builtins.
abbrev pub builtins : (check gas : ℕ) → List Ty → ℕ
builtins check gas [] = 0
builtins check gas (ty ∷ tys) = builtin check gas ty + builtins check gas tys

-- the types of what is held
abbrev pub held_types : TypesView → Held TypeId → List Ty
held_types t held = map (λ (x : ℕ × TypeId). tree_of t x.1.0) held

-- At each statement as many of each builtin are held as its function has among its results.
abbrev pub IsBalanced : TypesView → TypedList → Type 0
IsBalanced t a = (check gas s f : ℕ) (held : Held TypeId) → slice_get a s ≡ Some (f, held) → builtins check gas (held_types t held) ≡ builtins check gas (trees_of t (result_types t f))

-- Each function has as many of each builtin among its parameters as among its results.
abbrev pub HasBalancedFunctions : TypesView → Type 0
HasBalancedFunctions t = (check gas f : ℕ) (g : FunctionView) → slice_get t.functions f ≡ Some g → builtins check gas (trees_of t g.params) ≡ builtins check gas (trees_of t g.results)
