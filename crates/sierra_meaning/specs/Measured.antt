-- What is measured of the values of a program's meaning, and what an accepted program's statements are measured by.
use Rattle.std.specs.Prelude.{◌≡◌, ℕ, length, Some, slice_get, slice_index}
use Rattle.std.specs.FinMap.{len}
use Rattle.type_table.specs.declared.type_id.TypeId.{TypeId}
use Rattle.type_table.specs.View.{TypesView, tree_of}
use Rattle.libfunc_registry.specs.Fam.{results_of}
use Rattle.held_list.specs.Held.{Held, Each}
use Rattle.gas_solver.specs.Accepting.{AcceptedView}
use Rattle.value_trees.specs.Of.{IsPlain}
use Rattle.value_trees.specs.Measures.{weight, longest}
use Rattle.value_trees.specs.Val.{Plain}
use Rattle.libfunc_meaning.specs.Dictionaries.{mapped}
use Rattle.libfunc_meaning.specs.Placed.{ArePlain}
use Rattle.sierra_meaning.specs.Acts.{Acts, begins_at}
use Rattle.sierra_meaning.specs.Facts.{Running}

-- the gas in a value; a dictionary has none
abbrev pub gas_inside : Plain → ℕ
gas_inside v = weight (λ m. 0) (λ e. 0) v

-- the length of the longest array or map in a value
abbrev pub length_of : Plain → ℕ
length_of v = longest (λ m. len m) (λ e. len e.map) v

-- a value of the type at this position
abbrev pub IsPlainAt : TypesView → TypeId → Plain → Type 0
IsPlainAt types t v = IsPlain (tree_of types t.0) v

-- the values are those of the variables of statement s, which is of function f, each of its type
abbrev pub AreHeldAt : AcceptedView → ℕ → ℕ → Held Plain → Type 0
AreHeldAt a f s env = (held : Held TypeId) × (slice_get a.envs s ≡ Some (f, held)) × Each (IsPlainAt a.types) held env

-- an accepted program's statements; each is worth what it needs
abbrev pub running_of : AcceptedView → Running Plain
running_of a = record {
  Acts = Acts mapped a;
  entry = begins_at a;
  size = length a.program.statements;
  worth = slice_index a.plan.need;
  gas = gas_inside;
  long = length_of;
  IsTyped = AreHeldAt a;
  AreResults = λ f vs. ArePlain (results_of a.types f) vs;
}
