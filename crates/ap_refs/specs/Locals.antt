-- Locals: cells from fp on that are reserved once, by one `finalize_locals`.
use Rattle.std.specs.Prelude.{ℕ, ◌+◌, ◌==◌, Option, Some, None, if◌then◌else◌}
use Rattle.type_trees.specs.Ty.{size}
use Rattle.type_table.specs.declared.type_id.TypeId.{TypeId}
use Rattle.type_table.specs.View.{TypesView, tree_of}
use Rattle.libfunc_registry.specs.declared.libfunc.Libfunc.{Libfunc}
use Rattle.libfunc_registry.specs.declared.libfunc.Libfunc.TheVariants.{AllocLocal, FinalizeLocals, StoreLocal}
use Rattle.ap_refs.specs.declared.place.Locals.{Locals}
use Rattle.ap_refs.specs.declared.place.Locals.TheVariants.{Before, Allocating, Done}

-- the number of cells of a value
abbrev pub size_of : TypesView → TypeId → ℕ
size_of t ty = size (tree_of t ty.0)

-- What a libfunc makes of the local state, with its amount. That of `alloc_local` is the offset from fp at which the local
-- begins; that of `finalize_locals` is the number of cells of the locals.
abbrev pub Step : Type 0
Step = Locals × ℕ

-- A local of so many cells: the first stands where ap is, as many cells from fp on as ap has moved, and the others behind it,
-- as long as ap doesn't move.
abbrev pub allocate : ℕ → Option ℕ → Locals → Option Step
allocate cells None locals = None
allocate cells (Some ap) Before = Some (Allocating ap cells, ap)
allocate cells (Some ap) (Allocating start before) = if ap == start then Some (Allocating start (before + cells), start + before) else None
allocate cells (Some ap) Done = None

-- the locals are reserved where ap still is at the first of them
abbrev pub finalize : Option ℕ → Locals → Option Step
finalize ap Before = Some (Done, 0)
finalize None (Allocating start cells) = None
finalize (Some ap) (Allocating start cells) = if ap == start then Some (Done, cells) else None
finalize ap Done = None

-- a local takes a value once all are reserved
abbrev pub store : Locals → Option Step
store Before = None
store (Allocating start cells) = None
store Done = Some (Done, 0)

-- what a libfunc makes of the local state, if the rule of locals lets it
abbrev pub local_step : TypesView → Libfunc → Option ℕ → Locals → Option Step
local_step t (AllocLocal ty) ap locals = allocate (size_of t ty) ap locals
local_step t FinalizeLocals ap locals = finalize ap locals
local_step t (StoreLocal ty) ap locals = store locals
local_step t _ ap locals = Some (locals, 0)
