-- Control and places: plans.
use Rattle.std.specs.Prelude.{ℕ}
use Rattle.type_trees.specs.Ty.{size}
use Rattle.libfunc_registry.specs.Control.{ControlFam, branch_align, jump, rename, dup, drop, store_temp, store_local, alloc_local, finalize_locals, disable_ap_tracking, enable_ap_tracking}
use Rattle.frag_plan.specs.Plan.{Plan, reserve, line, exit}
use Rattle.cost_table.specs.Terms.{kept}
use Rattle.lower_kit.specs.Rows.{lay_each, same_each}

-- `store_temp` lays each cell of its argument anew. `store_local` says that each cell of the local, which is its first argument,
-- has the word of the value's. `finalize_locals` moves ap by the amount, over the locals. A jump's one step is the instruction
-- that is put behind the fragment.
abbrev pub control_plan : (amount : ℕ) → ControlFam → Plan
control_plan amount branch_align = exit 0
control_plan amount jump = exit 0
control_plan amount (rename ty) = exit 0
control_plan amount (dup ty) = exit 0
control_plan amount (drop ty) = exit 0
control_plan amount (store_temp ty) = lay_each (kept 0 (size ty)) (exit 0)
control_plan amount (store_local ty) = same_each 0 (kept (size ty) (size ty)) (exit 0)
control_plan amount (alloc_local ty) = exit 0
control_plan amount finalize_locals = line (reserve amount) (exit 0)
control_plan amount disable_ap_tracking = exit 0
control_plan amount enable_ap_tracking = exit 0
