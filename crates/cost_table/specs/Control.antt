-- Control and places: branches, jumps, and where values are kept.
use Rattle.std.specs.Prelude.{ℕ, List, [], ◌++◌}
use Rattle.type_trees.specs.Ty.{size}
use Rattle.libfunc_registry.specs.Control.{ControlFam, branch_align, jump, rename, dup, drop, store_temp, store_local, alloc_local, finalize_locals, disable_ap_tracking, enable_ap_tracking}
use Rattle.cell_terms.specs.declared.term.Term.{Term}
use Rattle.cost_table.specs.declared.row.Row.{Row}
use Rattle.cost_table.specs.declared.mark.Mark.{Mark}
use Rattle.cost_table.specs.Rows.{row, free}
use Rattle.cost_table.specs.Terms.{kept, laid, framed}

-- steps, range checks and the change of ap; that of `finalize_locals` is besides by the cells of the locals
abbrev pub control_row : ControlFam → Row
control_row branch_align = free
control_row jump = row 1 0 0
control_row (rename ty) = free
control_row (dup ty) = free
control_row (drop ty) = free
control_row (store_temp ty) = row (size ty) 0 (size ty)
control_row (store_local ty) = row (size ty) 0 0
control_row (alloc_local ty) = free
control_row finalize_locals = row 1 0 0
control_row disable_ap_tracking = free
control_row enable_ap_tracking = free

-- holes, which are cells that the branch leaves unused
abbrev pub control_holes : ControlFam → ℕ
control_holes branch_align = 0
control_holes jump = 0
control_holes (rename ty) = 0
control_holes (dup ty) = 0
control_holes (drop ty) = 0
control_holes (store_temp ty) = 0
control_holes (store_local ty) = 0
control_holes (alloc_local ty) = size ty
control_holes finalize_locals = 0
control_holes disable_ap_tracking = 0
control_holes enable_ap_tracking = 0

-- the cells of the results; the amount of `alloc_local` is the offset from fp
abbrev pub control_terms : ℕ → ControlFam → List Term
control_terms amount branch_align = []
control_terms amount jump = []
control_terms amount (rename ty) = kept 0 (size ty)
control_terms amount (dup ty) = kept 0 (size ty) ++ kept 0 (size ty)
control_terms amount (drop ty) = []
control_terms amount (store_temp ty) = laid (size ty)
control_terms amount (store_local ty) = kept 0 (size ty)
control_terms amount (alloc_local ty) = framed amount (size ty)
control_terms amount finalize_locals = []
control_terms amount disable_ap_tracking = []
control_terms amount enable_ap_tracking = []

-- no argument is marked
abbrev pub control_marks : ControlFam → List Mark
control_marks fam = []
