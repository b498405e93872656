-- Enums, structs, snapshots and boxes.
use Rattle.std.specs.Prelude.{ℕ, ◌+◌, ◌-◌, List, [], ◌∷◌, ◌++◌, length}
use Rattle.type_trees.specs.Ty.{Ty, size}
use Rattle.type_table.specs.Trees.{parts}
use Rattle.libfunc_registry.specs.Data.{DataFam, enum_init, enum_match, enum_snapshot_match, struct_construct, struct_deconstruct, struct_snapshot_deconstruct, snapshot_take, into_box, unbox, part_at}
use Rattle.cell_terms.specs.declared.term.Term.{Term}
use Rattle.cost_table.specs.declared.row.Row.{Row}
use Rattle.cost_table.specs.declared.mark.Mark.{Mark}
use Rattle.cost_table.specs.declared.mark.Mark.TheVariants as marks
use Rattle.cost_table.specs.Rows.{row, free, match_row}
use Rattle.cost_table.specs.Terms.{word, kept, zeros, pointed, last}

-- steps, range checks and the change of ap
abbrev pub data_row : DataFam → ℕ → Row
data_row (enum_init ty index) branch = free
data_row (enum_match ty) branch = match_row (length (parts ty)) branch
data_row (enum_snapshot_match ty) branch = match_row (length (parts ty)) branch
data_row (struct_construct ty) branch = free
data_row (struct_deconstruct ty) branch = free
data_row (struct_snapshot_deconstruct ty) branch = free
data_row (snapshot_take ty) branch = free
data_row (into_box ty) branch = row (1 + size ty) 0 1
data_row (unbox ty) branch = free

-- The cells of an enum are the variant's index, padding and the payload, which are its last cells.
abbrev pub padding : Ty → ℕ → ℕ
padding ty index = size ty - (1 + size (part_at ty index))

abbrev pub payload : Ty → ℕ → List Term
payload ty index = kept (size ty - size (part_at ty index)) (size (part_at ty index))

-- the cells of the results; a snapshot takes the cells of what it is of
abbrev pub data_terms : Row → DataFam → ℕ → List Term
data_terms r (enum_init ty index) branch = word index ∷ (zeros (padding ty index) ++ kept 0 (size (part_at ty index)))
data_terms r (enum_match ty) branch = payload ty branch
data_terms r (enum_snapshot_match ty) branch = payload ty branch
data_terms r (struct_construct ty) branch = kept 0 (size ty)
data_terms r (struct_deconstruct ty) branch = kept 0 (size ty)
data_terms r (struct_snapshot_deconstruct ty) branch = kept 0 (size ty)
data_terms r (snapshot_take ty) branch = kept 0 (size ty) ++ kept 0 (size ty)
data_terms r (into_box ty) branch = last r 1 ∷ []
data_terms r (unbox ty) branch = pointed (size ty)

-- what is asked of the expressions of the arguments
abbrev pub data_marks : DataFam → List Mark
data_marks (enum_init ty index) = []
data_marks (enum_match ty) = marks.FirstCell ∷ []
data_marks (enum_snapshot_match ty) = marks.FirstCell ∷ []
data_marks (struct_construct ty) = []
data_marks (struct_deconstruct ty) = []
data_marks (struct_snapshot_deconstruct ty) = []
data_marks (snapshot_take ty) = []
data_marks (into_box ty) = marks.Cells ∷ []
data_marks (unbox ty) = marks.Cells ∷ []
