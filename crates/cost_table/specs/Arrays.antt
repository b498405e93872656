-- Arrays. The two cells of an array are its start and its end.
use Rattle.std.specs.Prelude.{ℕ, List, [], ◌∷◌}
use Rattle.type_trees.specs.Ty.{size}
use Rattle.libfunc_registry.specs.Arrays.{ArraysFam, array_new, array_append, array_len, array_get, array_pop_front}
use Rattle.cell_terms.specs.declared.term.Term.{Term}
use Rattle.cost_table.specs.declared.row.Row.{Row}
use Rattle.cost_table.specs.declared.mark.Mark.{Mark}
use Rattle.cost_table.specs.declared.mark.Mark.TheVariants as marks
use Rattle.cost_table.specs.Rows.{row, by_branch}
use Rattle.cost_table.specs.Terms.{whole, advanced, last, pointer}

-- steps, range checks and the change of ap
abbrev pub arrays_row : ArraysFam → ℕ → Row
arrays_row (array_new ty) branch = row 1 0 1
arrays_row (array_append ty) branch = row (size ty) 0 0
arrays_row (array_len ty) branch = row 3 0 2
arrays_row (array_get ty) branch = by_branch branch (row 10 1 7) (row 7 1 7)
arrays_row (array_pop_front ty) branch = row 3 0 1

-- the cells of the results
abbrev pub arrays_terms : Row → ArraysFam → ℕ → List Term
arrays_terms r (array_new ty) branch = last r 1 ∷ last r 1 ∷ []
arrays_terms r (array_append ty) branch = whole 0 ∷ advanced 1 (size ty) ∷ []
arrays_terms r (array_len ty) branch = last r 1 ∷ []
arrays_terms r (array_get ty) branch = by_branch branch (pointer r ∷ last r 1 ∷ []) (pointer r ∷ [])
arrays_terms r (array_pop_front ty) branch = by_branch branch (advanced 0 (size ty) ∷ whole 1 ∷ whole 0 ∷ []) (whole 0 ∷ whole 1 ∷ [])

-- what is asked of the expressions of the arguments
abbrev pub arrays_marks : ArraysFam → List Mark
arrays_marks (array_new ty) = []
arrays_marks (array_append ty) = marks.SecondCell ∷ marks.Cells ∷ []
arrays_marks (array_len ty) = marks.Cells ∷ []
arrays_marks (array_get ty) = marks.Cells ∷ marks.Cells ∷ marks.Cells ∷ []
arrays_marks (array_pop_front ty) = marks.Cells ∷ []
