-- Dictionaries. The two cells of a dictionary, of an open entry and of a squashed dictionary are its start and its end.
use Rattle.std.specs.Prelude.{ℕ, List, [], ◌∷◌}
use Rattle.type_trees.specs.declared.num.Num.{Num}
use Rattle.type_trees.specs.declared.num.Num.TheVariants as nums
use Rattle.libfunc_registry.specs.Dictionaries.{DictionariesFam, dict_new, dict_entry_get, dict_entry_finalize, dict_squash, dict_entries}
use Rattle.cell_terms.specs.declared.term.Term.{Term}
use Rattle.cost_table.specs.declared.row.Row.{Row}
use Rattle.cost_table.specs.declared.mark.Mark.{Mark}
use Rattle.cost_table.specs.declared.mark.Mark.TheVariants as marks
use Rattle.cost_table.specs.Rows.{row, row_unknown, free}
use Rattle.cost_table.specs.Terms.{whole, advanced, laid, last, pointer}

-- a word that is read from the log of an integer's dictionary is checked to be one; a felt's needs no check
abbrev pub entry_row : Num → Row
entry_row nums.Felt64 = row 3 0 1
entry_row nums.U8 = row 6 2 2
entry_row nums.U16 = row 6 2 2
entry_row nums.U32 = row 6 2 2

-- steps, range checks and the change of ap
abbrev pub dictionaries_row : DictionariesFam → Row
dictionaries_row (dict_new num) = row 1 0 1
dictionaries_row (dict_entry_get num) = entry_row num
dictionaries_row (dict_entry_finalize num) = row 1 0 0
dictionaries_row (dict_squash num) = row_unknown 60 5
dictionaries_row (dict_entries num) = free

-- the steps, and the range checks, of what comes later and is charged here: each access of a dictionary is charged its share
-- of the squash
abbrev pub dictionaries_share_steps : DictionariesFam → ℕ
dictionaries_share_steps (dict_new num) = 0
dictionaries_share_steps (dict_entry_get num) = 100
dictionaries_share_steps (dict_entry_finalize num) = 0
dictionaries_share_steps (dict_squash num) = 0
dictionaries_share_steps (dict_entries num) = 0

abbrev pub dictionaries_share_checks : DictionariesFam → ℕ
dictionaries_share_checks (dict_new num) = 0
dictionaries_share_checks (dict_entry_get num) = 10
dictionaries_share_checks (dict_entry_finalize num) = 0
dictionaries_share_checks (dict_squash num) = 0
dictionaries_share_checks (dict_entries num) = 0

-- the cells of the results, of which there are so many
abbrev pub dictionaries_terms : Row → (cells : ℕ) → DictionariesFam → List Term
dictionaries_terms r cells (dict_new num) = last r 1 ∷ last r 1 ∷ []
dictionaries_terms r cells (dict_entry_get num) = pointer r ∷ whole 1 ∷ whole 2 ∷ last r 1 ∷ []
dictionaries_terms r cells (dict_entry_finalize num) = whole 0 ∷ advanced 1 3 ∷ []
dictionaries_terms r cells (dict_squash num) = laid cells
dictionaries_terms r cells (dict_entries num) = whole 0 ∷ whole 1 ∷ []

-- what is asked of the expressions of the arguments
abbrev pub dictionaries_marks : DictionariesFam → List Mark
dictionaries_marks (dict_new num) = []
dictionaries_marks (dict_entry_get num) = marks.Cells ∷ marks.Cells ∷ marks.Cells ∷ []
dictionaries_marks (dict_entry_finalize num) = marks.Cells ∷ marks.Cells ∷ []
dictionaries_marks (dict_squash num) = marks.Cells ∷ marks.Cells ∷ []
dictionaries_marks (dict_entries num) = []
