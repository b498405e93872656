-- The pieces of the match of an enum, as the code makes them.
use Rattle.std.specs.Prelude.{ℕ, ◌+◌, ◌-◌, ◌*◌, ◌==◌, if◌then◌else◌, List, [], ◌∷◌}
use Rattle.std.specs.List.{flat_map, range_with_len}
use Rattle.casm_word.specs.declared.instr.CellRef.{CellRef}
use Rattle.casm_word.specs.declared.cell_expr.CellExpr.{CellExpr}
use Rattle.cell_terms.specs.declared.term.Slot.{Slot}
use Rattle.cell_terms.specs.declared.term.Slot.TheVariants as slots
use Rattle.cell_terms.specs.declared.term.Second.TheVariants as seconds
use Rattle.cell_terms.specs.declared.term.Term.TheVariants as terms
use Rattle.cell_terms.specs.Resolving.{resolve}
use Rattle.frag_code.specs.declared.piece.Piece.{Piece}
use Rattle.frag_code.specs.declared.piece.Piece.TheVariants as piece
use Rattle.frag_plan.specs.Plan.{ref_of}

-- the cell of test i
abbrev pub slot_of : ℕ → Slot
slot_of i = if i == 0 then slots.Arg 0 else slots.Own (i - 1)

abbrev pub tested : List CellExpr → ℕ → CellRef
tested args i = ref_of i args (slot_of i)

abbrev pub lessened : List CellExpr → ℕ → CellExpr
lessened args i = resolve i args (terms.Sub (slot_of i) (seconds.Number 1))

-- test i, its exit, and the cell of the next one
abbrev pub one_test : List CellExpr → ℕ → List Piece
one_test args i = piece.IfNonZero (tested args i) (3 * i + 2) ∷ piece.Exit i ∷ piece.Let (lessened args i) ∷ []

abbrev pub all_tests : List CellExpr → ℕ → List Piece
all_tests args n = flat_map (one_test args) (range_with_len 0 n)
