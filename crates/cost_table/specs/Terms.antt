-- Terms of result cells. A cell that the libfunc makes is named as the own cell of its fragment; the last ones of a branch's
-- new cells are the last below ap.
use Rattle.std.specs.Prelude.{ℕ, ◌+◌, ◌-◌, ◌==◌, if◌then◌else◌, List, map}
use Rattle.std.specs.List.{range_with_len}
use Rattle.casm_word.specs.declared.cell_expr.CellExpr.{CellExpr}
use Rattle.casm_word.specs.declared.cell_expr.CellExpr.TheVariants as expr
use Rattle.cell_terms.specs.declared.term.Slot.TheVariants as slots
use Rattle.cell_terms.specs.declared.term.Second.{Second}
use Rattle.cell_terms.specs.declared.term.Second.TheVariants as seconds
use Rattle.cell_terms.specs.declared.term.Term.{Term}
use Rattle.cell_terms.specs.declared.term.Term.TheVariants as terms
use Rattle.cell_terms.specs.Resolving.{argument}
use Rattle.cost_table.specs.declared.costs.ApChange.{ApChange}
use Rattle.cost_table.specs.declared.costs.ApChange.TheVariants as changes
use Rattle.cost_table.specs.declared.row.Row.{Row}

-- the argument expression of this number, as it is
abbrev pub whole : ℕ → Term
whole i = terms.Whole i

-- a number
abbrev pub word : ℕ → Term
word n = terms.Word n

-- the word of an argument's cell and a number
abbrev pub advanced : ℕ → ℕ → Term
advanced i n = terms.Add (slots.Arg i) (seconds.Number n)

-- the same kind of term, so many cells further; a number, a sum, a difference and a product stay
abbrev pub further : Term → ℕ → Term
further (terms.Whole i) k = terms.Whole (i + k)
further (terms.Cell (slots.Own i)) k = terms.Cell (slots.Own (i + k))
further (terms.Cell (slots.Arg i)) k = terms.Cell (slots.Arg (i + k))
further (terms.Cell (slots.Frame i)) k = terms.Cell (slots.Frame (i + k))
further (terms.Behind n i) k = terms.Behind n (i + k)
further (terms.Word n) k = terms.Word n
further (terms.Add n o) k = terms.Add n o
further (terms.Sub n o) k = terms.Sub n o
further (terms.Mul n o) k = terms.Mul n o

-- so many terms, from this one on
abbrev pub run : Term → ℕ → List Term
run t n = map (further t) (range_with_len 0 n)

-- so many argument expressions as they are, from one on
abbrev pub kept : ℕ → ℕ → List Term
kept from n = run (terms.Whole from) n

-- so many new cells, from ap on as it was
abbrev pub laid : ℕ → List Term
laid n = run (terms.Cell (slots.Own 0)) n

-- so many cells, from an offset from fp on
abbrev pub framed : ℕ → ℕ → List Term
framed from n = run (terms.Cell (slots.Frame from)) n

-- so many cells, from the one on to which the first argument's cell points
abbrev pub pointed : ℕ → List Term
pointed n = run (terms.Behind (slots.Arg 0) 0) n

-- so many zeros
abbrev pub zeros : ℕ → List Term
zeros n = run (terms.Word 0) n

-- an argument expression as a second operand: a number, or else the cell of the expression of this number
abbrev pub operand_of : ℕ → CellExpr → Second
operand_of i (expr.Imm n) = seconds.Number n
operand_of i _ = seconds.Slot (slots.Arg i)

abbrev pub operand : List CellExpr → ℕ → Second
operand args i = operand_of i (argument args i)

abbrev pub known_change : ApChange → ℕ
known_change (changes.Known n) = n
known_change changes.Unknown = 0

-- the new cell that is so many cells below ap, 1 for the last one
abbrev pub last : Row → ℕ → Term
last r k = terms.Cell (slots.Own (known_change r.ap - k))

-- the range-check pointer behind the row's own checks: the first argument and their number, or, without checks, as it is
abbrev pub pointer : Row → Term
pointer r = if r.checks == 0 then whole 0 else advanced 0 r.checks
