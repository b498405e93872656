-- When offsets fit the numbers of the code.
use Rattle.std.specs.Prelude.{ℕ, ◌<◌, ◌^◌, List, FitsSigned}
use Rattle.std.specs.Int.{w64}
use Rattle.casm_word.specs.declared.cell_expr.At.{At}
use Rattle.casm_word.specs.declared.cell_expr.Side.{Side}
use Rattle.casm_word.specs.declared.cell_expr.Side.TheVariants as side
use Rattle.casm_word.specs.declared.cell_expr.CellExpr.{CellExpr}
use Rattle.casm_word.specs.declared.cell_expr.CellExpr.TheVariants as expr
use Rattle.casm_word.specs.Expressions.{lowered_at, lowered}
use Rattle.cell_terms.specs.declared.term.Slot.{Slot}
use Rattle.cell_terms.specs.declared.term.Slot.TheVariants as slots
use Rattle.cell_terms.specs.declared.term.Second.{Second}
use Rattle.cell_terms.specs.declared.term.Second.TheVariants as seconds
use Rattle.cell_terms.specs.declared.term.Term.{Term}
use Rattle.cell_terms.specs.declared.term.Term.TheVariants as terms
use Rattle.cell_terms.specs.Resolving.{at_of, argument}

-- the offset has 64 bits
abbrev pub AtFits : At → Type 0
AtFits at = FitsSigned w64 at.off

abbrev pub SideFits : Side → Type 0
SideFits (side.Cell at) = AtFits at
SideFits (side.Imm word) = Unit {0}

-- each offset from a register has 64 bits
abbrev pub ExprFits : CellExpr → Type 0
ExprFits (expr.Cell at) = AtFits at
ExprFits (expr.DoubleCell at inner) = AtFits at
ExprFits (expr.Imm word) = Unit {0}
ExprFits (expr.Sum at s) = AtFits at × SideFits s
ExprFits (expr.Diff at s) = AtFits at × SideFits s
ExprFits (expr.Product at s) = AtFits at × SideFits s

module _ (d : ℕ) (args : List CellExpr) where
  -- the offset of the named cell, once ap has moved d cells, is computed in 64 bits
  abbrev pub SlotFits : Slot → Type 0
  SlotFits (slots.Own k) = k < 2 ^ 63
  SlotFits (slots.Arg i) = AtFits (lowered_at d (at_of (argument args i)))
  SlotFits (slots.Frame k) = k < 2 ^ 63

  abbrev pub SecondFits : Second → Type 0
  SecondFits (seconds.Slot n) = SlotFits n
  SecondFits (seconds.Number k) = Unit {0}

  -- the offsets of the term's expression, once ap has moved d cells, are computed in 64 bits, and the inner one has 16 bits
  abbrev pub TermFits : Term → Type 0
  TermFits (terms.Whole i) = ExprFits (lowered d (argument args i))
  TermFits (terms.Cell n) = SlotFits n
  TermFits (terms.Behind n k) = SlotFits n × (k < 2 ^ 15)
  TermFits (terms.Word k) = Unit {0}
  TermFits (terms.Add n o) = SlotFits n × SecondFits o
  TermFits (terms.Sub n o) = SlotFits n × SecondFits o
  TermFits (terms.Mul n o) = SlotFits n × SecondFits o
