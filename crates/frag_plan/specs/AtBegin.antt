-- What terms read where a fragment begins.
use Rattle.std.specs.Prelude.{ℕ, pos, List, Option, Some}
use Rattle.felt64.specs.Field.{sum, difference, product}
use Rattle.casm_word.specs.declared.cell_expr.CellExpr.{CellExpr}
use Rattle.casm_steps.specs.Reading.{both, behind, reading}
use Rattle.cell_terms.specs.declared.term.Slot.{Slot}
use Rattle.cell_terms.specs.declared.term.Second.{Second}
use Rattle.cell_terms.specs.declared.term.Second.TheVariants as seconds
use Rattle.cell_terms.specs.declared.term.Term.{Term}
use Rattle.cell_terms.specs.declared.term.Term.TheVariants as terms
use Rattle.cell_terms.specs.Resolving.{argument}
use Rattle.frag_plan.specs.Scene.{slot_address}

module _ (m : ℕ → Option ℕ) (ap fp : ℕ) (args : List CellExpr) where
  abbrev pub slot_at : Slot → Option ℕ
  slot_at n = m (slot_address ap fp args n)

  abbrev pub second_at : Second → Option ℕ
  second_at (seconds.Slot n) = slot_at n
  second_at (seconds.Number k) = Some k

  -- what the term reads, ap and fp being those at the begin
  abbrev pub at_begin : Term → Option ℕ
  at_begin (terms.Whole i) = reading m ap fp (argument args i)
  at_begin (terms.Cell n) = slot_at n
  at_begin (terms.Behind n k) = behind m (slot_at n) (pos k)
  at_begin (terms.Word k) = Some k
  at_begin (terms.Add n o) = both sum (slot_at n) (second_at o)
  at_begin (terms.Sub n o) = both difference (slot_at n) (second_at o)
  at_begin (terms.Mul n o) = both product (slot_at n) (second_at o)
