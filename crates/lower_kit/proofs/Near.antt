-- The fragments of plans are well formed: offsets have 16 bits.
use Rattle.std.proofs.Common.{◌≡◌, ℕ, zero, suc, ◌+◌, ◌≤◌, ◌^◌, ℤ, IsTrue, List, [], ◌∷◌, length, map, subst, arith}
use Rattle.std.proofs.lemmas.Int.{ints}
use Rattle.std.specs.List.{All, AllByRecursion, range_with_len}
use Rattle.std.proofs.lemmas.List.Elements.{All-nil, All-cons, All-head, All-tail, All-append}
use Rattle.casm_word.specs.Offset.{IsNear}
use Rattle.casm_word.specs.declared.instr.Reg.{Reg}
use Rattle.casm_word.specs.declared.instr.Reg.TheVariants as reg
use Rattle.casm_word.specs.declared.cell_expr.At.{At}
use Rattle.casm_word.specs.declared.cell_expr.Side.{Side}
use Rattle.casm_word.specs.declared.cell_expr.Side.TheVariants as side
use Rattle.casm_word.specs.declared.cell_expr.CellExpr.{CellExpr}
use Rattle.casm_word.specs.declared.cell_expr.CellExpr.TheVariants as expr
use Rattle.casm_word.specs.Expressions.{lowered, lowered_at, lowered_side}
use Rattle.cell_terms.specs.declared.term.Slot.{Slot}
use Rattle.cell_terms.specs.declared.term.Slot.TheVariants as slots
use Rattle.cell_terms.specs.declared.term.Second.{Second}
use Rattle.cell_terms.specs.declared.term.Second.TheVariants as seconds
use Rattle.cell_terms.specs.declared.term.Term.{Term}
use Rattle.cell_terms.specs.declared.term.Term.TheVariants as terms
use Rattle.cell_terms.specs.Resolving.{at_of, argument, place, side_of, resolve}
use Rattle.frag_code.specs.Form.{IsSideNear, IsExprNear, IsPieceNear, IsWellFormed, hints_met}
use Rattle.frag_plan.specs.Plan.{Line, lay, reserve, ask, same, range, Plan, line, test, exit, piece_of, change_after, flatten, fragment, asks_met}
use Rattle.frag_plan.proofs.Shapes.{shaped}
use Rattle.frag_plan.proofs.Hints.{hints_are_met}
use Rattle.cost_table.specs.Fits.{IsClose, IsCloseSide, IsCloseExpr}
use Rattle.cost_table.specs.Terms.{further, run, kept}
use Rattle.lower_kit.specs.Rows.{lay_each, same_each}
use Rattle.lower_kit.specs.Small.{IsSmallSlot, IsSmallSecond, IsSmallTerm, IsSmallLine, IsSmallPlan}
use Rattle.lower_kit.specs.Fitting.{IsInnerNear}
use Rattle.lower_kit.proofs.Named.{argument_close, cell_close}

base_near : (d : ℕ) (base : Reg) (off : ℤ) → d ≤ 2 ^ 14 → IsClose (record { base = base; off = off }) → IsNear (lowered_at d (record { base = base; off = off })).off
base_near d reg.Ap off few close = let a = close.least in let b = close.most in omega (arith, ints)
base_near d reg.Fp off few close = let a = close.least in let b = close.most in omega (arith, ints)

at_near : (d : ℕ) (at : At) → d ≤ 2 ^ 14 → IsClose at → IsNear (lowered_at d at).off
at_near d at few close = base_near d at.base at.off few close

argument_inner : (args : List CellExpr) (i : ℕ) → All IsInnerNear args → IsInnerNear (argument args i)
argument_inner [] i inner = tt
argument_inner (e ∷ args) zero inner = All-head IsInnerNear e args inner
argument_inner (e ∷ args) (suc i) inner = argument_inner args i (All-tail IsInnerNear e args inner)

module _ (args : List CellExpr) (close : All IsCloseExpr args) (inner : All IsInnerNear args) where
  pub slot_near : (d : ℕ) (n : Slot) → IsSmallSlot d n → IsNear (place d args n).off
  slot_near d (slots.Own k) small = let a = small.0 in let b = small.1 in omega (arith, ints, a, b)
  slot_near d (slots.Arg i) small = at_near d (at_of (argument args i)) small (cell_close (argument args i) (argument_close args i close))
  slot_near d (slots.Frame k) small = omega (arith, ints)

  second_near : (d : ℕ) (o : Second) → IsSmallSecond d o → IsSideNear (side_of d args o)
  second_near d (seconds.Slot n) small = slot_near d n small
  second_near d (seconds.Number k) small = tt

  lowered_side_near : (d : ℕ) (s : Side) → d ≤ 2 ^ 14 → IsCloseSide s → IsSideNear (lowered_side d s)
  lowered_side_near d (side.Cell at) few h = at_near d at few h
  lowered_side_near d (side.Imm n) few h = tt

  lowered_near : (d : ℕ) (e : CellExpr) → d ≤ 2 ^ 14 → IsCloseExpr e → IsInnerNear e → IsExprNear (lowered d e)
  lowered_near d (expr.Cell at) few h k = at_near d at few h
  lowered_near d (expr.DoubleCell at inner) few h k = (at_near d at few h, k)
  lowered_near d (expr.Imm n) few h k = tt
  lowered_near d (expr.Sum at s) few h k = (at_near d at few h.0, lowered_side_near d s few h.1)
  lowered_near d (expr.Diff at s) few h k = (at_near d at few h.0, lowered_side_near d s few h.1)
  lowered_near d (expr.Product at s) few h k = (at_near d at few h.0, lowered_side_near d s few h.1)

  term_near : (d : ℕ) (t : Term) → IsSmallTerm d t → IsExprNear (resolve d args t)
  term_near d (terms.Whole i) small = lowered_near d (argument args i) small (argument_close args i close) (argument_inner args i inner)
  term_near d (terms.Cell n) small = slot_near d n small
  term_near d (terms.Behind n k) small = let low = small.1 in (slot_near d n small.0, omega (arith, ints, low))
  term_near d (terms.Word k) small = tt
  term_near d (terms.Add n o) small = (slot_near d n small.0, second_near d o small.1)
  term_near d (terms.Sub n o) small = (slot_near d n small.0, second_near d o small.1)
  term_near d (terms.Mul n o) small = (slot_near d n small.0, second_near d o small.1)

  line_near : (d : ℕ) (a : Line) → IsSmallLine d a → IsPieceNear (piece_of d args a)
  line_near d (lay t) small = term_near d t small
  line_near d (reserve k) small = tt
  line_near d (ask n k) small = slot_near d n small
  line_near d (same n t) small = (slot_near d n small.0, term_near d t small.1)
  line_near d (range p k n) small = let low = small.1 in (slot_near d p small.0, omega (arith, ints, low), slot_near d n small.2)

  pub plan_near : (p : Plan) (d i : ℕ) → IsSmallPlan d p → All IsPieceNear (flatten args d i p)
  plan_near (line a p) d i small = All-cons IsPieceNear _ _ (line_near d a small.0) (plan_near p (change_after a d) (i + 1) small.1)
  plan_near (test n p q) d i small =
      All-cons IsPieceNear _ _ (slot_near d n small.0)
      (All-append IsPieceNear _ _ (plan_near p d (i + 1) small.1) (plan_near q d (i + 1 + length (flatten args d (i + 1) p)) small.2))
  plan_near (exit k) d i small = All-cons IsPieceNear _ [] tt (All-nil IsPieceNear)

  -- the fragment of a plan of small numbers, in which no query is followed by an exit, is well formed
  pub formed : (p : Plan) → IsTrue (asks_met p) → IsSmallPlan 0 p → IsWellFormed (fragment args p)
  formed p met small = record { shaped = shaped args p met; near = plan_near p 0 0 small }

  pub hints_fine : (p : Plan) → IsTrue (asks_met p) → IsTrue (hints_met 0 (fragment args p))
  hints_fine p met = hints_are_met args p met

-- rows of small terms are small
pub lays_small : (d : ℕ) (ts : List Term) (p : Plan) → d + length ts ≤ 2 ^ 14 → AllByRecursion (λ t. (n : ℕ) → n ≤ 2 ^ 14 → IsSmallTerm n t) ts
    → IsSmallPlan (d + length ts) p → IsSmallPlan d (lay_each ts p)
lays_small d [] p few all rest = let same : d + 0 ≡ d = omega arith in subst (λ n. IsSmallPlan n p) same rest
lays_small d (t ∷ ts) p few all rest =
    let same : d + suc (length ts) ≡ d + 1 + length ts = omega arith in
    (all.0 d (omega (arith, few)), lays_small (d + 1) ts p (omega (arith, few)) all.1 (subst (λ n. IsSmallPlan n p) same rest))

pub sames_small : (d i : ℕ) (ts : List Term) (p : Plan) → d ≤ 2 ^ 14 → AllByRecursion (IsSmallTerm d) ts → IsSmallPlan d p → IsSmallPlan d (same_each i ts p)
sames_small d i [] p few all rest = rest
sames_small d i (t ∷ ts) p few all rest = ((few, all.0), sames_small d (i + 1) ts p few all.1 rest)

kept_small_from : (from k n : ℕ) → AllByRecursion (λ t. (d : ℕ) → d ≤ 2 ^ 14 → IsSmallTerm d t) (map (further (terms.Whole from)) (range_with_len k n))
kept_small_from from k zero = tt
kept_small_from from k (suc n) = ((λ d few. few), kept_small_from from (k + 1) n)

pub kept_small : (from n : ℕ) → AllByRecursion (λ t. (d : ℕ) → d ≤ 2 ^ 14 → IsSmallTerm d t) (kept from n)
kept_small from n = kept_small_from from 0 n

kept_small_at_from : (d from k n : ℕ) → d ≤ 2 ^ 14 → AllByRecursion (IsSmallTerm d) (map (further (terms.Whole from)) (range_with_len k n))
kept_small_at_from d from k zero few = tt
kept_small_at_from d from k (suc n) few = (few, kept_small_at_from d from (k + 1) n few)

pub kept_small_at : (d from n : ℕ) → d ≤ 2 ^ 14 → AllByRecursion (IsSmallTerm d) (kept from n)
kept_small_at d from n few = kept_small_at_from d from 0 n few

behind_small_from : (d : ℕ) (s : Slot) (k n : ℕ) → IsSmallSlot d s → k + n ≤ 2 ^ 14 → AllByRecursion (IsSmallTerm d) (map (further (terms.Behind s 0)) (range_with_len k n))
behind_small_from d s k zero small few = tt
behind_small_from d s k (suc n) small few = ((small, omega (arith, few)), behind_small_from d s (k + 1) n small (omega (arith, few)))

pub behind_small : (d : ℕ) (s : Slot) (n : ℕ) → IsSmallSlot d s → n ≤ 2 ^ 14 → AllByRecursion (IsSmallTerm d) (run (terms.Behind s 0) n)
behind_small d s n small few = behind_small_from d s 0 n small (omega (arith, few))
