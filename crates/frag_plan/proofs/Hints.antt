-- No jump of a plan's fragment passes over a query that is asked at its target: the piece before a target is an Exit.
use Rattle.std.proofs.Common.{◌≡◌, ℕ, ◌+◌, ◌≤◌, ◌==◌, nat_lt, nat_le, true, false, not, ◌&&◌, List, [], ◌∷◌, ◌++◌, length, IsTrue, refl, subst, arith}
use Rattle.std.proofs.lemmas.Bool.{and_parts, and_from, and_left, and_right, not_from_false, ne_eqb, leb-true, false≢true}
use Rattle.casm_word.specs.declared.cell_expr.CellExpr.{CellExpr}
use Rattle.frag_code.specs.declared.piece.Piece.{Piece}
use Rattle.frag_code.specs.declared.piece.Piece.TheVariants as piece
use Rattle.frag_code.specs.Form.{is_exit, is_hint, is_placed, shape, no_hint_before, target_clear, hints_met}
use Rattle.frag_code.proofs.Places.{shape_parts, shape_last}
use Rattle.frag_plan.specs.Plan.{Line, Plan, lay, reserve, ask, same, range, line, test, exit, piece_of, change_after, flatten, fragment, asks_met}
use Rattle.frag_plan.proofs.Shapes.{shaped_with}

-- pieces from a position at or behind the target on
no_hint_behind : (i to : ℕ) (ps : List Piece) → to ≤ i → IsTrue (no_hint_before i to ps)
no_hint_behind i to [] past = refl
no_hint_behind i to (p ∷ ps) past =
    and_from (not (is_hint p && (i + 1) == to)) (no_hint_before (i + 1) to ps) (not_from_false (is_hint p && (i + 1) == to) (and_right (is_hint p) ((i + 1) == to) (ne_eqb (i + 1) to (λ is. omega arith))))
    (no_hint_behind (i + 1) to ps (omega arith))

-- the target is in the first pieces or right behind them
no_hint_append : (i to : ℕ) (ps qs : List Piece) → to ≤ i + length ps → IsTrue (no_hint_before i to ps) → IsTrue (no_hint_before i to (ps ++ qs))
no_hint_append i to [] qs within clear = no_hint_behind i to qs (omega (arith, within))
no_hint_append i to (p ∷ ps) qs within clear =
    let parts = and_parts (not (is_hint p && (i + 1) == to)) (no_hint_before (i + 1) to ps) clear in
    and_from (not (is_hint p && (i + 1) == to)) (no_hint_before (i + 1) to (ps ++ qs)) parts.0 (no_hint_append (i + 1) to ps qs (omega (arith, within)) parts.1)

exit_no_hint : (p : Piece) → IsTrue (is_exit p) → is_hint p ≡ false
exit_no_hint (piece.Let e) is = absurd (false≢true is)
exit_no_hint (piece.Reserve n) is = absurd (false≢true is)
exit_no_hint (piece.Hint c k) is = absurd (false≢true is)
exit_no_hint (piece.Assert c e) is = absurd (false≢true is)
exit_no_hint (piece.Range p o c) is = absurd (false≢true is)
exit_no_hint (piece.IfNonZero c to) is = absurd (false≢true is)
exit_no_hint (piece.Exit x) is = refl

-- the target right behind pieces of which the last is an Exit
no_hint_at_end : (i : ℕ) (ps : List Piece) → IsTrue (shape true i ps) → IsTrue (no_hint_before i (i + length ps) ps)
no_hint_at_end i [] shaped = absurd (false≢true shaped)
no_hint_at_end i (p ∷ []) shaped = and_from (not (is_hint p && (i + 1) == (i + 1))) true (not_from_false (is_hint p && (i + 1) == (i + 1)) (and_left (is_hint p) ((i + 1) == (i + 1)) (exit_no_hint p (shape_last true i p shaped)))) refl
no_hint_at_end i (p ∷ q ∷ ps) shaped =
    let rest = no_hint_at_end (i + 1) (q ∷ ps) ((shape_parts true i p q ps shaped).1) in
    let far : (i + 1) == (i + length (p ∷ q ∷ ps)) ≡ false = ne_eqb (i + 1) (i + length (p ∷ q ∷ ps)) (λ is. omega arith) in
    and_from (not (is_hint p && (i + 1) == (i + length (p ∷ q ∷ ps)))) (no_hint_before (i + 1) (i + length (p ∷ q ∷ ps)) (q ∷ ps))
    (not_from_false (is_hint p && (i + 1) == (i + length (p ∷ q ∷ ps))) (and_right (is_hint p) ((i + 1) == (i + length (p ∷ q ∷ ps))) far))
    (subst (λ n. IsTrue (no_hint_before (i + 1) n (q ∷ ps))) (omega arith) rest)

-- a target inside the first pieces stays clear as pieces are added
target_longer : (i : ℕ) (p q : Piece) (ps qs : List Piece) → IsTrue (is_placed true i p (q ∷ ps)) → IsTrue (target_clear i p (q ∷ ps)) → IsTrue (target_clear i p (q ∷ ps ++ qs))
target_longer i (piece.Let e) q ps qs placed clear = refl
target_longer i (piece.Reserve n) q ps qs placed clear = refl
target_longer i (piece.Hint c k) q ps qs placed clear = refl
target_longer i (piece.Assert c e) q ps qs placed clear = refl
target_longer i (piece.Range p o c) q ps qs placed clear = refl
target_longer i (piece.IfNonZero c to) q ps qs placed clear =
    let inside = leb-true to (i + length (q ∷ ps)) ((and_parts (nat_lt i to) (nat_le to (i + length (q ∷ ps))) placed).1) in
    no_hint_append (i + 1) to (q ∷ ps) qs (omega (arith, inside)) clear
target_longer i (piece.Exit x) q ps qs placed clear = refl

exit_clear : (i : ℕ) (p : Piece) (qs : List Piece) → IsTrue (is_exit p) → IsTrue (target_clear i p qs)
exit_clear i (piece.Let e) qs is = absurd (false≢true is)
exit_clear i (piece.Reserve n) qs is = absurd (false≢true is)
exit_clear i (piece.Hint c k) qs is = absurd (false≢true is)
exit_clear i (piece.Assert c e) qs is = absurd (false≢true is)
exit_clear i (piece.Range p o c) qs is = absurd (false≢true is)
exit_clear i (piece.IfNonZero c to) qs is = absurd (false≢true is)
exit_clear i (piece.Exit x) qs is = refl

hints_append : (i : ℕ) (ps qs : List Piece) → IsTrue (shape true i ps) → IsTrue (hints_met i ps) → IsTrue (hints_met (i + length ps) qs) → IsTrue (hints_met i (ps ++ qs))
hints_append i [] qs shaped first second = absurd (false≢true shaped)
hints_append i (p ∷ []) qs shaped first second = and_from (target_clear i p qs) (hints_met (i + 1) qs) (exit_clear i p qs (shape_last true i p shaped)) (subst (λ n. IsTrue (hints_met n qs)) (omega arith) second)
hints_append i (p ∷ q ∷ ps) qs shaped first second =
    let parts = shape_parts true i p q ps shaped in
    let clear = and_parts (target_clear i p (q ∷ ps)) (hints_met (i + 1) (q ∷ ps)) first in
    and_from (target_clear i p (q ∷ ps ++ qs)) (hints_met (i + 1) (q ∷ ps ++ qs)) (target_longer i p q ps qs parts.0 clear.0)
    (hints_append (i + 1) (q ∷ ps) qs parts.1 clear.1 (subst (λ n. IsTrue (hints_met n qs)) (omega arith) second))

module _ (args : List CellExpr) where
  line_clear : (a : Line) (d i : ℕ) (ps : List Piece) → IsTrue (target_clear i (piece_of d args a) ps)
  line_clear (lay t) d i ps = refl
  line_clear (reserve k) d i ps = refl
  line_clear (ask n k) d i ps = refl
  line_clear (same n t) d i ps = refl
  line_clear (range b k n) d i ps = refl

  met : (p : Plan) (d i : ℕ) → IsTrue (asks_met p) → IsTrue (hints_met i (flatten args d i p))
  met (line a p) d i asks =
      let rest = flatten args (change_after a d) (i + 1) p in
      and_from (target_clear i (piece_of d args a) rest) (hints_met (i + 1) rest) (line_clear a d i rest) (met p (change_after a d) (i + 1) (and_parts _ (asks_met p) asks).1)
  met (test n p q) d i asks =
      let parts = and_parts (asks_met p) (asks_met q) asks in
      let zeros = flatten args d (i + 1) p in
      let others = flatten args d (i + 1 + length zeros) q in
      let zeros_shaped = shaped_with args true p d (i + 1) (λ some. refl) parts.0 in
      and_from (no_hint_before (i + 1) (i + 1 + length zeros) (zeros ++ others)) (hints_met (i + 1) (zeros ++ others))
      (no_hint_append (i + 1) (i + 1 + length zeros) zeros others (omega arith) (no_hint_at_end (i + 1) zeros zeros_shaped))
      (hints_append (i + 1) zeros others zeros_shaped (met p d (i + 1) parts.0) (met q d (i + 1 + length zeros) parts.1))
  met (exit k) d i asks = refl

  pub hints_are_met : (p : Plan) → IsTrue (asks_met p) → IsTrue (hints_met 0 (fragment args p))
  hints_are_met p asks = met p 0 0 asks
