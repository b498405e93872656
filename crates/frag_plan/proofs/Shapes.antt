-- The pieces of a plan are placed as those of a well-formed fragment.
use Rattle.std.proofs.Common.{◌≡◌, ℕ, ◌+◌, ◌<◌, nat_lt, nat_le, Bool, true, false, not, ◌&&◌, ◌||◌, List, [], ◌∷◌, ◌++◌, length, IsTrue, refl, sym, ap, subst, ◌∙◌, length-append, arith}
use Rattle.std.proofs.lemmas.Bool.{and_parts, and_from, or_right, lt-ltb, le-leb, leb-true, false≢true}
use Rattle.casm_word.specs.declared.cell_expr.CellExpr.{CellExpr}
use Rattle.frag_code.specs.declared.piece.Piece.{Piece}
use Rattle.frag_code.specs.declared.piece.Piece.TheVariants as piece
use Rattle.frag_code.specs.Form.{begins_with_exit, is_jump, has_jump, is_exit, is_empty, is_placed, shape}
use Rattle.frag_code.proofs.Places.{shape_parts, shape_last}
use Rattle.cell_terms.specs.declared.term.Slot.{Slot}
use Rattle.frag_plan.specs.Plan.{Line, Plan, lay, reserve, ask, same, range, line, test, exit, ref_of, piece_of, change_after, flatten, fragment, is_ask, is_end, asks_met}

-- a piece before others, which are placed right
shape_cons : (jumps : Bool) (i : ℕ) (p : Piece) (ps : List Piece) → IsTrue (is_placed jumps i p ps) → IsTrue (shape jumps (i + 1) ps) → IsTrue (shape jumps i (p ∷ ps))
shape_cons jumps i p ps placed rest = or_right (is_exit p && is_empty ps) (is_placed jumps i p ps && shape jumps (i + 1) ps) (and_from (is_placed jumps i p ps) (shape jumps (i + 1) ps) placed rest)

-- a piece stays placed right as pieces are added at the end
placed_longer : (i : ℕ) (p q : Piece) (ps qs : List Piece) → IsTrue (is_placed true i p (q ∷ ps)) → IsTrue (is_placed true i p (q ∷ ps ++ qs))
placed_longer i (piece.Let e) q ps qs placed = refl
placed_longer i (piece.Reserve n) q ps qs placed = refl
placed_longer i (piece.Hint c k) q ps qs placed = same_begin q placed
  where
    same_begin : (q : Piece) → IsTrue (not (begins_with_exit (q ∷ ps))) → IsTrue (not (begins_with_exit (q ∷ ps ++ qs)))
    same_begin (piece.Let e) is = refl
    same_begin (piece.Reserve n) is = refl
    same_begin (piece.Hint c k) is = refl
    same_begin (piece.Assert c e) is = refl
    same_begin (piece.Range p o c) is = refl
    same_begin (piece.IfNonZero c to) is = refl
    same_begin (piece.Exit x) is = is
placed_longer i (piece.Assert c e) q ps qs placed = refl
placed_longer i (piece.Range p o c) q ps qs placed = refl
placed_longer i (piece.IfNonZero c to) q ps qs placed =
    let parts = and_parts (nat_lt i to) (nat_le to (i + length (q ∷ ps))) placed in
    let inside = leb-true to (i + length (q ∷ ps)) parts.1 in
    let longer = length-append (q ∷ ps) qs in
    and_from (nat_lt i to) (nat_le to (i + length (q ∷ ps ++ qs))) parts.0 (le-leb to (i + length (q ∷ ps ++ qs)) (omega (arith, inside, longer)))
placed_longer i (piece.Exit x) q ps qs placed = refl

exit_placed : (i : ℕ) (p : Piece) (qs : List Piece) → IsTrue (is_exit p) → IsTrue (is_placed true i p qs)
exit_placed i (piece.Let e) qs is = absurd (false≢true is)
exit_placed i (piece.Reserve n) qs is = absurd (false≢true is)
exit_placed i (piece.Hint c k) qs is = absurd (false≢true is)
exit_placed i (piece.Assert c e) qs is = absurd (false≢true is)
exit_placed i (piece.Range p o c) qs is = absurd (false≢true is)
exit_placed i (piece.IfNonZero c to) qs is = absurd (false≢true is)
exit_placed i (piece.Exit x) qs is = refl

-- two lists of pieces, one behind the other, in a fragment with an IfNonZero
shape_append : (i : ℕ) (ps qs : List Piece) → IsTrue (shape true i ps) → IsTrue (shape true (i + length ps) qs) → IsTrue (shape true i (ps ++ qs))
shape_append i [] qs first second = absurd (false≢true first)
shape_append i (p ∷ []) qs first second = shape_cons true i p qs (exit_placed i p qs (shape_last true i p first)) (subst (λ n. IsTrue (shape true n qs)) (omega arith) second)
shape_append i (p ∷ q ∷ ps) qs first second =
    let parts = shape_parts true i p q ps first in
    shape_cons true i p (q ∷ ps ++ qs) (placed_longer i p q ps qs parts.0)
    (shape_append (i + 1) (q ∷ ps) qs parts.1 (subst (λ n. IsTrue (shape true n qs)) (omega arith) second))

module _ (args : List CellExpr) where
  pub some_pieces : (p : Plan) (d i : ℕ) → 0 < length (flatten args d i p)
  some_pieces (line a p) d i = omega arith
  some_pieces (test n p q) d i = omega arith
  some_pieces (exit k) d i = omega arith

  begins_so : (p : Plan) (d i : ℕ) → begins_with_exit (flatten args d i p) ≡ is_end p
  begins_so (line (lay t) p) d i = refl
  begins_so (line (reserve k) p) d i = refl
  begins_so (line (ask n k) p) d i = refl
  begins_so (line (same n t) p) d i = refl
  begins_so (line (range b k n) p) d i = refl
  begins_so (test n p q) d i = refl
  begins_so (exit k) d i = refl

  line_placed : (jumps : Bool) (a : Line) (p : Plan) (d i : ℕ) → IsTrue (not (is_ask a && is_end p)) → IsTrue (is_placed jumps i (piece_of d args a) (flatten args (change_after a d) (i + 1) p))
  line_placed jumps (lay t) p d i met = refl
  line_placed jumps (reserve k) p d i met = refl
  line_placed jumps (ask n k) p d i met = ap not (begins_so p d (i + 1)) ∙ met
  line_placed jumps (same n t) p d i met = refl
  line_placed jumps (range b k n) p d i met = refl

  line_no_jump : (a : Line) (d : ℕ) → is_jump (piece_of d args a) ≡ false
  line_no_jump (lay t) d = refl
  line_no_jump (reserve k) d = refl
  line_no_jump (ask n k) d = refl
  line_no_jump (same n t) d = refl
  line_no_jump (range b k n) d = refl

  test_shaped : (n : Slot) (p q : Plan) (d i : ℕ) → IsTrue (shape true (i + 1) (flatten args d (i + 1) p))
      → IsTrue (shape true (i + 1 + length (flatten args d (i + 1) p)) (flatten args d (i + 1 + length (flatten args d (i + 1) p)) q)) → IsTrue (shape true i (flatten args d i (test n p q)))
  test_shaped n p q d i first second =
      let zeros = flatten args d (i + 1) p in
      let others = flatten args d (i + 1 + length zeros) q in
      let to = i + 1 + length zeros in
      let some = some_pieces q d (i + 1 + length zeros) in
      let both = length-append zeros others in
      shape_cons true i (piece.IfNonZero (ref_of d args n) to) (zeros ++ others)
      (and_from (nat_lt i to) (nat_le to (i + length (zeros ++ others))) (lt-ltb i to (omega arith)) (le-leb to (i + length (zeros ++ others)) (omega (arith, both, some))))
      (shape_append (i + 1) zeros others first second)

  pub shaped_with : (jumps : Bool) (p : Plan) (d i : ℕ) → (has_jump (flatten args d i p) ≡ true → jumps ≡ true) → IsTrue (asks_met p) → IsTrue (shape jumps i (flatten args d i p))
  shaped_with jumps (line a p) d i has met =
      let parts = and_parts (not (is_ask a && is_end p)) (asks_met p) met in
      shape_cons jumps i (piece_of d args a) (flatten args (change_after a d) (i + 1) p) (line_placed jumps a p d i parts.0)
      (shaped_with jumps p (change_after a d) (i + 1) (λ some. has (ap (λ b. b || has_jump (flatten args (change_after a d) (i + 1) p)) (line_no_jump a d) ∙ some)) parts.1)
  shaped_with jumps (test n p q) d i has met =
      let parts = and_parts (asks_met p) (asks_met q) met in
      subst (λ j. IsTrue (shape j i (flatten args d i (test n p q)))) (sym (has refl))
      (test_shaped n p q d i (shaped_with true p d (i + 1) (λ some. refl) parts.0) (shaped_with true q d (i + 1 + length (flatten args d (i + 1) p)) (λ some. refl) parts.1))
  shaped_with jumps (exit k) d i has met = refl

  pub shaped : (p : Plan) → IsTrue (asks_met p) → IsTrue (shape (has_jump (fragment args p)) 0 (fragment args p))
  shaped p met = shaped_with (has_jump (fragment args p)) p 0 0 (λ some. some) met
