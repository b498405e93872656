-- An evaluation of a plan's fragment is a way through the plan.
use Rattle.std.proofs.Common.{◌≡◌, ◌≢◌, ◌⊎◌, ℕ, ◌+◌, ◌-◌, Bool, ℤ, pos, List, ◌∷◌, ◌++◌, length, Option, Some, None, refl, sym, ap, subst, ◌∙◌, inl, inr, append_assoc, arith}
use Rattle.std.proofs.lemmas.Int.{ints}
use Rattle.felt64.specs.Field.{sum, difference, product}
use Rattle.casm_word.specs.declared.instr.Reg.{Reg}
use Rattle.casm_word.specs.declared.instr.Reg.TheVariants as reg
use Rattle.casm_word.specs.declared.cell_expr.At.{At}
use Rattle.casm_word.specs.declared.cell_expr.Side.{Side}
use Rattle.casm_word.specs.declared.cell_expr.Side.TheVariants as side
use Rattle.casm_word.specs.declared.cell_expr.CellExpr.{CellExpr}
use Rattle.casm_word.specs.declared.cell_expr.CellExpr.TheVariants as expr
use Rattle.casm_word.specs.Expressions.{lowered_off, lowered_at, lowered_side, lowered}
use Rattle.ro_machine.specs.Step.{moved}
use Rattle.casm_steps.specs.Reading.{register, address, both, behind, side_by, reading}
use Rattle.casm_steps.proofs.Readings.{both_is, both_parts, behind_parts}
use Rattle.frag_code.specs.declared.piece.Piece.{Piece}
use Rattle.frag_code.specs.declared.piece.Piece.TheVariants as piece
use Rattle.frag_code.specs.Evaluation.{Tally, raised, address_after, word_after, step_on, step_naming, Evaluates}
use Rattle.frag_code.proofs.Evaluations.{passes}
use Rattle.cell_terms.specs.declared.term.Slot.{Slot}
use Rattle.cell_terms.specs.declared.term.Slot.TheVariants as slots
use Rattle.cell_terms.specs.declared.term.Second.{Second}
use Rattle.cell_terms.specs.declared.term.Second.TheVariants as seconds
use Rattle.cell_terms.specs.declared.term.Term.{Term}
use Rattle.cell_terms.specs.declared.term.Term.TheVariants as terms
use Rattle.cell_terms.specs.Resolving.{at_of, argument, place, side_of, resolve}
use Rattle.frag_plan.specs.Plan.{Line, Plan, lay, reserve, ask, same, range, line, test, exit, piece_of, change_after, flatten}
use Rattle.frag_plan.specs.Scene.{Scene, second, value, after, Along, slot_address, word_or_zero, scene_of, SlotListed, SecondListed, TermListed, LineHolds}

-- what is lowered and raised again is as before
raised_lowered : (d : ℕ) (r : Reg) (off : ℤ) → raised d r (lowered_off d r off) ≡ off
raised_lowered d reg.Ap off = omega (arith, ints)
raised_lowered d reg.Fp off = refl

listed : (o : Option ℕ) (w : ℕ) → o ≡ Some w → o ≡ Some (word_or_zero o)
listed None w is = cc
listed (Some v) w is = refl

-- what holds of a type holds of an equal one
same_type : {A B : Type 0} → ◌≡◌ {A = Type 0} A B → A → B
same_type equal x = subst (λ T. T) equal x

is_word : (o : Option ℕ) (w : ℕ) → o ≡ Some w → word_or_zero o ≡ w
is_word o w is = ap word_or_zero is

module _ (m : ℕ → Option ℕ) (a fp : ℕ) (args : List CellExpr) where
  abbrev c : Scene
  c = scene_of m a fp args

  module _ (d : ℕ) where
    at_lowered : (at : At) → address_after a fp d (lowered_at d at) ≡ address a fp at
    at_lowered at = ap (moved (register at.base a fp)) (raised_lowered d at.base at.off)

    -- a named cell keeps its address as ap moves
    pub slot_is : (n : Slot) → address_after a fp d (place d args n) ≡ slot_address a fp args n
    slot_is (slots.Own k) = ap (moved a) (raised_lowered d reg.Ap (pos k))
    slot_is (slots.Arg i) = at_lowered (at_of (argument args i))
    slot_is (slots.Frame k) = refl

    side_lowered : (s : Side) → side_by m (address_after a fp d) (lowered_side d s) ≡ side_by m (address a fp) s
    side_lowered (side.Cell at) = ap m (at_lowered at)
    side_lowered (side.Imm k) = refl

    both_lowered : (f : ℕ → ℕ → ℕ) (at : At) (s : Side)
        → both f (m (address_after a fp d (lowered_at d at))) (side_by m (address_after a fp d) (lowered_side d s)) ≡ both f (m (address a fp at)) (side_by m (address a fp) s)
    both_lowered f at s = ap (λ x. both f (m x) (side_by m (address_after a fp d) (lowered_side d s))) (at_lowered at) ∙ ap (both f (m (address a fp at))) (side_lowered s)

    -- an argument's expression keeps its word
    pub whole_is : (e : CellExpr) → word_after m a fp d (lowered d e) ≡ reading m a fp e
    whole_is (expr.Cell at) = ap m (at_lowered at)
    whole_is (expr.DoubleCell at inner) = ap (λ x. behind m (m x) inner) (at_lowered at)
    whole_is (expr.Imm k) = refl
    whole_is (expr.Sum at s) = both_lowered sum at s
    whole_is (expr.Diff at s) = both_lowered difference at s
    whole_is (expr.Product at s) = both_lowered product at s

    pub slot_word : (n : Slot) → m (address_after a fp d (place d args n)) ≡ m (slot_address a fp args n)
    slot_word n = ap m (slot_is n)

    abbrev Holds : Slot → Type 0
    Holds = SlotListed m a fp args c

    abbrev TermHolds : Term → Type 0
    TermHolds = TermListed m a fp args c

    second_back : (o : Second) → SecondListed m a fp args c o → side_by m (address_after a fp d) (side_of d args o) ≡ Some (second c o)
    second_back (seconds.Slot n) is = slot_word n ∙ is
    second_back (seconds.Number k) is = refl

    second_reads : (o : Second) (w : ℕ) → side_by m (address_after a fp d) (side_of d args o) ≡ Some w → SecondListed m a fp args c o × (second c o ≡ w)
    second_reads (seconds.Slot n) w is = let here = sym (slot_word n) ∙ is in (listed _ w here, is_word _ w here)
    second_reads (seconds.Number k) w is = (tt, let same : k ≡ w = cc in same)

    both_reads : (f : ℕ → ℕ → ℕ) (n : Slot) (o : Second) (w : ℕ) → both f (m (address_after a fp d (place d args n))) (side_by m (address_after a fp d) (side_of d args o)) ≡ Some w
        → (Holds n × SecondListed m a fp args c o) × (f (c.w n) (second c o) ≡ w)
    both_reads f n o w is =
        let parts = both_parts f (m (address_after a fp d (place d args n))) (side_by m (address_after a fp d) (side_of d args o)) w is in
        let first = sym (slot_word n) ∙ parts.2 in
        let other = second_reads o parts.1 parts.3 in
        ((listed _ parts.0 first, other.0), rw (is_word _ parts.0 first, other.1) parts.4)

    -- the word of a term's expression is the term's word, of which the cells are listed
    term_reads : (t : Term) (w : ℕ) → word_after m a fp d (resolve d args t) ≡ Some w → TermHolds t × (value c t ≡ w)
    term_reads (terms.Whole i) w is = let here = sym (whole_is (argument args i)) ∙ is in (listed _ w here, is_word _ w here)
    term_reads (terms.Cell n) w is = let here = sym (slot_word n) ∙ is in (listed _ w here, is_word _ w here)
    term_reads (terms.Behind n k) w is =
        let parts = behind_parts m (m (address_after a fp d (place d args n))) (pos k) w is in
        let first = sym (slot_word n) ∙ parts.1 in
        let same = is_word _ parts.0 first in
        let there : m (sum (c.w n) k) ≡ Some w = ap (λ b. m (sum b k)) same ∙ parts.2 in
        ((listed _ parts.0 first, listed _ w there), is_word _ w there)
    term_reads (terms.Word k) w is = (tt, let same : k ≡ w = cc in same)
    term_reads (terms.Add n o) w is = both_reads sum n o w is
    term_reads (terms.Sub n o) w is = both_reads difference n o w is
    term_reads (terms.Mul n o) w is = both_reads product n o w is

    term_back : (t : Term) → TermHolds t → word_after m a fp d (resolve d args t) ≡ Some (value c t)
    term_back (terms.Whole i) is = whole_is (argument args i) ∙ is
    term_back (terms.Cell n) is = slot_word n ∙ is
    term_back (terms.Behind n k) (first, there) = ap (λ o. behind m o (pos k)) (slot_word n ∙ first) ∙ there
    term_back (terms.Word k) is = refl
    term_back (terms.Add n o) (first, other) = both_is sum _ _ _ _ (slot_word n ∙ first) (second_back o other)
    term_back (terms.Sub n o) (first, other) = both_is difference _ _ _ _ (slot_word n ∙ first) (second_back o other)
    term_back (terms.Mul n o) (first, other) = both_is product _ _ _ _ (slot_word n ∙ first) (second_back o other)

  module _ (jumps : Bool) where
    abbrev Goes : List Piece → ℕ → ℕ → Tally → ℕ → Tally → Type 0
    Goes ps i skip t k end = Evaluates m a fp jumps ps i skip t k end

    abbrev Way : Plan → Tally → ℕ → Tally → Type 0
    Way p t k end = Along c jumps (LineHolds m a fp args c) (SlotListed m a fp args c) p t k end

    -- a line's piece says what the line does
    line_says : (l : Line) (ps : List Piece) (i : ℕ) (t : Tally) (k : ℕ) (end : Tally) → Goes (piece_of t.change args l ∷ ps) i 0 t k end → LineHolds m a fp args c t.change l × Goes ps (i + 1) 0 (after c l t) k end
    unfolding Evaluates
    line_says (lay e) ps i t k end (w, left, right, goes) =
        let reads = term_reads t.change e w right in
        (((listed _ w left, reads.0), is_word _ w left ∙ sym reads.1), goes)
    line_says (reserve n) ps i t k end goes = ((tt, tt), goes)
    line_says (ask n q) ps i t k end goes = ((tt, tt), goes)
    line_says (same n e) ps i t k end (w, left, right, goes) =
        let reads = term_reads t.change e w right in
        let here = sym (slot_word t.change n) ∙ left in
        (((listed _ w here, reads.0), is_word _ w here ∙ sym reads.1), goes)
    line_says (range p o n) ps i t k end (b, w, pointer, there, here, goes) =
        let points = sym (slot_word t.change p) ∙ pointer in
        let base = is_word _ b points in
        let word = is_word _ w (sym (slot_word t.change n) ∙ here) in
        let at_pointer : m (sum (c.w p) o) ≡ Some w = ap (λ b. m (sum b o)) base ∙ there in (
          ((listed _ b points, listed _ w at_pointer, listed _ w (sym (slot_word t.change n) ∙ here)), is_word _ w at_pointer ∙ sym word),
          subst (λ u. Goes ps (i + 1) 0 u k end) (ap (λ x. step_naming (sum x o) w t) (sym base) ∙ ap (λ x. step_naming (sum (c.w p) o) x t) (sym word)) goes,
        )

    line_back : (l : Line) (ps : List Piece) (i : ℕ) (t : Tally) (k : ℕ) (end : Tally) → LineHolds m a fp args c t.change l → Goes ps (i + 1) 0 (after c l t) k end → Goes (piece_of t.change args l ∷ ps) i 0 t k end
    unfolding Evaluates
    line_back (lay e) ps i t k end ((own_listed, term_listed), fact) goes = (value c e, own_listed ∙ ap Some fact, term_back t.change e term_listed, goes)
    line_back (reserve n) ps i t k end holds goes = goes
    line_back (ask n q) ps i t k end holds goes = goes
    line_back (same n e) ps i t k end ((slot_listed, term_listed), fact) goes = (value c e, slot_word t.change n ∙ slot_listed ∙ ap Some fact, term_back t.change e term_listed, goes)
    line_back (range p o n) ps i t k end ((pointer, there, here), fact) goes = (c.w p, c.w n, slot_word t.change p ∙ pointer, there ∙ ap Some fact, slot_word t.change n ∙ here, goes)

    change_is : (l : Line) (t : Tally) → (after c l t).change ≡ change_after l t.change
    change_is (lay e) t = refl
    change_is (reserve n) t = refl
    change_is (ask n q) t = refl
    change_is (same n e) t = refl
    change_is (range p o n) t = refl

    -- what a test says: its cell is listed, and it goes on with the pieces of the plan that the word chooses
    abbrev Tests : Slot → Plan → Plan → List Piece → ℕ → Tally → ℕ → Tally → Type 0
    Tests n p q rest i t k end =
        SlotListed m a fp args c n
        × (((c.w n ≡ 0) × Goes (flatten args t.change (i + 1) p ++ (flatten args t.change (i + 1 + length (flatten args t.change (i + 1) p)) q ++ rest)) (i + 1) 0 (step_on t) k end)
        ⊎ ((c.w n ≢ 0) × Goes (flatten args t.change (i + 1 + length (flatten args t.change (i + 1) p)) q ++ rest) (i + 1 + length (flatten args t.change (i + 1) p)) 0 (step_on t) k end))

    -- a jump over the pieces of the first plan
    jumps_over : (zeros others : List Piece) (i : ℕ) (t : Tally) (k : ℕ) (end : Tally) → Goes (zeros ++ others) (i + 1) (i + 1 + length zeros - (i + 1)) t k end ≡ Goes others (i + 1 + length zeros) 0 t k end
    jumps_over zeros others i t k end =
        let over : i + 1 + length zeros - (i + 1) ≡ length zeros = omega arith in
        ap (λ n. Goes (zeros ++ others) (i + 1) n t k end) over ∙ passes m a fp jumps zeros others (i + 1) t k end

    test_says : (n : Slot) (p q : Plan) (rest : List Piece) (i : ℕ) (t : Tally) (k : ℕ) (end : Tally) → Goes (flatten args t.change i (test n p q) ++ rest) i 0 t k end → Tests n p q rest i t k end
    unfolding Evaluates
    test_says n p q rest i t k end (w, is, goes) =
        let zeros = flatten args t.change (i + 1) p in
        let others = flatten args t.change (i + 1 + length zeros) q in
        let here = sym (slot_word t.change n) ∙ is in
        let word = is_word _ w here in (
          listed _ w here,
          elim goes [
            | inl none ↦ inl (word ∙ none.0, subst (λ ps. Goes ps (i + 1) 0 (step_on t) k end) (append_assoc zeros others rest) none.1)
            | inr other ↦ inr (
              λ zero. other.0 (sym word ∙ zero),
              same_type (jumps_over zeros (others ++ rest) i (step_on t) k end)
                  (subst (λ ps. Goes ps (i + 1) (i + 1 + length zeros - (i + 1)) (step_on t) k end) (append_assoc zeros others rest) other.1),
            )
          ],
        )

    test_back : (n : Slot) (p q : Plan) (rest : List Piece) (i : ℕ) (t : Tally) (k : ℕ) (end : Tally) → Tests n p q rest i t k end → Goes (flatten args t.change i (test n p q) ++ rest) i 0 t k end
    unfolding Evaluates
    test_back n p q rest i t k end (is, goes) =
        let zeros = flatten args t.change (i + 1) p in
        let others = flatten args t.change (i + 1 + length zeros) q in (
          c.w n,
          slot_word t.change n ∙ is,
          elim goes [
            | inl none ↦ inl (none.0, subst (λ ps. Goes ps (i + 1) 0 (step_on t) k end) (sym (append_assoc zeros others rest)) none.1)
            | inr other ↦ inr (
              other.0,
              subst (λ ps. Goes ps (i + 1) (i + 1 + length zeros - (i + 1)) (step_on t) k end) (sym (append_assoc zeros others rest))
                  (same_type (sym (jumps_over zeros (others ++ rest) i (step_on t) k end)) other.1),
            )
          ],
        )

    exit_says : (j : ℕ) (rest : List Piece) (i : ℕ) (t : Tally) (k : ℕ) (end : Tally) → Goes (piece.Exit j ∷ rest) i 0 t k end → Way (exit j) t k end
    unfolding Evaluates
    exit_says j rest i t k end goes = goes

    exit_back : (j : ℕ) (rest : List Piece) (i : ℕ) (t : Tally) (k : ℕ) (end : Tally) → Way (exit j) t k end → Goes (piece.Exit j ∷ rest) i 0 t k end
    unfolding Evaluates
    exit_back j rest i t k end way = way

    -- an evaluation of a plan's pieces, whatever pieces come behind them, is a way through the plan
    pub facts_of : (p : Plan) (rest : List Piece) (i : ℕ) (t : Tally) (k : ℕ) (end : Tally) → Goes (flatten args t.change i p ++ rest) i 0 t k end → Way p t k end
    facts_of (line l p) rest i t k end goes =
        let says = line_says l (flatten args (change_after l t.change) (i + 1) p ++ rest) i t k end goes in
        (says.0, facts_of p rest (i + 1) (after c l t) k end (subst (λ d. Goes (flatten args d (i + 1) p ++ rest) (i + 1) 0 (after c l t) k end) (sym (change_is l t)) says.1))
    facts_of (test n p q) rest i t k end goes =
        let says = test_says n p q rest i t k end goes in (
          says.0,
          elim says.1 [
            | inl none ↦ inl (none.0, facts_of p (flatten args t.change (i + 1 + length (flatten args t.change (i + 1) p)) q ++ rest) (i + 1) (step_on t) k end none.1)
            | inr other ↦ inr (other.0, facts_of q rest (i + 1 + length (flatten args t.change (i + 1) p)) (step_on t) k end other.1)
          ],
        )
    facts_of (exit j) rest i t k end goes = exit_says j rest i t k end goes

    -- and back
    pub eval_of : (p : Plan) (rest : List Piece) (i : ℕ) (t : Tally) (k : ℕ) (end : Tally) → Way p t k end → Goes (flatten args t.change i p ++ rest) i 0 t k end
    eval_of (line l p) rest i t k end (holds, way) =
        line_back l (flatten args (change_after l t.change) (i + 1) p ++ rest) i t k end holds
        (subst (λ d. Goes (flatten args d (i + 1) p ++ rest) (i + 1) 0 (after c l t) k end) (change_is l t) (eval_of p rest (i + 1) (after c l t) k end way))
    eval_of (test n p q) rest i t k end (is, ways) =
        test_back n p q rest i t k end (
          is,
          elim ways [
            | inl none ↦ inl (none.0, eval_of p (flatten args t.change (i + 1 + length (flatten args t.change (i + 1) p)) q ++ rest) (i + 1) (step_on t) k end none.1)
            | inr other ↦ inr (other.0, eval_of q rest (i + 1 + length (flatten args t.change (i + 1) p)) (step_on t) k end other.1)
          ],
        )
    eval_of (exit j) rest i t k end way = exit_back j rest i t k end way
