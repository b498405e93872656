-- Where the lines of a plan fill cells, the plan's pieces do.
use Rattle.std.proofs.Common.{[], ◌≡◌, ◌≢◌, ◌⊎◌, ℕ, ◌+◌, ◌-◌, Bool, pos, List, ◌∷◌, ◌++◌, length, Option, Some, IsSome, refl, sym, ap, subst, ◌∙◌, inl, inr, append_assoc, append-nil, arith}
use Rattle.std.specs.FinMap.{get, insert, get-insert}
use Rattle.std.specs.Cmp.{nat_cmp_total}
use Rattle.std.proofs.lemmas.Bool.Decides.{nat_tests}
use Rattle.felt64.specs.Field.{sum}
use Rattle.casm_word.specs.declared.cell_expr.CellExpr.{CellExpr}
use Rattle.ro_machine.specs.Cells.{Cells}
use Rattle.ro_machine.specs.Extends.{Extends}
use Rattle.ro_machine.proofs.ExtendLaws.{insert_extends}
use Rattle.casm_steps.specs.Reading.{behind}
use Rattle.casm_steps.proofs.Readings.{reading_extends}
use Rattle.hint_source.specs.Remembered.{Remembered}
use Rattle.cell_terms.specs.declared.term.Slot.{Slot}
use Rattle.cell_terms.specs.declared.term.Term.{Term}
use Rattle.cell_terms.specs.declared.term.Term.TheVariants as terms
use Rattle.cell_terms.specs.Resolving.{place, resolve}
use Rattle.frag_code.specs.declared.piece.Piece.{Piece}
use Rattle.frag_code.specs.declared.piece.Piece.TheVariants as piece
use Rattle.frag_code.specs.Evaluation.{Tally, nothing, address_after, word_after, step_on}
use Rattle.frag_plan.specs.AtBegin.{slot_at}
use Rattle.frag_plan.specs.Plan.{fragment, Line, Plan, lay, reserve, ask, same, range, line, test, exit, piece_of, change_after, flatten}
use Rattle.frag_plan.specs.Scene.{slot_address}
use Rattle.frag_plan.proofs.Bridges.{slot_is, slot_word}
use Rattle.frag_code.specs.Form.{has_jump}
use Rattle.frag_plan.specs.AtBegin.{at_begin}
use Rattle.frag_fills.specs.Filling.{Adds, IsOpenIn, Filled, FillsFrom, Filling}
use Rattle.frag_fills.specs.Lines.{Gets, IsOpenTerm, Equates, left, right, known, LineFills, PlanFills}
use Rattle.frag_fills.proofs.Fillings.{fills_passes}
use Rattle.frag_fills.proofs.Words.{term_word, query_word}

is_some : (o : Option ℕ) (w : ℕ) → o ≡ Some w → IsSome o
is_some o w is = subst (λ x. IsSome x) (sym is) refl

-- what holds of a type holds of an equal one
same_type : {A B : Type 0} → ◌≡◌ {A = Type 0} A B → A → B
same_type equal x = subst (λ T. T) equal x

-- the cell that got a word has it
pub got : (m more : Cells) (a w : ℕ) → Gets m a w more → get more a ≡ Some w
got m more a w gets =
    let here = get-insert nat_cmp_total m a w a in
    ap (λ cells. get cells a) gets.added ∙ grind (arith, nat_tests, here)

-- and each other word is kept
pub gets_extends : (m more : Cells) (a w : ℕ) → Gets m a w more → Extends (get m) (get more)
gets_extends m more a w gets = subst (λ cells. Extends (get m) (get cells)) (sym gets.added) (insert_extends m a w (inl gets.open_))

module _ (a fp : ℕ) (args : List CellExpr) (d : ℕ) where
  -- the equation of a term, as one of its expression
  abbrev Equation : ℕ → Term → Cells → Cells → Type 0
  Equation c t m more = Adds m (address_after a fp d) c (resolve d args t) more
      × ((w : ℕ) × (get more c ≡ Some w) × (word_after (get more) a fp d (resolve d args t) ≡ Some w))

  opened : (m more : Cells) (c b w : ℕ) (t : Term) → get m c ≡ Some w → IsOpenTerm a fp args m t b → Gets m b w more
      → IsOpenIn (get m) (address_after a fp d) (resolve d args t) b × (word_after (get more) a fp d (resolve d args t) ≡ Some w)
  opened m more c b w (terms.Cell n) here open_ gets =
      let at : b ≡ address_after a fp d (place d args n) = open_ ∙ sym (slot_is (get m) a fp args d n) in
      (at, ap (get more) (sym at) ∙ got m more b w gets)
  opened m more c b w (terms.Behind n k) here (p, points, at) gets =
      let pointer = slot_word (get m) a fp args d n ∙ points in
      let kept = gets_extends m more b w gets (address_after a fp d (place d args n)) p pointer in
      ((p, pointer, at), ap (λ o. behind (get more) o (pos k)) kept ∙ ap (get more) (sym at) ∙ got m more b w gets)
  opened m more c b w (terms.Whole i) here open_ gets = absurd open_
  opened m more c b w (terms.Word k) here open_ gets = absurd open_
  opened m more c b w (terms.Add n o) here open_ gets = absurd open_
  opened m more c b w (terms.Sub n o) here open_ gets = absurd open_
  opened m more c b w (terms.Mul n o) here open_ gets = absurd open_

  equates : (m more : Cells) (c : ℕ) (t : Term) → Equates a fp args c t m more → Equation c t m more
  equates m more c t (left w reads gets) =
      let word = term_word (get m) a fp args d t ∙ reads in (
        inr (c, w, gets.small, gets.open_, inl (refl, is_some _ w word), gets.added),
        (w, got m more c w gets, reading_extends (get m) (get more) (gets_extends m more c w gets) (address_after a fp d) (resolve d args t) w word),
      )
  equates m more c t (right b w here open_ gets) =
      let opens = opened m more c b w t here open_ gets in
      (inr (b, w, gets.small, gets.open_, inr (is_some _ w here, opens.0), gets.added), (w, gets_extends m more b w gets c w here, opens.1))
  equates m more c t (known w here reads is) =
      (inl is, (w, ap (λ cells. get cells c) is ∙ here, ap (λ cells. word_after (get cells) a fp d (resolve d args t)) is ∙ term_word (get m) a fp args d t ∙ reads))

module _ (a fp : ℕ) (args : List CellExpr) (jumps : Bool) where
  abbrev Goes : List Piece → ℕ → ℕ → Tally → Remembered → Cells → ℕ → Filled → Type 0
  Goes ps i skip u r m k z = FillsFrom a fp jumps ps i skip u r m k z

  line_goes : (l : Line) (ps : List Piece) (i : ℕ) (u v : Tally) (r s : Remembered) (m more : Cells) (k : ℕ) (z : Filled)
      → LineFills a fp args l u r m v s more → Goes ps (i + 1) 0 v s more k z → Goes (piece_of u.change args l ∷ ps) i 0 u r m k z
  unfolding FillsFrom
  line_goes (lay t) ps i u v r s m more k z (equation, kept, counts) goes =
      let adds = equates a fp args u.change m more (sum a u.change) t equation in
      (s, more, (kept, adds.0), (adds.1.0, adds.1.1, adds.1.2, subst (λ y. Goes ps (i + 1) 0 y s more k z) counts goes))
  line_goes (reserve n) ps i u v r s m more k z (cells, kept, counts) goes = (s, more, (kept, cells), subst (λ y. Goes ps (i + 1) 0 y s more k z) counts goes)
  line_goes (ask n q) ps i u v r s m more k z (answers, counts) goes = (
    s,
    more,
    record {
      asked = answers.asked;
      word = answers.word;
      asks = query_word (get m) a fp args u.change q ∙ answers.asks;
      answer = answers.answer;
      small = answers.small;
      open_ = slot_word (get m) a fp args u.change n ∙ answers.open_;
      added = answers.added ∙ ap (λ c. insert m c answers.word) (sym (slot_is (get m) a fp args u.change n));
      remembers = answers.remembers;
    },
    subst (λ y. Goes ps (i + 1) 0 y s more k z) counts goes,
  )
  line_goes (same n t) ps i u v r s m more k z (equation, kept, counts) goes =
      let at = slot_is (get m) a fp args u.change n in
      let adds = equates a fp args u.change m more (slot_address a fp args n) t equation in (
        s,
        more,
        (kept, subst (λ c. Adds m (address_after a fp u.change) c (resolve u.change args t) more) (sym at) adds.0),
        (adds.1.0, ap (get more) at ∙ adds.1.1, adds.1.2, subst (λ y. Goes ps (i + 1) 0 y s more k z) counts goes),
      )
  line_goes (range p o n) ps i u v r s m more k z (b, w, points, here, there, equation, kept, counts) goes =
      let at = slot_is (get m) a fp args u.change n in
      let adds = equates a fp args u.change m more (slot_address a fp args n) (terms.Behind p o) equation in (
        s,
        more,
        (kept, subst (λ c. Adds m (address_after a fp u.change) c (resolve u.change args (terms.Behind p o)) more) (sym at) adds.0),
        (b, w, slot_word (get more) a fp args u.change p ∙ points, there, ap (get more) at ∙ here, subst (λ y. Goes ps (i + 1) 0 y s more k z) counts goes),
      )

  counts_on : (l : Line) (u v : Tally) (r s : Remembered) (m more : Cells) → LineFills a fp args l u r m v s more → v.change ≡ change_after l u.change
  counts_on (lay t) u v r s m more fills = ap (λ y. y.change) fills.2
  counts_on (reserve n) u v r s m more fills = ap (λ y. y.change) fills.2
  counts_on (ask n q) u v r s m more fills = ap (λ y. y.change) fills.1
  counts_on (same n t) u v r s m more fills = ap (λ y. y.change) fills.2
  counts_on (range p o n) u v r s m more fills = ap (λ y. y.change) fills.7

  -- a jump over the pieces of the first plan
  jumps_over : (zeros others : List Piece) (i : ℕ) (u : Tally) (r : Remembered) (m : Cells) (k : ℕ) (z : Filled)
      → Goes (zeros ++ others) (i + 1) (i + 1 + length zeros - (i + 1)) u r m k z ≡ Goes others (i + 1 + length zeros) 0 u r m k z
  jumps_over zeros others i u r m k z =
      let over : i + 1 + length zeros - (i + 1) ≡ length zeros = omega arith in
      ap (λ n. Goes (zeros ++ others) (i + 1) n u r m k z) over ∙ fills_passes a fp jumps zeros others (i + 1) u r m k z

  -- what a test says: its cell has a word, and it goes on with the pieces of the plan that the word chooses
  abbrev Tests : Slot → Plan → Plan → List Piece → ℕ → Tally → Remembered → Cells → ℕ → Filled → Type 0
  Tests n p q rest i u r m k z =
      (w : ℕ) × (slot_at (get m) a fp args n ≡ Some w)
      × (((w ≡ 0) × Goes (flatten args u.change (i + 1) p ++ (flatten args u.change (i + 1 + length (flatten args u.change (i + 1) p)) q ++ rest)) (i + 1) 0 (step_on u) r m k z)
      ⊎ ((w ≢ 0) × Goes (flatten args u.change (i + 1 + length (flatten args u.change (i + 1) p)) q ++ rest) (i + 1 + length (flatten args u.change (i + 1) p)) 0 (step_on u) r m k z))

  test_goes : (n : Slot) (p q : Plan) (rest : List Piece) (i : ℕ) (u : Tally) (r : Remembered) (m : Cells) (k : ℕ) (z : Filled) → Tests n p q rest i u r m k z
      → Goes (flatten args u.change i (test n p q) ++ rest) i 0 u r m k z
  unfolding FillsFrom
  test_goes n p q rest i u r m k z (w, is, goes) =
      let zeros = flatten args u.change (i + 1) p in
      let others = flatten args u.change (i + 1 + length zeros) q in (
        r,
        m,
        (refl, refl),
        (
          w,
          slot_word (get m) a fp args u.change n ∙ is,
          elim goes [
            | inl none ↦ inl (none.0, subst (λ ps. Goes ps (i + 1) 0 (step_on u) r m k z) (sym (append_assoc zeros others rest)) none.1)
            | inr other ↦ inr (
              other.0,
              subst (λ ps. Goes ps (i + 1) (i + 1 + length zeros - (i + 1)) (step_on u) r m k z) (sym (append_assoc zeros others rest))
                  (same_type (sym (jumps_over zeros (others ++ rest) i (step_on u) r m k z)) other.1),
            )
          ],
        ),
      )

  exit_goes : (j : ℕ) (rest : List Piece) (i : ℕ) (u : Tally) (r : Remembered) (m : Cells) (k : ℕ) (z : Filled) → PlanFills a fp args jumps (exit j) u r m k z → Goes (piece.Exit j ∷ rest) i 0 u r m k z
  unfolding FillsFrom
  exit_goes j rest i u r m k z (branch, ends) = (r, m, (refl, refl), (branch, ends))

  -- whatever pieces come behind them
  pub plan_goes : (p : Plan) (rest : List Piece) (i : ℕ) (u : Tally) (r : Remembered) (m : Cells) (k : ℕ) (z : Filled) → PlanFills a fp args jumps p u r m k z
      → Goes (flatten args u.change i p ++ rest) i 0 u r m k z
  plan_goes (line l p) rest i u r m k z (v, s, more, fills, way) =
      line_goes l (flatten args (change_after l u.change) (i + 1) p ++ rest) i u v r s m more k z fills
      (subst (λ d. Goes (flatten args d (i + 1) p ++ rest) (i + 1) 0 v s more k z) (counts_on l u v r s m more fills) (plan_goes p rest (i + 1) v s more k z way))
  plan_goes (test n p q) rest i u r m k z (w, is, ways) =
      test_goes n p q rest i u r m k z (
        w,
        is,
        elim ways [
          | inl none ↦ inl (none.0, plan_goes p (flatten args u.change (i + 1 + length (flatten args u.change (i + 1) p)) q ++ rest) (i + 1) (step_on u) r m k z none.1)
          | inr other ↦ inr (other.0, plan_goes q rest (i + 1 + length (flatten args u.change (i + 1) p)) (step_on u) r m k z other.1)
        ],
      )
  plan_goes (exit j) rest i u r m k z way = exit_goes j rest i u r m k z way

-- where the lines of a plan fill cells, its fragment does
pub plan_filling : (args : List CellExpr) (p : Plan) (a fp k : ℕ) (r : Remembered) (m : Cells) (z : Filled) → PlanFills a fp args (has_jump (fragment args p)) p nothing r m k z
    → Filling (fragment args p) a fp r m k z
plan_filling args p a fp k r m z fills =
    let f = fragment args p in
    subst (λ ps. FillsFrom a fp (has_jump f) ps 0 0 nothing r m k z) (append-nil f) (plan_goes a fp args (has_jump f) p [] 0 nothing r m k z fills)

-- what a term reads it reads still as cells are added
pub begin_extends : (m more : ℕ → Option ℕ) → Extends m more → (a fp : ℕ) (args : List CellExpr) (t : Term) (w : ℕ) → at_begin m a fp args t ≡ Some w → at_begin more a fp args t ≡ Some w
begin_extends m more extends a fp args t w is =
    sym (term_word more a fp args 0 t) ∙ reading_extends m more extends (address_after a fp 0) (resolve 0 args t) w (term_word m a fp args 0 t ∙ is)
