-- Evaluations of plans, row by row.
use Rattle.std.proofs.Common.{◌≡◌, ℕ, zero, suc, ◌+◌, ◌<◌, ◌≤◌, Bool, true, false, pos, Option, Some, List, [], ◌∷◌, map, take, drop, length, refl, sym, ap, ◌∙◌, subst, append-nil, arith}
use Rattle.std.specs.List.{list_all}
use Rattle.felt64.specs.Field.{sum, difference, product}
use Rattle.casm_word.specs.declared.cell_expr.CellExpr.{CellExpr}
use Rattle.casm_word.specs.declared.cell_expr.CellExpr.TheVariants as expr
use Rattle.ro_machine.specs.Readings.{Readings, cells_at}
use Rattle.casm_steps.specs.Reading.{address, behind, reading, readings}
use Rattle.casm_steps.proofs.Readings.{both_is}
use Rattle.cell_terms.specs.declared.term.Slot.{Slot}
use Rattle.cell_terms.specs.declared.term.Slot.TheVariants as slots
use Rattle.cell_terms.specs.declared.term.Second.{Second}
use Rattle.cell_terms.specs.declared.term.Second.TheVariants as seconds
use Rattle.cell_terms.specs.declared.term.Term.{Term}
use Rattle.cell_terms.specs.declared.term.Term.TheVariants as terms
use Rattle.cell_terms.specs.Resolving.{at_of, argument}
use Rattle.frag_code.specs.Evaluation.{Tally, Evaluation, Evaluates, nothing, step_by, step_on}
use Rattle.frag_code.specs.Form.{has_jump}
use Rattle.frag_plan.specs.Plan.{lay, same, Plan, flatten, fragment, asks_met}
use Rattle.frag_plan.specs.Scene.{Scene, Along, second, value, word_or_zero, scene_of, LineHolds, SlotListed, SecondListed, TermListed}
use Rattle.frag_plan.proofs.Bridges.{facts_of}
use Rattle.cost_table.specs.Marks.{is_cell}
use Rattle.cell_forms.proofs.Once.{both_true}
use Rattle.frag_plan.specs.AtBegin.{slot_at, second_at, at_begin}
use Rattle.lower_kit.specs.Rows.{lay_each, same_each}
use Rattle.lower_kit.proofs.Lists.{from_argument}

-- a cell has one word
pub one_word : (o : Option ℕ) (a b : ℕ) → o ≡ Some a → o ≡ Some b → a ≡ b
one_word o a b h k = ap word_or_zero (sym h ∙ k)

module _ (m : ℕ → Option ℕ) (ap_ fp : ℕ) (args : List CellExpr) where
  abbrev pub scene : Scene
  scene = scene_of m ap_ fp args

  -- the way through a plan that an evaluation of its fragment takes
  abbrev pub Way : Bool → Plan → Tally → (k : ℕ) → (end : Tally) → Type 0
  Way jumps p t k end = Along scene jumps (LineHolds m ap_ fp args scene) (SlotListed m ap_ fp args scene) p t k end

  pub way_of : (p : Plan) (k : ℕ) (end : Tally) → Evaluation (fragment args p) m ap_ fp k end → Way (has_jump (fragment args p)) p nothing k end
  way_of p k end evaluation =
      let f = fragment args p in
      facts_of m ap_ fp args (has_jump f) p [] 0 nothing k end (subst (λ ps. Evaluates m ap_ fp (has_jump f) ps 0 0 nothing k end) (sym (append-nil f)) evaluation)

  second_listed : (o : Second) → SecondListed m ap_ fp args scene o → second_at m ap_ fp args o ≡ Some (second scene o)
  second_listed (seconds.Slot n) h = h
  second_listed (seconds.Number k) h = refl

  -- a term whose cells are listed reads its word
  pub term_listed : (t : Term) → TermListed m ap_ fp args scene t → at_begin m ap_ fp args t ≡ Some (value scene t)
  term_listed (terms.Whole i) h = h
  term_listed (terms.Cell n) h = h
  term_listed (terms.Behind n k) h = ap (λ o. behind m o (pos k)) h.0 ∙ h.1
  term_listed (terms.Word k) h = refl
  term_listed (terms.Add n o) h = both_is sum (slot_at m ap_ fp args n) (second_at m ap_ fp args o) _ _ h.0 (second_listed o h.1)
  term_listed (terms.Sub n o) h = both_is difference (slot_at m ap_ fp args n) (second_at m ap_ fp args o) _ _ h.0 (second_listed o h.1)
  term_listed (terms.Mul n o) h = both_is product (slot_at m ap_ fp args n) (second_at m ap_ fp args o) _ _ h.0 (second_listed o h.1)

  -- where a line says that a cell has a term's word, both read the same
  pub same_read : (d : ℕ) (n : Slot) (t : Term) → LineHolds m ap_ fp args scene d (same n t) → slot_at m ap_ fp args n ≡ at_begin m ap_ fp args t
  same_read d n t h = h.0.0 ∙ ap Some h.1 ∙ sym (term_listed t h.0.1)

  pub laid_same : (d : ℕ) (t : Term) → LineHolds m ap_ fp args scene d (lay t) → m (sum ap_ d) ≡ at_begin m ap_ fp args t
  laid_same d t h = h.0.0 ∙ ap Some h.1 ∙ sym (term_listed t h.0.1)

  -- where a row of cells was laid, the new cells read what the terms read
  pub record Laid (jumps : Bool) (ts : List Term) (p : Plan) (t : Tally) (k : ℕ) (end : Tally) : Type 0 where
    pub behind_ : Tally
    pub steps : behind_.steps ≡ t.steps + length ts
    pub change : behind_.change ≡ t.change + length ts
    pub named : behind_.named ≡ t.named
    pub read : cells_at m ap_ t.change (length ts) ≡ map (at_begin m ap_ fp args) ts
    pub way : Way jumps p behind_ k end

  pub lays : (jumps : Bool) (ts : List Term) (p : Plan) (t : Tally) (k : ℕ) (end : Tally) → Way jumps (lay_each ts p) t k end → Laid jumps ts p t k end
  lays jumps [] p t k end way = record { behind_ = t; steps = omega arith; change = omega arith; named = refl; read = refl; way = way }
  lays jumps (u ∷ ts) p t k end (here, way) =
      let rest = lays jumps ts p (step_by 1 t) k end way in
      record {
        behind_ = rest.behind_;
        steps = omega (arith, rest.steps);
        change = omega (arith, rest.change);
        named = rest.named;
        read = ap (λ o. o ∷ cells_at m ap_ (t.change + 1) (length ts)) (laid_same t.change u here) ∙ ap (λ os. at_begin m ap_ fp args u ∷ os) rest.read;
        way = rest.way;
      }

  -- the cells that the arguments' expressions are, from one on
  abbrev pub arguments_at : ℕ → ℕ → Readings
  arguments_at i zero = []
  arguments_at i (suc n) = slot_at m ap_ fp args (slots.Arg i) ∷ arguments_at (i + 1) n

  pub record Held (jumps : Bool) (i : ℕ) (ts : List Term) (p : Plan) (t : Tally) (k : ℕ) (end : Tally) : Type 0 where
    pub behind_ : Tally
    pub steps : behind_.steps ≡ t.steps + length ts
    pub change : behind_.change ≡ t.change
    pub named : behind_.named ≡ t.named
    pub read : arguments_at i (length ts) ≡ map (at_begin m ap_ fp args) ts
    pub way : Way jumps p behind_ k end

  pub sames : (jumps : Bool) (i : ℕ) (ts : List Term) (p : Plan) (t : Tally) (k : ℕ) (end : Tally) → Way jumps (same_each i ts p) t k end → Held jumps i ts p t k end
  sames jumps i [] p t k end way = record { behind_ = t; steps = omega arith; change = refl; named = refl; read = refl; way = way }
  sames jumps i (u ∷ ts) p t k end (here, way) =
      let rest = sames jumps (i + 1) ts p (step_on t) k end way in
      record {
        behind_ = rest.behind_;
        steps = omega (arith, rest.steps);
        change = rest.change;
        named = rest.named;
        read = ap (λ o. o ∷ arguments_at (i + 1) (length ts)) (same_read t.change (slots.Arg i) u here) ∙ ap (λ os. at_begin m ap_ fp args u ∷ os) rest.read;
        way = rest.way;
      }

  pub is_read : (e : CellExpr) → is_cell e ≡ true → m (address ap_ fp (at_of e)) ≡ reading m ap_ fp e
  is_read (expr.Cell at) h = refl
  is_read (expr.DoubleCell at inner) h = cc
  is_read (expr.Imm n) h = cc
  is_read (expr.Sum at s) h = cc
  is_read (expr.Diff at s) h = cc
  is_read (expr.Product at s) h = cc

  -- argument expressions that are cells read as these cells
  pub arguments_read : (i n : ℕ) → i + n ≤ length args → ((j : ℕ) → i ≤ j → j < i + n → is_cell (argument args j) ≡ true) → arguments_at i n ≡ take n (drop i (readings m ap_ fp args))
  arguments_read i zero few cells = refl
  arguments_read i (suc n) few cells =
      let here = is_read (argument args i) (cells i (omega arith) (omega arith)) in
      let rest = arguments_read (i + 1) n (omega (arith, few)) (λ j low high. cells j (omega (arith, low)) (omega (arith, high))) in
      ap (λ o. o ∷ arguments_at (i + 1) n) here ∙ ap (λ os. reading m ap_ fp (argument args i) ∷ os) rest ∙ sym (ap (take (suc n)) (from_argument m ap_ fp args i (omega (arith, few))))

-- in a list of cells each expression is one
pub all_cells : (n : ℕ) (args : List CellExpr) → list_all is_cell (take n args) ≡ true → (j : ℕ) → j < n → j < length args → is_cell (argument args j) ≡ true
all_cells zero args all j low few = absurd (omega (arith, low))
all_cells (suc n) [] all j low few = absurd (omega (arith, few))
all_cells (suc n) (e ∷ args) all zero low few = (both_true (is_cell e) (list_all is_cell (take n args)) all).0
all_cells (suc n) (e ∷ args) all (suc j) low few = all_cells n args (both_true (is_cell e) (list_all is_cell (take n args)) all).1 j (omega (arith, low)) (omega (arith, few))

-- rows have no jump
pub lays_no_jump : (args : List CellExpr) (ts : List Term) (p : Plan) → ((d i : ℕ) → has_jump (flatten args d i p) ≡ false) → (d i : ℕ) → has_jump (flatten args d i (lay_each ts p)) ≡ false
lays_no_jump args [] p none d i = none d i
lays_no_jump args (t ∷ ts) p none d i = lays_no_jump args ts p none (d + 1) (i + 1)

pub sames_no_jump : (args : List CellExpr) (j : ℕ) (ts : List Term) (p : Plan) → ((d i : ℕ) → has_jump (flatten args d i p) ≡ false) → (d i : ℕ) → has_jump (flatten args d i (same_each j ts p)) ≡ false
sames_no_jump args j [] p none d i = none d i
sames_no_jump args j (t ∷ ts) p none d i = sames_no_jump args (j + 1) ts p none d (i + 1)

-- rows ask nothing
pub lays_met : (ts : List Term) (p : Plan) → asks_met p ≡ true → asks_met (lay_each ts p) ≡ true
lays_met [] p met = met
lays_met (t ∷ ts) p met = lays_met ts p met

pub sames_met : (j : ℕ) (ts : List Term) (p : Plan) → asks_met p ≡ true → asks_met (same_each j ts p) ≡ true
sames_met j [] p met = met
sames_met j (t ∷ ts) p met = sames_met (j + 1) ts p met
