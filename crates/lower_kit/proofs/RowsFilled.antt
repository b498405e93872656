-- Fillings of plans, row by row.
use Rattle.std.proofs.Common.{◌≤◌, ◌≡◌, ℕ, zero, suc, ◌+◌, ◌<◌, Bool, Some, None, List, [], ◌∷◌, map, length, refl, sym, ap, arith}
use Rattle.std.specs.FinMap.{get, insert}
use Rattle.std.specs.List.{AllByRecursion, range_with_len}
use Rattle.felt64.specs.Field.{modulus, sum}
use Rattle.felt64.proofs.FieldLaws.{sum_below}
use Rattle.casm_word.specs.declared.cell_expr.CellExpr.{CellExpr}
use Rattle.cell_terms.specs.declared.term.Slot.{Slot}
use Rattle.cell_terms.specs.declared.term.Slot.TheVariants as slots
use Rattle.cell_terms.specs.declared.term.Term.{Term}
use Rattle.cell_terms.specs.declared.term.Term.TheVariants as terms
use Rattle.ro_machine.specs.Cells.{Cells}
use Rattle.ro_machine.specs.Extends.{Extends}
use Rattle.ro_machine.proofs.ExtendLaws.{extends_trans}
use Rattle.hint_source.specs.Remembered.{Remembered}
use Rattle.frag_code.specs.Evaluation.{Tally, step_by, step_on}
use Rattle.frag_plan.specs.AtBegin.{slot_at, at_begin}
use Rattle.frag_plan.specs.Plan.{Plan}
use Rattle.frag_plan.specs.Scene.{slot_address}
use Rattle.frag_fills.specs.Filling.{Filled}
use Rattle.frag_fills.specs.Lines.{Gets, left, right, PlanFills}
use Rattle.frag_fills.proofs.Lines.{gets_extends, begin_extends}
use Rattle.cost_table.specs.Terms.{further}
use Rattle.lower_kit.specs.Completing.{IsFree}
use Rattle.lower_kit.specs.Rows.{lay_each, same_each}
use Rattle.lower_kit.proofs.Free.{Grown, free_next, first_free, not_grown, grown_by_one, grown_on, grown_within, contains_first, contains_behind, moved_small}

-- the cell with the word
pub given : (m : Cells) (a w : ℕ) → w < modulus → get m a ≡ None → Gets m a w (insert m a w)
given m a w small none = record { small = small; open_ = none; added = refl }

module _ (ap_ fp : ℕ) (args : List CellExpr) (jumps : Bool) where
  abbrev pub Fills : Plan → Tally → Remembered → Cells → ℕ → Filled → Type 0
  Fills p u r m k z = PlanFills ap_ fp args jumps p u r m k z

  -- the term reads a word of the field
  abbrev pub Reads : Cells → Term → Type 0
  Reads m t = (w : ℕ) × (at_begin (get m) ap_ fp args t ≡ Some w) × (w < modulus)

  -- A row and what follows it: the row fills these cells, from where what follows goes on.
  pub record RowFilled (row p : Plan) (u : Tally) (r : Remembered) (m : Cells) (cells : List ℕ) : Type 0 where
    pub then_ : Tally
    pub named : then_.named ≡ u.named
    pub steps : u.steps ≤ then_.steps
    pub more : Cells
    pub extends : Extends (get m) (get more)
    pub grown : Grown m cells more
    pub on : (k : ℕ) (z : Filled) → Fills p then_ r more k z → Fills row u r m k z

  pub lays_filled : (ts : List Term) (p : Plan) (u : Tally) (r : Remembered) (base m : Cells) → Extends (get base) (get m) → AllByRecursion (Reads base) ts
      → IsFree (get m) (map (sum ap_) (range_with_len u.change (length ts))) → RowFilled (lay_each ts p) p u r m (map (sum ap_) (range_with_len u.change (length ts)))
  lays_filled [] p u r base m extends reads free = record { then_ = u; named = refl; steps = omega arith; more = m; extends = λ a n is. is; grown = not_grown m []; on = λ k z way. way }
  lays_filled (t ∷ ts) p u r base m extends (here, reads) free =
      let a = sum ap_ u.change in
      let w = here.0 in
      let gets = given m a w here.2 (first_free (get m) a (map (sum ap_) (range_with_len (u.change + 1) (length ts))) free) in
      let onward = gets_extends m (insert m a w) a w gets in
      let rest = lays_filled ts p (step_by 1 u) r base (insert m a w) (extends_trans (get base) (get m) (get (insert m a w)) extends onward) reads
      (free_next m (insert m a w) a w (map (sum ap_) (range_with_len (u.change + 1) (length ts))) free gets) in
      record {
        then_ = rest.then_;
        named = rest.named;
        steps = let more_steps = rest.steps in omega (arith, more_steps);
        more = rest.more;
        extends = extends_trans (get m) (get (insert m a w)) (get rest.more) onward rest.extends;
        grown = grown_on m (insert m a w) rest.more _ (grown_by_one m (insert m a w) a w _ gets (sum_below ap_ u.change) (contains_first a _))
            (grown_within (insert m a w) rest.more _ _ (λ b h. contains_behind a b _ h) rest.grown);
        on = λ k z way. (step_by 1 u, r, insert m a w, (left w (begin_extends (get base) (get m) extends ap_ fp args t w here.1) gets, refl, refl), rest.on k z way);
      }

  -- the addresses of the argument expressions from one on
  abbrev pub argument_cells : ℕ → ℕ → List ℕ
  argument_cells i n = map (λ j. slot_address ap_ fp args (slots.Arg j)) (range_with_len i n)

  pub sames_filled : (i : ℕ) (ts : List Term) (p : Plan) (u : Tally) (r : Remembered) (base m : Cells) → Extends (get base) (get m) → AllByRecursion (Reads base) ts
      → IsFree (get m) (argument_cells i (length ts)) → RowFilled (same_each i ts p) p u r m (argument_cells i (length ts))
  sames_filled i [] p u r base m extends reads free = record { then_ = u; named = refl; steps = omega arith; more = m; extends = λ a n is. is; grown = not_grown m []; on = λ k z way. way }
  sames_filled i (t ∷ ts) p u r base m extends (here, reads) free =
      let a = slot_address ap_ fp args (slots.Arg i) in
      let w = here.0 in
      let gets = given m a w here.2 (first_free (get m) a (argument_cells (i + 1) (length ts)) free) in
      let onward = gets_extends m (insert m a w) a w gets in
      let rest = sames_filled (i + 1) ts p (step_on u) r base (insert m a w) (extends_trans (get base) (get m) (get (insert m a w)) extends onward) reads
      (free_next m (insert m a w) a w (argument_cells (i + 1) (length ts)) free gets) in
      record {
        then_ = rest.then_;
        named = rest.named;
        steps = let more_steps = rest.steps in omega (arith, more_steps);
        more = rest.more;
        extends = extends_trans (get m) (get (insert m a w)) (get rest.more) onward rest.extends;
        grown = grown_on m (insert m a w) rest.more _ (grown_by_one m (insert m a w) a w _ gets (moved_small _ _) (contains_first a _))
            (grown_within (insert m a w) rest.more _ _ (λ b h. contains_behind a b _ h) rest.grown);
        on = λ k z way. (step_on u, r, insert m a w, (left w (begin_extends (get base) (get m) extends ap_ fp args t w here.1) gets, refl, refl), rest.on k z way);
      }

  -- the cells that arguments are have words of the field
  abbrev pub AreListed : Cells → ℕ → ℕ → Type 0
  AreListed m i zero = Unit {0}
  AreListed m i (suc n) = ((w : ℕ) × (slot_at (get m) ap_ fp args (slots.Arg i) ≡ Some w) × (w < modulus)) × AreListed m (i + 1) n

  -- the cells behind one to which a cell points get the words of the arguments
  pub behind_filled : (s : Slot) (b i j n : ℕ) (p : Plan) (u : Tally) (r : Remembered) (base m : Cells) → Extends (get base) (get m) → AreListed base i n
      → slot_at (get m) ap_ fp args s ≡ Some b → IsFree (get m) (map (sum b) (range_with_len j n))
      → RowFilled (same_each i (map (further (terms.Behind s 0)) (range_with_len j n)) p) p u r m (map (sum b) (range_with_len j n))
  behind_filled s b i j zero p u r base m extends listed points free = record { then_ = u; named = refl; steps = omega arith; more = m; extends = λ a n is. is; grown = not_grown m []; on = λ k z way. way }
  behind_filled s b i j (suc n) p u r base m extends (here, listed) points free =
      let a = sum b j in
      let w = here.0 in
      let zero_more : 0 + j ≡ j = omega arith in
      let gets = given m a w here.2 (first_free (get m) a (map (sum b) (range_with_len (j + 1) n)) free) in
      let onward = gets_extends m (insert m a w) a w gets in
      let rest = behind_filled s b (i + 1) (j + 1) n p (step_on u) r base (insert m a w) (extends_trans (get base) (get m) (get (insert m a w)) extends onward) listed (onward _ b points)
      (free_next m (insert m a w) a w (map (sum b) (range_with_len (j + 1) n)) free gets) in
      record {
        then_ = rest.then_;
        named = rest.named;
        steps = let more_steps = rest.steps in omega (arith, more_steps);
        more = rest.more;
        extends = extends_trans (get m) (get (insert m a w)) (get rest.more) onward rest.extends;
        grown = grown_on m (insert m a w) rest.more _ (grown_by_one m (insert m a w) a w _ gets (sum_below b j) (contains_first a _))
            (grown_within (insert m a w) rest.more _ _ (λ x h. contains_behind a x _ h) rest.grown);
        on = λ k z way. (step_on u, r, insert m a w, (right a w (extends _ w here.1) (b, points, ap (sum b) (sym zero_more)) gets, refl, refl), rest.on k z way);
      }
