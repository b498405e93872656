-- Fillings keep words, are evaluations, and pass over pieces.
use Rattle.std.proofs.Common.{◌≡◌, ℕ, zero, suc, ◌+◌, Bool, List, [], ◌∷◌, ◌++◌, length, Option, None, sym, ap, subst, ◌∙◌, inl, inr, add-zero, arith}
use Rattle.std.specs.FinMap.{get, insert}
use Rattle.casm_word.specs.declared.cell_expr.At.{At}
use Rattle.casm_word.specs.declared.cell_expr.CellExpr.{CellExpr}
use Rattle.casm_word.specs.declared.cell_expr.CellExpr.TheVariants as expr
use Rattle.felt64.specs.Field.{sum}
use Rattle.ro_machine.specs.Cells.{Cells}
use Rattle.ro_machine.specs.Extends.{Extends}
use Rattle.ro_machine.proofs.ExtendLaws.{extends_itself, extends_trans, insert_extends}
use Rattle.casm_steps.proofs.Readings.{reading_extends}
use Rattle.hint_source.specs.Remembered.{Remembered}
use Rattle.frag_code.specs.declared.piece.Piece.{Piece}
use Rattle.frag_code.specs.declared.piece.Piece.TheVariants as piece
use Rattle.frag_code.specs.Evaluation.{Evaluation, nothing, Tally, address_after, cell_after, Says, Evaluates}
use Rattle.frag_code.specs.Form.{has_jump}
use Rattle.frag_fills.specs.Filling.{Adds, at_ref, Fills, Filled, FillsFrom, Filling}

-- what is said of some cells is said of more, and goes on as it is carried on
says_onward : (m more : ℕ → Option ℕ) → Extends m more → (a fp : ℕ) (jumps : Bool) (p : Piece) (i : ℕ) (t : Tally) (next next' ends ends' : ℕ → Tally → Type 0)
    → ((skip : ℕ) (u : Tally) → next skip u → next' skip u) → ((x : ℕ) (u : Tally) → ends x u → ends' x u) → Says m a fp jumps p i t next ends → Says more a fp jumps p i t next' ends'
says_onward m more extends a fp jumps (piece.Let e) i t next next' ends ends' on over (w, here, there, goes) =
    (w, extends _ w here, reading_extends m more extends (address_after a fp t.change) e w there, on _ _ goes)
says_onward m more extends a fp jumps (piece.Reserve n) i t next next' ends ends' on over goes = on _ _ goes
says_onward m more extends a fp jumps (piece.Hint c ask) i t next next' ends ends' on over goes = on _ _ goes
says_onward m more extends a fp jumps (piece.Assert c e) i t next next' ends ends' on over (w, here, there, goes) =
    (w, extends _ w here, reading_extends m more extends (address_after a fp t.change) e w there, on _ _ goes)
says_onward m more extends a fp jumps (piece.Range p o c) i t next next' ends ends' on over (b, w, pointer, there, here, goes) =
    (b, w, extends _ b pointer, extends _ w there, extends _ w here, on _ _ goes)
says_onward m more extends a fp jumps (piece.IfNonZero c to) i t next next' ends ends' on over (w, is, inl goes) = (w, extends _ w is, inl (goes.0, on _ _ goes.1))
says_onward m more extends a fp jumps (piece.IfNonZero c to) i t next next' ends ends' on over (w, is, inr goes) = (w, extends _ w is, inr (goes.0, on _ _ goes.1))
says_onward m more extends a fp jumps (piece.Exit x) i t next next' ends ends' on over goes = over _ _ goes

-- what follows of how a piece goes on and ends follows of what it says
says_ends : {R : Type 0} (m : ℕ → Option ℕ) (a fp : ℕ) (jumps : Bool) (p : Piece) (i : ℕ) (t : Tally) (next ends : ℕ → Tally → Type 0)
    → ((skip : ℕ) (u : Tally) → next skip u → R) → ((x : ℕ) (u : Tally) → ends x u → R) → Says m a fp jumps p i t next ends → R
says_ends m a fp jumps (piece.Let e) i t next ends on over goes = on _ _ goes.3
says_ends m a fp jumps (piece.Reserve n) i t next ends on over goes = on _ _ goes
says_ends m a fp jumps (piece.Hint c ask) i t next ends on over goes = on _ _ goes
says_ends m a fp jumps (piece.Assert c e) i t next ends on over goes = on _ _ goes.3
says_ends m a fp jumps (piece.Range p o c) i t next ends on over goes = on _ _ goes.5
says_ends m a fp jumps (piece.IfNonZero c to) i t next ends on over (w, is, inl goes) = on _ _ goes.1
says_ends m a fp jumps (piece.IfNonZero c to) i t next ends on over (w, is, inr goes) = on _ _ goes.1
says_ends m a fp jumps (piece.Exit x) i t next ends on over goes = over _ _ goes

same_extends : (m more : Cells) → more ≡ m → Extends (get m) (get more)
same_extends m more is = subst (λ cells. Extends (get m) (get cells)) (sym is) (extends_itself (get m))

added_extends : (m more : Cells) (a w : ℕ) → get m a ≡ None → more ≡ insert m a w → Extends (get m) (get more)
added_extends m more a w none is = subst (λ cells. Extends (get m) (get cells)) (sym is) (insert_extends m a w (inl none))

adds_extends : (m more : Cells) (place : At → ℕ) (c : ℕ) (e : CellExpr) → Adds m place c e more → Extends (get m) (get more)
adds_extends m more place c e (inl is) = same_extends m more is
adds_extends m more place c e (inr (a, w, small, none, open_, is)) = added_extends m more a w none is

fills_extends : (a fp : ℕ) (p : Piece) (t : Tally) (r s : Remembered) (m more : Cells) → Fills a fp p t r m s more → Extends (get m) (get more)
fills_extends a fp (piece.Let e) t r s m more fills = adds_extends m more (address_after a fp t.change) (sum a t.change) e fills.1
fills_extends a fp (piece.Reserve n) t r s m more fills = same_extends m more fills.1
fills_extends a fp (piece.Hint c ask) t r s m more fills = added_extends m more _ fills.word fills.open_ fills.added
fills_extends a fp (piece.Assert c e) t r s m more fills = adds_extends m more (address_after a fp t.change) (cell_after a fp t.change c) e fills.1
fills_extends a fp (piece.Range p o c) t r s m more fills =
    adds_extends m more (address_after a fp t.change) (cell_after a fp t.change c) (expr.DoubleCell (at_ref p) o) fills.1
fills_extends a fp (piece.IfNonZero c to) t r s m more fills = same_extends m more fills.1
fills_extends a fp (piece.Exit x) t r s m more fills = same_extends m more fills.1

module _ (a fp : ℕ) (jumps : Bool) where
  -- each word that was there is kept
  pub keeps_words : (ps : List Piece) (i skip : ℕ) (t : Tally) (r : Remembered) (m : Cells) (k : ℕ) (z : Filled) → FillsFrom a fp jumps ps i skip t r m k z → Extends (get m) (get z.cells)
  unfolding FillsFrom
  keeps_words [] i skip t r m k z goes = absurd goes
  keeps_words (p ∷ ps) i zero t r m k z (s, more, fills, says) =
      extends_trans (get m) (get more) (get z.cells) (fills_extends a fp p t r s m more fills)
      (says_ends (get more) a fp jumps p i t (λ skip u. FillsFrom a fp jumps ps (i + 1) skip u s more k z) (λ x u. (k ≡ x) × (z ≡ record { end = u; remembered = s; cells = more }))
      (λ skip u goes. keeps_words ps (i + 1) skip u s more k z goes)
      (λ x u ends. same_extends more z.cells (ap (λ y. y.cells) ends.1)) says)
  keeps_words (p ∷ ps) i (suc skip) t r m k z goes = keeps_words ps (i + 1) skip t r m k z goes

  -- over the last cells a filling is an evaluation
  pub evaluates : (ps : List Piece) (i skip : ℕ) (t : Tally) (r : Remembered) (m : Cells) (k : ℕ) (z : Filled) → FillsFrom a fp jumps ps i skip t r m k z
      → Evaluates (get z.cells) a fp jumps ps i skip t k z.end
  unfolding FillsFrom Evaluates
  evaluates [] i skip t r m k z goes = absurd goes
  evaluates (p ∷ ps) i zero t r m k z (s, more, fills, says) =
      let onward = says_ends (get more) a fp jumps p i t (λ skip u. FillsFrom a fp jumps ps (i + 1) skip u s more k z) (λ x u. (k ≡ x) × (z ≡ record { end = u; remembered = s; cells = more }))
      (λ skip u goes. keeps_words ps (i + 1) skip u s more k z goes) (λ x u ends. same_extends more z.cells (ap (λ y. y.cells) ends.1)) says in
      says_onward (get more) (get z.cells) onward a fp jumps p i t
      (λ skip u. FillsFrom a fp jumps ps (i + 1) skip u s more k z) (λ skip u. Evaluates (get z.cells) a fp jumps ps (i + 1) skip u k z.end)
      (λ x u. (k ≡ x) × (z ≡ record { end = u; remembered = s; cells = more })) (λ x u. (k ≡ x) × (z.end ≡ u))
      (λ skip u goes. evaluates ps (i + 1) skip u s more k z goes) (λ x u ends. (ends.0, ap (λ y. y.end) ends.1)) says
  evaluates (p ∷ ps) i (suc skip) t r m k z goes = evaluates ps (i + 1) skip t r m k z goes

  -- to pass over pieces is to go on with those behind them
  pub fills_passes : (ps qs : List Piece) (i : ℕ) (t : Tally) (r : Remembered) (m : Cells) (k : ℕ) (z : Filled)
      → FillsFrom a fp jumps (ps ++ qs) i (length ps) t r m k z ≡ FillsFrom a fp jumps qs (i + length ps) 0 t r m k z
  unfolding FillsFrom
  fills_passes [] qs i t r m k z = ap (λ n. FillsFrom a fp jumps qs n 0 t r m k z) (sym (add-zero i))
  fills_passes (p ∷ ps) qs i t r m k z = fills_passes ps qs (i + 1) t r m k z ∙ ap (λ n. FillsFrom a fp jumps qs n 0 t r m k z) (omega arith)

pub filling_evaluates : (f : List Piece) (a fp k : ℕ) (r : Remembered) (m : Cells) (z : Filled) → Filling f a fp r m k z → Evaluation f (get z.cells) a fp k z.end
filling_evaluates f a fp k r m z filling = evaluates a fp (has_jump f) f 0 0 nothing r m k z filling

pub filling_extends : (f : List Piece) (a fp k : ℕ) (r : Remembered) (m : Cells) (z : Filled) → Filling f a fp r m k z → Extends (get m) (get z.cells)
filling_extends f a fp k r m z filling = keeps_words a fp (has_jump f) f 0 0 nothing r m k z filling
