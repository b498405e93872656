-- Evaluations: that they stay as cells are added, that there is one at most, and how they pass over pieces.
use Rattle.std.proofs.Common.{◌≡◌, ℕ, zero, suc, ◌+◌, Bool, List, [], ◌∷◌, ◌++◌, length, Option, Some, refl, sym, ap, subst, ◌∙◌, inl, inr, add-zero, arith}
use Rattle.ro_machine.specs.Extends.{Extends}
use Rattle.casm_steps.proofs.Readings.{reading_extends}
use Rattle.frag_code.specs.declared.piece.Piece.{Piece}
use Rattle.frag_code.specs.declared.piece.Piece.TheVariants as piece
use Rattle.frag_code.specs.Evaluation.{Tally, address_after, Says, Evaluates}

module _ (m more : ℕ → Option ℕ) (extends : Extends m more) (a fp : ℕ) (jumps : Bool) where
  says_extends : (p : Piece) (i : ℕ) (t : Tally) (next next' ends : ℕ → Tally → Type 0) → ((skip : ℕ) (u : Tally) → next skip u → next' skip u)
      → Says m a fp jumps p i t next ends → Says more a fp jumps p i t next' ends
  says_extends (piece.Let e) i t next next' ends on (w, left, right, goes) = (w, extends _ w left, reading_extends m more extends (address_after a fp t.change) e w right, on _ _ goes)
  says_extends (piece.Reserve n) i t next next' ends on goes = on _ _ goes
  says_extends (piece.Hint c ask) i t next next' ends on goes = on _ _ goes
  says_extends (piece.Assert c e) i t next next' ends on (w, left, right, goes) = (w, extends _ w left, reading_extends m more extends (address_after a fp t.change) e w right, on _ _ goes)
  says_extends (piece.Range p o c) i t next next' ends on (b, w, pointer, there, here, goes) = (b, w, extends _ b pointer, extends _ w there, extends _ w here, on _ _ goes)
  says_extends (piece.IfNonZero c to) i t next next' ends on (w, is, inl goes) = (w, extends _ w is, inl (goes.0, on _ _ goes.1))
  says_extends (piece.IfNonZero c to) i t next next' ends on (w, is, inr goes) = (w, extends _ w is, inr (goes.0, on _ _ goes.1))
  says_extends (piece.Exit x) i t next next' ends on goes = goes

  -- an evaluation stays one as cells are added
  pub evaluates_extends : (ps : List Piece) (i skip : ℕ) (t : Tally) (k : ℕ) (end : Tally) → Evaluates m a fp jumps ps i skip t k end → Evaluates more a fp jumps ps i skip t k end
  unfolding Evaluates
  evaluates_extends [] i skip t k end evaluates = evaluates
  evaluates_extends (p ∷ ps) i zero t k end evaluates =
      says_extends p i t (λ skip u. Evaluates m a fp jumps ps (i + 1) skip u k end) (λ skip u. Evaluates more a fp jumps ps (i + 1) skip u k end) (λ x u. (k ≡ x) × (end ≡ u))
      (λ skip u goes. evaluates_extends ps (i + 1) skip u k end goes) evaluates
  evaluates_extends (p ∷ ps) i (suc skip) t k end evaluates = evaluates_extends ps (i + 1) skip t k end evaluates

module _ (m : ℕ → Option ℕ) (a fp : ℕ) (jumps : Bool) where
  one_word : (at v w : ℕ) → m at ≡ Some v → m at ≡ Some w → v ≡ w
  one_word at v w first second = cc

  -- two readings of a piece go on alike
  says_once : {R : Type 0} (p : Piece) (i : ℕ) (t : Tally) (next next' ends ends' : ℕ → Tally → Type 0) → ((skip : ℕ) (u : Tally) → next skip u → next' skip u → R)
      → ((x : ℕ) (u : Tally) → ends x u → ends' x u → R) → Says m a fp jumps p i t next ends → Says m a fp jumps p i t next' ends' → R
  says_once (piece.Let e) i t next next' ends ends' on over first second = on _ _ first.3 second.3
  says_once (piece.Reserve n) i t next next' ends ends' on over first second = on _ _ first second
  says_once (piece.Hint c ask) i t next next' ends ends' on over first second = on _ _ first second
  says_once (piece.Assert c e) i t next next' ends ends' on over first second = on _ _ first.3 second.3
  says_once (piece.Range p o c) i t next next' ends ends' on over (b, w, pointer, there, here, goes) (b', w', pointer', there', here', goes') =
      let same = one_word _ b b' pointer pointer' in
      let word = one_word _ w w' here here' in
      on _ _ goes (subst (next' 0) (rw (same, word) refl) goes')
  says_once (piece.IfNonZero c to) i t next next' ends ends' on over (w, is, inl goes) (w', is', inl goes') = on _ _ goes.1 goes'.1
  says_once (piece.IfNonZero c to) i t next next' ends ends' on over (w, is, inl goes) (w', is', inr goes') = absurd (goes'.0 (sym (one_word _ w w' is is') ∙ goes.0))
  says_once (piece.IfNonZero c to) i t next next' ends ends' on over (w, is, inr goes) (w', is', inl goes') = absurd (goes.0 (one_word _ w w' is is' ∙ goes'.0))
  says_once (piece.IfNonZero c to) i t next next' ends ends' on over (w, is, inr goes) (w', is', inr goes') = on _ _ goes.1 goes'.1
  says_once (piece.Exit x) i t next next' ends ends' on over first second = over _ _ first second

  -- two evaluations over the same cells have one exit and the same counts
  pub evaluates_once : (ps : List Piece) (i skip : ℕ) (t : Tally) (k l : ℕ) (end last : Tally) → Evaluates m a fp jumps ps i skip t k end → Evaluates m a fp jumps ps i skip t l last → (k ≡ l) × (end ≡ last)
  unfolding Evaluates
  evaluates_once [] i skip t k l end last first second = absurd first
  evaluates_once (p ∷ ps) i zero t k l end last first second =
      says_once p i t (λ skip u. Evaluates m a fp jumps ps (i + 1) skip u k end) (λ skip u. Evaluates m a fp jumps ps (i + 1) skip u l last) (λ x u. (k ≡ x) × (end ≡ u)) (λ x u. (l ≡ x) × (last ≡ u))
      (λ skip u goes goes'. evaluates_once ps (i + 1) skip u k l end last goes goes') (λ x u ends ends'. (ends.0 ∙ sym ends'.0, ends.1 ∙ sym ends'.1)) first second
  evaluates_once (p ∷ ps) i (suc skip) t k l end last first second = evaluates_once ps (i + 1) skip t k l end last first second

  -- to pass over pieces is to evaluate those behind them
  pub passes : (ps qs : List Piece) (i : ℕ) (t : Tally) (k : ℕ) (end : Tally) → Evaluates m a fp jumps (ps ++ qs) i (length ps) t k end ≡ Evaluates m a fp jumps qs (i + length ps) 0 t k end
  unfolding Evaluates
  passes [] qs i t k end = ap (λ n. Evaluates m a fp jumps qs n 0 t k end) (sym (add-zero i))
  passes (p ∷ ps) qs i t k end = passes ps qs (i + 1) t k end ∙ ap (λ n. Evaluates m a fp jumps qs n 0 t k end) (omega arith)
