-- An evaluation of pieces is a stretch of steps through their code.
use Rattle.std.proofs.Common.{◌≡◌, ℕ, zero, suc, ◌+◌, ◌-◌, ◌<◌, ◌≤◌, ◌^◌, ◌==◌, Bool, true, false, if◌then◌else◌, ℤ, pos, List, [], ◌∷◌, length, take, Option, Some, refl, sym, ap, subst, ◌∙◌, inl, inr, add-zero, arith}
use Rattle.std.proofs.lemmas.Bool.{cases_Bool, cond-true, cond-false, ne_eqb, eq-eqb, false≢true}
use Rattle.std.proofs.lemmas.Int.{ints}
use Rattle.std.proofs.lemmas.List.Elements.{All-head}
use Rattle.felt64.specs.Field.{sum, difference}
use Rattle.casm_word.specs.declared.instr.CellRef.{CellRef}
use Rattle.casm_word.specs.declared.instr.Operand.TheVariants as operand
use Rattle.casm_word.specs.declared.instr.Res.TheVariants as res
use Rattle.casm_word.specs.declared.instr.Instr.{Instr}
use Rattle.casm_word.specs.declared.instr.Instr.TheVariants as instr
use Rattle.casm_word.specs.declared.cell_expr.CellExpr.{CellExpr}
use Rattle.casm_word.specs.Encoding.{ap_cell}
use Rattle.casm_word.specs.Bounds.{IsInstrNear}
use Rattle.ro_machine.specs.declared.machine.State.{State}
use Rattle.ro_machine.specs.Memory.{IsMemory}
use Rattle.ro_machine.specs.Step.{Step, moved}
use Rattle.casm_steps.specs.Reading.{behind}
use Rattle.casm_steps.specs.Executes.{state, cell_address, instr_cells, Executes, HasInstr}
use Rattle.casm_steps.specs.Path.{Arrives}
use Rattle.casm_steps.proofs.Instructions.{steps}
use Rattle.casm_steps.proofs.Paths.{step_arrives, arrives_here}
use Rattle.hint_source.specs.declared.kind.Kind.{Kind}
use Rattle.frag_code.specs.declared.piece.Piece.{Piece}
use Rattle.frag_code.specs.declared.piece.Piece.TheVariants as piece
use Rattle.frag_code.specs.Form.{is_exit, IsPieceNear}
use Rattle.frag_code.specs.Evaluation.{Tally, step_by, step_on, step_naming, Evaluates}
use Rattle.frag_code.specs.Emit.{assertion, instr_of, cells_of, code_cells, code_from}
use Rattle.frag_code.proofs.Places.{state_is, instr_some, moved_twice, cell_here, word_here, code_here, shape_parts, contains_first, code_cells-cons}
use Rattle.frag_code.proofs.Assertions.{assertion_near, asserted_does}
use Rattle.frag_code.proofs.Follows.{Fits, fits_behind, not_last, at_piece, place_small, landing, jump_within}

module _ (m : ℕ → Option ℕ) (field : IsMemory m) (a fp : ℕ) (jumps : Bool) (exits : ℕ → ℕ) (lo hi : ℕ) (high : hi ≤ 2 ^ 25) (u : ℕ) (frame : m (difference fp 1) ≡ Some u) where
  abbrev Fit : List Piece → ℕ → ℕ → Type 0
  Fit = Fits m field a fp jumps exits lo hi high

  abbrev piece_state : List Piece → ℕ → ℕ → Tally → State
  piece_state = at_piece m field a fp jumps exits lo hi high

  abbrev here_state : ℕ → Tally → State
  here_state at t = state at (sum a t.change) fp

  -- after so many steps from a tally the state is at the exit of the branch
  abbrev AtExit : ℕ → Tally → Tally → State → ℕ → Type 0
  AtExit k end t v n = (v ≡ state (exits k) (sum a end.change) fp) × (end.steps ≡ t.steps + n)

  abbrev There : State → Tally → ℕ → Tally → Type 0
  There s t k end = Arrives m lo hi s (AtExit k end t)

  -- the pieces behind the first one lead to their exits
  abbrev Onward : Piece → List Piece → ℕ → ℕ → Type 0
  Onward p ps i at = (skip : ℕ) (t : Tally) (k : ℕ) (end : Tally) → skip < length ps → Evaluates m a fp jumps ps (i + 1) skip t k end → There (piece_state ps (at + cells_of jumps p) skip t) t k end

  -- a step from the first of the pieces to one behind it
  steps_on : (p : Piece) (ps : List Piece) (i at skip : ℕ) (t t' : Tally) (k : ℕ) (end : Tally) (v : State) → Fit (p ∷ ps) i at → 0 < cells_of jumps p
      → Step m (here_state at t) v → v ≡ piece_state ps (at + cells_of jumps p) skip t' → t'.steps ≡ t.steps + 1 → There (piece_state ps (at + cells_of jumps p) skip t') t' k end
      → There (here_state at t) t k end
  steps_on p ps i at skip t t' k end v fits some step is counts there =
      let all = code_cells-cons jumps p ps in
      let lower = fits.above in
      let upper = fits.below in
      step_arrives m lo hi (here_state at t) (piece_state ps (at + cells_of jumps p) skip t') (AtExit k end t') (AtExit k end t)
      (subst (λ v. Step m (here_state at t) v) is step) lower (omega (arith, all)) (λ v n holds. (holds.0, let now = holds.1 in omega arith)) there

  -- what an instruction does is a step
  steps_here : (i : Instr) (at : ℕ) (t : Tally) (v : State) → at ≤ 2 ^ 25 → IsInstrNear i → HasInstr m at i → Executes m i (here_state at t) v → Step m (here_state at t) v
  steps_here i at t v small near has does = steps m (here_state at t) small u frame i v near has does

  small_at : (p : Piece) (ps : List Piece) (i at : ℕ) → Fit (p ∷ ps) i at → at + cells_of jumps p ≤ 2 ^ 25
  small_at = place_small m field a fp jumps exits lo hi high

  more_behind : (p : Piece) (ps : List Piece) (i at : ℕ) → is_exit p ≡ false → Fit (p ∷ ps) i at → 0 < length ps
  more_behind = not_last m field a fp jumps exits lo hi high

  let_leads : (e : CellExpr) (ps : List Piece) (i at : ℕ) (t : Tally) (k : ℕ) (end : Tally) → Fit (piece.Let e ∷ ps) i at → Onward (piece.Let e) ps i at
      → Evaluates m a fp jumps (piece.Let e ∷ ps) i 0 t k end → There (here_state at t) t k end
  unfolding Evaluates
  let_leads e ps i at t k end fits onward (w, left, right, evaluates) =
      let near = All-head IsPieceNear (piece.Let e) ps fits.near in
      let small = small_at (piece.Let e) ps i at fits in
      let i_near = assertion_near (ap_cell (pos 0)) e true (omega (arith, ints)) near in
      let v = state (at + instr_cells (assertion (ap_cell (pos 0)) e true)) (sum (sum a t.change) 1) fp in
      let does = asserted_does m field (here_state at t) (ap_cell (pos 0)) e true v (w, ap m (moved_twice a t.change 0 ∙ ap (sum a) (add-zero t.change)) ∙ left, word_here a fp t.change m e near ∙ right, refl) in
      steps_on (piece.Let e) ps i at 0 t (step_by 1 t) k end v fits (instr_some (assertion (ap_cell (pos 0)) e true)) (steps_here (assertion (ap_cell (pos 0)) e true) at t v (omega arith) i_near fits.code.0 does)
      (state_is _ _ _ _ _ _ (sym (add-zero _)) (moved_twice a t.change 1) refl) refl
      (onward 0 (step_by 1 t) k end (more_behind (piece.Let e) ps i at refl fits) evaluates)

  assert_leads : (c : CellRef) (e : CellExpr) (ps : List Piece) (i at : ℕ) (t : Tally) (k : ℕ) (end : Tally) → Fit (piece.Assert c e ∷ ps) i at → Onward (piece.Assert c e) ps i at
      → Evaluates m a fp jumps (piece.Assert c e ∷ ps) i 0 t k end → There (here_state at t) t k end
  unfolding Evaluates
  assert_leads c e ps i at t k end fits onward (w, left, right, evaluates) =
      let near = All-head IsPieceNear (piece.Assert c e) ps fits.near in
      let small = small_at (piece.Assert c e) ps i at fits in
      let v = state (at + instr_cells (assertion c e false)) (sum a t.change) fp in
      let does = asserted_does m field (here_state at t) c e false v (w, ap m (cell_here a fp t.change c.reg c.off near.0) ∙ left, word_here a fp t.change m e near.1 ∙ right, refl) in
      steps_on (piece.Assert c e) ps i at 0 t (step_on t) k end v fits (instr_some (assertion c e false)) (steps_here (assertion c e false) at t v (omega arith) (assertion_near c e false near.0 near.1) fits.code.0 does)
      (state_is _ _ _ _ _ _ (sym (add-zero _)) refl refl) refl
      (onward 0 (step_on t) k end (more_behind (piece.Assert c e) ps i at refl fits) evaluates)

  reserve_leads : (n : ℕ) (ps : List Piece) (i at : ℕ) (t : Tally) (k : ℕ) (end : Tally) → Fit (piece.Reserve n ∷ ps) i at → Onward (piece.Reserve n) ps i at
      → Evaluates m a fp jumps (piece.Reserve n ∷ ps) i 0 t k end → There (here_state at t) t k end
  unfolding Evaluates
  reserve_leads n ps i at t k end fits onward evaluates =
      let small = small_at (piece.Reserve n) ps i at fits in
      let v = state (at + 2) (sum (sum a t.change) n) fp in
      steps_on (piece.Reserve n) ps i at 0 t (step_by n t) k end v fits (omega arith) (steps_here (instr.AddAp (res.Imm n)) at t v (omega arith) tt fits.code.0 (n, refl, refl))
      (state_is _ _ _ _ _ _ (sym (add-zero _)) (moved_twice a t.change n) refl) refl
      (onward 0 (step_by n t) k end (more_behind (piece.Reserve n) ps i at refl fits) evaluates)

  range_leads : (c : CellRef) (o : ℤ) (d : CellRef) (ps : List Piece) (i at : ℕ) (t : Tally) (k : ℕ) (end : Tally) → Fit (piece.Range c o d ∷ ps) i at → Onward (piece.Range c o d) ps i at
      → Evaluates m a fp jumps (piece.Range c o d ∷ ps) i 0 t k end → There (here_state at t) t k end
  unfolding Evaluates
  range_leads c o d ps i at t k end fits onward (b, w, pointer, there, here, evaluates) =
      let near = All-head IsPieceNear (piece.Range c o d) ps fits.near in
      let small = small_at (piece.Range c o d) ps i at fits in
      let s = here_state at t in
      let v = state (at + 1) (sum a t.change) fp in
      let i_near : IsInstrNear (instr.AssertEq d (res.Double c o) false) = (near.2, (near.0, near.1)) in
      let points : behind m (m (cell_address s c)) o ≡ Some w = ap (λ x. behind m x o) (ap m (cell_here a fp t.change c.reg c.off near.0) ∙ pointer) ∙ there in
      steps_on (piece.Range c o d) ps i at 0 t (step_naming (moved b o) w t) k end v fits (omega arith)
      (steps_here (instr.AssertEq d (res.Double c o) false) at t v (omega arith) i_near fits.code.0 (w, ap m (cell_here a fp t.change d.reg d.off near.2) ∙ here, points, refl))
      (state_is _ _ _ _ _ _ (sym (add-zero _)) refl refl) refl
      (onward 0 (step_naming (moved b o) w t) k end (more_behind (piece.Range c o d) ps i at refl fits) evaluates)

  jnz_leads : (c : CellRef) (to : ℕ) (ps : List Piece) (i at : ℕ) (t : Tally) (k : ℕ) (end : Tally) → Fit (piece.IfNonZero c to ∷ ps) i at → Onward (piece.IfNonZero c to) ps i at
      → Evaluates m a fp jumps (piece.IfNonZero c to ∷ ps) i 0 t k end → There (here_state at t) t k end
  unfolding Evaluates
  jnz_leads c to ps i at t k end fits onward (w, is, goes) =
      elim goes [
        | inl none ↦
            let v = state (at + 2) (sum a t.change) fp in
            steps_on (piece.IfNonZero c to) ps i at 0 t (step_on t) k end v fits (omega arith)
            (stepped v (state_is _ _ _ _ _ _ (sym (cond-true (w == 0) (at + 2) (sum at d) (eq-eqb w 0 none.0))) refl refl))
            (state_is _ _ _ _ _ _ (sym (add-zero _)) refl refl) refl
            (onward 0 (step_on t) k end (more_behind (piece.IfNonZero c to) ps i at refl fits) none.1)
        | inr other ↦
            let v = state (sum at d) (sum a t.change) fp in
            steps_on (piece.IfNonZero c to) ps i at (to - (i + 1)) t (step_on t) k end v fits (omega arith)
            (stepped v (state_is _ _ _ _ _ _ (sym (cond-false (w == 0) (at + 2) (sum at d) (ne_eqb w 0 other.0))) refl refl))
            (state_is _ _ _ _ _ _ (landing m field a fp jumps exits lo hi high c to (to - (i + 1)) ps i at fits) refl refl) refl
            (onward (to - (i + 1)) (step_on t) k end (jump_within m field a fp jumps exits lo hi high c to ps i at fits) other.1)
      ]
    where
      d : ℕ
      d = 2 + code_cells jumps (take (to - (i + 1)) ps)

      stepped : (v : State) → v ≡ state (if w == 0 then at + 2 else sum at d) (sum a t.change) fp → Step m (here_state at t) v
      stepped v next =
          let near = All-head IsPieceNear (piece.IfNonZero c to) ps fits.near in
          let small = small_at (piece.IfNonZero c to) ps i at fits in
          steps_here (instr.Jnz c (operand.Imm d) false) at t v (omega arith) (near, tt) fits.code.0 (w, d, ap m (cell_here a fp t.change c.reg c.off near) ∙ is, refl, next)

  hint_leads : (c : CellRef) (ask : Kind CellExpr) (ps : List Piece) (i at : ℕ) (t : Tally) (k : ℕ) (end : Tally) → Fit (piece.Hint c ask ∷ ps) i at → Onward (piece.Hint c ask) ps i at
      → Evaluates m a fp jumps (piece.Hint c ask ∷ ps) i 0 t k end → There (here_state at t) t k end
  unfolding Evaluates
  hint_leads c ask ps i at t k end fits onward evaluates =
      subst (λ s. There s t k end) (state_is _ _ _ _ _ _ (add-zero (at + 0) ∙ add-zero at) refl refl)
      (onward 0 t k end (more_behind (piece.Hint c ask) ps i at refl fits) evaluates)

  exit_jumps_there : (x : ℕ) (ps : List Piece) (i at : ℕ) (t : Tally) (k : ℕ) (end : Tally) → jumps ≡ true → Fit (piece.Exit x ∷ ps) i at
      → Evaluates m a fp jumps (piece.Exit x ∷ ps) i 0 t k end → There (here_state at t) t k end
  unfolding Evaluates
  exit_jumps_there x ps i at t k end is fits (branch, ends) =
      let d = difference (exits x) at in
      let all = code_cells-cons jumps (piece.Exit x) ps in
      let two : cells_of jumps (piece.Exit x) ≡ 2 = ap (λ b. cells_of b (piece.Exit x)) is in
      let lower = fits.above in
      let upper = fits.below in
      let small = small_at (piece.Exit x) ps i at fits in
      let branch_small = fits.small x (contains_first (piece.Exit x) ps) in
      let has = code_here m at (instr_of jumps d (piece.Exit x)) (instr.Jump true (res.Imm d) false) (code_from jumps exits (i + 1) (at + cells_of jumps (piece.Exit x)) ps) (ap (λ b. instr_of b d (piece.Exit x)) is) fits.code in
      let v = state (sum at d) (sum a t.change) fp in
      let last : end ≡ step_on t = ends ∙ ap (λ b. if b then step_on t else t) is in
      let leads : sum at d ≡ exits k = omega arith ∙ ap exits (sym branch) in
      record {
        states = v ∷ [];
        last = v;
        path = (steps_here (instr.Jump true (res.Imm d) false) at t v (omega arith) tt has (d, refl, refl), refl);
        inside = (lower, omega (arith, all), tt);
        holds = (state_is _ _ _ _ _ _ leads (ap (λ end. sum a end.change) (sym last)) refl, ap (λ end. end.steps) last);
      }

  exit_falls_there : (x : ℕ) (ps : List Piece) (i at : ℕ) (t : Tally) (k : ℕ) (end : Tally) → jumps ≡ false → Fit (piece.Exit x ∷ ps) i at
      → Evaluates m a fp jumps (piece.Exit x ∷ ps) i 0 t k end → There (here_state at t) t k end
  unfolding Evaluates
  exit_falls_there x [] i at t k end is fits (branch, ends) =
      let none : code_cells jumps (piece.Exit x ∷ []) ≡ 0 = ap (λ b. code_cells b (piece.Exit x ∷ [])) is in
      let there = fits.falls is x (contains_first (piece.Exit x) []) in
      let last : end ≡ t = ends ∙ ap (λ b. if b then step_on t else t) is in
      let leads : at ≡ exits x = omega (arith, none, there) in
      arrives_here m lo hi (here_state at t) (AtExit k end t)
      (state_is _ _ _ _ _ _ (leads ∙ ap exits (sym branch)) (ap (λ end. sum a end.change) (sym last)) refl, ap (λ end. end.steps) last ∙ sym (add-zero t.steps))
  exit_falls_there x (q ∷ qs) i at t k end is fits evaluates = let early = (shape_parts jumps i (piece.Exit x) q qs fits.shaped).0 in absurd (false≢true (sym is ∙ early))

  exit_leads : (x : ℕ) (ps : List Piece) (i at : ℕ) (t : Tally) (k : ℕ) (end : Tally) → Fit (piece.Exit x ∷ ps) i at
      → Evaluates m a fp jumps (piece.Exit x ∷ ps) i 0 t k end → There (here_state at t) t k end
  exit_leads x ps i at t k end fits evaluates =
      elim (cases_Bool jumps) [
        | inl is ↦ exit_jumps_there x ps i at t k end is fits evaluates
        | inr is ↦ exit_falls_there x ps i at t k end is fits evaluates
      ]

  -- the first of the pieces, from what holds of those behind it
  piece_leads : (p : Piece) (ps : List Piece) (i at : ℕ) (t : Tally) (k : ℕ) (end : Tally) → Fit (p ∷ ps) i at → (0 < length ps → Onward p ps i at)
      → Evaluates m a fp jumps (p ∷ ps) i 0 t k end → There (here_state at t) t k end
  piece_leads (piece.Let e) ps i at t k end fits onward evaluates = let_leads e ps i at t k end fits (onward (more_behind (piece.Let e) ps i at refl fits)) evaluates
  piece_leads (piece.Reserve n) ps i at t k end fits onward evaluates = reserve_leads n ps i at t k end fits (onward (more_behind (piece.Reserve n) ps i at refl fits)) evaluates
  piece_leads (piece.Hint c ask) ps i at t k end fits onward evaluates = hint_leads c ask ps i at t k end fits (onward (more_behind (piece.Hint c ask) ps i at refl fits)) evaluates
  piece_leads (piece.Assert c e) ps i at t k end fits onward evaluates = assert_leads c e ps i at t k end fits (onward (more_behind (piece.Assert c e) ps i at refl fits)) evaluates
  piece_leads (piece.Range c o d) ps i at t k end fits onward evaluates = range_leads c o d ps i at t k end fits (onward (more_behind (piece.Range c o d) ps i at refl fits)) evaluates
  piece_leads (piece.IfNonZero c to) ps i at t k end fits onward evaluates = jnz_leads c to ps i at t k end fits (onward (more_behind (piece.IfNonZero c to) ps i at refl fits)) evaluates
  piece_leads (piece.Exit x) ps i at t k end fits onward evaluates = exit_leads x ps i at t k end fits evaluates

  pub leads : (ps : List Piece) (i at skip : ℕ) (t : Tally) (k : ℕ) (end : Tally) → Fit ps i at → skip < length ps → Evaluates m a fp jumps ps i skip t k end → There (piece_state ps at skip t) t k end
  unfolding Evaluates
  leads [] i at skip t k end fits within evaluates = absurd (omega (arith, within))
  leads (p ∷ ps) i at zero t k end fits within evaluates =
      subst (λ s. There s t k end) (state_is _ _ _ _ _ _ (sym (add-zero at)) refl refl)
      (piece_leads p ps i at t k end fits (λ more skip t k end within evaluates. leads ps (i + 1) (at + cells_of jumps p) skip t k end (fits_behind m field a fp jumps exits lo hi high p ps i at more fits) within evaluates) evaluates)
  leads (p ∷ ps) i at (suc skip) t k end fits within evaluates =
      let more : 0 < length ps = omega (arith, within) in
      let all = code_cells-cons jumps p (take skip ps) in
      subst (λ s. There s t k end) (state_is _ _ _ _ _ _ (omega (arith, all)) refl refl)
      (leads ps (i + 1) (at + cells_of jumps p) skip t k end (fits_behind m field a fp jumps exits lo hi high p ps i at more fits) (omega (arith, within)) evaluates)
