-- Steps through the code of pieces are an evaluation, or stay in the code.
use Rattle.std.proofs.Common.{◌≡◌, ◌⊎◌, ℕ, zero, suc, ◌+◌, ◌-◌, ◌<◌, ◌≤◌, ◌^◌, ◌==◌, nat_lt, nat_le, Bool, true, false, if◌then◌else◌, ℤ, pos, List, [], ◌∷◌, length, take, Option, Some, IsTrue, refl, sym, ap, subst, ◌∙◌, inl, inr, add-zero, arith}
use Rattle.std.specs.List.{All, Contains}
use Rattle.std.proofs.lemmas.Bool.{and_parts, ltb-true, leb-true, cases_Bool, cond-false, ne_eqb, false≢true}
use Rattle.std.proofs.lemmas.Int.{ints}
use Rattle.std.proofs.lemmas.List.Elements.{All-head, All-tail}
use Rattle.std.proofs.lemmas.List.Sums.{sum_by-take-le}
use Rattle.felt64.specs.Field.{sum, difference}
use Rattle.casm_word.specs.declared.instr.CellRef.{CellRef}
use Rattle.casm_word.specs.declared.instr.Operand.TheVariants as operand
use Rattle.casm_word.specs.declared.instr.Res.TheVariants as res
use Rattle.casm_word.specs.declared.instr.Instr.TheVariants as instr
use Rattle.casm_word.specs.declared.cell_expr.CellExpr.{CellExpr}
use Rattle.casm_word.specs.Encoding.{ap_cell}
use Rattle.ro_machine.specs.declared.machine.State.{State}
use Rattle.ro_machine.specs.Memory.{IsMemory}
use Rattle.ro_machine.specs.Step.{Step, moved}
use Rattle.casm_steps.specs.Executes.{state, cell_address, HasCode}
use Rattle.casm_steps.specs.Path.{Path, Splits, StaysInside}
use Rattle.casm_steps.proofs.Readings.{behind_parts}
use Rattle.casm_steps.proofs.Instructions.{executes}
use Rattle.casm_steps.proofs.Paths.{splits_map, splits_here, step_splits, step_stays}
use Rattle.frag_code.specs.declared.piece.Piece.{Piece}
use Rattle.frag_code.specs.declared.piece.Piece.TheVariants as piece
use Rattle.hint_source.specs.declared.kind.Kind.{Kind}
use Rattle.frag_code.specs.Form.{is_exit, shape, IsPieceNear}
use Rattle.frag_code.specs.Evaluation.{Tally, step_by, step_on, step_naming, cell_after, Evaluates}
use Rattle.frag_code.specs.Emit.{assertion, instr_of, cells_of, code_cells, distance, code_from}
use Rattle.frag_code.proofs.Places.{state_is, instr_some, moved_twice, cell_here, word_here, cells_same, code_behind, code_here, shape_parts, shape_last, contains_behind, contains_first, code_cells-cons}
use Rattle.frag_code.proofs.Assertions.{assertion_near, asserts}

module _ (m : ℕ → Option ℕ) (field : IsMemory m) (a fp : ℕ) (jumps : Bool) (exits : ℕ → ℕ) (lo hi : ℕ) (high : hi ≤ 2 ^ 25) where
  -- what is known of the pieces that are left, of which the first has position i and lies at a place
  pub record Fits (ps : List Piece) (i at : ℕ) : Type 0 where
    pub shaped : IsTrue (shape jumps i ps)
    pub near : All IsPieceNear ps
    pub code : HasCode m at (code_from jumps exits i at ps)
    pub above : lo ≤ at
    pub below : at + code_cells jumps ps ≤ hi
    pub small : (x : ℕ) → Contains ps (piece.Exit x) → exits x ≤ 2 ^ 25
    pub falls : jumps ≡ false → (x : ℕ) → Contains ps (piece.Exit x) → exits x ≡ at + code_cells jumps ps

  -- the pieces behind the first one
  pub fits_behind : (p : Piece) (ps : List Piece) (i at : ℕ) → 0 < length ps → Fits (p ∷ ps) i at → Fits ps (i + 1) (at + cells_of jumps p)
  fits_behind p ps i at more fits =
      let all = code_cells-cons jumps p ps in
      let d = distance jumps exits i at p ps in
      record {
        shaped = rest_shaped ps more fits.shaped;
        near = All-tail IsPieceNear p ps fits.near;
        code = subst (λ n. HasCode m (at + n) (code_from jumps exits (i + 1) (at + cells_of jumps p) ps)) (cells_same jumps d p)
            (code_behind m at (instr_of jumps d p) (code_from jumps exits (i + 1) (at + cells_of jumps p) ps) fits.code);
        above = let here = fits.above in omega arith;
        below = let here = fits.below in omega (arith, all);
        small = λ x has. fits.small x (contains_behind p (piece.Exit x) ps has);
        falls = λ none x has. let there = fits.falls none x (contains_behind p (piece.Exit x) ps has) in omega (arith, all, there);
      }
    where
      rest_shaped : (ps : List Piece) → 0 < length ps → IsTrue (shape jumps i (p ∷ ps)) → IsTrue (shape jumps (i + 1) ps)
      rest_shaped [] more shaped = absurd (omega (arith, more))
      rest_shaped (q ∷ qs) more shaped = (shape_parts jumps i p q qs shaped).1

  -- a piece that is no Exit has others behind it
  pub not_last : (p : Piece) (ps : List Piece) (i at : ℕ) → is_exit p ≡ false → Fits (p ∷ ps) i at → 0 < length ps
  not_last p [] i at other fits = let last = shape_last jumps i p fits.shaped in absurd (false≢true (sym other ∙ last))
  not_last p (q ∷ qs) i at other fits = omega arith

  -- the state at the piece that comes after so many that are passed over
  abbrev pub at_piece : List Piece → ℕ → ℕ → Tally → State
  at_piece ps at skip t = state (at + code_cells jumps (take skip ps)) (sum a t.change) fp

  -- from here the pieces evaluate to an exit, at which the state is after so many steps
  pub record Ends (ps : List Piece) (i skip : ℕ) (t : Tally) (u : State) (n : ℕ) : Type 0 where
    pub branch : ℕ
    pub end : Tally
    pub named : Contains ps (piece.Exit branch)
    pub evaluates : Evaluates m a fp jumps ps i skip t branch end
    pub at_exit : u ≡ state (exits branch) (sum a end.change) fp
    pub counts : end.steps ≡ t.steps + n

  abbrev pub Outcome : List Piece → ℕ → ℕ → Tally → State → List State → State → Type 0
  Outcome ps i skip t s us z = Splits m lo hi s us z (Ends ps i skip t) ⊎ StaysInside lo hi s us z

  -- an outcome of the pieces behind the first one, on the same path
  outcome_behind : (p : Piece) (ps : List Piece) (i skip skip' : ℕ) (t t' : Tally) (s : State) (us : List State) (z : State)
      → t'.steps ≡ t.steps
      → ((k : ℕ) (end : Tally) → Evaluates m a fp jumps ps (i + 1) skip' t' k end → Evaluates m a fp jumps (p ∷ ps) i skip t k end)
      → Outcome ps (i + 1) skip' t' s us z → Outcome (p ∷ ps) i skip t s us z
  outcome_behind p ps i skip skip' t t' s us z same back (inr stays) = inr stays
  outcome_behind p ps i skip skip' t t' s us z same back (inl split) =
      inl (splits_map m lo hi s us z (Ends ps (i + 1) skip' t') (Ends (p ∷ ps) i skip t) (λ u n ends. record {
        branch = ends.branch;
        end = ends.end;
        named = contains_behind p (piece.Exit ends.branch) ps ends.named;
        evaluates = back ends.branch ends.end ends.evaluates;
        at_exit = ends.at_exit;
        counts = let here = ends.counts in omega arith;
      }) split)

  -- the same, a step before
  outcome_step : (p : Piece) (ps : List Piece) (i skip' : ℕ) (t t' : Tally) (s u : State) (us : List State) (z : State)
      → Step m s u → lo ≤ s.pc → s.pc < hi → t'.steps ≡ t.steps + 1
      → ((k : ℕ) (end : Tally) → Evaluates m a fp jumps ps (i + 1) skip' t' k end → Evaluates m a fp jumps (p ∷ ps) i 0 t k end)
      → Outcome ps (i + 1) skip' t' u us z → Outcome (p ∷ ps) i 0 t s (u ∷ us) z
  outcome_step p ps i skip' t t' s u us z step above below same back (inr stays) = inr (step_stays m lo hi s u us z above below stays)
  outcome_step p ps i skip' t t' s u us z step above below same back (inl split) =
      inl (step_splits m lo hi s u us z (Ends ps (i + 1) skip' t') (Ends (p ∷ ps) i 0 t) step above below (λ v n ends. record {
        branch = ends.branch;
        end = ends.end;
        named = contains_behind p (piece.Exit ends.branch) ps ends.named;
        evaluates = back ends.branch ends.end ends.evaluates;
        at_exit = ends.at_exit;
        counts = let here = ends.counts in omega arith;
      }) split)

  -- the state at the first of the pieces
  abbrev pub at_here : ℕ → Tally → State
  at_here at t = state at (sum a t.change) fp

  -- a step from the first of the pieces leads to one behind it, and the evaluation from there is one from here
  record Next (p : Piece) (ps : List Piece) (i at : ℕ) (t : Tally) (u : State) : Type 0 where
    pub skip : ℕ
    pub tally : Tally
    pub there : u ≡ at_piece ps (at + cells_of jumps p) skip tally
    pub within : skip < length ps
    pub counts : tally.steps ≡ t.steps + 1
    pub back : (k : ℕ) (end : Tally) → Evaluates m a fp jumps ps (i + 1) skip tally k end → Evaluates m a fp jumps (p ∷ ps) i 0 t k end

  -- the pieces behind the first one have outcomes
  abbrev Behind : Piece → List Piece → ℕ → ℕ → Type 0
  Behind p ps i at =
      (skip : ℕ) (t : Tally) (s : State) (us : List State) (z : State) → skip < length ps → s ≡ at_piece ps (at + cells_of jumps p) skip t → Path m s us z
      → Outcome ps (i + 1) skip t s us z

  -- a piece with code
  going : (p : Piece) (ps : List Piece) (i at : ℕ) (t : Tally) (us : List State) (z : State) → Fits (p ∷ ps) i at → 0 < cells_of jumps p
      → ((u : State) → Step m (at_here at t) u → Next p ps i at t u) → Behind p ps i at
      → Path m (at_here at t) us z → Outcome (p ∷ ps) i 0 t (at_here at t) us z
  going p ps i at t [] z fits some next behind path =
      let all = code_cells-cons jumps p ps in
      let lower = fits.above in
      let upper = fits.below in
      inr (record { inside = tt; above = subst (λ z. lo ≤ z.pc) path lower; below = subst (λ z. z.pc < hi) path (omega (arith, all)) })
  going p ps i at t (u ∷ us) z fits some next behind path =
      let all = code_cells-cons jumps p ps in
      let lower = fits.above in
      let upper = fits.below in
      let n = next u path.0 in
      outcome_step p ps i n.skip t n.tally (at_here at t) u us z path.0 lower (omega (arith, all)) n.counts n.back (behind n.skip n.tally u us z n.within n.there path.1)

  pub place_small : (p : Piece) (ps : List Piece) (i at : ℕ) → Fits (p ∷ ps) i at → at + cells_of jumps p ≤ 2 ^ 25
  place_small p ps i at fits = let upper = fits.below in let all = code_cells-cons jumps p ps in omega (arith, all)

  let_next : (e : CellExpr) (ps : List Piece) (i at : ℕ) (t : Tally) → Fits (piece.Let e ∷ ps) i at → (u : State) → Step m (at_here at t) u → Next (piece.Let e) ps i at t u
  unfolding Evaluates
  let_next e ps i at t fits u step =
      let s = at_here at t in
      let near = All-head IsPieceNear (piece.Let e) ps fits.near in
      let small = place_small (piece.Let e) ps i at fits in
      let i_near = assertion_near (ap_cell (pos 0)) e true (omega (arith, ints)) near in
      let does = executes m s (omega arith) (assertion (ap_cell (pos 0)) e true) u i_near fits.code.0 step in
      let says = asserts m field s (ap_cell (pos 0)) e true u does in
      record {
        skip = 0;
        tally = step_by 1 t;
        there = says.3 ∙ state_is _ _ _ _ _ _ (sym (add-zero _)) (moved_twice a t.change 1) refl;
        within = not_last (piece.Let e) ps i at refl fits;
        counts = refl;
        back = λ k end evaluates. (says.0, ap m (sym (moved_twice a t.change 0 ∙ ap (sum a) (add-zero t.change))) ∙ says.1, sym (word_here a fp t.change m e near) ∙ says.2, evaluates);
      }

  assert_next : (c : CellRef) (e : CellExpr) (ps : List Piece) (i at : ℕ) (t : Tally) → Fits (piece.Assert c e ∷ ps) i at → (u : State) → Step m (at_here at t) u → Next (piece.Assert c e) ps i at t u
  unfolding Evaluates
  assert_next c e ps i at t fits u step =
      let s = at_here at t in
      let near = All-head IsPieceNear (piece.Assert c e) ps fits.near in
      let small = place_small (piece.Assert c e) ps i at fits in
      let does = executes m s (omega arith) (assertion c e false) u (assertion_near c e false near.0 near.1) fits.code.0 step in
      let says = asserts m field s c e false u does in
      record {
        skip = 0;
        tally = step_on t;
        there = says.3 ∙ state_is _ _ _ _ _ _ (sym (add-zero _)) refl refl;
        within = not_last (piece.Assert c e) ps i at refl fits;
        counts = refl;
        back = λ k end evaluates. (says.0, ap m (sym (cell_here a fp t.change c.reg c.off near.0)) ∙ says.1, sym (word_here a fp t.change m e near.1) ∙ says.2, evaluates);
      }

  reserve_next : (n : ℕ) (ps : List Piece) (i at : ℕ) (t : Tally) → Fits (piece.Reserve n ∷ ps) i at → (u : State) → Step m (at_here at t) u → Next (piece.Reserve n) ps i at t u
  unfolding Evaluates
  reserve_next n ps i at t fits u step =
      let s = at_here at t in
      let small = place_small (piece.Reserve n) ps i at fits in
      let does = executes m s (omega arith) (instr.AddAp (res.Imm n)) u tt fits.code.0 step in
      let same : n ≡ does.0 = let is = does.1 in cc in
      record {
        skip = 0;
        tally = step_by n t;
        there = does.2 ∙ state_is _ _ _ _ _ _ (sym (add-zero _)) (ap (sum s.ap) (sym same) ∙ moved_twice a t.change n) refl;
        within = not_last (piece.Reserve n) ps i at refl fits;
        counts = refl;
        back = λ k end evaluates. evaluates;
      }

  range_next : (c : CellRef) (o : ℤ) (d : CellRef) (ps : List Piece) (i at : ℕ) (t : Tally) → Fits (piece.Range c o d ∷ ps) i at → (u : State) → Step m (at_here at t) u → Next (piece.Range c o d) ps i at t u
  unfolding Evaluates
  range_next c o d ps i at t fits u step =
      let s = at_here at t in
      let near = All-head IsPieceNear (piece.Range c o d) ps fits.near in
      let small = place_small (piece.Range c o d) ps i at fits in
      let does = executes m s (omega arith) (instr.AssertEq d (res.Double c o) false) u (near.2, (near.0, near.1)) fits.code.0 step in
      let parts = behind_parts m (m (cell_address s c)) o does.0 does.2 in
      record {
        skip = 0;
        tally = step_naming (moved parts.0 o) does.0 t;
        there = does.3 ∙ state_is _ _ _ _ _ _ (sym (add-zero _)) refl refl;
        within = not_last (piece.Range c o d) ps i at refl fits;
        counts = refl;
        back = λ k end evaluates. (
          parts.0,
          does.0,
          ap m (sym (cell_here a fp t.change c.reg c.off near.0)) ∙ parts.1,
          parts.2,
          ap m (sym (cell_here a fp t.change d.reg d.off near.2)) ∙ does.1,
          evaluates,
        );
      }

  -- where a jump from a piece to a later one leads, which has so many pieces between
  pub landing : (c : CellRef) (to skip : ℕ) (ps : List Piece) (i at : ℕ) → Fits (piece.IfNonZero c to ∷ ps) i at → sum at (2 + code_cells jumps (take skip ps)) ≡ at + 2 + code_cells jumps (take skip ps)
  landing c to skip ps i at fits =
      let upper = fits.below in
      let all = code_cells-cons jumps (piece.IfNonZero c to) ps in
      let within = sum_by-take-le (cells_of jumps) ps skip in
      omega arith

  pub jump_within : (c : CellRef) (to : ℕ) (ps : List Piece) (i at : ℕ) → Fits (piece.IfNonZero c to ∷ ps) i at → to - (i + 1) < length ps
  jump_within c to [] i at fits = absurd (omega (arith, not_last (piece.IfNonZero c to) [] i at refl fits))
  jump_within c to (q ∷ qs) i at fits =
      let placed = and_parts (nat_lt i to) (nat_le to (i + length (q ∷ qs))) ((shape_parts jumps i (piece.IfNonZero c to) q qs fits.shaped).0) in
      let later = ltb-true i to placed.0 in
      let inside = leb-true to (i + length (q ∷ qs)) placed.1 in
      omega arith

  jnz_next : (c : CellRef) (to : ℕ) (ps : List Piece) (i at : ℕ) (t : Tally) → Fits (piece.IfNonZero c to ∷ ps) i at → (u : State) → Step m (at_here at t) u → Next (piece.IfNonZero c to) ps i at t u
  unfolding Evaluates
  jnz_next c to ps i at t fits u step =
      let s = at_here at t in
      let d = 2 + code_cells jumps (take (to - (i + 1)) ps) in
      let near = All-head IsPieceNear (piece.IfNonZero c to) ps fits.near in
      let small = place_small (piece.IfNonZero c to) ps i at fits in
      let does = executes m s (omega arith) (instr.Jnz c (operand.Imm d) false) u (near, tt) fits.code.0 step in
      let same : d ≡ does.1 = let is = does.3 in cc in
      by_word does.0 (ap m (sym (cell_here a fp t.change c.reg c.off near)) ∙ does.2) (subst (λ n. u ≡ state (if does.0 == 0 then at + 2 else sum at n) (sum a t.change) fp) (sym same) does.4)
    where
      by_word : (w : ℕ) → m (cell_after a fp t.change c) ≡ Some w
          → u ≡ state (if w == 0 then at + 2 else sum at (2 + code_cells jumps (take (to - (i + 1)) ps))) (sum a t.change) fp
          → Next (piece.IfNonZero c to) ps i at t u
      by_word zero is next = record {
        skip = 0;
        tally = step_on t;
        there = next ∙ state_is _ _ _ _ _ _ (sym (add-zero _)) refl refl;
        within = not_last (piece.IfNonZero c to) ps i at refl fits;
        counts = refl;
        back = λ k end evaluates. (zero, is, inl (refl, evaluates));
      }
      by_word (suc w) is next = record {
        skip = to - (i + 1);
        tally = step_on t;
        there = next ∙ state_is _ _ _ _ _ _ (cond-false (suc w == 0) (at + 2) (sum at (2 + code_cells jumps (take (to - (i + 1)) ps))) (ne_eqb (suc w) 0 (λ none. omega arith)) ∙ landing c to (to - (i + 1)) ps i at fits) refl refl;
        within = jump_within c to ps i at fits;
        counts = refl;
        back = λ k end evaluates. (suc w, is, inr (λ none. absurd (omega arith), evaluates));
      }

  -- a Hint has no code
  hint_follows : (c : CellRef) (k : Kind CellExpr) (ps : List Piece) (i at : ℕ) (t : Tally) (us : List State) (z : State) → Fits (piece.Hint c k ∷ ps) i at
      → Behind (piece.Hint c k) ps i at → Path m (at_here at t) us z → Outcome (piece.Hint c k ∷ ps) i 0 t (at_here at t) us z
  unfolding Evaluates
  hint_follows c k ps i at t us z fits behind path =
      outcome_behind (piece.Hint c k) ps i 0 0 t t (at_here at t) us z refl (λ x end evaluates. evaluates)
      (behind 0 t (at_here at t) us z (not_last (piece.Hint c k) ps i at refl fits) (state_is _ _ _ _ _ _ (sym (add-zero (at + 0) ∙ add-zero at)) refl refl) path)

  -- an Exit with code is a jump to the branch's cell
  exit_jumps : (x : ℕ) (ps : List Piece) (i at : ℕ) (t : Tally) (us : List State) (z : State) → jumps ≡ true → Fits (piece.Exit x ∷ ps) i at
      → Path m (at_here at t) us z → Outcome (piece.Exit x ∷ ps) i 0 t (at_here at t) us z
  unfolding Evaluates
  exit_jumps x ps i at t [] z is fits path =
      let all = code_cells-cons jumps (piece.Exit x) ps in
      let two : cells_of jumps (piece.Exit x) ≡ 2 = ap (λ b. cells_of b (piece.Exit x)) is in
      let lower = fits.above in
      let upper = fits.below in
      inr (record { inside = tt; above = subst (λ z. lo ≤ z.pc) path lower; below = subst (λ z. z.pc < hi) path (omega (arith, all)) })
  exit_jumps x ps i at t (u ∷ us) z is fits path =
      let s = at_here at t in
      let d = difference (exits x) at in
      let all = code_cells-cons jumps (piece.Exit x) ps in
      let two : cells_of jumps (piece.Exit x) ≡ 2 = ap (λ b. cells_of b (piece.Exit x)) is in
      let lower = fits.above in
      let upper = fits.below in
      let small = place_small (piece.Exit x) ps i at fits in
      let branch_small = fits.small x (contains_first (piece.Exit x) ps) in
      let has = code_here m at (instr_of jumps d (piece.Exit x)) (instr.Jump true (res.Imm d) false) (code_from jumps exits (i + 1) (at + cells_of jumps (piece.Exit x)) ps) (ap (λ b. instr_of b d (piece.Exit x)) is) fits.code in
      let does = executes m s (omega arith) (instr.Jump true (res.Imm d) false) u tt has path.0 in
      let same : d ≡ does.0 = let n = does.1 in cc in
      let leads : sum at does.0 ≡ exits x = ap (sum at) (sym same) ∙ omega arith in
      inl (record {
        first = u ∷ [];
        rest = us;
        mid = u;
        joins = refl;
        path = (path.0, refl);
        inside = (lower, omega (arith, all), tt);
        onward = path.1;
        holds = record {
          branch = x;
          end = step_on t;
          named = contains_first (piece.Exit x) ps;
          evaluates = (refl, sym (ap (λ b. if b then step_on t else t) is));
          at_exit = does.2 ∙ state_is _ _ _ _ _ _ leads refl refl;
          counts = refl;
        };
      })

  -- without an IfNonZero the Exit is the last piece and has no code
  exit_falls : (x : ℕ) (ps : List Piece) (i at : ℕ) (t : Tally) (us : List State) (z : State) → jumps ≡ false → Fits (piece.Exit x ∷ ps) i at
      → Path m (at_here at t) us z → Outcome (piece.Exit x ∷ ps) i 0 t (at_here at t) us z
  unfolding Evaluates
  exit_falls x [] i at t us z is fits path =
      let none : code_cells jumps (piece.Exit x ∷ []) ≡ 0 = ap (λ b. code_cells b (piece.Exit x ∷ [])) is in
      let there = fits.falls is x (contains_first (piece.Exit x) []) in
      inl (splits_here m lo hi (at_here at t) us z (Ends (piece.Exit x ∷ []) i 0 t) path (record {
        branch = x;
        end = t;
        named = contains_first (piece.Exit x) [];
        evaluates = (refl, sym (ap (λ b. if b then step_on t else t) is));
        at_exit = state_is _ _ _ _ _ _ (omega (arith, none, there)) refl refl;
        counts = omega arith;
      }))
  exit_falls x (q ∷ qs) i at t us z is fits path = let early = (shape_parts jumps i (piece.Exit x) q qs fits.shaped).0 in absurd (false≢true (sym is ∙ early))

  exit_follows : (x : ℕ) (ps : List Piece) (i at : ℕ) (t : Tally) (us : List State) (z : State) → Fits (piece.Exit x ∷ ps) i at
      → Path m (at_here at t) us z → Outcome (piece.Exit x ∷ ps) i 0 t (at_here at t) us z
  exit_follows x ps i at t us z fits path =
      elim (cases_Bool jumps) [
        | inl is ↦ exit_jumps x ps i at t us z is fits path
        | inr is ↦ exit_falls x ps i at t us z is fits path
      ]

  -- the first of the pieces, from the outcomes of those behind it
  piece_follows : (p : Piece) (ps : List Piece) (i at : ℕ) (t : Tally) (us : List State) (z : State) → Fits (p ∷ ps) i at
      → (0 < length ps → Behind p ps i at) → Path m (at_here at t) us z → Outcome (p ∷ ps) i 0 t (at_here at t) us z
  piece_follows (piece.Let e) ps i at t us z fits behind path =
      going (piece.Let e) ps i at t us z fits (instr_some (assertion (ap_cell (pos 0)) e true)) (let_next e ps i at t fits) (behind (not_last (piece.Let e) ps i at refl fits)) path
  piece_follows (piece.Reserve n) ps i at t us z fits behind path =
      going (piece.Reserve n) ps i at t us z fits (omega arith) (reserve_next n ps i at t fits) (behind (not_last (piece.Reserve n) ps i at refl fits)) path
  piece_follows (piece.Hint c k) ps i at t us z fits behind path = hint_follows c k ps i at t us z fits (behind (not_last (piece.Hint c k) ps i at refl fits)) path
  piece_follows (piece.Assert c e) ps i at t us z fits behind path =
      going (piece.Assert c e) ps i at t us z fits (instr_some (assertion c e false)) (assert_next c e ps i at t fits) (behind (not_last (piece.Assert c e) ps i at refl fits)) path
  piece_follows (piece.Range c o d) ps i at t us z fits behind path =
      going (piece.Range c o d) ps i at t us z fits (omega arith) (range_next c o d ps i at t fits) (behind (not_last (piece.Range c o d) ps i at refl fits)) path
  piece_follows (piece.IfNonZero c to) ps i at t us z fits behind path =
      going (piece.IfNonZero c to) ps i at t us z fits (omega arith) (jnz_next c to ps i at t fits) (behind (not_last (piece.IfNonZero c to) ps i at refl fits)) path
  piece_follows (piece.Exit x) ps i at t us z fits behind path = exit_follows x ps i at t us z fits path

  pub follows : (ps : List Piece) (i at skip : ℕ) (t : Tally) (s : State) (us : List State) (z : State) → Fits ps i at → skip < length ps → s ≡ at_piece ps at skip t → Path m s us z → Outcome ps i skip t s us z
  unfolding Evaluates
  follows [] i at skip t s us z fits within is path = absurd (omega (arith, within))
  follows (p ∷ ps) i at zero t s us z fits within is path =
      let here : s ≡ at_here at t = is ∙ state_is _ _ _ _ _ _ (add-zero at) refl refl in
      subst (λ s. Outcome (p ∷ ps) i 0 t s us z) (sym here)
      (piece_follows p ps i at t us z fits
      (λ more skip u s us z within there path. follows ps (i + 1) (at + cells_of jumps p) skip u s us z (fits_behind p ps i at more fits) within there path)
      (subst (λ s. Path m s us z) here path))
  follows (p ∷ ps) i at (suc skip) t s us z fits within is path =
      let more : 0 < length ps = omega (arith, within) in
      let all = code_cells-cons jumps p (take skip ps) in
      let there : s ≡ at_piece ps (at + cells_of jumps p) skip t = is ∙ state_is _ _ _ _ _ _ (omega (arith, all)) refl refl in
      outcome_behind p ps i (suc skip) skip t t s us z refl (λ k end evaluates. evaluates)
      (follows ps (i + 1) (at + cells_of jumps p) skip t s us z (fits_behind p ps i at more fits) (omega (arith, within)) there path)
