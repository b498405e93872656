-- The code of a fragment means the fragment.
use Rattle.std.proofs.Common.{◌≡◌, ◌⊎◌, Bool, ℕ, ◌+◌, ◌<◌, ◌≤◌, List, [], ◌∷◌, ◌++◌, length, Option, Some, None, IsSome, IsTrue, refl, sym, ap, subst, ◌∙◌, inl, inr, add-zero, append-nil, arith}
use Rattle.std.proofs.lemmas.Bool.{false≢true}
use Rattle.felt64.specs.Field.{sum, difference}
use Rattle.ro_machine.specs.declared.machine.State.{State}
use Rattle.casm_steps.specs.Executes.{state}
use Rattle.casm_steps.specs.Path.{Path, Inside, Splits, StaysInside, Arrives}
use Rattle.casm_steps.proofs.Paths.{splits_map}
use Rattle.frag_code.specs.declared.piece.Piece.{Piece}
use Rattle.frag_code.specs.Form.{has_jump, shape}
use Rattle.frag_code.specs.Evaluation.{Tally, nothing, Evaluation}
use Rattle.frag_code.specs.Emit.{code_of, cells_of_code}
use Rattle.frag_code.specs.Meaning.{Names, IsPut, AreApart, Exits, IsRunnable, StaysOrExits, StretchesEvaluate, EvaluationsStretch, MeansFragment}
use Rattle.frag_code.proofs.Places.{state_is}
use Rattle.frag_code.proofs.Follows.{Fits, Ends, follows}
use Rattle.frag_code.proofs.Leads.{leads}

-- a path that goes on behind a stretch inside has a state inside there
inside_behind : (m : ℕ → Option ℕ) (lo hi : ℕ) (s mid v : State) (us vs : List State) → Path m s us mid → Inside lo hi s (us ++ v ∷ vs) → (lo ≤ mid.pc) × (mid.pc < hi)
inside_behind m lo hi s mid v [] vs path inside = subst (λ s. (lo ≤ s.pc) × (s.pc < hi)) path (inside.0, inside.1)
inside_behind m lo hi s mid v (u ∷ us) vs path inside = inside_behind m lo hi u mid v us vs path.1 inside.2

some_piece : (jumps : Bool) (f : List Piece) → IsTrue (shape jumps 0 f) → 0 < length f
some_piece jumps [] shaped = absurd (false≢true shaped)
some_piece jumps (p ∷ ps) shaped = omega arith

module _ (f : List Piece) (at : ℕ) (exits : ℕ → ℕ) (put : IsPut f at exits) where
  abbrev end_of_code : ℕ
  end_of_code = at + cells_of_code f

  more : 0 < length f
  more = some_piece (has_jump f) f put.well_formed.shaped

  module _ (m : ℕ → Option ℕ) (a fp : ℕ) (runs : IsRunnable m at (code_of f at exits) a) where
    whole : Fits m runs.in_field a fp (has_jump f) exits at end_of_code put.code_fits f 0 at
    whole = record {
      shaped = put.well_formed.shaped;
      near = put.well_formed.near;
      code = runs.has_code;
      above = omega arith;
      below = omega arith;
      small = put.exits_fit;
      falls = put.falls_through;
    }

    begin : state at a fp ≡ state (at + 0) (sum a 0) fp
    begin = let below = runs.ap_below in state_is _ _ _ _ _ _ (sym (add-zero at)) (omega arith) refl

    goes : (us : List State) (z : State) → Path m (state at a fp) us z
        → Splits m at end_of_code (state at a fp) us z (Exits f m a fp exits) ⊎ StaysInside at end_of_code (state at a fp) us z
    goes us z path =
        elim (follows m runs.in_field a fp (has_jump f) exits at end_of_code put.code_fits f 0 at 0 nothing (state at a fp) us z whole more begin path) [
          | inl split ↦ inl (splits_map m at end_of_code (state at a fp) us z (Ends m runs.in_field a fp (has_jump f) exits at end_of_code put.code_fits f 0 0 nothing) (Exits f m a fp exits)
              (λ u n ends. record {
                branch = ends.branch;
                end = ends.end;
                named = ends.named;
                evaluation = ends.evaluates;
                at_exit = ends.at_exit;
                counts = let counts = ends.counts in omega arith;
              }) split)
          | inr stays ↦ inr stays
        ]

    module _ (us : List State) (z : State) (x : ℕ) (apart : AreApart f at exits) (path : Path m (state at a fp) us z) (inside : Inside at end_of_code (state at a fp) us)
        (named : Names f x) (at_exit : z.pc ≡ exits x) where
      abbrev Evaluated : Type 0
      Evaluated = (end : Tally) × Evaluation f m a fp x end × (z ≡ state (exits x) (sum a end.change) fp) × (end.steps ≡ length us)

      is_outside : (y : ℕ) → Names f y → at ≤ exits y → exits y < end_of_code → ⊥
      is_outside y has above below = elim (apart.outside y has) [
        | inl before ↦ omega arith
        | inr behind ↦ omega arith
      ]

      ended : (first rest : List State) (mid : State) → us ≡ first ++ rest → Path m (state at a fp) first mid → Path m mid rest z → Exits f m a fp exits mid (length first) → Evaluated
      ended first [] mid joins path onward ends =
          let same_exit : exits ends.branch ≡ exits x = sym (ap (λ s. s.pc) ends.at_exit) ∙ ap (λ s. s.pc) onward ∙ at_exit in
          let branch : ends.branch ≡ x = apart.differ ends.branch x ends.named named same_exit in
          let counted : length us ≡ length first = ap length (joins ∙ append-nil first) in (
            ends.end,
            subst (λ k. Evaluation f m a fp k ends.end) branch ends.evaluation,
            sym onward ∙ ends.at_exit ∙ state_is _ _ _ _ _ _ same_exit refl refl,
            ends.counts ∙ sym counted,
          )
      ended first (v ∷ vs) mid joins path onward ends =
          let within = inside_behind m at end_of_code (state at a fp) mid v first vs path (subst (Inside at end_of_code (state at a fp)) joins inside) in
          let pc = ap (λ s. s.pc) ends.at_exit in
          absurd (is_outside ends.branch ends.named (omega (arith, pc, within.0)) (omega (arith, pc, within.1)))

      evaluated : Evaluated
      evaluated = elim (goes us z path) [
        | inl split ↦ ended split.first split.rest split.mid split.joins split.path split.onward split.holds
        | inr stays ↦ absurd (is_outside x named (subst (λ n. at ≤ n) at_exit stays.above) (subst (λ n. n < end_of_code) at_exit stays.below))
      ]

    stretched : (u k : ℕ) (end : Tally) → m (difference fp 1) ≡ Some u → Evaluation f m a fp k end
        → Arrives m at end_of_code (state at a fp) (λ v n. (v ≡ state (exits k) (sum a end.change) fp) × (end.steps ≡ n))
    stretched u k end frame evaluation =
        let there = leads m runs.in_field a fp (has_jump f) exits at end_of_code put.code_fits u frame f 0 at 0 nothing k end whole more evaluation in
        subst (λ s. Arrives m at end_of_code s (λ v n. (v ≡ state (exits k) (sum a end.change) fp) × (end.steps ≡ n))) (sym begin)
        (record { states = there.states; last = there.last; path = there.path; inside = there.inside; holds = (there.holds.0, let counts = there.holds.1 in omega arith) })

  pub stays_or_exits : StaysOrExits f at exits (code_of f at exits)
  stays_or_exits m a fp us z runs path = goes m a fp runs us z path

  pub stretches_evaluate : StretchesEvaluate f at exits (code_of f at exits)
  stretches_evaluate m a fp us z x runs apart path inside named at_exit = evaluated m a fp runs us z x apart path inside named at_exit

  pub evaluations_stretch : EvaluationsStretch f at exits (code_of f at exits)
  evaluations_stretch m a fp k end runs frame evaluation =
      by_word (m (difference fp 1)) refl frame
    where
      by_word : (o : Option ℕ) → m (difference fp 1) ≡ o → IsSome o → Arrives m at end_of_code (state at a fp) (λ v n. (v ≡ state (exits k) (sum a end.change) fp) × (end.steps ≡ n))
      by_word None is some = absurd (cc)
      by_word (Some u) is some = stretched m a fp runs u k end is evaluation

  pub means : MeansFragment f at exits (code_of f at exits)
  means = record { stays = stays_or_exits; stretches = stretches_evaluate; evaluations = evaluations_stretch }
