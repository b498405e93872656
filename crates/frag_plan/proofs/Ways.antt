-- Ways through a plan: what is said of their lines may be weakened and joined, and there is one at most.
use Rattle.std.proofs.Common.{◌≡◌, ℕ, Bool, inl, inr, sym, ◌∙◌}
use Rattle.frag_code.specs.Evaluation.{Tally, step_on}
use Rattle.cell_terms.specs.declared.term.Slot.{Slot}
use Rattle.frag_plan.specs.Plan.{Line, Plan, line, test, exit}
use Rattle.frag_plan.specs.Scene.{Scene, after, Along}

module _ (c : Scene) (jumps : Bool) (F G : ℕ → Line → Type 0) (S T : Slot → Type 0) where
  -- what holds of each line may be weakened
  pub along_map : ((d : ℕ) (a : Line) → F d a → G d a) → ((n : Slot) → S n → T n) → (p : Plan) (t : Tally) (k : ℕ) (end : Tally) → Along c jumps F S p t k end → Along c jumps G T p t k end
  along_map lines tests (line a p) t k end (here, way) = (lines t.change a here, along_map lines tests p (after c a t) k end way)
  along_map lines tests (test n p q) t k end (here, inl way) = (tests n here, inl (way.0, along_map lines tests p (step_on t) k end way.1))
  along_map lines tests (test n p q) t k end (here, inr way) = (tests n here, inr (way.0, along_map lines tests q (step_on t) k end way.1))
  along_map lines tests (exit j) t k end way = way

  -- two ways of one scene are one way, of which both hold
  pub along_both : (p : Plan) (t : Tally) (k l : ℕ) (end last : Tally) → Along c jumps F S p t k end → Along c jumps G T p t l last
      → (k ≡ l) × (end ≡ last) × Along c jumps (λ d a. F d a × G d a) (λ n. S n × T n) p t k end
  along_both (line a p) t k l end last (here, way) (there, other) =
      let rest = along_both p (after c a t) k l end last way other in
      (rest.0, rest.1, ((here, there), rest.2))
  along_both (test n p q) t k l end last (here, inl way) (there, inl other) =
      let rest = along_both p (step_on t) k l end last way.1 other.1 in
      (rest.0, rest.1, ((here, there), inl (way.0, rest.2)))
  along_both (test n p q) t k l end last (here, inl way) (there, inr other) = absurd (other.0 way.0)
  along_both (test n p q) t k l end last (here, inr way) (there, inl other) = absurd (way.0 other.0)
  along_both (test n p q) t k l end last (here, inr way) (there, inr other) =
      let rest = along_both q (step_on t) k l end last way.1 other.1 in
      (rest.0, rest.1, ((here, there), inr (way.0, rest.2)))
  along_both (exit j) t k l end last (branch, ends) (branch', ends') = (branch ∙ sym branch', ends ∙ sym ends', (branch, ends))
