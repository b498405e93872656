-- Paths and stretches: how they join and split.
use Rattle.std.proofs.Common.{◌≡◌, ◌⊎◌, ℕ, suc, ◌+◌, ◌<◌, ◌≤◌, List, [], ◌∷◌, ◌++◌, length, Option, refl, sym, ap, subst, ◌∙◌, inl, inr, append_assoc, length-append, arith}
use Rattle.ro_machine.specs.declared.machine.State.{State}
use Rattle.ro_machine.specs.Step.{Step}
use Rattle.ro_machine.specs.Extends.{Extends}
use Rattle.ro_machine.proofs.ExtendLaws.{step_extends}
use Rattle.casm_steps.specs.Path.{Path, Inside, Splits, StaysInside, Arrives}

pub path_append : (m : ℕ → Option ℕ) (s t u : State) (us vs : List State) → Path m s us t → Path m t vs u → Path m s (us ++ vs) u
path_append m s t u [] vs first second = subst (λ s. Path m s vs u) (sym first) second
path_append m s t u (v ∷ us) vs first second = (first.0, path_append m v t u us vs first.1 second)

pub inside_append : (m : ℕ → Option ℕ) (lo hi : ℕ) (s t : State) (us vs : List State) → Path m s us t → Inside lo hi s us → Inside lo hi t vs → Inside lo hi s (us ++ vs)
inside_append m lo hi s t [] vs path first second = subst (λ s. Inside lo hi s vs) (sym path) second
inside_append m lo hi s t (v ∷ us) vs path first second = (first.0, first.1, inside_append m lo hi v t us vs path.1 first.2 second)

-- a stretch is one of a wider interval too
pub inside_wider : (lo hi low high : ℕ) (s : State) (us : List State) → low ≤ lo → hi ≤ high → Inside lo hi s us → Inside low high s us
inside_wider lo hi low high s [] at_lo at_hi inside = tt
inside_wider lo hi low high s (u ∷ us) at_lo at_hi inside = (omega (arith, inside.0), omega (arith, inside.1), inside_wider lo hi low high u us at_lo at_hi inside.2)

-- a path stays one as cells are added
pub path_extends : (m more : ℕ → Option ℕ) (s t : State) (us : List State) → Extends m more → Path m s us t → Path more s us t
path_extends m more s t [] extends path = path
path_extends m more s t (u ∷ us) extends path = (step_extends m more s u extends path.0, path_extends m more u t us extends path.1)

module _ (m : ℕ → Option ℕ) (lo hi : ℕ) where
  -- what holds at the split may be weakened
  pub splits_map : (s : State) (us : List State) (z : State) (Q R : State → ℕ → Type 0) → ((u : State) (n : ℕ) → Q u n → R u n) → Splits m lo hi s us z Q → Splits m lo hi s us z R
  splits_map s us z Q R weaker split = record {
    first = split.first;
    rest = split.rest;
    mid = split.mid;
    joins = split.joins;
    path = split.path;
    inside = split.inside;
    onward = split.onward;
    holds = weaker split.mid (length split.first) split.holds;
  }

  -- a path splits at once
  pub splits_here : (s : State) (us : List State) (z : State) (Q : State → ℕ → Type 0) → Path m s us z → Q s 0 → Splits m lo hi s us z Q
  splits_here s us z Q path holds = record {
    first = [];
    rest = us;
    mid = s;
    joins = refl;
    path = refl;
    inside = tt;
    onward = path;
    holds = holds;
  }

  -- a step more in front of a split
  pub step_splits : (s u : State) (us : List State) (z : State) (Q R : State → ℕ → Type 0) → Step m s u → lo ≤ s.pc → s.pc < hi
      → ((v : State) (n : ℕ) → Q v n → R v (suc n)) → Splits m lo hi u us z Q → Splits m lo hi s (u ∷ us) z R
  step_splits s u us z Q R step above below onward split = record {
    first = u ∷ split.first;
    rest = split.rest;
    mid = split.mid;
    joins = ap (λ us. u ∷ us) split.joins;
    path = (step, split.path);
    inside = (above, below, split.inside);
    onward = split.onward;
    holds = onward split.mid (length split.first) split.holds;
  }

  pub step_stays : (s u : State) (us : List State) (z : State) → lo ≤ s.pc → s.pc < hi → StaysInside lo hi u us z → StaysInside lo hi s (u ∷ us) z
  step_stays s u us z above below stays = record { inside = (above, below, stays.inside); above = stays.above; below = stays.below }

  -- the path behind a split splits again
  split_again : (s : State) (us : List State) (z : State) (Q R : State → ℕ → Type 0) (split : Splits m lo hi s us z Q)
      → Splits m lo hi split.mid split.rest z (λ v k. R v (length split.first + k)) → Splits m lo hi s us z R
  split_again s us z Q R split second = record {
    first = split.first ++ second.first;
    rest = second.rest;
    mid = second.mid;
    joins = split.joins ∙ ap (λ us. split.first ++ us) second.joins ∙ sym (append_assoc split.first second.first second.rest);
    path = path_append m s split.mid second.mid split.first second.first split.path second.path;
    inside = inside_append m lo hi s split.mid split.first second.first split.path split.inside second.inside;
    onward = second.onward;
    holds = subst (R second.mid) (sym (length-append split.first second.first)) second.holds;
  }

  -- the path behind a split stays inside, and so the whole path does
  split_stays : (s : State) (us : List State) (z : State) (Q : State → ℕ → Type 0) (split : Splits m lo hi s us z Q)
      → StaysInside lo hi split.mid split.rest z → StaysInside lo hi s us z
  split_stays s us z Q split stays = record {
    inside = subst (Inside lo hi s) (sym split.joins) (inside_append m lo hi s split.mid split.first split.rest split.path split.inside stays.inside);
    above = stays.above;
    below = stays.below;
  }

  split_counts : (s : State) (us : List State) (z : State) (Q : State → ℕ → Type 0) (split : Splits m lo hi s us z Q) → length split.first + length split.rest ≡ length us
  split_counts s us z Q split = sym (ap length split.joins ∙ length-append split.first split.rest)

  -- a path that splits, and that splits again behind its first stretch, splits behind both
  pub then_splits : (s : State) (us : List State) (z : State) (Q R : State → ℕ → Type 0)
      → ((u : State) (n : ℕ) (rest : List State) → Q u n → n + length rest ≡ length us → Path m u rest z → Splits m lo hi u rest z (λ v k. R v (n + k)))
      → Splits m lo hi s us z Q → Splits m lo hi s us z R
  then_splits s us z Q R goes_on split =
      split_again s us z Q R split (goes_on split.mid (length split.first) split.rest split.holds (split_counts s us z Q split) split.onward)

  -- the same where the path may also stay inside to its end
  pub then_splits_or_stays : (s : State) (us : List State) (z : State) (Q R : State → ℕ → Type 0)
      → ((u : State) (n : ℕ) (rest : List State) → Q u n → n + length rest ≡ length us → Path m u rest z → Splits m lo hi u rest z (λ v k. R v (n + k)) ⊎ StaysInside lo hi u rest z)
      → Splits m lo hi s us z Q ⊎ StaysInside lo hi s us z → Splits m lo hi s us z R ⊎ StaysInside lo hi s us z
  then_splits_or_stays s us z Q R goes_on (inr stays) = inr stays
  then_splits_or_stays s us z Q R goes_on (inl split) =
      elim (goes_on split.mid (length split.first) split.rest split.holds (split_counts s us z Q split) split.onward) [
        | inl second ↦ inl (split_again s us z Q R split second)
        | inr stays ↦ inr (split_stays s us z Q split stays)
      ]

  -- a step more in front of a stretch
  pub step_arrives : (s u : State) (Q R : State → ℕ → Type 0) → Step m s u → lo ≤ s.pc → s.pc < hi
      → ((v : State) (n : ℕ) → Q v n → R v (suc n)) → Arrives m lo hi u Q → Arrives m lo hi s R
  step_arrives s u Q R step above below onward there = record {
    states = u ∷ there.states;
    last = there.last;
    path = (step, there.path);
    inside = (above, below, there.inside);
    holds = onward there.last (length there.states) there.holds;
  }

  pub arrives_here : (s : State) (Q : State → ℕ → Type 0) → Q s 0 → Arrives m lo hi s Q
  arrives_here s Q holds = record { states = []; last = s; path = refl; inside = tt; holds = holds }

  -- a stretch that arrives, and that goes on from there, arrives behind both
  pub then_arrives : (s : State) (Q R : State → ℕ → Type 0)
      → ((u : State) (n : ℕ) → Q u n → Arrives m lo hi u (λ v k. R v (n + k)))
      → Arrives m lo hi s Q → Arrives m lo hi s R
  then_arrives s Q R goes_on there =
      let second = goes_on there.last (length there.states) there.holds in
      record {
        states = there.states ++ second.states;
        last = second.last;
        path = path_append m s there.last second.last there.states second.states there.path second.path;
        inside = inside_append m lo hi s there.last there.states second.states there.path there.inside second.inside;
        holds = subst (R second.last) (sym (length-append there.states second.states)) second.holds;
      }
