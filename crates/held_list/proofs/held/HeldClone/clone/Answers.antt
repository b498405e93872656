use Rattle.std.proofs.Common.{◌≡◌, ℕ, ◌+◌, [], ◌∷◌, sym, subst}
use Rattle.std.specs.List.{AllZip}
use Rattle.held_list.specs.Held.{Held, RisesFrom, Each}
use Rattle.held_list.proofs.held.HeldClone.clone.Goals as goal

each : {A : Type 0} (R : A → A → Type 0) (xs ys : Held A) → AllZip (λ x y. (y.0 ≡ x.0) × R x.1 y.1) xs ys → Each R xs ys
each R [] [] all = tt
each R [] (y ∷ ys) all = all
each R (x ∷ xs) [] all = all
each R (x ∷ xs) (y ∷ ys) all = (sym all.0.0, all.0.1, each R xs ys all.1)

rising : {A : Type 0} (R : A → A → Type 0) (xs ys : Held A) (least : ℕ) → Each R xs ys → RisesFrom least xs → RisesFrom least ys
rising R [] [] least alike rises = tt
rising R [] (y ∷ ys) least alike rises = absurd alike
rising R (x ∷ xs) [] least alike rises = absurd alike
rising R (x ∷ xs) (y ∷ ys) least alike rises = rw (← alike.0) (rises.0, rising R xs ys (x.0 + 1) alike.2 rises.1)

pub invariant_of-result : goal.invariant_of-result
invariant_of-result g c = rising g.A.Clone.is_clone _ _ 0 (each g.A.Clone.is_clone _ _ c.in_ok-clone.ensures.cases.0) c.self.invariant

pub returns : goal.returns
returns g c = record { cases = subst (λ h. Each g.A.Clone.is_clone h c.in_ok-clone.field-0.items) c.self.view_is (each g.A.Clone.is_clone _ _ c.in_ok-clone.ensures.cases.0) }
