-- What arrives at a statement, and what the others keep.
use Rattle.std.proofs.Common.{◌≡◌, ℕ, zero, suc, ◌<◌, List, [], ◌∷◌, length, set, Option, Some, None, Result, Ok, Err, refl, sym, ap, ◌∙◌, arith, inl, inr, ◌⊎◌}
use Rattle.std.specs.List.{slice_get}
use Rattle.std.proofs.lemmas.Bool.{cases_eq}
use Rattle.std.proofs.lemmas.Bool.Decides.{nat_tests}
use Rattle.std.proofs.lemmas.Option.{none-some}
use Rattle.statement_walk.specs.Rules.{Rules, Lawful}
use Rattle.statement_walk.specs.Walk.{Seen, unseen, waiting, done, Trace, given, held_by, unless, meet, arrive_at, arrive}

pub err-ok : {A F : Type 0} (x : F) (a : A) → Err x ≡ Ok a → ⊥
err-ok x a is = cc

pub same_Ok : {A F : Type 0} (a b : A) → ◌≡◌ {A = Result A F} (Ok a) (Ok b) → a ≡ b
same_Ok a b is = cc

-- a list with one item written

pub slice_get-set_same : {A : Type 0} (xs : List A) (t : ℕ) (x y : A) → slice_get xs t ≡ Some x → slice_get (set xs t y) t ≡ Some y
slice_get-set_same [] t x y is = absurd (none-some x is)
slice_get-set_same (z ∷ zs) zero x y is = refl
slice_get-set_same (z ∷ zs) (suc t) x y is = slice_get-set_same zs t x y is

pub slice_get-set_other : {A : Type 0} (xs : List A) (t u : ℕ) (y : A) → (u ≡ t → ⊥) → slice_get (set xs t y) u ≡ slice_get xs u
slice_get-set_other [] t u y other = refl
slice_get-set_other (z ∷ zs) zero zero y other = absurd (other refl)
slice_get-set_other (z ∷ zs) zero (suc u) y other = refl
slice_get-set_other (z ∷ zs) (suc t) zero y other = refl
slice_get-set_other (z ∷ zs) (suc t) (suc u) y other = slice_get-set_other zs t u y (λ same. other (ap suc same))

pub inside : {A : Type 0} (xs : List A) (t : ℕ) → t < length xs → (y : A) × (slice_get xs t ≡ Some y)
inside [] t lt = absurd (omega arith)
inside (y ∷ ys) zero lt = (y, refl)
inside (y ∷ ys) (suc t) lt = inside ys t (omega arith)

-- one branch

unless_ok : {A F : Type 0} (o : Option F) (a b : A) → unless o a ≡ Ok b → (o ≡ None) × (a ≡ b)
unless_ok None a b is = (refl, same_Ok a b is)
unless_ok (Some x) a b is = absurd (err-ok x b is)

meet_ok : {E F : Type 0} (r : Rules E F) → Lawful r → (f s : ℕ) (e : E) (g : ℕ) (had : E) (u v : Trace E) → meet r f s e g had u ≡ Ok v → (g ≡ f) × (e ≡ had) × (u ≡ v)
meet_ok r lawful f s e g had u v is =
    elim (cases_eq g f) [
      | inl same ↦
          let here : meet r f s e g had u ≡ unless (r.clash s e had) u = grind (arith, nat_tests) in
          let parts = unless_ok (r.clash s e had) u v (sym here ∙ is) in
          (same, (lawful.clashes s e had).0 parts.0, parts.1)
      | inr other ↦
          let here : meet r f s e g had u ≡ Err (r.shared s) = grind (arith, nat_tests) in
          absurd (err-ok (r.shared s) v (sym here ∙ is))
    ]

-- The target was not seen and waits now, or it has the same already.
abbrev pub Arrives : {E : Type 0} → ℕ → ℕ → E → Trace E → Trace E → Type 0
Arrives f t e u v = ((slice_get u t ≡ Some unseen) × (v ≡ set u t (waiting f e))) ⊎ ((given u t ≡ Some (f, e)) × (v ≡ u))

pub arrives : {E F : Type 0} (r : Rules E F) → Lawful r → (f s t : ℕ) (e : E) (u v : Trace E) → arrive r f s t e u ≡ Ok v → Arrives f t e u v
arrives {E} r lawful f s t e u v is = at (slice_get u t) refl is
  where
    met : (g : ℕ) (had : E) → given u t ≡ Some (g, had) → meet r f s e g had u ≡ Ok v → Arrives f t e u v
    met g had here is =
        let parts = meet_ok r lawful f s e g had u v is in
        inr (here ∙ ap (λ h. Some (h, had)) parts.0 ∙ ap (λ b. Some (f, b)) (sym parts.1), sym parts.2)

    at : (o : Option (Seen E)) → slice_get u t ≡ o → arrive_at r f s t e u o ≡ Ok v → Arrives f t e u v
    at None here is = absurd (err-ok (r.stray t) v is)
    at (Some unseen) here is = inl (here, sym (same_Ok _ v is))
    at (Some (waiting g had)) here is = met g had (ap held_by here) is
    at (Some (done g had)) here is = met g had (ap held_by here) is
