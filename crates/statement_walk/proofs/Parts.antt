-- The parts of a flow and the targets that they lead to.
use Rattle.std.proofs.Common.{◌≡◌, ℕ, zero, suc, ◌<◌, List, [], ◌∷◌, Option, Some, Result, Ok, Err, sym, ap, ◌∙◌, arith, inl, inr}
use Rattle.std.specs.List.{slice_get}
use Rattle.std.proofs.lemmas.Option.{none-some, same_Some}
use Rattle.statement_walk.specs.Rules.{Rules, Lawful, AreParts}
use Rattle.statement_walk.specs.Annotates.{Follows}

parts_lead : {E F : Type 0} (size : ℕ) (ts : List ℕ) (parts : List (Result (ℕ × E) F)) (k : ℕ) (p : ℕ × E) → AreParts size ts parts → slice_get parts k ≡ Some (Ok p) → (slice_get ts k ≡ Some p.0) × (p.0 < size)
parts_lead size [] [] k p are is = absurd (none-some _ is)
parts_lead size [] (part ∷ parts) k p are is = absurd are
parts_lead size (t ∷ ts) [] k p are is = absurd are
parts_lead size (t ∷ ts) (Err x ∷ parts) zero p are is = let bad = same_Some _ _ is in cc
parts_lead size (t ∷ ts) (Err x ∷ parts) (suc k) p are is = parts_lead size ts parts k p are is
parts_lead size (t ∷ ts) (Ok q ∷ parts) zero p are is =
    let same : q ≡ p = (let e = same_Some _ _ is in cc) in
    (ap Some (sym are.0 ∙ ap (λ (x : ℕ × _). x.0) same), omega (arith, are.0, are.1, ap (λ (x : ℕ × _). x.0) same))
parts_lead size (t ∷ ts) (Ok q ∷ parts) (suc k) p are is = parts_lead size ts parts k p are.2 is

fault_alone : {E F : Type 0} (x : F) (k : ℕ) (p : ℕ × E) → slice_get {X = Result (ℕ × E) F} (Err x ∷ []) k ≡ Some (Ok p) → ⊥
fault_alone x zero p is = let bad = same_Some _ _ is in cc
fault_alone x (suc k) p is = none-some _ is

-- a part leads where its branch does, and to a statement
pub leads_there : {E F : Type 0} (r : Rules E F) → Lawful r → (f s : ℕ) (e : E) (k : ℕ) (p : ℕ × E) → s < r.size → slice_get (r.flow f s e) k ≡ Some (Ok p) → (slice_get (r.leads s) k ≡ Some p.0) × (p.0 < r.size)
leads_there r lawful f s e k p lt is =
    elim (lawful.flows f s e lt) [
      | inl alone ↦ absurd (fault_alone alone.0 k p (rw alone.1 at is))
      | inr are ↦ parts_lead r.size (r.leads s) (r.flow f s e) k p are is
    ]

parts_followed : {E F : Type 0} (size : ℕ) (ts : List ℕ) (parts : List (Result (ℕ × E) F)) (at : ℕ → Option (ℕ × E)) (f k t : ℕ) → AreParts size ts parts → Follows at f parts → slice_get ts k ≡ Some t → (e : E) × (at t ≡ Some (f, e))
parts_followed size [] parts at f k t are follows is = absurd (none-some t is)
parts_followed size (u ∷ ts) [] at f k t are follows is = absurd are
parts_followed size (u ∷ ts) (Err x ∷ parts) at f k t are follows is = absurd follows
parts_followed size (u ∷ ts) (Ok p ∷ parts) at f zero t are follows is = (p.1, ap at (sym (are.0 ∙ same_Some u t is)) ∙ follows.0)
parts_followed size (u ∷ ts) (Ok p ∷ parts) at f (suc k) t are follows is = parts_followed size ts parts at f k t are.2 follows.1 is

-- where the parts are followed, each target has the function
pub followed : {E F : Type 0} (r : Rules E F) → Lawful r → (at : ℕ → Option (ℕ × E)) (f s : ℕ) (e : E) (k t : ℕ) → s < r.size → Follows at f (r.flow f s e) → slice_get (r.leads s) k ≡ Some t → (d : E) × (at t ≡ Some (f, d))
followed r lawful at f s e k t lt follows is =
    elim (lawful.flows f s e lt) [
      | inl alone ↦ absurd (rw alone.1 at follows)
      | inr are ↦ parts_followed r.size (r.leads s) (r.flow f s e) at f k t are follows is
    ]
