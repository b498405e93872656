-- Facts of environments that a walk keeps, and the faults that are a statement's own.
use Rattle.std.specs.Prelude.{◌≡◌, ℕ, ◌+◌, ◌<◌, Some, Ok, Err, ◌⊎◌, map}
use Rattle.std.specs.List.{slice_get}
use Rattle.statement_walk.specs.Rules.{Rules}

-- `Valid n s e`: with n statements done, e is as it should be at statement s
pub record Keeps {E F : Type 0} (r : Rules E F) (Valid : ℕ → ℕ → E → Type 0) : Type 0 where
  pub begins : (i s : ℕ) (e : E) → slice_get r.entries i ≡ Some (s, e) → Valid 0 s e
  pub flows : (k n f s t : ℕ) (e given : E) → s < r.size → Valid n s e → slice_get (r.flow f s e) k ≡ Some (Ok (t, given)) → Valid (n + 1) t given
  pub stays : (n s : ℕ) (e : E) → Valid n s e → Valid (n + 1) s e

-- the fault is one of a statement's flow, or of two environments that don't agree
pub record IsOwn {E F : Type 0} (r : Rules E F) (x : F) : Type 0 where
  pub statement : ℕ
  pub function : ℕ
  pub env : E
  pub cause : ((k : ℕ) × (slice_get (r.flow function statement env) k ≡ Some (Err x))) ⊎ ((given had : E) × (r.clash statement given had ≡ Some x))

-- the same statements, entries and branches, whatever is known there
pub record SameShape {E F D G : Type 0} (r : Rules E F) (q : Rules D G) : Type 0 where
  pub size : q.size ≡ r.size
  pub entries : map (λ (x : ℕ × D). x.0) q.entries ≡ map (λ (x : ℕ × E). x.0) r.entries
  pub leads : (s : ℕ) → q.leads s ≡ r.leads s
