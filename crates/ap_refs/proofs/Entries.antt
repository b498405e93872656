-- What is known where functions begin.
use Rattle.std.proofs.Common.{◌≡◌, ℕ, zero, suc, ◌+◌, ◌<◌, List, [], ◌∷◌, length, map, Option, Some, None, option_map, unwrap_or, refl, sym, ap, subst, ◌∙◌, arith}
use Rattle.std.specs.List.{slice_get, All}
use Rattle.std.proofs.lemmas.List.Elements.{All-nil}
use Rattle.std.proofs.lemmas.Option.{none-some, same_Some}
use Rattle.sierra_types.specs.declared.program.Function.{Function}
use Rattle.type_table.specs.declared.type_id.TypeId.{TypeId}
use Rattle.type_table.specs.View.{TypesView, FunctionView, IsTable}
use Rattle.libfunc_registry.specs.Wanted.{IsBelow}
use Rattle.linear_check.specs.Statements.{param_types, variables}
use Rattle.statement_walk.proofs.Arrivals.{inside}
use Rattle.ap_refs.specs.declared.place.Place.{Place}
use Rattle.ap_refs.specs.Flow.{entries_from}
use Rattle.ap_refs.specs.Moves.{beginning}

-- the function's entry, and what is known there
abbrev pub entry_of : TypesView → ℕ → Function → ℕ × Place
entry_of t k g = (g.entry, beginning t (variables g) (param_types t k))

-- the entry of each function
pub entry_at : (t : TypesView) (gs : List Function) (n i k : ℕ) → n + i ≡ k → slice_get (entries_from t n gs) i ≡ option_map (entry_of t k) (slice_get gs i)
entry_at t [] n i k is = refl
entry_at t (g ∷ gs) n zero k is = (let same : n ≡ k = omega arith in ap (λ q. Some (entry_of t q g)) same)
entry_at t (g ∷ gs) n (suc i) k is = entry_at t gs (n + 1) i k (omega arith)

pub entries_length : (t : TypesView) (gs : List Function) (n : ℕ) → length (entries_from t n gs) ≡ length gs
entries_length t [] n = refl
entries_length t (g ∷ gs) n = ap suc (entries_length t gs (n + 1))

pub entry_is : (t : TypesView) (gs : List Function) (f : ℕ) (g : Function) (params : List (ℕ × List ℕ)) (types : List TypeId) (place : Place) → slice_get gs f ≡ Some g → params ≡ g.params → types ≡ param_types t f
    → place ≡ beginning t (map (λ (x : ℕ × List ℕ). x.0) params) types → slice_get (entries_from t 0 gs) f ≡ Some (g.entry, place)
entry_is t gs f g params types place there are with has =
    let same : place ≡ beginning t (variables g) (param_types t f) = has ∙ ap (λ ps. beginning t (map (λ (x : ℕ × List ℕ). x.0) ps) types) are ∙ ap (beginning t (variables g)) with in
    entry_at t gs 0 f f (omega arith) ∙ ap (option_map (entry_of t f)) there ∙ ap (λ h. Some (g.entry, h)) (sym same)

-- the parameters of a function are types of the table
below_of : (t : TypesView) → IsTable t → (f : ℕ) (o : Option FunctionView) → slice_get t.functions f ≡ o → All (IsBelow t) (unwrap_or (option_map (λ (g : FunctionView). g.params) o) [])
below_of t kept f None is = All-nil (IsBelow t)
below_of t kept f (Some g) is = (kept.functions_right f g is).params

pub params_below : (t : TypesView) → IsTable t → (f : ℕ) → All (IsBelow t) (param_types t f)
params_below t kept f = below_of t kept f (slice_get t.functions f) refl

-- there is a function at this position
function_at : (t : TypesView) (f : ℕ) → f < length t.functions → (g : FunctionView) × (slice_get t.functions f ≡ Some g)
function_at t f lt = inside t.functions f lt

pub params_at : (t : TypesView) → IsTable t → (f : ℕ) (ts : List TypeId) → f < length t.functions → ((g : FunctionView) → slice_get t.functions f ≡ Some g → ts ≡ g.params) → All (IsBelow t) ts
params_at t kept f ts lt are = let at = function_at t f lt in subst (All (IsBelow t)) (sym (are at.0 at.1)) (kept.functions_right f at.0 at.1).params

pub results_at : (t : TypesView) → IsTable t → (f : ℕ) (ts : List TypeId) → f < length t.functions → ((g : FunctionView) → slice_get t.functions f ≡ Some g → ts ≡ g.results) → All (IsBelow t) ts
results_at t kept f ts lt are = let at = function_at t f lt in subst (All (IsBelow t)) (sym (are at.0 at.1)) (kept.functions_right f at.0 at.1).results
