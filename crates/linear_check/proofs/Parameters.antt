-- What is held where functions begin.
use Rattle.std.proofs.Common.{◌≡◌, ℕ, zero, suc, ◌+◌, List, [], ◌∷◌, length, map, Some, None, option_map, unwrap_or, refl, sym, ap, subst, ◌∙◌, arith, inl, inr}
use Rattle.std.specs.List.{slice_get}
use Rattle.std.proofs.Math.ListN.{length-map}
use Rattle.std.proofs.lemmas.Bool.{cases_order, cases_eq}
use Rattle.std.proofs.lemmas.Bool.Decides.{nat_tests}
use Rattle.std.proofs.lemmas.Option.{none-some, same_Some}
use Rattle.sierra_types.specs.declared.program.Program.{Program}
use Rattle.sierra_types.specs.declared.program.Function.{Function}
use Rattle.type_table.specs.declared.fault.TypeFault.TheVariants.{FunctionType}
use Rattle.type_table.specs.declared.type_id.TypeId.{TypeId}
use Rattle.type_table.specs.Refusals.{HasOneVariableTwice, well_formed}
use Rattle.type_table.specs.Table.{HasTypes}
use Rattle.type_table.specs.View.{TypesView, FunctionView}
use Rattle.held_list.specs.Held.{Held, get}
use Rattle.held_list.specs.Editing.{add}
use Rattle.held_list.proofs.Steps.{add_cases, add-first, add-later}
use Rattle.linear_check.specs.Statements.{param_types, variables, held_with, parameters}
use Rattle.linear_check.specs.Typed.{Adds}
use Rattle.linear_check.specs.Flow.{entries_from}

-- a variable that isn't held can be added
add_free : (v : ℕ) (t : TypeId) (held : Held TypeId) → get v held ≡ None → (more : Held TypeId) × (add v t held ≡ Some more)
add_free v t [] free = ((v, t) ∷ [], refl)
add_free v t (x ∷ xs) free =
    elim (cases_order v x.0) [
      | inl same ↦ absurd (let here : get v (x ∷ xs) ≡ Some x.1 = grind (arith, nat_tests) in none-some x.1 (sym free ∙ here))
      | inr (inl below) ↦ ((v, t) ∷ x ∷ xs, add-first x xs v t below)
      | inr (inr above) ↦
          let behind : get v (x ∷ xs) ≡ get v xs = grind (arith, nat_tests) in
          let later = add_free v t xs (sym behind ∙ free) in
          (x ∷ later.0, add-later x xs v t later.0 above later.1)
    ]

get_head : (w : ℕ) (x : ℕ × TypeId) (xs : Held TypeId) → get w (x ∷ xs) ≡ None → (w ≡ x.0 → ⊥) × (get w xs ≡ None)
get_head w x xs free =
    elim (cases_eq w x.0) [
      | inl same ↦ absurd (let here : get w (x ∷ xs) ≡ Some x.1 = grind (arith, nat_tests) in none-some x.1 (sym free ∙ here))
      | inr other ↦ (let behind : get w (x ∷ xs) ≡ get w xs = grind (arith, nat_tests) in (other, sym behind ∙ free))
    ]

get_behind : (w : ℕ) (x : ℕ × TypeId) (xs : Held TypeId) → (w ≡ x.0 → ⊥) → get w (x ∷ xs) ≡ get w xs
get_behind w x xs other = grind (arith, nat_tests)

-- another variable that wasn't held isn't held still
still_free : (v w : ℕ) (t : TypeId) (held more : Held TypeId) → add v t held ≡ Some more → (w ≡ v → ⊥) → get w held ≡ None → get w more ≡ None
still_free v w t [] more is other free = subst (λ (h : Held TypeId). get w h ≡ None) (same_Some ((v, t) ∷ []) more is) (get_behind w (v, t) [] other)
still_free v w t (x ∷ xs) more is other free =
    elim (add_cases x xs v t more is) [
      | inl first ↦ subst (λ (h : Held TypeId). get w h ≡ None) first.1 (get_behind w (v, t) (x ∷ xs) other ∙ free)
      | inr behind ↦
          let parts = get_head w x xs free in
          subst (λ (h : Held TypeId). get w h ≡ None) behind.1.2 (get_behind w x behind.1.0 parts.0 ∙ still_free v w t xs behind.1.0 behind.1.1 other parts.1)
    ]

with_adds : (params : List (ℕ × List ℕ)) (ts : List TypeId) (held : Held TypeId) → length params ≡ length ts → (HasOneVariableTwice params → ⊥) → ((k : ℕ) (x : ℕ × List ℕ) → slice_get params k ≡ Some x → get x.0 held ≡ None)
    → Adds (map (λ (x : ℕ × List ℕ). x.0) params) ts held (held_with held (map (λ (x : ℕ × List ℕ). x.0) params) ts)
with_adds [] [] held long once free = refl
with_adds [] (t ∷ ts) held long once free = absurd (omega arith)
with_adds (x ∷ xs) [] held long once free = absurd (omega arith)
with_adds (x ∷ xs) (t ∷ ts) held long once free =
    let vs = map (λ (x : ℕ × List ℕ). x.0) xs in
    let more = add_free x.0 t held (free 0 x refl) in
    let later = with_adds xs ts more.0 (omega arith) (λ w. once (suc w.0, suc w.1, w.2, w.3, omega (arith, w.4), w.5, w.6, w.7))
    (λ k y is. still_free x.0 y.0 t held more.0 more.1 (λ same. once (0, suc k, x, y, omega arith, refl, is, sym same)) (free (suc k) y is)) in
    (more.0, more.1, subst (Adds vs ts more.0) (ap (λ o. held_with (unwrap_or o held) vs ts) (sym more.1)) later)

pub params_found : (t : TypesView) (f : ℕ) (types : FunctionView) → slice_get t.functions f ≡ Some types → param_types t f ≡ types.params
params_found t f types is = ap (λ o. unwrap_or (option_map (λ (g : FunctionView). g.params) o) []) is

-- a function that is accepted begins with its parameters
pub parameters_add : (p : Program) (t : TypesView) → HasTypes p t → (f : ℕ) (g : Function) (types : FunctionView) → slice_get p.functions f ≡ Some g → slice_get t.functions f ≡ Some types
    → Adds (variables g) types.params [] (parameters g (param_types t f))
parameters_add p t has f g types declared there =
    let signature = has.functions f g types declared there in
    let long = ap length signature.params in
    let counted : length g.params ≡ length types.params = simp length-map at long in
    let once : HasOneVariableTwice g.params → ⊥ = λ twice. has.functions_pass f g well_formed (FunctionType g.id) declared (inr (inr (inr (inr twice))), refl) in
    subst (λ ts. Adds (variables g) types.params [] (parameters g ts)) (sym (params_found t f types there))
    (with_adds g.params types.params [] counted once (λ k x is. refl))

-- the entry of each function
pub entry_at : (t : TypesView) (gs : List Function) (n i k : ℕ) → n + i ≡ k → slice_get (entries_from t n gs) i ≡ option_map (λ (g : Function). (g.entry, parameters g (param_types t k))) (slice_get gs i)
entry_at t [] n i k is = refl
entry_at t (g ∷ gs) n zero k is = (let same : n ≡ k = omega arith in ap (λ q. Some (g.entry, parameters g (param_types t q))) same)
entry_at t (g ∷ gs) n (suc i) k is = entry_at t gs (n + 1) i k (omega arith)

pub entries_length : (t : TypesView) (gs : List Function) (n : ℕ) → length (entries_from t n gs) ≡ length gs
entries_length t [] n = refl
entries_length t (g ∷ gs) n = ap suc (entries_length t gs (n + 1))

pub entry_is : (t : TypesView) (gs : List Function) (f : ℕ) (g : Function) (params : List (ℕ × List ℕ)) (types : List TypeId) (held : Held TypeId) → slice_get gs f ≡ Some g → params ≡ g.params → types ≡ param_types t f
    → held ≡ held_with [] (map (λ (x : ℕ × List ℕ). x.0) params) types → slice_get (entries_from t 0 gs) f ≡ Some (g.entry, held)
entry_is t gs f g params types held there are with has =
    let same : held ≡ parameters g (param_types t f) = has ∙ ap (λ ps. held_with [] (map (λ (x : ℕ × List ℕ). x.0) ps) types) are ∙ ap (parameters g) with in
    entry_at t gs 0 f f (omega arith) ∙ ap (option_map (λ (g : Function). (g.entry, parameters g (param_types t f)))) there ∙ ap (λ h. Some (g.entry, h)) (sym same)
