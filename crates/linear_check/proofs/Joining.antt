-- A program is typed with a list if and only if the list fits the rules of the walk.
use Rattle.std.proofs.Common.{◌≡◌, ◌↔◌, ℕ, List, [], ◌∷◌, length, Option, Some, None, option_map, unwrap_or, refl, sym, ap, subst, ◌∙◌, arith}
use Rattle.std.specs.List.{slice_get}
use Rattle.std.proofs.Math.ListN.{length-map}
use Rattle.std.proofs.lemmas.Option.{none-some, same_Some, slice_get_within, some_pair_parts}
use Rattle.sierra_types.specs.declared.program.Program.{Program}
use Rattle.sierra_types.specs.declared.program.Function.{Function}
use Rattle.sierra_types.specs.declared.program.Statement.{Statement}
use Rattle.type_table.specs.Table.{HasTypes}
use Rattle.type_table.specs.View.{TypesView, FunctionView}
use Rattle.type_table.specs.declared.type_id.TypeId.{TypeId}
use Rattle.libfunc_registry.specs.declared.sig.Sig.{Sig}
use Rattle.held_list.specs.Held.{Held}
use Rattle.statement_walk.specs.Annotates.{Reached, entry, along, Annotates, Follows}
use Rattle.statement_walk.proofs.Arrivals.{inside}
use Rattle.linear_check.specs.Statements.{leads_of, param_types, parameters, variables}
use Rattle.linear_check.specs.Typed.{TypedList, Adds, IsReached, Typed}
use Rattle.linear_check.specs.Typed.{entry as begins, along as leads}
use Rattle.linear_check.specs.Flow.{entries_from, statement_flow, rules}
use Rattle.linear_check.proofs.Following.{follows_typed, typed_follows}
use Rattle.linear_check.proofs.Parameters.{parameters_add, entry_at}

mapped_some : {A B : Type 0} (f : A → B) (o : Option A) (y : B) → option_map f o ≡ Some y → (x : A) × (o ≡ Some x) × (f x ≡ y)
mapped_some f None y is = absurd (none-some y is)
mapped_some f (Some x) y is = (x, refl, same_Some (f x) y is)

-- the function of an entry
entry_of : (p : Program) (t : TypesView) (i s : ℕ) (held : Held TypeId) → slice_get (entries_from t 0 p.functions) i ≡ Some (s, held) → (g : Function) × (slice_get p.functions i ≡ Some g) × (g.entry ≡ s) × (parameters g (param_types t i) ≡ held)
entry_of p t i s held is =
    let make : Function → ℕ × Held TypeId = λ g. (g.entry, parameters g (param_types t i)) in
    let found = mapped_some make (slice_get p.functions i) (s, held) (sym (entry_at t p.functions 0 i i (omega arith)) ∙ is) in
    let parts = some_pair_parts found.0.entry s (parameters found.0 (param_types t i)) held (ap Some found.2) in
    (found.0, found.1, parts.0, parts.1)

entry_there : (p : Program) (t : TypesView) (i : ℕ) (g : Function) → slice_get p.functions i ≡ Some g → slice_get (entries_from t 0 p.functions) i ≡ Some (g.entry, parameters g (param_types t i))
entry_there p t i g is = entry_at t p.functions 0 i i (omega arith) ∙ ap (option_map (λ (g : Function). (g.entry, parameters g (param_types t i)))) is

-- what is reached

statement_leads : (s k t : ℕ) (o : Option Statement) → slice_get (unwrap_or (option_map (leads_of s) o) []) k ≡ Some t → (statement : Statement) × (o ≡ Some statement) × (slice_get (leads_of s statement) k ≡ Some t)
statement_leads s k t None is = absurd (none-some t is)
statement_leads s k t (Some statement) is = (statement, refl, is)

reached : (p : Program) (t : TypesView) (sigs : List Sig) (s : ℕ) → IsReached p s → Reached (rules p t sigs) s
reached p t sigs u (begins f g is) = entry f g.entry (parameters g (param_types t f)) (entry_there p t f g is)
reached p t sigs u (leads k s v statement before is lead) =
    along k s v (reached p t sigs s before) (ap (λ o. slice_get (unwrap_or (option_map (leads_of s) o) []) k) is ∙ lead)

is_reached : (p : Program) (t : TypesView) (sigs : List Sig) (s : ℕ) → Reached (rules p t sigs) s → IsReached p s
is_reached p t sigs u (entry i s held is) = let found = entry_of p t i s held is in subst (IsReached p) found.2 (begins i found.0 found.1)
is_reached p t sigs u (along k s v before lead) =
    let found = statement_leads s k v (slice_get p.statements s) lead in
    leads k s v found.0 (is_reached p t sigs s before) found.1 found.2

-- a function has its types
pub function_types : (p : Program) (t : TypesView) → HasTypes p t → (f : ℕ) (g : Function) → slice_get p.functions f ≡ Some g → (types : FunctionView) × (slice_get t.functions f ≡ Some types)
function_types p t has f g is =
    let lt = slice_get_within p.functions f g is in
    let named = ap length has.function_ids in
    let counted : length t.function_ids ≡ length p.functions = simp length-map at named in
    inside t.functions f (omega (arith, has.kept.each_function_named))

-- the same variables are added in one way
adds_once : (vs : List ℕ) (ts : List TypeId) (rest x y : Held TypeId) → Adds vs ts rest x → Adds vs ts rest y → x ≡ y
adds_once [] [] rest x y here there = sym here ∙ there
adds_once [] (t ∷ ts) rest x y here there = absurd here
adds_once (v ∷ vs) [] rest x y here there = absurd here
adds_once (v ∷ vs) (t ∷ ts) rest x y here there =
    let same = same_Some here.0 there.0 (sym here.1 ∙ there.1) in
    adds_once vs ts there.0 x y (subst (λ more. Adds vs ts more x) same here.2) there.2

typed_fits : (p : Program) (t : TypesView) (sigs : List Sig) → HasTypes p t → (a : TypedList) → Typed p t sigs a → Annotates (rules p t sigs) a
typed_fits p t sigs has a typed = record {
  long = typed.long;
  begins = λ i s held is.
      let found = entry_of p t i s held is in
      let types = function_types p t has i found.0 found.1 in
      let had = typed.entries i found.0 types.0 found.1 types.1 in
      let same = adds_once (variables found.0) types.0.params [] had.0 (parameters found.0 (param_types t i)) had.1 (parameters_add p t has i found.0 types.0 found.1 types.1) in
      ap (slice_get a) (sym found.2) ∙ had.2 ∙ ap (λ h. Some (i, h)) (same ∙ found.3);
  flows = λ s f held is.
      let lt = slice_get_within a s (f, held) is in
      let there = inside p.statements s (omega (arith, typed.long)) in
      subst (λ o. Follows (slice_get a) f (statement_flow p t sigs f s held o)) (sym there.1) (typed_follows p t sigs a s f held there.0 (typed.statements s f held there.0 there.1 is));
  reached = λ s lt. reached p t sigs s (typed.reached s lt);
}

fits_typed : (p : Program) (t : TypesView) (sigs : List Sig) → HasTypes p t → (a : TypedList) → Annotates (rules p t sigs) a → Typed p t sigs a
fits_typed p t sigs has a fits = record {
  long = fits.long;
  entries = λ f g types declared there. (parameters g (param_types t f), parameters_add p t has f g types declared there, fits.begins f g.entry (parameters g (param_types t f)) (entry_there p t f g declared));
  statements = λ s f held statement here is. follows_typed p t sigs a s f held statement (subst (λ o. Follows (slice_get a) f (statement_flow p t sigs f s held o)) here (fits.flows s f held is));
  reached = λ s lt. is_reached p t sigs s (fits.reached s lt);
}

pub typed_by_rules : (p : Program) (t : TypesView) (sigs : List Sig) → HasTypes p t → (a : TypedList) → Typed p t sigs a ↔ Annotates (rules p t sigs) a
typed_by_rules p t sigs has a = (typed_fits p t sigs has a, fits_typed p t sigs has a)
