-- As many of each builtin are held at a statement as its function returns: by induction along the terms of the needs, on what
-- falls from a statement to where it leads.
use Rattle.std.proofs.Common.{◌≡◌, ◌≢◌, inl, inr, Bool, true, false, ℕ, zero, suc, ◌+◌, ◌<◌, List, [], ◌∷◌, length, slice_index, Option, Some, option_map, refl, sym, ap, subst, ◌∙◌, arith}
use Rattle.std.specs.List.{slice_get, AllZip}
use Rattle.std.specs.Option.{option_map_or, unwrap_or}
use Rattle.std.proofs.lemmas.Bool.{false≢true}
use Rattle.std.proofs.lemmas.Option.{same_Some, slice_get_within}
use Rattle.type_trees.specs.Ty.{Ty}
use Rattle.sierra_types.specs.declared.program.Program.{Program}
use Rattle.sierra_types.specs.declared.program.Function.{Function}
use Rattle.sierra_types.specs.declared.program.Statement.{Statement}
use Rattle.sierra_types.specs.declared.program.Statement.TheVariants.{Invoke, Return}
use Rattle.type_table.specs.Table.{HasTypes}
use Rattle.type_table.specs.declared.type_id.TypeId.{TypeId}
use Rattle.type_table.specs.View.{TypesView, FunctionView, trees_of}
use Rattle.libfunc_registry.specs.declared.sig.Sig.{Sig}
use Rattle.libfunc_registry.specs.declared.libfunc.Libfunc.{Libfunc}
use Rattle.libfunc_registry.specs.declared.libfunc.Libfunc.TheVariants as libfuncs
use Rattle.libfunc_registry.specs.Fam.{fam_of, gives, takes, params_of, results_of}
use Rattle.libfunc_registry.specs.Signature.{AreTrees, HasSignatures}
use Rattle.cost_table.specs.Fits.{IsSignature}
use Rattle.cost_table.proofs.Signatures.{trees_are}
use Rattle.statement_walk.proofs.Arrivals.{inside}
use Rattle.held_list.specs.Held.{Held}
use Rattle.linear_check.specs.Statements.{result_types, target_of, variables}
use Rattle.linear_check.specs.Typed.{TypedList, Gives, IsTypedAt, Typed}
use Rattle.least_needs.specs.Needs.{AtLeast, rank}
use Rattle.least_needs.proofs.RankLaws.{at_least, falls}
use Rattle.gas_solver.specs.Balance.{builtins, IsBalanced, HasBalancedFunctions}
use Rattle.gas_solver.specs.Edges.{BranchLeads, StatementLeads}
use Rattle.gas_solver.specs.Known.{IsCallable}
use Rattle.gas_solver.specs.Plans.{PlanView, IsPlan}
use Rattle.gas_solver.specs.Terms.{entry_of, program_terms}
use Rattle.gas_solver.proofs.ClosedTerms.{closed}
use Rattle.gas_solver.proofs.EdgeLaws.{edges, free_on}
use Rattle.gas_solver.proofs.Families.{keeps}
use Rattle.gas_solver.proofs.HeldCounts.{held_weight, types_weight, takes_weight, adds_weight}
use Rattle.gas_solver.proofs.Knowing.{function_count, known, signature_of}
use Rattle.gas_solver.proofs.Suiting.{pick, picked, suits}

zip_at : {A B : Type 0} (Q : A → B → Type 0) (xs : List A) (ys : List B) (k : ℕ) → AllZip Q xs ys → k < length ys → (x : A) × (y : B) × (slice_get xs k ≡ Some x) × (slice_get ys k ≡ Some y) × Q x y
zip_at Q [] [] k all lt = absurd (omega arith)
zip_at Q [] (y ∷ ys) k all lt = absurd all
zip_at Q (x ∷ xs) [] k all lt = absurd all
zip_at Q (x ∷ xs) (y ∷ ys) zero all lt = (x, y, refl, refl, all.0)
zip_at Q (x ∷ xs) (y ∷ ys) (suc k) all lt = zip_at Q xs ys k all.1 (omega arith)

pick_leads : (p : Program) (libfunc : Libfunc) (t : ℕ) → BranchLeads p libfunc (pick libfunc) t t
pick_leads p (libfuncs.FunctionCall f) t = inr refl
pick_leads p libfuncs.WithdrawGas t = (λ is. omega arith, refl)
pick_leads p _ t = refl

-- a call, or not
data IsCall (libfunc : Libfunc) : Type 0 where
  call : (f : ℕ) → libfunc ≡ libfuncs.FunctionCall f → IsCall libfunc
  none : ((f : ℕ) → libfunc ≢ libfuncs.FunctionCall f) → IsCall libfunc

is_function_call : Libfunc → Bool
is_function_call (libfuncs.FunctionCall f) = true
is_function_call _ = false

is_call : (libfunc : Libfunc) → IsCall libfunc
unfolding is_function_call
is_call (libfuncs.FunctionCall f) = call f refl
is_call _ = none (λ f is. false≢true (ap is_function_call is))

call_leads : (p : Program) (libfunc : Libfunc) (f t : ℕ) → libfunc ≡ libfuncs.FunctionCall f → BranchLeads p libfunc (pick libfunc) t (entry_of p f)
call_leads p libfunc f t is = subst (λ l. BranchLeads p l (pick l) t (entry_of p f)) (sym is) (inl refl)

sums : (held params rest takes gives results after end : ℕ) → held ≡ params + rest → params ≡ takes → takes ≡ gives → results ≡ gives → after ≡ results + rest → after ≡ end → held ≡ end
sums held params rest takes gives results after end one two three four five six = omega arith

nearer : (a b m : ℕ) → a < b → b < suc m → a < m
nearer a b m one two = omega arith

next : (a : ℕ) → a < suc a
next a = omega arith

module _ (p : Program) (t : TypesView) (sigs : List Sig) (a : TypedList) (has : HasTypes p t) (signatures : HasSignatures t p.libfuncs sigs) (typed : Typed p t sigs a) (check gas : ℕ) where
  -- what is held at statement s is balanced
  abbrev Holds : ℕ → Type 0
  Holds s = (f : ℕ) (held : Held TypeId) → slice_get a s ≡ Some (f, held) → held_weight check gas t held ≡ types_weight check gas t (result_types t f)

  -- so are a function's parameters, where it is at its entry
  parameters_balanced : (f : ℕ) (g : Function) (types : FunctionView) → slice_get p.functions f ≡ Some g → slice_get t.functions f ≡ Some types → Holds g.entry → types_weight check gas t types.params ≡ types_weight check gas t types.results
  parameters_balanced f g types here there holds =
      let held = typed.entries f g types here there in
      let added = adds_weight check gas t (variables g) types.params [] held.0 held.1 in
      let end = holds f held.0 held.2 in
      let results : types_weight check gas t (result_types t f) ≡ types_weight check gas t types.results = ap (λ (o : Option FunctionView). types_weight check gas t (unwrap_or (option_map (λ g. g.results) o) [])) there in
      omega arith

  called : (libfunc : Libfunc) (f : ℕ) (tys : List Ty) → IsCallable p libfunc → libfunc ≡ libfuncs.FunctionCall f → Holds (entry_of p f) → slice_get (gives (fam_of t libfunc)) (pick libfunc) ≡ Some tys
      → builtins check gas (takes (fam_of t libfunc)) ≡ builtins check gas tys
  called libfunc f tys callable is holds given =
      let lt : f < length p.functions = (subst (IsCallable p) is callable).0 in
      let g = inside p.functions f lt in
      let types = inside t.functions f (omega (arith, function_count p t has)) in
      let named : entry_of p f ≡ g.0.entry = ap (λ o. option_map_or (λ (h : Function). h.entry) o 0) g.1 in
      let same = parameters_balanced f g.0 types.0 g.1 types.1 (subst Holds named holds) in
      let params : params_of t f ≡ trees_of t types.0.params = ap (λ (o : Option FunctionView). option_map_or (λ g. trees_of t g.params) o []) types.1 in
      let results : results_of t f ≡ trees_of t types.0.results = ap (λ (o : Option FunctionView). option_map_or (λ g. trees_of t g.results) o []) types.1 in
      let own : slice_get (results_of t f ∷ []) 0 ≡ Some tys = subst (λ l. slice_get (gives (fam_of t l)) (pick l) ≡ Some tys) is given in
      let one : builtins check gas (params_of t f) ≡ builtins check gas tys = ap (builtins check gas) params ∙ same ∙ ap (builtins check gas) (sym results) ∙ ap (builtins check gas) (same_Some (results_of t f) tys own) in
      subst (λ l. builtins check gas (takes (fam_of t l)) ≡ builtins check gas tys) (sym is) one

  -- a branch gives as many as the statement takes
  between : (sig : Sig) → IsSignature t sig → IsCallable p sig.libfunc → (tys : List Ty) → slice_get (gives (fam_of t sig.libfunc)) (pick sig.libfunc) ≡ Some tys → ((f : ℕ) → sig.libfunc ≡ libfuncs.FunctionCall f → Holds (entry_of p f))
      → builtins check gas (takes (fam_of t sig.libfunc)) ≡ builtins check gas tys
  between sig signature callable tys given holds = by_call (is_call sig.libfunc)
    where
      by_call : IsCall sig.libfunc → builtins check gas (takes (fam_of t sig.libfunc)) ≡ builtins check gas tys
      by_call (call f is) = called sig.libfunc f tys callable is (holds f is) given
      by_call (none not) = keeps check gas (fam_of t sig.libfunc) (suits check gas t has.kept sig signature not) (pick sig.libfunc) tys given

  step : (s f : ℕ) (held : Held TypeId) (statement : Statement) → slice_get p.statements s ≡ Some statement → IsTypedAt p t sigs a s f held statement → ((u : ℕ) → StatementLeads p sigs s u → Holds u) → held_weight check gas t held ≡ types_weight check gas t (result_types t f)
  step s f held (Return args) here is rest = (let taken = takes_weight check gas t args (result_types t f) held [] is in omega arith)
  step s f held (Invoke id args branches) here is rest =
      let libfunc = is.sig.libfunc in
      let signature = signature_of p t sigs id is.sig signatures is.declared_as in
      let callable = (known p t sigs a has signatures typed s (Invoke id args branches) here is.sig is.declared_as).callable in
      let given = zip_at (AreTrees t) is.sig.branches (gives (fam_of t libfunc)) (pick libfunc) signature.1.branches (picked t has.kept is.sig signature) in
      let flow = zip_at (Gives a f s is.rest) branches is.sig.branches (pick libfunc) is.gives (slice_get_within is.sig.branches (pick libfunc) given.0 given.2) in
      let edge : (u : ℕ) → BranchLeads p libfunc (pick libfunc) (target_of s flow.0.target) u → StatementLeads p sigs s u = λ u leads. record {
        id = id;
        args = args;
        branches = branches;
        here = here;
        sig = is.sig;
        declared_as = is.declared_as;
        k = pick libfunc;
        branch = flow.0;
        at = flow.2;
        leads = leads;
      } in
      let end = rest (target_of s flow.0.target) (edge (target_of s flow.0.target) (pick_leads p libfunc (target_of s flow.0.target))) f flow.4.0 flow.4.2 in
      let taken = takes_weight check gas t args is.sig.params held is.rest is.takes in
      let added = adds_weight check gas t flow.0.results flow.1 is.rest flow.4.0 flow.4.1 in
      let params : types_weight check gas t is.sig.params ≡ builtins check gas (takes (fam_of t libfunc)) = ap (builtins check gas) (trees_are t is.sig.params (takes (fam_of t libfunc)) signature.1.params) in
      let results : types_weight check gas t flow.1 ≡ builtins check gas given.1 = ap (types_weight check gas t) (same_Some flow.1 given.0 (sym flow.3 ∙ given.2)) ∙ ap (builtins check gas) (trees_are t given.0 given.1 given.4) in
      let same : builtins check gas (takes (fam_of t libfunc)) ≡ builtins check gas given.1 = between is.sig signature callable given.1 given.3 (λ g calls. rest (entry_of p g) (edge (entry_of p g) (call_leads p libfunc g (target_of s flow.0.target) calls))) in
      sums (held_weight check gas t held) (types_weight check gas t is.sig.params) (held_weight check gas t is.rest) (builtins check gas (takes (fam_of t libfunc))) (builtins check gas given.1) (types_weight check gas t flow.1) (held_weight check gas t flow.4.0) (types_weight check gas t (result_types t f))
      taken params same results added end

  module _ (need : ℕ → ℕ) (enough : AtLeast (program_terms p t sigs) need) where
    within : (m s : ℕ) → rank (program_terms p t sigs) need s < m → Holds s
    within zero s small f held at = absurd (omega (arith, small))
    within (suc m) s small f held at =
        let lt = slice_get_within a s (f, held) at in
        let statement = inside p.statements s (omega (arith, typed.long)) in
        let rest : (u : ℕ) → StatementLeads p sigs s u → Holds u = λ u leads. within m u (nearer (rank (program_terms p t sigs) need u) (rank (program_terms p t sigs) need s) m
        (falls (program_terms p t sigs) (closed p t sigs a has signatures typed) (free_on p t sigs a has signatures typed) need enough s u ((edges p t sigs s u).1 leads)) small) in
        step s f held statement.0 statement.1 (typed.statements s f held statement.0 statement.1 at) rest

    pub holds : (s : ℕ) → Holds s
    holds s = within (suc (rank (program_terms p t sigs) need s)) s (next (rank (program_terms p t sigs) need s))

pub balanced : (p : Program) (t : TypesView) (sigs : List Sig) (a : TypedList) (main : ℕ) (plan : PlanView) → HasTypes p t → HasSignatures t p.libfuncs sigs → Typed p t sigs a → IsPlan p t sigs main plan → IsBalanced t a
balanced p t sigs a main plan has signatures typed is check gas s f held at =
    holds p t sigs a has signatures typed check gas (slice_index plan.need) (at_least (program_terms p t sigs) (slice_index plan.need) is.needs.are.meets) s f held at

pub functions_balanced : (p : Program) (t : TypesView) (sigs : List Sig) (a : TypedList) (main : ℕ) (plan : PlanView) → HasTypes p t → HasSignatures t p.libfuncs sigs → Typed p t sigs a → IsPlan p t sigs main plan → HasBalancedFunctions t
functions_balanced p t sigs a main plan has signatures typed is check gas f types here =
    let lt = slice_get_within t.functions f types here in
    let g = inside p.functions f (omega (arith, function_count p t has)) in
    parameters_balanced p t sigs a has signatures typed check gas f g.0 types g.1 here
    (holds p t sigs a has signatures typed check gas (slice_index plan.need) (at_least (program_terms p t sigs) (slice_index plan.need) is.needs.are.meets) g.0.entry)
