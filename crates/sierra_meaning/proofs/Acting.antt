-- In an accepted program a statement has one action.
use Rattle.std.proofs.Common.{◌≡◌, ℕ, List, [], ◌∷◌, Option, Some, None, Ok, refl, sym, ap, subst, ◌∙◌}
use Rattle.std.specs.List.{slice_get, zip}
use Rattle.std.proofs.lemmas.Option.{same_Some}
use Rattle.sierra_types.specs.declared.program.Function.{Function}
use Rattle.sierra_types.specs.declared.program.Statement.{Statement}
use Rattle.sierra_types.specs.declared.program.Statement.TheVariants.{Invoke, Return}
use Rattle.sierra_types.specs.declared.program.Branch.{Branch}
use Rattle.libfunc_registry.specs.declared.sig.Sig.{Sig}
use Rattle.libfunc_registry.specs.Fam.{Fam, fam_of}
use Rattle.cost_table.specs.Costs.{charge}
use Rattle.held_list.specs.Held.{Held}
use Rattle.held_list.specs.Editing.{take_all, add_all}
use Rattle.linear_check.specs.Statements.{target_of, variables}
use Rattle.gas_solver.specs.Accepting.{AcceptedView}
use Rattle.value_trees.specs.Val.{Plain}
use Rattle.libfunc_meaning.specs.Dictionaries.{mapped}
use Rattle.libfunc_meaning.proofs.Answering.{one_answer}
use Rattle.sierra_meaning.specs.Acts.{InvokeActs, ActsByLibfunc, StatementActs, Goes, Calls, callee_of, amount_at}
use Rattle.sierra_meaning.specs.Mean.{Action, returns, goes, calls}
use Rattle.sierra_meaning.specs.Facts.{ActsOnce}
use Rattle.sierra_meaning.specs.Measured.{running_of}
use Rattle.sierra_meaning.proofs.HeldValues.{ok_same}

module _ (a : AcceptedView) where
  -- what the action is

  return_is : (s : ℕ) (args : List ℕ) (env : Held Plain) (action : Action Plain) → StatementActs mapped a s (Return args) env action → (results : List Plain) × (action ≡ returns results) × (take_all args env ≡ Ok (results, []))
  return_is s args env (returns results) acts = (results, refl, acts)
  return_is s args env (goes cost next more) acts = absurd acts
  return_is s args env (calls g given rest names next) acts = absurd acts

  goes_is : (fam : Fam) (s : ℕ) (vs : List Plain) (rest : Held Plain) (branches : List Branch) (action : Action Plain) → InvokeActs mapped a None fam s vs rest branches action
      → (cost : ℕ) × (next : ℕ) × (more : Held Plain) × (action ≡ goes cost next more) × Goes mapped a fam s vs rest branches cost next more
  goes_is fam s vs rest branches (returns results) acts = absurd acts
  goes_is fam s vs rest branches (goes cost next more) acts = (cost, next, more, refl, acts)
  goes_is fam s vs rest branches (calls g given held names next) acts = absurd acts

  calls_is : (f : ℕ) (fam : Fam) (s : ℕ) (vs : List Plain) (rest : Held Plain) (branches : List Branch) (action : Action Plain) → InvokeActs mapped a (Some f) fam s vs rest branches action
      → (args : Held Plain) × (names : List ℕ) × (next : ℕ) × (action ≡ calls f args rest names next) × Calls a f s vs branches args names next
  calls_is f fam s vs rest branches (returns results) acts = absurd acts
  calls_is f fam s vs rest branches (goes cost next more) acts = absurd acts
  calls_is f fam s vs rest branches (calls g args held names next) (same, left, call) = (args, names, next, (ap (λ n. calls n args held names next) same ∙ ap (λ h. calls f args h names next) left), call)

  -- two actions

  same_goes : (fam : Fam) (s : ℕ) (vs : List Plain) (rest : Held Plain) (branches : List Branch) (cost cost' next next' : ℕ) (more more' : Held Plain) → Goes mapped a fam s vs rest branches cost next more
      → Goes mapped a fam s vs rest branches cost' next' more' → goes cost next more ≡ goes cost' next' more'
  same_goes fam s vs rest branches cost cost' next next' more more' one other =
      let answers = one_answer fam vs (amount_at a s) one.k other.k one.results other.results one.does other.does in
      let branch : one.branch ≡ other.branch = same_Some one.branch other.branch (sym one.taken ∙ ap (slice_get branches) answers.0 ∙ other.taken) in
      let costs : cost ≡ cost' = one.charged ∙ ap (charge fam) answers.0 ∙ sym other.charged in
      let targets : next ≡ next' = one.goes_to ∙ ap (λ (b : Branch). target_of s b.target) branch ∙ sym other.goes_to in
      let held : more ≡ more' = ok_same more more' (sym one.added ∙ ap (λ (b : Branch). add_all (zip b.results one.results) rest) branch ∙ ap (λ vs. add_all (zip other.branch.results vs) rest) answers.1 ∙ other.added) in
      ap (λ c. goes c next more) costs ∙ ap (λ t. goes cost' t more) targets ∙ ap (goes cost' next') held

  same_calls : (f s : ℕ) (vs : List Plain) (rest : Held Plain) (branches : List Branch) (args args' : Held Plain) (names names' : List ℕ) (next next' : ℕ) → Calls a f s vs branches args names next
      → Calls a f s vs branches args' names' next' → calls f args rest names next ≡ calls f args' rest names' next'
  same_calls f s vs rest branches args args' names names' next next' one other =
      let callee : one.callee ≡ other.callee = same_Some one.callee other.callee (sym one.called ∙ other.called) in
      let branches_same : one.branch ∷ [] ≡ other.branch ∷ [] = sym one.one ∙ other.one in
      let branch : one.branch ≡ other.branch = cc in
      let held : args ≡ args' = ok_same args args' (sym one.given ∙ ap (λ (g : Function). add_all (zip (variables g) vs) []) callee ∙ other.given) in
      let labels : names ≡ names' = one.named ∙ ap (λ (b : Branch). b.results) branch ∙ sym other.named in
      let targets : next ≡ next' = one.goes_to ∙ ap (λ (b : Branch). target_of s b.target) branch ∙ sym other.goes_to in
      ap (λ h. calls f h rest names next) held ∙ ap (λ ns. calls f args' rest ns next) labels ∙ ap (calls f args' rest names') targets

  same_invoked : (o : Option ℕ) (fam : Fam) (s : ℕ) (vs : List Plain) (rest : Held Plain) (branches : List Branch) (one other : Action Plain) → InvokeActs mapped a o fam s vs rest branches one
      → InvokeActs mapped a o fam s vs rest branches other → one ≡ other
  same_invoked None fam s vs rest branches one other acts acts' =
      let first = goes_is fam s vs rest branches one acts in
      let second = goes_is fam s vs rest branches other acts' in
      first.3 ∙ same_goes fam s vs rest branches first.0 second.0 first.1 second.1 first.2 second.2 first.4 second.4 ∙ sym second.3
  same_invoked (Some f) fam s vs rest branches one other acts acts' =
      let first = calls_is f fam s vs rest branches one acts in
      let second = calls_is f fam s vs rest branches other acts' in
      first.3 ∙ same_calls f s vs rest branches first.0 second.0 first.1 second.1 first.2 second.2 first.4 second.4 ∙ sym second.3

  same_invokes : (s : ℕ) (id args : List ℕ) (branches : List Branch) (env : Held Plain) (one other : Action Plain) → ActsByLibfunc mapped a s id args branches env one → ActsByLibfunc mapped a s id args branches env other → one ≡ other
  same_invokes s id args branches env one other does does' =
      let sig : does'.sig ≡ does.sig = same_Some does'.sig does.sig (sym does'.declared_as ∙ does.declared_as) in
      let taken = ok_same (does'.vs, does'.rest) (does.vs, does.rest) (sym does'.takes ∙ does.takes) in
      let vs : does'.vs ≡ does.vs = ap (λ (p : List Plain × Held Plain). p.0) taken in
      let rest : does'.rest ≡ does.rest = ap (λ (p : List Plain × Held Plain). p.1) taken in
      let by_sig = subst (λ (x : Sig). InvokeActs mapped a (callee_of x.libfunc) (fam_of a.types x.libfunc) s does'.vs does'.rest branches other) sig does'.acts in
      let by_vs = subst (λ us. InvokeActs mapped a (callee_of does.sig.libfunc) (fam_of a.types does.sig.libfunc) s us does'.rest branches other) vs by_sig in
      let by_rest = subst (λ left. InvokeActs mapped a (callee_of does.sig.libfunc) (fam_of a.types does.sig.libfunc) s does.vs left branches other) rest by_vs in
      same_invoked (callee_of does.sig.libfunc) (fam_of a.types does.sig.libfunc) s does.vs does.rest branches one other does.acts by_rest

  same_acts : (s : ℕ) (env : Held Plain) (statement : Statement) (one other : Action Plain) → StatementActs mapped a s statement env one → StatementActs mapped a s statement env other → one ≡ other
  same_acts s env (Return args) one other acts acts' =
      let first = return_is s args env one acts in
      let second = return_is s args env other acts' in
      let taken = ok_same (first.0, []) (second.0, []) (sym first.2 ∙ second.2) in
      first.1 ∙ ap (λ (p : List Plain × Held Plain). returns p.0) taken ∙ sym second.1
  same_acts s env (Invoke id args branches) one other acts acts' = same_invokes s id args branches env one other acts acts'

  pub acts_once : ActsOnce (running_of a)
  acts_once s env one other (statement, here, acts) (statement', here', acts') =
      let same : statement' ≡ statement = same_Some statement' statement (sym here' ∙ here) in
      same_acts s env statement one other acts (subst (λ x. StatementActs mapped a s x env other) same acts')
