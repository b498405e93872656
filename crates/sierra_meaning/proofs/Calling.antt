-- A statement of an accepted program that calls a function goes on as it should.
use Rattle.std.proofs.Common.{◌≡◌, ℕ, ◌+◌, ◌<◌, ◌≤◌, max, List, [], ◌∷◌, length, slice_index, Option, Some, Ok, sym, ap, subst, ◌∙◌, arith}
use Rattle.std.specs.List.{slice_get, sum_by, zip}
use Rattle.std.specs.Option.{option_map_or}
use Rattle.std.proofs.lemmas.Option.{slice_get_within}
use Rattle.sierra_types.specs.declared.program.Function.{Function}
use Rattle.sierra_types.specs.declared.program.Statement.TheVariants.{Invoke}
use Rattle.sierra_types.specs.declared.program.Branch.{Branch}
use Rattle.type_table.specs.View.{FunctionView, trees_of}
use Rattle.libfunc_registry.specs.declared.sig.Sig.{Sig}
use Rattle.libfunc_registry.specs.declared.libfunc.Libfunc.{Libfunc}
use Rattle.libfunc_registry.specs.declared.libfunc.Libfunc.TheVariants as libfuncs
use Rattle.libfunc_registry.specs.Fam.{fam_of, takes, gives, params_of, results_of}
use Rattle.cost_table.specs.Costs.{charge}
use Rattle.held_list.specs.Held.{Held, total, greatest}
use Rattle.held_list.specs.Editing.{take_all, add_all}
use Rattle.statement_walk.proofs.Arrivals.{inside}
use Rattle.linear_check.specs.Statements.{declared, target_of, variables}
use Rattle.gas_solver.specs.Accepting.{AcceptedView, IsAccepted}
use Rattle.gas_solver.specs.Paying.{PaysFor}
use Rattle.value_trees.specs.Val.{Plain}
use Rattle.libfunc_meaning.specs.Placed.{ArePlain}
use Rattle.sierra_meaning.specs.Acts.{callee_of, amount_at, begins_at, Calls}
use Rattle.sierra_meaning.specs.Facts.{greatest_of, IsGood, CallsWell}
use Rattle.sierra_meaning.specs.Measured.{gas_inside, length_of, AreHeldAt, running_of}
use Rattle.sierra_meaning.specs.Weighing.{PlanPays}
use Rattle.sierra_meaning.proofs.Callees.{is_call}
use Rattle.sierra_meaning.proofs.Known.{function_count}
use Rattle.sierra_meaning.proofs.HeldValues.{ok_same, take_all_total, take_all_greatest, add_all_total, add_all_greatest}
use Rattle.sierra_meaning.proofs.Invoking.{invoked, leads, target_inside}
use Rattle.sierra_meaning.proofs.Typing.{added_values}

module _ (a : AcceptedView) (ok : IsAccepted a) where
  -- where a function of the program begins with arguments of its types
  pub record Begins (f : ℕ) (callee : Function) (vs : List Plain) : Type 0 where
    pub args : Held Plain
    pub given : add_all (zip (variables callee) vs) [] ≡ Ok args
    pub typed : AreHeldAt a f (begins_at a f) args
    pub inside : begins_at a f < length a.program.statements

  pub begins : (f : ℕ) (callee : Function) (vs : List Plain) → slice_get a.program.functions f ≡ Some callee → ArePlain (params_of a.types f) vs → Begins f callee vs
  begins f callee vs called typed =
      let within = slice_get_within a.program.functions f callee called in
      let types = inside a.types.functions f (omega (arith, function_count a.program a.types ok.types)) in
      let held = ok.typed.entries f callee types.0 called types.1 in
      let trees : params_of a.types f ≡ trees_of a.types types.0.params = ap (λ (o : Option FunctionView). option_map_or (λ (g : FunctionView). trees_of a.types g.params) o []) types.1 in
      let added = added_values a.types (variables callee) types.0.params [] held.0 [] vs held.1 tt (subst (λ tys. ArePlain tys vs) trees typed) in
      let there : begins_at a f ≡ callee.entry = ap (λ (o : Option Function). option_map_or (λ (g : Function). g.entry) o 0) called in
      let entry_within = slice_get_within a.envs callee.entry (f, held.0) held.2 in
      record {
        args = added.more;
        given = added.adds;
        typed = (held.0, ap (slice_get a.envs) there ∙ held.2, added.alike);
        inside = omega (arith, there, entry_within, ok.typed.long);
      }

-- the numbers, over plain variables: v are the values, c what the callee begins with, l what is left
shared : (env v l c : ℕ) → v + l ≡ env → c ≤ v + 0 → c + l ≤ env
shared env v l c one two = omega arith

no_longer : (env v l c : ℕ) → max v l ≡ env → c ≤ max v 0 → c ≤ env
no_longer env v l c one two = omega arith

module _ (a : AcceptedView) (ok : IsAccepted a) (pays : PlanPays a) where
  paid_call : (libfunc : Libfunc) (f s k amount target : ℕ) → libfunc ≡ libfuncs.FunctionCall f
      → PaysFor a.program (slice_index a.plan.need) libfunc (charge (fam_of a.types libfunc) k) k s amount target
      → 100 + slice_index a.plan.need (begins_at a f) + slice_index a.plan.need target ≤ slice_index a.plan.need s
  paid_call libfunc f s k amount target is paid =
      let own : PaysFor a.program (slice_index a.plan.need) (libfuncs.FunctionCall f) (charge (fam_of a.types (libfuncs.FunctionCall f)) k) k s amount target =
      subst (λ (l : Libfunc). PaysFor a.program (slice_index a.plan.need) l (charge (fam_of a.types l) k) k s amount target) is paid in
      omega (arith, own)

  pub calls_well : (f s : ℕ) (env : Held Plain) (id args : List ℕ) (branches : List Branch) (sig : Sig) (vs : List Plain) (rest : Held Plain) (g : ℕ) (given : Held Plain) (names : List ℕ) (next : ℕ) → IsGood (running_of a) f s env
      → slice_get a.program.statements s ≡ Some (Invoke id args branches) → declared a.program a.sigs id ≡ Some sig → take_all args env ≡ Ok (vs, rest) → callee_of sig.libfunc ≡ Some g
      → Calls a g s vs branches given names next → CallsWell (running_of a) f s env g given rest names next
  calls_well f s env id args branches sig vs rest g given names next good here named takes_them callee call =
      let known = invoked a ok f s id args branches sig env here named good.typed in
      let same_taken = ok_same (known.taken.vs, known.taken.left) (vs, rest) (sym known.taken.takes ∙ takes_them) in
      let same_vs : known.taken.vs ≡ vs = ap (λ (p : List Plain × Held Plain). p.0) same_taken in
      let same_rest : known.taken.left ≡ rest = ap (λ (p : List Plain × Held Plain). p.1) same_taken in
      let is : sig.libfunc ≡ libfuncs.FunctionCall g = is_call sig.libfunc g callee in
      let taken : takes (fam_of a.types sig.libfunc) ≡ params_of a.types g = ap (λ (l : Libfunc). takes (fam_of a.types l)) is in
      let gave : gives (fam_of a.types sig.libfunc) ≡ results_of a.types g ∷ [] = ap (λ (l : Libfunc). gives (fam_of a.types l)) is in
      let typed : ArePlain (params_of a.types g) vs = subst (λ us. ArePlain (params_of a.types g) us) same_vs (subst (λ tys. ArePlain tys known.taken.vs) taken known.typed) in
      let begun = begins a ok g call.callee vs call.called typed in
      let same_given : begun.args ≡ given = ok_same begun.args given (sym begun.given ∙ call.given) in
      let target = target_of s call.branch.target in
      let first : slice_get branches 0 ≡ Some call.branch = ap (λ (bs : List Branch). slice_get bs 0) call.one in
      let tree : slice_get (gives (fam_of a.types sig.libfunc)) 0 ≡ Some (results_of a.types g) = ap (λ tyss. slice_get tyss 0) gave in
      let goes_on : (results : List Plain) → ArePlain (results_of a.types g) results → (more : Held Plain) × (add_all (zip names results) rest ≡ Ok more) × AreHeldAt a f target more = λ results fit.
      (let after = leads a ok f s args branches sig env known 0 call.branch (results_of a.types g) results first tree fit in
      (after.more, ap (λ ns. add_all (zip ns results) rest) call.named ∙ ap (add_all (zip call.branch.results results)) (sym same_rest) ∙ after.adds, after.typed)) in
      let taken_gas = take_all_total gas_inside args env vs rest takes_them in
      let taken_long = take_all_greatest length_of args env vs rest takes_them in
      let given_gas = add_all_total gas_inside (variables call.callee) vs [] given call.given in
      let given_long = add_all_greatest length_of (variables call.callee) vs [] given call.given in
      let well : CallsWell (running_of a) f s env g given rest names target = record {
        begins = begun.inside;
        typed = subst (AreHeldAt a g (begins_at a g)) same_given begun.typed;
        inside = target_inside a ok f s args branches sig env known 0 call.branch first;
        goes_on = goes_on;
        paid = paid_call sig.libfunc g s 0 (amount_at a s) target is (pays.branches s id args branches sig 0 call.branch here named first);
        no_more_gas = shared (total gas_inside env) (sum_by gas_inside vs) (total gas_inside rest) (total gas_inside given) taken_gas given_gas;
        args_no_longer = no_longer (greatest length_of env) (greatest_of length_of vs) (greatest length_of rest) (greatest length_of given) taken_long given_long;
        rest_no_longer = omega arith;
      } in
      subst (λ t. CallsWell (running_of a) f s env g given rest names t) (sym call.goes_to) well
