-- What a libfunc and a call come to, in the values of the code.
use Rattle.std.proofs.Common.{◌≡◌, ℕ, List, [], get_or, map, Option, Some, Ok, refl, sym, ap, subst, ◌∙◌}
use Rattle.std.specs.List.{slice_get, zip}
use Rattle.std.specs.Option.{option_map_or}
use Rattle.std.proofs.lemmas.Option.{get_or_from_slice_get}
use Rattle.sierra_types.specs.declared.program.Branch.{Branch}
use Rattle.sierra_types.specs.declared.program.Function.{Function}
use Rattle.libfunc_registry.specs.declared.sig.Sig.{Sig}
use Rattle.libfunc_registry.specs.Fam.{fam_of}
use Rattle.cost_table.specs.Costs.{charge}
use Rattle.held_list.specs.Held.{Held}
use Rattle.held_list.specs.Editing.{add_all}
use Rattle.linear_check.specs.Statements.{target_of, variables}
use Rattle.gas_solver.specs.Accepting.{AcceptedView}
use Rattle.value_trees.specs.Meant.{meant}
use Rattle.value_trees.specs.Val.{Plain}
use Rattle.value_trees.specs.declared.value.Value.{Value}
use Rattle.libfunc_meaning.specs.Dictionaries.{mapped}
use Rattle.libfunc_meaning.specs.Do.{Do}
use Rattle.sierra_meaning.specs.Acts.{Goes, Calls, amount_at, begins_at}
use Rattle.sierra_meaning.specs.Evaluating.{mapped_held}
use Rattle.sierra_meaning.specs.Turns.{CanGo}
use Rattle.sierra_meaning.proofs.MappedBack.{add_all_back}
use Rattle.sierra_meaning.proofs.MappedValues.{add_all_mapped}

-- what is read at a place is what stands there
pub read_at : {A : Type 0} (xs ys : List A) (i : ℕ) (x y : A) → x ≡ get_or xs i x → xs ≡ ys → slice_get ys i ≡ Some y → x ≡ y
read_at xs ys i x y is same there = is ∙ ap (λ zs. get_or zs i x) same ∙ get_or_from_slice_get ys i y x there

module _ (a : AcceptedView) where
  -- the results of the branch that is taken can be added
  pub goes_adds : (s : ℕ) (sig : Sig) (branches : List Branch) (vs given : List Plain) (rest : Held Value) (k : ℕ) (outs : List Value) (branch : Branch) (names : List ℕ) → CanGo a s sig branches vs (mapped_held meant rest) → given ≡ vs
      → Do mapped (fam_of a.types sig.libfunc) given (amount_at a s) k (map meant outs) → branch ≡ get_or branches k branch → names ≡ branch.results → (more : Held Value) × (add_all (zip names outs) rest ≡ Ok more)
  goes_adds s sig branches vs given rest k outs branch names can same does at named =
      let own = subst (λ us. Do mapped (fam_of a.types sig.libfunc) us (amount_at a s) k (map meant outs)) same does in
      let found = can.leads k (map meant outs) own in
      let same_branch : branch ≡ found.0 = at ∙ get_or_from_slice_get branches k found.0 branch found.1 in
      let back = add_all_back meant found.0.results outs rest found.2 found.3 in
      (back.more, ap (λ ns. add_all (zip ns outs) rest) (named ∙ ap (λ (b : Branch). b.results) same_branch) ∙ back.adds)

  pub goes_so : (s : ℕ) (sig : Sig) (branches : List Branch) (vs given : List Plain) (rest more : Held Value) (k : ℕ) (outs : List Value) (branch : Branch) (names : List ℕ) (next : ℕ) → CanGo a s sig branches vs (mapped_held meant rest) → given ≡ vs
      → Do mapped (fam_of a.types sig.libfunc) given (amount_at a s) k (map meant outs) → branch ≡ get_or branches k branch → names ≡ branch.results → add_all (zip names outs) rest ≡ Ok more → next ≡ target_of s branch.target
      → Goes mapped a (fam_of a.types sig.libfunc) s vs (mapped_held meant rest) branches (charge (fam_of a.types sig.libfunc) k) next (mapped_held meant more)
  goes_so s sig branches vs given rest more k outs branch names next can same does at named adds leads =
      let own = subst (λ us. Do mapped (fam_of a.types sig.libfunc) us (amount_at a s) k (map meant outs)) same does in
      let found = can.leads k (map meant outs) own in
      let same_branch : branch ≡ found.0 = at ∙ get_or_from_slice_get branches k found.0 branch found.1 in
      record {
        k = k;
        results = map meant outs;
        does = own;
        branch = branch;
        taken = found.1 ∙ ap (λ (b : Branch). Some b) (sym same_branch);
        added = add_all_mapped meant branch.results outs rest more (ap (λ ns. add_all (zip ns outs) rest) (sym named) ∙ adds);
        charged = refl;
        goes_to = leads;
      }

  -- a function that can be called can begin
  abbrev pub CanCall : ℕ → ℕ → List Value → List Branch → Type 0
  CanCall callee s values branches = (args : Held Plain) × (names : List ℕ) × (next : ℕ) × Calls a callee s (map meant values) branches args names next

  pub call_begins : (callee s : ℕ) (values : List Value) (branches : List Branch) (function : Function) (can : CanCall callee s values branches) → function ≡ can.3.callee → (more : Held Value) × (add_all (zip (variables function) values) [] ≡ Ok more)
  call_begins callee s values branches function can same =
      let back = add_all_back meant (variables can.3.callee) values [] can.0 can.3.given in
      (back.more, ap (λ (f : Function). add_all (zip (variables f) values) []) same ∙ back.adds)

  pub calls_so : (callee s : ℕ) (values : List Value) (branches : List Branch) (function : Function) (branch : Branch) (names : List ℕ) (next : ℕ) (given : Held Value) (can : CanCall callee s values branches) → function ≡ can.3.callee
      → branch ≡ get_or branches 0 branch → names ≡ branch.results → next ≡ target_of s branch.target → add_all (zip (variables function) values) [] ≡ Ok given → Calls a callee s (map meant values) branches (mapped_held meant given) names next
  calls_so callee s values branches function branch names next given can same at named leads adds =
      let call = can.3 in
      let same_branch : branch ≡ call.branch = at ∙ ap (λ (bs : List Branch). get_or bs 0 branch) call.one in
      record {
        callee = call.callee;
        called = call.called;
        given = add_all_mapped meant (variables call.callee) values [] given (ap (λ (f : Function). add_all (zip (variables f) values) []) (sym same) ∙ adds);
        branch = call.branch;
        one = call.one;
        named = named ∙ ap (λ (b : Branch). b.results) same_branch;
        goes_to = leads ∙ ap (λ (b : Branch). target_of s b.target) same_branch;
      }

  pub call_entry : (callee s : ℕ) (values : List Value) (branches : List Branch) (function : Function) (can : CanCall callee s values branches) → function ≡ can.3.callee → function.entry ≡ begins_at a callee
  call_entry callee s values branches function can same =
      ap (λ (f : Function). f.entry) same ∙ sym (ap (λ (o : Option Function). option_map_or (λ (g : Function). g.entry) o 0) can.3.called)
