-- A statement of an accepted program that invokes a libfunc goes on as it should.
use Rattle.std.proofs.Common.{◌≡◌, ℕ, ◌+◌, ◌*◌, ◌-◌, ◌<◌, ◌≤◌, ◌^◌, max, List, [], ◌∷◌, slice_index, Some, None, Ok, sym, ap, subst, ◌∙◌, arith}
use Rattle.std.specs.List.{slice_get, sum_by, zip}
use Rattle.sierra_types.specs.declared.program.Statement.TheVariants.{Invoke}
use Rattle.sierra_types.specs.declared.program.Branch.{Branch}
use Rattle.libfunc_registry.specs.declared.sig.Sig.{Sig}
use Rattle.libfunc_registry.specs.Fam.{fam_of, takes}
use Rattle.cost_table.specs.Costs.{charge}
use Rattle.held_list.specs.Held.{Held, total, greatest}
use Rattle.held_list.specs.Editing.{take_all, add_all}
use Rattle.linear_check.specs.Statements.{declared, target_of}
use Rattle.gas_solver.specs.Accepting.{AcceptedView, IsAccepted}
use Rattle.value_trees.specs.Val.{Plain}
use Rattle.libfunc_meaning.specs.Applying.{IsSignature, AreShort}
use Rattle.libfunc_meaning.specs.Dictionaries.{mapped}
use Rattle.libfunc_meaning.specs.Placed.{ArePlain}
use Rattle.libfunc_meaning.specs.Proper.{IsAsked}
use Rattle.libfunc_meaning.proofs.Answering.{types_are_kept}
use Rattle.libfunc_meaning.proofs.Declared.{declared_is_proper}
use Rattle.libfunc_meaning.proofs.Short.{short_is_counted}
use Rattle.sierra_meaning.specs.Acts.{callee_of, amount_at, Goes}
use Rattle.sierra_meaning.specs.Facts.{greatest_of, IsGood, GoesWell}
use Rattle.sierra_meaning.specs.Measured.{gas_inside, length_of, AreHeldAt, running_of}
use Rattle.sierra_meaning.specs.Weighing.{withdrawn, PlanPays, AllWeigh}
use Rattle.sierra_meaning.proofs.Callees.{is_no_call, paid_by}
use Rattle.sierra_meaning.proofs.HeldValues.{ok_same, take_all_total, take_all_greatest, add_all_total, add_all_greatest}
use Rattle.sierra_meaning.proofs.Invoking.{invoked, leads, target_inside}

-- values that are no longer than this are short
are_short : (vs : List Plain) (most : ℕ) → greatest_of length_of vs ≤ most → most < 2 ^ 32 - 1 → AreShort vs
are_short [] most le small = tt
are_short (v ∷ vs) most le small = (omega arith, are_short vs most (omega arith) small)

pub taken_short : (a : AcceptedView) (f s : ℕ) (env : Held Plain) (args : List ℕ) (vs : List Plain) (rest : Held Plain) → IsGood (running_of a) f s env → take_all args env ≡ Ok (vs, rest) → AreShort vs
taken_short a f s env args vs rest good takes =
    let parts = take_all_greatest length_of args env vs rest takes in
    let short = good.short in
    are_short vs (greatest length_of env) (omega arith) (omega arith)

-- what is asked of the arguments
pub asked : (a : AcceptedView) (sig : Sig) (vs : List Plain) → IsSignature a.types sig → callee_of sig.libfunc ≡ None → AreShort vs → IsAsked (fam_of a.types sig.libfunc) vs
asked a sig vs signature none short = record {
  proper = declared_is_proper a.types signature.0 sig signature.1;
  no_call = is_no_call a.types sig.libfunc none;
  counted = short_is_counted (fam_of a.types sig.libfunc) vs short;
}

-- the numbers, over plain variables: v are the arguments, o the results, l what is left
paid_on : (env v l o more need_next need_here cost taken : ℕ) → v + l ≡ env → o + taken ≤ v → more ≤ o + l → cost + need_next ≤ need_here + taken → cost + (more + need_next) ≤ env + need_here
paid_on env v l o more need_next need_here cost taken one two three four = omega arith

grown_on : (env v l o more cost : ℕ) → max v l ≡ env → 100 * o ≤ 100 * v + cost → more ≤ max o l → 100 * more ≤ 100 * env + cost
grown_on env v l o more cost one two three = omega arith

module _ (a : AcceptedView) (ok : IsAccepted a) (pays : PlanPays a) (weigh : AllWeigh a.types) where
  pub goes_well : (f s : ℕ) (env : Held Plain) (id args : List ℕ) (branches : List Branch) (sig : Sig) (vs : List Plain) (rest : Held Plain) (cost next : ℕ) (more : Held Plain) → IsGood (running_of a) f s env
      → slice_get a.program.statements s ≡ Some (Invoke id args branches) → declared a.program a.sigs id ≡ Some sig → take_all args env ≡ Ok (vs, rest) → callee_of sig.libfunc ≡ None
      → Goes mapped a (fam_of a.types sig.libfunc) s vs rest branches cost next more → GoesWell (running_of a) f s env cost next more
  goes_well f s env id args branches sig vs rest cost next more good here named takes_them none does =
      let known = invoked a ok f s id args branches sig env here named good.typed in
      let same_taken = ok_same (known.taken.vs, known.taken.left) (vs, rest) (sym known.taken.takes ∙ takes_them) in
      let same_vs : known.taken.vs ≡ vs = ap (λ (p : List Plain × Held Plain). p.0) same_taken in
      let same_rest : known.taken.left ≡ rest = ap (λ (p : List Plain × Held Plain). p.1) same_taken in
      let typed = subst (ArePlain (takes (fam_of a.types sig.libfunc))) same_vs known.typed in
      let asks = asked a sig vs known.signature none (taken_short a f s env args vs rest good takes_them) in
      let kept = types_are_kept (fam_of a.types sig.libfunc) vs (amount_at a s) does.k does.results asks typed does.does in
      let after = leads a ok f s args branches sig env known does.k does.branch kept.0 does.results does.taken kept.1 kept.2 in
      let same_more : after.more ≡ more = ok_same after.more more (sym after.adds ∙ ap (add_all (zip does.branch.results does.results)) same_rest ∙ does.added) in
      let weighs = weigh sig vs (amount_at a s) does.k does.results known.signature none typed does.does in
      let target = target_of s does.branch.target in
      let charged = charge (fam_of a.types sig.libfunc) does.k in
      let pay = paid_by a.program (slice_index a.plan.need) sig.libfunc charged does.k s (amount_at a s) target none (pays.branches s id args branches sig does.k does.branch here named does.taken) in
      let well : GoesWell (running_of a) f s env charged target more = record {
        inside = target_inside a ok f s args branches sig env known does.k does.branch does.taken;
        typed = subst (AreHeldAt a f target) same_more after.typed;
        paid = paid_on (total gas_inside env) (sum_by gas_inside vs) (total gas_inside rest) (sum_by gas_inside does.results) (total gas_inside more) (slice_index a.plan.need target) (slice_index a.plan.need s) charged (withdrawn sig.libfunc does.k (amount_at a s))
            (take_all_total gas_inside args env vs rest takes_them) weighs.no_more_gas (add_all_total gas_inside does.branch.results does.results rest more does.added) pay;
        grown = grown_on (greatest length_of env) (greatest_of length_of vs) (greatest length_of rest) (greatest_of length_of does.results) (greatest length_of more) charged
            (take_all_greatest length_of args env vs rest takes_them) weighs.grown (add_all_greatest length_of does.branch.results does.results rest more does.added);
        free = pays.free s id args branches sig does.k does.branch here named does.taken;
      } in
      subst (λ c. GoesWell (running_of a) f s env c next more) (sym does.charged) (subst (λ t. GoesWell (running_of a) f s env charged t more) (sym does.goes_to) well)
