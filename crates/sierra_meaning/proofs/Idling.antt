-- A statement that leaves each variable with its value is a turn on which what is held stays the same.
use Rattle.std.proofs.Common.{◌≡◌, ℕ, zero, suc, ◌+◌, ◌<◌, ◌≤◌, Bool, true, false, inl, inr, List, [], ◌∷◌, length, map, Option, Some, None, Ok, if◌then◌else◌, refl, sym, ap, subst, ◌∙◌, arith}
use Rattle.std.specs.List.{slice_get, zip}
use Rattle.std.specs.Option.{option_and_then}
use Rattle.std.proofs.lemmas.Bool.{false≢true}
use Rattle.std.proofs.lemmas.Bool.Decides.{nat_tests}
use Rattle.std.proofs.lemmas.List.{length-map}
use Rattle.std.proofs.lemmas.Option.{none-some, same_Some, some_pair_parts, slice_get-map, slice_get_within}
use Rattle.sierra_types.specs.declared.program.LibfuncDecl.{LibfuncDecl}
use Rattle.sierra_types.specs.declared.program.Program.{Program}
use Rattle.sierra_types.specs.declared.program.Statement.{Statement}
use Rattle.sierra_types.specs.declared.program.Statement.TheVariants.{Invoke, Return}
use Rattle.sierra_types.specs.declared.program.Branch.{Branch}
use Rattle.sierra_types.specs.declared.program.Target.{Target}
use Rattle.type_trees.specs.Ty.{Ty, nonzero}
use Rattle.type_trees.specs.declared.num.Num.{Num}
use Rattle.type_table.specs.declared.type_id.TypeId.{TypeId}
use Rattle.type_table.specs.Lookups.{found}
use Rattle.type_table.specs.Naming.{place_of as place_among}
use Rattle.type_table.specs.View.{TypesView}
use Rattle.type_table.proofs.DecidedLists.{map_at}
use Rattle.libfunc_registry.specs.declared.sig.Sig.{Sig}
use Rattle.libfunc_registry.specs.declared.libfunc.Libfunc.{Libfunc}
use Rattle.libfunc_registry.specs.declared.libfunc.Libfunc.TheVariants as libfuncs
use Rattle.libfunc_registry.specs.Fam.{fam_of, takes, tree}
use Rattle.cost_table.specs.Costs.{charge}
use Rattle.held_list.specs.Held.{Held, RisesFrom, IsRising}
use Rattle.held_list.specs.Editing.{take, add, or_stop, take_all, add_all}
use Rattle.held_list.proofs.Steps.{take_cases, add-first, add-later}
use Rattle.linear_check.specs.Statements.{target_of, declared}
use Rattle.gas_solver.specs.Accepting.{AcceptedView}
use Rattle.value_trees.specs.Meant.{meant}
use Rattle.value_trees.specs.Val.{Plain}
use Rattle.value_trees.specs.declared.value.Value.{Value}
use Rattle.libfunc_meaning.specs.Answers.{gives, of_none, of_one}
use Rattle.libfunc_meaning.specs.Dictionaries.{mapped}
use Rattle.libfunc_meaning.specs.Do.{Do}
use Rattle.libfunc_meaning.specs.Placed.{ArePlain}
use Rattle.sierra_meaning.specs.Acts.{Goes, callee_of, amount_at}
use Rattle.sierra_meaning.specs.Evaluating.{mapped_held}
use Rattle.sierra_meaning.specs.Idle.{IsIdle, AreIdle, gives_back, few_alike, idle_branch, idle_by, idle_in}
use Rattle.sierra_meaning.specs.Turns.{IsReady, Place, Stands, Turns}
use Rattle.sierra_meaning.proofs.HeldValues.{ok_same, takes_first}
use Rattle.sierra_meaning.proofs.MappedValues.{add_all_mapped}
use Rattle.sierra_meaning.proofs.Places.{asked_of, invoke_can_take, invokes, turns_to}

-- what is taken goes back to its place

not_lower : {A : Type 0} (held : Held A) (least v : ℕ) (x : A) (rest : Held A) → RisesFrom least held → take v held ≡ Some (x, rest) → least ≤ v
not_lower [] least v x rest rises is = absurd (none-some (x, rest) is)
not_lower (y ∷ ys) least v x rest rises is =
    elim (take_cases y ys v x rest is) [
      | inl here ↦ (let low = rises.0 in let same = here.0 in omega arith)
      | inr behind ↦ (let low = rises.0 in let later = not_lower ys (y.0 + 1) v x behind.1.0 rises.1 behind.1.1 in omega arith)
    ]

first_again : {A : Type 0} (ys : Held A) (v : ℕ) (x : A) → RisesFrom (v + 1) ys → add v x ys ≡ Some ((v, x) ∷ ys)
first_again [] v x rises = refl
first_again (z ∷ ys) v x rises = let low = rises.0 in add-first z ys v x (omega arith)

add_back : {A : Type 0} (held : Held A) (least v : ℕ) (x : A) (rest : Held A) → RisesFrom least held → take v held ≡ Some (x, rest) → add v x rest ≡ Some held
add_back [] least v x rest rises is = absurd (none-some (x, rest) is)
add_back {A} (y ∷ ys) least v x rest rises is =
    elim (take_cases y ys v x rest is) [
      | inl here ↦
          let same : y.0 ≡ v = sym here.0 in
          let above : RisesFrom (v + 1) ys = subst (λ n. RisesFrom (n + 1) ys) same rises.1 in
          let pair : ◌≡◌ {A = ℕ × A} (v, x) y = ap (λ n. (n, x)) here.0 ∙ ap (λ a. (y.0, a)) (sym here.1) in
          ap (add v x) (sym here.2) ∙ first_again ys v x above ∙ ap (λ (p : ℕ × A). Some (p ∷ ys)) pair
      | inr behind ↦
          let later : Held A = behind.1.0 in
          let low = not_lower ys (y.0 + 1) v x later rises.1 behind.1.1 in
          ap (add v x) (sym behind.1.2) ∙ add-later y later v x ys (omega arith) (add_back ys (y.0 + 1) v x later rises.1 behind.1.1)
    ]

-- so all is as before where what is taken is given back under the same names, of which there is one at most
add_all_back : {A : Type 0} (args results : List ℕ) (env : Held A) (vs : List A) (rest : Held A) → IsRising env → few_alike args results ≡ true → take_all args env ≡ Ok (vs, rest) → add_all (zip results vs) rest ≡ Ok env
add_all_back {A} [] [] env vs rest rises alike is = let same = ok_same ([], env) (vs, rest) is in sym (ap (λ (p : List A × Held A). Ok p.1) same)
add_all_back [] (r ∷ results) env vs rest rises alike is = absurd (false≢true alike)
add_all_back (n ∷ args) [] env vs rest rises alike is = absurd (false≢true alike)
add_all_back (n ∷ m ∷ args) (r ∷ results) env vs rest rises alike is = absurd (false≢true alike)
add_all_back (n ∷ []) (r ∷ q ∷ results) env vs rest rises alike is = absurd (false≢true alike)
add_all_back {A} (n ∷ []) (r ∷ []) env vs rest rises alike is =
    let parts = takes_first n [] env vs rest is in
    let same = ok_same ([], parts.left) (parts.others, rest) parts.then_takes in
    let none : [] ≡ parts.others = ap (λ (p : List A × Held A). p.0) same in
    let left : parts.left ≡ rest = ap (λ (p : List A × Held A). p.1) same in
    let one : parts.first ∷ [] ≡ vs = ap (λ us. parts.first ∷ us) none ∙ parts.all in
    let name : r ≡ n = grind (arith, nat_tests) in
    let added : add r parts.first parts.left ≡ Some env = ap (λ k. add k parts.first parts.left) name ∙ add_back env 0 n parts.first parts.left rises parts.takes in
    let all : add_all (zip (r ∷ []) (parts.first ∷ [])) parts.left ≡ Ok env = ap (λ o. or_stop o r (add_all [])) added in
    ap (λ us. add_all (zip (r ∷ []) us) rest) (sym one) ∙ ap (add_all (zip (r ∷ []) (parts.first ∷ []))) (sym left) ∙ all

-- what such a libfunc does

gives_none : (vs : List Plain) → ArePlain [] vs → ◌≡◌ {A = Option (ℕ × List Plain)} (of_none vs (gives [])) (Some (0, vs))
gives_none vs none = subst (λ us. ◌≡◌ {A = Option (ℕ × List Plain)} (of_none us (gives [])) (Some (0, us))) (sym none) refl

gives_one : (ty : Ty) (vs : List Plain) → ArePlain (ty ∷ []) vs → ◌≡◌ {A = Option (ℕ × List Plain)} (of_one vs (λ v. gives (v ∷ []))) (Some (0, vs))
gives_one ty vs (v, rest, is, of, none) =
    let one : vs ≡ v ∷ [] = is ∙ ap (λ us. v ∷ us) none in
    subst (λ us. ◌≡◌ {A = Option (ℕ × List Plain)} (of_one us (λ u. gives (u ∷ []))) (Some (0, us))) (sym one) refl

does_back : (types : TypesView) (libfunc : Libfunc) (vs : List Plain) (amount : ℕ) → gives_back libfunc ≡ true → ArePlain (takes (fam_of types libfunc)) vs → Do mapped (fam_of types libfunc) vs amount 0 vs
does_back types libfuncs.BranchAlign vs amount back typed = gives_none vs typed
does_back types libfuncs.Jump vs amount back typed = gives_none vs typed
does_back types (libfuncs.Rename t) vs amount back typed = gives_one (tree types t) vs typed
does_back types (libfuncs.StoreTemp t) vs amount back typed = gives_one (tree types t) vs typed
does_back types libfuncs.FinalizeLocals vs amount back typed = gives_none vs typed
does_back types libfuncs.DisableApTracking vs amount back typed = gives_none vs typed
does_back types libfuncs.EnableApTracking vs amount back typed = gives_none vs typed
does_back types (libfuncs.UnwrapNonZero num) vs amount back typed = gives_one (nonzero num) vs typed
does_back types _ vs amount back typed = absurd (false≢true back)

no_call_back : (libfunc : Libfunc) → gives_back libfunc ≡ true → callee_of libfunc ≡ None
no_call_back (libfuncs.FunctionCall f) back = absurd (false≢true back)
no_call_back _ back = refl

module _ (a : AcceptedView) (positions : List ℕ) (ready : IsReady a positions) where
  idle_goes : (p : Place) (t : Target) (is : IsIdle a p.at t) (stands : Stands a p) → IsRising p.env → Turns a p (record { at = target_of p.at t; env = p.env; callers = p.callers })
  idle_goes p t is stands rises =
      let branches = is.branch ∷ [] in
      let asked = asked_of a positions ready p is.id is.args branches stands is.here in
      let same : is.sig ≡ asked.sig = same_Some is.sig asked.sig (sym is.declared_as ∙ asked.declared_as) in
      let back : gives_back asked.sig.libfunc ≡ true = subst (λ (s : Sig). gives_back s.libfunc ≡ true) same is.back in
      let none = no_call_back asked.sig.libfunc back in
      let taken = invoke_can_take a positions ready p is.id is.args branches stands is.here in
      let vs = taken.0 in
      let rest = taken.1 in
      let known = invokes a positions ready p is.id is.args branches stands is.here vs rest taken.2 in
      let typed = (known.goes none).typed in
      let again = add_all_back is.args is.branch.results p.env vs rest rises is.alike taken.2 in
      let goes : Goes mapped a (fam_of a.types asked.sig.libfunc) p.at (map meant vs) (mapped_held meant rest) branches (charge (fam_of a.types asked.sig.libfunc) 0) (target_of p.at t) (mapped_held meant p.env) = record {
        k = 0;
        results = map meant vs;
        does = does_back a.types asked.sig.libfunc (map meant vs) (amount_at a p.at) back typed;
        branch = is.branch;
        taken = refl;
        added = add_all_mapped meant is.branch.results vs rest p.env again;
        charged = refl;
        goes_to = ap (target_of p.at) is.leads;
      } in
      known.went (charge (fam_of a.types asked.sig.libfunc) 0) (target_of p.at t) p.env none goes

  -- a turn that goes there and keeps the rest
  pub idle_turns : (p q : Place) (t : Target) (idle : List (Option Target)) → AreIdle a idle → slice_get idle p.at ≡ Some (Some t) → Stands a p → IsRising p.env → q.at ≡ target_of p.at t → q.env ≡ p.env → q.callers ≡ p.callers → Turns a p q
  idle_turns p q t idle are here stands rises at env callers = turns_to a positions ready p q (target_of p.at t) p.env p.callers at env callers (idle_goes p t (are.each p.at t here) stands rises)

  pub idle_below : (p : Place) (idle : List (Option Target)) → AreIdle a idle → Stands a p → p.at < length idle
  idle_below p idle are stands = let inside = stands.1.inside in let all = are.all in omega arith

-- those that are found are idle

pub record FoundIdle (args : List ℕ) (branches : List Branch) (t : Target) : Type 0 where
  pub branch : Branch
  pub one : branches ≡ branch ∷ []
  pub alike : few_alike args branch.results ≡ true
  pub leads : t ≡ branch.target

alike_found : (args : List ℕ) (branch : Branch) (t : Target) (b : Bool) → few_alike args branch.results ≡ b → ◌≡◌ {A = Option Target} (if b then Some branch.target else None) (Some t) → FoundIdle args (branch ∷ []) t
alike_found args branch t true is same = record { branch = branch; one = refl; alike = is; leads = sym (same_Some branch.target t same) }
alike_found args branch t false is same = absurd (none-some t same)

branch_found : (args : List ℕ) (branches : List Branch) (t : Target) → idle_branch args branches ≡ Some t → FoundIdle args branches t
branch_found args [] t same = absurd (none-some t same)
branch_found args (branch ∷ []) t same = alike_found args branch t (few_alike args branch.results) refl same
branch_found args (branch ∷ other ∷ more) t same = absurd (none-some t same)

back_found : (args : List ℕ) (branches : List Branch) (t : Target) (b : Bool) → ◌≡◌ {A = Option Target} (if b then idle_branch args branches else None) (Some t) → (b ≡ true) × FoundIdle args branches t
back_found args branches t true same = (refl, branch_found args branches t same)
back_found args branches t false same = absurd (none-some t same)

sig_found : (args : List ℕ) (branches : List Branch) (t : Target) (o : Option Sig) → idle_by o args branches ≡ Some t → (sig : Sig) × (o ≡ Some sig) × (gives_back sig.libfunc ≡ true) × FoundIdle args branches t
sig_found args branches t None is = absurd (none-some t is)
sig_found args branches t (Some sig) is = let found = back_found args branches t (gives_back sig.libfunc) is in (sig, refl, found.0, found.1)

is_idle : (a : AcceptedView) (positions : List (List ℕ × ℕ)) → ((id : List ℕ) → found positions id ≡ place_among (map (λ d. d.id) a.program.libfuncs) id) → (s : ℕ) (t : Target) (statement : Statement)
    → slice_get a.program.statements s ≡ Some statement → idle_in positions a.sigs statement ≡ Some t → IsIdle a s t
is_idle a positions named s t (Return args) here is = absurd (none-some t is)
is_idle a positions named s t (Invoke id args branches) here is =
    let by = sig_found args branches t (option_and_then (slice_get a.sigs) (found positions id)) is in
    let at = by.3 in
    record {
      id = id;
      args = args;
      branch = at.branch;
      sig = by.0;
      here = here ∙ ap (λ (bs : List Branch). Some (Invoke id args bs)) at.one;
      declared_as = ap (option_and_then (slice_get a.sigs)) (sym (named id)) ∙ by.1;
      back = by.2;
      alike = at.alike;
      leads = at.leads;
    }

all_idle : (a : AcceptedView) (positions : List (List ℕ × ℕ)) → ((id : List ℕ) → found positions id ≡ place_among (map (λ d. d.id) a.program.libfuncs) id) → AreIdle a (map (idle_in positions a.sigs) a.program.statements)
all_idle a positions named = record {
  all = length-map a.program.statements (idle_in positions a.sigs);
  each = λ s t here. (let there = map_at (idle_in positions a.sigs) a.program.statements s (Some t) here in is_idle a positions named s t there.0 there.1 there.2);
}

pub idle_resolved : (a : AcceptedView) (program : Program) (libfuncs : List LibfuncDecl) (sigs : List Sig) (statements : List Statement) (positions : List (List ℕ × ℕ)) (result : List (Option Target)) → program ≡ a.program
    → libfuncs ≡ program.libfuncs → sigs ≡ a.sigs → statements ≡ program.statements → ((id : List ℕ) → found positions id ≡ place_among (map (λ d. d.id) libfuncs) id) → result ≡ map (idle_in positions sigs) statements → AreIdle a result
idle_resolved a program libfuncs sigs statements positions result same libs own_sigs stats named is =
    let all_libs : libfuncs ≡ a.program.libfuncs = libs ∙ ap (λ (p : Program). p.libfuncs) same in
    let all : statements ≡ a.program.statements = stats ∙ ap (λ (p : Program). p.statements) same in
    let own = subst (λ ds. (id : List ℕ) → found positions id ≡ place_among (map (λ d. d.id) ds) id) all_libs named in
    subst (AreIdle a) (sym (is ∙ ap (λ ss. map (idle_in positions ss) statements) own_sigs ∙ ap (map (idle_in positions a.sigs)) all)) (all_idle a positions own)

-- none of the others gives its arguments back
pub not_back : (libfunc : Libfunc) → (libfunc ≡ libfuncs.BranchAlign → ⊥) → (libfunc ≡ libfuncs.Jump → ⊥) → ((t : TypeId) → libfunc ≡ libfuncs.Rename t → ⊥) → ((t : TypeId) → libfunc ≡ libfuncs.StoreTemp t → ⊥)
    → (libfunc ≡ libfuncs.FinalizeLocals → ⊥) → (libfunc ≡ libfuncs.DisableApTracking → ⊥) → (libfunc ≡ libfuncs.EnableApTracking → ⊥) → ((num : Num) → libfunc ≡ libfuncs.UnwrapNonZero num → ⊥) → false ≡ gives_back libfunc
not_back libfuncs.BranchAlign a b c d e f g h = absurd (a refl)
not_back libfuncs.Jump a b c d e f g h = absurd (b refl)
not_back (libfuncs.Rename t) a b c d e f g h = absurd (c t refl)
not_back (libfuncs.StoreTemp t) a b c d e f g h = absurd (d t refl)
not_back libfuncs.FinalizeLocals a b c d e f g h = absurd (e refl)
not_back libfuncs.DisableApTracking a b c d e f g h = absurd (f refl)
not_back libfuncs.EnableApTracking a b c d e f g h = absurd (g refl)
not_back (libfuncs.UnwrapNonZero num) a b c d e f g h = absurd (h num refl)
not_back _ a b c d e f g h = refl
