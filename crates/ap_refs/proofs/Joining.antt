-- A list gives a typed program its places if and only if it fits the rules of the walk.
use Rattle.std.proofs.Common.{◌≡◌, ◌↔◌, ℕ, zero, suc, ◌+◌, ◌<◌, Bool, true, false, cond, IsTrue, IsFalse, List, [], ◌∷◌, length, map, Option, Some, None, option_map, unwrap_or, Result, Ok, Err, refl, sym, ap, subst, ◌∙◌, arith}
use Rattle.std.specs.List.{slice_get, All}
use Rattle.std.specs.Option.{option_or}
use Rattle.std.proofs.lemmas.Bool.{false≢true}
use Rattle.std.proofs.lemmas.Option.{none-some, same_Some, slice_get_within, some_pair_parts}
use Rattle.sierra_types.specs.declared.program.Program.{Program}
use Rattle.sierra_types.specs.declared.program.Function.{Function}
use Rattle.sierra_types.specs.declared.program.Statement.{Statement}
use Rattle.sierra_types.specs.declared.program.Statement.TheVariants.{Invoke, Return}
use Rattle.sierra_types.specs.declared.program.Branch.{Branch}
use Rattle.type_table.specs.View.{TypesView}
use Rattle.type_table.specs.declared.type_id.TypeId.{TypeId}
use Rattle.libfunc_registry.specs.declared.sig.Sig.{Sig}
use Rattle.libfunc_registry.specs.declared.libfunc.Libfunc.{Libfunc}
use Rattle.libfunc_registry.specs.Fam.{fam_of}
use Rattle.cost_table.specs.Fits.{IsCloseExpr, marks_of}
use Rattle.held_list.specs.Held.{Held}
use Rattle.statement_walk.specs.Annotates.{Reached, entry, along, Annotates, Follows}
use Rattle.statement_walk.proofs.Arrivals.{inside}
use Rattle.linear_check.specs.Statements.{declared, target_of, leads_of}
use Rattle.linear_check.specs.Typed.{IsReached, TypedList}
use Rattle.linear_check.specs.Typed.{entry as begins, along as leads}
use Rattle.ap_refs.specs.declared.fault.RefFault.{RefFault}
use Rattle.ap_refs.specs.declared.fault.RefFault.TheVariants.{NotOnStack, NotPlain, Dangling, OffsetTooFar, LocalRule}
use Rattle.ap_refs.specs.declared.place.Locals.{Locals}
use Rattle.ap_refs.specs.declared.place.Locals.TheVariants.{Before, Allocating, Done}
use Rattle.ap_refs.specs.declared.place.Place.{Place}
use Rattle.ap_refs.specs.Arguments.{Cells, Argument, taken, joined, first_far, first_off_top, first_unmarked, first_from_ap}
use Rattle.ap_refs.specs.Flow.{far_fault, stack_fault, mark_fault, is_call, form_fault, local_fault, left_fault, loses_ap, dangling_fault, invoke_fault, end_fault, end_faults, return_fault, branch_parts, parts_unless, stepped_parts, step_parts, taken_parts, invoke_parts, statement_flow, entries_from, rules}
use Rattle.ap_refs.specs.Locals.{local_step}
use Rattle.ap_refs.specs.Moves.{behind}
use Rattle.ap_refs.specs.Placed.{PlacedList, IsOnTop, AreMarked, AreFormed, IsFreeOfAp, IsAllocating, Ends, Passes, IsPlacedAt, Placed}
use Rattle.ap_refs.specs.Prepared.{IsTypedProgram}
use Rattle.ap_refs.proofs.Closeness.{no_far_fault, far_of}
use Rattle.ap_refs.proofs.Entries.{entry_of, entry_at}
use Rattle.ap_refs.proofs.Forms.{on_top, top_on, marked, none_unmarked, held_free, free_held}
use Rattle.ap_refs.proofs.Lawfulness.{or_none, none_or, local_none, step_none, invoked}

mapped_none : {A B : Type 0} (f : A → B) (o : Option A) → option_map f o ≡ None → o ≡ None
mapped_none f None is = refl
mapped_none f (Some x) is = absurd (none-some (f x) (sym is))

-- tests and what they say

far_none : (s : ℕ) (args : List Argument) → All IsCloseExpr (joined args) → far_fault s args ≡ None
far_none s args all = ap (option_map (OffsetTooFar s)) (far_of args all)

stack_says : (s : ℕ) (args : List Argument) → stack_fault s args ≡ None → IsOnTop (joined args)
stack_says s args is = on_top args (mapped_none (NotOnStack s) (first_off_top (length (joined args)) args) is)

stack_none : (s : ℕ) (args : List Argument) → IsOnTop (joined args) → stack_fault s args ≡ None
stack_none s args is = ap (option_map (NotOnStack s)) (top_on args is)

mark_says : (s : ℕ) (t : TypesView) (libfunc : Libfunc) (args : List Argument) → mark_fault s t libfunc args ≡ None → AreMarked (marks_of (fam_of t libfunc)) args
mark_says s t libfunc args is = marked (marks_of (fam_of t libfunc)) args (mapped_none (NotPlain s) (first_unmarked (marks_of (fam_of t libfunc)) args) is)

mark_none : (s : ℕ) (t : TypesView) (libfunc : Libfunc) (args : List Argument) → AreMarked (marks_of (fam_of t libfunc)) args → mark_fault s t libfunc args ≡ None
mark_none s t libfunc args are = ap (option_map (NotPlain s)) (none_unmarked (marks_of (fam_of t libfunc)) args are)

form_says : (s : ℕ) (t : TypesView) (libfunc : Libfunc) (args : List Argument) → form_fault s t libfunc args ≡ None → AreFormed t libfunc args
form_says s t libfunc args is = record {
  on_top = λ call. stack_says s args (ap (λ b. cond b (stack_fault s args) (mark_fault s t libfunc args)) (sym call) ∙ is);
  marked = λ other. mark_says s t libfunc args (ap (λ b. cond b (stack_fault s args) (mark_fault s t libfunc args)) (sym other) ∙ is);
}

form_cases : (b : Bool) (x y : Option RefFault) → (b ≡ true → x ≡ None) → (b ≡ false → y ≡ None) → cond b x y ≡ None
form_cases true x y first second = first refl
form_cases false x y first second = second refl

form_none : (s : ℕ) (t : TypesView) (libfunc : Libfunc) (args : List Argument) → AreFormed t libfunc args → form_fault s t libfunc args ≡ None
form_none s t libfunc args are =
    form_cases (is_call libfunc) (stack_fault s args) (mark_fault s t libfunc args) (λ call. stack_none s args (are.on_top call)) (λ other. mark_none s t libfunc args (are.marked other))

dangling_says : (s : ℕ) (libfunc : Libfunc) (rest : Held Cells) → dangling_fault s libfunc rest ≡ None → IsTrue (loses_ap libfunc) → IsFreeOfAp rest
dangling_says s libfunc rest is loses =
    held_free rest (mapped_none (Dangling s) (first_from_ap rest) (ap (λ b. cond b (left_fault s rest) None) (sym loses) ∙ is))

dangling_none : (s : ℕ) (libfunc : Libfunc) (rest : Held Cells) → (IsTrue (loses_ap libfunc) → IsFreeOfAp rest) → dangling_fault s libfunc rest ≡ None
dangling_none s libfunc rest free = form_cases (loses_ap libfunc) (left_fault s rest) None (λ loses. ap (option_map (Dangling s)) (free_held rest (free loses))) (λ _. refl)

end_says : (s : ℕ) (locals : Locals) → end_fault s locals ≡ None → ¬ IsAllocating locals
end_says s Before is bad = bad
end_says s (Allocating start cells) is bad = none-some (LocalRule s) (sym is)
end_says s Done is bad = bad

end_none : (s : ℕ) (locals : Locals) → ¬ IsAllocating locals → end_fault s locals ≡ None
end_none s Before is = refl
end_none s (Allocating start cells) is = absurd (is tt)
end_none s Done is = refl

-- parts

unless_follows : (at : ℕ → Option (ℕ × Place)) (f : ℕ) (fault : Option RefFault) (parts : List (Result (ℕ × Place) RefFault)) → Follows at f (parts_unless fault parts) → (fault ≡ None) × Follows at f parts
unless_follows at f None parts follows = (refl, follows)
unless_follows at f (Some x) parts follows = absurd follows

follows_unless : (at : ℕ → Option (ℕ × Place)) (f : ℕ) (fault : Option RefFault) (parts : List (Result (ℕ × Place) RefFault)) → fault ≡ None → Follows at f parts → Follows at f (parts_unless fault parts)
follows_unless at f fault parts none follows = subst (λ x. Follows at f (parts_unless x parts)) (sym none) follows

module _ (at : ℕ → Option (ℕ × Place)) (f : ℕ) (t : TypesView) (s : ℕ) (libfunc : Libfunc) (place : Place) (args : Cells) (rest : Held Cells) (locals : Locals) (amount : ℕ) where
  abbrev Gives : ℕ → List Branch → List (List TypeId) → Type 0
  Gives n bs tss = (k : ℕ) (b : Branch) (types : List TypeId) → slice_get bs k ≡ Some b → slice_get tss k ≡ Some types
      → at (target_of s b.target) ≡ Some (f, behind t libfunc place args rest locals amount (n + k) b.results types)

  follows_gives : (n : ℕ) (bs : List Branch) (tss : List (List TypeId)) → Follows at f (branch_parts t s libfunc place args rest locals amount n bs tss) → Gives n bs tss
  follows_gives n [] tss follows k b types is there = absurd (none-some b is)
  follows_gives n (c ∷ bs) [] follows k b types is there = absurd (none-some types there)
  follows_gives n (c ∷ bs) (ts ∷ tss) follows zero b types is there =
      let first = same_Some c b is in
      let second = same_Some ts types there in
      let same : n ≡ n + 0 = omega arith in
      subst (λ b. at (target_of s b.target) ≡ Some (f, behind t libfunc place args rest locals amount (n + 0) b.results types)) first
      (subst (λ types. at (target_of s c.target) ≡ Some (f, behind t libfunc place args rest locals amount (n + 0) c.results types)) second
      (subst (λ m. at (target_of s c.target) ≡ Some (f, behind t libfunc place args rest locals amount m c.results ts)) same follows.0))
  follows_gives n (c ∷ bs) (ts ∷ tss) follows (suc k) b types is there =
      let same : (n + 1) + k ≡ n + suc k = omega arith in
      subst (λ m. at (target_of s b.target) ≡ Some (f, behind t libfunc place args rest locals amount m b.results types)) same (follows_gives (n + 1) bs tss follows.1 k b types is there)

  gives_follows : (n : ℕ) (bs : List Branch) (tss : List (List TypeId)) → Gives n bs tss → Follows at f (branch_parts t s libfunc place args rest locals amount n bs tss)
  gives_follows n [] tss gives = tt
  gives_follows n (c ∷ bs) [] gives = tt
  gives_follows n (c ∷ bs) (ts ∷ tss) gives =
      let same : n + 0 ≡ n = omega arith in (
        subst (λ m. at (target_of s c.target) ≡ Some (f, behind t libfunc place args rest locals amount m c.results ts)) same (gives 0 c ts refl refl),
        gives_follows (n + 1) bs tss (λ k b types is there.
            (let next : n + suc k ≡ (n + 1) + k = omega arith in
            subst (λ m. at (target_of s b.target) ≡ Some (f, behind t libfunc place args rest locals amount m b.results types)) next (gives (suc k) b types is there))),
      )

passes : (t : TypesView) (a : PlacedList) (f s : ℕ) (place : Place) (sig : Sig) (bs : List Branch) (args : List Argument) (rest : Held Cells) → Follows (slice_get a) f (taken_parts t s sig place bs (args, rest)) → Passes t a f s place sig bs args rest
passes t a f s place sig bs args rest follows =
    let step = local_step t sig.libfunc place.ap place.locals in
    let parts = unless_follows (slice_get a) f (invoke_fault s t sig.libfunc args rest step) (stepped_parts t s sig place args rest bs step) follows in
    let none = step_none s t sig.libfunc args rest step parts.0 in
    let some = local_none s step none.2 in
    let given : Follows (slice_get a) f (stepped_parts t s sig place args rest bs (Some some.0)) = subst (λ o. Follows (slice_get a) f (stepped_parts t s sig place args rest bs o)) some.1 parts.1 in
    record {
      close = no_far_fault s args none.0;
      formed = form_says s t sig.libfunc args none.1;
      locals = some.0.0;
      amount = some.0.1;
      local = some.1;
      leaves = dangling_says s sig.libfunc rest none.3;
      gives = λ k b types is there.
          (let same : 0 + k ≡ k = omega arith in
          subst (λ m. slice_get a (target_of s b.target) ≡ Some (f, behind t sig.libfunc place (joined args) rest some.0.0 some.0.1 m b.results types)) same
          (follows_gives (slice_get a) f t s sig.libfunc place (joined args) rest some.0.0 some.0.1 0 bs sig.branches given k b types is there));
    }

passes_follow : (t : TypesView) (a : PlacedList) (f s : ℕ) (place : Place) (sig : Sig) (bs : List Branch) (args : List Argument) (rest : Held Cells) → Passes t a f s place sig bs args rest → Follows (slice_get a) f (taken_parts t s sig place bs (args, rest))
passes_follow t a f s place sig bs args rest pass =
    let step = local_step t sig.libfunc place.ap place.locals in
    let far = far_fault s args in
    let form = form_fault s t sig.libfunc args in
    let local : local_fault s step ≡ None = ap (local_fault s) pass.local in
    let none = none_or (option_or (option_or far form) (local_fault s step)) (dangling_fault s sig.libfunc rest)
    (none_or (option_or far form) (local_fault s step) (none_or far form (far_none s args pass.close) (form_none s t sig.libfunc args pass.formed)) local)
    (dangling_none s sig.libfunc rest pass.leaves) in
    follows_unless (slice_get a) f (invoke_fault s t sig.libfunc args rest step) (stepped_parts t s sig place args rest bs step) none
    (subst (λ o. Follows (slice_get a) f (stepped_parts t s sig place args rest bs o)) (sym pass.local)
    (gives_follows (slice_get a) f t s sig.libfunc place (joined args) rest pass.locals pass.amount 0 bs sig.branches (λ k b types is there.
    (let same : k ≡ 0 + k = omega arith in
    subst (λ m. slice_get a (target_of s b.target) ≡ Some (f, behind t sig.libfunc place (joined args) rest pass.locals pass.amount m b.results types)) same (pass.gives k b types is there)))))

follows_placed : (p : Program) (t : TypesView) (sigs : List Sig) (a : PlacedList) (s f : ℕ) (place : Place) (statement : Statement) → ((id args : List ℕ) (bs : List Branch) → statement ≡ Invoke id args bs → (sig : Sig) × (declared p sigs id ≡ Some sig))
    → Follows (slice_get a) f (statement_flow p t sigs s place (Some statement)) → IsPlacedAt p t sigs a f s place statement
follows_placed p t sigs a s f place (Return args) known follows =
    let taken_args = (taken args place.cells).0 in
    let far = far_fault s taken_args in
    let stack = stack_fault s taken_args in
    let none = (unless_follows (slice_get a) f (return_fault s place taken_args) [] follows).0 in
    let one = or_none (option_or far stack) (end_fault s place.locals) none in
    let two = or_none far stack one.0 in
    record { close = no_far_fault s taken_args two.0; on_top = stack_says s taken_args two.1; reserved = end_says s place.locals one.1 }
follows_placed p t sigs a s f place (Invoke id args bs) known follows =
    let sig = known id args bs refl in
    let here : Follows (slice_get a) f (invoke_parts t s args bs place (Some sig.0)) = subst (λ d. Follows (slice_get a) f (invoke_parts t s args bs place d)) sig.1 follows in
    (sig.0, sig.1, passes t a f s place sig.0 bs (taken args place.cells).0 (taken args place.cells).1 here)

placed_follows : (p : Program) (t : TypesView) (sigs : List Sig) (a : PlacedList) (s f : ℕ) (place : Place) (statement : Statement) → IsPlacedAt p t sigs a f s place statement → Follows (slice_get a) f (statement_flow p t sigs s place (Some statement))
placed_follows p t sigs a s f place (Return args) ends =
    let taken_args = (taken args place.cells).0 in
    let far = far_fault s taken_args in
    let stack = stack_fault s taken_args in
    follows_unless (slice_get a) f (return_fault s place taken_args) []
    (none_or (option_or far stack) (end_fault s place.locals) (none_or far stack (far_none s taken_args ends.close) (stack_none s taken_args ends.on_top)) (end_none s place.locals ends.reserved)) tt
placed_follows p t sigs a s f place (Invoke id args bs) placed =
    subst (λ d. Follows (slice_get a) f (invoke_parts t s args bs place d)) (sym placed.1)
    (passes_follow t a f s place placed.0 bs (taken args place.cells).0 (taken args place.cells).1 placed.2)

-- what is reached

entry_there : (p : Program) (t : TypesView) (i : ℕ) (g : Function) → slice_get p.functions i ≡ Some g → slice_get (entries_from t 0 p.functions) i ≡ Some (entry_of t i g)
entry_there p t i g is = entry_at t p.functions 0 i i (omega arith) ∙ ap (option_map (entry_of t i)) is

reached : (p : Program) (t : TypesView) (sigs : List Sig) (s : ℕ) → IsReached p s → Reached (rules p t sigs) s
reached p t sigs u (begins f g is) = entry f g.entry (entry_of t f g).1 (entry_there p t f g is)
reached p t sigs u (leads k s v statement before is lead) =
    along k s v (reached p t sigs s before) (ap (λ o. slice_get (unwrap_or (option_map (leads_of s) o) []) k) is ∙ lead)

mapped_some : {A B : Type 0} (f : A → B) (o : Option A) (y : B) → option_map f o ≡ Some y → (x : A) × (o ≡ Some x) × (f x ≡ y)
mapped_some f None y is = absurd (none-some y is)
mapped_some f (Some x) y is = (x, refl, same_Some (f x) y is)

some_invoked : (p : Program) (t : TypesView) (sigs : List Sig) (envs : TypedList) → IsTypedProgram p t sigs envs → (s : ℕ) (statement : Statement) → slice_get p.statements s ≡ Some statement
    → (id args : List ℕ) (bs : List Branch) → statement ≡ Invoke id args bs → (sig : Sig) × (declared p sigs id ≡ Some sig)
some_invoked p t sigs envs program s statement is id args bs same =
    let here : slice_get p.statements s ≡ Some (Invoke id args bs) = is ∙ ap Some same in
    let invokes = (invoked p t sigs envs program.typed s (slice_get_within p.statements s (Invoke id args bs) here) id args bs here).2 in
    (invokes.sig, invokes.declared_as)

placed_fits : (p : Program) (t : TypesView) (sigs : List Sig) (envs : TypedList) → IsTypedProgram p t sigs envs → (a : PlacedList) → Placed p t sigs a → Annotates (rules p t sigs) a
placed_fits p t sigs envs program a placed = record {
  long = placed.long;
  begins = λ i s e is.
      (let found = mapped_some (entry_of t i) (slice_get p.functions i) (s, e) (sym (entry_at t p.functions 0 i i (omega arith)) ∙ is) in
      let parts = some_pair_parts found.0.entry s (entry_of t i found.0).1 e (ap Some found.2) in
      subst (λ u. slice_get a u ≡ Some (i, e)) parts.0 (placed.entries i found.0 found.1 ∙ ap (λ h. Some (i, h)) parts.1));
  flows = λ s f e is.
      (let at = inside p.statements s (subst (λ n. s < n) placed.long (slice_get_within a s (f, e) is)) in
      subst (λ o. Follows (slice_get a) f (statement_flow p t sigs s e o)) (sym at.1) (placed_follows p t sigs a s f e at.0 (placed.statements s f e at.0 at.1 is)));
  reached = λ s lt. reached p t sigs s (program.typed.reached s lt);
}

fits_placed : (p : Program) (t : TypesView) (sigs : List Sig) (envs : TypedList) → IsTypedProgram p t sigs envs → (a : PlacedList) → Annotates (rules p t sigs) a → Placed p t sigs a
fits_placed p t sigs envs program a fits = record {
  long = fits.long;
  entries = λ f g is. fits.begins f g.entry (entry_of t f g).1 (entry_there p t f g is);
  statements = λ s f place statement is there.
      follows_placed p t sigs a s f place statement (some_invoked p t sigs envs program s statement is)
      (subst (λ o. Follows (slice_get a) f (statement_flow p t sigs s place o)) is (fits.flows s f place there));
}

pub placed_by_rules : (p : Program) (t : TypesView) (sigs : List Sig) (envs : TypedList) → IsTypedProgram p t sigs envs → (a : PlacedList) → Placed p t sigs a ↔ Annotates (rules p t sigs) a
placed_by_rules p t sigs envs program a = (placed_fits p t sigs envs program a, fits_placed p t sigs envs program a)
