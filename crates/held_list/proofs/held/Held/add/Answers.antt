use Rattle.std.proofs.Common.{◌≡◌, ℕ, Option, Some, None, Result, Ok, Err, refl, sym, ap, ◌∙◌, arith}
use Rattle.std.specs.List.{insert}
use Rattle.std.specs.Result.{IsErrAnd}
use Rattle.std.proofs.lemmas.Option.{none-some}
use Rattle.held_list.specs.Held.{Held}
use Rattle.held_list.specs.Editing.{add}
use Rattle.held_list.specs.Places.{IsGap}
use Rattle.held_list.specs.declared.held.AddFault.{AddFault}
use Rattle.held_list.specs.declared.held.AddFault.TheVariants.{Taken, Memory}
use Rattle.held_list.proofs.Placing.{gap_within, add-at, add-gap}
use Rattle.held_list.proofs.Rising.{add_rises}
use Rattle.held_list.proofs.held.Held.add.Goals as goal

-- what was free is not answered as taken
was_free : {X : Type 0} (o : Option X) (x : X) (r : Result (Unit {0}) AddFault) → o ≡ Some x → (r ≡ Err Taken → ⊥) → ((r ≡ Err Taken → o ≡ None) × (o ≡ None → r ≡ Err Taken))
was_free o x r free other = ((λ is. absurd (other is)), (λ none. absurd (none-some x (sym none ∙ free))))

no_room : (r : Result (Unit {0}) AddFault) → IsErrAnd r (λ fault. fault ≡ Memory) → r ≡ Err Taken → ⊥
no_room (Ok u) memory is = memory
no_room (Err fault) memory is = cc

-- what is added at the place that was found
added : {A : Type 0} (pairs held deref : Held A) (v at : ℕ) (a : A) → deref ≡ pairs → pairs ≡ held → IsGap v deref at → add v a held ≡ Some (insert pairs at (v, a))
added pairs held deref v at a read view gap = ap (add v a) (sym view) ∙ add-gap pairs v at a (rw read at gap)

pub insert_at-requires : goal.insert_at-requires
insert_at-requires g c = omega (arith, gap_within _ _ _ c.in-Err.ensures, c.deref.ensures.len)

pub returns-in_err-insert_at-in-Err-clause-taken : goal.returns-in_err-insert_at-in-Err-clause-taken
returns-in_err-insert_at-in-Err-clause-taken g c = was_free _ _ _ (added _ _ _ _ _ c.args.payload c.deref.ensures.value c.self.view_is c.in-Err.ensures) (no_room _ c.from_residual.ensures.1)

pub invariant_of-self-in-Err : goal.invariant_of-self-in-Err
invariant_of-self-in-Err g c =
    let gap = rw c.deref.ensures.value at c.in-Err.ensures in
    rw c.in_ok-insert_at-in-Err.ensures.ok (add_rises _ 0 _ _ _ (omega arith) c.self.invariant (add-gap _ _ _ c.args.payload gap))

pub returns-in-Ok-clause-taken : goal.returns-in-Ok-clause-taken
returns-in-Ok-clause-taken g c =
    let at = rw c.deref.ensures.value at c.in-Ok.ensures in
    ((λ _. ap (add c.args.variable c.args.payload) (sym c.self.view_is) ∙ add-at _ _ _ c.args.payload at), (λ _. refl))

pub returns-in_ok-insert_at-in-Err-clause-ok : goal.returns-in_ok-insert_at-in-Err-clause-ok
returns-in_ok-insert_at-in-Err-clause-ok g c =
    added _ _ _ _ _ c.args.payload c.deref.ensures.value c.self.view_is c.in-Err.ensures ∙ ap Some (sym c.in_ok-insert_at-in-Err.ensures.ok)

pub returns-in_ok-insert_at-in-Err-clause-taken : goal.returns-in_ok-insert_at-in-Err-clause-taken
returns-in_ok-insert_at-in-Err-clause-taken g c = was_free _ _ _ (added _ _ _ _ _ c.args.payload c.deref.ensures.value c.self.view_is c.in-Err.ensures) (λ is. cc)
