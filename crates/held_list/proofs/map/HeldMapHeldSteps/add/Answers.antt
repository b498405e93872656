use Rattle.std.proofs.Common.{◌≡◌, ℕ, Option, Some, None, is_some, true, false, Result, Ok, Err, refl, sym, ap, subst, ◌∙◌, arith}
use Rattle.std.specs.BTreeMap.{insert_entry, is_at}
use Rattle.std.specs.Map.{lookup}
use Rattle.std.specs.Ordering.{nat_cmp}
use Rattle.std.specs.Result.{IsErrAnd}
use Rattle.std.proofs.lemmas.Bool.{false≢true}
use Rattle.std.proofs.lemmas.Option.{none-some}
use Rattle.held_list.specs.Held.{Held, IsRising}
use Rattle.held_list.specs.Editing.{add}
use Rattle.held_list.specs.declared.held.AddFault.{AddFault}
use Rattle.held_list.specs.declared.held.AddFault.TheVariants.{Taken, Memory}
use Rattle.held_list.proofs.Maps.{add_inserts, add_refuses}
use Rattle.held_list.proofs.Rising.{add_rises}
use Rattle.held_list.proofs.map.HeldMapHeldSteps.add.Goals as goal

-- a variable that the map has isn't added
refused : {A : Type 0} (xs : Held A) (v : ℕ) (a : A) (o : Option A) → IsRising xs → lookup (is_at (nat_cmp v)) xs ≡ o → is_some o ≡ true → add v a xs ≡ None
refused xs v a None rises is some = absurd (false≢true some)
refused xs v a (Some b) rises is some = add_refuses xs 0 v a b rises is

-- and one that it hasn't is
inserted : {A : Type 0} (xs : Held A) (v : ℕ) (a : A) (o : Option A) → IsRising xs → lookup (is_at (nat_cmp v)) xs ≡ o → is_some o ≡ false → add v a xs ≡ Some (insert_entry nat_cmp xs v a)
inserted xs v a None rises is none = add_inserts xs 0 v a rises is
inserted xs v a (Some b) rises is none = absurd (false≢true (sym none))

was_free : {X : Type 0} (o : Option X) (x : X) (r : Result (Unit {0}) AddFault) → o ≡ Some x → (r ≡ Err Taken → ⊥) → ((r ≡ Err Taken → o ≡ None) × (o ≡ None → r ≡ Err Taken))
was_free o x r free other = ((λ is. absurd (other is)), (λ none. absurd (none-some x (sym none ∙ free))))

no_room : (r : Result (Unit {0}) AddFault) → IsErrAnd r (λ fault. fault ≡ Memory) → r ≡ Err Taken → ⊥
no_room (Ok u) memory is = memory
no_room (Err fault) memory is = cc

pub returns-then-contains_key-clause-taken : goal.returns-then-contains_key-clause-taken
returns-then-contains_key-clause-taken g c =
    ((λ _. ap (add c.args.variable c.args.payload) (sym c.self.view_is) ∙ refused _ c.args.variable c.args.payload _ c.self.invariant refl (sym c.contains_key.ensures ∙ c.if-contains_key.true)), (λ _. refl))

pub returns-in_err-put-clause-taken : goal.returns-in_err-put-clause-taken
returns-in_err-put-clause-taken g c =
    was_free _ _ _ (ap (add c.args.variable c.args.payload) (sym c.self.view_is) ∙ inserted _ c.args.variable c.args.payload _ c.self.invariant refl (sym c.contains_key.ensures ∙ c.if-contains_key.false)) (no_room _ c.from_residual.ensures.1)

pub invariant_of-self-2 : goal.invariant_of-self-2
invariant_of-self-2 g c =
    let made = inserted _ c.args.variable c.args.payload _ c.self.invariant refl (sym c.contains_key.ensures ∙ c.if-contains_key.false) in
    subst IsRising (sym c.in_ok-put.ensures.ok) (add_rises _ 0 _ _ _ (omega arith) c.self.invariant made)

pub returns-clause-ok : goal.returns-clause-ok
returns-clause-ok g c =
    ap (add c.args.variable c.args.payload) (sym c.self.view_is) ∙ inserted _ c.args.variable c.args.payload _ c.self.invariant refl (sym c.contains_key.ensures ∙ c.if-contains_key.false) ∙ ap Some (sym c.in_ok-put.ensures.ok)

pub returns-clause-taken : goal.returns-clause-taken
returns-clause-taken g c =
    was_free _ _ _ (ap (add c.args.variable c.args.payload) (sym c.self.view_is) ∙ inserted _ c.args.variable c.args.payload _ c.self.invariant refl (sym c.contains_key.ensures ∙ c.if-contains_key.false)) (λ is. cc)
