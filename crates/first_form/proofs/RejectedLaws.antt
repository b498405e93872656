-- Of each run with at most as many states as a run may have, either it is accepted, or it is rejected for one fault.
use Rattle.std.proofs.Common.{◌≡◌, ◌⊎◌, ◌↔◌, inl, inr, ℕ, zero, suc, ◌+◌, ◌<◌, List, [], ◌∷◌, length, take, drop, Option, Some, Result, Ok, Err, IfErr, OnOk, refl, sym, ap, subst, ◌∙◌, arith, add-zero, zero-add, slice_get}
use Rattle.std.proofs.Math.Nat.{suc-add}
use Rattle.std.specs.Prelude.{IsOk}
use Rattle.std.proofs.lemmas.Bool.{cases_lt}
use Rattle.felt64.specs.Field.{sum, difference}
use Rattle.ro_machine.specs.declared.machine.State.{State}
use Rattle.ro_machine.specs.Readings.{cells_at}
use Rattle.ro_machine.proofs.StepLaws.{step_functional, stops_no_step, stops_functional}
use Rattle.first_form.specs.declared.accepted.CheckFault.{CheckFault}
use Rattle.first_form.specs.declared.accepted.CheckFault.TheVariants as faults
use Rattle.first_form.specs.Accepted.{HoldsCode, StartsAt, ArgumentsStand, GoesOn, AllGoOn, Ends, AllInRange, Accepts}
use Rattle.first_form.specs.Rejected.{CodeFails, StartFails, ArgumentFails, ArgumentsFail, StateFails, StatesFail, FinalFails, RangeFails, Rejects}
use Rattle.first_form.specs.Values.{Num, Ty, number, Val, Number, size, sizes, Stands, StandAll}
use Rattle.first_form.proofs.AcceptedLaws.{one_in}

-- of two places that each come first, neither is before the other
one_place : (i j : ℕ) → (i < j → ⊥) → (j < i → ⊥) → i ≡ j
one_place i j not_before not_behind = elim (cases_lt i j) [
  | inl before ↦ absurd (not_before before)
  | inr not ↦ elim (cases_lt j i) [ inl behind ↦ absurd (not_behind behind) | inr none ↦ omega arith ]
]

-- ---- code

code_holds : (m : ℕ → Option ℕ) (code : List ℕ) (f : CheckFault) → CodeFails m code f → HoldsCode m code → ⊥
code_holds m code f (k, named, within, differs, before) holds = differs (holds k within)

code_once : (m : ℕ → Option ℕ) (code : List ℕ) (f g : CheckFault) → CodeFails m code f → CodeFails m code g → f ≡ g
code_once m code f g (k, f_is, k_within, k_differs, before_k) (j, g_is, j_within, j_differs, before_j) =
    f_is ∙ ap faults.CodeCell (one_place k j (λ before. k_differs (before_j k before)) (λ behind. j_differs (before_k j behind))) ∙ sym g_is

-- ---- start

one_start : (states : List State) (a b : ℕ) → StartsAt states a → StartsAt states b → a ≡ b
one_start states a b at_a at_b = ap (λ s. s.ap) (one_in _ _ _ at_a at_b)

-- ---- arguments

-- the first cells of several, and those behind them
take_cells : (m : ℕ → Option ℕ) (base k n rest : ℕ) → take n (cells_at m base k (n + rest)) ≡ cells_at m base k n
take_cells m base k zero rest = refl
take_cells m base k (suc n) rest = rw suc-add (ap (λ cells. m (sum base k) ∷ cells) (take_cells m base (k + 1) n rest))

drop_cells : (m : ℕ → Option ℕ) (base k n rest : ℕ) → drop n (cells_at m base k (n + rest)) ≡ cells_at m base (k + n) rest
drop_cells m base k zero rest = rw (zero-add, add-zero) refl
drop_cells m base k (suc n) rest =
    let place : k + 1 + n ≡ k + suc n = omega arith in
    rw suc-add (drop_cells m base (k + 1) n rest ∙ ap (λ j. cells_at m base j rest) place)

same_head : {X : Type 0} (x y : X) (xs ys : List X) → x ∷ xs ≡ y ∷ ys → x ≡ y
same_head x y xs ys same = cc

same_tail : {X : Type 0} (x y : X) (xs ys : List X) → x ∷ xs ≡ y ∷ ys → xs ≡ ys
same_tail x y xs ys same = cc

same_number : (kind : Num) (n p : ℕ) → Number kind n ≡ Number kind p → n ≡ p
same_number kind n p same = cc

argument_stands : (m : ℕ → Option ℕ) (ty : Ty) (base k : ℕ) (v : Val) (f : CheckFault) → ArgumentFails m ty base k v f → Stands m ty (cells_at m base k (size ty)) v → ⊥
argument_stands m (number kind) base k v f (n, v_is, differs, named) (p, cells_are, v_is', fits) =
    let same = same_number kind n p (sym v_is ∙ v_is') in
    differs (same_head (m (sum base k)) (Some p) [] [] cells_are ∙ ap Some (sym same))

argument_once : (m : ℕ → Option ℕ) (ty : Ty) (base k : ℕ) (v : Val) (f g : CheckFault) → ArgumentFails m ty base k v f → ArgumentFails m ty base k v g → f ≡ g
argument_once m (number kind) base k v f g (n, v_is, differs, f_is) (p, v_is', differs', g_is) =
    let same = same_number kind n p (sym v_is ∙ v_is') in
    f_is ∙ ap (λ w. faults.ArgCells (sum base k) (Some w) (m (sum base k))) same ∙ sym g_is

arguments_stand : (m : ℕ → Option ℕ) (types : List Ty) (base k : ℕ) (vs : List Val) (f : CheckFault) → ArgumentsFail m types base k vs f → StandAll m types (cells_at m base k (sizes types)) vs → ⊥
arguments_stand m [] base k vs f fails stands = fails
arguments_stand m (ty ∷ types) base k vs f (v, rest, vs_are, fails) (v', rest', vs_are', stands, rest_stands) =
    let same = same_head v v' rest rest' (sym vs_are ∙ vs_are') in
    let same_rest = same_tail v v' rest rest' (sym vs_are ∙ vs_are') in
    elim fails [
      | inl first ↦ argument_stands m ty base k v f first (subst (λ u. Stands m ty (cells_at m base k (size ty)) u) (sym same) (subst (λ cells. Stands m ty cells v') (take_cells m base k (size ty) (sizes types)) stands))
      | inr later ↦ arguments_stand m types base (k + size ty) rest f later.1
          (subst (λ us. StandAll m types (cells_at m base (k + size ty) (sizes types)) us) (sym same_rest) (subst (λ cells. StandAll m types cells rest') (drop_cells m base k (size ty) (sizes types)) rest_stands))
    ]

arguments_once : (m : ℕ → Option ℕ) (types : List Ty) (base k : ℕ) (vs : List Val) (f g : CheckFault) → ArgumentsFail m types base k vs f → ArgumentsFail m types base k vs g → f ≡ g
arguments_once m [] base k vs f g f_fails g_fails = absurd f_fails
arguments_once m (ty ∷ types) base k vs f g (v, rest, vs_are, f_fails) (v', rest', vs_are', g_fails) =
    let same = same_head v' v rest' rest (sym vs_are' ∙ vs_are) in
    let same_rest = same_tail v' v rest' rest (sym vs_are' ∙ vs_are) in
    let g_of_v : ArgumentFails m ty base k v g ⊎ (Stands m ty (cells_at m base k (size ty)) v × ArgumentsFail m types base (k + size ty) rest g) =
    subst (λ us. ArgumentFails m ty base k v g ⊎ (Stands m ty (cells_at m base k (size ty)) v × ArgumentsFail m types base (k + size ty) us g)) same_rest
    (subst (λ u. ArgumentFails m ty base k u g ⊎ (Stands m ty (cells_at m base k (size ty)) u × ArgumentsFail m types base (k + size ty) rest' g)) same g_fails) in
    elim f_fails [
      | inl f_first ↦ elim g_of_v [
        | inl g_first ↦ argument_once m ty base k v f g f_first g_first
        | inr g_later ↦ absurd (argument_stands m ty base k v f f_first g_later.0)
      ]
      | inr f_later ↦ elim g_of_v [
        | inl g_first ↦ absurd (argument_stands m ty base k v g g_first f_later.0)
        | inr g_later ↦ arguments_once m types base (k + size ty) rest f g f_later.1 g_later.1
      ]
    ]

-- ---- states

state_goes : (m : ℕ → Option ℕ) (i : ℕ) (s follower : State) (f : CheckFault) → StateFails m i s follower f → GoesOn m s follower → ⊥
state_goes m i s follower f (inl early) goes = goes.not_early early.1
state_goes m i s follower f (inr (not_early, inl (stop, named, stops))) goes = stops_no_step m s goes.next stop stops goes.step
state_goes m i s follower f (inr (not_early, inr (next, step, named, differs))) goes = differs (goes.next_is ∙ step_functional m s goes.next next goes.step step)

state_once : (m : ℕ → Option ℕ) (i : ℕ) (s follower : State) (f g : CheckFault) → StateFails m i s follower f → StateFails m i s follower g → f ≡ g
state_once m i s follower f g (inl f_early) (inl g_early) = f_early.0 ∙ sym g_early.0
state_once m i s follower f g (inl f_early) (inr (not_early, g_later)) = absurd (not_early f_early.1)
state_once m i s follower f g (inr (not_early, f_later)) (inl g_early) = absurd (not_early g_early.1)
state_once m i s follower f g (inr (not_early, inl (stop, f_is, stops))) (inr (not_early', inl (stop', g_is, stops'))) =
    f_is ∙ ap (faults.Step i) (stops_functional m s stop stop' stops stops') ∙ sym g_is
state_once m i s follower f g (inr (not_early, inl (stop, f_is, stops))) (inr (not_early', inr (next, step, g_is, differs))) = absurd (stops_no_step m s next stop stops step)
state_once m i s follower f g (inr (not_early, inr (next, step, f_is, differs))) (inr (not_early', inl (stop, g_is, stops))) = absurd (stops_no_step m s next stop stops step)
state_once m i s follower f g (inr (not_early, inr (next, step, f_is, differs))) (inr (not_early', inr (next', step', g_is, differs'))) = f_is ∙ sym g_is

states_go : (m : ℕ → Option ℕ) (states : List State) (f : CheckFault) → StatesFail m states f → AllGoOn m states → ⊥
states_go m states f (i, s, follower, pair, fails, before) go = state_goes m i s follower f fails (go i s follower pair)

-- one state stands at a place
one_state : (states : List State) (i j : ℕ) (s t : State) → i ≡ j → slice_get states i ≡ Some s → slice_get states j ≡ Some t → t ≡ s
one_state states i j s t place s_is t_is = one_in (slice_get states j) t s t_is (ap (slice_get states) (sym place) ∙ s_is)

states_once : (m : ℕ → Option ℕ) (states : List State) (f g : CheckFault) → StatesFail m states f → StatesFail m states g → f ≡ g
states_once m states f g (i, s, follower, pair, fails, before) (j, s', follower', pair', fails', before') =
    let place = one_place i j (λ earlier. state_goes m i s follower f fails (before' i s follower earlier pair)) (λ later. state_goes m j s' follower' g fails' (before j s' follower' later pair')) in
    let same = one_state states i j s s' place pair.here pair'.here in
    let same_follower = one_state states (i + 1) (j + 1) follower follower' (ap (λ k. k + 1) place) pair.after pair'.after in
    state_once m i s follower f g fails
    (subst (λ t. StateFails m i s t g) same_follower (subst (λ t. StateFails m i t follower' g) same (subst (λ k. StateFails m k s' follower' g) (sym place) fails')))

-- ---- range-check cells

range_holds : (m : ℕ → Option ℕ) (rc count : ℕ) (f : CheckFault) → RangeFails m rc count f → AllInRange m rc count → ⊥
range_holds m rc count f (k, word, named, within, listed, beyond, before) all = let below = all k within word listed in omega arith

range_once : (m : ℕ → Option ℕ) (rc count : ℕ) (f g : CheckFault) → RangeFails m rc count f → RangeFails m rc count g → f ≡ g
range_once m rc count f g (k, word, f_is, within, listed, beyond, before) (j, word', g_is, within', listed', beyond', before') =
    let place = one_place k j (λ earlier. let below = before' k earlier word listed in omega arith) (λ later. let below = before j later word' listed' in omega arith) in
    let same = one_in (m (sum rc j)) word word' (ap (λ i. m (sum rc i)) (sym place) ∙ listed) listed' in
    f_is ∙ ap (λ i. faults.RangeCell (sum rc i) word) place ∙ ap (faults.RangeCell (sum rc j)) same ∙ sym g_is

-- ---- all parts

module _ (code : List ℕ) (types : List Ty) (arguments : List Val) (rc : ℕ) (m : ℕ → Option ℕ) (states : List State) where
  abbrev FromRange : CheckFault → Type 0
  FromRange f = RangeFails m rc (length states) f

  abbrev FromFinal : CheckFault → Type 0
  FromFinal f = FinalFails states f ⊎ (Ends states × FromRange f)

  abbrev FromStates : CheckFault → Type 0
  FromStates f = StatesFail m states f ⊎ (AllGoOn m states × FromFinal f)

  abbrev FromArguments : ℕ → CheckFault → Type 0
  FromArguments base f = ArgumentsFail m types (difference base (sizes types)) 0 arguments f ⊎ (ArgumentsStand m base types arguments × FromStates f)

  abbrev FromStart : CheckFault → Type 0
  FromStart f = StartFails states f ⊎ ((base : ℕ) × StartsAt states base × FromArguments base f)

  final_once : (f g : CheckFault) → FromFinal f → FromFinal g → f ≡ g
  final_once f g (inl a) (inl b) = a.0 ∙ sym b.0
  final_once f g (inl a) (inr b) = absurd (a.1 b.0)
  final_once f g (inr a) (inl b) = absurd (b.1 a.0)
  final_once f g (inr a) (inr b) = range_once m rc (length states) f g a.1 b.1

  states_on : (f g : CheckFault) → FromStates f → FromStates g → f ≡ g
  states_on f g (inl a) (inl b) = states_once m states f g a b
  states_on f g (inl a) (inr b) = absurd (states_go m states f a b.0)
  states_on f g (inr a) (inl b) = absurd (states_go m states g b a.0)
  states_on f g (inr a) (inr b) = final_once f g a.1 b.1

  arguments_on : (base : ℕ) (f g : CheckFault) → FromArguments base f → FromArguments base g → f ≡ g
  arguments_on base f g (inl a) (inl b) = arguments_once m types (difference base (sizes types)) 0 arguments f g a b
  arguments_on base f g (inl a) (inr b) = absurd (arguments_stand m types (difference base (sizes types)) 0 arguments f a b.0)
  arguments_on base f g (inr a) (inl b) = absurd (arguments_stand m types (difference base (sizes types)) 0 arguments g b a.0)
  arguments_on base f g (inr a) (inr b) = states_on f g a.1 b.1

  start_once : (f g : CheckFault) → FromStart f → FromStart g → f ≡ g
  start_once f g (inl a) (inl b) = a.0 ∙ sym b.0
  start_once f g (inl a) (inr b) = absurd (a.1 b.0 b.1)
  start_once f g (inr a) (inl b) = absurd (b.1 a.0 a.1)
  start_once f g (inr a) (inr b) = arguments_on a.0 f g a.2 (subst (λ base. FromArguments base g) (one_start states b.0 a.0 b.1 a.1) b.2)

  -- a run is rejected for one fault
  pub rejected_once : (f g : CheckFault) → Rejects code types arguments rc m states f → Rejects code types arguments rc m states g → f ≡ g
  rejected_once f g (inl a) (inl b) = code_once m code f g a b
  rejected_once f g (inl a) (inr b) = absurd (code_holds m code f a b.0)
  rejected_once f g (inr a) (inl b) = absurd (code_holds m code g b a.0)
  rejected_once f g (inr a) (inr b) = start_once f g a.1 b.1

  -- a rejected run isn't accepted
  pub not_both : (f : CheckFault) → Rejects code types arguments rc m states f → Accepts code types arguments rc m states → ⊥
  not_both f (inl fails) accepts = code_holds m code f fails accepts.code_cells
  not_both f (inr (code_cells, inl fails)) accepts = fails.1 accepts.base accepts.start
  not_both f (inr (code_cells, inr (base, start, inl fails))) accepts =
      let same = one_start states accepts.base base accepts.start start in
      arguments_stand m types (difference base (sizes types)) 0 arguments f fails (subst (λ b. ArgumentsStand m b types arguments) same accepts.argument_cells)
  not_both f (inr (code_cells, inr (base, start, inr (argument_cells, inl fails)))) accepts = states_go m states f fails accepts.goes_on
  not_both f (inr (code_cells, inr (base, start, inr (argument_cells, inr (goes_on, inl fails))))) accepts = fails.1 accepts.final
  not_both f (inr (code_cells, inr (base, start, inr (argument_cells, inr (goes_on, inr (final, fails)))))) accepts = range_holds m rc (length states) f fails accepts.range_cells

  -- so a result that is Ok of accepted runs alone, and a fault of runs rejected for it alone, is each of them exactly there
  pub exact_result : (r : Result (Unit {0}) CheckFault) → OnOk r (Accepts code types arguments rc m states) → IfErr r (Rejects code types arguments rc m states) →
      (IsOk r ↔ Accepts code types arguments rc m states) × ((f : CheckFault) → (r ≡ Err f) ↔ Rejects code types arguments rc m states f)
  exact_result (Ok u) accepts rejects = ((λ ok. accepts, λ a. refl), λ f. (λ is. cc, λ rejected. absurd (not_both f rejected accepts)))
  exact_result (Err e) accepts rejects = (
    (λ ok. cc, λ a. absurd (not_both e rejects a)),
    λ f. (λ is. let same : e ≡ f = cc in subst (Rejects code types arguments rc m states) same rejects, λ rejected. ap Err (rejected_once e f rejects rejected)),
  )
