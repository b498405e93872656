-- Each run with at most as many states as a run may have is accepted or rejected.
use Rattle.std.proofs.Common.{◌≡◌, ◌≢◌, ◌⊎◌, inl, inr, ℕ, zero, suc, ◌+◌, ◌-◌, ◌<◌, ◌≤◌, List, [], ◌∷◌, length, Option, Some, None, slice_get, refl, sym, ap, subst, ◌∙◌, arith}
use Rattle.std.proofs.lemmas.Bool.{cases_eq, cases_lt}
use Rattle.std.proofs.lemmas.Option.{slice_get_within}
use Rattle.felt64.specs.Field.{modulus, sum, difference}
use Rattle.ro_machine.specs.declared.machine.State.{State}
use Rattle.ro_machine.proofs.StepLaws.{step_or_stops}
use Rattle.first_form.specs.declared.accepted.CheckFault.{CheckFault}
use Rattle.first_form.specs.declared.accepted.CheckFault.TheVariants as faults
use Rattle.first_form.specs.Accepted.{most_states, range_limit, final_pc, HoldsCode, StartsAt, ArgumentsStand, GoesOn, Follows, AllGoOn, Ends, IsInRange, AllInRange, Accepts}
use Rattle.first_form.specs.Rejected.{CodeFails, StartFails, ArgumentsFail, StateFails, StatesFail, RangeFails, Rejects}
use Rattle.first_form.specs.Values.{number, felt64, Number}
use Rattle.first_form.proofs.AcceptedLaws.{one_in}
use Rattle.first_form.proofs.ValueLaws.{stands_below, cell_there}

-- of what is so or fails at each number, either it is so of all below a bound, or there is a first one that fails
first_of_those : (Holds Fails : ℕ → Type 0) → ((k : ℕ) → Holds k ⊎ Fails k) → (n : ℕ) →
    ((k : ℕ) → k < n → Holds k) ⊎ ((k : ℕ) × (k < n) × Fails k × ((j : ℕ) → j < k → Holds j))
first_of_those Holds Fails either zero = inl (λ k below. absurd (omega arith))
first_of_those Holds Fails either (suc n) = elim (first_of_those Holds Fails either n) [
  | inr (k, below, fails, before) ↦ inr (k, omega arith, fails, before)
  | inl all ↦ elim (either n) [
    | inr fails ↦ inr (n, omega arith, fails, all)
    | inl holds ↦ inl (λ k below. elim (cases_lt k n) [
      | inl earlier ↦ all k earlier
      | inr last ↦ let here : n ≡ k = omega arith in subst Holds here holds
    ])
  ]
]

-- two readings are equal or not
same_or_not : (a b : Option ℕ) → (a ≡ b) ⊎ (a ≢ b)
same_or_not None None = inl refl
same_or_not None (Some y) = inr (λ same. cc)
same_or_not (Some x) None = inr (λ same. cc)
same_or_not (Some x) (Some y) = elim (cases_eq x y) [ inl same ↦ inl (ap Some same) | inr other ↦ inr (λ same. let is : x ≡ y = cc in absurd (other is)) ]

-- and two states
same_state_or_not : (s t : State) → (s ≡ t) ⊎ (s ≢ t)
same_state_or_not s t = elim (cases_eq s.pc t.pc) [
  | inr other ↦ inr (λ same. other (ap (λ u. u.pc) same))
  | inl pc ↦ elim (cases_eq s.ap t.ap) [
    | inr other ↦ inr (λ same. other (ap (λ u. u.ap) same))
    | inl top ↦ elim (cases_eq s.fp t.fp) [
      | inr other ↦ inr (λ same. other (ap (λ u. u.fp) same))
      | inl frame ↦ inl (
          ap (λ n. let u : State = record { pc = n; ap = s.ap; fp = s.fp } in u) pc
          ∙ ap (λ n. let u : State = record { pc = t.pc; ap = n; fp = s.fp } in u) top
          ∙ ap (λ n. let u : State = record { pc = t.pc; ap = t.ap; fp = n } in u) frame)
    ]
  ]
]

code_or_not : (m : ℕ → Option ℕ) (code : List ℕ) → HoldsCode m code ⊎ ((f : CheckFault) × CodeFails m code f)
code_or_not m code = elim (first_of_those (λ k. m k ≡ slice_get code k) (λ k. m k ≢ slice_get code k) (λ k. same_or_not (m k) (slice_get code k)) (length code)) [
  | inl all ↦ inl all
  | inr (k, below, differs, before) ↦ inr (faults.CodeCell k, (k, refl, below, differs, before))
]

started : (s : State) (base : ℕ) → s ≡ record { pc = 0; ap = base; fp = base } → s ≡ record { pc = 0; ap = s.ap; fp = s.ap }
started s base is =
    let top : base ≡ s.ap = sym (ap (λ u. u.ap) is) in
    is ∙ ap (λ n. let u : State = record { pc = 0; ap = n; fp = n } in u) top

start_or_not : (states : List State) → ((base : ℕ) × StartsAt states base) ⊎ ((f : CheckFault) × StartFails states f)
start_or_not [] = inr (faults.Start, (refl, λ base start. cc))
start_or_not (s ∷ states) =
    let as_start : State = record { pc = 0; ap = s.ap; fp = s.ap } in
    elim (same_state_or_not s as_start) [
      | inl same ↦ inl (s.ap, ap Some same)
      | inr other ↦ inr (faults.Start, (refl, λ base start. other (started s base (one_in (Some s) s (record { pc = 0; ap = base; fp = base }) refl start))))
    ]

argument_or_not : (m : ℕ → Option ℕ) (base n : ℕ) → n < modulus →
    ArgumentsStand m base (number felt64 ∷ []) (Number felt64 n ∷ []) ⊎ ((f : CheckFault) × ArgumentsFail m (number felt64 ∷ []) (difference base 1) 0 (Number felt64 n ∷ []) f)
argument_or_not m base n fits = elim (same_or_not (m (sum (difference base 1) 0)) (Some n)) [
  | inl same ↦ inl (stands_below m base n fits (ap m (sym (cell_there base)) ∙ same))
  | inr other ↦ inr (faults.ArgCells (sum (difference base 1) 0) (Some n) (m (sum (difference base 1) 0)), (Number felt64 n, [], refl, inl (n, refl, other, refl)))
]

state_or_not : (m : ℕ → Option ℕ) (i : ℕ) (s follower : State) → GoesOn m s follower ⊎ ((f : CheckFault) × StateFails m i s follower f)
state_or_not m i s follower = elim (cases_eq s.pc final_pc) [
  | inl early ↦ inr (faults.FinalEarly i, inl (refl, early))
  | inr not_early ↦ elim (step_or_stops m s) [
    | inr (stop, stops) ↦ inr (faults.Step i stop, inr (not_early, inl (stop, refl, stops)))
    | inl (next, step) ↦ elim (same_state_or_not follower next) [
      | inl same ↦ inl (record { not_early = not_early; next = next; step = step; next_is = same })
      | inr other ↦ inr (faults.NextState i, inr (not_early, inr (next, step, refl, other)))
    ]
  ]
]

-- the states at two places, if both are there
pair_or_not : (states : List State) (i : ℕ) → ((s : State) × (follower : State) × Follows states i s follower) ⊎ ((s follower : State) → Follows states i s follower → ⊥)
pair_or_not states i = elim (slice_get states i) as (λ o. slice_get states i ≡ o → ((s : State) × (follower : State) × Follows states i s follower) ⊎ ((s follower : State) → Follows states i s follower → ⊥)) [
  | None ↦ λ none. inr (λ s follower pair. let here = pair.here in cc)
  | Some s ↦ λ here. elim (slice_get states (i + 1)) as (λ o. slice_get states (i + 1) ≡ o → ((s : State) × (follower : State) × Follows states i s follower) ⊎ ((s follower : State) → Follows states i s follower → ⊥)) [
    | None ↦ λ none. inr (λ s follower pair. let after = pair.after in cc)
    | Some follower ↦ λ after. inl (s, follower, record { here = here; after = after })
  ] refl
] refl

-- the state at this place, if another follows it, goes on
abbrev GoesOnAt : (ℕ → Option ℕ) → List State → ℕ → Type 0
GoesOnAt m states i = (s follower : State) → Follows states i s follower → GoesOn m s follower

abbrev FailsAt : (ℕ → Option ℕ) → List State → ℕ → Type 0
FailsAt m states i = (s : State) × (follower : State) × Follows states i s follower × ((f : CheckFault) × StateFails m i s follower f)

at_or_not : (m : ℕ → Option ℕ) (states : List State) (i : ℕ) → GoesOnAt m states i ⊎ FailsAt m states i
at_or_not m states i = elim (pair_or_not states i) [
  | inr none ↦ inl (λ s follower pair. absurd (none s follower pair))
  | inl (s, follower, pair) ↦ elim (state_or_not m i s follower) [
    | inr fails ↦ inr (s, follower, pair, fails)
    | inl goes ↦ inl (λ s' follower' pair'.
        let same : s ≡ s' = one_in (slice_get states i) s s' pair.here pair'.here in
        let same_follower : follower ≡ follower' = one_in (slice_get states (i + 1)) follower follower' pair.after pair'.after in
        subst (λ t. GoesOn m s' t) same_follower (subst (λ t. GoesOn m t follower) same goes))
  ]
]

states_or_not : (m : ℕ → Option ℕ) (states : List State) → AllGoOn m states ⊎ ((f : CheckFault) × StatesFail m states f)
states_or_not m states = elim (first_of_those (GoesOnAt m states) (FailsAt m states) (at_or_not m states) (length states)) [
  | inl all ↦ inl (λ i s follower pair. all i (slice_get_within states i s pair.here) s follower pair)
  | inr (i, below, (s, follower, pair, (f, fails)), before) ↦ inr (f, (i, s, follower, pair, fails, λ j s' follower' earlier. before j earlier s' follower'))
]

final_or_not : (states : List State) → Ends states ⊎ (Ends states → ⊥)
final_or_not states = elim (slice_get states (length states - 1)) as (λ o. slice_get states (length states - 1) ≡ o → Ends states ⊎ (Ends states → ⊥)) [
  | None ↦ λ none. inr (λ ends. let last = ends.1 in cc)
  | Some s ↦ λ is. elim (cases_eq s.pc final_pc) [
    | inl there ↦ inl (s, is, there)
    | inr elsewhere ↦ inr (λ ends.
        let same : ends.0 ≡ s = one_in (slice_get states (length states - 1)) ends.0 s ends.1 is in
        elsewhere (ap (λ t. t.pc) (sym same) ∙ ends.2))
  ]
] refl

abbrev IsWideAt : (ℕ → Option ℕ) → ℕ → ℕ → Type 0
IsWideAt m rc k = (word : ℕ) × (m (sum rc k) ≡ Some word) × (range_limit ≤ word)

in_range_or_not : (m : ℕ → Option ℕ) (rc k : ℕ) → IsInRange m rc k ⊎ IsWideAt m rc k
in_range_or_not m rc k = elim (m (sum rc k)) as (λ o. m (sum rc k) ≡ o → IsInRange m rc k ⊎ IsWideAt m rc k) [
  | None ↦ λ none. inl (λ word listed. absurd (cc))
  | Some word ↦ λ listed. elim (cases_lt word range_limit) [
    | inl below ↦ inl (λ other listed'. let same = one_in (m (sum rc k)) word other listed listed' in omega arith)
    | inr beyond ↦ inr (word, listed, omega arith)
  ]
] refl

range_or_not : (m : ℕ → Option ℕ) (rc count : ℕ) → AllInRange m rc count ⊎ ((f : CheckFault) × RangeFails m rc count f)
range_or_not m rc count = elim (first_of_those (IsInRange m rc) (IsWideAt m rc) (in_range_or_not m rc) count) [
  | inl all ↦ inl all
  | inr (k, below, (word, listed, beyond), before) ↦ inr (faults.RangeCell (sum rc k) word, (k, word, refl, below, listed, beyond, before))
]

module _ (code : List ℕ) (n rc : ℕ) (m : ℕ → Option ℕ) (states : List State) (few : length states ≤ most_states) (fits : n < modulus) where
  -- of one argument
  pub accepted_or_rejected : Accepts code (number felt64 ∷ []) (Number felt64 n ∷ []) rc m states ⊎ ((f : CheckFault) × Rejects code (number felt64 ∷ []) (Number felt64 n ∷ []) rc m states f)
  accepted_or_rejected = elim (code_or_not m code) [
    | inr (f, fails) ↦ inr (f, inl fails)
    | inl code_cells ↦ elim (start_or_not states) [
      | inr (f, fails) ↦ inr (f, inr (code_cells, inl fails))
      | inl (base, start) ↦ elim (argument_or_not m base n fits) [
        | inr (f, fails) ↦ inr (f, inr (code_cells, inr (base, start, inl fails)))
        | inl argument ↦ elim (states_or_not m states) [
          | inr (f, fails) ↦ inr (f, inr (code_cells, inr (base, start, inr (argument, inl fails))))
          | inl go ↦ elim (final_or_not states) [
            | inr fails ↦ inr (faults.FinalMissing, inr (code_cells, inr (base, start, inr (argument, inr (go, inl (refl, fails))))))
            | inl final ↦ elim (range_or_not m rc (length states)) [
              | inr (f, fails) ↦ inr (f, inr (code_cells, inr (base, start, inr (argument, inr (go, inr (final, fails))))))
              | inl range ↦ inl (record { few = few; code_cells = code_cells; base = base; start = start; argument_cells = argument; goes_on = go; final = final; range_cells = range })
            ]
          ]
        ]
      ]
    ]
  ]
