-- Declarations judged one after another, in an order in which those that arguments name come first.
use Rattle.std.proofs.Common.{◌≡◌, ◌≢◌, ◌⊎◌, inl, inr, ℕ, zero, suc, ◌+◌, ◌<◌, ◌≤◌, Bool, true, false, true≢false, Result, Ok, Err, IfOk, if◌then◌else◌, List, [], ◌∷◌, ◌++◌, take, length, get_or, set, Option, Some, None, slice_get, refl, ap, sym, subst, ◌∙◌, arith}
use Rattle.std.specs.Prelude.{nat_lt}
use Rattle.std.proofs.lemmas.Grind.{get_or_default_zero}
use Rattle.std.specs.List.{Contains}
use Rattle.std.proofs.lemmas.List.{get_or-set_same, get_or-set_other, length-set, length-map}
use Rattle.std.proofs.lemmas.Bool.{cases_lt}
use Rattle.std.proofs.lemmas.Option.{slice_get_within}
use Rattle.graph_cycles.specs.Graph.{OnCycle}
use Rattle.graph_cycles.specs.Cycles.{HasEachOnce, TargetsFirst}
use Rattle.graph_cycles.proofs.Uses.{targets_before}
use Rattle.sierra_types.specs.declared.program.TypeDecl.{TypeDecl}
use Rattle.type_table.specs.declared.facts.Facts.{Facts}
use Rattle.type_table.specs.declared.judging.Broken.{Broken}
use Rattle.type_table.specs.declared.kind.TypeKind.{TypeKind}
use Rattle.type_table.specs.declared.resolved.Resolved.{Resolved}
use Rattle.type_table.specs.Resolved.{IsResolved}
use Rattle.type_table.specs.declared.outcome.Known.{Known}
use Rattle.type_table.specs.declared.outcome.Outcome.{Outcome}
use Rattle.type_table.specs.declared.outcome.Outcome.TheVariants as outcomes
use Rattle.type_table.specs.declared.rules.TypeRule.{TypeRule}
use Rattle.type_table.specs.declared.rules.TypeRule.TheVariants as rules
use Rattle.type_table.specs.declared.fault.TypeFault.TheVariants as faults
use Rattle.type_table.specs.Refusals.{arguments}
use Rattle.type_table.specs.Rows.{targets}
use Rattle.type_table.specs.Outcomes.{facts_at, with_first, parts_at, found_of}
use Rattle.type_table.specs.Found.{IsKnownAt, IsRightAt, BreaksFirst, BreaksNone, IsFoundOf}
use Rattle.type_table.specs.Judged.{known_of, earlier, first_after, ComesBefore, AreJudged, IsFirstSoFar, AreJudgedSoFar}
use Rattle.type_table.proofs.Plain.{none-some, some_is}
use Rattle.type_table.proofs.Acyclic.{targets_are}
use Rattle.type_table.proofs.OutcomeLaws.{type_breaks_none, broken_none, hidden_none, breaks_cycle, found_right}

-- ---- parts

pub parts_more : (known : List (Option Known)) (ts : List ℕ) (i t : ℕ) (f : Facts) (ps : List Facts) → slice_get ts i ≡ Some t → facts_at known t ≡ Some f → parts_at known (take i ts) ≡ Some ps
    → parts_at known (take (i + 1) ts) ≡ Some (ps ++ f ∷ [])
parts_more known [] i t f ps here is before = absurd (none-some t here)
parts_more known (u ∷ ts) zero t f ps here is before =
    ap (λ v. with_first (facts_at known v) (Some [])) (some_is u t here) ∙ ap (λ o. with_first o (Some [])) is ∙ ap (λ l. Some (l ++ f ∷ [])) (some_is [] ps before)
parts_more known (u ∷ ts) (suc i) t f ps here is before =
    ap (λ n. parts_at known (take n (u ∷ ts))) next ∙ by (facts_at known u) (parts_at known (take i ts)) refl before (λ qs. parts_more known ts i t f qs here is)
  where
    next : suc i + 1 ≡ suc (i + 1)
    next = omega arith

    by : (o : Option Facts) (p : Option (List Facts)) → parts_at known (take i ts) ≡ p → with_first o p ≡ Some ps
        → ((qs : List Facts) → parts_at known (take i ts) ≡ Some qs → parts_at known (take (i + 1) ts) ≡ Some (qs ++ f ∷ []))
        → with_first o (parts_at known (take (i + 1) ts)) ≡ Some (ps ++ f ∷ [])
    by None p told is rest = absurd (none-some ps is)
    by (Some g) None told is rest = absurd (none-some ps is)
    by (Some g) (Some qs) told is rest = ap (with_first (Some g)) (rest qs told) ∙ ap (λ l. Some (l ++ f ∷ [])) (some_is (g ∷ qs) ps is)

pub parts_stop : (known : List (Option Known)) (ts : List ℕ) (i t : ℕ) → slice_get ts i ≡ Some t → facts_at known t ≡ None → parts_at known ts ≡ None
parts_stop known [] i t here is = absurd (none-some t here)
parts_stop known (u ∷ ts) zero t here is = ap (λ o. with_first o (parts_at known ts)) (ap (facts_at known) (some_is u t here) ∙ is)
parts_stop known (u ∷ ts) (suc i) t here is = by (facts_at known u) (parts_stop known ts i t here is)
  where
    by : (o : Option Facts) → parts_at known ts ≡ None → with_first o (parts_at known ts) ≡ None
    by None rest = refl
    by (Some g) rest = ap (with_first (Some g)) rest

-- ---- steps

module _ (ds : List TypeDecl) (order : List ℕ) (once : HasEachOnce (length ds) order) (targets_first : TargetsFirst (arguments ds) order) where
  abbrev at : ℕ → ℕ
  at j = get_or order j 0

  pub none_judged : (known : List (Option Known)) → length known ≡ length ds → AreJudgedSoFar ds order 0 known None
  none_judged known each = record {
    each = each;
    right = λ j less. absurd (omega (arith, less));
    clean = λ j d less _ _. absurd (omega (arith, less));
    broken = λ j less. absurd (omega (arith, less));
  }

  -- types that the arguments of the next one name are known, if it is on no cycle
  pub targets_known : (m : ℕ) (known : List (Option Known)) (first : Option Broken) → AreJudgedSoFar ds order m known first → m < length order
      → (d : TypeDecl) → slice_get ds (at m) ≡ Some d → (OnCycle (arguments ds) (at m) → ⊥) → (t : ℕ) → Contains (targets ds d) t → IsRightAt ds t (get_or known t None)
  targets_known m known first judged less d here acyclic t among =
      let (k, before, is) = targets_before (arguments ds) order targets_first m t less acyclic (subst (λ l. Contains l t) (sym (targets_are ds (at m) d here)) among) in
      subst (λ u. IsRightAt ds u (get_or known u None)) is (judged.right k before)

  module _ (m : ℕ) (known : List (Option Known)) (first : Option Broken) (judged : AreJudgedSoFar ds order m known first) (less : m < length order)
      (d : TypeDecl) (here : slice_get ds (at m) ≡ Some d) where
    i_below : at m < length known
    i_below = omega (arith, judged.each, once.below m less)

    other_place : (j : ℕ) → j < m → at j ≢ at m
    other_place j before same = absurd (omega (arith, before, once.once j m (omega (arith, before, less)) less same))

    same_elsewhere : (v : Option Known) (j : ℕ) → j < m → get_or (set known (at m) v) (at j) None ≡ get_or known (at j) None
    same_elsewhere v j before = get_or-set_other known (at m) (at j) v None (other_place j before)

    set_here : (v : Option Known) → get_or (set known (at m) v) (at m) None ≡ v
    set_here v = get_or-set_same known (at m) v None i_below

    right_more : (v : Option Known) → IsRightAt ds (at m) v → (j : ℕ) → j < m + 1 → IsRightAt ds (at j) (get_or (set known (at m) v) (at j) None)
    right_more v right j lower = by (cases_lt j m)
      where
        by : (j < m) ⊎ (m ≤ j) → IsRightAt ds (at j) (get_or (set known (at m) v) (at j) None)
        by (inl before) = subst (IsRightAt ds (at j)) (sym (same_elsewhere v j before)) (judged.right j before)
        by (inr last) =
            let same : m ≡ j = omega (arith, last, lower) in
            subst (λ n. IsRightAt ds (at n) (get_or (set known (at m) v) (at n) None)) same (subst (IsRightAt ds (at m)) (sym (set_here v)) right)

    clean_more : (prev : Option Broken) → ((j : ℕ) (e : TypeDecl) → j < m → slice_get ds (at j) ≡ Some e → ComesBefore (at j) prev → BreaksNone ds (at j) e)
        → (next : Option Broken) → ((j : ℕ) → j < m → ComesBefore (at j) next → ComesBefore (at j) prev) → (ComesBefore (at m) next → BreaksNone ds (at m) d)
        → (j : ℕ) (e : TypeDecl) → j < m + 1 → slice_get ds (at j) ≡ Some e → ComesBefore (at j) next → BreaksNone ds (at j) e
    clean_more prev clean next keeps last j e lower there before = by (cases_lt j m)
      where
        by : (j < m) ⊎ (m ≤ j) → BreaksNone ds (at j) e
        by (inl earlier_one) = clean j e earlier_one there (keeps j earlier_one before)
        by (inr at_end) =
            let same : m ≡ j = omega (arith, at_end, lower) in
            subst (λ x. BreaksNone ds (at j) x) (some_is d e (sym here ∙ ap (λ n. slice_get ds (at n)) same ∙ there))
            (subst (λ n. ComesBefore (at n) next → BreaksNone ds (at n) d) same last before)

    type_more : (k : Known) → IsKnownAt ds (at m) k → AreJudgedSoFar ds order (m + 1) (set known (at m) (Some k)) first
    type_more k right = record {
      each = length-set known (at m) (Some k) ∙ judged.each;
      right = right_more (Some k) right;
      clean = clean_more first judged.clean first (λ j before c. c) (λ c. type_breaks_none ds right.ty (at m) d here right.at);
      broken = by first judged.broken;
    }
      where
        by : (f : Option Broken) → IsFirstSoFar ds order m known f → IsFirstSoFar ds order (m + 1) (set known (at m) (Some k)) f
        by (Some f) is = is
        by None all = λ j lower. cases j lower (cases_lt j m)
          where
            cases : (j : ℕ) → j < m + 1 → (j < m) ⊎ (m ≤ j) → (x : Known) × (get_or (set known (at m) (Some k)) (at j) None ≡ Some x)
            cases j lower (inl before) = let x = all j before in (x.0, same_elsewhere (Some k) j before ∙ x.1)
            cases j lower (inr last) =
                let same : m ≡ j = omega (arith, last, lower) in
                (k, subst (λ n. get_or (set known (at m) (Some k)) (at n) None ≡ Some k) same (set_here (Some k)))

    hidden_more : BreaksNone ds (at m) d → (t : ℕ) × Contains (targets ds d) t × (get_or known t None ≡ None) → AreJudgedSoFar ds order (m + 1) (set known (at m) None) first
    hidden_more none missing = record {
      each = length-set known (at m) None ∙ judged.each;
      right = right_more None (hidden_none ds known (at m) d here (targets_known m known first judged less d here acyclic) missing);
      clean = clean_more first judged.clean first (λ j before c. c) (λ c. none);
      broken = by first judged.broken;
    }
      where
        acyclic : OnCycle (arguments ds) (at m) → ⊥
        acyclic on = none rules.NoCycle (faults.TypeCycle d.id) (on, refl)

        by : (f : Option Broken) → IsFirstSoFar ds order m known f → IsFirstSoFar ds order (m + 1) (set known (at m) None) f
        by (Some f) is = is
        by None all =
            let (k, before, is) = targets_before (arguments ds) order targets_first m missing.0 less acyclic (subst (λ l. Contains l missing.0) (sym (targets_are ds (at m) d here)) missing.1) in
            let there = all k before in
            absurd (none-some there.0 (sym missing.2 ∙ ap (λ u. get_or known u None) (sym is) ∙ there.1))

    broken_more : (rule : TypeRule) → BreaksFirst ds (at m) d rule → AreJudgedSoFar ds order (m + 1) (set known (at m) None) (earlier first (at m) rule)
    broken_more rule breaks = by first judged.clean judged.broken
      where
        right : (j : ℕ) → j < m + 1 → IsRightAt ds (at j) (get_or (set known (at m) None) (at j) None)
        right = right_more None (broken_none ds (at m) d rule here breaks)

        each : length (set known (at m) None) ≡ length ds
        each = length-set known (at m) None ∙ judged.each

        by : (f : Option Broken) → ((j : ℕ) (e : TypeDecl) → j < m → slice_get ds (at j) ≡ Some e → ComesBefore (at j) f → BreaksNone ds (at j) e) → IsFirstSoFar ds order m known f
            → AreJudgedSoFar ds order (m + 1) (set known (at m) None) (earlier f (at m) rule)
        by None clean is = record {
          each = each;
          right = right;
          clean = clean_more None clean (Some (record { position = at m; rule = rule })) (λ j before c. tt) (λ c. absurd (omega (arith, c)));
          broken = (d, here, breaks);
        }
        by (Some f) clean is = cases (nat_lt f.position (at m)) refl
          where
            cases : (b : Bool) → nat_lt f.position (at m) ≡ b → AreJudgedSoFar ds order (m + 1) (set known (at m) None) (if b then Some f else Some (record { position = at m; rule = rule }))
            cases true told =
                let lower : f.position < at m = grind (arith, told) in
                record { each = each; right = right; clean = clean_more (Some f) clean (Some f) (λ j before c. c) (λ c. absurd (omega (arith, c, lower))); broken = is }
            cases false told =
                let higher : at m ≤ f.position = grind (arith, told) in
                record {
                  each = each;
                  right = right;
                  clean = clean_more (Some f) clean (Some (record { position = at m; rule = rule })) (λ j before c. omega (arith, c, higher)) (λ c. absurd (omega (arith, c)));
                  broken = (d, here, breaks);
                }

    pub judged_more : (outcome : Outcome) → IsFoundOf ds known (at m) d outcome → AreJudgedSoFar ds order (m + 1) (set known (at m) (known_of outcome)) (first_after first (at m) outcome)
    judged_more (outcomes.Type k) found = type_more k found
    judged_more outcomes.Hidden found = hidden_more found.0 found.1
    judged_more (outcomes.Broken rule) found = broken_more rule found

  -- ---- all

  place : (i : ℕ) → i < length ds → (j : ℕ) × (j < length order) × (at j ≡ i)
  place i less = let (j, lower, is) = once.each i less in (j, lower, sym (get_or_default_zero order j i lower) ∙ is)

  pub judged_all : (m : ℕ) (known : List (Option Known)) (first : Option Broken) → length order ≤ m → AreJudgedSoFar ds order m known first → AreJudged ds first known
  judged_all m known first all judged = by first judged.clean judged.broken
    where
      by : (f : Option Broken) → ((j : ℕ) (e : TypeDecl) → j < m → slice_get ds (at j) ≡ Some e → ComesBefore (at j) f → BreaksNone ds (at j) e) → IsFirstSoFar ds order m known f → AreJudged ds f known
      by None clean known_all = (judged.each, each)
        where
          each : (i : ℕ) → i < length ds → (k : Known) × (get_or known i None ≡ Some k) × IsKnownAt ds i k
          each i less =
              let (j, lower, is) = place i less in
              let there = known_all j (omega (arith, lower, all)) in
              let right : IsKnownAt ds (at j) there.0 = subst (IsRightAt ds (at j)) there.1 (judged.right j (omega (arith, lower, all))) in
              (there.0, ap (λ n. get_or known n None) (sym is) ∙ there.1, subst (λ n. IsKnownAt ds n there.0) is right)
      by (Some f) clean (d, here, breaks) = (d, here, breaks, before)
        where
          before : (i : ℕ) (e : TypeDecl) → i < f.position → slice_get ds i ≡ Some e → BreaksNone ds i e
          before i e less there =
              let (j, lower, is) = place i (slice_get_within ds i e there) in
              subst (λ n. BreaksNone ds n e) is (clean j e (omega (arith, lower, all)) (ap (slice_get ds) is ∙ there) (subst (λ n. n < f.position) (sym is) less))

-- ---- one declaration

module _ (ds : List TypeDecl) (r : Resolved) (resolved : IsResolved ds r) (known : List (Option Known)) (i : ℕ) (d : TypeDecl) (here : slice_get ds i ≡ Some d) where
  graph_below : i < length (arguments ds)
  graph_below = subst (λ n. i < n) (sym (length-map ds (targets ds))) (slice_get_within ds i d here)

  pub cyclic_right : (kind : TypeKind) → slice_get r.kinds.items i ≡ Some (Ok kind) → get_or r.cycles.cyclic i false ≡ true → BreaksFirst ds i d rules.NoCycle
  cyclic_right kind is on =
      let (g, form, clear) = resolved.kinds i d (Ok kind) here is in
      breaks_cycle ds known i d here g form kind clear ((resolved.cyclic.right i graph_below).0 on)

  pub judge_right : (kind : TypeKind) → slice_get r.kinds.items i ≡ Some (Ok kind) → get_or r.cycles.cyclic i false ≡ false
      → ((OnCycle (arguments ds) i → ⊥) → (t : ℕ) → Contains (targets ds d) t → IsRightAt ds t (get_or known t None))
      → IsFoundOf ds known i d (found_of d kind (parts_at known (get_or r.graph i [])) (get_or r.repeated.items i false))
  judge_right kind is off right =
      let (g, form, clear) = resolved.kinds i d (Ok kind) here is in
      let acyclic : OnCycle (arguments ds) i → ⊥ = λ on. true≢false (sym ((resolved.cyclic.right i graph_below).1 on) ∙ off) in
      subst (λ l. IsFoundOf ds known i d (found_of d kind (parts_at known l) (get_or r.repeated.items i false)))
      (sym (ap (λ g. get_or g i []) resolved.graph ∙ targets_are ds i d here))
      (found_right ds known i d here g form kind clear (right acyclic) acyclic (get_or r.repeated.items i false) (resolved.repeated i d kind here is))

pub decl_here : (ds : List TypeDecl) (i : ℕ) → i < length ds → (d : TypeDecl) × (slice_get ds i ≡ Some d)
decl_here [] i less = absurd (omega (arith, less))
decl_here (d ∷ ds) zero less = (d, refl)
decl_here (d ∷ ds) (suc i) less = decl_here ds i (omega (arith, less))

pub if_ok : {X Y : Type 0} (r : Result X Y) (P Q : X → Type 0) → IfOk r P → ((x : X) → P x → Q x) → IfOk r Q
if_ok (Ok x) P Q p more = more x p
if_ok (Err e) P Q p more = tt

pub judged_as : (ds : List TypeDecl) (order : List ℕ) (m : ℕ) {known all : List (Option Known)} {first next : Option Broken} → AreJudgedSoFar ds order m known first → all ≡ known → next ≡ first → AreJudgedSoFar ds order m all next
judged_as ds order m {known} {all} {first} {next} judged same equal =
    subst (λ l. AreJudgedSoFar ds order m l next) (sym same) (subst (AreJudgedSoFar ds order m known) (sym equal) judged)
