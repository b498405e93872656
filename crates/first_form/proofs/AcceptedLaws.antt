-- The parts of an accepted run, in terms of the cells and states that a test looks at.
use Rattle.std.proofs.Common.{◌≡◌, inl, inr, ℕ, ◌+◌, ◌-◌, ◌<◌, ◌≤◌, List, length, take, drop, get_or, Option, Some, None, refl, ap, subst, ◌∙◌, arith}
use Rattle.std.specs.List.{slice_get}
use Rattle.std.proofs.lemmas.Bool.{cases_lt}
use Rattle.std.proofs.lemmas.List.{get_or-take, get_or-drop, length-drop}
use Rattle.std.proofs.lemmas.Option.{slice_get_read, slice_get_within}
use Rattle.ro_machine.specs.declared.machine.State.{State}
use Rattle.std.specs.Option.{IfSome}
use Rattle.felt64.specs.Field.{modulus, sum, negative}
use Rattle.first_form.specs.Accepted.{most_states, range_limit, Follows, GoesOn, IsLast, StartsAt}
use Rattle.first_form.specs.Ranges.{AllNarrow, IsWide, IsFirstWide}

-- one thing is in an option
pub one_in : {X : Type 0} (o : Option X) (x y : X) → o ≡ Some x → o ≡ Some y → x ≡ y
one_in o x y first second = cc

-- no cell before the first listed one from `from` on is listed, so the cells up to it are narrow
pub narrow_up_to : (m : ℕ → Option ℕ) (first from end : ℕ) → AllNarrow m first from → ((at : ℕ) → from ≤ at → at < end → m at ≡ None) → AllNarrow m first end
narrow_up_to m first from end narrow unlisted at word above below listed =
    elim (cases_lt at from) [
      | inl before ↦ narrow at word above before listed
      | inr behind ↦ let none = unlisted at (omega arith) below in cc
    ]

-- and with one narrow cell more
pub narrow_and_next : (m : ℕ → Option ℕ) (first end word : ℕ) → AllNarrow m first end → m end ≡ Some word → word < range_limit → AllNarrow m first (end + 1)
narrow_and_next m first end word narrow is below at other above within listed =
    elim (cases_lt at end) [
      | inl before ↦ narrow at other above before listed
      | inr behind ↦
          let here : at ≡ end = omega arith in
          let same : other ≡ word = cc in
          omega arith
    ]

-- the two states of a window of two follow one another
pub window_follows : (states left window : List State) (n : ℕ) (s follower : State) → left ≡ drop n states → 2 ≤ length left → window ≡ take 2 left → s ≡ get_or window 0 s → follower ≡ get_or window 1 follower → Follows states n s follower
window_follows states left window n s follower left_is long window_is s_is follower_is =
    let within : n + 1 < length states = omega (arith, ap length left_is, length-drop n states) in
    let at : (i : ℕ) (t : State) → i < 2 → get_or window i t ≡ get_or states (n + i) t =
    λ i t small. ap (λ w. get_or w i t) window_is ∙ get_or-take 2 left i t small ∙ ap (λ l. get_or l i t) left_is ∙ get_or-drop n states i t in
    let place : n + 0 ≡ n = omega arith in
    record {
      here = slice_get_read states (length states) n s refl (omega arith) (s_is ∙ at 0 s (omega arith) ∙ ap (λ i. get_or states i s) place);
      after = slice_get_read states (length states) (n + 1) follower refl within (follower_is ∙ at 1 follower (omega arith));
    }

-- one state after those that go on
pub goes_on_more : (m : ℕ → Option ℕ) (states : List State) (n : ℕ) (s follower : State) → Follows states n s follower → GoesOn m s follower →
    ((k : ℕ) (s follower : State) → k < n → Follows states k s follower → GoesOn m s follower) →
    (k : ℕ) (s follower : State) → k < n + 1 → Follows states k s follower → GoesOn m s follower
goes_on_more m states n s follower pair goes before k s' follower' within pair' =
    elim (cases_lt k n) [
      | inl earlier ↦ before k s' follower' earlier pair'
      | inr not_earlier ↦
          let place : n ≡ k = omega arith in
          let at_k : Follows states k s follower = subst (λ i. Follows states i s follower) place pair in
          let same : s ≡ s' = one_in (slice_get states k) s s' at_k.here pair'.here in
          let same_follower : follower ≡ follower' = one_in (slice_get states (k + 1)) follower follower' at_k.after pair'.after in
          subst (λ t. GoesOn m s' t) same_follower (subst (λ t. GoesOn m t follower) same goes)
    ]

-- what one fact of a cell, if there is one, gives
pub some_weaker : {X : Type 0} (o : Option X) (P Q : X → Type 0) → ((x : X) → P x → Q x) → IfSome o P → IfSome o Q
some_weaker None P Q gives holds = tt
some_weaker (Some x) P Q gives holds = gives x holds

-- where the cells from rc to the last don't wrap, the first wide one of them lies its distance from rc
pub wide_is_first : (m : ℕ → Option ℕ) (rc last count : ℕ) → rc < modulus → last < modulus → 1 ≤ count → count ≤ most_states → last ≡ sum rc (count - 1) → rc ≤ last →
    (cell : ℕ × ℕ) → IsWide m rc last cell → IsFirstWide m rc count cell
wide_is_first m rc last count rc_below last_below some few last_is above cell wide =
    let first = wide.at_or_above in
    let end = wide.at_or_below in
    record {
      distance = cell.0 - rc;
      address = omega arith;
      within = omega arith;
      is_listed = wide.is_listed;
      beyond = wide.beyond;
      before = λ k earlier word listed.
          let place : sum rc k ≡ rc + k = omega arith in
          wide.narrow_before (rc + k) word (omega arith) (omega arith) (subst (λ at. m at ≡ Some word) place listed);
    }

-- where they do, the first wide one is that up to the last address of all
pub wide_before_end : (m : ℕ → Option ℕ) (rc last end count : ℕ) → rc < modulus → last < modulus → 1 ≤ count → count ≤ most_states → last ≡ sum rc (count - 1) → last < rc → end ≡ negative 1 →
    (cell : ℕ × ℕ) → IsWide m rc end cell → IsFirstWide m rc count cell
wide_before_end m rc last end count rc_below last_below some few last_is wraps end_is cell wide =
    let first = wide.at_or_above in
    let until = wide.at_or_below in
    record {
      distance = cell.0 - rc;
      address = omega arith;
      within = omega arith;
      is_listed = wide.is_listed;
      beyond = wide.beyond;
      before = λ k earlier word listed.
          let place : sum rc k ≡ rc + k = omega arith in
          wide.narrow_before (rc + k) word (omega arith) (omega arith) (subst (λ at. m at ≡ Some word) place listed);
    }

-- or, where there is none up to there, that from address 0 on
pub wide_behind_end : (m : ℕ → Option ℕ) (rc last end start count : ℕ) → rc < modulus → last < modulus → 1 ≤ count → count ≤ most_states → last ≡ sum rc (count - 1) → last < rc → end ≡ negative 1 → start ≡ 0 →
    AllNarrow m rc (end + 1) → (cell : ℕ × ℕ) → IsWide m start last cell → IsFirstWide m rc count cell
wide_behind_end m rc last end start count rc_below last_below some few last_is wraps end_is start_is narrow cell wide =
    let first = wide.at_or_above in
    let until = wide.at_or_below in
    record {
      distance = modulus - rc + cell.0;
      address = omega arith;
      within = omega arith;
      is_listed = wide.is_listed;
      beyond = wide.beyond;
      before = λ k earlier word listed. elim (cases_lt (rc + k) modulus) [
        | inl before ↦
            let place : sum rc k ≡ rc + k = omega arith in
            narrow (rc + k) word (omega arith) (omega arith) (subst (λ at. m at ≡ Some word) place listed)
        | inr behind ↦
            let place : sum rc k ≡ rc + k - modulus = omega arith in
            wide.narrow_before (rc + k - modulus) word (omega arith) (omega arith) (subst (λ at. m at ≡ Some word) place listed)
      ];
    }

-- the last state of a run that has a first one, as it is read by its place
pub last_read : (lent states : List State) (s : State) (base : ℕ) → lent ≡ states → StartsAt states base → s ≡ get_or lent (length lent - 1) s → IsLast states s
last_read lent states s base lends start s_is =
    let some : 0 < length states = slice_get_within states 0 _ start in
    slice_get_read states (length states) (length states - 1) s refl (omega arith) (subst (λ l. s ≡ get_or l (length l - 1) s) lends s_is)
