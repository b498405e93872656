-- A trace as it is stored.
use Rattle.std.proofs.Common.{◌≡◌, ℕ, zero, suc, ◌+◌, ◌<◌, Bool, true, false, List, [], ◌∷◌, ◌++◌, length, set, get_or, replicate, Option, Some, None, option_map, refl, sym, ap, subst, ◌∙◌, arith, inl, inr}
use Rattle.std.specs.List.{slice_get}
use Rattle.std.specs.Ordering.{nat_cmp, is_gt}
use Rattle.std.specs.Option.{IfNone}
use Rattle.std.proofs.lemmas.Bool.{cases_eq, false≢true}
use Rattle.std.proofs.lemmas.Bool.Decides.{nat_tests}
use Rattle.std.proofs.lemmas.Option.{none-some, same_Some, slice_get_within, slice_get_read, get_or_from_slice_get}
use Rattle.std.proofs.lemmas.List.{append-nil}
use Rattle.statement_walk.specs.Walk.{Seen, unseen, waiting, done, Trace, given, held_by, waiting_from, unseen_from, answers}
use Rattle.statement_walk.specs.Marks.{mark, marks, AreSeen}
use Rattle.statement_walk.specs.Waits.{has, Updated}
use Rattle.statement_walk.proofs.Arrivals.{slice_get-set_same, slice_get-set_other, inside}

pub slice_get-marks : {E : Type 0} (waits : ℕ → Bool) (s : ℕ) (xs : List (Option (ℕ × E))) (t : ℕ) → slice_get (marks waits s xs) t ≡ option_map (mark (waits (s + t))) (slice_get xs t)
slice_get-marks waits s [] t = refl
slice_get-marks waits s (x ∷ xs) zero = (let same : s ≡ s + 0 = omega arith in ap (λ n. Some (mark (waits n) x)) same)
slice_get-marks waits s (x ∷ xs) (suc t) =
    let same : s + 1 + t ≡ s + suc t = omega arith in
    slice_get-marks waits (s + 1) xs t ∙ ap (λ n. option_map (mark (waits n)) (slice_get xs t)) same

pub mark_at : {E : Type 0} (waits : ℕ → Bool) (xs : List (Option (ℕ × E))) (t : ℕ) → slice_get (marks waits 0 xs) t ≡ option_map (mark (waits t)) (slice_get xs t)
mark_at waits xs t = let same : 0 + t ≡ t = omega arith in slice_get-marks waits 0 xs t ∙ ap (λ n. option_map (mark (waits n)) (slice_get xs t)) same

pub length-marks : {E : Type 0} (waits : ℕ → Bool) (s : ℕ) (xs : List (Option (ℕ × E))) → length (marks waits s xs) ≡ length xs
length-marks waits s [] = refl
length-marks waits s (x ∷ xs) = ap suc (length-marks waits (s + 1) xs)

pub marks-replicate : {E : Type 0} (waits : ℕ → Bool) (s n : ℕ) → marks {E = E} waits s (replicate n None) ≡ replicate n unseen
marks-replicate waits s zero = refl
marks-replicate waits s (suc n) = ap (λ u. unseen ∷ u) (marks-replicate waits (s + 1) n)

same_items : {A : Type 0} (xs ys : List A) → ((t : ℕ) → slice_get xs t ≡ slice_get ys t) → xs ≡ ys
same_items [] [] same = refl
same_items [] (y ∷ ys) same = absurd (none-some y (same 0))
same_items (x ∷ xs) [] same = absurd (none-some x (sym (same 0)))
same_items (x ∷ xs) (y ∷ ys) same =
    let head = same_Some x y (same 0) in
    let tail = same_items xs ys (λ t. same (suc t)) in
    cc

-- function and environment don't depend on what waits

abbrev pub flat : {A : Type 0} → Option (Option A) → Option A
flat None = None
flat (Some o) = o

given_mark : {E : Type 0} (waits : Bool) (o : Option (Option (ℕ × E))) → held_by (option_map (mark waits) o) ≡ flat o
given_mark waits None = refl
given_mark waits (Some None) = refl
given_mark true (Some (Some x)) = refl
given_mark false (Some (Some x)) = refl

pub given-marks : {E : Type 0} (waits : ℕ → Bool) (xs : List (Option (ℕ × E))) (t : ℕ) → given (marks waits 0 xs) t ≡ flat (slice_get xs t)
given-marks waits xs t = ap held_by (mark_at waits xs t) ∙ given_mark (waits t) (slice_get xs t)

updated_here : (before later : ℕ → Bool) (t : ℕ) (b : Bool) → Updated before later t b → later t ≡ b
updated_here before later t b update = let here = update t in grind (arith, nat_tests)

updated_others : (before later : ℕ → Bool) (t q : ℕ) (b : Bool) → (q ≡ t → ⊥) → Updated before later t b → later q ≡ before q
updated_others before later t q b other update = let here = update q in grind (arith, nat_tests)

-- one statement's mark changes
marks_change : {E : Type 0} (before later : ℕ → Bool) (xs ys : List (Option (ℕ × E))) (t : ℕ) (b : Bool) (y : Seen E)
    → Updated before later t b → ((q : ℕ) → (q ≡ t → ⊥) → slice_get ys q ≡ slice_get xs q) → slice_get (marks later 0 ys) t ≡ Some y → t < length xs
    → marks later 0 ys ≡ set (marks before 0 xs) t y
marks_change before later xs ys t b y update others here within =
    same_items (marks later 0 ys) (set (marks before 0 xs) t y) (λ q.
    elim (cases_eq q t) [
      | inl same ↦
          let old = inside (marks before 0 xs) t (omega (arith, length-marks before 0 xs)) in
          ap (slice_get (marks later 0 ys)) same ∙ here ∙ sym (slice_get-set_same (marks before 0 xs) t old.0 y old.1) ∙ ap (slice_get (set (marks before 0 xs) t y)) (sym same)
      | inr other ↦
          mark_at later ys q ∙ ap (λ w. option_map (mark w) (slice_get ys q)) (updated_others before later t q b other update) ∙ ap (option_map (mark (before q))) (others q other)
          ∙ sym (mark_at before xs q) ∙ sym (slice_get-set_other (marks before 0 xs) t q y other)
    ])

pub added : {E : Type 0} (before later : ℕ → Bool) (xs : List (Option (ℕ × E))) (t f : ℕ) (e : E) → Updated before later t true → t < length xs
    → marks later 0 (set xs t (Some (f, e))) ≡ set (marks before 0 xs) t (waiting f e)
added before later xs t f e update within =
    let old = inside xs t within in
    let written = slice_get-set_same xs t old.0 (Some (f, e)) old.1 in
    let here = mark_at later (set xs t (Some (f, e))) t ∙ ap (option_map (mark (later t))) written ∙ ap (λ w. Some (mark w (Some (f, e)))) (updated_here before later t true update) in
    marks_change before later xs (set xs t (Some (f, e))) t true (waiting f e) update (λ q other. slice_get-set_other xs t q (Some (f, e)) other) here within

pub taken : {E : Type 0} (before later : ℕ → Bool) (xs : List (Option (ℕ × E))) (t : ℕ) (x : ℕ × E) → Updated before later t false → slice_get xs t ≡ Some (Some x)
    → marks later 0 xs ≡ set (marks before 0 xs) t (done x.0 x.1)
taken before later xs t x update has =
    let here = mark_at later xs t ∙ ap (option_map (mark (later t))) has ∙ ap (λ w. Some (mark w (Some x))) (updated_here before later t false update) in
    marks_change before later xs xs t false (done x.0 x.1) update (λ q other. refl) here (slice_get_within xs t (Some x) has)

-- what is stored stays seen

pub added_seen : {E : Type 0} (before later : ℕ → Bool) (xs : List (Option (ℕ × E))) (t : ℕ) (x : ℕ × E) → Updated before later t true → t < length xs → AreSeen before xs → AreSeen later (set xs t (Some x))
added_seen before later xs t x update within seen s waits =
    elim (cases_eq s t) [
      | inl same ↦ (let old = inside xs t within in (x, ap (slice_get (set xs t (Some x))) same ∙ slice_get-set_same xs t old.0 (Some x) old.1))
      | inr other ↦
          let had = seen s (sym (updated_others before later t s true other update) ∙ waits) in
          (had.0, slice_get-set_other xs t s (Some x) other ∙ had.1)
    ]

pub taken_seen : {E : Type 0} (before later : ℕ → Bool) (xs : List (Option (ℕ × E))) (t : ℕ) → Updated before later t false → AreSeen before xs → AreSeen later xs
taken_seen before later xs t update seen s waits =
    elim (cases_eq s t) [
      | inl same ↦ absurd (false≢true (sym (updated_here before later t false update) ∙ ap later (sym same) ∙ waits))
      | inr other ↦ seen s (sym (updated_others before later t s false other update) ∙ waits)
    ]

-- the least that waits

first_parts : {E : Type 0} (n g : ℕ) (d : E) (f : ℕ) (e : E) → ◌≡◌ {A = Seen E} (waiting g d) (waiting f e) → ◌≡◌ {A = Option (ℕ × ℕ × E)} (Some (n, g, d)) (Some (n, f, e))
first_parts n g d f e is = cc

first_waiting : {E : Type 0} (u : Trace E) (s k f : ℕ) (e : E) → slice_get u k ≡ Some (waiting f e) → ((j g : ℕ) (d : E) → j < k → slice_get u j ≡ Some (waiting g d) → ⊥) → waiting_from s u ≡ Some (s + k, f, e)
first_waiting [] s k f e here none = absurd (none-some _ here)
first_waiting (unseen ∷ u) s zero f e here none = let bad = same_Some _ _ here in cc
first_waiting (unseen ∷ u) s (suc k) f e here none = (let same : s + 1 + k ≡ s + suc k = omega arith in first_waiting u (s + 1) k f e here (λ j g d lt is. none (suc j) g d (omega arith) is) ∙ ap (λ n. Some (n, f, e)) same)
first_waiting (waiting g d ∷ u) s zero f e here none = (let same : s ≡ s + 0 = omega arith in let is = same_Some _ _ here in ap (λ n. Some (n, g, d)) same ∙ first_parts (s + 0) g d f e is)
first_waiting (waiting g d ∷ u) s (suc k) f e here none = absurd (none 0 g d (omega arith) refl)
first_waiting (done g d ∷ u) s zero f e here none = let bad = same_Some _ _ here in cc
first_waiting (done g d ∷ u) s (suc k) f e here none = (let same : s + 1 + k ≡ s + suc k = omega arith in first_waiting u (s + 1) k f e here (λ j g d lt is. none (suc j) g d (omega arith) is) ∙ ap (λ n. Some (n, f, e)) same)

none_from : {E : Type 0} (u : Trace E) (s : ℕ) → ((j g : ℕ) (d : E) → slice_get u j ≡ Some (waiting g d) → ⊥) → waiting_from s u ≡ None
none_from [] s none = refl
none_from (unseen ∷ u) s none = none_from u (s + 1) (λ j g d is. none (suc j) g d is)
none_from (waiting g d ∷ u) s none = absurd (none 0 g d refl)
none_from (done g d ∷ u) s none = none_from u (s + 1) (λ j g d is. none (suc j) g d is)

-- what is marked as waiting waits
marked_waits : {E : Type 0} (waits : Bool) (o : Option (Option (ℕ × E))) (f : ℕ) (e : E) → option_map (mark waits) o ≡ Some (waiting f e) → waits ≡ true
marked_waits waits None f e is = absurd (none-some _ is)
marked_waits waits (Some None) f e is = let bad = same_Some _ _ is in cc
marked_waits true (Some (Some x)) f e is = refl
marked_waits false (Some (Some x)) f e is = let bad = same_Some _ _ is in cc

pub least_waiting : {E : Type 0} (waits : ℕ → Bool) (xs : List (Option (ℕ × E))) (t : ℕ) (x : ℕ × E) → waits t ≡ true → ((q : ℕ) → waits q ≡ true → is_gt (nat_cmp t q) ≡ false) → slice_get xs t ≡ Some (Some x)
    → waiting_from 0 (marks waits 0 xs) ≡ Some (t, x.0, x.1)
least_waiting {E} waits xs t x member least has =
    let here : slice_get (marks waits 0 xs) t ≡ Some (waiting x.0 x.1) = mark_at waits xs t ∙ ap (option_map (mark (waits t))) has ∙ ap (λ w. Some (mark w (Some x))) member in
    let start : 0 + t ≡ t = omega arith in
    first_waiting (marks waits 0 xs) 0 t x.0 x.1 here (λ j g d lt is. lower j lt (marked_waits (waits j) (slice_get xs j) g d (sym (mark_at waits xs j) ∙ is)))
    ∙ ap (λ n. Some (n, x.0, x.1)) start
  where
    lower : (j : ℕ) → j < t → waits j ≡ true → ⊥
    lower j lt is = let not_lower = least j is in false≢true (grind (arith, nat_tests))

pub none_waiting : {E : Type 0} (waits : ℕ → Bool) (xs : List (Option (ℕ × E))) → ((q : ℕ) → waits q ≡ false) → waiting_from 0 (marks waits 0 xs) ≡ None
none_waiting waits xs none = none_from (marks waits 0 xs) 0 (λ j g d is. false≢true (sym (none j) ∙ marked_waits (waits j) (slice_get xs j) g d (sym (mark_at waits xs j) ∙ is)))

-- what all statements have

-- the first that isn't seen, counted from s
abbrev pub missing_from : {A : Type 0} → ℕ → List (Option A) → Option ℕ
missing_from s [] = None
missing_from s (None ∷ xs) = Some s
missing_from s (Some x ∷ xs) = missing_from (s + 1) xs

abbrev pub seen_ones : {A : Type 0} → List (Option A) → List A
seen_ones [] = []
seen_ones (None ∷ xs) = seen_ones xs
seen_ones (Some x ∷ xs) = x ∷ seen_ones xs

unseen_behind : {E : Type 0} (waits : Bool) (s : ℕ) (x : ℕ × E) (u : Trace E) → unseen_from s (mark waits (Some x) ∷ u) ≡ unseen_from (s + 1) u
unseen_behind true s x u = refl
unseen_behind false s x u = refl

answers_behind : {E : Type 0} (waits : Bool) (x : ℕ × E) (u : Trace E) → answers (mark waits (Some x) ∷ u) ≡ x ∷ answers u
answers_behind true x u = refl
answers_behind false x u = refl

pub unseen_from-marks : {E : Type 0} (waits : ℕ → Bool) (s : ℕ) (xs : List (Option (ℕ × E))) → unseen_from s (marks waits s xs) ≡ missing_from s xs
unseen_from-marks waits s [] = refl
unseen_from-marks waits s (None ∷ xs) = refl
unseen_from-marks waits s (Some x ∷ xs) = unseen_behind (waits s) s x (marks waits (s + 1) xs) ∙ unseen_from-marks waits (s + 1) xs

pub answers-marks : {E : Type 0} (waits : ℕ → Bool) (s : ℕ) (xs : List (Option (ℕ × E))) → answers (marks waits s xs) ≡ seen_ones xs
answers-marks waits s [] = refl
answers-marks waits s (None ∷ xs) = answers-marks waits (s + 1) xs
answers-marks waits s (Some x ∷ xs) = answers_behind (waits s) x (marks waits (s + 1) xs) ∙ ap (λ l. x ∷ l) (answers-marks waits (s + 1) xs)

pub marks_of_none : {E : Type 0} (waits : ℕ → Bool) (n m : ℕ) (xs : List (Option (ℕ × E))) → xs ≡ replicate n None → n ≡ m → marks waits 0 xs ≡ replicate m unseen
marks_of_none waits n m xs is same = ap (marks waits 0) is ∙ marks-replicate waits 0 n ∙ ap (λ k. replicate k unseen) same

-- a look-up
pub given_stored : {E : Type 0} (waits : ℕ → Bool) (xs : List (Option (ℕ × E))) (u : Trace E) (t : ℕ) (o : Option (ℕ × E)) → marks waits 0 xs ≡ u → flat (slice_get xs t) ≡ o → o ≡ given u t
given_stored waits xs u t o view is = sym is ∙ sym (given-marks waits xs t) ∙ ap (λ v. given v t) view

-- the statement that comes next

idle_if_none : {E : Type 0} (ks : List ℕ) (xs : List (Option (ℕ × E))) (u : Trace E) → marks (has ks) 0 xs ≡ u → ks ≡ [] → waiting_from 0 u ≡ None
idle_if_none ks xs u view none = subst (λ v. waiting_from 0 v ≡ None) view (none_waiting (has ks) xs (λ q. ap (λ l. has l q) none))

pub if_idle : {A E : Type 0} (old new : List ℕ) (xs : List (Option (ℕ × E))) (u : Trace E) (o : Option A) → marks (has old) 0 xs ≡ u → (old ≡ []) × (new ≡ [])
    → IfNone o ((waiting_from 0 u ≡ None) × (marks (has new) 0 xs ≡ u))
if_idle old new xs u None view none = (idle_if_none old xs u view none.0, ap (λ ks. marks (has ks) 0 xs) (none.1 ∙ sym none.0) ∙ view)
if_idle old new xs u (Some a) view none = tt

pub next_found : {E : Type 0} (before later : ℕ → Bool) (xs : List (Option (ℕ × E))) (u : Trace E) (t : ℕ) (x : ℕ × E) → marks before 0 xs ≡ u
    → before t ≡ true → ((q : ℕ) → before q ≡ true → is_gt (nat_cmp t q) ≡ false) → Updated before later t false → slice_get xs t ≡ Some (Some x)
    → (e : E) × (waiting_from 0 u ≡ Some (t, x.0, e)) × (marks later 0 xs ≡ set u t (done x.0 e))
next_found before later xs u t x view member least update has = (
  x.1,
  subst (λ v. waiting_from 0 v ≡ Some (t, x.0, x.1)) view (least_waiting before xs t x member least has),
  taken before later xs t x update has ∙ ap (λ v. set v t (done x.0 x.1)) view,
)

-- what is stored at a place that is read
pub stored_there : {A : Type 0} (xs : List (Option A)) (t : ℕ) (item : Option A) (x : A) → t < length xs → item ≡ get_or xs t item → Some x ≡ item → slice_get xs t ≡ Some (Some x)
stored_there xs t item x within read is = slice_get_read xs (length xs) t item refl within read ∙ ap Some (sym is)

pub never_missing : {A : Type 0} (xs : List (Option A)) (t : ℕ) (item : Option A) → (x : A) × (slice_get xs t ≡ Some (Some x)) → item ≡ get_or xs t item → None ≡ item → ⊥
never_missing xs t item stored read is = none-some stored.0 (is ∙ read ∙ get_or_from_slice_get xs t (Some stored.0) item stored.1)

pub stored_within : {E : Type 0} (waits : ℕ → Bool) (xs : List (Option (ℕ × E))) (u : Trace E) (t : ℕ) → marks waits 0 xs ≡ u → slice_get u t ≡ Some unseen → t < length xs
stored_within waits xs u t view here = omega (arith, slice_get_within u t unseen here, ap length view, length-marks waits 0 xs)

-- the loop over what is stored

pub missing_here : {E : Type 0} (waits : ℕ → Bool) (xs start rest later : List (Option (ℕ × E))) (u : Trace E) (list : List (ℕ × E)) (item : Option (ℕ × E)) (s : ℕ)
    → marks waits 0 xs ≡ u → start ≡ xs → missing_from 0 start ≡ missing_from (length list) rest → rest ≡ item ∷ later → item ≡ None → length list ≡ s → unseen_from 0 u ≡ Some s
missing_here waits xs start rest later u list item s view begin sofar next none is =
    ap (unseen_from 0) (sym view) ∙ unseen_from-marks waits 0 xs ∙ ap (missing_from 0) (sym begin) ∙ sofar ∙ ap (missing_from (length list)) (next ∙ ap (λ i. i ∷ later) none) ∙ ap Some is

pub empty_list : {A : Type 0} (xs : List A) → length xs ≡ 0 → xs ≡ []
empty_list [] none = refl
empty_list (x ∷ xs) none = absurd (omega arith)

pub all_listed : {E : Type 0} (waits : ℕ → Bool) (xs start rest : List (Option (ℕ × E))) (u : Trace E) (list : List (ℕ × E))
    → marks waits 0 xs ≡ u → start ≡ xs → (missing_from 0 start ≡ missing_from (length list) rest) × (seen_ones start ≡ list ++ seen_ones rest) → rest ≡ [] → (unseen_from 0 u ≡ None) × (list ≡ answers u)
all_listed waits xs start rest u list view begin sofar none = (
  ap (unseen_from 0) (sym view) ∙ unseen_from-marks waits 0 xs ∙ ap (missing_from 0) (sym begin) ∙ sofar.0 ∙ ap (missing_from (length list)) none,
  sym (ap answers (sym view) ∙ answers-marks waits 0 xs ∙ ap seen_ones (sym begin) ∙ sofar.1 ∙ ap (λ r. list ++ seen_ones r) none ∙ append-nil list),
)
