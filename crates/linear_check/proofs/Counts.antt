-- Counting what leads to each statement.
use Rattle.std.proofs.Common.{◌≡◌, ℕ, zero, suc, ◌+◌, ◌<◌, ◌≤◌, min, cond, eqb, List, [], ◌∷◌, length, set, get_or, drop, count_by, replicate, Some, refl, sym, ap, ◌∙◌, arith, inl, inr}
use Rattle.std.specs.List.{slice_get}
use Rattle.std.proofs.lemmas.Bool.{cases_eq, eq-eqb, ne_eqb}
use Rattle.std.proofs.lemmas.Option.{slice_get_within, get_or_from_slice_get}
use Rattle.statement_walk.proofs.Arrivals.{slice_get-set_same, slice_get-set_other}
use Rattle.std.proofs.Math.Seq.{drop-cons}
use Rattle.std.proofs.lemmas.List.Sums.{sum_by-cons}
use Rattle.sierra_types.specs.declared.program.Program.{Program}
use Rattle.sierra_types.specs.declared.program.Function.{Function}
use Rattle.sierra_types.specs.declared.program.Statement.{Statement}
use Rattle.sierra_types.specs.declared.program.Branch.{Branch}
use Rattle.linear_check.specs.Statements.{target_of, targets_of, leads_of, branches_to, predecessors}
use Rattle.linear_check.specs.Counting.{CountsMore}

-- one more that leads to a statement

capped : (n c k : ℕ) → n ≡ min 2 c → k ≡ 1 → min n 1 + 1 ≡ min 2 (c + (0 + k))
capped n c k is one = omega arith

not_counted : (target t c : ℕ) → (target ≡ t → ⊥) → c ≡ c + (0 + cond (eqb target t) 1 0)
not_counted target t c other = let none : ◌≡◌ {A = ℕ} (cond (eqb target t) 1 0) 0 = ap (λ b. cond b 1 0) (ne_eqb target t other) in omega (arith, none)

pub counted_there : (old new : List ℕ) (target n : ℕ) → n ≡ get_or old target 0 → new ≡ set old target (min n 1 + 1) → CountsMore old new (λ t. 0 + cond (eqb target t) 1 0)
counted_there old new target n read is t c had =
    elim (cases_eq t target) [
      | inl same ↦
          let n_is : n ≡ min 2 c = read ∙ sym (ap (λ q. get_or old q 0) same) ∙ get_or_from_slice_get old t (min 2 c) 0 had in
          let written : slice_get new t ≡ Some (min n 1 + 1) = ap (λ l. slice_get l t) is ∙ sym (ap (λ q. slice_get (set old q (min n 1 + 1)) t) same) ∙ slice_get-set_same old t (min 2 c) (min n 1 + 1) had in
          let one : ◌≡◌ {A = ℕ} (cond (eqb target t) 1 0) 1 = ap (λ b. cond b 1 0) (eq-eqb target t (sym same)) in
          written ∙ ap Some (capped n c (cond (eqb target t) 1 0) n_is one)
      | inr other ↦
          ap (λ l. slice_get l t) is ∙ slice_get-set_other old target t (min n 1 + 1) other ∙ had ∙ ap (λ k. Some (min 2 k)) (not_counted target t c (λ same. other (sym same)))
    ]

-- there is no such statement
pub counted_past : (old : List ℕ) (target : ℕ) → length old ≤ target → CountsMore old old (λ t. 0 + cond (eqb target t) 1 0)
counted_past old target past t c had =
    let within = slice_get_within old t (min 2 c) had in
    had ∙ ap (λ k. Some (min 2 k)) (not_counted target t c (λ same. absurd (omega (arith, within))))

-- what is counted so far and what is left are all
abbrev pub Remaining : List ℕ → List ℕ → (ℕ → ℕ) → (ℕ → ℕ) → Type 0
Remaining old counts rest all = (t c : ℕ) → slice_get old t ≡ Some (min 2 c) → (d : ℕ) × (slice_get counts t ≡ Some (min 2 d)) × (d + rest t ≡ c + all t)

pub none_counted : (old : List ℕ) (all : ℕ → ℕ) → Remaining old old all all
none_counted old all t c had = (c, had, refl)

pub more_counted : (old counts new : List ℕ) (rest more later all : ℕ → ℕ) → Remaining old counts rest all → CountsMore counts new more → ((t : ℕ) → rest t ≡ more t + later t) → Remaining old new later all
more_counted old counts new rest more later all sofar counted split t c had =
    let before = sofar t c had in
    (before.0 + more t, counted t before.0 before.1, omega (arith, before.2, split t))

pub all_counted : (old counts : List ℕ) (rest all : ℕ → ℕ) → Remaining old counts rest all → ((t : ℕ) → rest t ≡ 0) → CountsMore old counts all
all_counted old counts rest all sofar none t c had =
    let before = sofar t c had in
    let same : before.0 ≡ c + all t = omega (arith, before.2, none t) in
    before.1 ∙ ap (λ k. Some (min 2 k)) same

pub begin_at_zero : (n : ℕ) (t : ℕ) → t < n → slice_get (replicate n 0) t ≡ Some (min 2 0)
begin_at_zero zero t lt = absurd (omega arith)
begin_at_zero (suc n) zero lt = refl
begin_at_zero (suc n) (suc t) lt = begin_at_zero n t (omega arith)

-- the item at a place, and those behind it
pub drop_at : {A : Type 0} (xs : List A) (i : ℕ) (x : A) → i < length xs → x ≡ get_or xs i x → drop i xs ≡ x ∷ drop (i + 1) xs
drop_at xs i x lt read =
    let next : suc i ≡ i + 1 = omega arith in
    drop-cons xs i x lt ∙ ap (λ y. y ∷ drop (suc i) xs) (sym read) ∙ ap (λ n. x ∷ drop n xs) next

first_counted : (rest a b t : ℕ) → a ≡ b → cond (eqb a t) 1 0 + rest ≡ 0 + cond (eqb b t) 1 0 + rest
first_counted rest a b t same = let alike : ◌≡◌ {A = ℕ} (cond (eqb a t) 1 0) (cond (eqb b t) 1 0) = ap (λ n. cond (eqb n t) 1 0) same in omega arith

pub branches_split : (s : ℕ) (bs : List Branch) (i : ℕ) (b : Branch) (target : ℕ) → i < length bs → b ≡ get_or bs i b → target ≡ target_of s b.target → (t : ℕ)
    → count_by (λ u. eqb u t) (targets_of s (drop i bs)) ≡ count_by (λ u. eqb u t) (target ∷ []) + count_by (λ u. eqb u t) (targets_of s (drop (i + 1) bs))
branches_split s bs i b target lt read is t =
    ap (λ l. count_by (λ u. eqb u t) (targets_of s l)) (drop_at bs i b lt read) ∙ sum_by-cons (λ u. cond (eqb u t) 1 0) (target_of s b.target) (targets_of s (drop (i + 1) bs)) ∙ first_counted (count_by (λ u. eqb u t) (targets_of s (drop (i + 1) bs))) (target_of s b.target) target t (sym is)

pub entries_split : (fs : List Function) (i : ℕ) (f : Function) → i < length fs → f ≡ get_or fs i f → (t : ℕ)
    → count_by (λ (g : Function). eqb g.entry t) (drop i fs) ≡ count_by (λ u. eqb u t) (f.entry ∷ []) + count_by (λ (g : Function). eqb g.entry t) (drop (i + 1) fs)
entries_split fs i f lt read t =
    ap (count_by (λ (g : Function). eqb g.entry t)) (drop_at fs i f lt read) ∙ sum_by-cons (λ (g : Function). cond (eqb g.entry t) 1 0) f (drop (i + 1) fs) ∙ first_counted (count_by (λ (g : Function). eqb g.entry t) (drop (i + 1) fs)) f.entry f.entry t refl

pub statements_split : (all : List Statement) (s : ℕ) (statement : Statement) → s < length all → statement ≡ get_or all s statement → (t : ℕ)
    → branches_to t s (drop s all) ≡ count_by (λ u. eqb u t) (leads_of s statement) + branches_to t (s + 1) (drop (s + 1) all)
statements_split all s statement lt read t = ap (branches_to t s) (drop_at all s statement lt read)

-- all statements and then all functions
pub predecessors_counted : (p : Program) (n t : ℕ) (zeros half counts : List ℕ) → zeros ≡ replicate n 0 → t < n → CountsMore zeros half (λ t. branches_to t 0 p.statements) → CountsMore half counts (λ t. count_by (λ (f : Function). eqb f.entry t) p.functions)
    → slice_get counts t ≡ Some (min 2 (predecessors p t))
predecessors_counted p n t zeros half counts is lt first second =
    let begin = ap (λ l. slice_get l t) is ∙ begin_at_zero n t lt in
    let all : 0 + branches_to t 0 p.statements + count_by (λ (f : Function). eqb f.entry t) p.functions ≡ predecessors p t = omega arith in
    second t (0 + branches_to t 0 p.statements) (first t 0 begin) ∙ ap (λ k. Some (min 2 k)) all
