-- A statement that has one predecessor is led to by one branch alone.
use Rattle.std.proofs.Common.{◌≡◌, ℕ, zero, suc, ◌+◌, ◌<◌, ◌≤◌, true, false, cond, ◌||◌, eqb, List, [], ◌∷◌, length, count_by, Some, refl, sym, ap, subst, ◌∙◌, arith, inl, inr}
use Rattle.std.specs.List.{slice_get, AllByRecursion, IsDistinct, list_any}
use Rattle.std.proofs.lemmas.Bool.{cases_order, cases_Bool, false≢true, eq-eqb, eqb-true}
use Rattle.std.proofs.lemmas.List.Sums.{sum_by-cons}
use Rattle.std.proofs.lemmas.Map.Steps.{length-le_from_distinct_below}
use Rattle.std.proofs.lemmas.Option.{none-some, same_Some}
use Rattle.sierra_types.specs.declared.program.Program.{Program}
use Rattle.sierra_types.specs.declared.program.Function.{Function}
use Rattle.sierra_types.specs.declared.program.Statement.{Statement}
use Rattle.linear_check.specs.Branching.{IsOnlyWayIn}
use Rattle.linear_check.specs.Statements.{leads_of, branches_to, predecessors}

-- how often a number is in a list
abbrev count : ℕ → List ℕ → ℕ
count u xs = count_by (λ v. eqb v u) xs

count_cons : (u x : ℕ) (xs : List ℕ) → count u (x ∷ xs) ≡ cond (eqb x u) 1 0 + count u xs
count_cons u x xs = sum_by-cons (λ v. cond (eqb v u) 1 0) x xs

here_once : (u x : ℕ) → x ≡ u → ◌≡◌ {A = ℕ} (cond (eqb x u) 1 0) 1
here_once u x same = ap (λ b. cond b 1 0) (eq-eqb x u same)

one_at : (u : ℕ) (xs : List ℕ) (k : ℕ) → slice_get xs k ≡ Some u → 1 ≤ count u xs
one_at u [] k is = absurd (none-some u is)
one_at u (x ∷ xs) zero is = omega (arith, count_cons u x xs, here_once u x (same_Some x u is))
one_at u (x ∷ xs) (suc k) is = omega (arith, count_cons u x xs, one_at u xs k is)

-- what is there once is at one place
once_at : (u : ℕ) (xs : List ℕ) (j k : ℕ) → slice_get xs j ≡ Some u → slice_get xs k ≡ Some u → count u xs ≤ 1 → j ≡ k
once_at u [] j k here there once = absurd (none-some u here)
once_at u (x ∷ xs) zero zero here there once = refl
once_at u (x ∷ xs) zero (suc k) here there once = absurd (omega (arith, count_cons u x xs, here_once u x (same_Some x u here), one_at u xs k there))
once_at u (x ∷ xs) (suc j) zero here there once = absurd (omega (arith, count_cons u x xs, here_once u x (same_Some x u there), one_at u xs j here))
once_at u (x ∷ xs) (suc j) (suc k) here there once = ap suc (once_at u xs j k here there (omega (arith, count_cons u x xs)))

-- the branches of one statement are among all
among : (u : ℕ) (all : List Statement) (n i m : ℕ) (statement : Statement) → n + i ≡ m → slice_get all i ≡ Some statement → count u (leads_of m statement) ≤ branches_to u n all
among u [] n i m statement is here = absurd (none-some statement here)
among u (x ∷ all) n zero m statement is here =
    let same : count u (leads_of n x) ≡ count u (leads_of m statement) = ap (λ k. count u (leads_of k x)) (omega arith) ∙ ap (λ y. count u (leads_of m y)) (same_Some x statement here) in
    omega (arith, same)
among u (x ∷ all) n (suc i) m statement is here = omega (arith, among u all (n + 1) i m statement (omega arith) here)

-- the branches of two statements are among all
both_among : (u : ℕ) (all : List Statement) (n i j l m : ℕ) (first second : Statement) → i < j → n + i ≡ l → n + j ≡ m → slice_get all i ≡ Some first → slice_get all j ≡ Some second
    → count u (leads_of l first) + count u (leads_of m second) ≤ branches_to u n all
both_among u [] n i j l m first second lt is is' here there = absurd (none-some first here)
both_among u (x ∷ all) n i zero l m first second lt is is' here there = absurd (omega arith)
both_among u (x ∷ all) n zero (suc j) l m first second lt is is' here there =
    let same : count u (leads_of n x) ≡ count u (leads_of l first) = ap (λ k. count u (leads_of k x)) (omega arith) ∙ ap (λ y. count u (leads_of l y)) (same_Some x first here) in
    omega (arith, same, among u all (n + 1) j m second (omega arith) there)
both_among u (x ∷ all) n (suc i) (suc j) l m first second lt is is' here there =
    omega (arith, both_among u all (n + 1) i j l m first second (omega arith) (omega arith) (omega arith) here there)

entered : (u : ℕ) (fs : List Function) (f : ℕ) (g : Function) → slice_get fs f ≡ Some g → g.entry ≡ u → 1 ≤ count_by (λ (h : Function). eqb h.entry u) fs
entered u [] f g here is = absurd (none-some g here)
entered u (x ∷ fs) zero g here is =
    let same = ap (λ (h : Function). h.entry) (same_Some x g here) in
    omega (arith, sum_by-cons (λ (h : Function). cond (eqb h.entry u) 1 0) x fs, here_once u x.entry (same ∙ is))
entered u (x ∷ fs) (suc f) g here is = omega (arith, sum_by-cons (λ (h : Function). cond (eqb h.entry u) 1 0) x fs, entered u fs f g here is)

pub only_way : (p : Program) (s k u : ℕ) (statement : Statement) → slice_get p.statements s ≡ Some statement → slice_get (leads_of s statement) k ≡ Some u → predecessors p u ≡ 1 → IsOnlyWayIn p s k u
only_way p s k u statement here lead alone = record {
  one_branch = λ r j other there leads.
      elim (cases_order r s) [
        | inl same ↦
            let alike = same_Some other statement (sym there ∙ ap (slice_get p.statements) same ∙ here) in
            let leads_here : slice_get (leads_of s statement) j ≡ Some u = subst (λ y. slice_get (leads_of s y) j ≡ Some u) alike (subst (λ q. slice_get (leads_of q other) j ≡ Some u) same leads) in
            let once = among u p.statements 0 s s statement (omega arith) here in
            (same, once_at u (leads_of s statement) j k leads_here lead (omega (arith, once, alone)))
        | inr (inl before) ↦
            let both = both_among u p.statements 0 r s r s other statement before (omega arith) (omega arith) there here in
            absurd (omega (arith, both, one_at u (leads_of r other) j leads, one_at u (leads_of s statement) k lead, alone))
        | inr (inr behind) ↦
            let both = both_among u p.statements 0 s r s r statement other behind (omega arith) (omega arith) here there in
            absurd (omega (arith, both, one_at u (leads_of r other) j leads, one_at u (leads_of s statement) k lead, alone))
      ];
  no_entry = λ f g there is.
      let once = among u p.statements 0 s s statement (omega arith) here in
      absurd (omega (arith, once, entered u p.functions f g there is, one_at u (leads_of s statement) k lead, alone));
}

-- numbers of which none is at two places are distinct

mutual_apart : (x : ℕ) (xs : List ℕ) → ((k : ℕ) (y : ℕ) → slice_get xs k ≡ Some y → x ≡ y → ⊥) → AllByRecursion (λ y. eqb x y ≡ false) xs
mutual_apart x [] apart = tt
mutual_apart x (y ∷ xs) apart =
    let here : eqb x y ≡ false = (elim (cases_Bool (eqb x y)) [ inl same ↦ absurd (apart 0 y refl (eqb-true x y same)) | inr other ↦ other ]) in
    (here, mutual_apart x xs (λ k z is. apart (suc k) z is))

distinct : (xs : List ℕ) → ((j k u : ℕ) → slice_get xs j ≡ Some u → slice_get xs k ≡ Some u → j ≡ k) → IsDistinct eqb xs
unfolding IsDistinct
distinct [] once = tt
distinct (x ∷ xs) once = (
  mutual_apart x xs (λ k y is same. absurd (let clash : 0 ≡ suc k = once 0 (suc k) y (ap Some same) is in omega arith)),
  distinct xs (λ j k u here there. (let same : suc j ≡ suc k = once (suc j) (suc k) u here there in omega arith)),
)

found_at : (q : ℕ) (xs : List ℕ) → list_any (eqb q) xs ≡ true → (k : ℕ) × (slice_get xs k ≡ Some q)
found_at q [] is = absurd (false≢true is)
found_at q (x ∷ xs) is =
    elim (cases_Bool (eqb q x)) [
      | inl same ↦ (0, ap Some (sym (eqb-true q x same)))
      | inr other ↦ (let later = found_at q xs (sym (ap (λ b. b || list_any (eqb q) xs) other) ∙ is) in (suc later.0, later.1))
    ]

-- distinct numbers below a bound are as many at most
pub distinct_short : (xs : List ℕ) (n : ℕ) → ((j k u : ℕ) → slice_get xs j ≡ Some u → slice_get xs k ≡ Some u → j ≡ k) → ((k u : ℕ) → slice_get xs k ≡ Some u → u < n) → length xs ≤ n
distinct_short xs n once below = length-le_from_distinct_below xs n (distinct xs once) (λ q is. (let at = found_at q xs is in below at.0 q at.1))
