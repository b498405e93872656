-- The terms and amounts of statements, by their numbers.
use Rattle.std.proofs.Common.{◌≡◌, ℕ, zero, suc, ◌+◌, ◌<◌, ◌≤◌, List, [], ◌∷◌, ◌++◌, length, get_or, drop, Some, refl, sym, ap, subst, ◌∙◌, arith}
use Rattle.std.specs.List.{slice_get, AllByRecursion}
use Rattle.std.proofs.lemmas.List.{append-nil, append_assoc, drop_all, drop_more}
use Rattle.std.proofs.lemmas.Option.{none-some, same_Some}
use Rattle.sierra_types.specs.declared.program.Program.{Program}
use Rattle.sierra_types.specs.declared.program.Statement.{Statement}
use Rattle.type_table.specs.View.{TypesView}
use Rattle.libfunc_registry.specs.declared.sig.Sig.{Sig}
use Rattle.gas_solver.specs.Terms.{statement_terms, terms_from, program_terms}
use Rattle.gas_solver.specs.Plans.{amount_of, amounts_from}

pub length-terms : (p : Program) (t : TypesView) (sigs : List Sig) (s : ℕ) (all : List Statement) → length (terms_from p t sigs s all) ≡ length all
length-terms p t sigs s [] = refl
length-terms p t sigs s (statement ∷ all) = ap suc (length-terms p t sigs (s + 1) all)

pub length-program_terms : (p : Program) (t : TypesView) (sigs : List Sig) → length (program_terms p t sigs) ≡ length p.statements
length-program_terms p t sigs = length-terms p t sigs 0 p.statements

pub length-amounts : (p : Program) (sigs : List Sig) (need : ℕ → ℕ) (s : ℕ) (all : List Statement) → length (amounts_from p sigs need s all) ≡ length all
length-amounts p sigs need s [] = refl
length-amounts p sigs need s (statement ∷ all) = ap suc (length-amounts p sigs need (s + 1) all)

terms_there : (p : Program) (t : TypesView) (sigs : List Sig) (s : ℕ) (all : List Statement) (i : ℕ) (statement : Statement) → slice_get all i ≡ Some statement → get_or (terms_from p t sigs s all) i [] ≡ statement_terms p t sigs (s + i) statement
terms_there p t sigs s [] i statement is = absurd (none-some statement is)
terms_there p t sigs s (x ∷ all) zero statement is =
    let place : s ≡ s + 0 = omega arith in
    ap (statement_terms p t sigs s) (same_Some x statement is) ∙ ap (λ n. statement_terms p t sigs n statement) place
terms_there p t sigs s (x ∷ all) (suc i) statement is =
    let place : s + 1 + i ≡ s + suc i = omega arith in
    terms_there p t sigs (s + 1) all i statement is ∙ ap (λ n. statement_terms p t sigs n statement) place

-- the terms of statement s
pub terms_at : (p : Program) (t : TypesView) (sigs : List Sig) (s : ℕ) (statement : Statement) → slice_get p.statements s ≡ Some statement → get_or (program_terms p t sigs) s [] ≡ statement_terms p t sigs s statement
terms_at p t sigs s statement is =
    let place : 0 + s ≡ s = omega arith in
    terms_there p t sigs 0 p.statements s statement is ∙ ap (λ n. statement_terms p t sigs n statement) place

amounts_there : (p : Program) (sigs : List Sig) (need : ℕ → ℕ) (s : ℕ) (all : List Statement) (i : ℕ) (statement : Statement) → slice_get all i ≡ Some statement → slice_get (amounts_from p sigs need s all) i ≡ Some (amount_of p sigs need (s + i) statement)
amounts_there p sigs need s [] i statement is = absurd (none-some statement is)
amounts_there p sigs need s (x ∷ all) zero statement is =
    let place : s ≡ s + 0 = omega arith in
    ap (λ y. Some (amount_of p sigs need s y)) (same_Some x statement is) ∙ ap (λ n. Some (amount_of p sigs need n statement)) place
amounts_there p sigs need s (x ∷ all) (suc i) statement is =
    let place : s + 1 + i ≡ s + suc i = omega arith in
    amounts_there p sigs need (s + 1) all i statement is ∙ ap (λ n. Some (amount_of p sigs need n statement)) place

-- the amount of statement s
pub amounts_at : (p : Program) (sigs : List Sig) (need : ℕ → ℕ) (s : ℕ) (statement : Statement) → slice_get p.statements s ≡ Some statement → slice_get (amounts_from p sigs need 0 p.statements) s ≡ Some (amount_of p sigs need s statement)
amounts_at p sigs need s statement is =
    let place : 0 + s ≡ s = omega arith in
    amounts_there p sigs need 0 p.statements s statement is ∙ ap (λ n. Some (amount_of p sigs need n statement)) place

-- what holds of each holds of one
pub all_at : {A : Type 0} (P : A → Type 0) (xs : List A) (k : ℕ) (x : A) → AllByRecursion P xs → slice_get xs k ≡ Some x → P x
all_at P [] k x all is = absurd (none-some x is)
all_at P (y ∷ ys) zero x all is = subst P (same_Some y x is) all.0
all_at P (y ∷ ys) (suc k) x all is = all_at P ys k x all.1 is

-- a list that is made item by item: what was made so far, and what is still to come, are all
abbrev pub Remaining : {A B : Type 0} → (ℕ → List A → List B) → List A → ℕ → List B → Type 0
Remaining made all k done = done ++ made k (drop k all) ≡ made 0 all

pub made_more : {A B : Type 0} (made : ℕ → List A → List B) (one : ℕ → A → B) → ((k : ℕ) (x : A) (xs : List A) → made k (x ∷ xs) ≡ one k x ∷ made (k + 1) xs)
    → (all : List A) (k : ℕ) (x : A) (done : List B) → k < length all → x ≡ get_or all k x → Remaining made all k done → Remaining made all (k + 1) (done ++ one k x ∷ [])
made_more made one step all k x done lt read so =
    let rest = drop_more all k x lt in
    let there = ap (made k) rest ∙ ap (λ y. made k (y ∷ drop (k + 1) all)) (sym read) ∙ step k x (drop (k + 1) all) in
    append_assoc done (one k x ∷ []) (made (k + 1) (drop (k + 1) all)) ∙ ap (λ ys. done ++ ys) (sym there) ∙ so

pub all_made : {A B : Type 0} (made : ℕ → List A → List B) → ((k : ℕ) → made k [] ≡ []) → (all : List A) (k : ℕ) (done : List B) → length all ≤ k → Remaining made all k done → done ≡ made 0 all
all_made made end all k done past so = sym (append-nil done) ∙ ap (λ ys. done ++ ys) (sym (ap (made k) (drop_all k all past) ∙ end k)) ∙ so
