-- What the branches of a statement give, one after another.
use Rattle.std.proofs.Common.{◌≡◌, ℕ, zero, suc, ◌+◌, ◌<◌, Bool, true, false, inl, inr, ◌⊎◌, eqb, nat_lt, List, [], ◌∷◌, ◌++◌, length, drop, get_or, Option, Some, None, Result, Ok, Err, refl, sym, ap, subst, ◌∙◌, arith}
use Rattle.std.proofs.lemmas.Bool.{and_parts, false≢true, ltb-true}
use Rattle.std.proofs.lemmas.List.{append-nil, append_assoc}
use Rattle.std.specs.List.{list_all}
use Rattle.sierra_types.specs.declared.program.Program.{Program}
use Rattle.sierra_types.specs.declared.program.Branch.{Branch}
use Rattle.type_table.specs.declared.type_id.TypeId.{TypeId}
use Rattle.libfunc_registry.specs.declared.sig.Sig.{Sig}
use Rattle.held_list.specs.Held.{Held}
use Rattle.statement_walk.specs.Branches.{AreFirst}
use Rattle.linear_check.specs.declared.fault.LinearFault.{LinearFault}
use Rattle.linear_check.specs.declared.fault.LinearFault.TheVariants.{Memory}
use Rattle.linear_check.specs.Statements.{target_of}
use Rattle.linear_check.specs.Flow.{branch_part, branch_parts, counts_agree}
use Rattle.linear_check.proofs.Counts.{drop_at}

-- what was given, with what is still given, are the first parts of all
abbrev pub SoFar : Program → List Sig → ℕ → Bool → Held TypeId → List Branch → List (List TypeId) → ℕ → List (ℕ × Held TypeId) → Type 0
SoFar p sigs s several rest bs ts k given =
    (more : List (ℕ × Held TypeId)) (fault : Option LinearFault) → AreFirst more fault (branch_parts p sigs s several rest (drop k bs) (drop k ts)) → AreFirst (given ++ more) fault (branch_parts p sigs s several rest bs ts)

pub counts_length : (bs : List Branch) (ts : List (List TypeId)) → counts_agree bs ts ≡ true → length ts ≡ length bs
counts_length [] [] agree = refl
counts_length [] (t ∷ ts) agree = absurd (false≢true agree)
counts_length (b ∷ bs) [] agree = absurd (false≢true agree)
counts_length (b ∷ bs) (t ∷ ts) agree = ap suc (counts_length bs ts (and_parts (eqb (length b.results) (length t)) (counts_agree bs ts) agree).1)

pub inside_at : (s size : ℕ) (bs : List Branch) (k : ℕ) (b : Branch) → list_all (λ c. nat_lt (target_of s c.target) size) bs ≡ true → k < length bs → b ≡ get_or bs k b → target_of s b.target < size
inside_at s size [] k b all lt read = absurd (omega arith)
inside_at s size (c ∷ bs) zero b all lt read =
    let here = ltb-true (target_of s c.target) size (and_parts (nat_lt (target_of s c.target) size) (list_all (λ c. nat_lt (target_of s c.target) size) bs) all).0 in
    subst (λ (d : Branch). target_of s d.target < size) (sym read) here
inside_at s size (c ∷ bs) (suc k) b all lt read = inside_at s size bs k b (and_parts (nat_lt (target_of s c.target) size) (list_all (λ c. nat_lt (target_of s c.target) size) bs) all).1 (omega arith) read

pub parts_at : (p : Program) (sigs : List Sig) (s : ℕ) (several : Bool) (rest : Held TypeId) (bs : List Branch) (ts : List (List TypeId)) (k : ℕ) (b : Branch) (t : List TypeId) → k < length bs → k < length ts → b ≡ get_or bs k b → t ≡ get_or ts k t
    → branch_parts p sigs s several rest (drop k bs) (drop k ts) ≡ branch_part p sigs s several rest b t ∷ branch_parts p sigs s several rest (drop (k + 1) bs) (drop (k + 1) ts)
parts_at p sigs s several rest bs ts k b t lt lt' read read' =
    ap (λ l. branch_parts p sigs s several rest l (drop k ts)) (drop_at bs k b lt read) ∙ ap (branch_parts p sigs s several rest (b ∷ drop (k + 1) bs)) (drop_at ts k t lt' read')

pub one_more_given : (p : Program) (sigs : List Sig) (s : ℕ) (several : Bool) (rest : Held TypeId) (bs : List Branch) (ts : List (List TypeId)) (k : ℕ) (b : Branch) (t : List TypeId) (given : List (ℕ × Held TypeId)) (part : ℕ × Held TypeId)
    → k < length bs → k < length ts → b ≡ get_or bs k b → t ≡ get_or ts k t → branch_part p sigs s several rest b t ≡ Ok part → SoFar p sigs s several rest bs ts k given → SoFar p sigs s several rest bs ts (k + 1) (given ++ part ∷ [])
one_more_given p sigs s several rest bs ts k b t given part lt lt' read read' gives sofar more fault first =
    let parts = parts_at p sigs s several rest bs ts k b t lt lt' read read' ∙ ap (λ x. x ∷ branch_parts p sigs s several rest (drop (k + 1) bs) (drop (k + 1) ts)) gives in
    let here : AreFirst (part ∷ more) fault (Ok part ∷ branch_parts p sigs s several rest (drop (k + 1) bs) (drop (k + 1) ts)) = (refl, first) in
    let all = sofar (part ∷ more) fault (subst (AreFirst (part ∷ more) fault) (sym parts) here) in
    subst (λ l. AreFirst l fault (branch_parts p sigs s several rest bs ts)) (sym (append_assoc given (part ∷ []) more)) all

pub fault_given : (p : Program) (sigs : List Sig) (s : ℕ) (several : Bool) (rest : Held TypeId) (bs : List Branch) (ts : List (List TypeId)) (k : ℕ) (b : Branch) (t : List TypeId) (given : List (ℕ × Held TypeId)) (fault : LinearFault)
    → k < length bs → k < length ts → b ≡ get_or bs k b → t ≡ get_or ts k t → branch_part p sigs s several rest b t ≡ Err fault → SoFar p sigs s several rest bs ts k given → AreFirst given (Some fault) (branch_parts p sigs s several rest bs ts)
fault_given p sigs s several rest bs ts k b t given fault lt lt' read read' gives sofar =
    let parts = parts_at p sigs s several rest bs ts k b t lt lt' read read' ∙ ap (λ x. x ∷ branch_parts p sigs s several rest (drop (k + 1) bs) (drop (k + 1) ts)) gives in
    let here : AreFirst [] (Some fault) (Err fault ∷ branch_parts p sigs s several rest (drop (k + 1) bs) (drop (k + 1) ts)) = refl in
    subst (λ l. AreFirst l (Some fault) (branch_parts p sigs s several rest bs ts)) (append-nil given) (sofar [] (Some fault) (subst (AreFirst [] (Some fault)) (sym parts) here))

drop_all : {A : Type 0} (xs : List A) (k : ℕ) → k ≡ length xs → drop k xs ≡ []
drop_all [] zero is = refl
drop_all [] (suc k) is = refl
drop_all (x ∷ xs) zero is = absurd (omega arith)
drop_all (x ∷ xs) (suc k) is = drop_all xs k (omega arith)

pub all_given : (p : Program) (sigs : List Sig) (s : ℕ) (several : Bool) (rest : Held TypeId) (bs : List Branch) (ts : List (List TypeId)) (k : ℕ) (given : List (ℕ × Held TypeId))
    → k ≡ length bs → SoFar p sigs s several rest bs ts k given → AreFirst given None (branch_parts p sigs s several rest bs ts)
all_given p sigs s several rest bs ts k given is sofar =
    let none : branch_parts p sigs s several rest (drop k bs) (drop k ts) ≡ [] = ap (λ l. branch_parts p sigs s several rest l (drop k ts)) (drop_all bs k is) in
    subst (λ l. AreFirst l None (branch_parts p sigs s several rest bs ts)) (append-nil given) (sofar [] None (subst (AreFirst [] None) (sym none) tt))

pub none_given : (p : Program) (sigs : List Sig) (s : ℕ) (several : Bool) (rest : Held TypeId) (bs : List Branch) (ts : List (List TypeId)) (given : List (ℕ × Held TypeId)) → given ≡ [] → SoFar p sigs s several rest bs ts 0 given
none_given p sigs s several rest bs ts given is more fault first = subst (λ l. AreFirst (l ++ more) fault (branch_parts p sigs s several rest bs ts)) (sym is) first

-- what isn't out of memory is the work's own fault
pub own_fault : {A : Type 0} (work : Result A LinearFault) (fault : LinearFault) (b : Bool) → ((b ≡ true → fault ≡ Memory) × (fault ≡ Memory → b ≡ true)) → b ≡ false → (fault ≡ Memory) ⊎ (work ≡ Err fault) → work ≡ Err fault
own_fault work fault b test other (inl memory) = absurd (false≢true (sym other ∙ test.1 memory))
own_fault work fault b test other (inr own) = own
