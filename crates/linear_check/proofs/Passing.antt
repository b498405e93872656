-- What it means that each rule of linear typing passes.
use Rattle.std.proofs.Common.{◌≡◌, ℕ, suc, ◌<◌, Bool, true, false, ◌&&◌, not, eqb, nat_lt, List, [], ◌∷◌, length, map, zip, Some, Result, Ok, Err, refl, ap, ◌∙◌, arith}
use Rattle.std.specs.List.{slice_get, list_all, AllByRecursion, AllZip}
use Rattle.std.specs.Result.{result_map_both}
use Rattle.std.proofs.lemmas.Bool.{and_parts, and_from, false≢true, ltb-true, lt-ltb, eqb-true, eq-eqb}
use Rattle.sierra_types.specs.declared.program.Program.{Program}
use Rattle.sierra_types.specs.declared.program.Branch.{Branch}
use Rattle.sierra_types.specs.declared.program.Target.{Target}
use Rattle.sierra_types.specs.declared.program.Target.TheVariants.{Fallthrough, To}
use Rattle.type_table.specs.declared.type_id.TypeId.{TypeId}
use Rattle.libfunc_registry.specs.declared.sig.Sig.{Sig}
use Rattle.held_list.specs.Held.{Held}
use Rattle.held_list.specs.Editing.{take, add, add_all, or_stop}
use Rattle.statement_walk.specs.Walk.{and_then}
use Rattle.statement_walk.proofs.Arrivals.{err-ok, same_Ok}
use Rattle.linear_check.specs.declared.fault.LinearFault.{LinearFault}
use Rattle.linear_check.specs.declared.fault.LinearFault.TheVariants.{VarMissing, VarType, VarLeft, VarTaken, AlignMissing}
use Rattle.linear_check.specs.Statements.{target_of, predecessors, is_jump, is_align}
use Rattle.linear_check.specs.Typed.{Takes, Adds, HasNumber, FallsThrough, IsShaped, IsAligned}
use Rattle.linear_check.specs.Flow.{or_fault, same_type, taken, nothing_left, added, aligned, has_number, falls_through, counts_agree, shaped}
use Rattle.linear_check.proofs.Lawfulness.{same_type_decides, or_stop_ok, or_fault_ok, or_fault_then, shape_tests}

-- arguments are taken

pub takes_long : (vs : List ℕ) (ts : List TypeId) (held rest : Held TypeId) → Takes vs ts held rest → length vs ≡ length ts
takes_long [] [] held rest is = refl
takes_long [] (t ∷ ts) held rest is = absurd is
takes_long (v ∷ vs) [] held rest is = absurd is
takes_long (v ∷ vs) (t ∷ ts) held rest is = ap suc (takes_long vs ts is.0 rest is.2)

pub takes_taken : (s : ℕ) (vs : List ℕ) (ts : List TypeId) (held rest : Held TypeId) → Takes vs ts held rest → taken s vs ts held ≡ Ok rest
takes_taken s [] [] held rest is = ap Ok is
takes_taken s [] (t ∷ ts) held rest is = absurd is
takes_taken s (v ∷ vs) [] held rest is = absurd is
takes_taken s (v ∷ vs) (t ∷ ts) held rest is =
    let next = λ (x : TypeId × Held TypeId). and_then (or_fault (same_type x.0 t) (VarType s v)) (λ _. taken s vs ts x.1) in
    let first : taken s (v ∷ vs) (t ∷ ts) held ≡ next (t, is.0) = ap (λ o. or_stop o (VarMissing s v) next) is.1 in
    let same : or_fault (same_type t t) (VarType s v) ≡ Ok tt = ap (λ b. or_fault b (VarType s v)) ((same_type_decides t t).1 refl) in
    first ∙ ap (λ r. and_then r (λ _. taken s vs ts is.0)) same ∙ takes_taken s vs ts is.0 rest is.2

pub taken_takes : (s : ℕ) (vs : List ℕ) (ts : List TypeId) (held rest : Held TypeId) → length vs ≡ length ts → taken s vs ts held ≡ Ok rest → Takes vs ts held rest
taken_takes s [] [] held rest long is = same_Ok {F = LinearFault} held rest is
taken_takes s [] (t ∷ ts) held rest long is = absurd (omega arith)
taken_takes s (v ∷ vs) [] held rest long is = absurd (omega arith)
taken_takes s (v ∷ vs) (t ∷ ts) held rest long is =
    let next = λ (x : TypeId × Held TypeId). and_then (or_fault (same_type x.0 t) (VarType s v)) (λ _. taken s vs ts x.1) in
    let found = or_stop_ok (take v held) (VarMissing s v) next rest is in
    let passed = or_fault_then (same_type found.0.0 t) (VarType s v) (taken s vs ts found.0.1) rest found.2 in
    let same = (same_type_decides found.0.0 t).0 passed.0 in
    (found.0.1, found.1 ∙ ap (λ u. Some (u, found.0.1)) same, taken_takes s vs ts found.0.1 rest (omega arith) passed.1)

-- nothing is left

pub left_nothing : (s : ℕ) (held : Held TypeId) (u : Unit {0}) → nothing_left s held ≡ Ok u → held ≡ []
left_nothing s [] u is = refl
left_nothing s (x ∷ xs) u is = absurd (err-ok (VarLeft s x.0) u is)

-- results are added

pub adds_long : (vs : List ℕ) (ts : List TypeId) (rest held : Held TypeId) → Adds vs ts rest held → length vs ≡ length ts
adds_long [] [] rest held is = refl
adds_long [] (t ∷ ts) rest held is = absurd is
adds_long (v ∷ vs) [] rest held is = absurd is
adds_long (v ∷ vs) (t ∷ ts) rest held is = ap suc (adds_long vs ts is.0 held is.2)

adds_all : (vs : List ℕ) (ts : List TypeId) (rest held : Held TypeId) → Adds vs ts rest held → add_all (zip vs ts) rest ≡ Ok held
adds_all [] [] rest held is = ap Ok is
adds_all [] (t ∷ ts) rest held is = absurd is
adds_all (v ∷ vs) [] rest held is = absurd is
adds_all (v ∷ vs) (t ∷ ts) rest held is = ap (λ o. or_stop o v (add_all (zip vs ts))) is.1 ∙ adds_all vs ts is.0 held is.2

all_adds : (vs : List ℕ) (ts : List TypeId) (rest held : Held TypeId) → length vs ≡ length ts → add_all (zip vs ts) rest ≡ Ok held → Adds vs ts rest held
all_adds [] [] rest held long is = same_Ok {F = ℕ} rest held is
all_adds [] (t ∷ ts) rest held long is = absurd (omega arith)
all_adds (v ∷ vs) [] rest held long is = absurd (omega arith)
all_adds (v ∷ vs) (t ∷ ts) rest held long is =
    let found = or_stop_ok (add v t rest) v (add_all (zip vs ts)) held is in
    (found.0, found.1, all_adds vs ts found.0 held (omega arith) found.2)

named_ok : (s : ℕ) (o : Result (Held TypeId) ℕ) (held : Held TypeId) → result_map_both (λ h. h) (VarTaken s) o ≡ Ok held → o ≡ Ok held
named_ok s (Ok h) held is = ap Ok (same_Ok {F = LinearFault} h held is)
named_ok s (Err v) held is = absurd (err-ok (VarTaken s v) held is)

pub adds_added : (s : ℕ) (vs : List ℕ) (ts : List TypeId) (rest held : Held TypeId) → Adds vs ts rest held → added s vs ts rest ≡ Ok held
adds_added s vs ts rest held is = ap (result_map_both (λ h. h) (VarTaken s)) (adds_all vs ts rest held is)

pub added_adds : (s : ℕ) (vs : List ℕ) (ts : List TypeId) (rest held : Held TypeId) → length vs ≡ length ts → added s vs ts rest ≡ Ok held → Adds vs ts rest held
added_adds s vs ts rest held long is = all_adds vs ts rest held long (named_ok s (add_all (zip vs ts) rest) held is)

-- a statement has its shape

pub agree_lengths : (bs : List Branch) (types : List (List TypeId)) → counts_agree bs types ≡ true → AllZip (λ (b : Branch) (ts : List TypeId). length b.results ≡ length ts) bs types
agree_lengths [] [] is = tt
agree_lengths [] (ts ∷ types) is = absurd (false≢true is)
agree_lengths (b ∷ bs) [] is = absurd (false≢true is)
agree_lengths (b ∷ bs) (ts ∷ types) is =
    let parts = and_parts (eqb (length b.results) (length ts)) (counts_agree bs types) is in
    (eqb-true (length b.results) (length ts) parts.0, agree_lengths bs types parts.1)

lengths_agree : (bs : List Branch) (types : List (List TypeId)) → AllZip (λ (b : Branch) (ts : List TypeId). length b.results ≡ length ts) bs types → counts_agree bs types ≡ true
lengths_agree [] [] are = refl
lengths_agree [] (ts ∷ types) are = absurd are
lengths_agree (b ∷ bs) [] are = absurd are
lengths_agree (b ∷ bs) (ts ∷ types) are =
    and_from (eqb (length b.results) (length ts)) (counts_agree bs types) (eq-eqb (length b.results) (length ts) are.0) (lengths_agree bs types are.1)

number_is : (t : Target) → has_number t ≡ true → HasNumber t
number_is Fallthrough is = absurd (false≢true is)
number_is (To n) is = tt

is_number : (t : Target) → HasNumber t → has_number t ≡ true
is_number Fallthrough is = absurd is
is_number (To n) is = refl

falls_is : (t : Target) → not (has_number t) ≡ true → t ≡ Fallthrough
falls_is Fallthrough is = refl
falls_is (To n) is = absurd (false≢true is)

is_falling : (t : Target) → t ≡ Fallthrough → not (has_number t) ≡ true
is_falling t is = ap (λ u. not (has_number u)) is

numbers_are : (bs : List Branch) → list_all (λ (b : Branch). has_number b.target) bs ≡ true → AllByRecursion HasNumber (map (λ (b : Branch). b.target) bs)
numbers_are [] all = tt
numbers_are (b ∷ bs) all =
    let parts = and_parts (has_number b.target) (list_all (λ (b : Branch). has_number b.target) bs) all in
    (number_is b.target parts.0, numbers_are bs parts.1)

are_numbers : (bs : List Branch) → AllByRecursion HasNumber (map (λ (b : Branch). b.target) bs) → list_all (λ (b : Branch). has_number b.target) bs ≡ true
are_numbers [] all = refl
are_numbers (b ∷ bs) all = and_from (has_number b.target) (list_all (λ (b : Branch). has_number b.target) bs) (is_number b.target all.0) (are_numbers bs all.1)

falls_well : (jumps : Bool) (bs : List Branch) → falls_through jumps bs ≡ true → FallsThrough jumps (map (λ (b : Branch). b.target) bs)
falls_well true [] is = tt
falls_well false [] is = tt
falls_well true (b ∷ []) is = number_is b.target is
falls_well false (b ∷ []) is = falls_is b.target is
falls_well true (b ∷ c ∷ bs) is =
    let parts = and_parts (not (has_number b.target)) (list_all (λ (b : Branch). has_number b.target) (c ∷ bs)) is in
    (falls_is b.target parts.0, numbers_are (c ∷ bs) parts.1)
falls_well false (b ∷ c ∷ bs) is =
    let parts = and_parts (not (has_number b.target)) (list_all (λ (b : Branch). has_number b.target) (c ∷ bs)) is in
    (falls_is b.target parts.0, numbers_are (c ∷ bs) parts.1)

well_falls : (jumps : Bool) (bs : List Branch) → FallsThrough jumps (map (λ (b : Branch). b.target) bs) → falls_through jumps bs ≡ true
well_falls true [] is = refl
well_falls false [] is = refl
well_falls true (b ∷ []) is = is_number b.target is
well_falls false (b ∷ []) is = is_falling b.target is
well_falls true (b ∷ c ∷ bs) is = and_from (not (has_number b.target)) (list_all (λ (b : Branch). has_number b.target) (c ∷ bs)) (is_falling b.target is.0) (are_numbers (c ∷ bs) is.1)
well_falls false (b ∷ c ∷ bs) is = and_from (not (has_number b.target)) (list_all (λ (b : Branch). has_number b.target) (c ∷ bs)) (is_falling b.target is.0) (are_numbers (c ∷ bs) is.1)

lead_inside : (size s : ℕ) (bs : List Branch) → list_all (λ (b : Branch). nat_lt (target_of s b.target) size) bs ≡ true → AllByRecursion (λ (b : Branch). target_of s b.target < size) bs
lead_inside size s [] all = tt
lead_inside size s (b ∷ bs) all =
    let parts = and_parts (nat_lt (target_of s b.target) size) (list_all (λ (b : Branch). nat_lt (target_of s b.target) size) bs) all in
    (ltb-true (target_of s b.target) size parts.0, lead_inside size s bs parts.1)

inside_leads : (size s : ℕ) (bs : List Branch) → AllByRecursion (λ (b : Branch). target_of s b.target < size) bs → list_all (λ (b : Branch). nat_lt (target_of s b.target) size) bs ≡ true
inside_leads size s [] all = refl
inside_leads size s (b ∷ bs) all =
    and_from (nat_lt (target_of s b.target) size) (list_all (λ (b : Branch). nat_lt (target_of s b.target) size) bs) (lt-ltb (target_of s b.target) size all.0) (inside_leads size s bs all.1)

pub shape_is : (size s : ℕ) (sig : Sig) (args : List ℕ) (bs : List Branch) → shaped size s sig args bs ≡ true → IsShaped size s sig args bs
shape_is size s sig args bs is =
    let tests = shape_tests size s sig args bs is in
    record {
      arguments = eqb-true (length args) (length sig.params) tests.0;
      results = agree_lengths bs sig.branches tests.1;
      falls_through = falls_well (is_jump sig.libfunc) bs tests.2;
      inside = lead_inside size s bs tests.3;
    }

pub is_shape : (size s : ℕ) (sig : Sig) (args : List ℕ) (bs : List Branch) → IsShaped size s sig args bs → shaped size s sig args bs ≡ true
is_shape size s sig args bs is =
    let inside = list_all (λ (b : Branch). nat_lt (target_of s b.target) size) bs in
    let falls = falls_through (is_jump sig.libfunc) bs in
    let counts = counts_agree bs sig.branches in
    and_from (eqb (length args) (length sig.params)) (counts && (falls && inside)) (eq-eqb (length args) (length sig.params) is.arguments)
    (and_from counts (falls && inside) (lengths_agree bs sig.branches is.results) (and_from falls inside (well_falls (is_jump sig.libfunc) bs is.falls_through) (inside_leads size s bs is.inside)))

-- targets of several branches are aligned

pub passes_aligned : (p : Program) (sigs : List Sig) (s : ℕ) (b : Branch) (u : Unit {0}) → aligned p sigs s true (target_of s b.target) ≡ Ok u → IsAligned p sigs s b
passes_aligned p sigs s b u is =
    let t = target_of s b.target in
    let passed = or_fault_ok (is_align p sigs (slice_get p.statements t) && eqb (predecessors p t) 1) (AlignMissing s) u is in
    let parts = and_parts (is_align p sigs (slice_get p.statements t)) (eqb (predecessors p t) 1) passed in
    (parts.0, eqb-true (predecessors p t) 1 parts.1)

pub aligned_passes : (p : Program) (sigs : List Sig) (s : ℕ) (several : Bool) (b : Branch) → (several ≡ true → IsAligned p sigs s b) → aligned p sigs s several (target_of s b.target) ≡ Ok tt
aligned_passes p sigs s false b are = refl
aligned_passes p sigs s true b are =
    let t = target_of s b.target in
    let alone = are refl in
    let both = and_from (is_align p sigs (slice_get p.statements t)) (eqb (predecessors p t) 1) alone.0 (eq-eqb (predecessors p t) 1 alone.1) in
    ap (λ b. or_fault b (AlignMissing s)) both
