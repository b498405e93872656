-- The rules of linear typing fit together.
use Rattle.std.proofs.Common.{◌≡◌, ℕ, ◌<◌, Bool, true, false, ◌&&◌, eqb, nat_lt, List, [], ◌∷◌, length, Option, Some, None, option_map, unwrap_or, Result, Ok, Err, refl, sym, ap, subst, arith, inl, inr, ◌⊎◌}
use Rattle.std.specs.List.{slice_get, list_all}
use Rattle.std.proofs.lemmas.Bool.{and_parts, false≢true, ltb-true}
use Rattle.std.proofs.lemmas.Bool.Decides.{nat_tests}
use Rattle.std.proofs.lemmas.Option.{none-some}
use Rattle.sierra_types.specs.declared.program.Program.{Program}
use Rattle.sierra_types.specs.declared.program.Statement.{Statement}
use Rattle.sierra_types.specs.declared.program.Statement.TheVariants.{Invoke, Return}
use Rattle.sierra_types.specs.declared.program.Branch.{Branch}
use Rattle.type_table.specs.View.{TypesView}
use Rattle.type_table.specs.declared.type_id.TypeId.{TypeId}
use Rattle.libfunc_registry.specs.declared.sig.Sig.{Sig}
use Rattle.held_list.specs.Held.{Held}
use Rattle.held_list.specs.Difference.{DecidesEquality}
use Rattle.held_list.specs.Editing.{or_stop, differ}
use Rattle.held_list.proofs.Differing.{differ_equal}
use Rattle.statement_walk.specs.Rules.{Lawful, AreParts}
use Rattle.statement_walk.specs.Walk.{and_then}
use Rattle.statement_walk.proofs.Arrivals.{err-ok, same_Ok}
use Rattle.statement_walk.proofs.Deliveries.{and_then_ok}
use Rattle.linear_check.specs.declared.fault.LinearFault.{LinearFault}
use Rattle.linear_check.specs.declared.fault.LinearFault.TheVariants.{MergeDiffers, Shape}
use Rattle.linear_check.specs.Statements.{declared, target_of, targets_of, leads_of, is_jump, result_types}
use Rattle.linear_check.specs.Flow.{or_fault, same_type, taken, nothing_left, added, aligned, falls_through, counts_agree, shaped, branch_part, branch_parts, spread, several, return_parts, invoke_parts, statement_flow, rules}

-- equal positions are equal types
pub same_type_decides : DecidesEquality same_type
same_type_decides a b = ((λ is. (let same : a.0 ≡ b.0 = grind (arith, nat_tests) in ap (λ n. record { 0 = n }) same)), (λ same. (let parts : a.0 ≡ b.0 = ap (λ (t : TypeId). t.0) same in grind (arith, nat_tests))))

-- what a chain of results gives

pub chain_cases : {A B F : Type 0} (o : Result A F) (next : A → Result B F) (out : Result B F) → and_then o next ≡ out → ((x : F) × (o ≡ Err x) × (out ≡ Err x)) ⊎ ((a : A) × (o ≡ Ok a) × (next a ≡ out))
chain_cases (Ok a) next out is = inr (a, refl, is)
chain_cases (Err x) next out is = inl (x, refl, sym is)

pub or_fault_ok : (b : Bool) (x : LinearFault) (u : Unit {0}) → or_fault b x ≡ Ok u → b ≡ true
or_fault_ok true x u is = refl
or_fault_ok false x u is = let bad : ⊥ = cc in absurd bad

-- a part for each branch

part_leads : (p : Program) (sigs : List Sig) (s : ℕ) (more : Bool) (rest : Held TypeId) (b : Branch) (types : List TypeId) (x : ℕ × Held TypeId) → branch_part p sigs s more rest b types ≡ Ok x → x.0 ≡ target_of s b.target
part_leads p sigs s more rest b types x is =
    elim (chain_cases (added s b.results types rest) _ (Ok x) is) [
      | inl bad ↦ (let no : ⊥ = (let e = bad.2 in cc) in absurd no)
      | inr held ↦
          elim (chain_cases (aligned p sigs s more (target_of s b.target)) _ (Ok x) held.2) [
            | inl bad ↦ (let no : ⊥ = (let e = bad.2 in cc) in absurd no)
            | inr passed ↦ (let e : ◌≡◌ {A = ℕ × Held TypeId} (target_of s b.target, held.0) x = (let f = passed.2 in cc) in ap (λ (y : ℕ × Held TypeId). y.0) (sym e))
          ]
    ]

one_more : (p : Program) (sigs : List Sig) (size s : ℕ) (more : Bool) (rest : Held TypeId) (b : Branch) (ts : List TypeId) (targets : List ℕ) (parts : List (Result (ℕ × Held TypeId) LinearFault)) (o : Result (ℕ × Held TypeId) LinearFault)
    → branch_part p sigs s more rest b ts ≡ o → target_of s b.target < size → AreParts size targets parts → AreParts size (target_of s b.target ∷ targets) (o ∷ parts)
one_more p sigs size s more rest b ts targets parts (Ok x) is lt later = (part_leads p sigs s more rest b ts x is, lt, later)
one_more p sigs size s more rest b ts targets parts (Err x) is lt later = later

branches_lead : (p : Program) (sigs : List Sig) (size s : ℕ) (more : Bool) (rest : Held TypeId) (bs : List Branch) (types : List (List TypeId)) → counts_agree bs types ≡ true → list_all (λ b. nat_lt (target_of s b.target) size) bs ≡ true
    → AreParts size (targets_of s bs) (branch_parts p sigs s more rest bs types)
branches_lead p sigs size s more rest [] [] agree inside = tt
branches_lead p sigs size s more rest [] (ts ∷ types) agree inside = tt
branches_lead p sigs size s more rest (b ∷ bs) [] agree inside = absurd (false≢true agree)
branches_lead p sigs size s more rest (b ∷ bs) (ts ∷ types) agree inside =
    let agrees = and_parts (eqb (length b.results) (length ts)) (counts_agree bs types) agree in
    let lies = and_parts (nat_lt (target_of s b.target) size) (list_all (λ b. nat_lt (target_of s b.target) size) bs) inside in
    let later = branches_lead p sigs size s more rest bs types agrees.1 lies.1 in
    one_more p sigs size s more rest b ts (targets_of s bs) (branch_parts p sigs s more rest bs types) (branch_part p sigs s more rest b ts) refl (ltb-true (target_of s b.target) size lies.0) later

-- a fault before the branches is alone
spread_lawful : (size : ℕ) (ts : List ℕ) (o : Result (List (Result (ℕ × Held TypeId) LinearFault)) LinearFault) → ((parts : List (Result (ℕ × Held TypeId) LinearFault)) → o ≡ Ok parts → AreParts size ts parts)
    → ((x : LinearFault) × (spread o ≡ Err x ∷ [])) ⊎ AreParts size ts (spread o)
spread_lawful size ts (Ok parts) are = inr (are parts refl)
spread_lawful size ts (Err x) are = inl (x, refl)

pub or_stop_ok : {A B F : Type 0} (o : Option A) (x : F) (next : A → Result B F) (b : B) → or_stop o x next ≡ Ok b → (a : A) × (o ≡ Some a) × (next a ≡ Ok b)
or_stop_ok None x next b is = absurd (err-ok x b is)
or_stop_ok (Some a) x next b is = (a, refl, is)

pub or_fault_then : {A : Type 0} (b : Bool) (x : LinearFault) (next : Result A LinearFault) (a : A) → and_then (or_fault b x) (λ _. next) ≡ Ok a → (b ≡ true) × (next ≡ Ok a)
or_fault_then true x next a is = (refl, is)
or_fault_then false x next a is = absurd (err-ok x a is)

-- what is held when a function ends, where it passes
pub return_ok : (s : ℕ) (args : List ℕ) (types : List TypeId) (held : Held TypeId) (parts : List (Result (ℕ × Held TypeId) LinearFault)) → return_parts s args types held ≡ Ok parts
    → (eqb (length args) (length types) ≡ true) × ((rest : Held TypeId) × (taken s args types held ≡ Ok rest) × (u : Unit {0}) × (nothing_left s rest ≡ Ok u)) × ([] ≡ parts)
return_ok s args types held parts is =
    let counted = or_fault_then (eqb (length args) (length types)) (Shape s) (and_then (taken s args types held) (λ rest. and_then (nothing_left s rest) (λ _. Ok []))) parts is in
    let rest = and_then_ok (taken s args types held) (λ rest. and_then (nothing_left s rest) (λ _. Ok [])) parts counted.1 in
    let left = and_then_ok (nothing_left s rest.0) (λ _. Ok []) parts rest.2 in
    (counted.0, (rest.0, rest.1, left.0, left.1), same_Ok {F = LinearFault} [] parts left.2)

-- what a libfunc's statement gives its branches, where it passes
pub invoke_ok : (p : Program) (sigs : List Sig) (s : ℕ) (id args : List ℕ) (branches : List Branch) (held : Held TypeId) (parts : List (Result (ℕ × Held TypeId) LinearFault)) → invoke_parts p sigs s id args branches held ≡ Ok parts
    → (sig : Sig) × (declared p sigs id ≡ Some sig) × (shaped (length p.statements) s sig args branches ≡ true) × (rest : Held TypeId) × (taken s args sig.params held ≡ Ok rest)
    × (branch_parts p sigs s (several branches) rest branches sig.branches ≡ parts)
invoke_ok p sigs s id args branches held parts is =
    let after_shape = λ (sig : Sig). and_then (taken s args sig.params held) (λ rest. Ok (branch_parts p sigs s (several branches) rest branches sig.branches)) in
    let known = or_stop_ok (declared p sigs id) (Shape s) (λ sig. and_then (or_fault (shaped (length p.statements) s sig args branches) (Shape s)) (λ _. after_shape sig)) parts is in
    let shape = or_fault_then (shaped (length p.statements) s known.0 args branches) (Shape s) (after_shape known.0) parts known.2 in
    let rest = and_then_ok (taken s args known.0.params held) (λ rest. Ok (branch_parts p sigs s (several branches) rest branches known.0.branches)) parts shape.1 in
    (known.0, known.1, shape.0, rest.0, rest.1, same_Ok {F = LinearFault} (branch_parts p sigs s (several branches) rest.0 branches known.0.branches) parts rest.2)

-- the parts of a shape's test
pub shape_tests : (size s : ℕ) (sig : Sig) (args : List ℕ) (branches : List Branch) → shaped size s sig args branches ≡ true
    → (eqb (length args) (length sig.params) ≡ true) × (counts_agree branches sig.branches ≡ true) × (falls_through (is_jump sig.libfunc) branches ≡ true) × (list_all (λ b. nat_lt (target_of s b.target) size) branches ≡ true)
shape_tests size s sig args branches is =
    let inside = list_all (λ (b : Branch). nat_lt (target_of s b.target) size) branches in
    let falls = falls_through (is_jump sig.libfunc) branches in
    let counts = counts_agree branches sig.branches in
    let one = and_parts (eqb (length args) (length sig.params)) (counts && (falls && inside)) is in
    let two = and_parts counts (falls && inside) one.1 in
    let three = and_parts falls inside two.1 in
    (one.0, two.0, three.0, three.1)

flow_parts : (p : Program) (t : TypesView) (sigs : List Sig) (f s : ℕ) (held : Held TypeId) (o : Option Statement) → ((x : LinearFault) × (statement_flow p t sigs f s held o ≡ Err x ∷ [])) ⊎ AreParts (length p.statements) (unwrap_or (option_map (leads_of s) o) []) (statement_flow p t sigs f s held o)
flow_parts p t sigs f s held None = inr tt
flow_parts p t sigs f s held (Some (Return args)) = spread_lawful (length p.statements) [] (return_parts s args (result_types t f) held) (λ parts is.
    subst (AreParts (length p.statements) []) (return_ok s args (result_types t f) held parts is).2 tt)
flow_parts p t sigs f s held (Some (Invoke id args branches)) = spread_lawful (length p.statements) (targets_of s branches) (invoke_parts p sigs s id args branches held) (λ parts is.
    (let passed = invoke_ok p sigs s id args branches held parts is in
    let tests = shape_tests (length p.statements) s passed.0 args branches passed.2 in
    subst (AreParts (length p.statements) (targets_of s branches)) passed.5 (branches_lead p sigs (length p.statements) s (several branches) passed.3 branches passed.0.branches tests.1 tests.3)))

no_clash : (s : ℕ) (o : Option ℕ) → (option_map (MergeDiffers s) o ≡ None → o ≡ None) × (o ≡ None → option_map (MergeDiffers s) o ≡ None)
no_clash s None = ((λ _. refl), (λ _. refl))
no_clash s (Some v) = ((λ is. absurd (none-some _ (sym is))), (λ is. absurd (none-some v (sym is))))

pub rules_lawful : (p : Program) (t : TypesView) (sigs : List Sig) → Lawful (rules p t sigs)
rules_lawful p t sigs = record {
  flows = λ f s held lt. flow_parts p t sigs f s held (slice_get p.statements s);
  clashes = λ s given had.
      (let equal = differ_equal same_type same_type_decides given had in
      let clash = no_clash s (differ same_type given had) in
      ((λ is. equal.0 (clash.0 is)), (λ same. clash.1 (equal.1 same))));
}
