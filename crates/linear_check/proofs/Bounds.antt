-- Where the signatures are those of the declared libfuncs, all held types are in the table.
use Rattle.std.proofs.Common.{◌≡◌, ℕ, zero, suc, ◌<◌, List, [], ◌∷◌, length, map, Option, Some, None, sym, ap, subst, ◌∙◌, arith, inl, inr}
use Rattle.std.specs.List.{slice_get, All, AllByRecursion, AllZip}
use Rattle.std.specs.Option.{option_and_then}
use Rattle.std.proofs.lemmas.List.Elements.{All-head, All-tail, All-from_recursion}
use Rattle.std.proofs.lemmas.Option.{none-some, same_Some, slice_get_within, some_pair_parts}
use Rattle.type_trees.specs.Ty.{Ty}
use Rattle.sierra_types.specs.declared.program.Program.{Program}
use Rattle.sierra_types.specs.declared.program.LibfuncDecl.{LibfuncDecl}
use Rattle.sierra_types.specs.declared.program.Statement.{Statement}
use Rattle.sierra_types.specs.declared.program.Statement.TheVariants.{Invoke, Return}
use Rattle.sierra_types.specs.declared.program.Branch.{Branch}
use Rattle.type_table.specs.Naming.{place_of}
use Rattle.type_table.specs.Table.{HasTypes}
use Rattle.type_table.specs.View.{TypesView}
use Rattle.type_table.specs.declared.type_id.TypeId.{TypeId}
use Rattle.libfunc_registry.specs.Fam.{gives, fam_of}
use Rattle.libfunc_registry.specs.Signature.{AreTrees, HasSignature, HasSignatures}
use Rattle.libfunc_registry.specs.declared.sig.Sig.{Sig}
use Rattle.held_list.specs.Held.{Held}
use Rattle.held_list.specs.Editing.{take, add}
use Rattle.held_list.proofs.Steps.{take_cases, add_cases}
use Rattle.linear_check.specs.Bounded.{AreInTable}
use Rattle.linear_check.specs.Statements.{declared, target_of, targets_of, leads_of}
use Rattle.linear_check.specs.Typed.{TypedList, Takes, Adds, Gives, IsTypedAt, IsReached, entry, along, Typed}
use Rattle.linear_check.proofs.Joining.{function_types}

-- these types are in the table
abbrev AreBelow : ℕ → List TypeId → Type 0
AreBelow n ts = AllByRecursion (λ (t : TypeId). t.0 < n) ts

-- all held types are
abbrev HeldBelow : ℕ → Held TypeId → Type 0
HeldBelow n held = AllByRecursion (λ (x : ℕ × TypeId). x.1.0 < n) held

from_all : {A : Type 0} (P : A → Type 0) (xs : List A) → All P xs → AllByRecursion P xs
from_all P [] all = tt
from_all P (x ∷ xs) all = (All-head P x xs all, from_all P xs (All-tail P x xs all))

-- taking and adding

take_below : (n : ℕ) (held : Held TypeId) (v : ℕ) (t : TypeId) (rest : Held TypeId) → take v held ≡ Some (t, rest) → HeldBelow n held → HeldBelow n rest
take_below n [] v t rest is below = absurd (none-some (t, rest) is)
take_below n (x ∷ xs) v t rest is below =
    elim (take_cases x xs v t rest is) [
      | inl here ↦ subst (HeldBelow n) here.2 below.1
      | inr behind ↦ subst (HeldBelow n) behind.1.2 (below.0, take_below n xs v t behind.1.0 behind.1.1 below.1)
    ]

add_below : (n : ℕ) (held : Held TypeId) (v : ℕ) (t : TypeId) (more : Held TypeId) → add v t held ≡ Some more → t.0 < n → HeldBelow n held → HeldBelow n more
add_below n [] v t more is lt below = subst (HeldBelow n) (same_Some ((v, t) ∷ []) more is) (lt, tt)
add_below n (x ∷ xs) v t more is lt below =
    elim (add_cases x xs v t more is) [
      | inl here ↦ subst (HeldBelow n) here.1 (lt, below)
      | inr behind ↦ subst (HeldBelow n) behind.1.2 (below.0, add_below n xs v t behind.1.0 behind.1.1 lt below.1)
    ]

takes_below : (n : ℕ) (vs : List ℕ) (ts : List TypeId) (held rest : Held TypeId) → Takes vs ts held rest → HeldBelow n held → HeldBelow n rest
takes_below n [] [] held rest is below = subst (HeldBelow n) is below
takes_below n [] (t ∷ ts) held rest is below = absurd is
takes_below n (v ∷ vs) [] held rest is below = absurd is
takes_below n (v ∷ vs) (t ∷ ts) held rest is below = takes_below n vs ts is.0 rest is.2 (take_below n held v t is.0 is.1 below)

adds_below : (n : ℕ) (vs : List ℕ) (ts : List TypeId) (rest held : Held TypeId) → Adds vs ts rest held → AreBelow n ts → HeldBelow n rest → HeldBelow n held
adds_below n [] [] rest held is types below = subst (HeldBelow n) is below
adds_below n [] (t ∷ ts) rest held is types below = absurd is
adds_below n (v ∷ vs) [] rest held is types below = absurd is
adds_below n (v ∷ vs) (t ∷ ts) rest held is types below = adds_below n vs ts is.0 held is.2 types.1 (add_below n rest v t is.0 is.1 types.0 below)

-- signatures

trees_below : (t : TypesView) (ts : List TypeId) (tys : List Ty) → AreTrees t ts tys → AreBelow (length t.rows) ts
trees_below t [] tys are = tt
trees_below t (x ∷ ts) [] are = absurd are
trees_below t (x ∷ ts) (ty ∷ tys) are = (are.0.below, trees_below t ts tys are.1)

branches_below : (t : TypesView) (all : List (List TypeId)) (tys : List (List Ty)) → AllZip (AreTrees t) all tys → AllByRecursion (AreBelow (length t.rows)) all
branches_below t [] tys are = tt
branches_below t (ts ∷ all) [] are = absurd are
branches_below t (ts ∷ all) (ty ∷ tys) are = (trees_below t ts ty are.0, branches_below t all tys are.1)

signature_at : (t : TypesView) (decls : List LibfuncDecl) (sigs : List Sig) (k : ℕ) (sig : Sig) → HasSignatures t decls sigs → slice_get sigs k ≡ Some sig → (decl : LibfuncDecl) × HasSignature t decl sig
signature_at t [] [] k sig has is = absurd (none-some sig is)
signature_at t [] (s ∷ sigs) k sig has is = absurd has
signature_at t (decl ∷ decls) [] k sig has is = absurd has
signature_at t (decl ∷ decls) (s ∷ sigs) zero sig has is = (decl, subst (HasSignature t decl) (same_Some s sig is) has.0)
signature_at t (decl ∷ decls) (s ∷ sigs) (suc k) sig has is = signature_at t decls sigs k sig has.1 is

placed : (sigs : List Sig) (o : Option ℕ) (sig : Sig) → option_and_then (slice_get sigs) o ≡ Some sig → (k : ℕ) × (slice_get sigs k ≡ Some sig)
placed sigs None sig is = absurd (none-some sig is)
placed sigs (Some k) sig is = (k, is)

declared_below : (p : Program) (t : TypesView) (sigs : List Sig) → HasSignatures t p.libfuncs sigs → (id : List ℕ) (sig : Sig) → declared p sigs id ≡ Some sig → AllByRecursion (AreBelow (length t.rows)) sig.branches
declared_below p t sigs has id sig is =
    let at = placed sigs (place_of (map (λ (d : LibfuncDecl). d.id) p.libfuncs) id) sig is in
    let known = (signature_at t p.libfuncs sigs at.0 sig has at.1).1 in
    branches_below t sig.branches (gives (fam_of t sig.libfunc)) known.branches

-- along branches

gives_below : (a : TypedList) (n f s : ℕ) (rest : Held TypeId) (bs : List Branch) (all : List (List TypeId)) (k u : ℕ) → AllZip (Gives a f s rest) bs all → AllByRecursion (AreBelow n) all → HeldBelow n rest → slice_get (targets_of s bs) k ≡ Some u
    → (held : Held TypeId) × (slice_get a u ≡ Some (f, held)) × HeldBelow n held
gives_below a n f s rest [] all k u are types below lead = absurd (none-some u lead)
gives_below a n f s rest (b ∷ bs) [] k u are types below lead = absurd are
gives_below a n f s rest (b ∷ bs) (ts ∷ all) zero u are types below lead =
    let gives = are.0 in
    let there = ap (slice_get a) (sym (same_Some (target_of s b.target) u lead)) ∙ gives.2 in
    (gives.0, there, adds_below n b.results ts rest gives.0 gives.1 types.0 below)
gives_below a n f s rest (b ∷ bs) (ts ∷ all) (suc k) u are types below lead = gives_below a n f s rest bs all k u are.1 types.1 below lead

-- what is held at a statement, and its function
abbrev HasBelow : TypesView → TypedList → ℕ → Type 0
HasBelow t a s = (f : ℕ) × (held : Held TypeId) × (slice_get a s ≡ Some (f, held)) × (f < length t.functions) × HeldBelow (length t.rows) held

step_below : (p : Program) (t : TypesView) (sigs : List Sig) → HasSignatures t p.libfuncs sigs → (a : TypedList) (s f k u : ℕ) (held : Held TypeId) (statement : Statement) → f < length t.functions → HeldBelow (length t.rows) held
    → IsTypedAt p t sigs a s f held statement → slice_get (leads_of s statement) k ≡ Some u → HasBelow t a u
step_below p t sigs has a s f k u held (Return args) lt below is lead = absurd (none-some u lead)
step_below p t sigs has a s f k u held (Invoke id args bs) lt below is lead =
    let n = length t.rows in
    let rest = takes_below n args is.sig.params held is.rest is.takes below in
    let gives = gives_below a n f s is.rest bs is.sig.branches k u is.gives (declared_below p t sigs has id is.sig is.declared_as) rest lead in
    (f, gives.0, gives.1, lt, gives.2)

reached_below : (p : Program) (t : TypesView) (sigs : List Sig) → HasTypes p t → HasSignatures t p.libfuncs sigs → (a : TypedList) → Typed p t sigs a → (s : ℕ) → IsReached p s → HasBelow t a s
reached_below p t sigs types has a typed u (entry f g is) =
    let there = function_types p t types f g is in
    let begins = typed.entries f g there.0 is there.1 in
    let params = from_all (λ (x : TypeId). x.0 < length t.rows) there.0.params (types.kept.functions_right f there.0 there.1).params in
    (f, begins.0, begins.2, slice_get_within t.functions f there.0 there.1, adds_below (length t.rows) (map (λ (x : ℕ × List ℕ). x.0) g.params) there.0.params [] begins.0 begins.1 params tt)
reached_below p t sigs types has a typed u (along k s v statement before is lead) =
    let here = reached_below p t sigs types has a typed s before in
    step_below p t sigs has a s here.0 k v here.1 statement here.3 here.4 (typed.statements s here.0 here.1 statement is here.2) lead

pub in_table : (p : Program) (t : TypesView) (sigs : List Sig) → HasTypes p t → HasSignatures t p.libfuncs sigs → (a : TypedList) → Typed p t sigs a → (s f : ℕ) (held : Held TypeId) → slice_get a s ≡ Some (f, held) → AreInTable t f held
in_table p t sigs types has a typed s f held is =
    let lt = slice_get_within a s (f, held) is in
    let here = reached_below p t sigs types has a typed s (typed.reached s (omega (arith, typed.long))) in
    let same = some_pair_parts here.0 f here.1 held (sym here.2 ∙ is) in
    record {
      function = subst (λ g. g < length t.functions) same.0 here.3;
      types = All-from_recursion (λ (x : ℕ × TypeId). x.1.0 < length t.rows) held (subst (HeldBelow (length t.rows)) same.1 here.4);
    }
