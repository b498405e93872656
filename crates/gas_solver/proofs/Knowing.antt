-- What the linear check finds is all that the terms of a program ask for.
use Rattle.std.proofs.Common.{◌≡◌, ℕ, zero, suc, ◌<◌, List, [], ◌∷◌, length, map, Option, Some, None, refl, sym, ap, subst, ◌∙◌, arith}
use Rattle.std.specs.List.{slice_get, AllZip}
use Rattle.std.specs.Option.{option_and_then, option_map_or}
use Rattle.std.proofs.lemmas.List.{length-map}
use Rattle.std.proofs.lemmas.Option.{none-some, same_Some, slice_get_within}
use Rattle.sierra_types.specs.declared.program.Program.{Program}
use Rattle.sierra_types.specs.declared.program.Function.{Function}
use Rattle.sierra_types.specs.declared.program.LibfuncDecl.{LibfuncDecl}
use Rattle.sierra_types.specs.declared.program.Statement.{Statement}
use Rattle.sierra_types.specs.declared.program.Statement.TheVariants.{Invoke, Return}
use Rattle.sierra_types.specs.declared.program.Branch.{Branch}
use Rattle.type_table.specs.Lookups.{found}
use Rattle.type_table.specs.Naming.{place_of}
use Rattle.type_table.specs.Table.{HasTypes}
use Rattle.type_table.specs.View.{TypesView}
use Rattle.libfunc_registry.specs.declared.sig.Sig.{Sig}
use Rattle.libfunc_registry.specs.declared.libfunc.Libfunc.{Libfunc}
use Rattle.libfunc_registry.specs.declared.libfunc.Libfunc.TheVariants as libfuncs
use Rattle.libfunc_registry.specs.Signature.{HasSignatures}
use Rattle.libfunc_registry.specs.Wanted.{IsPlaced}
use Rattle.libfunc_registry.proofs.Placing.{written-placed}
use Rattle.cost_table.specs.Fits.{IsSignature}
use Rattle.statement_walk.proofs.Arrivals.{inside}
use Rattle.linear_check.specs.Statements.{declared, target_of}
use Rattle.linear_check.specs.Typed.{TypedList, Invokes, Typed}
use Rattle.gas_solver.specs.Known.{IsCallable, HasSignature, IsKnown, IsPrepared}
use Rattle.gas_solver.specs.Terms.{entry_of}
use Rattle.gas_solver.proofs.Listing.{all_at}

-- signatures are those of declarations

signature_there : (t : TypesView) (ds : List LibfuncDecl) (sigs : List Sig) (i : ℕ) (sig : Sig) → HasSignatures t ds sigs → slice_get sigs i ≡ Some sig → IsSignature t sig
signature_there t [] [] i sig has is = absurd (none-some sig is)
signature_there t [] (x ∷ sigs) i sig has is = absurd has
signature_there t (d ∷ ds) [] i sig has is = absurd has
signature_there t (d ∷ ds) (x ∷ sigs) zero sig has is = subst (IsSignature t) (same_Some x sig is) (d, has.0)
signature_there t (d ∷ ds) (x ∷ sigs) (suc i) sig has is = signature_there t ds sigs i sig has.1 is

place_there : (sigs : List Sig) (sig : Sig) (place : Option ℕ) → option_and_then (slice_get sigs) place ≡ Some sig → (i : ℕ) × (slice_get sigs i ≡ Some sig)
place_there sigs sig None is = absurd (none-some sig is)
place_there sigs sig (Some i) is = (i, is)

pub signature_of : (p : Program) (t : TypesView) (sigs : List Sig) (id : List ℕ) (sig : Sig) → HasSignatures t p.libfuncs sigs → declared p sigs id ≡ Some sig → IsSignature t sig
signature_of p t sigs id sig has is =
    let there = place_there sigs sig (place_of (map (λ d. d.id) p.libfuncs) id) is in
    signature_there t p.libfuncs sigs there.0 sig has there.1

-- the functions of a program and those of its table

pub function_count : (p : Program) (t : TypesView) → HasTypes p t → length t.functions ≡ length p.functions
function_count p t has =
    let one : length t.function_ids ≡ length p.functions = ap length has.function_ids ∙ length-map p.functions (λ f. f.id) in
    sym has.kept.each_function_named ∙ one

entry_there : (p : Program) (f : ℕ) (g : Function) → slice_get p.functions f ≡ Some g → g.entry ≡ entry_of p f
entry_there p f g is = sym (ap (λ o. option_map_or (λ (h : Function). h.entry) o 0) is)

pub entry_inside : (p : Program) (t : TypesView) (sigs : List Sig) (a : TypedList) → HasTypes p t → Typed p t sigs a → (f : ℕ) → f < length p.functions → entry_of p f < length p.statements
entry_inside p t sigs a has typed f lt =
    let g = inside p.functions f lt in
    let types = inside t.functions f (omega (arith, function_count p t has)) in
    let held = typed.entries f g.0 types.0 g.1 types.1 in
    let within = slice_get_within a g.0.entry (f, held.0) held.2 in
    (let same = entry_there p f g.0 g.1 in omega (arith, typed.long))

callable : (p : Program) (t : TypesView) (sigs : List Sig) (a : TypedList) → HasTypes p t → Typed p t sigs a → (libfunc : Libfunc) → IsPlaced t libfunc → IsCallable p libfunc
callable p t sigs a has typed (libfuncs.FunctionCall f) placed =
    let lt : f < length p.functions = subst (λ n. f < n) (function_count p t has) placed in
    (lt, entry_inside p t sigs a has typed f lt)
callable p t sigs a has typed _ placed = tt

-- what the list says of a statement
pub invoked : (p : Program) (t : TypesView) (sigs : List Sig) (a : TypedList) → Typed p t sigs a → (s : ℕ) (id args : List ℕ) (branches : List Branch) → slice_get p.statements s ≡ Some (Invoke id args branches)
    → (x : ℕ × List (ℕ × _)) × Invokes p sigs a x.0 s x.1 id args branches
invoked p t sigs a typed s id args branches is =
    let lt = slice_get_within p.statements s (Invoke id args branches) is in
    let there = inside a s (omega (arith, typed.long)) in
    (there.0, typed.statements s there.0.0 there.0.1 (Invoke id args branches) is there.1)

zip_long : {A B : Type 0} (Q : A → B → Type 0) (xs : List A) (ys : List B) → AllZip Q xs ys → length xs ≡ length ys
zip_long Q [] [] all = refl
zip_long Q [] (y ∷ ys) all = absurd all
zip_long Q (x ∷ xs) [] all = absurd all
zip_long Q (x ∷ xs) (y ∷ ys) all = ap suc (zip_long Q xs ys all.1)

pub known : (p : Program) (t : TypesView) (sigs : List Sig) (a : TypedList) → HasTypes p t → HasSignatures t p.libfuncs sigs → Typed p t sigs a → (s : ℕ) (statement : Statement) → slice_get p.statements s ≡ Some statement → IsKnown p t sigs s statement
known p t sigs a has signatures typed s (Return args) is = tt
known p t sigs a has signatures typed s (Invoke id args branches) is = λ sig named.
    (let found = (invoked p t sigs a typed s id args branches is).1 in
    let signature = signature_of p t sigs id sig signatures named in
    let same : found.sig ≡ sig = same_Some found.sig sig (sym found.declared_as ∙ named) in
    let decl = signature.0 in
    record {
      signature = signature;
      many = zip_long (λ (b : Branch) ts. length b.results ≡ length ts) branches found.sig.branches found.shaped.results ∙ ap (λ x. length x.branches) same;
      inside = λ k b at. all_at (λ (c : Branch). target_of s c.target < length p.statements) branches k b found.shaped.inside at;
      callable = callable p t sigs a has typed sig.libfunc (written-placed t has.kept decl.generic decl.args sig.libfunc signature.1.written);
    })

pub prepared : (p : Program) (t : TypesView) (sigs : List Sig) (a : TypedList) (ds : List LibfuncDecl) (libfuncs : List (List ℕ × ℕ)) → ds ≡ p.libfuncs → ((id : List ℕ) → found libfuncs id ≡ place_of (map (λ (d : LibfuncDecl). d.id) ds) id)
    → HasTypes p t → HasSignatures t p.libfuncs sigs → Typed p t sigs a → IsPrepared p t sigs libfuncs
prepared p t sigs a ds libfuncs are named has signatures typed = record {
  named = λ id. named id ∙ ap (λ l. place_of (map (λ (d : LibfuncDecl). d.id) l) id) are;
  known = known p t sigs a has signatures typed;
}

-- the signature of a statement's libfunc
pub signature_at : (p : Program) (t : TypesView) (sigs : List Sig) (libfuncs : List (List ℕ × ℕ)) (s : ℕ) (statement : Statement) (id args : List ℕ) (branches : List Branch) (sig : Sig) → IsPrepared p t sigs libfuncs → slice_get p.statements s ≡ Some statement
    → statement ≡ Invoke id args branches → declared p sigs id ≡ Some sig → HasSignature p t s sig branches
signature_at p t sigs libfuncs s statement id args branches sig prepared here is named = (subst (IsKnown p t sigs s) is (prepared.known s statement here)) sig named
