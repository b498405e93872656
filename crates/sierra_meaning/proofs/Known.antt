-- What an accepted program's declarations say of a statement's libfunc and of functions.
use Rattle.std.proofs.Common.{◌≡◌, ℕ, zero, suc, ◌<◌, List, [], ◌∷◌, length, map, Option, Some, None, sym, ap, subst, ◌∙◌, arith}
use Rattle.std.specs.List.{slice_get}
use Rattle.std.specs.Option.{option_and_then}
use Rattle.std.proofs.lemmas.List.{length-map}
use Rattle.std.proofs.lemmas.Option.{none-some, same_Some}
use Rattle.sierra_types.specs.declared.program.Program.{Program}
use Rattle.sierra_types.specs.declared.program.LibfuncDecl.{LibfuncDecl}
use Rattle.type_table.specs.Naming.{place_of}
use Rattle.type_table.specs.Table.{HasTypes}
use Rattle.type_table.specs.View.{TypesView}
use Rattle.libfunc_registry.specs.declared.sig.Sig.{Sig}
use Rattle.libfunc_registry.specs.declared.libfunc.Libfunc.TheVariants as libfuncs
use Rattle.libfunc_registry.specs.Signature.{HasSignatures}
use Rattle.libfunc_registry.specs.Wanted.{IsPlaced}
use Rattle.libfunc_registry.proofs.Placing.{written-placed}
use Rattle.linear_check.specs.Statements.{declared}
use Rattle.libfunc_meaning.specs.Applying.{IsSignature}

signature_there : (t : TypesView) (ds : List LibfuncDecl) (sigs : List Sig) (i : ℕ) (sig : Sig) → HasSignatures t ds sigs → slice_get sigs i ≡ Some sig → IsSignature t sig
signature_there t [] [] i sig has is = absurd (none-some sig is)
signature_there t [] (x ∷ sigs) i sig has is = absurd has
signature_there t (d ∷ ds) [] i sig has is = absurd has
signature_there t (d ∷ ds) (x ∷ sigs) zero sig has is = subst (IsSignature t) (same_Some x sig is) (d, has.0)
signature_there t (d ∷ ds) (x ∷ sigs) (suc i) sig has is = signature_there t ds sigs i sig has.1 is

place_there : (sigs : List Sig) (sig : Sig) (place : Option ℕ) → option_and_then (slice_get sigs) place ≡ Some sig → (i : ℕ) × (slice_get sigs i ≡ Some sig)
place_there sigs sig None is = absurd (none-some sig is)
place_there sigs sig (Some i) is = (i, is)

-- a signature is that of a declaration
pub signature_of : (p : Program) (t : TypesView) (sigs : List Sig) (id : List ℕ) (sig : Sig) → HasSignatures t p.libfuncs sigs → declared p sigs id ≡ Some sig → IsSignature t sig
signature_of p t sigs id sig has is =
    let there = place_there sigs sig (place_of (map (λ d. d.id) p.libfuncs) id) is in
    signature_there t p.libfuncs sigs there.0 sig has there.1

-- the program has as many functions as its table
pub function_count : (p : Program) (t : TypesView) → HasTypes p t → length t.functions ≡ length p.functions
function_count p t has =
    let one : length t.function_ids ≡ length p.functions = ap length has.function_ids ∙ length-map p.functions (λ f. f.id) in
    sym has.kept.each_function_named ∙ one

-- a function that is called is one of the program
pub callee_below : (p : Program) (t : TypesView) (sig : Sig) (f : ℕ) → HasTypes p t → IsSignature t sig → sig.libfunc ≡ libfuncs.FunctionCall f → f < length p.functions
callee_below p t sig f has (decl, signature) is =
    let placed : IsPlaced t (libfuncs.FunctionCall f) = subst (IsPlaced t) is (written-placed t has.kept decl.generic decl.args sig.libfunc signature.written) in
    omega (arith, placed, function_count p t has)
