-- Signatures and refusals from what the steps tell.
use Rattle.std.proofs.Common.{◌≡◌, ℕ, zero, suc, ◌+◌, ◌<◌, List, [], ◌∷◌, ◌++◌, length, get_or, take, sym, ap, subst, inl, inr, arith, Result, Ok, Err}
use Rattle.std.specs.Prelude.{IsErrAnd}
use Rattle.std.specs.List.{All, AllZip}
use Rattle.std.proofs.lemmas.List.Elements.{All-nil, All-cons}
use Rattle.type_trees.specs.Ty.{Ty}
use Rattle.sierra_types.specs.declared.program.LibfuncDecl.{LibfuncDecl}
use Rattle.type_table.specs.declared.type_id.TypeId.{TypeId}
use Rattle.type_table.specs.View.{TypesView, IsInTable, IsTable}
use Rattle.libfunc_registry.specs.declared.libfunc.Libfunc.{Libfunc}
use Rattle.libfunc_registry.specs.declared.sig.Sig.{Sig}
use Rattle.libfunc_registry.specs.declared.sig.SigFault.{SigFault}
use Rattle.libfunc_registry.specs.Fam.{IsWritten, fam_of, takes, gives, IsAble}
use Rattle.libfunc_registry.specs.Judging.{HasPositions}
use Rattle.libfunc_registry.specs.Refusals.{Refused, FirstFault}
use Rattle.libfunc_registry.specs.Signature.{AreTrees, IsDeclared, HasSignature, HasSignatures}

pub signed : (types : TypesView) (decl : LibfuncDecl) (l : Libfunc) (sig : Sig) → IsWritten types l decl.generic decl.args → HasPositions types l sig
    → IsAble (fam_of types l) → HasSignature types decl sig
signed types decl l sig written has able = record {
  written = subst (λ m. IsWritten types m decl.generic decl.args) (sym has.same) written;
  params = subst (λ m. AreTrees types sig.params (takes (fam_of types m))) (sym has.same) has.params;
  branches = subst (λ m. AllZip (AreTrees types) sig.branches (gives (fam_of types m))) (sym has.same) has.branches;
  able = subst (λ m. IsAble (fam_of types m)) (sym has.same) able;
}

pub trees_in_table : (types : TypesView) (ts : List TypeId) (tys : List Ty) → AreTrees types ts tys → All (IsInTable types) tys
trees_in_table types [] [] are = All-nil (IsInTable types)
trees_in_table types [] (ty ∷ tys) are = absurd are
trees_in_table types (t ∷ ts) [] are = absurd are
trees_in_table types (t ∷ ts) (ty ∷ tys) are = All-cons (IsInTable types) ty tys (t.0, are.0) (trees_in_table types ts tys are.1)

branches_in_table : (types : TypesView) (tss : List (List TypeId)) (tyss : List (List Ty)) → AllZip (AreTrees types) tss tyss → All (All (IsInTable types)) tyss
branches_in_table types [] [] are = All-nil (All (IsInTable types))
branches_in_table types [] (tys ∷ tyss) are = absurd are
branches_in_table types (ts ∷ tss) [] are = absurd are
branches_in_table types (ts ∷ tss) (tys ∷ tyss) are =
    All-cons (All (IsInTable types)) tys tyss (trees_in_table types ts tys are.0) (branches_in_table types tss tyss are.1)

pub positions_declared : (types : TypesView) (l : Libfunc) (sig : Sig) → HasPositions types l sig → IsDeclared types (fam_of types l)
positions_declared types l sig has = record {
  takes = trees_in_table types sig.params (takes (fam_of types l)) has.params;
  gives = branches_in_table types sig.branches (gives (fam_of types l)) has.branches;
}

pub signed_declared : (types : TypesView) (decl : LibfuncDecl) (sig : Sig) → HasSignature types decl sig → IsDeclared types (fam_of types sig.libfunc)
signed_declared types decl sig has = record {
  takes = trees_in_table types sig.params (takes (fam_of types sig.libfunc)) has.params;
  gives = branches_in_table types sig.branches (gives (fam_of types sig.libfunc)) has.branches;
}

-- one more declaration has a signature
pub signatures-push : (types : TypesView) (ds : List LibfuncDecl) (i : ℕ) (d : LibfuncDecl) (sigs : List Sig) (sig : Sig) → i < length ds
    → HasSignatures types (take i ds) sigs → HasSignature types (get_or ds i d) sig → HasSignatures types (take (suc i) ds) (sigs ++ sig ∷ [])
signatures-push types [] i d sigs sig within so_far has = absurd (omega arith)
signatures-push types (e ∷ ds) zero d [] sig within so_far has = (has, tt)
signatures-push types (e ∷ ds) zero d (s ∷ sigs) sig within so_far has = absurd so_far
signatures-push types (e ∷ ds) (suc i) d [] sig within so_far has = absurd so_far
signatures-push types (e ∷ ds) (suc i) d (s ∷ sigs) sig within so_far has =
    (so_far.0, signatures-push types ds i d sigs sig (omega arith) so_far.1 has)

-- the first declaration that is refused
pub refused_first : (types : TypesView) (ds : List LibfuncDecl) (i : ℕ) (d : LibfuncDecl) (sigs : List Sig) (fault : SigFault) → i < length ds
    → HasSignatures types (take i ds) sigs → Refused types (get_or ds i d) fault → FirstFault types ds fault
refused_first types [] i d sigs fault within so_far refused = absurd (omega arith)
refused_first types (e ∷ ds) zero d sigs fault within so_far refused = inl refused
refused_first types (e ∷ ds) (suc i) d [] fault within so_far refused = absurd so_far
refused_first types (e ∷ ds) (suc i) d (s ∷ sigs) fault within so_far refused =
    inr (s, so_far.0, refused_first types ds i d sigs fault (omega arith) so_far.1 refused)

-- what holds of a fault holds of a result that passes it on
pub passed_on : {T E : Type 0} (holds : Result T E → Type 0) (fault : E) (result : Result T E) → IsErrAnd result (λ e. e ≡ fault) → holds (Err fault) → holds result
passed_on holds fault (Ok value) is h = absurd is
passed_on holds fault (Err e) is h = subst (λ x. holds (Err x)) (sym is) h
