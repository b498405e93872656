-- What a signature says of the types of each branch.
use Rattle.std.proofs.Common.{◌≡◌, ℕ, zero, suc, ◌<◌, List, [], ◌∷◌, length, get_or, refl, sym, subst, ap, ◌∙◌, arith}
use Rattle.std.specs.List.{All, AllZip}
use Rattle.std.proofs.lemmas.List.Elements.{All-nil, All-cons}
use Rattle.type_trees.specs.Ty.{Ty}
use Rattle.type_table.specs.declared.type_id.TypeId.{TypeId}
use Rattle.type_table.specs.View.{TypesView, trees_of}
use Rattle.libfunc_registry.specs.Signature.{AreTrees}
use Rattle.libfunc_registry.specs.Wanted.{IsBelow}
use Rattle.libfunc_registry.specs.declared.sig.Sig.{Sig}
use Rattle.libfunc_registry.specs.Fam.{fam_of, gives}
use Rattle.cost_table.specs.Fits.{IsSignature}
use Rattle.cost_table.specs.Results.{branch_types}

pub trees_are : (types : TypesView) (ts : List TypeId) (tys : List Ty) → AreTrees types ts tys → trees_of types ts ≡ tys
trees_are types [] [] are = refl
trees_are types [] (ty ∷ tys) are = absurd are
trees_are types (t ∷ ts) [] are = absurd are
trees_are types (t ∷ ts) (ty ∷ tys) are = let a = are.0.tree in let b = trees_are types ts tys are.1 in cc

pub trees_below : (types : TypesView) (ts : List TypeId) (tys : List Ty) → AreTrees types ts tys → All (IsBelow types) ts
trees_below types [] [] are = All-nil (IsBelow types)
trees_below types [] (ty ∷ tys) are = absurd are
trees_below types (t ∷ ts) [] are = absurd are
trees_below types (t ∷ ts) (ty ∷ tys) are = All-cons (IsBelow types) t ts are.0.below (trees_below types ts tys are.1)

pub branches_many : (types : TypesView) (tss : List (List TypeId)) (tyss : List (List Ty)) → AllZip (AreTrees types) tss tyss → length tss ≡ length tyss
branches_many types [] [] are = refl
branches_many types [] (tys ∷ tyss) are = absurd are
branches_many types (ts ∷ tss) [] are = absurd are
branches_many types (ts ∷ tss) (tys ∷ tyss) are = ap suc (branches_many types tss tyss are.1)

pub branch_trees : (types : TypesView) (tss : List (List TypeId)) (tyss : List (List Ty)) (i : ℕ) (d : List TypeId) (e : List Ty) → AllZip (AreTrees types) tss tyss
    → i < length tss → AreTrees types (get_or tss i d) (get_or tyss i e)
branch_trees types [] tyss i d e are within = absurd (omega arith)
branch_trees types (ts ∷ tss) [] i d e are within = absurd are
branch_trees types (ts ∷ tss) (tys ∷ tyss) zero d e are within = are.0
branch_trees types (ts ∷ tss) (tys ∷ tyss) (suc i) d e are within = branch_trees types tss tyss i d e are.1 (omega arith)

-- the types of a branch, as the code finds them
pub branch_found : (types : TypesView) (sig : Sig) (i : ℕ) (listed : List (List TypeId)) (found : List TypeId) → listed ≡ sig.branches
    → found ≡ get_or listed i found → IsSignature types sig → i < length sig.branches → AreTrees types found (branch_types (fam_of types sig.libfunc) i)
branch_found types sig i listed found same is signature within =
    let here : AreTrees types (get_or sig.branches i found) (branch_types (fam_of types sig.libfunc) i) =
    branch_trees types sig.branches (gives (fam_of types sig.libfunc)) i found [] signature.1.branches within in
    subst (λ ts. AreTrees types ts (branch_types (fam_of types sig.libfunc) i)) (sym (is ∙ ap (λ tss. get_or tss i found) same)) here

-- the branch is one of the family
pub branch_within : (types : TypesView) (sig : Sig) (i : ℕ) → IsSignature types sig → i < length sig.branches → i < length (gives (fam_of types sig.libfunc))
branch_within types sig i signature within =
    let same = branches_many types sig.branches (gives (fam_of types sig.libfunc)) signature.1.branches in
    subst (λ n. i < n) same within
