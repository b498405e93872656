-- The signature of a declared libfunc: its family, and the declared types that it takes and gives.
use Rattle.std.specs.Prelude.{List, [], ◌∷◌}
use Rattle.std.specs.List.{All, AllZip}
use Rattle.type_trees.specs.Ty.{Ty}
use Rattle.sierra_types.specs.declared.program.LibfuncDecl.{LibfuncDecl}
use Rattle.type_table.specs.declared.type_id.TypeId.{TypeId}
use Rattle.type_table.specs.View.{TypesView, HasTree, IsInTable}
use Rattle.libfunc_registry.specs.declared.sig.Sig.{Sig}
use Rattle.libfunc_registry.specs.Fam.{Fam, IsWritten, fam_of, takes, gives, IsAble}

-- all types that the family takes and gives are declared
pub record IsDeclared (types : TypesView) (fam : Fam) : Type 0 where
  pub takes : All (IsInTable types) (takes fam)
  pub gives : All (All (IsInTable types)) (gives fam)

-- the positions are those of declared types, which are these
abbrev pub AreTrees : TypesView → List TypeId → List Ty → Type 0
AreTrees types ts tys = AllZip (λ t ty. HasTree types t.0 ty) ts tys

-- the libfunc is declared so, it takes and gives the types at these positions, and they have the abilities that it asks
pub record HasSignature (types : TypesView) (decl : LibfuncDecl) (sig : Sig) : Type 0 where
  pub written : IsWritten types sig.libfunc decl.generic decl.args
  pub params : AreTrees types sig.params (takes (fam_of types sig.libfunc))
  pub branches : AllZip (AreTrees types) sig.branches (gives (fam_of types sig.libfunc))
  pub able : IsAble (fam_of types sig.libfunc)

-- a signature for each declaration, in order
abbrev pub HasSignatures : TypesView → List LibfuncDecl → List Sig → Type 0
HasSignatures types [] [] = Unit {0}
HasSignatures types [] (sig ∷ sigs) = ⊥
HasSignatures types (decl ∷ decls) [] = ⊥
HasSignatures types (decl ∷ decls) (sig ∷ sigs) = HasSignature types decl sig × HasSignatures types decls sigs
