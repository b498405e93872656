-- Why a declaration of a libfunc is refused.
use Rattle.std.specs.Prelude.{ℕ, ◌≡◌, ◌⊎◌, List, [], ◌∷◌}
use Rattle.sierra_types.specs.declared.program.LibfuncDecl.{LibfuncDecl}
use Rattle.type_table.specs.View.{TypesView}
use Rattle.libfunc_registry.specs.declared.libfunc.Libfunc.{Libfunc}
use Rattle.libfunc_registry.specs.declared.sig.Sig.{Sig}
use Rattle.libfunc_registry.specs.declared.sig.SigFault.{SigFault}
use Rattle.libfunc_registry.specs.declared.sig.SigFault.TheVariants as faults
use Rattle.libfunc_registry.specs.Fam.{IsFamily, IsWritten, fam_of, IsAble}
use Rattle.libfunc_registry.specs.Signature.{IsDeclared, HasSignature}

-- The declaration is refused so: its generic name is of no family; it is, but the arguments are for no libfunc whose types
-- are all declared; they are for one, but a type lacks an ability.
abbrev pub Refused : TypesView → LibfuncDecl → SigFault → Type 0
Refused types decl (faults.UnknownLibfunc name) = (name ≡ decl.generic) × (IsFamily decl.generic → ⊥)
Refused types decl (faults.BadArgs id) =
    (id ≡ decl.id) × IsFamily decl.generic
    × ((libfunc : Libfunc) → IsWritten types libfunc decl.generic decl.args → IsDeclared types (fam_of types libfunc) → ⊥)
Refused types decl (faults.AbilityMissing id) =
    (id ≡ decl.id) × (libfunc : Libfunc) × IsWritten types libfunc decl.generic decl.args
    × IsDeclared types (fam_of types libfunc) × (IsAble (fam_of types libfunc) → ⊥)
Refused types decl faults.Memory = ⊥

-- the first declaration that has no signature is refused so
abbrev pub FirstFault : TypesView → List LibfuncDecl → SigFault → Type 0
FirstFault types [] fault = ⊥
FirstFault types (decl ∷ decls) fault =
    Refused types decl fault ⊎ ((sig : Sig) × HasSignature types decl sig × FirstFault types decls fault)
