-- The signature of a libfunc, before it is asked what its types can do: a step of the code.
use Rattle.std.specs.Prelude.{◌≡◌, Option, Some, None}
use Rattle.std.specs.List.{AllZip}
use Rattle.type_table.specs.View.{TypesView}
use Rattle.libfunc_registry.specs.declared.libfunc.Libfunc.{Libfunc}
use Rattle.libfunc_registry.specs.declared.sig.Sig.{Sig}
use Rattle.libfunc_registry.specs.Fam.{fam_of, takes, gives}
use Rattle.libfunc_registry.specs.Signature.{AreTrees, IsDeclared}

-- the libfunc with the positions of its types, all of which are declared
pub record HasPositions (types : TypesView) (libfunc : Libfunc) (sig : Sig) : Type 0 where
  pub same : sig.libfunc ≡ libfunc
  pub params : AreTrees types sig.params (takes (fam_of types libfunc))
  pub branches : AllZip (AreTrees types) sig.branches (gives (fam_of types libfunc))

-- the signature of the libfunc, or none where a type isn't declared
abbrev pub IsSignature : TypesView → Libfunc → Option Sig → Type 0
IsSignature types libfunc (Some sig) = HasPositions types libfunc sig
IsSignature types libfunc None = IsDeclared types (fam_of types libfunc) → ⊥
