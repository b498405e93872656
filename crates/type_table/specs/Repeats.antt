-- Which declarations are repeated, as the code tells it.
use Rattle.std.specs.Prelude.{ℕ, ◌≡◌, ◌↔◌, ◌⊎◌, ◌<◌, ◌++◌, ◌∷◌, [], List, Bool, true, false, length, Some, Result, Ok, Err, slice_get, slice_index_or, if◌then◌else◌}
use Rattle.sierra_types.specs.declared.program.TypeDecl.{TypeDecl}
use Rattle.sierra_types.specs.declared.program.Arg.{Arg}
use Rattle.type_table.specs.declared.kind.TypeKind.{TypeKind}
use Rattle.type_table.specs.declared.rules.TypeRule.{TypeRule}
use Rattle.type_table.specs.Resolving.{user_in}
use Rattle.type_table.specs.Written.{WrittenView, has_written}

abbrev pub written_of : TypeKind → List Arg → List ℕ → WrittenView
written_of kind args targets = record { kind = kind; user = user_in args; targets = targets }

-- whether a declaration is among those that are written so
abbrev pub again_of : List WrittenView → Result TypeKind TypeRule → List Arg → List ℕ → Bool
again_of ws (Ok kind) args targets = has_written ws (written_of kind args targets)
again_of ws (Err rule) args targets = false

-- what is written, with the declaration
abbrev pub after : List WrittenView → Result TypeKind TypeRule → List Arg → List ℕ → List WrittenView
after ws (Ok kind) args targets = if has_written ws (written_of kind args targets) then ws else ws ++ written_of kind args targets ∷ []
after ws (Err rule) args targets = ws

module _ (ds : List TypeDecl) (kinds : List (Result TypeKind TypeRule)) (graph : List (List ℕ)) where
  -- declaration j fits, and is written so
  abbrev pub IsWrittenAt : ℕ → WrittenView → Type 0
  IsWrittenAt j w = (d : TypeDecl) × (kind : TypeKind) × (slice_get ds j ≡ Some d) × (slice_get kinds j ≡ Some (Ok kind)) × (w ≡ written_of kind d.args (slice_index_or graph j []))

  -- one of the first i declarations is written so
  abbrev pub IsWrittenBefore : ℕ → WrittenView → Type 0
  IsWrittenBefore i w = (j : ℕ) × (j < i) × IsWrittenAt j w

  -- each declaration that fits is told to be repeated if its id is, or if one before is written so
  pub record AreRepeatsTold (ids_repeated flags : List Bool) : Type 0 where
    pub each : length flags ≡ length ds
    pub right : (k : ℕ) (w : WrittenView) → IsWrittenAt k w → (slice_index_or flags k false ≡ true) ↔ ((slice_index_or ids_repeated k false ≡ true) ⊎ IsWrittenBefore k w)
