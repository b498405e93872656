-- The rows of types, as the code makes them of what is known of declarations.
use Rattle.std.specs.Prelude.{ℕ, ◌≡◌, ◌<◌, ◌==◌, List, [], ◌∷◌, map, length, Some, is_some, if◌then◌else◌, slice_get}
use Rattle.sierra_types.specs.declared.program.TypeDecl.{TypeDecl}
use Rattle.type_table.specs.declared.facts.Facts.{Facts}
use Rattle.type_table.specs.declared.fault.TypeFault.{TypeFault}
use Rattle.type_table.specs.declared.fault.TypeFault.TheVariants as faults
use Rattle.type_table.specs.declared.outcome.Known.{Known}
use Rattle.type_table.specs.declared.row.Row.{Row}
use Rattle.type_table.specs.declared.rules.TypeRule.{TypeRule}
use Rattle.type_table.specs.declared.rules.TypeRule.TheVariants as rules
use Rattle.type_table.specs.declared.type_id.TypeId.{TypeId}
use Rattle.type_table.specs.declared.type_id.TypeInfo.{TypeInfo}
use Rattle.type_table.specs.Naming.{place_of, ids_of}
use Rattle.type_table.specs.Named.{generic_named}
use Rattle.type_table.specs.Lookups.{found, names_in, AreNumbered}
use Rattle.type_table.specs.Refusals.{BreaksType}
use Rattle.type_table.specs.Resolving.{user_in, unknown_in}
use Rattle.type_table.specs.Rows.{targets}
use Rattle.type_table.specs.Found.{IsKnownAt, BreaksFirst, BreaksNone}

abbrev pub info_told : Facts → TypeInfo
info_told facts =
    record { size = facts.size; storable = facts.storable; drop = facts.drop; dup = facts.dup; zero_sized = facts.size == 0; holds_dict = facts.holds_dict }

abbrev pub ids_at : List ℕ → List TypeId
ids_at ts = map (λ t. record { 0 = t }) ts

-- the row of a declaration of which this is known, and whose arguments name the types at these positions
pub record IsMadeOf (d : TypeDecl) (known : Known) (ts : List ℕ) (row : Row) : Type 0 where
  pub kind : row.kind ≡ known.kind
  pub generic : row.generic ≡ d.generic
  pub user : row.user ≡ user_in d.args
  pub members : row.members ≡ ids_at ts
  pub info : row.info ≡ info_told known.facts
  pub plain : row.plain ≡ known.facts.plain

-- ---- faults

abbrev pub first_or : List ℕ → List (List ℕ) → List ℕ
first_or name [] = name
first_or name (id ∷ ids) = id

-- the first name of a declaration that isn't known
abbrev pub unknown_name : List (List ℕ × ℕ) → TypeDecl → List ℕ
unknown_name positions d = if is_some (generic_named d.generic) then first_or d.generic (unknown_in positions d.args) else d.generic

abbrev pub fault_with : TypeRule → List ℕ → TypeFault
fault_with rules.NamesKnown name = faults.UnknownType name
fault_with rules.ArgumentsFit name = faults.BadArgs name
fault_with rules.InfoFits name = faults.TypeInfoDiffers name
fault_with rules.NoCycle name = faults.TypeCycle name
fault_with rules.WithinLimits name = faults.SizeAbove name
fault_with rules.DeclaredOnce name = faults.Duplicate name

-- the name that the fault tells
abbrev pub name_told : List (List ℕ × ℕ) → TypeDecl → TypeRule → List ℕ
name_told positions d rules.NamesKnown = unknown_name positions d
name_told positions d _ = d.id

-- the fault of a declaration that breaks the rule
abbrev pub fault_told : List (List ℕ × ℕ) → TypeDecl → TypeRule → TypeFault
fault_told positions d rule = fault_with rule (name_told positions d rule)

module _ (ds : List TypeDecl) where
  -- there are so many rows, and each is that of the declaration at its position
  pub record AreMadeTo (n : ℕ) (rows : List Row) : Type 0 where
    pub long : length rows ≡ n
    pub each : (i : ℕ) (d : TypeDecl) (row : Row) → slice_get ds i ≡ Some d → slice_get rows i ≡ Some row → (known : Known) × IsKnownAt ds i known × IsMadeOf d known (targets ds d) row

  abbrev pub AreMade : List Row → Type 0
  AreMade rows = AreMadeTo (length ds) rows

  -- positions and rows are those of the declarations, of which none breaks a rule
  pub record AreTyped (positions : List (List ℕ × ℕ)) (rows : List Row) : Type 0 where
    pub made : AreMade rows
    pub first : (id : List ℕ) → found positions id ≡ place_of (ids_of ds) id
    pub names : names_in positions ≡ ids_of ds
    pub numbered : AreNumbered positions

  -- the first rule that is broken, in declared order, has this fault
  pub record FirstTypeFault (fault : TypeFault) : Type 0 where
    pub at : ℕ
    pub decl : TypeDecl
    pub rule : TypeRule
    pub here : slice_get ds at ≡ Some decl
    pub first : BreaksFirst ds at decl rule
    pub breaks : BreaksType ds at decl rule fault
    pub none_before : (i : ℕ) (d : TypeDecl) → i < at → slice_get ds i ≡ Some d → BreaksNone ds i d
