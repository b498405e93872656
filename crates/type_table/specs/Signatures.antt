-- What the code finds of a function's types: their positions, and whether a signature may have them.
use Rattle.std.specs.Prelude.{ℕ, ◌≡◌, ◌⊎◌, List, ◌∷◌, ◌++◌, map, filter_map, count_by, nat_lt, Bool, true, false, not, ◌&&◌, Some, None, is_some, slice_get, if◌then◌else◌}
use Rattle.std.specs.List.{list_all}
use Rattle.std.specs.Option.{option_map_or}
use Rattle.sierra_types.specs.declared.program.Function.{Function}
use Rattle.type_table.specs.declared.fault.TypeFault.{TypeFault}
use Rattle.type_table.specs.declared.fault.TypeFault.TheVariants as faults
use Rattle.type_table.specs.declared.kind.TypeKind.{TypeKind}
use Rattle.type_table.specs.declared.kind.TypeKind.TheVariants as kinds
use Rattle.type_table.specs.declared.row.Row.{Row}
use Rattle.type_table.specs.declared.row.Signature.{Signature}
use Rattle.type_table.specs.declared.signatures.Builtin.{Builtin}
use Rattle.type_table.specs.declared.signatures.Builtin.TheVariants as builtins
use Rattle.type_table.specs.declared.type_id.TypeId.{TypeId}
use Rattle.type_table.specs.Lookups.{found}
use Rattle.type_table.specs.Refusals.{parameter_types, HasOneVariableTwice}

-- the ids are found at these positions
abbrev pub AreFound : List (List ℕ × ℕ) → List (List ℕ) → List TypeId → Type 0
AreFound positions ids ts = map (λ id. found positions id) ids ≡ map (λ t. Some t.0) ts

-- the ids that aren't found
abbrev pub unfound_in : List (List ℕ × ℕ) → List (List ℕ) → List (List ℕ)
unfound_in positions ids = filter_map (λ id. if is_some (found positions id) then None else Some id) ids

-- the first id that isn't found is the fault's
abbrev pub HasUnfound : List (List ℕ × ℕ) → List (List ℕ) → TypeFault → Type 0
HasUnfound positions ids fault = (id : List ℕ) × (more : List (List ℕ)) × (unfound_in positions ids ≡ id ∷ more) × (fault ≡ faults.UnknownType id)

-- parameters and results are found at the signature's positions
pub record IsResolved (positions : List (List ℕ × ℕ)) (f : Function) (s : Signature) : Type 0 where
  pub params : AreFound positions (parameter_types f) s.params
  pub results : AreFound positions f.results s.results

abbrev pub is_builtin : Builtin → TypeKind → Bool
is_builtin builtins.RangeCheck kinds.RangeCheck = true
is_builtin builtins.Gas kinds.GasBuiltin = true
is_builtin _ _ = false

abbrev pub is_builtin_at : List Row → Builtin → TypeId → Bool
is_builtin_at rows builtin t = option_map_or (λ row. is_builtin builtin row.kind) (slice_get rows t.0) false

abbrev pub is_storable_at : List Row → TypeId → Bool
is_storable_at rows t = option_map_or (λ row. row.info.storable) (slice_get rows t.0) false

abbrev pub has_twice : List Row → Builtin → List TypeId → Bool
has_twice rows builtin ts = nat_lt 1 (count_by (λ t. is_builtin_at rows builtin t) ts)

-- parameters, or results, may have these types
abbrev pub are_usable : List Row → List TypeId → Bool
are_usable rows ts =
    list_all (λ t. is_storable_at rows t) ts && (not (has_twice rows builtins.RangeCheck ts) && not (has_twice rows builtins.Gas ts))

pub record IsWellFormed (rows : List Row) (f : Function) (s : Signature) : Type 0 where
  pub params : are_usable rows s.params ≡ true
  pub results : are_usable rows s.results ≡ true
  pub variables : HasOneVariableTwice f.params → ⊥

abbrev pub IsIllFormed : List Row → Function → Signature → Type 0
IsIllFormed rows f s = HasOneVariableTwice f.params ⊎ ((are_usable rows s.params ≡ false) ⊎ (are_usable rows s.results ≡ false))

-- the function has this signature, and passes behind functions with these ids
pub record PassesBehind (positions : List (List ℕ × ℕ)) (rows : List Row) (ids : List (List ℕ × ℕ)) (f : Function) (s : Signature) : Type 0 where
  pub resolved : IsResolved positions f s
  pub fresh : found ids f.id ≡ None
  pub well_formed : IsWellFormed rows f s

-- the function has the fault behind functions with these ids
abbrev pub FailsBehind : List (List ℕ × ℕ) → List Row → List (List ℕ × ℕ) → Function → TypeFault → Type 0
FailsBehind positions rows ids f fault =
    HasUnfound positions (parameter_types f ++ f.results) fault
    ⊎ (((s : Signature) × IsResolved positions f s × (is_some (found ids f.id) ≡ true) × (fault ≡ faults.Duplicate f.id))
    ⊎ ((s : Signature) × IsResolved positions f s × (found ids f.id ≡ None) × IsIllFormed rows f s × (fault ≡ faults.FunctionType f.id)))
