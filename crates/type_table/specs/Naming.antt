-- Declarations in order, and what ids name: an id names the first declaration that has it.
use Rattle.std.specs.Prelude.{ℕ, suc, ◌≡◌, ◌≢◌, ◌<◌, List, [], ◌∷◌, map, Option, Some, None, option_map, slice_get, if◌then◌else◌, bytes_eq}
use Rattle.std.specs.List.{Contains}
use Rattle.sierra_types.specs.declared.program.TypeDecl.{TypeDecl}

-- this id is at position i, and at none before
pub record IsFirst (ids : List (List ℕ)) (id : List ℕ) (i : ℕ) : Type 0 where
  pub here : slice_get ids i ≡ Some id
  pub none_before : (j : ℕ) → j < i → slice_get ids j ≢ Some id

-- where the id is first
abbrev pub place_of : List (List ℕ) → List ℕ → Option ℕ
place_of [] id = None
place_of (other ∷ ids) id = if bytes_eq id other then Some 0 else option_map suc (place_of ids id)

-- the ids of declared types, in order
abbrev pub ids_of : List TypeDecl → List (List ℕ)
ids_of ds = map (λ d. d.id) ds

-- the id is that of declaration d, at position i
pub record Names (ds : List TypeDecl) (id : List ℕ) (i : ℕ) (d : TypeDecl) : Type 0 where
  pub first : IsFirst (ids_of ds) id i
  pub here : slice_get ds i ≡ Some d

-- some declaration has the id
abbrev pub IsDeclared : List TypeDecl → List ℕ → Type 0
IsDeclared ds id = Contains (ids_of ds) id
