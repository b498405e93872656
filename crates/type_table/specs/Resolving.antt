-- What arguments name, as the code tells it.
use Rattle.std.specs.Prelude.{ℕ, List, [], ◌∷◌, map, filter_map, Option, Some, None, is_some, if◌then◌else◌}
use Rattle.sierra_types.specs.declared.program.Arg.{Arg}
use Rattle.sierra_types.specs.declared.program.Arg.TheVariants.{OfType, User, Callee, Number}
use Rattle.type_table.specs.Lookups.{found}

-- the position that an argument names
abbrev pub target_of : List (List ℕ × ℕ) → Arg → Option ℕ
target_of positions (OfType id) = found positions id
target_of positions (User name) = None
target_of positions (Callee id) = None
target_of positions (Number negative size) = None

-- the id of an argument that is a type which isn't known
abbrev pub unknown_of : List (List ℕ × ℕ) → Arg → Option (List ℕ)
unknown_of positions (OfType id) = if is_some (found positions id) then None else Some id
unknown_of positions (User name) = None
unknown_of positions (Callee id) = None
unknown_of positions (Number negative size) = None

-- the ids of arguments that are types which aren't known
abbrev pub unknown_in : List (List ℕ × ℕ) → List Arg → List (List ℕ)
unknown_in positions args = filter_map (unknown_of positions) args

abbrev pub targets_in : List (List ℕ × ℕ) → List Arg → List ℕ
targets_in positions args = filter_map (target_of positions) args

-- arguments that are types alone
abbrev pub type_args : List (List ℕ) → List Arg
type_args ids = map (λ id. OfType id) ids

-- types, behind a user's type if one is given
abbrev pub written : Option (List ℕ) → List (List ℕ) → List Arg
written None ids = type_args ids
written (Some name) ids = User name ∷ type_args ids

-- the user's type that arguments begin with
abbrev pub user_in : List Arg → Option (List ℕ)
user_in [] = None
user_in (OfType id ∷ args) = None
user_in (User name ∷ args) = Some name
user_in (Callee id ∷ args) = None
user_in (Number negative size ∷ args) = None
