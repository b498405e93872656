-- How many builtins are held as variables are taken and added.
use Rattle.std.proofs.Common.{◌≡◌, ◌⊎◌, inl, inr, ℕ, ◌+◌, ◌<◌, List, [], ◌∷◌, Some, ap, arith}
use Rattle.std.proofs.lemmas.Option.{none-some, same_Some}
use Rattle.type_table.specs.declared.type_id.TypeId.{TypeId}
use Rattle.type_table.specs.View.{TypesView, tree_of, trees_of}
use Rattle.held_list.specs.Held.{Held}
use Rattle.held_list.specs.Editing.{take, add}
use Rattle.held_list.proofs.Steps.{take_cases, add_cases}
use Rattle.linear_check.specs.Typed.{Takes, Adds}
use Rattle.gas_solver.specs.Balance.{builtin, builtins, held_types}

module _ (check gas : ℕ) (t : TypesView) where
  -- the weight of a type, and of what is held
  abbrev pub weight : TypeId → ℕ
  weight id = builtin check gas (tree_of t id.0)

  abbrev pub held_weight : Held TypeId → ℕ
  held_weight held = builtins check gas (held_types t held)

  abbrev pub types_weight : List TypeId → ℕ
  types_weight ids = builtins check gas (trees_of t ids)

  take_weight : (held : Held TypeId) (v : ℕ) (id : TypeId) (rest : Held TypeId) → take v held ≡ Some (id, rest) → held_weight held ≡ weight id + held_weight rest
  take_weight [] v id rest is = absurd (none-some (id, rest) is)
  take_weight (x ∷ xs) v id rest is = by_case (take_cases x xs v id rest is) (take_weight xs v id)
    where
      by_case : ((v ≡ x.0) × (x.1 ≡ id) × (xs ≡ rest)) ⊎ ((v ≡ x.0 → ⊥) × ((later : Held TypeId) × (take v xs ≡ Some (id, later)) × (x ∷ later ≡ rest)))
          → ((later : Held TypeId) → take v xs ≡ Some (id, later) → held_weight xs ≡ weight id + held_weight later) → held_weight (x ∷ xs) ≡ weight id + held_weight rest
      by_case (inl here) more =
          let a : weight x.1 ≡ weight id = ap weight here.1 in
          let b : held_weight xs ≡ held_weight rest = ap held_weight here.2 in
          omega arith
      by_case (inr behind) more =
          let a = more behind.1.0 behind.1.1 in
          let b : weight x.1 + held_weight behind.1.0 ≡ held_weight rest = ap held_weight behind.1.2 in
          omega arith

  add_weight : (held : Held TypeId) (v : ℕ) (id : TypeId) (more : Held TypeId) → add v id held ≡ Some more → held_weight more ≡ weight id + held_weight held
  add_weight [] v id more is =
      let a : weight id + 0 ≡ held_weight more = ap held_weight (same_Some ((v, id) ∷ []) more is) in
      omega arith
  add_weight (x ∷ xs) v id more is = by_case (add_cases x xs v id more is) (add_weight xs v id)
    where
      by_case : ((v < x.0) × ((v, id) ∷ x ∷ xs ≡ more)) ⊎ ((x.0 < v) × ((later : Held TypeId) × (add v id xs ≡ Some later) × (x ∷ later ≡ more)))
          → ((later : Held TypeId) → add v id xs ≡ Some later → held_weight later ≡ weight id + held_weight xs) → held_weight more ≡ weight id + held_weight (x ∷ xs)
      by_case (inl here) later =
          let a : weight id + (weight x.1 + held_weight xs) ≡ held_weight more = ap held_weight here.1 in
          omega arith
      by_case (inr behind) later =
          let a = later behind.1.0 behind.1.1 in
          let b : weight x.1 + held_weight behind.1.0 ≡ held_weight more = ap held_weight behind.1.2 in
          omega arith

  pub takes_weight : (vs : List ℕ) (ids : List TypeId) (held rest : Held TypeId) → Takes vs ids held rest → held_weight held ≡ types_weight ids + held_weight rest
  takes_weight [] [] held rest is = (let a : held_weight held ≡ held_weight rest = ap held_weight is in omega arith)
  takes_weight [] (id ∷ ids) held rest is = absurd is
  takes_weight (v ∷ vs) [] held rest is = absurd is
  takes_weight (v ∷ vs) (id ∷ ids) held rest (left, one, others) =
      let a = take_weight held v id left one in
      let b = takes_weight vs ids left rest others in
      omega arith

  pub adds_weight : (vs : List ℕ) (ids : List TypeId) (rest held : Held TypeId) → Adds vs ids rest held → held_weight held ≡ types_weight ids + held_weight rest
  adds_weight [] [] rest held is = (let a : held_weight rest ≡ held_weight held = ap held_weight is in omega arith)
  adds_weight [] (id ∷ ids) rest held is = absurd is
  adds_weight (v ∷ vs) [] rest held is = absurd is
  adds_weight (v ∷ vs) (id ∷ ids) rest held (more, one, others) =
      let a = add_weight rest v id more one in
      let b = adds_weight vs ids more held others in
      omega arith
