-- The form of arguments, by how many of them are types.
use Rattle.std.proofs.Common.{◌≡◌, ◌≢◌, ◌⊎◌, inl, inr, ℕ, suc, ◌-◌, ◌≤◌, List, [], ◌∷◌, length, Option, Some, None, refl, ap, sym, ◌∙◌, arith}
use Rattle.sierra_types.specs.declared.program.Arg.{Arg}
use Rattle.sierra_types.specs.declared.program.Arg.TheVariants.{OfType, User, Callee, Number}
use Rattle.type_table.specs.Refusals.{named_types}
use Rattle.type_table.specs.Resolving.{type_args, written, user_in}
use Rattle.type_table.proofs.Plain.{none-some, some_is}
use Rattle.type_table.proofs.Unique.{named_types-written, user_in-written}

few_types : (args : List Arg) → length (named_types args) ≤ length args
few_types [] = omega arith
few_types (OfType id ∷ args) = omega (arith, few_types args)
few_types (User name ∷ args) = omega (arith, few_types args)
few_types (Callee id ∷ args) = omega (arith, few_types args)
few_types (Number negative size ∷ args) = omega (arith, few_types args)

-- as many types as arguments: all are types
pub all_types : (args : List Arg) → length args ≡ length (named_types args) → args ≡ type_args (named_types args)
all_types [] same = refl
all_types (OfType id ∷ args) same = ap (λ l. OfType id ∷ l) (all_types args (omega (arith, same)))
all_types (User name ∷ args) same = absurd (omega (arith, same, few_types args))
all_types (Callee id ∷ args) same = absurd (omega (arith, same, few_types args))
all_types (Number negative size ∷ args) same = absurd (omega (arith, same, few_types args))

-- one less, and the first is a user's type: all others are types
pub types_behind : (args : List Arg) (name : List ℕ) → user_in args ≡ Some name → length args - 1 ≡ length (named_types args) → args ≡ User name ∷ type_args (named_types args)
types_behind [] name user same = absurd (none-some name user)
types_behind (OfType id ∷ args) name user same = absurd (none-some name user)
types_behind (User other ∷ args) name user same =
    ap (λ n. User n ∷ args) (some_is other name user) ∙ ap (λ l. User name ∷ l) (all_types args (omega (arith, same)))
types_behind (Callee id ∷ args) name user same = absurd (none-some name user)
types_behind (Number negative size ∷ args) name user same = absurd (none-some name user)

length-type_args : (ids : List (List ℕ)) → length (type_args ids) ≡ length ids
length-type_args [] = refl
length-type_args (id ∷ ids) = ap suc (length-type_args ids)

-- what is written so has one of the two forms
pub written_form : (args : List Arg) (user : Option (List ℕ)) (ids : List (List ℕ)) → args ≡ written user ids
    → (length args ≡ length (named_types args)) ⊎ ((name : List ℕ) × (user_in args ≡ Some name) × (length args - 1 ≡ length (named_types args)))
written_form args None ids is =
    inl (ap length is ∙ length-type_args ids ∙ ap length (sym (named_types-written None ids) ∙ ap named_types (sym is)))
written_form args (Some name) ids is =
    let types : length ids ≡ length (named_types args) = ap length (sym (named_types-written (Some name) ids) ∙ ap named_types (sym is)) in
    let all : length args ≡ suc (length (type_args ids)) = ap length is in
    inr (name, ap user_in is ∙ user_in-written (Some name) ids, omega (arith, all, length-type_args ids, types))

pub not_written : (args : List Arg) (types : ℕ) → types ≡ length (named_types args) → length args ≢ types
    → ((name : List ℕ) → user_in args ≡ Some name → length args - 1 ≢ types) → (user : Option (List ℕ)) (ids : List (List ℕ)) → args ≡ written user ids → ⊥
not_written args types count differs others user ids is = by (written_form args user ids is)
  where
    by : (length args ≡ length (named_types args)) ⊎ ((name : List ℕ) × (user_in args ≡ Some name) × (length args - 1 ≡ length (named_types args))) → ⊥
    by (inl same) = differs (same ∙ sym count)
    by (inr (name, user, same)) = others name user (same ∙ sym count)
