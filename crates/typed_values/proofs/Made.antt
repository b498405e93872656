-- Builtins by their kinds, and results that are gone over.
use Rattle.std.proofs.Common.{◌≡◌, ◌≢◌, ℕ, length, map, ◌++◌, List, [], ◌∷◌, Bool, true, false, cond, Option, Some, None, refl, sym, ap, ◌∙◌}
use Rattle.std.proofs.lemmas.List.{append-nil, append_assoc}
use Rattle.type_trees.specs.Ty.{Ty, number, nonzero, range_check, gas_builtin, box, array, snapshot, struct, enum, dict, dict_entry, squashed_dict, uninitialized}
use Rattle.type_table.specs.Trees.{kind_of, user_of}
use Rattle.type_table.specs.declared.kind.TypeKind.{TypeKind}
use Rattle.type_table.specs.declared.kind.TypeKind.TheVariants as kinds
use Rattle.value_trees.specs.Val as val
use Rattle.value_trees.specs.Val.{Plain}
use Rattle.value_trees.specs.Meant.{meant}
use Rattle.value_trees.specs.declared.value.Value.{Value}
use Rattle.type_table.specs.View.{TypesView}
use Rattle.type_table.specs.declared.type_id.TypeId.{TypeId}
use Rattle.typed_values.specs.Making.{is_builtin_kind, kept, pairs_meant}
use Rattle.typed_values.specs.Outcome.{is_builtin, builtin_value, begins, beginning, others, others_of, panics, shown}

pub builtin_by_kind : (ty : Ty) → is_builtin_kind (kind_of ty) ≡ is_builtin ty
builtin_by_kind (number k) = refl
builtin_by_kind (nonzero k) = refl
builtin_by_kind range_check = refl
builtin_by_kind gas_builtin = refl
builtin_by_kind (box ty) = refl
builtin_by_kind (array ty) = refl
builtin_by_kind (snapshot ty) = refl
builtin_by_kind (struct name tys) = refl
builtin_by_kind (enum name tys) = refl
builtin_by_kind (dict k) = refl
builtin_by_kind (dict_entry k) = refl
builtin_by_kind (squashed_dict k) = refl
builtin_by_kind (uninitialized ty) = refl

-- the types that are no builtins, one by one
pub types_kept : (ty : Ty) (tys done new whole : List Ty) → new ≡ done ++ others_of (ty ∷ []) → done ++ others_of (ty ∷ tys) ≡ whole → new ++ others_of tys ≡ whole
types_kept ty tys done new whole is h =
    ap (λ ts. ts ++ others_of tys) is
    ∙ append_assoc done (others_of (ty ∷ [])) (others_of tys)
    ∙ ap (λ ts. done ++ ts) (kept_first (is_builtin ty)) ∙ h
  where
    kept_first : (b : Bool) → cond b [] (ty ∷ []) ++ others_of tys ≡ cond b (others_of tys) (ty ∷ others_of tys)
    kept_first true = refl
    kept_first false = refl

-- behind the last result there is none
pub none_of_none : (ts : List Ty) → others ts [] ≡ []
none_of_none [] = refl
none_of_none (t ∷ ts) = refl

-- what main begins with, parameter by parameter
pub begun_builtin : (counter : ℕ) (ty : Ty) (tys : List Ty) (done whole given : List Plain) (v : Plain)
    → Some v ≡ builtin_value counter ty → done ++ beginning counter (ty ∷ tys) given ≡ whole → (done ++ v ∷ []) ++ beginning counter tys given ≡ whole
begun_builtin counter ty tys done whole given v is h =
    append_assoc done (v ∷ []) (beginning counter tys given)
    ∙ ap (λ o. done ++ begins o given (beginning counter tys)) is ∙ h

pub begun_given : (counter : ℕ) (ty : Ty) (tys : List Ty) (done whole given rest : List Plain) (v : Plain)
    → None ≡ builtin_value counter ty → given ≡ v ∷ rest → done ++ beginning counter (ty ∷ tys) given ≡ whole
    → (done ++ v ∷ []) ++ beginning counter tys rest ≡ whole
begun_given counter ty tys done whole given rest v is next h =
    append_assoc done (v ∷ []) (beginning counter tys rest)
    ∙ ap (λ o. done ++ begins o (v ∷ rest) (beginning counter tys)) is
    ∙ ap (λ vs. done ++ beginning counter (ty ∷ tys) vs) (sym next) ∙ h

pub begun_none : (counter : ℕ) (ty : Ty) (tys : List Ty) (done whole given : List Plain)
    → None ≡ builtin_value counter ty → given ≡ [] → done ++ beginning counter (ty ∷ tys) given ≡ whole → done ≡ whole
begun_none counter ty tys done whole given is next h =
    sym (append-nil done)
    ∙ ap (λ o. done ++ begins o [] (beginning counter tys)) is
    ∙ ap (λ vs. done ++ beginning counter (ty ∷ tys) vs) (sym next) ∙ h

-- the results that are no builtins, one by one
pub others_more : (ty : Ty) (tys : List Ty) (done new whole : List (Ty × Plain)) (given vs : List Plain) (v : Plain)
    → new ≡ done ++ kept ty v → given ≡ v ∷ vs → done ++ others (ty ∷ tys) given ≡ whole → new ++ others tys vs ≡ whole
others_more ty tys done new whole given vs v is next h =
    ap (λ ps. ps ++ others tys vs) is
    ∙ append_assoc done (kept ty v) (others tys vs)
    ∙ ap (λ ps. done ++ ps) (kept_first (is_builtin ty))
    ∙ ap (λ ws. done ++ others (ty ∷ tys) ws) (sym next) ∙ h
  where
    kept_first : (b : Bool) → cond b [] ((ty, v) ∷ []) ++ others tys vs ≡ cond b (others tys vs) ((ty, v) ∷ others tys vs)
    kept_first true = refl
    kept_first false = refl

pub others_end : (tys : List Ty) (done whole : List (Ty × Plain)) (given : List Plain)
    → given ≡ [] → done ++ others tys given ≡ whole → done ≡ whole
others_end tys done whole given next h =
    sym (append-nil done) ∙ ap (λ ps. done ++ ps) (sym (none_of_none tys)) ∙ ap (λ ws. done ++ others tys ws) (sym next) ∙ h

-- of no result, and of two and more, each is shown as it is
pub panics_of_many : (t : TypesView) (ps : List (TypeId × Value)) → length ps ≢ 1 → false ≡ panics (pairs_meant t ps)
panics_of_many t [] h = refl
panics_of_many t (p ∷ []) h = absurd (h refl)
panics_of_many t (p ∷ q ∷ ps) h = refl

pub shown_of_many : (t : TypesView) (ps : List (TypeId × Value)) → length ps ≢ 1 → map (λ p. meant p.1) ps ≡ shown (pairs_meant t ps)
shown_of_many t [] h = refl
shown_of_many t (p ∷ []) h = absurd (h refl)
shown_of_many t (p ∷ q ∷ ps) h = ap (λ vs. meant p.1 ∷ meant q.1 ∷ vs) (without_types t ps)
  where
    without_types : (t : TypesView) (ps : List (TypeId × Value)) → map (λ p. meant p.1) ps ≡ map (λ (x : Ty × Plain). x.1) (pairs_meant t ps)
    without_types t [] = refl
    without_types t (p ∷ ps) = ap (λ vs. meant p.1 ∷ vs) (without_types t ps)
