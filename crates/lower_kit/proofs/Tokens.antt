-- The word of a range-check token in what is handed on as it is.
use Rattle.std.proofs.Common.{if◌then◌else◌, ◌≡◌, ℕ, ◌<◌, Bool, true, false, Some, None, [], ◌∷◌, ◌++◌, length, refl, sym, ap, ◌∙◌, subst, arith, take_at, drop_at}
use Rattle.std.proofs.lemmas.List.{take_all}
use Rattle.felt64.specs.Field.{modulus, sum}
use Rattle.type_trees.specs.Ty.{Ty, number, nonzero, range_check, gas_builtin, box, array, snapshot, struct, enum, dict, dict_entry, squashed_dict, uninitialized, size, snap, duplicable}
use Rattle.ro_machine.specs.Readings.{Readings}
use Rattle.lower_kit.specs.Counting.{first_of, token_in, TokenIs, TokensAre}

one_token : (w : ℕ) (cells : Readings) → w < modulus → length cells ≡ 1 → first_of cells ≡ Some w → cells ≡ Some (sum w 0) ∷ []
one_token w [] small many is = absurd (omega (arith, many))
one_token w (o ∷ []) small many is =
    let same : sum w 0 ≡ w = omega (arith, small) in
    ap (λ x. x ∷ []) (is ∙ ap Some (sym same))
one_token w (o ∷ p ∷ cells) small many is = absurd (omega (arith, many))

-- a value in all the cells
pub token_kept : (w : ℕ) (ty : Ty) (cells : Readings) → w < modulus → length cells ≡ size ty → token_in (ty ∷ []) cells ≡ Some w → TokenIs (sum w 0) ty cells
token_kept w (number k) cells small many is = tt
token_kept w (nonzero k) cells small many is = tt
token_kept w range_check cells small many is = one_token w cells small many is
token_kept w gas_builtin cells small many is = tt
token_kept w (box ty) cells small many is = tt
token_kept w (array ty) cells small many is = tt
token_kept w (snapshot ty) cells small many is = tt
token_kept w (struct name tys) cells small many is = tt
token_kept w (enum name tys) cells small many is = tt
token_kept w (dict k) cells small many is = tt
token_kept w (dict_entry k) cells small many is = tt
token_kept w (squashed_dict k) cells small many is = tt
token_kept w (uninitialized ty) cells small many is = tt

pub token_snapped : (w : ℕ) (ty : Ty) (cells : Readings) → TokenIs w ty cells → TokenIs w (snap ty) cells
token_snapped w ty cells is = by_cases (duplicable ty) where
  by_cases : (b : Bool) → TokenIs w (if b then ty else snapshot ty) cells
  by_cases true = is
  by_cases false = tt

-- one value, and a value and another behind it
pub one_stays : (w : ℕ) (ty : Ty) (cells : Readings) → length cells ≡ size ty → TokenIs w ty cells → TokensAre w (ty ∷ []) cells
one_stays w ty cells many is = (subst (λ c. TokenIs w ty c) (sym (take_all (size ty) cells (omega (arith, many)))) is, tt)

pub both_stay : (w : ℕ) (ty tz : Ty) (cells more : Readings) → length cells ≡ size ty → length more ≡ size tz → TokenIs w ty cells → TokenIs w tz more → TokensAre w (ty ∷ tz ∷ []) (cells ++ more)
both_stay w ty tz cells more many others is other = (
  subst (λ c. TokenIs w ty c) (sym (take_at cells more (size ty) many)) is,
  subst (λ c. TokensAre w (tz ∷ []) c) (sym (drop_at cells more (size ty) many)) (one_stays w tz more others other),
)

pub no_token : (w : ℕ) → None ≡ Some w → ⊥
no_token w is = cc

-- a value that is no token gives none
pub none_in_snap : (ty : Ty) (cells : Readings) → token_in (ty ∷ []) cells ≡ None → token_in (snap ty ∷ []) cells ≡ None
none_in_snap ty cells none = by_cases (duplicable ty) where
  by_cases : (b : Bool) → token_in ((if b then ty else snapshot ty) ∷ []) cells ≡ None
  by_cases true = none
  by_cases false = refl
