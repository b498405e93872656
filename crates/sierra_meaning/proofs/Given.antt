-- Values that are given to main: they are of their types, have no gas, and no array in them is too long.
use Rattle.std.proofs.Common.{◌≡◌, ℕ, zero, suc, ◌/◌, ◌≤◌, ◌^◌, max, List, [], ◌∷◌, length, refl, sym, ap, subst, ◌∙◌, arith}
use Rattle.std.specs.List.{AllByRecursion}
use Rattle.std.proofs.Math.Nat.{div-le_self}
use Rattle.type_trees.specs.Ty.{Ty, Tys, number, nonzero, range_check, gas_builtin, box, array, snapshot, struct, enum, dict, dict_entry, squashed_dict, uninitialized, no_types, types, size}
use Rattle.value_trees.specs.Of.{AreOf, IsOfVariant, AreWords, IsOpenMap, IsPlain}
use Rattle.value_trees.specs.Val.{Plain, vals_of}
use Rattle.value_trees.specs.Val as val
use Rattle.typed_values.specs.Inputs.{most_elements, IsGiven, AreGiven, IsGivenVariant}
use Rattle.sierra_meaning.specs.Measured.{gas_inside, length_of}
use Rattle.sierra_meaning.proofs.GasParts.{gas_among}
use Rattle.sierra_meaning.proofs.LongParts.{longest_among, vals_count}

-- a value is of its type, has no gas, and is short
pub record IsHarmless (ty : Ty) (v : Plain) : Type 0 where
  pub typed : IsPlain ty v
  pub no_gas : gas_inside v ≡ 0
  pub short : length_of v ≤ 2 ^ 20

-- the elements of an array
record AreHarmless (ty : Ty) (vs : List Plain) : Type 0 where
  pub typed : AllByRecursion (IsPlain ty) vs
  pub no_gas : gas_among (vals_of vs) ≡ 0
  pub short : longest_among (vals_of vs) ≤ 2 ^ 20

elements : (ty : Ty) (P : Plain → Type 0) → ((v : Plain) → P v → IsHarmless ty v) → (vs : List Plain) → AllByRecursion P vs → AreHarmless ty vs
elements ty P each [] all = record { typed = tt; no_gas = refl; short = omega arith }
elements ty P each (v ∷ vs) all =
    let one = each v all.0 in
    let others = elements ty P each vs all.1 in
    let a = one.no_gas in
    let b = others.no_gas in
    let d = one.short in
    let e = others.short in
    record { typed = (one.typed, others.typed); no_gas = omega arith; short = omega arith }

-- the parts of a struct, and the payload of an enum
record ArePartsHarmless (tys : Tys) (vs : List Plain) : Type 0 where
  pub typed : AreOf AreWords IsOpenMap tys vs
  pub no_gas : gas_among (vals_of vs) ≡ 0
  pub short : longest_among (vals_of vs) ≤ 2 ^ 20

record IsVariantHarmless (tys : Tys) (index : ℕ) (v : Plain) : Type 0 where
  pub typed : IsOfVariant AreWords IsOpenMap tys index v
  pub no_gas : gas_inside v ≡ 0
  pub short : length_of v ≤ 2 ^ 20

few_elements : (n d : ℕ) → n / max 1 d ≤ n
few_elements n d = div-le_self n (max 1 d)

array_harmless : (ty : Ty) (v : Plain) (vs : List Plain) → v ≡ val.array (vals_of vs) → AreHarmless ty vs → length vs ≤ most_elements ty → IsHarmless (array ty) v
array_harmless ty v vs is all few =
    let counted = vals_count vs in
    let long = all.short in
    let most = few_elements (2 ^ 20) (size ty) in
    let whole : length_of (val.array (vals_of vs)) ≤ 2 ^ 20 = omega arith in
    record { typed = (vs, is, all.typed); no_gas = ap gas_inside is ∙ all.no_gas; short = subst (λ u. length_of u ≤ 2 ^ 20) (sym is) whole }

struct_harmless : (name : List ℕ) (tys : Tys) (v : Plain) (vs : List Plain) → v ≡ val.struct (vals_of vs) → ArePartsHarmless tys vs → IsHarmless (struct name tys) v
struct_harmless name tys v vs is all =
    record { typed = (vs, is, all.typed); no_gas = ap gas_inside is ∙ all.no_gas; short = subst (λ u. length_of u ≤ 2 ^ 20) (sym is) all.short }

enum_harmless : (name : List ℕ) (tys : Tys) (v : Plain) (index : ℕ) (payload : Plain) → v ≡ val.enum index payload → IsVariantHarmless tys index payload → IsHarmless (enum name tys) v
enum_harmless name tys v index payload is all =
    record { typed = (index, payload, is, all.typed); no_gas = ap gas_inside is ∙ all.no_gas; short = subst (λ u. length_of u ≤ 2 ^ 20) (sym is) all.short }

more_parts : (ty : Ty) (tys : Tys) (vs : List Plain) (v : Plain) (rest : List Plain) → vs ≡ v ∷ rest → IsHarmless ty v → ArePartsHarmless tys rest → ArePartsHarmless (types ty tys) vs
more_parts ty tys vs v rest is one others =
    let a = one.no_gas in
    let b = others.no_gas in
    let d = one.short in
    let e = others.short in
    let none : gas_among (vals_of (v ∷ rest)) ≡ 0 = omega arith in
    let few : longest_among (vals_of (v ∷ rest)) ≤ 2 ^ 20 = omega arith in
    record {
      typed = (v, rest, is, one.typed, others.typed);
      no_gas = ap (λ us. gas_among (vals_of us)) is ∙ none;
      short = subst (λ us. longest_among (vals_of us) ≤ 2 ^ 20) (sym is) few;
    }

mutual
  pub harmless : (ty : Ty) (v : Plain) → IsGiven most_elements ty v → IsHarmless ty v
  harmless (number k) v (n, is, below) = record { typed = (n, is, below); no_gas = ap gas_inside is; short = subst (λ u. length_of u ≤ 2 ^ 20) (sym is) (omega arith) }
  harmless (array ty) v (vs, is, all, few) = array_harmless ty v vs is (elements ty (IsGiven most_elements ty) (λ u given. harmless ty u given) vs all) few
  harmless (struct name tys) v (vs, is, all) = struct_harmless name tys v vs is (parts_harmless tys vs all)
  harmless (enum name tys) v (index, payload, is, given) = enum_harmless name tys v index payload is (variant_harmless tys index payload given)
  harmless (nonzero k) v given = absurd given
  harmless range_check v given = absurd given
  harmless gas_builtin v given = absurd given
  harmless (box ty) v given = absurd given
  harmless (snapshot ty) v given = absurd given
  harmless (dict k) v given = absurd given
  harmless (dict_entry k) v given = absurd given
  harmless (squashed_dict k) v given = absurd given
  harmless (uninitialized ty) v given = absurd given

  parts_harmless : (tys : Tys) (vs : List Plain) → AreGiven most_elements tys vs → ArePartsHarmless tys vs
  parts_harmless no_types vs is = record { typed = is; no_gas = ap (λ us. gas_among (vals_of us)) is; short = subst (λ us. longest_among (vals_of us) ≤ 2 ^ 20) (sym is) (omega arith) }
  parts_harmless (types ty tys) vs (v, rest, is, given, all) = more_parts ty tys vs v rest is (harmless ty v given) (parts_harmless tys rest all)

  variant_harmless : (tys : Tys) (index : ℕ) (v : Plain) → IsGivenVariant most_elements tys index v → IsVariantHarmless tys index v
  variant_harmless no_types index v given = absurd given
  variant_harmless (types ty tys) zero v given = let one = harmless ty v given in record { typed = one.typed; no_gas = one.no_gas; short = one.short }
  variant_harmless (types ty tys) (suc index) v given = let one = variant_harmless tys index v given in record { typed = one.typed; no_gas = one.no_gas; short = one.short }
