-- A value of an input has the form of its type, and one with a form has it where more is allowed.
use Rattle.std.proofs.Common.{ℕ, zero, suc, List, [], ◌∷◌, length}
use Rattle.std.specs.List.{AllByRecursion}
use Rattle.text_reading.specs.Places.{Continues}
use Rattle.type_trees.specs.Ty.{Ty, Tys, number, nonzero, range_check, gas_builtin, box, array, snapshot, struct, enum, dict, dict_entry, squashed_dict, uninitialized, no_types, types}
use Rattle.value_trees.specs.Val.{Plain}
use Rattle.typed_values.specs.Faults.{HasForm, HaveForms, HasVariantForm, AllFormed, IsFormOf, IsAnyFormOf, IsInputOf, any_length, few_elements}
use Rattle.typed_values.specs.Inputs.{IsGiven, AreGiven, IsGivenVariant, AllGiven, most_elements}

all_too : (P Q : Plain → Type 0) → ((v : Plain) → P v → Q v) → (vs : List Plain) → AllByRecursion P vs → AllByRecursion Q vs
all_too P Q f [] all = tt
all_too P Q f (v ∷ vs) all = (f v all.0, all_too P Q f vs all.1)

-- ---- values of inputs

mutual
  given_formed : (ty : Ty) (v : Plain) → IsGiven most_elements ty v → HasForm few_elements ⊥ ty v
  given_formed (number k) v given = (given.0, given.1)
  given_formed (array ty) v given = (given.0, given.1, all_too (IsGiven most_elements ty) (HasForm few_elements ⊥ ty) (given_formed ty) given.0 given.2, given.3)
  given_formed (struct name tys) v given = (given.0, given.1, members_formed tys given.0 given.2)
  given_formed (enum name tys) v given = (given.0, given.1, given.2, variant_formed tys given.0 given.1 given.3)
  given_formed (nonzero k) v given = given
  given_formed range_check v given = given
  given_formed gas_builtin v given = given
  given_formed (box ty) v given = given
  given_formed (snapshot ty) v given = given
  given_formed (dict k) v given = given
  given_formed (dict_entry k) v given = given
  given_formed (squashed_dict k) v given = given
  given_formed (uninitialized ty) v given = given

  members_formed : (tys : Tys) (vs : List Plain) → AreGiven most_elements tys vs → HaveForms few_elements ⊥ tys vs
  members_formed no_types vs given = given
  members_formed (types ty tys) vs given = (given.0, given.1, given.2, given_formed ty given.0 given.3, members_formed tys given.1 given.4)

  variant_formed : (tys : Tys) (index : ℕ) (v : Plain) → IsGivenVariant most_elements tys index v → HasVariantForm few_elements ⊥ tys index v
  variant_formed no_types index v given = given
  variant_formed (types ty tys) zero v given = given_formed ty v given
  variant_formed (types ty tys) (suc index) v given = variant_formed tys index v given

lines_formed : (tys : List Ty) (vs : List Plain) → AllGiven most_elements tys vs → AllFormed few_elements ⊥ tys vs
lines_formed [] vs given = given
lines_formed (ty ∷ tys) vs given = (given.0, given.1, given.2, given_formed ty given.0 given.3, lines_formed tys given.1 given.4)

pub input_has_form : (tys : List Ty) (front : List ℕ) → Continues (IsInputOf tys) front → Continues (IsFormOf few_elements ⊥ tys) front
input_has_form tys front goes = (goes.0, goes.1, (lines_formed tys goes.0.args goes.2.0.args, goes.2.1))

-- ---- where more is allowed

module _ (Few More : Ty → ℕ → Type 0) (Beyond Further : Type 0) (more : (ty : Ty) (n : ℕ) → Few ty n → More ty n) (further : Beyond → Further) where
  mutual
    form_too : (ty : Ty) (v : Plain) → HasForm Few Beyond ty v → HasForm More Further ty v
    form_too (number k) v formed = formed
    form_too (array ty) v formed = (formed.0, formed.1, all_too (HasForm Few Beyond ty) (HasForm More Further ty) (form_too ty) formed.0 formed.2, more ty (length formed.0) formed.3)
    form_too (struct name tys) v formed = (formed.0, formed.1, forms_too tys formed.0 formed.2)
    form_too (enum name tys) v formed = (formed.0, formed.1, formed.2, variant_too tys formed.0 formed.1 formed.3)
    form_too (nonzero k) v formed = formed
    form_too range_check v formed = formed
    form_too gas_builtin v formed = formed
    form_too (box ty) v formed = formed
    form_too (snapshot ty) v formed = formed
    form_too (dict k) v formed = formed
    form_too (dict_entry k) v formed = formed
    form_too (squashed_dict k) v formed = formed
    form_too (uninitialized ty) v formed = formed

    forms_too : (tys : Tys) (vs : List Plain) → HaveForms Few Beyond tys vs → HaveForms More Further tys vs
    forms_too no_types vs formed = formed
    forms_too (types ty tys) vs formed = (formed.0, formed.1, formed.2, form_too ty formed.0 formed.3, forms_too tys formed.1 formed.4)

    variant_too : (tys : Tys) (index : ℕ) (v : Plain) → HasVariantForm Few Beyond tys index v → HasVariantForm More Further tys index v
    variant_too no_types index v formed = further formed
    variant_too (types ty tys) zero v formed = form_too ty v formed
    variant_too (types ty tys) (suc index) v formed = variant_too tys index v formed

  lines_too : (tys : List Ty) (vs : List Plain) → AllFormed Few Beyond tys vs → AllFormed More Further tys vs
  lines_too [] vs formed = formed
  lines_too (ty ∷ tys) vs formed = (formed.0, formed.1, formed.2, form_too ty formed.0 formed.3, lines_too tys formed.1 formed.4)

pub any_form : (tys : List Ty) (front : List ℕ) → Continues (IsFormOf any_length ⊥ tys) front → Continues (IsAnyFormOf tys) front
any_form tys front goes = (goes.0, goes.1, (lines_too any_length any_length ⊥ (Unit {0}) (λ ty n few. few) (λ never. absurd never) tys goes.0.args goes.2.0, goes.2.1))

pub given_any : (ty : Ty) (v : Plain) → IsGiven most_elements ty v → HasForm any_length (Unit {0}) ty v
given_any ty v given = form_too few_elements any_length ⊥ (Unit {0}) (λ other n few. tt) (λ never. absurd never) ty v (given_formed ty v given)

-- ---- with arrays of any length, and each index with a variant

pub few_any : (ty : Ty) (v : Plain) → HasForm few_elements ⊥ ty v → HasForm any_length ⊥ ty v
few_any ty v formed = form_too few_elements any_length ⊥ ⊥ (λ other n few. tt) (λ never. never) ty v formed

pub given_few : (ty : Ty) (v : Plain) → IsGiven most_elements ty v → HasForm few_elements ⊥ ty v
given_few ty v given = given_formed ty v given

pub given_length : (ty : Ty) (v : Plain) → IsGiven most_elements ty v → HasForm any_length ⊥ ty v
given_length ty v given = few_any ty v (given_formed ty v given)

pub members_length : (tys : Tys) (vs : List Plain) → AreGiven most_elements tys vs → HaveForms any_length ⊥ tys vs
members_length tys vs given = forms_too few_elements any_length ⊥ ⊥ (λ other n few. tt) (λ never. never) tys vs (members_formed tys vs given)

pub lines_length : (tys : List Ty) (vs : List Plain) → AllGiven most_elements tys vs → AllFormed any_length ⊥ tys vs
lines_length tys vs given = lines_too few_elements any_length ⊥ ⊥ (λ other n few. tt) (λ never. never) tys vs (lines_formed tys vs given)

pub members_few : (tys : Tys) (vs : List Plain) → AreGiven most_elements tys vs → HaveForms few_elements ⊥ tys vs
members_few tys vs given = members_formed tys vs given

pub variant_few : (tys : Tys) (index : ℕ) (v : Plain) → IsGivenVariant most_elements tys index v → HasVariantForm few_elements ⊥ tys index v
variant_few tys index v given = variant_formed tys index v given

pub lines_few : (tys : List Ty) (vs : List Plain) → AllGiven most_elements tys vs → AllFormed few_elements ⊥ tys vs
lines_few tys vs given = lines_formed tys vs given
