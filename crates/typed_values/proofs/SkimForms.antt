-- The form of a value whose type holds no array is taken of a text if and only if a value of the form stands there.
use Rattle.std.proofs.Common.{◌≡◌, ℕ, zero, suc, ◌<◌, ◌++◌, inl, inr, List, [], ◌∷◌, Bool, true, false, None, Ok, Err, refl, sym, ap, ◌∙◌, arith}
use Rattle.byte_reading.specs.Decimal.{decimal_text, StartsWithNoDigit}
use Rattle.text_reading.specs.Reading.{Answer.answers, ◌>>=◌}
use Rattle.type_trees.specs.Ty.{Ty, Tys, number, nonzero, range_check, gas_builtin, box, array, snapshot, struct, enum, dict, dict_entry, squashed_dict, uninitialized, no_types, types, holds_array, any_holds_array}
use Rattle.value_trees.specs.Val.{Plain, vals_of}
use Rattle.value_trees.specs.Val as val
use Rattle.typed_values.specs.Faults.{HasForm, HaveForms, HasVariantForm}
use Rattle.typed_values.specs.Listing.{next_text, left_text}
use Rattle.typed_values.specs.Marks.{ValueReader, byte_at, number_at, comma_at, separator_at, count, leading}
use Rattle.typed_values.specs.Skimming.{taken, any_number_at, skim_member, skim_at, skim_members, skim_variant}
use Rattle.typed_values.specs.Texts.{value_text, values_text}
use Rattle.typed_values.proofs.Leading.{begins_number, number_sound, number_complete}
use Rattle.typed_values.proofs.NoArrays.{neither}
use Rattle.typed_values.proofs.Numbers.{leading_none, leading_number}
use Rattle.typed_values.proofs.ReadBoth.{both, after, byte_complete, then_byte, byte_sound, byte_then, done_is}
use Rattle.typed_values.proofs.TextForms.{struct_text, enum_text, member_text, left_follow}
use Rattle.typed_values.proofs.ValuesComplete.{no_digit_above, no_digit_below, starts, left_nil}

abbrev Skimmed : ValueReader (Unit {0}) → List ℕ → List ℕ → Type 0
Skimmed reader bytes rest = reader bytes ≡ answers (Ok tt) rest

any_number_complete : (n : ℕ) (rest : List ℕ) → StartsWithNoDigit rest → Skimmed any_number_at (decimal_text n ++ rest) rest
unfolding any_number_at
any_number_complete n rest free = ap (λ o. taken o (decimal_text n ++ rest)) (leading_number (decimal_text n ++ rest) n rest (starts n rest free))

any_number_sound : (bytes rest : List ℕ) → Skimmed any_number_at bytes rest → (n : ℕ) × (bytes ≡ decimal_text n ++ rest)
unfolding any_number_at
any_number_sound bytes rest is = elim (begins_number bytes) [
  | inl free ↦
      let here : taken (leading bytes) bytes ≡ answers (Err None) bytes = ap (λ o. taken o bytes) (leading_none bytes free) in
      let never : ⊥ = cc in absurd never
  | inr found ↦
      let here : taken (leading bytes) bytes ≡ answers (Ok tt) found.1 = ap (λ o. taken o bytes) (leading_number bytes found.0 found.1 found.2) in
      let left : found.1 ≡ rest = cc in
      (found.0, found.2.text_is ∙ ap (λ (t : List ℕ). decimal_text found.0 ++ t) left)
]

-- the text of each value with this property is taken, and what is taken is the text of one
abbrev pub SkimComplete : (Plain → Type 0) → ValueReader (Unit {0}) → Type 0
SkimComplete P reader = (v : Plain) (rest : List ℕ) → P v → StartsWithNoDigit rest → Skimmed reader (value_text v ++ rest) rest

abbrev pub SkimSound : (Plain → Type 0) → ValueReader (Unit {0}) → Type 0
SkimSound P reader = (bytes rest : List ℕ) → Skimmed reader bytes rest → (v : Plain) × P v × (bytes ≡ value_text v ++ rest)

skim_member_complete : (item : ValueReader (Unit {0})) (P : Plain → Type 0) → SkimComplete P item → (is_first : Bool) (v : Plain) (rest : List ℕ) → P v → StartsWithNoDigit rest
    → Skimmed (skim_member is_first item) (next_text is_first v ++ rest) rest
unfolding skim_member separator_at
skim_member_complete item P complete true v rest given free = complete v rest given free
skim_member_complete item P complete false v rest given free =
    after comma_at (λ _. item) (44 ∷ (32 ∷ (value_text v ++ rest))) (value_text v ++ rest) tt
    (then_byte 44 (byte_at 32) (32 ∷ (value_text v ++ rest)) ∙ byte_complete 32 (value_text v ++ rest))
    ∙ complete v rest given free

skim_member_sound : (item : ValueReader (Unit {0})) (P : Plain → Type 0) → SkimSound P item → (is_first : Bool) (bytes rest : List ℕ) → Skimmed (skim_member is_first item) bytes rest
    → (v : Plain) × P v × (bytes ≡ next_text is_first v ++ rest)
unfolding skim_member separator_at
skim_member_sound item P sound true bytes rest is = sound bytes rest is
skim_member_sound item P sound false bytes rest is =
    let outer = both comma_at (λ _. item) bytes rest tt is in
    let comma = byte_then 44 (byte_at 32) bytes outer.1 outer.0 outer.2 in
    let space = byte_sound 32 comma.0 outer.1 outer.0 comma.2 in
    let found = sound outer.1 rest outer.3 in
    (found.0, found.1, comma.1 ∙ ap (λ (t : List ℕ). 44 ∷ t) space ∙ ap (λ (t : List ℕ). 44 ∷ (32 ∷ t)) found.2)

module _ (Few : Ty → ℕ → Type 0) (most : Ty → ℕ) where
  pub index_below : (tys : Tys) (index : ℕ) (v : Plain) → HasVariantForm Few ⊥ tys index v → index < count tys
  index_below no_types index v form = absurd form
  index_below (types ty tys) zero v form = omega arith
  index_below (types ty tys) (suc index) v form = let less = index_below tys index v form in omega arith

  mutual
    unfolding skim_at skim_members skim_variant

    pub skim_complete : (ty : Ty) → holds_array ty ≡ false → SkimComplete (HasForm Few ⊥ ty) (skim_at most ty)
    skim_complete (number k) flat v rest form free = ap (λ w. any_number_at (value_text w ++ rest)) form.1 ∙ any_number_complete form.0 rest free
    skim_complete (array ty) flat v rest form free = absurd cc
    skim_complete (struct name tys) flat v rest form free =
        ap (λ w. skim_at most (struct name tys) (value_text w ++ rest)) form.1
        ∙ ap (skim_at most (struct name tys)) (struct_text (vals_of form.0) rest)
        ∙ then_byte 40 (skim_members most true tys >>= λ _. byte_at 41) (values_text (vals_of form.0) ++ (41 ∷ rest))
        ∙ after (skim_members most true tys) (λ _. byte_at 41) (values_text (vals_of form.0) ++ (41 ∷ rest)) (41 ∷ rest) tt
        (skim_members_complete true tys flat form.0 (41 ∷ rest) form.2 (no_digit_below 41 rest (omega arith)))
        ∙ byte_complete 41 rest
    skim_complete (enum name tys) flat v rest form free =
        ap (λ w. skim_at most (enum name tys) (value_text w ++ rest)) form.2
        ∙ ap (skim_at most (enum name tys)) (enum_text form.0 form.1 rest)
        ∙ after (number_at (count tys)) (λ index. byte_at 58 >>= λ _. skim_variant most tys index)
        (decimal_text form.0 ++ (58 ∷ (value_text form.1 ++ rest))) (58 ∷ (value_text form.1 ++ rest)) form.0
        (number_complete (count tys) form.0 (decimal_text form.0 ++ (58 ∷ (value_text form.1 ++ rest))) (58 ∷ (value_text form.1 ++ rest))
        (index_below tys form.0 form.1 form.3) (starts form.0 (58 ∷ (value_text form.1 ++ rest)) (no_digit_above 58 (value_text form.1 ++ rest) (omega arith))))
        ∙ then_byte 58 (skim_variant most tys form.0) (value_text form.1 ++ rest)
        ∙ skim_variant_complete tys flat form.0 form.1 rest form.3 free
    skim_complete (nonzero k) flat v rest form free = absurd form
    skim_complete range_check flat v rest form free = absurd form
    skim_complete gas_builtin flat v rest form free = absurd form
    skim_complete (box ty) flat v rest form free = absurd form
    skim_complete (snapshot ty) flat v rest form free = absurd form
    skim_complete (dict k) flat v rest form free = absurd form
    skim_complete (dict_entry k) flat v rest form free = absurd form
    skim_complete (squashed_dict k) flat v rest form free = absurd form
    skim_complete (uninitialized ty) flat v rest form free = absurd form

    skim_members_complete : (is_first : Bool) (tys : Tys) → any_holds_array tys ≡ false → (vs : List Plain) (rest : List ℕ) → HaveForms Few ⊥ tys vs → StartsWithNoDigit rest
        → Skimmed (skim_members most is_first tys) (left_text is_first vs ++ rest) rest
    skim_members_complete is_first no_types flat vs rest form free =
        ap (λ us. skim_members most is_first no_types (left_text is_first us ++ rest)) form ∙ ap (skim_members most is_first no_types) (left_nil is_first rest)
    skim_members_complete is_first (types ty tys) flat vs rest form free =
        ap (λ us. skim_members most is_first (types ty tys) (left_text is_first us ++ rest)) form.2
        ∙ ap (skim_members most is_first (types ty tys)) (member_text is_first form.0 form.1 rest)
        ∙ after (skim_member is_first (skim_at most ty)) (λ _. skim_members most false tys)
        (next_text is_first form.0 ++ (left_text false form.1 ++ rest)) (left_text false form.1 ++ rest) tt
        (skim_member_complete (skim_at most ty) (HasForm Few ⊥ ty) (skim_complete ty (neither (holds_array ty) (any_holds_array tys) flat).0) is_first form.0 (left_text false form.1 ++ rest) form.3
        (left_follow form.1 rest free))
        ∙ skim_members_complete false tys (neither (holds_array ty) (any_holds_array tys) flat).1 form.1 rest form.4 free

    skim_variant_complete : (tys : Tys) → any_holds_array tys ≡ false → (index : ℕ) → SkimComplete (HasVariantForm Few ⊥ tys index) (skim_variant most tys index)
    skim_variant_complete no_types flat index v rest form free = absurd form
    skim_variant_complete (types ty tys) flat zero v rest form free = skim_complete ty (neither (holds_array ty) (any_holds_array tys) flat).0 v rest form free
    skim_variant_complete (types ty tys) flat (suc index) v rest form free = skim_variant_complete tys (neither (holds_array ty) (any_holds_array tys) flat).1 index v rest form free

  mutual
    unfolding skim_at skim_members skim_variant

    pub skim_sound : (ty : Ty) → holds_array ty ≡ false → SkimSound (HasForm Few ⊥ ty) (skim_at most ty)
    skim_sound (number k) flat bytes rest is = let found = any_number_sound bytes rest is in (val.number k found.0, (found.0, refl), found.1)
    skim_sound (array ty) flat bytes rest is = absurd cc
    skim_sound (struct name tys) flat bytes rest is =
        let opened = byte_then 40 (skim_members most true tys >>= λ _. byte_at 41) bytes rest tt is in
        let inner = both (skim_members most true tys) (λ _. byte_at 41) opened.0 rest tt opened.2 in
        let members = skim_members_sound true tys flat opened.0 inner.1 inner.2 in
        let closed = byte_sound 41 inner.1 rest tt inner.3 in (
          val.struct (vals_of members.0),
          (members.0, refl, members.1),
          opened.1 ∙ ap (λ (t : List ℕ). 40 ∷ t) (members.2 ∙ ap (λ (t : List ℕ). values_text (vals_of members.0) ++ t) closed) ∙ sym (struct_text (vals_of members.0) rest),
        )
    skim_sound (enum name tys) flat bytes rest is =
        let index = both (number_at (count tys)) (λ index. byte_at 58 >>= λ _. skim_variant most tys index) bytes rest tt is in
        let number_is = number_sound (count tys) index.0 bytes index.1 index.2 in
        let colon = byte_then 58 (skim_variant most tys index.0) index.1 rest tt index.3 in
        let payload = skim_variant_sound tys flat index.0 colon.0 rest colon.2 in (
          val.enum index.0 payload.0,
          (index.0, payload.0, refl, payload.1),
          number_is.1.text_is ∙ ap (λ (t : List ℕ). decimal_text index.0 ++ t) (colon.1 ∙ ap (λ (t : List ℕ). 58 ∷ t) payload.2) ∙ sym (enum_text index.0 payload.0 rest),
        )
    skim_sound (nonzero k) flat bytes rest is = let never : ⊥ = cc in absurd never
    skim_sound range_check flat bytes rest is = let never : ⊥ = cc in absurd never
    skim_sound gas_builtin flat bytes rest is = let never : ⊥ = cc in absurd never
    skim_sound (box ty) flat bytes rest is = let never : ⊥ = cc in absurd never
    skim_sound (snapshot ty) flat bytes rest is = let never : ⊥ = cc in absurd never
    skim_sound (dict k) flat bytes rest is = let never : ⊥ = cc in absurd never
    skim_sound (dict_entry k) flat bytes rest is = let never : ⊥ = cc in absurd never
    skim_sound (squashed_dict k) flat bytes rest is = let never : ⊥ = cc in absurd never
    skim_sound (uninitialized ty) flat bytes rest is = let never : ⊥ = cc in absurd never

    skim_members_sound : (is_first : Bool) (tys : Tys) → any_holds_array tys ≡ false → (bytes rest : List ℕ) → Skimmed (skim_members most is_first tys) bytes rest
        → (vs : List Plain) × HaveForms Few ⊥ tys vs × (bytes ≡ left_text is_first vs ++ rest)
    skim_members_sound is_first no_types flat bytes rest is = ([], refl, (done_is tt tt bytes rest is).1 ∙ sym (left_nil is_first rest))
    skim_members_sound is_first (types ty tys) flat bytes rest is =
        let one = both (skim_member is_first (skim_at most ty)) (λ _. skim_members most false tys) bytes rest tt is in
        let given = skim_member_sound (skim_at most ty) (HasForm Few ⊥ ty) (skim_sound ty (neither (holds_array ty) (any_holds_array tys) flat).0) is_first bytes one.1 one.2 in
        let more = skim_members_sound false tys (neither (holds_array ty) (any_holds_array tys) flat).1 one.1 rest one.3 in (
          given.0 ∷ more.0,
          (given.0, more.0, refl, given.1, more.1),
          given.2 ∙ ap (λ (t : List ℕ). next_text is_first given.0 ++ t) more.2 ∙ sym (member_text is_first given.0 more.0 rest),
        )

    skim_variant_sound : (tys : Tys) → any_holds_array tys ≡ false → (index : ℕ) → SkimSound (HasVariantForm Few ⊥ tys index) (skim_variant most tys index)
    skim_variant_sound no_types flat index bytes rest is = let never : ⊥ = cc in absurd never
    skim_variant_sound (types ty tys) flat zero bytes rest is = skim_sound ty (neither (holds_array ty) (any_holds_array tys) flat).0 bytes rest is
    skim_variant_sound (types ty tys) flat (suc index) bytes rest is = skim_variant_sound tys (neither (holds_array ty) (any_holds_array tys) flat).1 index bytes rest is
