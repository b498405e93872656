-- The text of a value of a type is read as that value, where no digit follows.
use Rattle.std.proofs.Common.{◌≡◌, ℕ, zero, suc, ◌≤◌, ◌<◌, ◌⊎◌, inl, inr, ◌++◌, List, [], ◌∷◌, length, Bool, true, false, cond, Option, Some, None, Result, Ok, Err, refl, sym, ap, ◌∙◌, subst, arith}
use Rattle.std.specs.Char.{IsAsciiDigit}
use Rattle.std.specs.List.{AllByRecursion}
use Rattle.byte_reading.specs.Decimal.{decimal_text, StartsWithNoDigit, StartsWithNumber}
use Rattle.text_reading.specs.Reading.{Answer, Answer.answers, Reader, done, go_on, ◌>>=◌, begins, branch}
use Rattle.type_trees.specs.Ty.{Ty, Tys, number, nonzero, range_check, gas_builtin, box, array, snapshot, struct, enum, dict, dict_entry, squashed_dict, uninitialized, no_types, types}
use Rattle.type_trees.specs.declared.num.Num.{Num}
use Rattle.value_trees.specs.Of.{bound}
use Rattle.value_trees.specs.Val.{Plain, Vals, WordMap, OpenMap, no_values, values, vals_of}
use Rattle.value_trees.specs.Val as val
use Rattle.typed_values.specs.Inputs.{IsGiven, AreGiven, IsGivenVariant}
use Rattle.typed_values.specs.Listing.{next_text, left_text}
use Rattle.typed_values.specs.Marks.{ValueReader, byte_at, number_at, comma_at, separator_at, space_at, goes_on_at, none_at, count}
use Rattle.typed_values.specs.Reading.{behind_at, element_at, elements_at, array_at, told, whole_array_at, member_at, value_at, members_at, variant_at}
use Rattle.typed_values.specs.Skimming.{skim_array, skim_at}
use Rattle.typed_values.specs.Texts.{value_text, values_text}
use Rattle.typed_values.specs.declared.fault.ValueLimit.{ValueLimit}
use Rattle.typed_values.proofs.Leading.{number_complete, no_number_here}
use Rattle.typed_values.proofs.ReadBoth.{both, after, byte_complete, then_byte, byte_sound, byte_then, begins_self, begins_is}
use Rattle.typed_values.proofs.TextForms.{spaced, mark, struct_text, array_text, enum_text, member_text, element_text, left_follow}

-- the text of each value with this property is read as the value
abbrev pub IsComplete : (Plain → Type 0) → ValueReader Plain → Type 0
IsComplete P reader = (v : Plain) (rest : List ℕ) → P v → StartsWithNoDigit rest → reader (value_text v ++ rest) ≡ answers (Ok v) rest

-- no value begins with the end of an array
abbrev pub NeverCloses : ValueReader Plain → Type 0
NeverCloses reader = (more rest : List ℕ) (v : Plain) → reader (93 ∷ more) ≡ answers (Ok v) rest → ⊥

pub no_digit_below : (b : ℕ) (rest : List ℕ) → b < 48 → StartsWithNoDigit (b ∷ rest)
no_digit_below b rest small = λ is. let from : 48 ≤ b = is.0 in omega arith

pub no_digit_above : (b : ℕ) (rest : List ℕ) → 57 < b → StartsWithNoDigit (b ∷ rest)
no_digit_above b rest great = λ is. let to : b ≤ 57 = is.1 in omega arith

pub goes_on_complete : (g : Bool) (rest : List ℕ) → goes_on_at (mark g ∷ rest) ≡ answers (Ok g) rest
unfolding goes_on_at
goes_on_complete true rest = then_byte 44 (done true) rest
goes_on_complete false rest = then_byte 93 (done false) rest

pub space_complete : (is_first : Bool) (rest : List ℕ) → space_at is_first (spaced is_first ++ rest) ≡ answers (Ok tt) rest
unfolding space_at
space_complete true rest = refl
space_complete false rest = byte_complete 32 rest

pub mark_follow : (g : Bool) (rest : List ℕ) → StartsWithNoDigit (mark g ∷ rest)
mark_follow true rest = no_digit_below 44 rest (omega arith)
mark_follow false rest = no_digit_above 93 rest (omega arith)

module _ (item : ValueReader Plain) (P : Plain → Type 0) (complete : IsComplete P item) (opens : NeverCloses item) where
  element_complete : (is_first g : Bool) (v : Plain) (rest : List ℕ) → P v
      → element_at item is_first (spaced is_first ++ (value_text v ++ (mark g ∷ rest))) ≡ answers (Ok (v, g)) rest
  unfolding element_at
  element_complete is_first g v rest given =
      after (space_at is_first) (λ _. item >>= λ w. goes_on_at >>= λ goes_on. done (w, goes_on)) (spaced is_first ++ (value_text v ++ (mark g ∷ rest)))
      (value_text v ++ (mark g ∷ rest)) tt (space_complete is_first (value_text v ++ (mark g ∷ rest)))
      ∙ after item (λ w. goes_on_at >>= λ goes_on. done (w, goes_on)) (value_text v ++ (mark g ∷ rest)) (mark g ∷ rest) v
      (complete v (mark g ∷ rest) given (mark_follow g rest))
      ∙ after goes_on_at (λ goes_on. done (v, goes_on)) (mark g ∷ rest) rest g (goes_on_complete g rest)

  pub elements_complete : (start : List ℕ) (room : ℕ) (is_first : Bool) (v : Plain) (vs : List Plain) (rest : List ℕ) → suc (length vs) ≤ room → P v → AllByRecursion P vs
      → elements_at item start room is_first (spaced is_first ++ (values_text (vals_of (v ∷ vs)) ++ (93 ∷ rest))) ≡ answers (Ok (vals_of (v ∷ vs))) rest
  unfolding elements_at
  elements_complete start zero is_first v vs rest few given all = absurd (omega arith)
  elements_complete start (suc room) is_first v [] rest few given all =
      after (element_at item is_first) (behind_at (elements_at item start room false)) (spaced is_first ++ (value_text v ++ (93 ∷ rest))) rest (v, false)
      (element_complete is_first false v rest given)
  elements_complete start (suc room) is_first v (w ∷ vs) rest few given all =
      let others = elements_complete start room false w vs rest (omega arith) all.0 all.1 in
      ap (λ t. elements_at item start (suc room) is_first (spaced is_first ++ t)) (element_text v w vs (93 ∷ rest))
      ∙ after (element_at item is_first) (behind_at (elements_at item start room false))
      (spaced is_first ++ (value_text v ++ (44 ∷ (32 ∷ (values_text (vals_of (w ∷ vs)) ++ (93 ∷ rest))))))
      (32 ∷ (values_text (vals_of (w ∷ vs)) ++ (93 ∷ rest))) (v, true)
      (element_complete is_first true v (32 ∷ (values_text (vals_of (w ∷ vs)) ++ (93 ∷ rest))) given)
      ∙ after (elements_at item start room false) (λ us. done (values v us)) (32 ∷ (values_text (vals_of (w ∷ vs)) ++ (93 ∷ rest))) rest (vals_of (w ∷ vs)) others

  abbrev closed : ValueReader Plain
  closed = byte_at 93 >>= λ _. done (val.array no_values)

  abbrev others_of : ℕ → List ℕ → ValueReader Plain
  others_of most start = elements_at item start most true >>= λ vs. done (val.array vs)

  -- where an element stands, the array isn't at its end
  not_closed : (v : Plain) (vs : List Plain) (rest : List ℕ) → P v → begins 93 (values_text (vals_of (v ∷ vs)) ++ (93 ∷ rest)) ≡ false
  not_closed v vs rest given = go (begins 93 (values_text (vals_of (v ∷ vs)) ++ (93 ∷ rest))) refl
    where
      tail : (vs : List Plain) → (more : List ℕ) × StartsWithNoDigit more × (values_text (vals_of (v ∷ vs)) ++ (93 ∷ rest) ≡ value_text v ++ more)
      tail [] = (93 ∷ rest, no_digit_above 93 rest (omega arith), refl)
      tail (w ∷ vs) = (44 ∷ (32 ∷ (values_text (vals_of (w ∷ vs)) ++ (93 ∷ rest))), no_digit_below 44 (32 ∷ (values_text (vals_of (w ∷ vs)) ++ (93 ∷ rest))) (omega arith), element_text v w vs (93 ∷ rest))

      go : (t : Bool) → begins 93 (values_text (vals_of (v ∷ vs)) ++ (93 ∷ rest)) ≡ t → t ≡ false
      go false is = refl
      go true is =
          let front = begins_is 93 (values_text (vals_of (v ∷ vs)) ++ (93 ∷ rest)) is in
          let more = tail vs in
          let read : item (93 ∷ front.0) ≡ answers (Ok v) more.0 = ap item (sym front.1 ∙ more.2) ∙ complete v more.0 given more.1 in
          absurd (opens front.0 more.0 v read)

  -- an array of so many elements at most
  abbrev Array : ℕ → Plain → Type 0
  Array most v = (vs : List Plain) × (v ≡ val.array (vals_of vs)) × AllByRecursion P vs × (length vs ≤ most)

  opened : (most : ℕ) (vs : List Plain) (rest : List ℕ) → array_at item most (value_text (val.array (vals_of vs)) ++ rest)
      ≡ branch 93 closed (others_of most (91 ∷ (values_text (vals_of vs) ++ (93 ∷ rest)))) (values_text (vals_of vs) ++ (93 ∷ rest))
  unfolding array_at
  opened most vs rest =
      ap (array_at item most) (array_text (vals_of vs) rest)
      ∙ then_byte 91 (branch 93 closed (others_of most (91 ∷ (values_text (vals_of vs) ++ (93 ∷ rest))))) (values_text (vals_of vs) ++ (93 ∷ rest))

  array_read : (most : ℕ) (vs : List Plain) (rest : List ℕ) → AllByRecursion P vs → length vs ≤ most
      → array_at item most (value_text (val.array (vals_of vs)) ++ rest) ≡ answers (Ok (val.array (vals_of vs))) rest
  array_read most [] rest all few = opened most [] rest ∙ then_byte 93 (done (val.array no_values)) rest
  array_read most (v ∷ vs) rest all few =
      opened most (v ∷ vs) rest
      ∙ ap (λ t. cond t (closed (values_text (vals_of (v ∷ vs)) ++ (93 ∷ rest)))
      (others_of most (91 ∷ (values_text (vals_of (v ∷ vs)) ++ (93 ∷ rest))) (values_text (vals_of (v ∷ vs)) ++ (93 ∷ rest))))
      (not_closed v vs rest all.0)
      ∙ after (elements_at item (91 ∷ (values_text (vals_of (v ∷ vs)) ++ (93 ∷ rest))) most true) (λ us. done (val.array us))
      (values_text (vals_of (v ∷ vs)) ++ (93 ∷ rest)) rest (vals_of (v ∷ vs))
      (elements_complete (91 ∷ (values_text (vals_of (v ∷ vs)) ++ (93 ∷ rest))) most true v vs rest few all.0 all.1)

  pub array_complete : (most : ℕ) → IsComplete (Array most) (array_at item most)
  array_complete most v rest given free =
      ap (λ w. array_at item most (value_text w ++ rest)) given.1
      ∙ array_read most given.0 rest given.2 given.3
      ∙ ap (λ w. answers (Ok w) rest) (sym given.1)

  pub whole_array_complete : (form : ValueReader (Unit {0})) (most : ℕ) → IsComplete (Array most) (whole_array_at item form most)
  unfolding whole_array_at
  whole_array_complete form most v rest given free = ap (λ a. told a (skim_array form most (value_text v ++ rest))) (array_complete most v rest given free)

pub member_complete : (item : ValueReader Plain) (P : Plain → Type 0) → IsComplete P item → (is_first : Bool) (v : Plain) (rest : List ℕ) → P v → StartsWithNoDigit rest
    → member_at is_first item (next_text is_first v ++ rest) ≡ answers (Ok v) rest
unfolding member_at separator_at
member_complete item P complete true v rest given free = complete v rest given free
member_complete item P complete false v rest given free =
    after comma_at (λ _. item) (44 ∷ (32 ∷ (value_text v ++ rest))) (value_text v ++ rest) tt
    (then_byte 44 (byte_at 32) (32 ∷ (value_text v ++ rest)) ∙ byte_complete 32 (value_text v ++ rest))
    ∙ complete v rest given free

-- ---- by type

pub starts : (n : ℕ) (rest : List ℕ) → StartsWithNoDigit rest → StartsWithNumber (decimal_text n ++ rest) n rest
starts n rest free = record { text_is = refl; longest = inr free }

pub left_nil : (is_first : Bool) (rest : List ℕ) → left_text is_first [] ++ rest ≡ rest
left_nil true rest = refl
left_nil false rest = refl

-- there is a variant with the index
index_below : (most : Ty → ℕ) (tys : Tys) (index : ℕ) (v : Plain) → IsGivenVariant most tys index v → index < count tys
index_below most no_types index v given = absurd given
index_below most (types ty tys) zero v given = omega arith
index_below most (types ty tys) (suc index) v given = let less = index_below most tys index v given in omega arith

-- no value begins with the end of an array
pub never_closes : (most : Ty → ℕ) (ty : Ty) → NeverCloses (value_at most ty)
unfolding value_at whole_array_at array_at byte_at
never_closes most (number k) more rest v is =
    let found = both (number_at (bound k)) (λ n. done (val.number k n)) (93 ∷ more) rest v is in
    no_number_here (bound k) found.0 (93 ∷ more) found.1 (no_digit_above 93 more (omega arith)) found.2
never_closes most (array ty) more rest v is = cc
never_closes most (struct name tys) more rest v is = cc
never_closes most (enum name tys) more rest v is =
    let found = both (number_at (count tys)) (λ index. byte_at 58 >>= λ _. variant_at most tys index >>= λ w. done (val.enum index w)) (93 ∷ more) rest v is in
    no_number_here (count tys) found.0 (93 ∷ more) found.1 (no_digit_above 93 more (omega arith)) found.2
never_closes most (nonzero k) more rest v is = cc
never_closes most range_check more rest v is = cc
never_closes most gas_builtin more rest v is = cc
never_closes most (box ty) more rest v is = cc
never_closes most (snapshot ty) more rest v is = cc
never_closes most (dict k) more rest v is = cc
never_closes most (dict_entry k) more rest v is = cc
never_closes most (squashed_dict k) more rest v is = cc
never_closes most (uninitialized ty) more rest v is = cc

module _ (most : Ty → ℕ) where
  mutual
    unfolding value_at members_at variant_at

    pub value_complete : (ty : Ty) → IsComplete (IsGiven most ty) (value_at most ty)
    value_complete (number k) v rest given free =
        ap (λ w. value_at most (number k) (value_text w ++ rest)) given.1
        ∙ after (number_at (bound k)) (λ n. done (val.number k n)) (decimal_text given.0 ++ rest) rest given.0
        (number_complete (bound k) given.0 (decimal_text given.0 ++ rest) rest given.2 (starts given.0 rest free))
        ∙ ap (λ w. answers (Ok w) rest) (sym given.1)
    value_complete (array ty) v rest given free = whole_array_complete (value_at most ty) (IsGiven most ty) (value_complete ty) (never_closes most ty) (skim_at most ty) (most ty) v rest given free
    value_complete (struct name tys) v rest given free =
        ap (λ w. value_at most (struct name tys) (value_text w ++ rest)) given.1
        ∙ ap (value_at most (struct name tys)) (struct_text (vals_of given.0) rest)
        ∙ then_byte 40 (members_at most true tys >>= λ vs. byte_at 41 >>= λ _. done (val.struct vs)) (values_text (vals_of given.0) ++ (41 ∷ rest))
        ∙ after (members_at most true tys) (λ vs. byte_at 41 >>= λ _. done (val.struct vs)) (values_text (vals_of given.0) ++ (41 ∷ rest)) (41 ∷ rest) (vals_of given.0)
        (members_complete true tys given.0 (41 ∷ rest) given.2 (no_digit_below 41 rest (omega arith)))
        ∙ then_byte 41 (done (val.struct (vals_of given.0))) rest
        ∙ ap (λ w. answers (Ok w) rest) (sym given.1)
    value_complete (enum name tys) v rest given free =
        ap (λ w. value_at most (enum name tys) (value_text w ++ rest)) given.2
        ∙ ap (value_at most (enum name tys)) (enum_text given.0 given.1 rest)
        ∙ after (number_at (count tys)) (λ index. byte_at 58 >>= λ _. variant_at most tys index >>= λ w. done (val.enum index w))
        (decimal_text given.0 ++ (58 ∷ (value_text given.1 ++ rest))) (58 ∷ (value_text given.1 ++ rest)) given.0
        (number_complete (count tys) given.0 (decimal_text given.0 ++ (58 ∷ (value_text given.1 ++ rest))) (58 ∷ (value_text given.1 ++ rest))
        (index_below most tys given.0 given.1 given.3) (starts given.0 (58 ∷ (value_text given.1 ++ rest)) (no_digit_above 58 (value_text given.1 ++ rest) (omega arith))))
        ∙ then_byte 58 (variant_at most tys given.0 >>= λ w. done (val.enum given.0 w)) (value_text given.1 ++ rest)
        ∙ after (variant_at most tys given.0) (λ w. done (val.enum given.0 w)) (value_text given.1 ++ rest) rest given.1
        (variant_complete tys given.0 given.1 rest given.3 free)
        ∙ ap (λ w. answers (Ok w) rest) (sym given.2)
    value_complete (nonzero k) v rest given free = absurd given
    value_complete range_check v rest given free = absurd given
    value_complete gas_builtin v rest given free = absurd given
    value_complete (box ty) v rest given free = absurd given
    value_complete (snapshot ty) v rest given free = absurd given
    value_complete (dict k) v rest given free = absurd given
    value_complete (dict_entry k) v rest given free = absurd given
    value_complete (squashed_dict k) v rest given free = absurd given
    value_complete (uninitialized ty) v rest given free = absurd given

    pub members_complete : (is_first : Bool) (tys : Tys) (vs : List Plain) (rest : List ℕ) → AreGiven most tys vs → StartsWithNoDigit rest
        → members_at most is_first tys (left_text is_first vs ++ rest) ≡ answers (Ok (vals_of vs)) rest
    members_complete is_first no_types vs rest given free =
        ap (λ us. members_at most is_first no_types (left_text is_first us ++ rest)) given
        ∙ ap (members_at most is_first no_types) (left_nil is_first rest)
        ∙ ap (λ us. answers (Ok (vals_of us)) rest) (sym given)
    members_complete is_first (types ty tys) vs rest given free =
        ap (λ us. members_at most is_first (types ty tys) (left_text is_first us ++ rest)) given.2
        ∙ ap (members_at most is_first (types ty tys)) (member_text is_first given.0 given.1 rest)
        ∙ after (member_at is_first (value_at most ty)) (λ v. members_at most false tys >>= λ us. done (values v us))
        (next_text is_first given.0 ++ (left_text false given.1 ++ rest)) (left_text false given.1 ++ rest) given.0
        (member_complete (value_at most ty) (IsGiven most ty) (value_complete ty) is_first given.0 (left_text false given.1 ++ rest) given.3 (left_follow given.1 rest free))
        ∙ after (members_at most false tys) (λ us. done (values given.0 us)) (left_text false given.1 ++ rest) rest (vals_of given.1)
        (members_complete false tys given.1 rest given.4 free)
        ∙ ap (λ us. answers (Ok (vals_of us)) rest) (sym given.2)

    pub variant_complete : (tys : Tys) (index : ℕ) → IsComplete (IsGivenVariant most tys index) (variant_at most tys index)
    variant_complete no_types index v rest given free = absurd given
    variant_complete (types ty tys) zero v rest given free = value_complete ty v rest given free
    variant_complete (types ty tys) (suc index) v rest given free = variant_complete tys index v rest given free
