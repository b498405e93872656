-- What a reader of values takes is the text of the value that it gives, and the value is of its type.
use Rattle.std.proofs.Common.{◌≡◌, ℕ, zero, suc, ◌≤◌, ◌<◌, ◌++◌, List, [], ◌∷◌, length, Bool, true, false, cond, Option, Some, None, Result, Ok, Err, refl, sym, ap, ◌∙◌, subst, arith}
use Rattle.std.specs.List.{AllByRecursion}
use Rattle.byte_reading.specs.Decimal.{decimal_text, StartsWithNumber}
use Rattle.text_reading.specs.Reading.{Answer, Answer.answers, Reader, done, go_on, ◌>>=◌, begins, branch}
use Rattle.type_trees.specs.Ty.{Ty, Tys, number, nonzero, range_check, gas_builtin, box, array, snapshot, struct, enum, dict, dict_entry, squashed_dict, uninitialized, no_types, types}
use Rattle.type_trees.specs.declared.num.Num.{Num}
use Rattle.value_trees.specs.Of.{bound}
use Rattle.value_trees.specs.Val.{Plain, Vals, WordMap, OpenMap, no_values, values, vals_of}
use Rattle.value_trees.specs.Val as val
use Rattle.typed_values.specs.Inputs.{IsGiven, AreGiven, IsGivenVariant}
use Rattle.typed_values.specs.Listing.{next_text, left_text}
use Rattle.typed_values.specs.Marks.{ValueReader, byte_at, number_at, comma_at, separator_at, space_at, goes_on_at, none_at, count}
use Rattle.typed_values.specs.Reading.{behind_at, element_at, elements_at, array_at, told, whole_array_at, member_at, value_at, members_at, variant_at}
use Rattle.typed_values.specs.Skimming.{skim_array, skim_at}
use Rattle.typed_values.specs.Texts.{value_text, values_text}
use Rattle.typed_values.specs.declared.fault.ValueLimit.{ValueLimit}
use Rattle.typed_values.specs.declared.fault.ValueLimit.TheVariants as limits
use Rattle.typed_values.proofs.Leading.{number_sound}
use Rattle.typed_values.proofs.ReadBoth.{both, done_is, byte_sound, byte_then}
use Rattle.typed_values.proofs.TextForms.{spaced, mark, struct_text, array_text, enum_text, member_text, element_text}

-- every value that the reader gives has this property, and its text was taken
abbrev pub IsSound : (Plain → Type 0) → ValueReader Plain → Type 0
IsSound P reader = (bytes rest : List ℕ) (v : Plain) → reader bytes ≡ answers (Ok v) rest → P v × (bytes ≡ value_text v ++ rest)

pub goes_on_sound : (bytes rest : List ℕ) (g : Bool) → goes_on_at bytes ≡ answers (Ok g) rest → bytes ≡ mark g ∷ rest
unfolding goes_on_at
goes_on_sound bytes rest g is = go (begins 93 bytes) is
  where
    ended : (x : Bool) (byte : ℕ) (between : List ℕ) → mark x ≡ byte → bytes ≡ byte ∷ between → done {K = ValueLimit} x between ≡ answers (Ok g) rest → bytes ≡ mark g ∷ rest
    ended x byte between mark_is text is =
        let end = done_is x g between rest is in
        text ∙ ap (λ b. b ∷ between) (sym mark_is) ∙ ap (λ y. mark y ∷ between) end.0 ∙ ap (λ t. mark g ∷ t) end.1

    go : (t : Bool) → cond t ((byte_at 93 >>= λ _. done false) bytes) ((byte_at 44 >>= λ _. done true) bytes) ≡ answers (Ok g) rest → bytes ≡ mark g ∷ rest
    go true is = let found = byte_then 93 (done false) bytes rest g is in ended false 93 found.0 refl found.1 found.2
    go false is = let found = byte_then 44 (done true) bytes rest g is in ended true 44 found.0 refl found.1 found.2

pub space_sound : (is_first : Bool) (bytes rest : List ℕ) (unit : Unit {0}) → space_at is_first bytes ≡ answers (Ok unit) rest → bytes ≡ spaced is_first ++ rest
unfolding space_at
space_sound true bytes rest unit is = (done_is tt unit bytes rest is).1
space_sound false bytes rest unit is = byte_sound 32 bytes rest unit is

same_parts : (v : Plain) (g : Bool) (p : Plain × Bool) → ◌≡◌ {A = Plain × Bool} (v, g) p → (v ≡ p.0) × (g ≡ p.1)
same_parts v g p is = (ap (λ (q : Plain × Bool). q.0) is, ap (λ (q : Plain × Bool). q.1) is)

module _ (item : ValueReader Plain) (P : Plain → Type 0) (sound : IsSound P item) where
  pub element_sound : (is_first : Bool) (bytes rest : List ℕ) (p : Plain × Bool) → element_at item is_first bytes ≡ answers (Ok p) rest
      → P p.0 × (bytes ≡ spaced is_first ++ (value_text p.0 ++ (mark p.1 ∷ rest)))
  unfolding element_at
  element_sound is_first bytes rest p is =
      let space = both (space_at is_first) (λ _. item >>= λ v. goes_on_at >>= λ goes_on. done (v, goes_on)) bytes rest p is in
      let value = both item (λ v. goes_on_at >>= λ goes_on. done (v, goes_on)) space.1 rest p space.3 in
      let more = both goes_on_at (λ goes_on. done (value.0, goes_on)) value.1 rest p value.3 in
      let end = done_is (value.0, more.0) p more.1 rest more.3 in
      let given = sound space.1 value.1 value.0 value.2 in
      let same = same_parts value.0 more.0 p end.0 in (
        subst P same.0 given.0,
        put_together is_first bytes space.1 value.1 more.1 rest value.0 p.0 more.0 p.1 same.0 same.1 (space_sound is_first bytes space.1 space.0 space.2)
            given.1 (goes_on_sound value.1 more.1 more.0 more.2) end.1,
      )
    where
      put_together : (is_first : Bool) (bytes a b c rest : List ℕ) (v w : Plain) (g h : Bool) → v ≡ w → g ≡ h → bytes ≡ spaced is_first ++ a → a ≡ value_text v ++ b
          → b ≡ mark g ∷ c → c ≡ rest → bytes ≡ spaced is_first ++ (value_text w ++ (mark h ∷ rest))
      put_together is_first bytes a b c rest v w g h v_is g_is one two three four = cc

  -- the elements, of which there is one at least
  abbrev Elements : ℕ → Bool → List ℕ → List ℕ → Vals WordMap OpenMap → Type 0
  Elements room is_first bytes rest us =
      (v : Plain) × (vs : List Plain) × (us ≡ vals_of (v ∷ vs)) × AllByRecursion P (v ∷ vs) × (length (v ∷ vs) ≤ room)
      × (bytes ≡ spaced is_first ++ (values_text (vals_of (v ∷ vs)) ++ (93 ∷ rest)))

  elements_step : (start : List ℕ) (room : ℕ)
      → ((bytes rest : List ℕ) (us : Vals WordMap OpenMap) → elements_at item start room false bytes ≡ answers (Ok us) rest → Elements room false bytes rest us)
      → (is_first : Bool) (bytes rest : List ℕ) (us : Vals WordMap OpenMap)
      → elements_at item start (suc room) is_first bytes ≡ answers (Ok us) rest → Elements (suc room) is_first bytes rest us
  unfolding elements_at
  elements_step start room others_sound is_first bytes rest us is =
      let found = both (element_at item is_first) (behind_at (elements_at item start room false)) bytes rest us is in
      let one = element_sound is_first bytes found.1 found.0 found.2 in
      go found.0.0 found.0.1 found.1 one.0 one.1 found.3
    where
      text_more : (v w : Plain) (vs : List Plain) (between : List ℕ) → between ≡ 32 ∷ (values_text (vals_of (w ∷ vs)) ++ (93 ∷ rest))
          → bytes ≡ spaced is_first ++ (value_text v ++ (44 ∷ between)) → bytes ≡ spaced is_first ++ (values_text (vals_of (v ∷ w ∷ vs)) ++ (93 ∷ rest))
      text_more v w vs between between_is text =
          text ∙ ap (λ t. spaced is_first ++ (value_text v ++ (44 ∷ t))) between_is
          ∙ ap (λ t. spaced is_first ++ t) (sym (element_text v w vs (93 ∷ rest)))

      go : (v : Plain) (g : Bool) (between : List ℕ) → P v → bytes ≡ spaced is_first ++ (value_text v ++ (mark g ∷ between))
          → behind_at (elements_at item start room false) (v, g) between ≡ answers (Ok us) rest → Elements (suc room) is_first bytes rest us
      go v false between given text is =
          let us_is : values v no_values ≡ us = cc in
          let rest_is : between ≡ rest = cc in
          (v, [], sym us_is, (given, tt), omega arith, text ∙ ap (λ t. spaced is_first ++ (value_text v ++ (93 ∷ t))) rest_is)
      go v true between given text is =
          let others = both (elements_at item start room false) (λ vs. done (values v vs)) between rest us is in
          let more = others_sound between others.1 others.0 others.2 in
          let end = done_is (values v others.0) us others.1 rest others.3 in
          let us_is : us ≡ vals_of (v ∷ more.0 ∷ more.1) = sym end.0 ∙ ap (values v) more.2 in
          let between_is : between ≡ 32 ∷ (values_text (vals_of (more.0 ∷ more.1)) ++ (93 ∷ rest)) =
          more.5 ∙ ap (λ t. 32 ∷ (values_text (vals_of (more.0 ∷ more.1)) ++ (93 ∷ t))) end.1
          in
          (v, more.0 ∷ more.1, us_is, (given, more.3), omega (arith, more.4), text_more v more.0 more.1 between between_is text)

  pub elements_sound : (start : List ℕ) (room : ℕ) (is_first : Bool) (bytes rest : List ℕ) (us : Vals WordMap OpenMap)
      → elements_at item start room is_first bytes ≡ answers (Ok us) rest → Elements room is_first bytes rest us
  unfolding elements_at
  elements_sound start zero is_first bytes rest us is = let never : ⊥ = cc in absurd never
  elements_sound start (suc room) is_first bytes rest us is = elements_step start room (elements_sound start room false) is_first bytes rest us is

  abbrev closed : ValueReader Plain
  closed = byte_at 93 >>= λ _. done (val.array no_values)

  abbrev others_of : ℕ → List ℕ → ValueReader Plain
  others_of most start = elements_at item start most true >>= λ vs. done (val.array vs)

  -- an array of so many elements at most
  abbrev Array : ℕ → Plain → Type 0
  Array most v = (vs : List Plain) × (v ≡ val.array (vals_of vs)) × AllByRecursion P vs × (length vs ≤ most)

  pub array_sound : (most : ℕ) → IsSound (Array most) (array_at item most)
  unfolding array_at
  array_sound most bytes rest v is =
      let opened = byte_then 91 (branch 93 closed (others_of most bytes)) bytes rest v is in
      go (begins 93 opened.0) opened.0 opened.1 opened.2
    where
      text_is : (vs : Vals WordMap OpenMap) (between : List ℕ) → v ≡ val.array vs → bytes ≡ 91 ∷ between → between ≡ values_text vs ++ (93 ∷ rest) → bytes ≡ value_text v ++ rest
      text_is vs between v_is opens is =
          opens ∙ ap (λ t. 91 ∷ t) is ∙ sym (array_text vs rest) ∙ ap (λ w. value_text w ++ rest) (sym v_is)

      go : (t : Bool) (between : List ℕ) → bytes ≡ 91 ∷ between → cond t (closed between) (others_of most bytes between) ≡ answers (Ok v) rest → Array most v × (bytes ≡ value_text v ++ rest)
      go true between opens is =
          let found = byte_then 93 (done (val.array no_values)) between rest v is in
          let end = done_is (val.array no_values) v found.0 rest found.2 in
          (([], sym end.0, tt, omega arith), text_is no_values between (sym end.0) opens (found.1 ∙ ap (λ t. 93 ∷ t) end.1))
      go false between opens is =
          let found = both (elements_at item bytes most true) (λ vs. done (val.array vs)) between rest v is in
          let more = elements_sound bytes most true between found.1 found.0 found.2 in
          let end = done_is (val.array found.0) v found.1 rest found.3 in
          let v_is : v ≡ val.array (vals_of (more.0 ∷ more.1)) = sym end.0 ∙ ap val.array more.2 in
          let between_is : between ≡ values_text (vals_of (more.0 ∷ more.1)) ++ (93 ∷ rest) =
          more.5 ∙ ap (λ t. values_text (vals_of (more.0 ∷ more.1)) ++ (93 ∷ t)) end.1
          in
          ((more.0 ∷ more.1, v_is, more.3, more.4), text_is (vals_of (more.0 ∷ more.1)) between v_is opens between_is)

  -- also where the form of an array is taken on
  pub whole_array_sound : (form : ValueReader (Unit {0})) (most : ℕ) → IsSound (Array most) (whole_array_at item form most)
  unfolding whole_array_at
  whole_array_sound form most bytes rest v is = go (array_at item most bytes) refl is
    where
      out_of_range : (other : Answer ValueLimit (Unit {0})) (left : List ℕ) → told (answers (Err (Some limits.OutOfRange)) left) other ≡ answers (Ok v) rest
          → Array most v × (bytes ≡ value_text v ++ rest)
      out_of_range (answers (Ok unit) start) left is = let never : ⊥ = cc in absurd never
      out_of_range (answers (Err None) start) left is = let never : ⊥ = cc in absurd never
      out_of_range (answers (Err (Some limits.LongArray)) start) left is = let never : ⊥ = cc in absurd never
      out_of_range (answers (Err (Some limits.OutOfRange)) start) left is = let never : ⊥ = cc in absurd never

      go : (answer : Answer ValueLimit Plain) → array_at item most bytes ≡ answer → told answer (skim_array form most bytes) ≡ answers (Ok v) rest
          → Array most v × (bytes ≡ value_text v ++ rest)
      go (answers (Ok w) left) was is = array_sound most bytes rest v (was ∙ is)
      go (answers (Err None) left) was is = let never : ⊥ = cc in absurd never
      go (answers (Err (Some limits.LongArray)) left) was is = let never : ⊥ = cc in absurd never
      go (answers (Err (Some limits.OutOfRange)) left) was is = out_of_range (skim_array form most bytes) left is

  pub member_sound : (is_first : Bool) (bytes rest : List ℕ) (v : Plain) → member_at is_first item bytes ≡ answers (Ok v) rest → P v × (bytes ≡ next_text is_first v ++ rest)
  unfolding member_at separator_at
  member_sound true bytes rest v is = sound bytes rest v is
  member_sound false bytes rest v is =
      let outer = both comma_at (λ _. item) bytes rest v is in
      let comma = byte_then 44 (byte_at 32) bytes outer.1 outer.0 outer.2 in
      let space = byte_sound 32 comma.0 outer.1 outer.0 comma.2 in
      let found = sound outer.1 rest v outer.3 in
      (found.0, comma.1 ∙ ap (λ t. 44 ∷ t) space ∙ ap (λ t. 44 ∷ (32 ∷ t)) found.1)

-- ---- by type

left_nil : (is_first : Bool) (rest : List ℕ) → left_text is_first [] ++ rest ≡ rest
left_nil true rest = refl
left_nil false rest = refl

module _ (most : Ty → ℕ) where
  number_text : (k : Num) → IsSound (IsGiven most (number k)) (number_at (bound k) >>= λ n. done (val.number k n))
  number_text k bytes rest v is =
      let found = both (number_at (bound k)) (λ n. done (val.number k n)) bytes rest v is in
      let number_is = number_sound (bound k) found.0 bytes found.1 found.2 in
      let end = done_is (val.number k found.0) v found.1 rest found.3 in (
        (found.0, sym end.0, number_is.0),
        number_is.1.text_is ∙ ap (λ t. decimal_text found.0 ++ t) end.1 ∙ ap (λ w. value_text w ++ rest) end.0,
      )

  struct_is : (us : Vals WordMap OpenMap) (vs : List Plain) (v : Plain) (bytes b m c rest : List ℕ) → val.struct us ≡ v → us ≡ vals_of vs → bytes ≡ 40 ∷ b
      → b ≡ values_text (vals_of vs) ++ m → m ≡ 41 ∷ c → c ≡ rest → (v ≡ val.struct (vals_of vs)) × (bytes ≡ value_text v ++ rest)
  struct_is us vs v bytes b m c rest v_is us_is one two three four =
      let value_is : v ≡ val.struct (vals_of vs) = sym v_is ∙ ap val.struct us_is in
      let text : bytes ≡ 40 ∷ (values_text (vals_of vs) ++ (41 ∷ rest)) = cc in
      (value_is, text ∙ sym (struct_text (vals_of vs) rest) ∙ ap (λ w. value_text w ++ rest) (sym value_is))

  enum_is : (index : ℕ) (payload v : Plain) (bytes a b c rest : List ℕ) → val.enum index payload ≡ v → bytes ≡ decimal_text index ++ a → a ≡ 58 ∷ b
      → b ≡ value_text payload ++ c → c ≡ rest → bytes ≡ value_text v ++ rest
  enum_is index payload v bytes a b c rest v_is one two three four =
      let text : bytes ≡ decimal_text index ++ (58 ∷ (value_text payload ++ rest)) = cc in
      text ∙ sym (enum_text index payload rest) ∙ ap (λ w. value_text w ++ rest) v_is

  members_are : (is_first : Bool) (v : Plain) (vs : List Plain) (us ws : Vals WordMap OpenMap) (bytes b c rest : List ℕ) → values v us ≡ ws → us ≡ vals_of vs
      → bytes ≡ next_text is_first v ++ b → b ≡ left_text false vs ++ c → c ≡ rest → (ws ≡ vals_of (v ∷ vs)) × (bytes ≡ left_text is_first (v ∷ vs) ++ rest)
  members_are is_first v vs us ws bytes b c rest ws_is us_is one two three =
      let text : bytes ≡ next_text is_first v ++ (left_text false vs ++ rest) = cc in
      (sym ws_is ∙ ap (values v) us_is, text ∙ sym (member_text is_first v vs rest))

  mutual
    unfolding value_at members_at variant_at

    pub value_sound : (ty : Ty) → IsSound (IsGiven most ty) (value_at most ty)
    value_sound (number k) bytes rest v is = number_text k bytes rest v is
    value_sound (array ty) bytes rest v is = whole_array_sound (value_at most ty) (IsGiven most ty) (value_sound ty) (skim_at most ty) (most ty) bytes rest v is
    value_sound (struct name tys) bytes rest v is =
        let opened = byte_then 40 (members_at most true tys >>= λ vs. byte_at 41 >>= λ _. done (val.struct vs)) bytes rest v is in
        let inner = both (members_at most true tys) (λ vs. byte_at 41 >>= λ _. done (val.struct vs)) opened.0 rest v opened.2 in
        let members = members_sound true tys opened.0 inner.1 inner.0 inner.2 in
        let closed = byte_then 41 (done (val.struct inner.0)) inner.1 rest v inner.3 in
        let end = done_is (val.struct inner.0) v closed.0 rest closed.2 in
        let found = struct_is inner.0 members.0 v bytes opened.0 inner.1 closed.0 rest end.0 members.1 opened.1 members.3 closed.1 end.1 in
        ((members.0, found.0, members.2), found.1)
    value_sound (enum name tys) bytes rest v is =
        let index = both (number_at (count tys)) (λ index. byte_at 58 >>= λ _. variant_at most tys index >>= λ w. done (val.enum index w)) bytes rest v is in
        let number_is = number_sound (count tys) index.0 bytes index.1 index.2 in
        let colon = byte_then 58 (variant_at most tys index.0 >>= λ w. done (val.enum index.0 w)) index.1 rest v index.3 in
        let payload = both (variant_at most tys index.0) (λ w. done (val.enum index.0 w)) colon.0 rest v colon.2 in
        let found = variant_sound tys index.0 colon.0 payload.1 payload.0 payload.2 in
        let end = done_is (val.enum index.0 payload.0) v payload.1 rest payload.3 in (
          (index.0, payload.0, sym end.0, found.0),
          enum_is index.0 payload.0 v bytes index.1 colon.0 payload.1 rest end.0 number_is.1.text_is colon.1 found.1 end.1,
        )
    value_sound (nonzero k) bytes rest v is = let never : ⊥ = cc in absurd never
    value_sound range_check bytes rest v is = let never : ⊥ = cc in absurd never
    value_sound gas_builtin bytes rest v is = let never : ⊥ = cc in absurd never
    value_sound (box ty) bytes rest v is = let never : ⊥ = cc in absurd never
    value_sound (snapshot ty) bytes rest v is = let never : ⊥ = cc in absurd never
    value_sound (dict k) bytes rest v is = let never : ⊥ = cc in absurd never
    value_sound (dict_entry k) bytes rest v is = let never : ⊥ = cc in absurd never
    value_sound (squashed_dict k) bytes rest v is = let never : ⊥ = cc in absurd never
    value_sound (uninitialized ty) bytes rest v is = let never : ⊥ = cc in absurd never

    members_sound : (is_first : Bool) (tys : Tys) (bytes rest : List ℕ) (us : Vals WordMap OpenMap) → members_at most is_first tys bytes ≡ answers (Ok us) rest
        → (vs : List Plain) × (us ≡ vals_of vs) × AreGiven most tys vs × (bytes ≡ left_text is_first vs ++ rest)
    members_sound is_first no_types bytes rest us is =
        let end = done_is no_values us bytes rest is in
        ([], sym end.0, refl, end.1 ∙ sym (left_nil is_first rest))
    members_sound is_first (types ty tys) bytes rest us is =
        let one = both (member_at is_first (value_at most ty)) (λ v. members_at most false tys >>= λ vs. done (values v vs)) bytes rest us is in
        let others = both (members_at most false tys) (λ vs. done (values one.0 vs)) one.1 rest us one.3 in
        let end = done_is (values one.0 others.0) us others.1 rest others.3 in
        let given = member_sound (value_at most ty) (IsGiven most ty) (value_sound ty) is_first bytes one.1 one.0 one.2 in
        let more = members_sound false tys one.1 others.1 others.0 others.2 in
        let found = members_are is_first one.0 more.0 others.0 us bytes one.1 others.1 rest end.0 more.1 given.1 more.3 end.1 in
        (one.0 ∷ more.0, found.0, (one.0, more.0, refl, given.0, more.2), found.1)

    variant_sound : (tys : Tys) (index : ℕ) → IsSound (IsGivenVariant most tys index) (variant_at most tys index)
    variant_sound no_types index bytes rest v is = let never : ⊥ = cc in absurd never
    variant_sound (types ty tys) zero bytes rest v is = value_sound ty bytes rest v is
    variant_sound (types ty tys) (suc index) bytes rest v is = variant_sound tys index bytes rest v is
