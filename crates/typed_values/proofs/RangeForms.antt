-- Where a number out of range is told, the form of the type goes on with the number.
use Rattle.std.proofs.Common.{◌≡◌, ℕ, zero, suc, ◌<◌, ◌≤◌, ◌⊎◌, inl, inr, ◌++◌, List, [], ◌∷◌, Bool, true, false, cond, nat_lt, Some, None, Ok, Err, refl, sym, ap, ◌∙◌, subst, append_assoc, arith}
use Rattle.std.proofs.lemmas.Bool.Decides.{nat_tests}
use Rattle.std.proofs.lemmas.List.{append-nil}
use Rattle.std.specs.List.{AllByRecursion, flat_map}
use Rattle.byte_reading.specs.Decimal.{decimal_text, StartsWithNumber}
use Rattle.byte_reading.proofs.DecimalLaws.{one_leading_number}
use Rattle.text_reading.specs.Reading.{Answer, Answer.answers, done, go_on, ◌>>=◌, begins, branch}
use Rattle.type_trees.specs.Ty.{Ty, Tys, number, nonzero, range_check, gas_builtin, box, array, snapshot, struct, enum, dict, dict_entry, squashed_dict, uninitialized, no_types, types}
use Rattle.value_trees.specs.Of.{bound}
use Rattle.value_trees.specs.Val.{Plain, Vals, WordMap, OpenMap, no_values, values, vals_of}
use Rattle.value_trees.specs.Val as val
use Rattle.typed_values.specs.Faults.{CanBeGiven, CanAllBeGiven, HasForm, HaveForms, HasVariantForm, AllFormed, any_length}
use Rattle.typed_values.specs.Inputs.{IsGiven, most_elements, line_of}
use Rattle.typed_values.specs.Listing.{next_text, left_text}
use Rattle.typed_values.specs.Marks.{ValueReader, byte_at, below, number_at, comma_at, separator_at, space_at, goes_on_at, count}
use Rattle.typed_values.specs.Reading.{behind_at, element_at, elements_at, array_at, told, whole_array_at, member_at, value_at, members_at, variant_at, line_at, lines_at}
use Rattle.typed_values.specs.Skimming.{skim_array, skim_at}
use Rattle.typed_values.specs.Texts.{value_text, values_text}
use Rattle.typed_values.specs.declared.fault.ValueLimit.{ValueLimit}
use Rattle.typed_values.specs.declared.fault.ValueLimit.TheVariants as limits
use Rattle.typed_values.proofs.FirstLine.{NoLimits, then_no_limits, byte_no_limits, done_no_limits}
use Rattle.typed_values.proofs.FormsOfValues.{given_any}
use Rattle.typed_values.proofs.InputTexts.{line_text}
use Rattle.typed_values.proofs.Leading.{begins_number, number_sound}
use Rattle.typed_values.proofs.Numbers.{leading_number}
use Rattle.typed_values.proofs.Printed.{left_more}
use Rattle.typed_values.proofs.ReadBoth.{both, byte_sound, byte_then, done_is}
use Rattle.typed_values.proofs.Steady.{no_number}
use Rattle.typed_values.proofs.SteadyValues.{a_value}
use Rattle.typed_values.proofs.TextForms.{spaced, mark}
use Rattle.typed_values.proofs.ValuesSound.{IsSound, space_sound, element_sound, member_sound, value_sound}

-- The answer at a number out of range.
abbrev IsOut : {A : Type 0} → Answer ValueLimit A → List ℕ → Type 0
IsOut answer rest = answer ≡ answers (Err (Some limits.OutOfRange)) rest

-- A text of the form begins with what was taken and the number.
record Formed {A : Type 0} (P : A → Type 0) (text_of : A → List ℕ) (bytes rest : List ℕ) (n : ℕ) : Type 0 where
  value : A
  taken : List ℕ
  ending : List ℕ
  is : bytes ≡ taken ++ rest
  form : P value
  text : text_of value ≡ taken ++ (decimal_text n ++ ending)

-- the same with more before and behind
shift : {A B : Type 0} {P : A → Type 0} {text_of : A → List ℕ} (Q : B → Type 0) (other_text : B → List ℕ) (mid rest : List ℕ) (n : ℕ) (f : Formed P text_of mid rest n)
    (front back bytes : List ℕ) (value : B) → bytes ≡ front ++ mid → Q value → other_text value ≡ front ++ (text_of f.value ++ back) → Formed Q other_text bytes rest n
shift Q other_text mid rest n f front back bytes value parts form text = record {
  value = value;
  taken = front ++ f.taken;
  ending = f.ending ++ back;
  is = parts ∙ ap (λ (t : List ℕ). front ++ t) f.is ∙ sym (append_assoc front f.taken rest);
  form = form;
  text =
      text
      ∙ ap (λ (t : List ℕ). front ++ (t ++ back)) f.text
      ∙ ap (λ (t : List ℕ). front ++ t) (append_assoc f.taken (decimal_text n ++ f.ending) back ∙ ap (λ (t : List ℕ). f.taken ++ t) (append_assoc (decimal_text n) f.ending back))
      ∙ sym (append_assoc front f.taken (decimal_text n ++ (f.ending ++ back)));
}

abbrev FormedOut : {A : Type 0} → (A → Type 0) → (A → List ℕ) → {B : Type 0} → ValueReader B → Type 0
FormedOut P text_of reader = (bytes rest : List ℕ) (n : ℕ) (behind : List ℕ) → IsOut (reader bytes) rest → StartsWithNumber rest n behind → Formed P text_of bytes rest n

-- ---- where it comes from

abbrev Source : {A B : Type 0} → ValueReader A → (A → ValueReader B) → List ℕ → List ℕ → Type 0
Source {A} reader next bytes rest = IsOut (reader bytes) rest ⊎ ((x : A) × (mid : List ℕ) × (reader bytes ≡ answers (Ok x) mid) × IsOut (next x mid) rest)

source : {A B : Type 0} (reader : ValueReader A) (next : A → ValueReader B) (bytes rest : List ℕ) → IsOut ((reader >>= next) bytes) rest → Source reader next bytes rest
source {A} {B} reader next bytes rest is = go (reader bytes) refl is
  where
    go : (a : Answer ValueLimit A) → reader bytes ≡ a → IsOut (go_on a next) rest → Source reader next bytes rest
    go (answers (Ok x) mid) was is = inr (x, mid, was, is)
    go (answers (Err None) left) was is = let never : ⊥ = cc in absurd never
    go (answers (Err (Some limits.LongArray)) left) was is = let never : ⊥ = cc in absurd never
    go (answers (Err (Some limits.OutOfRange)) left) was is =
        let left_is : left ≡ rest = cc in
        inl (was ∙ ap (λ (t : List ℕ). answers (Err (Some limits.OutOfRange)) t) left_is)

made_source : {A B : Type 0} (reader : ValueReader A) (make : A → B) (bytes rest : List ℕ) → IsOut ((reader >>= λ x. done (make x)) bytes) rest → IsOut (reader bytes) rest
made_source reader make bytes rest is = elim (source reader (λ x. done (make x)) bytes rest is) [
  | inl here ↦ here
  | inr later ↦ absurd (done_no_limits (make later.0) later.1 rest limits.OutOfRange later.3)
]

byte_source : {A : Type 0} (wanted : ℕ) (next : ValueReader A) (bytes rest : List ℕ) → IsOut ((byte_at wanted >>= λ _. next) bytes) rest → (mid : List ℕ) × (bytes ≡ wanted ∷ mid) × IsOut (next mid) rest
byte_source wanted next bytes rest is = elim (source (byte_at wanted) (λ _. next) bytes rest is) [
  | inl here ↦ absurd (byte_no_limits wanted bytes rest limits.OutOfRange here)
  | inr later ↦ (later.1, byte_sound wanted bytes later.1 later.0 later.2, later.3)
]

closing_source : {A : Type 0} (byte : ℕ) (x : A) (bytes rest : List ℕ) → IsOut ((byte_at byte >>= λ _. done x) bytes) rest → ⊥
closing_source byte x bytes rest is = then_no_limits (byte_at byte) (λ _. done x) (byte_no_limits byte) (λ unit. done_no_limits x) bytes rest limits.OutOfRange is

number_source : (limit : ℕ) (bytes rest : List ℕ) (n : ℕ) (behind : List ℕ) → IsOut (number_at limit bytes) rest → StartsWithNumber rest n behind → (bytes ≡ rest) × (limit ≤ n)
unfolding number_at
number_source limit bytes rest n behind is starts = elim (begins_number bytes) [
  | inl free ↦
      let here : number_at limit bytes ≡ answers (Err None) bytes = no_number limit bytes free in
      let never : ⊥ = cc in absurd never
  | inr found ↦ of_test found.0 found.1 found.2 (nat_lt found.0 limit) refl (sym (ap (λ o. below limit o bytes) (leading_number bytes found.0 found.1 found.2)) ∙ is)
]
  where
    above : (m : ℕ) → nat_lt m limit ≡ false → limit ≤ m
    above m test = grind (arith, nat_tests)

    of_test : (m : ℕ) (tail : List ℕ) → StartsWithNumber bytes m tail → (t : Bool) → nat_lt m limit ≡ t
        → cond (nat_lt m limit) (answers (Ok m) tail) (answers (Err (Some limits.OutOfRange)) bytes) ≡ answers (Err (Some limits.OutOfRange)) rest → (bytes ≡ rest) × (limit ≤ n)
    of_test m tail found true test read =
        let here : answers (Ok m) tail ≡ answers (Err (Some limits.OutOfRange)) rest = sym (ap (λ t. cond t (answers (Ok m) tail) (answers (Err (Some limits.OutOfRange)) bytes)) test) ∙ read in
        let never : ⊥ = cc in absurd never
    of_test m tail found false test read =
        let here : answers (Err (Some limits.OutOfRange)) bytes ≡ answers (Err (Some limits.OutOfRange)) rest = sym (ap (λ t. cond t (answers (Ok m) tail) (answers (Err (Some limits.OutOfRange)) bytes)) test) ∙ read in
        let rest_is : bytes ≡ rest = cc in
        let same = (one_leading_number bytes m tail n behind found (subst (λ (t : List ℕ). StartsWithNumber t n behind) (sym rest_is) starts)).0 in
        (rest_is, subst (λ k. limit ≤ k) same (above m test))

-- ---- arrays

space_none : (is_first : Bool) → NoLimits (space_at is_first)
unfolding space_at
space_none true = done_no_limits tt
space_none false = byte_no_limits 32

goes_on_none : NoLimits goes_on_at
unfolding goes_on_at
goes_on_none bytes rest limit is = by_test (begins 93 bytes) is
  where
    by_test : (t : Bool) → cond t ((byte_at 93 >>= λ _. done false) bytes) ((byte_at 44 >>= λ _. done true) bytes) ≡ answers (Err (Some limit)) rest → ⊥
    by_test true is = then_no_limits (byte_at 93) (λ _. done false) (byte_no_limits 93) (λ unit. done_no_limits false) bytes rest limit is
    by_test false is = then_no_limits (byte_at 44) (λ _. done true) (byte_no_limits 44) (λ unit. done_no_limits true) bytes rest limit is

abbrev elements_text : Bool → Plain × List Plain → List ℕ
elements_text is_first p = spaced is_first ++ values_text (vals_of (p.0 ∷ p.1))

module _ (item : ValueReader Plain) (P Q : Plain → Type 0) (sound : IsSound P item) (weaker : (v : Plain) → P v → Q v) (out : FormedOut Q value_text item) where
  abbrev AllOf : Plain × List Plain → Type 0
  AllOf p = AllByRecursion Q (p.0 ∷ p.1)

  element_formed : (is_first : Bool) → FormedOut AllOf (elements_text is_first) (element_at item is_first)
  unfolding element_at
  element_formed is_first bytes rest n behind is starts = elim (source (space_at is_first) (λ _. item >>= λ w. goes_on_at >>= λ goes_on. done (w, goes_on)) bytes rest is) [
    | inl here ↦ absurd (space_none is_first bytes rest limits.OutOfRange here)
    | inr later ↦ elim (source item (λ w. goes_on_at >>= λ goes_on. done (w, goes_on)) later.1 rest later.3) [
      | inl here ↦
          let f = out later.1 rest n behind here starts in
          shift AllOf (elements_text is_first) later.1 rest n f (spaced is_first) [] bytes (f.value, []) (space_sound is_first bytes later.1 later.0 later.2) (f.form, tt)
          (ap (λ (t : List ℕ). spaced is_first ++ t) (sym (append-nil (value_text f.value))))
      | inr more ↦ absurd (goes_on_none more.1 rest limits.OutOfRange (made_source goes_on_at (λ goes_on. (more.0, goes_on)) more.1 rest more.3))
    ]
  ]

  more_text : (is_first : Bool) (v w : Plain) (vs : List Plain)
      → elements_text is_first (v, w ∷ vs) ≡ (spaced is_first ++ (value_text v ++ (44 ∷ []))) ++ (elements_text false (w, vs) ++ [])
  more_text is_first v w vs =
      let back = elements_text false (w, vs) ++ [] in
      ap (λ (t : List ℕ). spaced is_first ++ t) (sym (append_assoc (value_text v) (44 ∷ []) back)) ∙ sym (append_assoc (spaced is_first) (value_text v ++ (44 ∷ [])) back)

  more_parts : (is_first : Bool) (v : Plain) (bytes mid : List ℕ) → bytes ≡ spaced is_first ++ (value_text v ++ (44 ∷ mid)) → bytes ≡ (spaced is_first ++ (value_text v ++ (44 ∷ []))) ++ mid
  more_parts is_first v bytes mid parts =
      parts ∙ ap (λ (t : List ℕ). spaced is_first ++ t) (sym (append_assoc (value_text v) (44 ∷ []) mid)) ∙ sym (append_assoc (spaced is_first) (value_text v ++ (44 ∷ [])) mid)

  elements_formed : (s : List ℕ) (room : ℕ) (is_first : Bool) → FormedOut AllOf (elements_text is_first) (elements_at item s room is_first)
  unfolding elements_at
  elements_formed s zero is_first bytes rest n behind is starts = let never : ⊥ = cc in absurd never
  elements_formed s (suc room) is_first bytes rest n behind is starts =
      elim (source (element_at item is_first) (behind_at (elements_at item s room false)) bytes rest is) [
        | inl here ↦ element_formed is_first bytes rest n behind here starts
        | inr later ↦ go later.0.0 later.0.1 later.1 (element_sound item P sound is_first bytes later.1 later.0 later.2).0 (element_sound item P sound is_first bytes later.1 later.0 later.2).1 later.3 (elements_formed s room false)
      ]
    where
      go : (v : Plain) (g : Bool) (mid : List ℕ) → P v → bytes ≡ spaced is_first ++ (value_text v ++ (mark g ∷ mid)) → IsOut (behind_at (elements_at item s room false) (v, g) mid) rest
          → FormedOut AllOf (elements_text false) (elements_at item s room false) → Formed AllOf (elements_text is_first) bytes rest n
      go v false mid given parts is again = let never : ⊥ = cc in absurd never
      go v true mid given parts is again =
          let e = again mid rest n behind (made_source (elements_at item s room false) (values v) mid rest is) starts in
          shift AllOf (elements_text is_first) mid rest n e (spaced is_first ++ (value_text v ++ (44 ∷ []))) [] bytes (v, e.value.0 ∷ e.value.1) (more_parts is_first v bytes mid parts)
          (weaker v given, e.form) (more_text is_first v e.value.0 e.value.1)

  abbrev ArrayOf : Plain → Type 0
  ArrayOf v = (vs : List Plain) × (v ≡ val.array (vals_of vs)) × AllByRecursion Q vs × Unit {0}

  array_formed : (most : ℕ) → FormedOut ArrayOf value_text (array_at item most)
  unfolding array_at
  array_formed most bytes rest n behind is starts =
      let opened = byte_source 91 (branch 93 (byte_at 93 >>= λ _. done (val.array no_values)) (elements_at item bytes most true >>= λ vs. done (val.array vs))) bytes rest is in
      go opened.0 opened.1 (begins 93 opened.0) opened.2
    where
      go : (mid : List ℕ) → bytes ≡ 91 ∷ mid → (t : Bool)
          → IsOut (cond t ((byte_at 93 >>= λ _. done (val.array no_values)) mid) ((elements_at item bytes most true >>= λ vs. done (val.array vs)) mid)) rest → Formed ArrayOf value_text bytes rest n
      go mid parts true is = absurd (closing_source 93 (val.array no_values) mid rest is)
      go mid parts false is =
          let e = elements_formed bytes most true mid rest n behind (made_source (elements_at item bytes most true) (λ vs. val.array vs) mid rest is) starts in
          let all : AllByRecursion Q (e.value.0 ∷ e.value.1) = e.form in
          let form : ArrayOf (val.array (vals_of (e.value.0 ∷ e.value.1))) = (e.value.0 ∷ e.value.1, refl, all, tt) in
          shift ArrayOf value_text mid rest n e (91 ∷ []) (93 ∷ []) bytes (val.array (vals_of (e.value.0 ∷ e.value.1))) parts form refl

  told_source : (answer : Answer ValueLimit Plain) (form : Answer ValueLimit (Unit {0})) (rest : List ℕ) → IsOut (told answer form) rest → IsOut answer rest
  told_source (answers (Ok v) left) form rest is = let never : ⊥ = cc in absurd never
  told_source (answers (Err None) left) form rest is = let never : ⊥ = cc in absurd never
  told_source (answers (Err (Some limits.LongArray)) left) form rest is = let never : ⊥ = cc in absurd never
  told_source (answers (Err (Some limits.OutOfRange)) left) (answers (Ok unit) s) rest is = is
  told_source (answers (Err (Some limits.OutOfRange)) left) (answers (Err None) s) rest is = is
  told_source (answers (Err (Some limits.OutOfRange)) left) (answers (Err (Some limits.OutOfRange)) s) rest is = is
  told_source (answers (Err (Some limits.OutOfRange)) left) (answers (Err (Some limits.LongArray)) s) rest is = let never : ⊥ = cc in absurd never

  whole_formed : (form : ValueReader (Unit {0})) (most : ℕ) → FormedOut ArrayOf value_text (whole_array_at item form most)
  unfolding whole_array_at
  whole_formed form most bytes rest n behind is starts = array_formed most bytes rest n behind (told_source (array_at item most bytes) (skim_array form most bytes) rest is) starts

-- ---- members and variants

member_formed : (item : ValueReader Plain) (Q : Plain → Type 0) → FormedOut Q value_text item → (is_first : Bool) → FormedOut Q (next_text is_first) (member_at is_first item)
unfolding member_at separator_at
member_formed item Q out true bytes rest n behind is starts =
    let f = out bytes rest n behind is starts in
    shift Q (next_text true) bytes rest n f [] [] bytes f.value refl f.form (sym (append-nil (value_text f.value)))
member_formed item Q out false bytes rest n behind is starts = elim (source comma_at (λ _. item) bytes rest is) [
  | inl here ↦ absurd (then_no_limits (byte_at 44) (λ _. byte_at 32) (byte_no_limits 44) (λ unit. byte_no_limits 32) bytes rest limits.OutOfRange here)
  | inr later ↦
      let comma = byte_then 44 (byte_at 32) bytes later.1 later.0 later.2 in
      let space = byte_sound 32 comma.0 later.1 later.0 comma.2 in
      let f = out later.1 rest n behind later.3 starts in
      shift Q (next_text false) later.1 rest n f (44 ∷ (32 ∷ [])) [] bytes f.value (comma.1 ∙ ap (λ (t : List ℕ). 44 ∷ t) space) f.form
      (ap (λ (t : List ℕ). 44 ∷ (32 ∷ t)) (sym (append-nil (value_text f.value))))
]

abbrev FormOf : Ty → Plain → Type 0
FormOf = HasForm any_length (Unit {0})

abbrev FormsOf : Tys → List Plain → Type 0
FormsOf = HaveForms any_length (Unit {0})

abbrev VariantOf : Tys → ℕ → Plain → Type 0
VariantOf = HasVariantForm any_length (Unit {0})

-- an index without a variant has the form too
beyond : (tys : Tys) (index : ℕ) (v : Plain) → count tys ≤ index → VariantOf tys index v
beyond no_types index v past = tt
beyond (types ty tys) zero v past = absurd (omega arith)
beyond (types ty tys) (suc index) v past = beyond tys index v (omega arith)

forms_of : (tys : Tys) (can : CanAllBeGiven tys) → (vs : List Plain) × FormsOf tys vs
forms_of no_types can = ([], refl)
forms_of (types ty tys) can =
    let one = a_value most_elements ty can.0 in
    let others = forms_of tys can.1 in
    (one.0 ∷ others.0, (one.0, others.0, refl, given_any ty one.0 one.1, others.1))

lines_of : (tys : List Ty) (can : AllByRecursion CanBeGiven tys) → (vs : List Plain) × AllFormed any_length (Unit {0}) tys vs
lines_of [] can = ([], refl)
lines_of (ty ∷ tys) can =
    let one = a_value most_elements ty can.0 in
    let others = lines_of tys can.1 in
    (one.0 ∷ others.0, (one.0, others.0, refl, given_any ty one.0 one.1, others.1))

-- ---- by type

mutual
  unfolding value_at members_at variant_at

  value_formed : (ty : Ty) → CanBeGiven ty → FormedOut (FormOf ty) value_text (value_at most_elements ty)
  value_formed (number k) can bytes rest n behind is starts =
      let found = number_source (bound k) bytes rest n behind (made_source (number_at (bound k)) (val.number k) bytes rest is) starts in
      record { value = val.number k n; taken = []; ending = []; is = found.0; form = (n, refl); text = sym (append-nil (decimal_text n)) }
  value_formed (array ty) can bytes rest n behind is starts =
      whole_formed (value_at most_elements ty) (IsGiven most_elements ty) (FormOf ty) (value_sound most_elements ty) (given_any ty) (value_formed ty can) (skim_at most_elements ty) (most_elements ty) bytes rest n behind is starts
  value_formed (struct name tys) can bytes rest n behind is starts =
      let opened = byte_source 40 (members_at most_elements true tys >>= λ vs. byte_at 41 >>= λ _. done (val.struct vs)) bytes rest is in
      elim (source (members_at most_elements true tys) (λ vs. byte_at 41 >>= λ _. done (val.struct vs)) opened.0 rest opened.2) [
        | inl here ↦
            let m = members_formed true tys can opened.0 rest n behind here starts in
            shift (FormOf (struct name tys)) value_text opened.0 rest n m (40 ∷ []) (41 ∷ []) bytes (val.struct (vals_of m.value)) opened.1 (m.value, refl, m.form) refl
        | inr later ↦ absurd (closing_source 41 (val.struct later.0) later.1 rest later.3)
      ]
  value_formed (enum name no_types) can bytes rest n behind is starts = absurd can
  value_formed (enum name (types ty tys)) can bytes rest n behind is starts =
      let all = types ty tys in
      elim (source (number_at (count all)) (λ index. byte_at 58 >>= λ _. variant_at most_elements all index >>= λ v. done (val.enum index v)) bytes rest is) [
        | inl here ↦
            let found = number_source (count all) bytes rest n behind here starts in
            record { value = val.enum n val.empty; taken = []; ending = 58 ∷ []; is = found.0; form = (n, val.empty, refl, beyond all n val.empty found.1); text = refl }
        | inr later ↦
            let index = number_sound (count all) later.0 bytes later.1 later.2 in
            let colon = byte_source 58 (variant_at most_elements all later.0 >>= λ v. done (val.enum later.0 v)) later.1 rest later.3 in
            let f = variant_formed (types ty tys) can later.0 index.0 colon.0 rest n behind (made_source (variant_at most_elements all later.0) (val.enum later.0) colon.0 rest colon.2) starts in
            shift (FormOf (enum name all)) value_text colon.0 rest n f (decimal_text later.0 ++ (58 ∷ [])) [] bytes (val.enum later.0 f.value)
            (index.1.text_is ∙ ap (λ (t : List ℕ). decimal_text later.0 ++ t) colon.1 ∙ sym (append_assoc (decimal_text later.0) (58 ∷ []) colon.0))
            (later.0, f.value, refl, f.form) (sym (append_assoc (decimal_text later.0) (58 ∷ []) (value_text f.value ++ [])))
      ]
  value_formed (nonzero k) can bytes rest n behind is starts = absurd can
  value_formed range_check can bytes rest n behind is starts = absurd can
  value_formed gas_builtin can bytes rest n behind is starts = absurd can
  value_formed (box ty) can bytes rest n behind is starts = absurd can
  value_formed (snapshot ty) can bytes rest n behind is starts = absurd can
  value_formed (dict k) can bytes rest n behind is starts = absurd can
  value_formed (dict_entry k) can bytes rest n behind is starts = absurd can
  value_formed (squashed_dict k) can bytes rest n behind is starts = absurd can
  value_formed (uninitialized ty) can bytes rest n behind is starts = absurd can

  members_formed : (is_first : Bool) (tys : Tys) → CanAllBeGiven tys → FormedOut (FormsOf tys) (left_text is_first) (members_at most_elements is_first tys)
  members_formed is_first no_types can bytes rest n behind is starts = absurd (done_no_limits no_values bytes rest limits.OutOfRange is)
  members_formed is_first (types ty tys) can bytes rest n behind is starts =
      elim (source (member_at is_first (value_at most_elements ty)) (λ v. members_at most_elements false tys >>= λ vs. done (values v vs)) bytes rest is) [
        | inl here ↦
            let f = member_formed (value_at most_elements ty) (FormOf ty) (value_formed ty can.0) is_first bytes rest n behind here starts in
            let others = forms_of tys can.1 in
            shift (FormsOf (types ty tys)) (left_text is_first) bytes rest n f [] (left_text false others.0) bytes (f.value ∷ others.0) refl (f.value, others.0, refl, f.form, others.1) (left_more is_first f.value others.0)
        | inr later ↦
            let given = member_sound (value_at most_elements ty) (IsGiven most_elements ty) (value_sound most_elements ty) is_first bytes later.1 later.0 later.2 in
            let m = members_formed false tys can.1 later.1 rest n behind (made_source (members_at most_elements false tys) (values later.0) later.1 rest later.3) starts in
            shift (FormsOf (types ty tys)) (left_text is_first) later.1 rest n m (next_text is_first later.0) [] bytes (later.0 ∷ m.value) given.1
            (later.0, m.value, refl, given_any ty later.0 given.0, m.form)
            (left_more is_first later.0 m.value ∙ ap (λ (t : List ℕ). next_text is_first later.0 ++ t) (sym (append-nil (left_text false m.value))))
      ]

  variant_formed : (tys : Tys) → CanAllBeGiven tys → (index : ℕ) → index < count tys → FormedOut (VariantOf tys index) value_text (variant_at most_elements tys index)
  variant_formed no_types can index below bytes rest n behind is starts = absurd (omega arith)
  variant_formed (types ty tys) can zero below bytes rest n behind is starts = value_formed ty can.0 bytes rest n behind is starts
  variant_formed (types ty tys) can (suc index) below bytes rest n behind is starts = variant_formed tys can.1 index (omega arith) bytes rest n behind is starts

-- what a text of lines begins with
pub record FormedLines (tys : List Ty) (bytes rest : List ℕ) (n : ℕ) : Type 0 where
  pub values : List Plain
  pub taken : List ℕ
  pub ending : List ℕ
  pub is : bytes ≡ taken ++ rest
  pub form : AllFormed any_length (Unit {0}) tys values
  pub text : flat_map line_of values ≡ taken ++ (decimal_text n ++ ending)

abbrev all_lines : List Plain → List ℕ
all_lines vs = flat_map line_of vs

abbrev LinesOf : List Ty → List Plain → Type 0
LinesOf = AllFormed any_length (Unit {0})

lines_formed : (tys : List Ty) → AllByRecursion CanBeGiven tys → FormedOut (LinesOf tys) all_lines (lines_at most_elements tys)
unfolding lines_at line_at
lines_formed [] can [] rest n behind is starts = let never : ⊥ = cc in absurd never
lines_formed [] can (byte ∷ bytes) rest n behind is starts = let never : ⊥ = cc in absurd never
lines_formed (ty ∷ tys) can bytes rest n behind is starts =
    elim (source (line_at most_elements ty) (λ v. lines_at most_elements tys >>= λ vs. done (v ∷ vs)) bytes rest is) [
      | inl here ↦ elim (source (value_at most_elements ty) (λ v. byte_at 10 >>= λ _. done v) bytes rest here) [
        | inl there ↦
            let f = value_formed ty can.0 bytes rest n behind there starts in
            let others = lines_of tys can.1 in
            shift (LinesOf (ty ∷ tys)) all_lines bytes rest n f [] (10 ∷ flat_map line_of others.0) bytes (f.value ∷ others.0) refl (f.value, others.0, refl, f.form, others.1) (line_text f.value (flat_map line_of others.0))
        | inr never ↦ absurd (closing_source 10 never.0 never.1 rest never.3)
      ]
      | inr later ↦
          let value = both (value_at most_elements ty) (λ v. byte_at 10 >>= λ _. done v) bytes later.1 later.0 later.2 in
          let close = byte_then 10 (done value.0) value.1 later.1 later.0 value.3 in
          let end = done_is value.0 later.0 close.0 later.1 close.2 in
          let given = value_sound most_elements ty bytes value.1 value.0 value.2 in
          let parts : bytes ≡ (value_text value.0 ++ (10 ∷ [])) ++ later.1 =
          given.1 ∙ ap (λ (t : List ℕ). value_text value.0 ++ t) (close.1 ∙ ap (λ (t : List ℕ). 10 ∷ t) end.1) ∙ sym (append_assoc (value_text value.0) (10 ∷ []) later.1)
          in
          let l = lines_formed tys can.1 later.1 rest n behind (made_source (lines_at most_elements tys) (λ vs. later.0 ∷ vs) later.1 rest later.3) starts in
          shift (LinesOf (ty ∷ tys)) all_lines later.1 rest n l (value_text value.0 ++ (10 ∷ [])) [] bytes (value.0 ∷ l.value) parts
          (value.0, l.value, refl, given_any ty value.0 given.0, l.form)
          (ap (λ (t : List ℕ). line_of value.0 ++ t) (sym (append-nil (flat_map line_of l.value))))
    ]

pub range_lines : (tys : List Ty) → AllByRecursion CanBeGiven tys → (bytes rest : List ℕ) (n : ℕ) (behind : List ℕ) → lines_at most_elements tys bytes ≡ answers (Err (Some limits.OutOfRange)) rest
    → StartsWithNumber rest n behind → FormedLines tys bytes rest n
range_lines tys can bytes rest n behind is starts =
    let l = lines_formed tys can bytes rest n behind is starts in
    record { values = l.value; taken = l.taken; ending = l.ending; is = l.is; form = l.form; text = l.text }
