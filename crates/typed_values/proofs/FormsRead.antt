-- What is read of the text of a value that has the form of its type: the value, or a limit is told.
use Rattle.std.proofs.Common.{◌≡◌, ℕ, zero, suc, ◌<◌, ◌≤◌, ◌⊎◌, inl, inr, ◌++◌, List, [], ◌∷◌, length, Bool, true, false, cond, nat_lt, ◌==◌, Some, None, Ok, Err, refl, sym, ap, ◌∙◌, subst, arith}
use Rattle.std.proofs.lemmas.Bool.Decides.{nat_tests}
use Rattle.std.proofs.lemmas.Str.Parse.{digit_from_value}
use Rattle.std.specs.Char.{IsAsciiDigit}
use Rattle.std.specs.List.{AllByRecursion, flat_map}
use Rattle.std.specs.Str.Parse.{AllDigits}
use Rattle.byte_reading.specs.Decimal.{decimal_text, StartsWithNoDigit}
use Rattle.byte_reading.proofs.DecimalLaws.{is_decimal-decimal_text}
use Rattle.text_reading.specs.Reading.{Answer, Answer.answers, done, go_on, ◌>>=◌, begins, branch}
use Rattle.type_trees.specs.Ty.{Ty, Tys, number, nonzero, range_check, gas_builtin, box, array, snapshot, struct, enum, dict, dict_entry, squashed_dict, uninitialized, no_types, types}
use Rattle.value_trees.specs.Of.{bound}
use Rattle.value_trees.specs.Val.{Plain, Vals, WordMap, OpenMap, no_values, values, vals_of}
use Rattle.value_trees.specs.Val as val
use Rattle.typed_values.specs.Faults.{HasForm, HaveForms, HasVariantForm, AllFormed}
use Rattle.typed_values.specs.Inputs.{line_of}
use Rattle.typed_values.specs.Listing.{next_text, left_text}
use Rattle.typed_values.specs.Marks.{ValueReader, byte_at, below, number_at, comma_at, separator_at, space_at, goes_on_at, count}
use Rattle.typed_values.specs.Reading.{behind_at, element_at, elements_at, array_at, told, whole_array_at, member_at, value_at, members_at, variant_at, line_at, lines_at}
use Rattle.typed_values.specs.Skimming.{skim_array, skim_at}
use Rattle.typed_values.specs.Texts.{value_text, values_text}
use Rattle.typed_values.specs.declared.fault.ValueLimit.{ValueLimit}
use Rattle.typed_values.specs.declared.fault.ValueLimit.TheVariants as limits
use Rattle.typed_values.proofs.InputTexts.{line_text, no_digit_here}
use Rattle.typed_values.proofs.Leading.{number_sound}
use Rattle.typed_values.proofs.Numbers.{leading_number}
use Rattle.typed_values.proofs.ReadBoth.{then_byte, byte_complete}
use Rattle.typed_values.proofs.TextForms.{spaced, mark, struct_text, array_text, enum_text, member_text, element_text, left_follow}
use Rattle.typed_values.proofs.ValuesComplete.{no_digit_below, no_digit_above, goes_on_complete, space_complete, mark_follow, left_nil, starts}

abbrev pub IsLimit : {A : Type 0} → Answer ValueLimit A → Type 0
IsLimit {A} answer = (limit : ValueLimit) × (left : List ℕ) × (answer ≡ answers (Err (Some limit)) left)

-- it was read, or a limit is told
abbrev pub IsFine : {A : Type 0} → A → List ℕ → Answer ValueLimit A → Type 0
IsFine {A} x rest answer = (answer ≡ answers (Ok x) rest) ⊎ IsLimit answer

fine_then : {A B : Type 0} (reader : ValueReader A) (next : A → ValueReader B) (bytes mid rest : List ℕ) (x : A) (y : B) → IsFine x mid (reader bytes)
    → (reader bytes ≡ answers (Ok x) mid → IsFine y rest (next x mid)) → IsFine y rest ((reader >>= next) bytes)
fine_then reader next bytes mid rest x y (inl is) fine = subst (IsFine y rest) (sym (ap (λ a. go_on a next) is)) (fine is)
fine_then reader next bytes mid rest x y (inr stop) fine = inr (stop.0, stop.1, ap (λ a. go_on a next) stop.2)

-- the text of each value with this property is read so
abbrev IsFormRead : (Plain → Type 0) → ValueReader Plain → Type 0
IsFormRead P reader = (v : Plain) (rest : List ℕ) → P v → StartsWithNoDigit rest → IsFine v rest (reader (value_text v ++ rest))

number_fine : (limit n : ℕ) (rest : List ℕ) → StartsWithNoDigit rest → IsFine n rest (number_at limit (decimal_text n ++ rest))
unfolding number_at
number_fine limit n rest free =
    subst (IsFine n rest) (sym (ap (λ o. below limit o (decimal_text n ++ rest)) (leading_number (decimal_text n ++ rest) n rest (starts n rest free)))) (tested (nat_lt n limit))
  where
    tested : (t : Bool) → IsFine n rest (cond t (answers (Ok n) rest) (answers (Err (Some limits.OutOfRange)) (decimal_text n ++ rest)))
    tested true = inl refl
    tested false = inr (limits.OutOfRange, decimal_text n ++ rest, refl)

-- ---- elements

module _ (item : ValueReader Plain) (P : Plain → Type 0) (fine : IsFormRead P item) (opens : (v : Plain) (more : List ℕ) → P v → begins 93 (value_text v ++ more) ≡ false) where
  element_fine : (is_first g : Bool) (v : Plain) (rest : List ℕ) → P v → IsFine (v, g) rest (element_at item is_first (spaced is_first ++ (value_text v ++ (mark g ∷ rest))))
  unfolding element_at
  element_fine is_first g v rest given =
      fine_then (space_at is_first) (λ _. item >>= λ w. goes_on_at >>= λ goes_on. done (w, goes_on)) (spaced is_first ++ (value_text v ++ (mark g ∷ rest)))
      (value_text v ++ (mark g ∷ rest)) rest tt (v, g) (inl (space_complete is_first (value_text v ++ (mark g ∷ rest))))
      (λ _.
      fine_then item (λ w. goes_on_at >>= λ goes_on. done (w, goes_on)) (value_text v ++ (mark g ∷ rest)) (mark g ∷ rest) rest v (v, g)
      (fine v (mark g ∷ rest) given (mark_follow g rest))
      (λ _. fine_then goes_on_at (λ goes_on. done (v, goes_on)) (mark g ∷ rest) rest rest g (v, g) (inl (goes_on_complete g rest)) (λ _. inl refl)))

  elements_fine : (start : List ℕ) (room : ℕ) (is_first : Bool) (v : Plain) (vs : List Plain) (rest : List ℕ) → P v → AllByRecursion P vs
      → IsFine (vals_of (v ∷ vs)) rest (elements_at item start room is_first (spaced is_first ++ (values_text (vals_of (v ∷ vs)) ++ (93 ∷ rest))))
  unfolding elements_at
  elements_fine start zero is_first v vs rest given all = inr (limits.LongArray, start, refl)
  elements_fine start (suc room) is_first v [] rest given all =
      fine_then (element_at item is_first) (behind_at (elements_at item start room false)) (spaced is_first ++ (value_text v ++ (93 ∷ rest))) rest rest (v, false) (vals_of (v ∷ []))
      (element_fine is_first false v rest given) (λ _. inl refl)
  elements_fine start (suc room) is_first v (w ∷ vs) rest given all =
      subst (λ (t : List ℕ). IsFine (vals_of (v ∷ w ∷ vs)) rest (elements_at item start (suc room) is_first (spaced is_first ++ t))) (sym (element_text v w vs (93 ∷ rest)))
      (
      fine_then (element_at item is_first) (behind_at (elements_at item start room false))
      (spaced is_first ++ (value_text v ++ (44 ∷ (32 ∷ (values_text (vals_of (w ∷ vs)) ++ (93 ∷ rest))))))
      (32 ∷ (values_text (vals_of (w ∷ vs)) ++ (93 ∷ rest))) rest (v, true) (vals_of (v ∷ w ∷ vs))
      (element_fine is_first true v (32 ∷ (values_text (vals_of (w ∷ vs)) ++ (93 ∷ rest))) given)
      (λ _.
      fine_then (elements_at item start room false) (λ us. done (values v us)) (32 ∷ (values_text (vals_of (w ∷ vs)) ++ (93 ∷ rest))) rest rest (vals_of (w ∷ vs)) (vals_of (v ∷ w ∷ vs))
      (elements_fine start room false w vs rest all.0 all.1) (λ _. inl refl))
      )

  abbrev closed : ValueReader Plain
  closed = byte_at 93 >>= λ _. done (val.array no_values)

  abbrev others_of : ℕ → List ℕ → ValueReader Plain
  others_of most start = elements_at item start most true >>= λ vs. done (val.array vs)

  not_closed : (v : Plain) (vs : List Plain) (rest : List ℕ) → P v → begins 93 (values_text (vals_of (v ∷ vs)) ++ (93 ∷ rest)) ≡ false
  not_closed v [] rest given = opens v (93 ∷ rest) given
  not_closed v (w ∷ vs) rest given =
      ap (begins 93) (element_text v w vs (93 ∷ rest)) ∙ opens v (44 ∷ (32 ∷ (values_text (vals_of (w ∷ vs)) ++ (93 ∷ rest)))) given

  opened : (most : ℕ) (vs : List Plain) (rest : List ℕ) → array_at item most (value_text (val.array (vals_of vs)) ++ rest)
      ≡ branch 93 closed (others_of most (91 ∷ (values_text (vals_of vs) ++ (93 ∷ rest)))) (values_text (vals_of vs) ++ (93 ∷ rest))
  unfolding array_at
  opened most vs rest =
      ap (array_at item most) (array_text (vals_of vs) rest)
      ∙ then_byte 91 (branch 93 closed (others_of most (91 ∷ (values_text (vals_of vs) ++ (93 ∷ rest))))) (values_text (vals_of vs) ++ (93 ∷ rest))

  array_fine : (most : ℕ) (vs : List Plain) (rest : List ℕ) → AllByRecursion P vs
      → IsFine (val.array (vals_of vs)) rest (array_at item most (value_text (val.array (vals_of vs)) ++ rest))
  array_fine most [] rest all = inl (opened most [] rest ∙ then_byte 93 (done (val.array no_values)) rest)
  array_fine most (v ∷ vs) rest all =
      let text = values_text (vals_of (v ∷ vs)) ++ (93 ∷ rest) in
      subst (IsFine (val.array (vals_of (v ∷ vs))) rest)
      (sym (opened most (v ∷ vs) rest ∙ ap (λ t. cond t (closed text) (others_of most (91 ∷ text) text)) (not_closed v vs rest all.0)))
      (
      fine_then (elements_at item (91 ∷ text) most true) (λ us. done (val.array us)) text rest rest (vals_of (v ∷ vs)) (val.array (vals_of (v ∷ vs)))
      (elements_fine (91 ∷ text) most true v vs rest all.0 all.1) (λ _. inl refl)
      )

told_limit : (limit : ValueLimit) (left : List ℕ) (form : Answer ValueLimit (Unit {0})) → IsLimit {A = Plain} (told (answers (Err (Some limit)) left) form)
told_limit limits.LongArray left form = (limits.LongArray, left, refl)
told_limit limits.OutOfRange left (answers (Ok unit) start) = (limits.OutOfRange, left, refl)
told_limit limits.OutOfRange left (answers (Err None) start) = (limits.OutOfRange, left, refl)
told_limit limits.OutOfRange left (answers (Err (Some limits.OutOfRange)) start) = (limits.OutOfRange, left, refl)
told_limit limits.OutOfRange left (answers (Err (Some limits.LongArray)) start) = (limits.LongArray, start, refl)

told_fine : (v : Plain) (rest : List ℕ) (answer : Answer ValueLimit Plain) (form : Answer ValueLimit (Unit {0})) → IsFine v rest answer → IsFine v rest (told answer form)
told_fine v rest answer form (inl is) = inl (ap (λ a. told a form) is)
told_fine v rest answer form (inr stop) = inr (subst (λ a. IsLimit {A = Plain} (told a form)) (sym stop.2) (told_limit stop.0 stop.1 form))

member_fine : (item : ValueReader Plain) (P : Plain → Type 0) → IsFormRead P item → (is_first : Bool) (v : Plain) (rest : List ℕ) → P v → StartsWithNoDigit rest
    → IsFine v rest (member_at is_first item (next_text is_first v ++ rest))
unfolding member_at separator_at
member_fine item P fine true v rest given free = fine v rest given free
member_fine item P fine false v rest given free =
    fine_then comma_at (λ _. item) (44 ∷ (32 ∷ (value_text v ++ rest))) (value_text v ++ rest) rest tt v
    (inl (then_byte 44 (byte_at 32) (32 ∷ (value_text v ++ rest)) ∙ byte_complete 32 (value_text v ++ rest)))
    (λ _. fine v rest given free)

-- ---- the first byte of a text

digits_open : (text more : List ℕ) → 0 < length text → AllDigits 10 text → begins 93 (text ++ more) ≡ false
digits_open [] more some all = absurd (omega arith)
digits_open (d ∷ ds) more some all = other d (digit_from_value d all.0)
  where
    other : (d : ℕ) → IsAsciiDigit d → (d == 93) ≡ false
    other d is = let to : d ≤ 57 = is.1 in grind (arith, nat_tests)

number_opens : (n : ℕ) (more : List ℕ) → begins 93 (decimal_text n ++ more) ≡ false
number_opens n more = digits_open (decimal_text n) more (is_decimal-decimal_text n).digits.0 (is_decimal-decimal_text n).digits.1

module _ (Few : Ty → ℕ → Type 0) (Beyond : Type 0) where
  pub text_opens : (ty : Ty) (v : Plain) (more : List ℕ) → HasForm Few Beyond ty v → begins 93 (value_text v ++ more) ≡ false
  text_opens (number k) v more formed = ap (λ w. begins 93 (value_text w ++ more)) formed.1 ∙ number_opens formed.0 more
  text_opens (array ty) v more formed = ap (λ w. begins 93 (value_text w ++ more)) formed.1 ∙ ap (begins 93) (array_text (vals_of formed.0) more)
  text_opens (struct name tys) v more formed = ap (λ w. begins 93 (value_text w ++ more)) formed.1 ∙ ap (begins 93) (struct_text (vals_of formed.0) more)
  text_opens (enum name tys) v more formed =
      ap (λ w. begins 93 (value_text w ++ more)) formed.2 ∙ ap (begins 93) (enum_text formed.0 formed.1 more) ∙ number_opens formed.0 (58 ∷ (value_text formed.1 ++ more))
  text_opens (nonzero k) v more formed = absurd formed
  text_opens range_check v more formed = absurd formed
  text_opens gas_builtin v more formed = absurd formed
  text_opens (box ty) v more formed = absurd formed
  text_opens (snapshot ty) v more formed = absurd formed
  text_opens (dict k) v more formed = absurd formed
  text_opens (dict_entry k) v more formed = absurd formed
  text_opens (squashed_dict k) v more formed = absurd formed
  text_opens (uninitialized ty) v more formed = absurd formed

  module _ (most : Ty → ℕ) where
    mutual
      unfolding value_at members_at variant_at whole_array_at

      pub value_fine : (ty : Ty) → IsFormRead (HasForm Few Beyond ty) (value_at most ty)
      value_fine (number k) v rest formed free =
          subst (λ w. IsFine w rest (value_at most (number k) (value_text w ++ rest))) (sym formed.1)
          (fine_then (number_at (bound k)) (λ n. done (val.number k n)) (decimal_text formed.0 ++ rest) rest rest formed.0 (val.number k formed.0) (number_fine (bound k) formed.0 rest free) (λ _. inl refl))
      value_fine (array ty) v rest formed free =
          subst (λ w. IsFine w rest (value_at most (array ty) (value_text w ++ rest))) (sym formed.1)
          (told_fine (val.array (vals_of formed.0)) rest (array_at (value_at most ty) (most ty) (value_text (val.array (vals_of formed.0)) ++ rest))
          (skim_array (skim_at most ty) (most ty) (value_text (val.array (vals_of formed.0)) ++ rest))
          (array_fine (value_at most ty) (HasForm Few Beyond ty) (value_fine ty) (text_opens ty) (most ty) formed.0 rest formed.2))
      value_fine (struct name tys) v rest formed free =
          subst (λ w. IsFine w rest (value_at most (struct name tys) (value_text w ++ rest))) (sym formed.1)
          (subst (λ (t : List ℕ). IsFine (val.struct (vals_of formed.0)) rest (value_at most (struct name tys) t)) (sym (struct_text (vals_of formed.0) rest))
          (fine_then (byte_at 40) (λ _. members_at most true tys >>= λ vs. byte_at 41 >>= λ _. done (val.struct vs)) (40 ∷ (values_text (vals_of formed.0) ++ (41 ∷ rest)))
          (values_text (vals_of formed.0) ++ (41 ∷ rest)) rest tt (val.struct (vals_of formed.0)) (inl (byte_complete 40 (values_text (vals_of formed.0) ++ (41 ∷ rest))))
          (λ _.
          fine_then (members_at most true tys) (λ vs. byte_at 41 >>= λ _. done (val.struct vs)) (values_text (vals_of formed.0) ++ (41 ∷ rest)) (41 ∷ rest) rest (vals_of formed.0) (val.struct (vals_of formed.0))
          (members_fine true tys formed.0 (41 ∷ rest) formed.2 (no_digit_below 41 rest (omega arith)))
          (λ _. inl (then_byte 41 (done (val.struct (vals_of formed.0))) rest)))))
      value_fine (enum name tys) v rest formed free =
          subst (λ w. IsFine w rest (value_at most (enum name tys) (value_text w ++ rest))) (sym formed.2)
          (subst (λ (t : List ℕ). IsFine (val.enum formed.0 formed.1) rest (value_at most (enum name tys) t)) (sym (enum_text formed.0 formed.1 rest))
          (fine_then (number_at (count tys)) (λ index. byte_at 58 >>= λ _. variant_at most tys index >>= λ w. done (val.enum index w))
          (decimal_text formed.0 ++ (58 ∷ (value_text formed.1 ++ rest))) (58 ∷ (value_text formed.1 ++ rest)) rest formed.0 (val.enum formed.0 formed.1)
          (number_fine (count tys) formed.0 (58 ∷ (value_text formed.1 ++ rest)) (no_digit_above 58 (value_text formed.1 ++ rest) (omega arith)))
          (λ read.
          fine_then (byte_at 58) (λ _. variant_at most tys formed.0 >>= λ w. done (val.enum formed.0 w)) (58 ∷ (value_text formed.1 ++ rest)) (value_text formed.1 ++ rest) rest tt (val.enum formed.0 formed.1)
          (inl (byte_complete 58 (value_text formed.1 ++ rest)))
          (λ _.
          fine_then (variant_at most tys formed.0) (λ w. done (val.enum formed.0 w)) (value_text formed.1 ++ rest) rest rest formed.1 (val.enum formed.0 formed.1)
          (variant_fine tys formed.0 formed.1 rest formed.3
          (number_sound (count tys) formed.0 (decimal_text formed.0 ++ (58 ∷ (value_text formed.1 ++ rest))) (58 ∷ (value_text formed.1 ++ rest)) read).0 free)
          (λ _. inl refl)))))
      value_fine (nonzero k) v rest formed free = absurd formed
      value_fine range_check v rest formed free = absurd formed
      value_fine gas_builtin v rest formed free = absurd formed
      value_fine (box ty) v rest formed free = absurd formed
      value_fine (snapshot ty) v rest formed free = absurd formed
      value_fine (dict k) v rest formed free = absurd formed
      value_fine (dict_entry k) v rest formed free = absurd formed
      value_fine (squashed_dict k) v rest formed free = absurd formed
      value_fine (uninitialized ty) v rest formed free = absurd formed

      members_fine : (is_first : Bool) (tys : Tys) (vs : List Plain) (rest : List ℕ) → HaveForms Few Beyond tys vs → StartsWithNoDigit rest
          → IsFine (vals_of vs) rest (members_at most is_first tys (left_text is_first vs ++ rest))
      members_fine is_first no_types vs rest formed free =
          inl (ap (λ us. members_at most is_first no_types (left_text is_first us ++ rest)) formed ∙ ap (members_at most is_first no_types) (left_nil is_first rest) ∙ ap (λ us. answers (Ok (vals_of us)) rest) (sym formed))
      members_fine is_first (types ty tys) vs rest formed free =
          subst (λ us. IsFine (vals_of us) rest (members_at most is_first (types ty tys) (left_text is_first us ++ rest))) (sym formed.2)
          (subst (λ (t : List ℕ). IsFine (vals_of (formed.0 ∷ formed.1)) rest (members_at most is_first (types ty tys) t)) (sym (member_text is_first formed.0 formed.1 rest))
          (fine_then (member_at is_first (value_at most ty)) (λ v. members_at most false tys >>= λ us. done (values v us))
          (next_text is_first formed.0 ++ (left_text false formed.1 ++ rest)) (left_text false formed.1 ++ rest) rest formed.0 (vals_of (formed.0 ∷ formed.1))
          (member_fine (value_at most ty) (HasForm Few Beyond ty) (value_fine ty) is_first formed.0 (left_text false formed.1 ++ rest) formed.3 (left_follow formed.1 rest free))
          (λ _.
          fine_then (members_at most false tys) (λ us. done (values formed.0 us)) (left_text false formed.1 ++ rest) rest rest (vals_of formed.1) (vals_of (formed.0 ∷ formed.1))
          (members_fine false tys formed.1 rest formed.4 free) (λ _. inl refl))))

      variant_fine : (tys : Tys) (index : ℕ) (v : Plain) (rest : List ℕ) → HasVariantForm Few Beyond tys index v → index < count tys → StartsWithNoDigit rest
          → IsFine v rest (variant_at most tys index (value_text v ++ rest))
      variant_fine no_types index v rest formed below free = absurd (omega arith)
      variant_fine (types ty tys) zero v rest formed below free = value_fine ty v rest formed free
      variant_fine (types ty tys) (suc index) v rest formed below free = variant_fine tys index v rest formed (omega arith) free

    pub lines_fine : (tys : List Ty) (vs : List Plain) → AllFormed Few Beyond tys vs → IsFine vs [] (lines_at most tys (flat_map line_of vs))
    unfolding lines_at line_at
    lines_fine [] vs all = inl (ap (λ us. lines_at most [] (flat_map line_of us)) all ∙ ap (λ us. answers (Ok us) []) (sym all))
    lines_fine (ty ∷ tys) vs all =
        subst (λ us. IsFine us [] (lines_at most (ty ∷ tys) (flat_map line_of us))) (sym all.2)
        (subst (λ (t : List ℕ). IsFine (all.0 ∷ all.1) [] (lines_at most (ty ∷ tys) t)) (sym (line_text all.0 (flat_map line_of all.1)))
        (fine_then (line_at most ty) (λ v. lines_at most tys >>= λ us. done (v ∷ us)) (value_text all.0 ++ (10 ∷ flat_map line_of all.1)) (flat_map line_of all.1) [] all.0 (all.0 ∷ all.1)
        (fine_then (value_at most ty) (λ v. byte_at 10 >>= λ _. done v) (value_text all.0 ++ (10 ∷ flat_map line_of all.1)) (10 ∷ flat_map line_of all.1) (flat_map line_of all.1) all.0 all.0
        (value_fine ty all.0 (10 ∷ flat_map line_of all.1) all.3 (no_digit_here (flat_map line_of all.1)))
        (λ _. inl (then_byte 10 (done all.0) (flat_map line_of all.1))))
        (λ _.
        fine_then (lines_at most tys) (λ us. done (all.0 ∷ us)) (flat_map line_of all.1) [] [] all.1 (all.0 ∷ all.1) (lines_fine tys all.1 all.4) (λ _. inl refl))))
