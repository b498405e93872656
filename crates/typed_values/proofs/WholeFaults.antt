-- Where a number is told to be out of range, no array is too long; and each fault is told.
use Rattle.std.proofs.Common.{◌≡◌, ◌↔◌, ℕ, ◌^◌, ◌<◌, inl, inr, ◌++◌, List, [], ◌∷◌, Some, Result, Ok, Err, refl, sym, ap, ◌∙◌, subst, append_assoc, arith}
use Rattle.std.proofs.lemmas.List.{append-nil}
use Rattle.std.specs.List.{AllByRecursion, flat_map}
use Rattle.byte_reading.specs.Decimal.{decimal_text, StartsWithNumber}
use Rattle.text_reading.specs.Places.{Continues}
use Rattle.text_reading.specs.Reading.{Answer.answers, Answer}
use Rattle.text_reading.specs.declared.place.Place.{Place}
use Rattle.text_reading.proofs.Readers.{cancel}
use Rattle.type_trees.specs.Ty.{Ty}
use Rattle.value_trees.specs.Val.{Plain}
use Rattle.typed_values.specs.Faults.{HasGas, HasLines, IsInputOf, IsLong, IsInputFault, CanBeGiven, HasFlatArrays}
use Rattle.typed_values.specs.Inputs.{InputView, most_elements, line_of}
use Rattle.typed_values.specs.Reading.{lines_at, place_of, fault_of, stop_of, input_at}
use Rattle.typed_values.specs.declared.fault.ValueLimit.{ValueLimit}
use Rattle.typed_values.specs.declared.fault.ValueLimit.TheVariants as limits
use Rattle.typed_values.specs.declared.fault.InputFault.{InputFault}
use Rattle.typed_values.specs.declared.fault.InputFault.TheVariants as faults
use Rattle.typed_values.proofs.FirstLine.{first_append}
use Rattle.typed_values.proofs.InputFaults.{place_is, lines_of, refused, refused_syntax, refused_count, refused_gas}
use Rattle.typed_values.proofs.InputTexts.{first_text, text_of, input_sound}
use Rattle.typed_values.proofs.LongFaults.{refused_long}
use Rattle.typed_values.proofs.LongForms.{all_lines}
use Rattle.typed_values.proofs.NoArrays.{NoBracket, no_bracket_append, number_no_bracket}
use Rattle.typed_values.proofs.OneFault.{goes_on_from, one_fault, not_both}
use Rattle.typed_values.proofs.RangeFaults.{no_input, out_of_range, not_memory}
use Rattle.typed_values.proofs.RangeStops.{last_apart}
use Rattle.typed_values.proofs.RangeValues.{lines_out}
use Rattle.typed_values.proofs.ShortForms.{split, Stop, InLong, ShortOrLong}
use Rattle.typed_values.proofs.ShortValues.{FewLines, lines_shorten}

same_rest : (front a b : List ℕ) → front ++ a ≡ front ++ b → a ≡ b
same_rest [] a b same = same
same_rest (f ∷ front) a b same = let tails : front ++ a ≡ front ++ b = cc in same_rest front a b tails

bracket_within : (front behind : List ℕ) → NoBracket (front ++ (91 ∷ behind)) → ⊥
bracket_within [] behind none = none.0 refl
bracket_within (byte ∷ front) behind none = bracket_within front behind none.1

-- what has no `[` stands before one
reaches : (key rest front behind : List ℕ) → NoBracket key → key ++ rest ≡ front ++ (91 ∷ behind) → (more : List ℕ) × (front ≡ key ++ more) × (rest ≡ more ++ (91 ∷ behind))
reaches key rest front behind none same = elim (split key rest front (91 ∷ behind) same) [
  | inr r ↦ r
  | inl l ↦ go l.0 l.1
]
  where
    bracket : (byte : ℕ) (more : List ℕ) → byte ∷ (more ++ rest) ≡ 91 ∷ behind → byte ≡ 91
    bracket byte more is = cc

    go : (more : List ℕ) → key ≡ front ++ more → (more : List ℕ) × (front ≡ key ++ more) × (rest ≡ more ++ (91 ∷ behind))
    go [] is =
        let key_is : key ≡ front = is ∙ append-nil front in
        ([], sym key_is ∙ sym (append-nil key), same_rest front rest (91 ∷ behind) (sym (ap (λ (t : List ℕ). t ++ rest) key_is) ∙ same))
    go (byte ∷ more) is =
        let tails : byte ∷ (more ++ rest) ≡ 91 ∷ behind =
        same_rest front (byte ∷ (more ++ rest)) (91 ∷ behind) (sym (ap (λ (t : List ℕ). t ++ rest) is ∙ append_assoc front (byte ∷ more) rest) ∙ same)
        in
        let key_is : key ≡ front ++ (91 ∷ more) = is ∙ ap (λ (b : ℕ). front ++ (b ∷ more)) (bracket byte more tails) in
        absurd (bracket_within front more (subst NoBracket key_is none))

first_no_bracket : (gas : ℕ) → NoBracket (first_text gas [])
first_no_bracket gas =
    ((λ s. omega arith), ((λ s. omega arith), ((λ s. omega arith), ((λ s. omega arith), no_bracket_append (decimal_text gas) (10 ∷ []) (number_no_bracket gas) ((λ s. omega arith), tt)))))

module _ (tys : List Ty) (can : AllByRecursion CanBeGiven tys) (flat : AllByRecursion HasFlatArrays tys) (gas : ℕ) (within : gas < 2 ^ 32) (text behind rest : List ℕ) (is_gas : HasGas gas text behind)
    (was : lines_at most_elements tys behind ≡ answers (Err (Some limits.OutOfRange)) rest) (taken : List ℕ) (n : ℕ) (end : List ℕ) (taken_is : behind ≡ taken ++ rest) (is_number : StartsWithNumber rest n end)
    (none : Continues (IsInputOf tys) (first_text gas taken ++ decimal_text n) → ⊥) (front : List ℕ) (long : IsLong tys text front) where
  -- what stands before the `[` has the number in it
  before_bracket : (lines before x z : List ℕ) → front ≡ first_text gas lines → lines ≡ before ++ z → taken ++ x ≡ before → (more : List ℕ) × (x ≡ decimal_text n ++ more) → ⊥
  before_bracket lines before x z front_is lines_is before_is number_is =
      let lines_whole : lines ≡ taken ++ (decimal_text n ++ (number_is.0 ++ z)) =
      lines_is
      ∙ ap (λ (t : List ℕ). t ++ z) (sym before_is ∙ ap (λ (t : List ℕ). taken ++ t) number_is.1)
      ∙ append_assoc taken (decimal_text n ++ number_is.0) z
      ∙ ap (λ (t : List ℕ). taken ++ t) (append_assoc (decimal_text n) number_is.0 z)
      in
      let front_whole : front ≡ (first_text gas taken ++ decimal_text n) ++ (number_is.0 ++ z) =
      front_is
      ∙ ap (first_text gas) lines_whole
      ∙ sym (first_append gas taken (decimal_text n ++ (number_is.0 ++ z)))
      ∙ sym (append_assoc (first_text gas taken) (decimal_text n) (number_is.0 ++ z))
      in
      none (goes_on_from (IsInputOf tys) (first_text gas taken ++ decimal_text n) (number_is.0 ++ z) (subst (Continues (IsInputOf tys)) front_whole (goes_on_from (IsInputOf tys) front (91 ∷ []) long.before)))

  -- the `[` stands behind another one, or is it
  behind_other : (lines before elements : List ℕ) → lines ++ (91 ∷ (long.elements ++ (44 ∷ []))) ≡ before ++ (91 ∷ elements) → (z : List ℕ) × (lines ≡ before ++ z)
  behind_other lines before elements same = elim (split before (91 ∷ elements) lines (91 ∷ (long.elements ++ (44 ∷ []))) (sym same)) [
    | inr r ↦ (r.0, r.1)
    | inl l ↦ go l.0 l.1
  ]
    where
      tail_of : (byte : ℕ) (a b : List ℕ) → 91 ∷ a ≡ byte ∷ b → a ≡ b
      tail_of byte a b is = cc

      go : (more : List ℕ) → before ≡ lines ++ more → (z : List ℕ) × (lines ≡ before ++ z)
      go [] is = ([], sym (append-nil before ∙ is ∙ append-nil lines))
      go (byte ∷ more) is =
          let tails : 91 ∷ (long.elements ++ (44 ∷ [])) ≡ byte ∷ (more ++ (91 ∷ elements)) =
          same_rest lines (91 ∷ (long.elements ++ (44 ∷ []))) (byte ∷ (more ++ (91 ∷ elements))) (same ∙ ap (λ (t : List ℕ). t ++ (91 ∷ elements)) is ∙ append_assoc lines (byte ∷ more) (91 ∷ elements))
          in
          absurd (bracket_within more elements (subst NoBracket (tail_of byte (long.elements ++ (44 ∷ [])) (more ++ (91 ∷ elements)) tails) (no_bracket_append long.elements (44 ∷ []) long.same_array ((λ s. omega arith), tt))))

  module _ (lines : List ℕ) (front_is : front ≡ first_text gas lines) (behind_is : behind ≡ lines ++ (91 ∷ (long.elements ++ (44 ∷ long.behind)))) where
    abbrev whole : List ℕ
    whole = lines ++ (91 ∷ (long.elements ++ (44 ∷ [])))

    moved : (more : List ℕ) → (front ++ (91 ∷ (long.elements ++ (44 ∷ [])))) ++ more ≡ first_text gas (whole ++ more)
    moved more =
        ap (λ (t : List ℕ). (t ++ (91 ∷ (long.elements ++ (44 ∷ [])))) ++ more) front_is
        ∙ ap (λ (t : List ℕ). t ++ more) (first_append gas lines (91 ∷ (long.elements ++ (44 ∷ []))))
        ∙ first_append gas whole more

    short_never : (w : List Plain) (more : List ℕ) → FewLines tys w → all_lines w ++ [] ≡ whole ++ more → ⊥
    short_never w more few same =
        let input : InputView = record { gas = gas; args = w } in
        long.too_long (input, more, (few, moved more ∙ ap (first_text gas) (sym same ∙ append-nil (all_lines w)) ∙ sym (text_of input)))

    long_never : InLong (lines_at most_elements tys) whole → ⊥
    long_never k = by_stop (k.stop (k.behind ++ long.behind))
      where
        parts : behind ≡ k.before ++ (91 ∷ (k.elements ++ (44 ∷ (k.behind ++ long.behind))))
        parts =
            behind_is
            ∙ sym (append_assoc lines (91 ∷ (long.elements ++ (44 ∷ []))) long.behind ∙ ap (λ (t : List ℕ). lines ++ (91 ∷ t)) (append_assoc long.elements (44 ∷ []) long.behind))
            ∙ ap (λ (t : List ℕ). t ++ long.behind) k.parts
            ∙ append_assoc k.before (91 ∷ (k.elements ++ (44 ∷ k.behind))) long.behind
            ∙ ap (λ (t : List ℕ). k.before ++ (91 ∷ t)) (append_assoc k.elements (44 ∷ k.behind) long.behind)

        not_told : ◌≡◌ {A = Answer ValueLimit (List Plain)} (answers (Err (Some limits.OutOfRange)) rest) (answers (Err (Some limits.LongArray)) (91 ∷ (k.elements ++ (44 ∷ (k.behind ++ long.behind))))) → ⊥
        not_told is = cc

        rest_of : (x : List ℕ) → ◌≡◌ {A = Answer ValueLimit (List Plain)} (answers (Err (Some limits.OutOfRange)) rest) (answers (Err (Some limits.OutOfRange)) (x ++ (91 ∷ (k.elements ++ (44 ∷ (k.behind ++ long.behind)))))) → rest ≡ x ++ (91 ∷ (k.elements ++ (44 ∷ (k.behind ++ long.behind))))
        rest_of x is = cc

        by_stop : Stop (lines_at most_elements tys) k.before (91 ∷ (k.elements ++ (44 ∷ (k.behind ++ long.behind)))) → ⊥
        by_stop (inl told) = not_told (sym was ∙ ap (lines_at most_elements tys) parts ∙ told)
        by_stop (inr out) =
            let rest_is : rest ≡ out.0 ++ (91 ∷ (k.elements ++ (44 ∷ (k.behind ++ long.behind)))) = rest_of out.0 (sym was ∙ ap (lines_at most_elements tys) parts ∙ out.1) in
            let before_is : taken ++ out.0 ≡ k.before =
            cancel (taken ++ out.0) k.before (91 ∷ (k.elements ++ (44 ∷ (k.behind ++ long.behind)))) (append_assoc taken out.0 (91 ∷ (k.elements ++ (44 ∷ (k.behind ++ long.behind)))) ∙ ap (λ (t : List ℕ). taken ++ t) (sym rest_is) ∙ sym taken_is ∙ parts)
            in
            let number_is = reaches (decimal_text n) end out.0 (k.elements ++ (44 ∷ (k.behind ++ long.behind))) (number_no_bracket n) (sym is_number.text_is ∙ rest_is) in
            let z = behind_other lines k.before (k.elements ++ (44 ∷ k.behind)) k.parts in
            before_bracket lines k.before out.0 z.0 front_is z.1 before_is (number_is.0, number_is.1)

    by_form : ⊥
    by_form =
        let f = long.form.0 in
        let lines_are : whole ++ long.form.1 ≡ flat_map line_of f.args = lines_of tys gas within f (whole ++ long.form.1) (sym (moved long.form.1) ∙ long.form.2.1) in
        go (lines_shorten tys can flat f.args whole long.form.1 long.form.2.0 (append-nil (all_lines f.args) ∙ sym lines_are))
      where
        go : ShortOrLong (FewLines tys) all_lines (lines_at most_elements tys) whole [] → ⊥
        go (inl s) = short_never s.0 s.1 s.2 s.3
        go (inr k) = long_never k

  pub not_long : ⊥
  not_long =
      let found = reaches (first_text gas []) behind front (long.elements ++ (44 ∷ long.behind)) (first_no_bracket gas) (first_append gas [] behind ∙ sym is_gas ∙ long.parts) in
      by_form found.0 (found.1 ∙ first_append gas [] found.0) found.2

pub refused_out : (tys : List Ty) (text : List ℕ) (place : Place) → AllByRecursion CanBeGiven tys → AllByRecursion HasFlatArrays tys → input_at tys text ≡ Err (faults.OutOfRange place)
    → IsInputFault tys text (faults.OutOfRange place)
refused_out tys text place can flat is = refused (IsInputFault tys text (faults.OutOfRange place)) tys text (faults.OutOfRange place) can (λ fault. fault) told is
  where
    same_place : (a : Place) → faults.OutOfRange a ≡ faults.OutOfRange place → a ≡ place
    same_place a same = cc

    told : (gas : ℕ) (behind rest : List ℕ) (limit : ValueLimit) → HasLines tys text → gas < 2 ^ 32 → HasGas gas text behind
        → lines_at most_elements tys behind ≡ answers (Err (Some limit)) rest → fault_of (stop_of (Some limit)) text rest ≡ faults.OutOfRange place → IsInputFault tys text (faults.OutOfRange place)
    told gas behind rest limits.LongArray has within is_gas was same = let never : ⊥ = cc in absurd never
    told gas behind rest limits.OutOfRange has within is_gas was same =
        let one = lines_out most_elements tys can (first_text gas []) behind rest (last_apart (103 ∷ (97 ∷ (115 ∷ (32 ∷ decimal_text gas)))) 10 refl) was in
        let found = out_of_range tys can gas within text behind rest is_gas was one in (
          (found.0, has, found.2, sym (same_place (place_of text rest) same) ∙ place_is text found.0 rest found.1),
          λ front long.
              not_long tys can flat gas within text behind rest is_gas was one.taken one.number one.behind one.is one.is_number
              (no_input tys can gas within text behind rest is_gas was one) front long,
        )

-- what is told is a fault of the text, ..
refused_whole : (tys : List Ty) (text : List ℕ) (fault : InputFault) → AllByRecursion CanBeGiven tys → AllByRecursion HasFlatArrays tys → input_at tys text ≡ Err fault → IsInputFault tys text fault
refused_whole tys text (faults.Syntax place) can flat was = refused_syntax tys text place can was
refused_whole tys text (faults.OutOfRange place) can flat was = refused_out tys text place can flat was
refused_whole tys text (faults.LineCount expected found) can flat was = refused_count tys text expected found can was
refused_whole tys text (faults.LongArray place) can flat was = refused_long tys text place can flat was
refused_whole tys text faults.GasRange can flat was = refused_gas tys text can was
refused_whole tys text faults.Memory can flat was =
    refused ⊥ tys text faults.Memory can (λ h. h) (λ gas behind rest limit lines within is_gas stops told. not_memory limit text rest told) was

-- .. and each fault is told
told_whole : (tys : List Ty) (text : List ℕ) (fault : InputFault) → AllByRecursion CanBeGiven tys → AllByRecursion HasFlatArrays tys → IsInputFault tys text fault → input_at tys text ≡ Err fault
told_whole tys text fault can flat has = go (input_at tys text) refl
  where
    go : (answer : Result InputView InputFault) → input_at tys text ≡ answer → input_at tys text ≡ Err fault
    go (Ok i) was = let found = input_sound tys text i was in absurd (not_both tys text fault i has found.0 found.1)
    go (Err other) was = subst (λ f. input_at tys text ≡ Err f) (one_fault tys text other fault (refused_whole tys text other can flat was) has) was

pub told_if_it_is : (tys : List Ty) (text : List ℕ) (fault : InputFault) → AllByRecursion CanBeGiven tys → AllByRecursion HasFlatArrays tys → (input_at tys text ≡ Err fault) ↔ IsInputFault tys text fault
told_if_it_is tys text fault can flat = (refused_whole tys text fault can flat, told_whole tys text fault can flat)
