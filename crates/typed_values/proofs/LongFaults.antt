-- An array that is told to be too long is.
use Rattle.std.proofs.Common.{◌≡◌, ℕ, ◌^◌, ◌<◌, inl, inr, ◌++◌, List, [], ◌∷◌, Some, Err, sym, ap, ◌∙◌, append_assoc}
use Rattle.std.specs.List.{AllByRecursion, flat_map}
use Rattle.text_reading.specs.Places.{Continues}
use Rattle.text_reading.specs.Reading.{Answer.answers, Answer}
use Rattle.text_reading.specs.declared.place.Place.{Place}
use Rattle.type_trees.specs.Ty.{Ty}
use Rattle.value_trees.specs.Val.{Plain}
use Rattle.typed_values.specs.Faults.{HasGas, HasLines, IsInputOf, IsFormOf, IsLong, IsInputFault, any_length, few_elements, CanBeGiven, HasFlatArrays}
use Rattle.typed_values.specs.Inputs.{InputView, AllGiven, most_elements, line_of}
use Rattle.typed_values.specs.Reading.{lines_at, place_of, fault_of, stop_of, input_at}
use Rattle.typed_values.specs.declared.fault.ValueLimit.{ValueLimit}
use Rattle.typed_values.specs.declared.fault.ValueLimit.TheVariants as limits
use Rattle.typed_values.specs.declared.fault.InputFault.TheVariants as faults
use Rattle.typed_values.proofs.ArrayForms.{IsFew}
use Rattle.typed_values.proofs.FewRead.{lines_few}
use Rattle.typed_values.proofs.FirstLine.{first_append}
use Rattle.typed_values.proofs.InputFaults.{place_is, lines_of, refused}
use Rattle.typed_values.proofs.InputTexts.{first_text, text_of}
use Rattle.typed_values.proofs.LongForms.{LongIn, LinesOf, all_lines, lines_long}

module _ (tys : List Ty) (flat : AllByRecursion HasFlatArrays tys) (gas : ℕ) (within : gas < 2 ^ 32) (text behind rest : List ℕ) (is_gas : HasGas gas text behind)
    (l : LongIn (AllGiven most_elements tys) (LinesOf tys) all_lines (lines_at most_elements tys) behind rest) where
  abbrev front : List ℕ
  front = first_text gas l.taken

  -- up to the comma that is one too many
  abbrev front_long : List ℕ
  front_long = front ++ (91 ∷ (l.elements ++ (44 ∷ [])))

  parts : text ≡ front ++ rest
  parts = is_gas ∙ ap (first_text gas) l.is ∙ sym (first_append gas l.taken rest)

  before : Continues (IsInputOf tys) (front ++ (91 ∷ []))
  before =
      let input : InputView = record { gas = gas; args = l.given } in (
        input,
        l.given_end,
        (
          record { gas = within; args = l.is_given },
          append_assoc front (91 ∷ []) l.given_end ∙ first_append gas l.taken (91 ∷ l.given_end) ∙ ap (first_text gas) (sym l.given_text) ∙ sym (text_of input),
        ),
      )

  moved : (more : List ℕ) → front_long ++ more ≡ first_text gas (l.taken ++ (91 ∷ (l.elements ++ (44 ∷ more))))
  moved more =
      append_assoc front (91 ∷ (l.elements ++ (44 ∷ []))) more
      ∙ ap (λ (t : List ℕ). front ++ (91 ∷ t)) (append_assoc l.elements (44 ∷ []) more)
      ∙ first_append gas l.taken (91 ∷ (l.elements ++ (44 ∷ more)))

  form : Continues (IsFormOf any_length ⊥ tys) front_long
  form =
      let input : InputView = record { gas = gas; args = l.form } in
      (input, l.form_end, (l.is_form, moved l.form_end ∙ ap (first_text gas) (sym l.form_text) ∙ sym (text_of input)))

  clash : (vs : List Plain) (left : List ℕ) (answer : Answer ValueLimit (List Plain)) → answer ≡ answers (Err (Some limits.LongArray)) left → IsFew vs [] answer → ⊥
  clash vs left answer is (inl read) = let never : ⊥ = cc in never
  clash vs left answer is (inr stop) =
      let out = stop.1 in
      let never : ⊥ = cc in never

  too_long : Continues (IsFormOf few_elements ⊥ tys) front_long → ⊥
  too_long goes =
      let i = goes.0 in
      let lines : l.taken ++ (91 ∷ (l.elements ++ (44 ∷ goes.1))) ≡ flat_map line_of i.args =
      lines_of tys gas within i (l.taken ++ (91 ∷ (l.elements ++ (44 ∷ goes.1)))) (sym (moved goes.1) ∙ goes.2.1)
      in
      clash i.args (91 ∷ (l.elements ++ (44 ∷ goes.1))) (lines_at most_elements tys (flat_map line_of i.args)) (ap (lines_at most_elements tys) (sym lines) ∙ l.local goes.1)
      (lines_few tys flat i.args goes.2.0)

  long_is : (taken : List ℕ) × (text ≡ taken ++ rest) × IsLong tys text taken
  long_is = (
    front,
    parts,
    record {
      elements = l.elements;
      behind = l.behind;
      parts = parts ∙ ap (λ (t : List ℕ). front ++ t) l.rest_is;
      same_array = l.same_array;
      before = before;
      form = form;
      too_long = too_long;
    },
  )

pub refused_long : (tys : List Ty) (text : List ℕ) (place : Place) → AllByRecursion CanBeGiven tys → AllByRecursion HasFlatArrays tys → input_at tys text ≡ Err (faults.LongArray place)
    → IsInputFault tys text (faults.LongArray place)
refused_long tys text place can flat is = refused (IsInputFault tys text (faults.LongArray place)) tys text (faults.LongArray place) can (λ fault. fault) told is
  where
    same_place : (a : Place) → faults.LongArray a ≡ faults.LongArray place → a ≡ place
    same_place a same = cc

    told : (gas : ℕ) (behind rest : List ℕ) (limit : ValueLimit) → HasLines tys text → gas < 2 ^ 32 → HasGas gas text behind
        → lines_at most_elements tys behind ≡ answers (Err (Some limit)) rest → fault_of (stop_of (Some limit)) text rest ≡ faults.LongArray place → IsInputFault tys text (faults.LongArray place)
    told gas behind rest limits.OutOfRange has within is_gas was same = let never : ⊥ = cc in absurd never
    told gas behind rest limits.LongArray has within is_gas was same =
        let found = long_is tys flat gas within text behind rest is_gas (lines_long tys can flat behind rest was) in
        (found.0, has, found.2, sym (same_place (place_of text rest) same) ∙ place_is text found.0 rest found.1)
