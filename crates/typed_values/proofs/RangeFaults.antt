-- A number that is told to be out of range is.
use Rattle.std.proofs.Common.{◌≡◌, ℕ, ◌^◌, ◌<◌, ◌++◌, List, [], ◌∷◌, Some, Result, Ok, Err, refl, sym, ap, ◌∙◌, subst, append_assoc, ◌⊎◌, inl, inr}
use Rattle.std.specs.List.{AllByRecursion, flat_map}
use Rattle.byte_reading.specs.Decimal.{decimal_text}
use Rattle.text_reading.specs.Places.{Continues}
use Rattle.text_reading.specs.Reading.{Answer.answers}
use Rattle.text_reading.specs.declared.place.Place.{Place}
use Rattle.text_reading.proofs.Readers.{cancel}
use Rattle.type_trees.specs.Ty.{Ty}
use Rattle.typed_values.specs.Faults.{HasGas, HasLines, IsInputOf, IsAnyFormOf, IsOutOfRange, HasNumberOutOfRange, IsInputFault, CanBeGiven}
use Rattle.typed_values.specs.Inputs.{InputView, most_elements, line_of}
use Rattle.typed_values.specs.Reading.{lines_at, place_of, fault_of, stop_of, input_at}
use Rattle.typed_values.specs.declared.fault.ValueLimit.{ValueLimit}
use Rattle.typed_values.specs.declared.fault.ValueLimit.TheVariants as limits
use Rattle.typed_values.specs.declared.fault.InputFault.{InputFault}
use Rattle.typed_values.specs.declared.fault.InputFault.TheVariants as faults
use Rattle.typed_values.proofs.FirstLine.{first_append}
use Rattle.typed_values.proofs.InputFaults.{place_is, input_of, lines_of, refused, refused_syntax, refused_count, refused_gas}
use Rattle.typed_values.proofs.InputTexts.{first_text, text_of, lines_complete, input_sound}
use Rattle.typed_values.proofs.OneFault.{one_fault, not_both, of_number}
use Rattle.typed_values.proofs.RangeForms.{range_lines}
use Rattle.typed_values.proofs.RangeStops.{Apart, OutTook, last_apart}
use Rattle.typed_values.proofs.RangeValues.{lines_out}
use Rattle.typed_values.proofs.SteadyValues.{IsEnd}

module _ (tys : List Ty) (can : AllByRecursion CanBeGiven tys) (gas : ℕ) (within : gas < 2 ^ 32) (text behind rest : List ℕ) (is_gas : HasGas gas text behind)
    (was : lines_at most_elements tys behind ≡ answers (Err (Some limits.OutOfRange)) rest) (one : OutTook IsEnd (lines_at most_elements tys) (first_text gas []) behind rest) where
  abbrev front : List ℕ
  front = first_text gas one.taken

  parts : text ≡ front ++ rest
  parts = is_gas ∙ ap (first_text gas) one.is ∙ sym (first_append gas one.taken rest)

  before : Continues (IsInputOf tys) front
  before =
      let more = one.ends.0 ++ [] in
      let found = input_of tys gas within one.ends.1 (one.taken ++ more) [] (one.ends.2 [] refl) in
      (record { gas = gas; args = one.ends.1 }, more, (found.0, first_append gas one.taken more ∙ found.1))

  -- what stands behind the number belongs to the lines
  moved : (more : List ℕ) → (front ++ decimal_text one.number) ++ more ≡ first_text gas (one.taken ++ (decimal_text one.number ++ more))
  moved more = append_assoc front (decimal_text one.number) more ∙ first_append gas one.taken (decimal_text one.number ++ more)

  form : Continues (IsAnyFormOf tys) (front ++ decimal_text one.number)
  form =
      let l = range_lines tys can behind rest one.number one.behind was one.is_number in
      let input : InputView = record { gas = gas; args = l.values } in
      let taken : l.taken ≡ one.taken = cancel l.taken one.taken rest (sym l.is ∙ one.is) in
      let lines : one.taken ++ (decimal_text one.number ++ l.ending) ≡ flat_map line_of l.values =
      ap (λ (t : List ℕ). t ++ (decimal_text one.number ++ l.ending)) (sym taken) ∙ sym l.text
      in
      (input, l.ending, (l.form, moved l.ending ∙ ap (first_text gas) lines ∙ sym (text_of input)))

  pub no_input : Continues (IsInputOf tys) (front ++ decimal_text one.number) → ⊥
  no_input goes =
      let i = goes.0 in
      let lines : one.taken ++ (decimal_text one.number ++ goes.1) ≡ flat_map line_of i.args =
      lines_of tys gas within i (one.taken ++ (decimal_text one.number ++ goes.1)) (sym (moved goes.1) ∙ goes.2.1)
      in
      one.never goes.1 [] i.args (ap (lines_at most_elements tys) lines ∙ lines_complete most_elements tys i.args goes.2.0.args)

  pub out_of_range : (taken : List ℕ) × (text ≡ taken ++ rest) × IsOutOfRange tys text taken
  out_of_range = (
    front,
    parts,
    record {
      number = one.number;
      there = rest;
      behind = one.behind;
      parts = parts;
      is_number = one.is_number;
      begins_there = subst Apart (first_append gas [] one.taken) one.apart;
      before = before;
      form = form;
      no_input = no_input;
    },
  )

pub refused_range : (tys : List Ty) (text : List ℕ) (place : Place) → AllByRecursion CanBeGiven tys → input_at tys text ≡ Err (faults.OutOfRange place) → HasNumberOutOfRange tys text place
refused_range tys text place can is =
    refused (HasNumberOutOfRange tys text place) tys text (faults.OutOfRange place) can (λ fault. fault.0) told is
  where
    same_place : (a : Place) → faults.OutOfRange a ≡ faults.OutOfRange place → a ≡ place
    same_place a same = cc

    told : (gas : ℕ) (behind rest : List ℕ) (limit : ValueLimit) → HasLines tys text → gas < 2 ^ 32 → HasGas gas text behind
        → lines_at most_elements tys behind ≡ answers (Err (Some limit)) rest → fault_of (stop_of (Some limit)) text rest ≡ faults.OutOfRange place → HasNumberOutOfRange tys text place
    told gas behind rest limits.LongArray has within is_gas was same = let never : ⊥ = cc in absurd never
    told gas behind rest limits.OutOfRange has within is_gas was same =
        let one = lines_out most_elements tys can (first_text gas []) behind rest (last_apart (103 ∷ (97 ∷ (115 ∷ (32 ∷ decimal_text gas)))) 10 refl) was in
        let found = out_of_range tys can gas within text behind rest is_gas was one in
        (found.0, has, found.2, sym (same_place (place_of text rest) same) ∙ place_is text found.0 rest found.1)

-- ---- a fault is told

pub not_memory : (limit : ValueLimit) (text rest : List ℕ) → fault_of (stop_of (Some limit)) text rest ≡ faults.Memory → ⊥
not_memory limits.OutOfRange text rest is = cc
not_memory limits.LongArray text rest is = cc

pub told_fault : (tys : List Ty) (text : List ℕ) (fault : InputFault) → AllByRecursion CanBeGiven tys → IsInputFault tys text fault → ((there : Place) → fault ≡ faults.LongArray there → ⊥)
    → (input_at tys text ≡ Err fault) ⊎ ((there : Place) × (input_at tys text ≡ Err (faults.LongArray there)))
told_fault tys text fault can has no_array = go (input_at tys text) refl
  where
    same : (other : InputFault) → input_at tys text ≡ Err other → other ≡ fault → (input_at tys text ≡ Err fault) ⊎ ((there : Place) × (input_at tys text ≡ Err (faults.LongArray there)))
    same other was is = inl (subst (λ f. input_at tys text ≡ Err f) is was)

    number : (place : Place) → input_at tys text ≡ Err (faults.OutOfRange place) → (fault ≡ faults.OutOfRange place) ⊎ ((there : Place) × (fault ≡ faults.LongArray there))
        → (input_at tys text ≡ Err fault) ⊎ ((there : Place) × (input_at tys text ≡ Err (faults.LongArray there)))
    number place was (inl is) = same (faults.OutOfRange place) was (sym is)
    number place was (inr array) = absurd (no_array array.0 array.1)

    go : (answer : Result InputView InputFault) → input_at tys text ≡ answer → (input_at tys text ≡ Err fault) ⊎ ((there : Place) × (input_at tys text ≡ Err (faults.LongArray there)))
    go (Ok i) was = let found = input_sound tys text i was in absurd (not_both tys text fault i has found.0 found.1)
    go (Err (faults.Syntax place)) was = same (faults.Syntax place) was (one_fault tys text (faults.Syntax place) fault (refused_syntax tys text place can was) has)
    go (Err (faults.OutOfRange place)) was = number place was (of_number tys text place fault (refused_range tys text place can was) has)
    go (Err (faults.LineCount expected found)) was =
        same (faults.LineCount expected found) was (one_fault tys text (faults.LineCount expected found) fault (refused_count tys text expected found can was) has)
    go (Err (faults.LongArray there)) was = inr (there, was)
    go (Err faults.GasRange) was = same faults.GasRange was (one_fault tys text faults.GasRange fault (refused_gas tys text can was) has)
    go (Err faults.Memory) was =
        let never : ⊥ = refused ⊥ tys text faults.Memory can (λ h. h) (λ gas behind rest limit lines within is_gas stops told. not_memory limit text rest told) was in
        absurd never
