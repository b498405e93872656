-- A text that is refused has the fault that is told: of the first line, of the gas, of the number of lines, and of a byte with which no
-- input goes on.
use Rattle.std.proofs.Common.{◌≡◌, ◌≢◌, ℕ, ◌^◌, ◌<◌, inl, inr, ◌++◌, List, [], ◌∷◌, length, Bool, true, false, cond, ◌==◌, Option, Some, None, Result, Ok, Err, refl, sym, ap, ◌∙◌, subst, append_assoc, arith}
use Rattle.std.proofs.lemmas.Bool.Decides.{nat_tests}
use Rattle.std.specs.List.{AllByRecursion, flat_map}
use Rattle.text_reading.specs.Places.{Continues}
use Rattle.text_reading.specs.Reading.{first, Answer, Answer.answers}
use Rattle.text_reading.specs.declared.place.Place.{Place}
use Rattle.text_reading.proofs.OnePlace.{front_is}
use Rattle.type_trees.specs.Ty.{Ty}
use Rattle.value_trees.specs.Val.{Plain}
use Rattle.typed_values.specs.Faults.{Ends, place_behind, HasGas, BeginsWithGas, HasLines, IsInputOf, IsAnyFormOf, IsSyntax, IsInputFault, any_length, CanBeGiven}
use Rattle.typed_values.specs.Inputs.{InputView, most_elements, line_of, input_text}
use Rattle.typed_values.specs.Reading.{gas_of, first_line_at, lines_at, line_count, place_of, fault_of, stop_of, of_lines, of_gas, input_at}
use Rattle.typed_values.specs.declared.fault.ValueLimit.{ValueLimit}
use Rattle.typed_values.specs.declared.fault.ValueLimit.TheVariants as limits
use Rattle.typed_values.specs.declared.fault.InputFault.{InputFault}
use Rattle.typed_values.specs.declared.fault.InputFault.TheVariants as faults
use Rattle.typed_values.proofs.FirstLine.{first_any, first_read, first_steady, first_no_limits, first_append, one_gas, in_range, out_of_range}
use Rattle.typed_values.proofs.FormsRead.{IsFine, lines_fine}
use Rattle.typed_values.proofs.InputTexts.{first_text, text_of, lines_sound, lines_complete}
use Rattle.typed_values.proofs.Steady.{Anything, Took}
use Rattle.typed_values.proofs.SteadyValues.{IsEnd, lines_steady}

-- a stop at these bytes is told at the place behind what was taken
pub place_is : (text front rest : List ℕ) → text ≡ front ++ rest → place_of text rest ≡ place_behind front
place_is text front rest parts = ap place_behind (front_is text front rest parts)

shifted : (front more : List ℕ) (byte : ℕ) → (front ++ (byte ∷ [])) ++ more ≡ front ++ (byte ∷ more)
shifted front more byte = append_assoc front (byte ∷ []) more

-- ---- the first line

line_ends : (text rest : List ℕ) → first_line_at text ≡ answers (Err None) rest → Took Anything first_line_at text rest (Err None)
    → (front : List ℕ) × (text ≡ front ++ rest) × Ends BeginsWithGas text front rest
line_ends text rest was took = (took.taken, took.is, record { place = record { parts = took.is; before = before; longest = longest }; none = none })
  where
    before : Continues BeginsWithGas took.taken
    before =
        let more = took.ends.0 ++ [] in
        let found = first_any (took.taken ++ more) [] took.ends.1 (took.ends.2 [] tt) in
        (found.0, more, ([], found.2))

    longest : (byte : ℕ) (more : List ℕ) → rest ≡ byte ∷ more → Continues BeginsWithGas (took.taken ++ (byte ∷ [])) → ⊥
    longest byte more is goes =
        let other = byte ∷ goes.1 in
        let read : first_line_at (took.taken ++ other) ≡ answers (Ok (gas_of goes.0)) goes.2.0 =
        ap first_line_at (sym (shifted took.taken goes.1 byte) ∙ goes.2.1) ∙ first_read goes.0 goes.2.0 in
        let stops : first_line_at (took.taken ++ other) ≡ answers (Err None) other = took.local other (ap first is) in
        clash other goes.2.0 (gas_of goes.0) (sym stops ∙ read)
      where
        clash : (a b : List ℕ) (o : Option ℕ) → ◌≡◌ {A = Answer ValueLimit (Option ℕ)} (answers (Err None) a) (answers (Ok o) b) → ⊥
        clash a b o is = cc

    none : (gas : ℕ) → BeginsWithGas gas text → ⊥
    none gas has =
        let read : first_line_at text ≡ answers (Ok (gas_of gas)) has.0 = ap first_line_at has.1 ∙ first_read gas has.0 in
        let never : ⊥ = cc in never

-- ---- the lines of the values

module _ (tys : List Ty) (gas : ℕ) (within : gas < 2 ^ 32) where
  -- an input whose lines these are
  pub input_of : (vs : List Plain) (lines rest : List ℕ) → lines_at most_elements tys lines ≡ answers (Ok vs) rest
      → IsInputOf tys (record { gas = gas; args = vs }) (first_text gas lines)
  input_of vs lines rest read =
      let found = lines_sound most_elements tys lines rest vs read in
      let input : InputView = record { gas = gas; args = vs } in
      (record { gas = within; args = found.0 }, ap (first_text gas) found.1 ∙ sym (text_of input))

  -- the lines of an input with this first line
  pub lines_of : (i : InputView) (lines : List ℕ) → first_text gas lines ≡ input_text i → lines ≡ flat_map line_of i.args
  lines_of i lines same = (one_gas gas i.gas (first_text gas lines) lines (flat_map line_of i.args) refl (same ∙ text_of i)).1

module _ (tys : List Ty) (gas : ℕ) (within : gas < 2 ^ 32) (text behind rest : List ℕ) (is_gas : HasGas gas text behind)
    (was : lines_at most_elements tys behind ≡ answers (Err None) rest) (took : Took IsEnd (lines_at most_elements tys) behind rest (Err None)) where
  abbrev front : List ℕ
  front = first_text gas took.taken

  parts : text ≡ front ++ rest
  parts = is_gas ∙ ap (first_text gas) took.is ∙ sym (first_append gas took.taken rest)

  -- where a byte goes on, the lines are these
  lines_so : (i : InputView) (byte : ℕ) (more : List ℕ) → (front ++ (byte ∷ [])) ++ more ≡ input_text i → took.taken ++ (byte ∷ more) ≡ flat_map line_of i.args
  lines_so i byte more same =
      lines_of tys gas within i (took.taken ++ (byte ∷ more)) (sym (first_append gas took.taken (byte ∷ more)) ∙ sym (shifted front more byte) ∙ same)

  stops : (byte : ℕ) (more other : List ℕ) → rest ≡ byte ∷ more → lines_at most_elements tys (took.taken ++ (byte ∷ other)) ≡ answers (Err None) (byte ∷ other)
  stops byte more other is = took.local (byte ∷ other) (ap first is)

  before : Continues (IsInputOf tys) front
  before =
      let more = took.ends.0 ++ [] in
      let found = input_of tys gas within took.ends.1 (took.taken ++ more) [] (took.ends.2 [] refl) in
      (record { gas = gas; args = took.ends.1 }, more, (found.0, first_append gas took.taken more ∙ found.1))

  longest : (byte : ℕ) (more : List ℕ) → rest ≡ byte ∷ more → Continues (IsInputOf tys) (front ++ (byte ∷ [])) → ⊥
  longest byte more is goes =
      let lines = lines_so goes.0 byte goes.1 goes.2.1 in
      let read : lines_at most_elements tys (flat_map line_of goes.0.args) ≡ answers (Ok goes.0.args) [] = lines_complete most_elements tys goes.0.args goes.2.0.args in
      clash (byte ∷ goes.1) goes.0.args (sym (stops byte more goes.1 is) ∙ ap (lines_at most_elements tys) lines ∙ read)
    where
      clash : (a : List ℕ) (vs : List Plain) → ◌≡◌ {A = Answer ValueLimit (List Plain)} (answers (Err None) a) (answers (Ok vs) []) → ⊥
      clash a vs is = cc

  no_form : (byte : ℕ) (more : List ℕ) → rest ≡ byte ∷ more → Continues (IsAnyFormOf tys) (front ++ (byte ∷ [])) → ⊥
  no_form byte more is goes =
      let lines = lines_so goes.0 byte goes.1 goes.2.1 in
      clash (byte ∷ goes.1) (lines_at most_elements tys (flat_map line_of goes.0.args)) (sym (stops byte more goes.1 is) ∙ ap (lines_at most_elements tys) lines)
      (lines_fine any_length (Unit {0}) most_elements tys goes.0.args goes.2.0)
    where
      clash : (a : List ℕ) (answer : Answer ValueLimit (List Plain)) → answers (Err None) a ≡ answer → IsFine goes.0.args [] answer → ⊥
      clash a answer is (inl fine) = let never : ⊥ = cc in never
      clash a answer is (inr limit) =
          let left = limit.2 in
          let never : ⊥ = cc in never

  none : (i : InputView) → IsInputOf tys i text → ⊥
  none i has =
      let lines : behind ≡ flat_map line_of i.args = lines_of tys gas within i behind (sym is_gas ∙ has.1) in
      let read : lines_at most_elements tys (flat_map line_of i.args) ≡ answers (Ok i.args) [] = lines_complete most_elements tys i.args has.0.args in
      clash i.args (sym was ∙ ap (lines_at most_elements tys) lines ∙ read)
    where
      clash : (vs : List Plain) → ◌≡◌ {A = Answer ValueLimit (List Plain)} (answers (Err None) rest) (answers (Ok vs) []) → ⊥
      clash vs is = cc

  pub syntax_is : (taken : List ℕ) × (text ≡ taken ++ rest) × IsSyntax tys text taken rest
  syntax_is = (front, parts, record { ends = record { place = record { parts = parts; before = before; longest = longest }; none = none }; no_form = no_form })

-- ---- the whole

-- what holds where the lines of the values stop at a limit
abbrev pub OfLimits : List Ty → List ℕ → InputFault → Type 0 → Type 0
OfLimits tys text fault G =
    (gas : ℕ) (behind rest : List ℕ) (limit : ValueLimit) → HasLines tys text → gas < 2 ^ 32 → HasGas gas text behind → lines_at most_elements tys behind ≡ answers (Err (Some limit)) rest
    → fault_of (stop_of (Some limit)) text rest ≡ fault → G

pub refused : (G : Type 0) (tys : List Ty) (text : List ℕ) (fault : InputFault) → AllByRecursion CanBeGiven tys → (IsInputFault tys text fault → G) → OfLimits tys text fault G
    → input_at tys text ≡ Err fault → G
refused G tys text fault can known of_limits is = by_line (first_line_at text) refl is
  where
    fault_is : (other : InputFault) → ◌≡◌ {A = Result InputView InputFault} (Err other) (Err fault) → other ≡ fault
    fault_is other is = cc

    by_values : (gas : ℕ) (behind : List ℕ) (answer : Answer ValueLimit (List Plain)) → lines_at most_elements tys behind ≡ answer → gas < 2 ^ 32 → HasGas gas text behind
        → line_count behind ≡ length tys → of_lines gas text answer ≡ Err fault → G
    by_values gas behind (answers (Ok vs) left) was within is_gas lines is = let never : ⊥ = cc in absurd never
    by_values gas behind (answers (Err None) left) was within is_gas lines is =
        let found = syntax_is tys gas within text behind left is_gas was (lines_steady most_elements tys can behind left (Err None) tt was) in
        let has : HasLines tys text = record { gas = gas; behind = behind; is_gas = is_gas; in_range = within; lines = lines } in
        let here : IsInputFault tys text (faults.Syntax (place_of text left)) = (found.0, left, place_is text found.0 left found.1, inr (has, found.2)) in
        known (subst (IsInputFault tys text) (fault_is (faults.Syntax (place_of text left)) is) here)
    by_values gas behind (answers (Err (Some limit)) left) was within is_gas lines is =
        let has : HasLines tys text = record { gas = gas; behind = behind; is_gas = is_gas; in_range = within; lines = lines } in
        of_limits gas behind left limit has within is_gas was (fault_is (fault_of (stop_of (Some limit)) text left) is)

    counted : (m n : ℕ) → (m == n) ≡ true → m ≡ n
    counted m n test = grind (arith, nat_tests)

    uncounted : (m n : ℕ) → (m == n) ≡ false → m ≢ n
    uncounted m n test = grind (arith, nat_tests)

    by_count : (t : Bool) (gas : ℕ) (behind : List ℕ) → (line_count behind == length tys) ≡ t → gas < 2 ^ 32 → HasGas gas text behind
        → cond t (of_lines gas text (lines_at most_elements tys behind)) (Err (faults.LineCount (length tys) (line_count behind))) ≡ Err fault → G
    by_count true gas behind test within is_gas is =
        by_values gas behind (lines_at most_elements tys behind) refl within is_gas (counted (line_count behind) (length tys) test) is
    by_count false gas behind test within is_gas is =
        let here : IsInputFault tys text (faults.LineCount (length tys) (line_count behind)) =
        (gas, behind, is_gas, within, refl, refl, uncounted (line_count behind) (length tys) test) in
        known (subst (IsInputFault tys text) (fault_is (faults.LineCount (length tys) (line_count behind)) is) here)

    by_line : (answer : Answer ValueLimit (Option ℕ)) → first_line_at text ≡ answer → of_gas tys text answer ≡ Err fault → G
    by_line (answers (Err None) rest) was is =
        let found = line_ends text rest was (first_steady text rest (Err None) tt was) in
        let here : IsInputFault tys text (faults.Syntax (place_of text rest)) = (found.0, rest, place_is text found.0 rest found.1, inl found.2) in
        known (subst (IsInputFault tys text) (fault_is (faults.Syntax (place_of text rest)) is) here)
    by_line (answers (Err (Some limit)) rest) was is = absurd (first_no_limits text rest limit was)
    by_line (answers (Ok None) rest) was is =
        let found = first_any text rest None was in
        let here : IsInputFault tys text faults.GasRange = (found.0, rest, found.2, out_of_range found.0 found.1) in
        known (subst (IsInputFault tys text) (fault_is faults.GasRange is) here)
    by_line (answers (Ok (Some gas)) rest) was is =
        let found = first_any text rest (Some gas) was in
        let in_it = in_range found.0 gas found.1 in
        let is_gas : HasGas gas text rest = found.2 ∙ ap (λ n. first_text n rest) in_it.0 in
        by_count (line_count rest == length tys) gas rest refl (subst (λ n. n < 2 ^ 32) in_it.0 in_it.1) is_gas is

-- ---- faults that no limit is

not_syntax : (limit : ValueLimit) (text rest : List ℕ) (place : Place) → fault_of (stop_of (Some limit)) text rest ≡ faults.Syntax place → ⊥
not_syntax limits.OutOfRange text rest place is = cc
not_syntax limits.LongArray text rest place is = cc

not_count : (limit : ValueLimit) (text rest : List ℕ) (expected found : ℕ) → fault_of (stop_of (Some limit)) text rest ≡ faults.LineCount expected found → ⊥
not_count limits.OutOfRange text rest expected found is = cc
not_count limits.LongArray text rest expected found is = cc

not_gas : (limit : ValueLimit) (text rest : List ℕ) → fault_of (stop_of (Some limit)) text rest ≡ faults.GasRange → ⊥
not_gas limits.OutOfRange text rest is = cc
not_gas limits.LongArray text rest is = cc

pub refused_syntax : (tys : List Ty) (text : List ℕ) (place : Place) → AllByRecursion CanBeGiven tys → input_at tys text ≡ Err (faults.Syntax place) → IsInputFault tys text (faults.Syntax place)
refused_syntax tys text place can is =
    refused (IsInputFault tys text (faults.Syntax place)) tys text (faults.Syntax place) can (λ fault. fault) (λ gas behind rest limit has within is_gas was told. absurd (not_syntax limit text rest place told)) is

pub refused_count : (tys : List Ty) (text : List ℕ) (expected found : ℕ) → AllByRecursion CanBeGiven tys → input_at tys text ≡ Err (faults.LineCount expected found)
    → IsInputFault tys text (faults.LineCount expected found)
refused_count tys text expected found can is =
    refused (IsInputFault tys text (faults.LineCount expected found)) tys text (faults.LineCount expected found) can (λ fault. fault) (λ gas behind rest limit has within is_gas was told. absurd (not_count limit text rest expected found told)) is

pub refused_gas : (tys : List Ty) (text : List ℕ) → AllByRecursion CanBeGiven tys → input_at tys text ≡ Err faults.GasRange → IsInputFault tys text faults.GasRange
refused_gas tys text can is = refused (IsInputFault tys text faults.GasRange) tys text faults.GasRange can (λ fault. fault) (λ gas behind rest limit has within is_gas was told. absurd (not_gas limit text rest told)) is
