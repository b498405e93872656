-- A text is read as an input if and only if it is the text of that input, and the input fits.
use Rattle.std.proofs.Common.{◌≡◌, ℕ, suc, ◌^◌, ◌<◌, ◌≤◌, ◌⊎◌, inl, inr, ◌++◌, List, [], ◌∷◌, length, Bool, true, false, cond, ◌==◌, Option, Some, None, Result, Ok, Err, codes, refl, sym, ap, ◌∙◌, subst, arith}
use Rattle.std.proofs.lemmas.Bool.Decides.{nat_tests}
use Rattle.std.proofs.lemmas.List.{append-nil, append_assoc}
use Rattle.std.specs.List.{flat_map}
use Rattle.byte_reading.specs.Decimal.{decimal_text, StartsWithNoDigit, StartsWithNumber}
use Rattle.text_reading.specs.Reading.{Answer, Answer.answers, Reader, done, go_on, ◌>>=◌}
use Rattle.type_trees.specs.Ty.{Ty}
use Rattle.value_trees.specs.Val.{Plain}
use Rattle.typed_values.specs.Inputs.{InputView, IsGiven, FitsMain, AllGiven, most_elements, line_of, input_text}
use Rattle.typed_values.specs.Marks.{ValueReader, byte_at}
use Rattle.typed_values.specs.Reading.{value_at, line_at, lines_at, gas_at, head_at, first_line_at, line_count, of_lines, values_of, of_gas, input_at}
use Rattle.typed_values.specs.Texts.{value_text}
use Rattle.typed_values.specs.declared.fault.ValueLimit.{ValueLimit}
use Rattle.typed_values.specs.declared.fault.InputFault.{InputFault}
use Rattle.typed_values.specs.declared.fault.InputFault.TheVariants as faults
use Rattle.typed_values.proofs.Leading.{gas_sound, gas_complete}
use Rattle.typed_values.proofs.LineFacts.{as_many_lines}
use Rattle.typed_values.proofs.ReadBoth.{both, after, done_is, byte_sound, byte_complete, byte_then, then_byte}
use Rattle.typed_values.proofs.ValuesComplete.{value_complete}
use Rattle.typed_values.proofs.ValuesSound.{value_sound}

pub no_digit_here : (rest : List ℕ) → StartsWithNoDigit (10 ∷ rest)
no_digit_here rest = λ is. let from : 48 ≤ 10 = is.0 in omega arith

-- ---- the lines of values

pub line_text : (v : Plain) (rest : List ℕ) → line_of v ++ rest ≡ value_text v ++ (10 ∷ rest)
line_text v rest = append_assoc (value_text v) (10 ∷ []) rest

pub lines_sound : (most : Ty → ℕ) (tys : List Ty) (bytes rest : List ℕ) (vs : List Plain) → lines_at most tys bytes ≡ answers (Ok vs) rest
    → AllGiven most tys vs × (bytes ≡ flat_map line_of vs)
unfolding lines_at line_at
lines_sound most [] [] rest vs is = let vs_is : vs ≡ [] = cc in (vs_is, ap (flat_map line_of) (sym vs_is))
lines_sound most [] (byte ∷ more) rest vs is = let never : ⊥ = cc in absurd never
lines_sound most (ty ∷ tys) bytes rest vs is =
    let one = both (line_at most ty) (λ v. lines_at most tys >>= λ us. done (v ∷ us)) bytes rest vs is in
    let value = both (value_at most ty) (λ v. byte_at 10 >>= λ _. done v) bytes one.1 one.0 one.2 in
    let close = byte_then 10 (done value.0) value.1 one.1 one.0 value.3 in
    let value_end = done_is value.0 one.0 close.0 one.1 close.2 in
    let given = value_sound most ty bytes value.1 value.0 value.2 in
    let others = both (lines_at most tys) (λ us. done (one.0 ∷ us)) one.1 rest vs one.3 in
    let more = lines_sound most tys one.1 others.1 others.0 others.2 in
    let end = done_is (one.0 ∷ others.0) vs others.1 rest others.3 in
    put_together value.0 one.0 others.0 value.1 close.0 one.1 value_end.0 value_end.1 given.0 given.1 close.1 more.0 more.1 end.0
  where
    put_together : (v w : Plain) (us : List Plain) (a b c : List ℕ) → v ≡ w → b ≡ c → IsGiven most ty v → bytes ≡ value_text v ++ a → a ≡ 10 ∷ b → AllGiven most tys us
        → c ≡ flat_map line_of us → w ∷ us ≡ vs → AllGiven most (ty ∷ tys) vs × (bytes ≡ flat_map line_of vs)
    put_together v w us a b c v_is b_is given text close all others vs_is =
        let whole : bytes ≡ value_text w ++ (10 ∷ flat_map line_of us) = cc in (
          (w, us, sym vs_is, subst (IsGiven most ty) v_is given, all),
          whole ∙ sym (line_text w (flat_map line_of us)) ∙ ap (flat_map line_of) vs_is,
        )

pub lines_complete : (most : Ty → ℕ) (tys : List Ty) (vs : List Plain) → AllGiven most tys vs → lines_at most tys (flat_map line_of vs) ≡ answers (Ok vs) []
unfolding lines_at line_at
lines_complete most [] vs all = ap (λ us. lines_at most [] (flat_map line_of us)) all ∙ ap (λ us. answers (Ok us) []) (sym all)
lines_complete most (ty ∷ tys) vs all =
    ap (λ us. lines_at most (ty ∷ tys) (flat_map line_of us)) all.2
    ∙ ap (lines_at most (ty ∷ tys)) (line_text all.0 (flat_map line_of all.1))
    ∙ after (line_at most ty) (λ v. lines_at most tys >>= λ us. done (v ∷ us)) (value_text all.0 ++ (10 ∷ flat_map line_of all.1)) (flat_map line_of all.1) all.0
    (
    after (value_at most ty) (λ v. byte_at 10 >>= λ _. done v) (value_text all.0 ++ (10 ∷ flat_map line_of all.1)) (10 ∷ flat_map line_of all.1) all.0
    (value_complete most ty all.0 (10 ∷ flat_map line_of all.1) all.3 (no_digit_here (flat_map line_of all.1)))
    ∙ then_byte 10 (done all.0) (flat_map line_of all.1)
    )
    ∙ after (lines_at most tys) (λ us. done (all.0 ∷ us)) (flat_map line_of all.1) [] all.1 (lines_complete most tys all.1 all.4)
    ∙ ap (λ us. answers (Ok us) []) (sym all.2)

pub as_many : (most : Ty → ℕ) (tys : List Ty) (vs : List Plain) → AllGiven most tys vs → length vs ≡ length tys
as_many most [] vs all = ap length all
as_many most (ty ∷ tys) vs all = ap length all.2 ∙ ap suc (as_many most tys all.1 all.4)

-- ---- the first line

abbrev pub first_text : ℕ → List ℕ → List ℕ
first_text gas rest = 103 ∷ (97 ∷ (115 ∷ (32 ∷ (decimal_text gas ++ (10 ∷ rest)))))

pub first_sound : (text rest : List ℕ) (gas : ℕ) → first_line_at text ≡ answers (Ok (Some gas)) rest → (gas < 2 ^ 32) × (text ≡ first_text gas rest)
unfolding first_line_at head_at
first_sound text rest gas is =
    let head = both head_at (λ _. gas_at >>= λ g. byte_at 10 >>= λ _. done g) text rest (Some gas) is in
    let g = byte_then 103 (byte_at 97 >>= λ _. byte_at 115 >>= λ _. byte_at 32) text head.1 head.0 head.2 in
    let a = byte_then 97 (byte_at 115 >>= λ _. byte_at 32) g.0 head.1 head.0 g.2 in
    let s = byte_then 115 (byte_at 32) a.0 head.1 head.0 a.2 in
    let space = byte_sound 32 s.0 head.1 head.0 s.2 in
    let number = both gas_at (λ g. byte_at 10 >>= λ _. done g) head.1 rest (Some gas) head.3 in
    let close = byte_then 10 (done number.0) number.1 rest (Some gas) number.3 in
    let end = done_is number.0 (Some gas) close.0 rest close.2 in
    let read : gas_at head.1 ≡ answers (Ok (Some gas)) number.1 = number.2 ∙ ap (λ x. answers (Ok x) number.1) end.0 in
    let found = gas_sound gas head.1 number.1 read in
    (found.0, put_together g.0 a.0 s.0 head.1 number.1 close.0 g.1 a.1 s.1 space found.1.text_is close.1 end.1)
  where
    put_together : (a b c d e f : List ℕ) → text ≡ 103 ∷ a → a ≡ 97 ∷ b → b ≡ 115 ∷ c → c ≡ 32 ∷ d → d ≡ decimal_text gas ++ e → e ≡ 10 ∷ f → f ≡ rest → text ≡ first_text gas rest
    put_together a b c d e f one two three four five six seven = cc

pub first_complete : (gas : ℕ) (rest : List ℕ) → gas < 2 ^ 32 → first_line_at (first_text gas rest) ≡ answers (Ok (Some gas)) rest
unfolding first_line_at head_at
first_complete gas rest within =
    after head_at (λ _. gas_at >>= λ g. byte_at 10 >>= λ _. done g) (first_text gas rest) (decimal_text gas ++ (10 ∷ rest)) tt
    (
    then_byte 103 (byte_at 97 >>= λ _. byte_at 115 >>= λ _. byte_at 32) (97 ∷ (115 ∷ (32 ∷ (decimal_text gas ++ (10 ∷ rest)))))
    ∙ then_byte 97 (byte_at 115 >>= λ _. byte_at 32) (115 ∷ (32 ∷ (decimal_text gas ++ (10 ∷ rest))))
    ∙ then_byte 115 (byte_at 32) (32 ∷ (decimal_text gas ++ (10 ∷ rest)))
    ∙ byte_complete 32 (decimal_text gas ++ (10 ∷ rest))
    )
    ∙ after gas_at (λ g. byte_at 10 >>= λ _. done g) (decimal_text gas ++ (10 ∷ rest)) (10 ∷ rest) (Some gas)
    (gas_complete gas (decimal_text gas ++ (10 ∷ rest)) (10 ∷ rest) within (record { text_is = refl; longest = inr (no_digit_here rest) }))
    ∙ then_byte 10 (done (Some gas)) rest

-- ---- the whole

pub text_of : (i : InputView) → input_text i ≡ first_text i.gas (flat_map line_of i.args)
text_of i = ap (λ t. 103 ∷ (97 ∷ (115 ∷ (32 ∷ (decimal_text i.gas ++ (10 ∷ t)))))) (append-nil (flat_map line_of i.args))

pub input_sound : (tys : List Ty) (text : List ℕ) (i : InputView) → input_at tys text ≡ Ok i → FitsMain tys i × (text ≡ input_text i)
input_sound tys text i is = by_line (first_line_at text) refl is
  where
    by_values : (gas : ℕ) (rest : List ℕ) (answer : Answer ValueLimit (List Plain)) → lines_at most_elements tys rest ≡ answer → gas < 2 ^ 32 → text ≡ first_text gas rest
        → of_lines gas text answer ≡ Ok i → FitsMain tys i × (text ≡ input_text i)
    by_values gas rest (answers (Err why) left) was within first is = let never : ⊥ = cc in absurd never
    by_values gas rest (answers (Ok vs) left) was within first is =
        let found = lines_sound most_elements tys rest left vs was in
        let input : InputView = record { gas = gas; args = vs } in
        let same : input ≡ i = cc in
        let fits : FitsMain tys input = record { gas = within; args = found.0 } in
        (subst (FitsMain tys) same fits, first ∙ ap (first_text gas) found.1 ∙ sym (text_of input) ∙ ap input_text same)

    by_count : (t : Bool) (gas : ℕ) (rest : List ℕ) → gas < 2 ^ 32 → text ≡ first_text gas rest
        → cond t (of_lines gas text (lines_at most_elements tys rest)) (Err (faults.LineCount (length tys) (line_count rest))) ≡ Ok i → FitsMain tys i × (text ≡ input_text i)
    by_count false gas rest within first is = let never : ⊥ = cc in absurd never
    by_count true gas rest within first is = by_values gas rest (lines_at most_elements tys rest) refl within first is

    by_line : (answer : Answer ValueLimit (Option ℕ)) → first_line_at text ≡ answer → of_gas tys text answer ≡ Ok i → FitsMain tys i × (text ≡ input_text i)
    by_line (answers (Err why) rest) was is = let never : ⊥ = cc in absurd never
    by_line (answers (Ok None) rest) was is = let never : ⊥ = cc in absurd never
    by_line (answers (Ok (Some gas)) rest) was is =
        let first = first_sound text rest gas was in
        by_count (line_count rest == length tys) gas rest first.0 first.1 is

pub input_complete : (tys : List Ty) (i : InputView) → FitsMain tys i → input_at tys (input_text i) ≡ Ok i
input_complete tys i fits =
    ap (input_at tys) (text_of i)
    ∙ ap (of_gas tys (first_text i.gas (flat_map line_of i.args))) (first_complete i.gas (flat_map line_of i.args) fits.gas)
    ∙ ap (λ t. cond t (of_lines i.gas (first_text i.gas (flat_map line_of i.args)) (lines_at most_elements tys (flat_map line_of i.args)))
    (Err (faults.LineCount (length tys) (line_count (flat_map line_of i.args)))))
    (same_count (line_count (flat_map line_of i.args)) (length tys) (as_many_lines i.args ∙ as_many most_elements tys i.args fits.args))
    ∙ ap (of_lines i.gas (first_text i.gas (flat_map line_of i.args))) (lines_complete most_elements tys i.args fits.args)
  where
    same_count : (x y : ℕ) → x ≡ y → (x == y) ≡ true
    same_count x y h = grind (arith, nat_tests)
