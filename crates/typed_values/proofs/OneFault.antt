-- A text has one fault at most, and an input's text has none.
use Rattle.std.proofs.Common.{◌≡◌, ◌≢◌, ℕ, ◌^◌, ◌<◌, ◌≤◌, ◌⊎◌, inl, inr, ◌++◌, List, [], ◌∷◌, true, false, refl, sym, ap, ◌∙◌, subst, append_assoc, arith}
use Rattle.std.proofs.lemmas.Str.Parse.{digit_from_value}
use Rattle.std.specs.List.{AllByRecursion, flat_map}
use Rattle.std.specs.Str.Parse.{AllDigits}
use Rattle.byte_reading.specs.Decimal.{decimal_text, StartsWithNumber}
use Rattle.byte_reading.proofs.DecimalLaws.{is_decimal-decimal_text}
use Rattle.text_reading.specs.Places.{Continues}
use Rattle.text_reading.specs.Tokens.{is_digit}
use Rattle.text_reading.specs.declared.place.Place.{Place}
use Rattle.text_reading.proofs.OnePlace.{one_place}
use Rattle.type_trees.specs.Ty.{Ty}
use Rattle.typed_values.specs.Faults.{Ends, place_behind, HasGas, BeginsWithGas, HasLines, IsInputOf, IsFormOf, IsAnyFormOf, IsSyntax, IsOutOfRange, IsLong, HasNumberOutOfRange, IsInputFault, few_elements}
use Rattle.typed_values.specs.Inputs.{InputView, FitsMain, most_elements, line_of, input_text}
use Rattle.typed_values.specs.Reading.{line_count}
use Rattle.typed_values.specs.declared.fault.InputFault.{InputFault}
use Rattle.typed_values.specs.declared.fault.InputFault.TheVariants as faults
use Rattle.typed_values.proofs.FirstLine.{one_gas}
use Rattle.typed_values.proofs.FormsOfValues.{input_has_form, any_form}
use Rattle.typed_values.proofs.InputTexts.{text_of, as_many}
use Rattle.typed_values.proofs.LineFacts.{as_many_lines}
use Rattle.typed_values.proofs.Numbers.{a_digit}

-- ---- fronts of one text

-- what goes on from more bytes goes on from fewer
pub goes_on_from : {A : Type 0} (IsText : A → List ℕ → Type 0) (front more : List ℕ) → Continues IsText (front ++ more) → Continues IsText front
goes_on_from IsText front more goes = (goes.0, more ++ goes.1, subst (IsText goes.0) (append_assoc front more goes.1) goes.2)

abbrev Shorter : List ℕ → List ℕ → List ℕ → List ℕ → Type 0
Shorter front rest other other_rest = (byte : ℕ) × (more : List ℕ) × (other ≡ front ++ (byte ∷ more)) × (rest ≡ byte ∷ (more ++ other_rest))

compare : (front rest other other_rest : List ℕ) → front ++ rest ≡ other ++ other_rest
    → ((front ≡ other) × (rest ≡ other_rest)) ⊎ (Shorter front rest other other_rest ⊎ Shorter other other_rest front rest)
compare [] rest [] other_rest same = inl (refl, same)
compare [] rest (byte ∷ other) other_rest same = inr (inl (byte, other, refl, same))
compare (byte ∷ front) rest [] other_rest same = inr (inr (byte, front, refl, sym same))
compare (byte ∷ front) rest (c ∷ other) other_rest same = go (compare front rest other other_rest tails)
  where
    heads : byte ≡ c
    heads = cc

    tails : front ++ rest ≡ other ++ other_rest
    tails = cc

    go : ((front ≡ other) × (rest ≡ other_rest)) ⊎ (Shorter front rest other other_rest ⊎ Shorter other other_rest front rest)
        → ((byte ∷ front ≡ c ∷ other) × (rest ≡ other_rest)) ⊎ (Shorter (byte ∷ front) rest (c ∷ other) other_rest ⊎ Shorter (c ∷ other) other_rest (byte ∷ front) rest)
    go (inl both) = let tail = both.0 in inl (cc, both.1)
    go (inr (inl l)) = let tail = l.2 in inr (inl (l.0, l.1, cc, l.3))
    go (inr (inr l)) = let tail = l.2 in inr (inr (l.0, l.1, cc, l.3))

-- where no text goes on from the front, and one goes on from the other, the other is shorter
shorter : {A : Type 0} (IsText : A → List ℕ → Type 0) (text front rest other other_rest : List ℕ) → text ≡ front ++ rest → text ≡ other ++ other_rest
    → (Continues IsText front → ⊥) → Continues IsText other → Shorter other other_rest front rest
shorter IsText text front rest other other_rest parts other_parts none goes = go (compare front rest other other_rest (sym parts ∙ other_parts))
  where
    go : ((front ≡ other) × (rest ≡ other_rest)) ⊎ (Shorter front rest other other_rest ⊎ Shorter other other_rest front rest) → Shorter other other_rest front rest
    go (inl both) = absurd (none (subst (Continues IsText) (sym both.0) goes))
    go (inr (inl l)) = absurd (none (goes_on_from IsText front (l.0 ∷ l.1) (subst (Continues IsText) l.2 goes)))
    go (inr (inr l)) = l

cancel : (front a b : List ℕ) → front ++ a ≡ front ++ b → a ≡ b
cancel [] a b same = same
cancel (byte ∷ front) a b same = let tails : front ++ a ≡ front ++ b = cc in cancel front a b tails

-- ---- a byte with which no input goes on, and what is told at another place

module _ (tys : List Ty) (text front rest : List ℕ) (syntax_is : IsSyntax tys text front rest) where
  no_other : (other behind : List ℕ) → text ≡ other ++ behind → Continues (IsAnyFormOf tys) other → (Continues (IsInputOf tys) other → ⊥) → ⊥
  no_other other behind parts form none =
      let l = shorter (IsInputOf tys) text other behind front rest parts syntax_is.ends.place.parts none syntax_is.ends.place.before in
      let longer : Continues (IsAnyFormOf tys) (front ++ (l.0 ∷ l.1)) = subst (Continues (IsAnyFormOf tys)) l.2 form in
      let one : Continues (IsAnyFormOf tys) (front ++ (l.0 ∷ [])) =
      goes_on_from (IsAnyFormOf tys) (front ++ (l.0 ∷ [])) l.1 (subst (Continues (IsAnyFormOf tys)) (sym (append_assoc front (l.0 ∷ []) l.1)) longer) in
      syntax_is.no_form l.0 (l.1 ++ behind) l.3 one

number_parts : (text front there behind : List ℕ) (n : ℕ) → text ≡ front ++ there → StartsWithNumber there n behind → text ≡ (front ++ decimal_text n) ++ behind
number_parts text front there behind n parts is = parts ∙ ap (λ (t : List ℕ). front ++ t) is.text_is ∙ sym (append_assoc front (decimal_text n) behind)

abbrev upto : List ℕ → List ℕ → List ℕ
upto front elements = front ++ (91 ∷ (elements ++ (44 ∷ [])))

long_parts : (text front elements behind : List ℕ) → text ≡ front ++ (91 ∷ (elements ++ (44 ∷ behind))) → text ≡ upto front elements ++ behind
long_parts text front elements behind parts =
    parts ∙ ap (λ (t : List ℕ). front ++ (91 ∷ t)) (sym (append_assoc elements (44 ∷ []) behind)) ∙ sym (append_assoc front (91 ∷ (elements ++ (44 ∷ []))) behind)

syntax_not_range : (tys : List Ty) (text front rest other : List ℕ) → IsSyntax tys text front rest → IsOutOfRange tys text other → ⊥
syntax_not_range tys text front rest other syntax_is range =
    no_other tys text front rest syntax_is (other ++ decimal_text range.number) range.behind (number_parts text other range.there range.behind range.number range.parts range.is_number) range.form range.no_input

syntax_not_long : (tys : List Ty) (text front rest other : List ℕ) → IsSyntax tys text front rest → IsLong tys text other → ⊥
syntax_not_long tys text front rest other syntax_is long =
    no_other tys text front rest syntax_is (upto other long.elements) long.behind (long_parts text other long.elements long.behind long.parts) (any_form tys (upto other long.elements) long.form)
    (λ goes. long.too_long (input_has_form tys (upto other long.elements) goes))

-- ---- one number out of range

last_digit : (d : ℕ) (ds more : List ℕ) → AllDigits 10 ((d ∷ ds) ++ more) → (before : List ℕ) × (last : ℕ) × (d ∷ ds ≡ before ++ (last ∷ [])) × (is_digit last ≡ true)
last_digit d [] more all = ([], d, refl, a_digit d (digit_from_value d all.0))
last_digit d (e ∷ ds) more all =
    let others = last_digit e ds more all.1 in
    (d ∷ others.0, others.1, ap (λ (t : List ℕ). d ∷ t) others.2, others.3)

one_range : (tys : List Ty) (text front other : List ℕ) → IsOutOfRange tys text front → IsOutOfRange tys text other → front ≡ other
one_range tys text front other one two = go (compare front one.there other two.there (sym one.parts ∙ two.parts))
  where
    never : (a b : List ℕ) (first : IsOutOfRange tys text a) (second : IsOutOfRange tys text b) → Shorter a first.there b second.there → ⊥
    never a b first second l =
        let within = shorter (IsInputOf tys) text (a ++ decimal_text first.number) first.behind b second.there
        (number_parts text a first.there first.behind first.number first.parts first.is_number) second.parts first.no_input second.before in
        let digits : decimal_text first.number ≡ (l.0 ∷ l.1) ++ (within.0 ∷ within.1) =
        cancel a (decimal_text first.number) ((l.0 ∷ l.1) ++ (within.0 ∷ within.1))
        (within.2 ∙ ap (λ (t : List ℕ). t ++ (within.0 ∷ within.1)) l.2 ∙ append_assoc a (l.0 ∷ l.1) (within.0 ∷ within.1)) in
        let last = last_digit l.0 l.1 (within.0 ∷ within.1) (subst (AllDigits 10) digits (is_decimal-decimal_text first.number).digits.1) in
        let no_digit : is_digit last.1 ≡ false =
        second.begins_there (a ++ last.0) last.1 (l.2 ∙ ap (λ (t : List ℕ). a ++ t) last.2 ∙ sym (append_assoc a last.0 (last.1 ∷ []))) in
        clash (sym last.3 ∙ no_digit)
      where
        clash : true ≡ false → ⊥
        clash is = cc

    go : ((front ≡ other) × (one.there ≡ two.there)) ⊎ (Shorter front one.there other two.there ⊎ Shorter other two.there front one.there) → front ≡ other
    go (inl both) = both.0
    go (inr (inl l)) = absurd (never front other one two l)
    go (inr (inr l)) = absurd (never other front two one l)

-- ---- one array that is too long

-- behind no `[` there is one
no_bracket : (elements more : List ℕ) (byte : ℕ) (others : List ℕ) → AllByRecursion (λ b. b ≢ 91) elements → elements ++ (44 ∷ []) ≡ more ++ (91 ∷ (byte ∷ others)) → ⊥
no_bracket [] [] byte others all same = cc
no_bracket [] (m ∷ []) byte others all same = cc
no_bracket [] (m ∷ n ∷ more) byte others all same = cc
no_bracket (x ∷ elements) [] byte others all same = let is : x ≡ 91 = cc in all.0 is
no_bracket (x ∷ elements) (m ∷ more) byte others all same =
    let tails : elements ++ (44 ∷ []) ≡ more ++ (91 ∷ (byte ∷ others)) = cc in
    no_bracket elements more byte others all.1 tails

one_long : (tys : List Ty) (text front other : List ℕ) → IsLong tys text front → IsLong tys text other → front ≡ other
one_long tys text front other one two = go (compare front (91 ∷ (one.elements ++ (44 ∷ one.behind))) other (91 ∷ (two.elements ++ (44 ∷ two.behind))) (sym one.parts ∙ two.parts))
  where
    never : (a b : List ℕ) (first : IsLong tys text a) (second : IsLong tys text b)
        → Shorter a (91 ∷ (first.elements ++ (44 ∷ first.behind))) b (91 ∷ (second.elements ++ (44 ∷ second.behind))) → ⊥
    never a b first second l =
        let opened : text ≡ (b ++ (91 ∷ [])) ++ (second.elements ++ (44 ∷ second.behind)) =
        second.parts ∙ sym (append_assoc b (91 ∷ []) (second.elements ++ (44 ∷ second.behind))) in
        let within = shorter (IsFormOf few_elements ⊥ tys) text (upto a first.elements) first.behind (b ++ (91 ∷ [])) (second.elements ++ (44 ∷ second.behind))
        (long_parts text a first.elements first.behind first.parts) opened first.too_long (input_has_form tys (b ++ (91 ∷ [])) second.before) in
        let same : 91 ∷ (first.elements ++ (44 ∷ [])) ≡ (l.0 ∷ l.1) ++ (91 ∷ (within.0 ∷ within.1)) =
        cancel a (91 ∷ (first.elements ++ (44 ∷ []))) ((l.0 ∷ l.1) ++ (91 ∷ (within.0 ∷ within.1)))
        (
        within.2
        ∙ append_assoc b (91 ∷ []) (within.0 ∷ within.1)
        ∙ ap (λ (t : List ℕ). t ++ (91 ∷ (within.0 ∷ within.1))) l.2
        ∙ append_assoc a (l.0 ∷ l.1) (91 ∷ (within.0 ∷ within.1))
        ) in
        no_bracket first.elements l.1 within.0 within.1 first.same_array (tail_of l.0 l.1 first.elements (within.0 ∷ within.1) same)
      where
        tail_of : (x : ℕ) (more elements others : List ℕ) → 91 ∷ (elements ++ (44 ∷ [])) ≡ (x ∷ more) ++ (91 ∷ others) → elements ++ (44 ∷ []) ≡ more ++ (91 ∷ others)
        tail_of x more elements others is = cc

    go : ((front ≡ other) × (91 ∷ (one.elements ++ (44 ∷ one.behind)) ≡ 91 ∷ (two.elements ++ (44 ∷ two.behind))))
        ⊎ (Shorter front (91 ∷ (one.elements ++ (44 ∷ one.behind))) other (91 ∷ (two.elements ++ (44 ∷ two.behind)))
        ⊎ Shorter other (91 ∷ (two.elements ++ (44 ∷ two.behind))) front (91 ∷ (one.elements ++ (44 ∷ one.behind)))) → front ≡ other
    go (inl both) = both.0
    go (inr (inl l)) = absurd (never front other one two l)
    go (inr (inr l)) = absurd (never other front two one l)

-- ---- the first line

module _ (tys : List Ty) (text : List ℕ) where
  abbrev IsRange : Type 0
  IsRange = IsInputFault tys text faults.GasRange

  abbrev IsCount : ℕ → ℕ → Type 0
  IsCount expected found = IsInputFault tys text (faults.LineCount expected found)

  abbrev IsFirst : List ℕ → List ℕ → Type 0
  IsFirst front rest = Ends BeginsWithGas text front rest

  first_not_gas : (front rest : List ℕ) (gas : ℕ) (behind : List ℕ) → IsFirst front rest → HasGas gas text behind → ⊥
  first_not_gas front rest gas behind ends has = ends.none gas (behind, has)

  lines_not_range : HasLines tys text → IsRange → ⊥
  lines_not_range has range =
      let same = (one_gas has.gas range.0 text has.behind range.1 has.is_gas range.2).0 in
      apart has.gas range.0 same has.in_range range.3
    where
      apart : (m n : ℕ) → m ≡ n → m < 2 ^ 32 → 2 ^ 32 ≤ n → ⊥
      apart m n same below above = omega arith

  lines_not_count : (expected found : ℕ) → HasLines tys text → IsCount expected found → ⊥
  lines_not_count expected found has count =
      let same = (one_gas has.gas count.0 text has.behind count.1 has.is_gas count.2).1 in
      count.6 (count.5 ∙ ap line_count (sym same) ∙ has.lines ∙ sym count.4)

  range_not_count : (expected found : ℕ) → IsRange → IsCount expected found → ⊥
  range_not_count expected found range count =
      let same = (one_gas range.0 count.0 text range.1 count.1 range.2 count.2).0 in
      apart range.0 count.0 same range.3 count.3
    where
      apart : (m n : ℕ) → m ≡ n → 2 ^ 32 ≤ m → n < 2 ^ 32 → ⊥
      apart m n same above below = omega arith

  one_count : (expected found other_expected other_found : ℕ) → IsCount expected found → IsCount other_expected other_found → faults.LineCount expected found ≡ faults.LineCount other_expected other_found
  one_count expected found other_expected other_found one two =
      let same = (one_gas one.0 two.0 text one.1 two.1 one.2 two.2).1 in
      put_together (one.4 ∙ sym two.4) (one.5 ∙ ap line_count same ∙ sym two.5)
    where
      put_together : expected ≡ other_expected → found ≡ other_found → faults.LineCount expected found ≡ faults.LineCount other_expected other_found
      put_together a b = cc

  same_place : (front other : List ℕ) (place there : Place) → place ≡ place_behind front → there ≡ place_behind other → front ≡ other → place ≡ there
  same_place front other place there is there_is same = is ∙ ap place_behind same ∙ sym there_is

  abbrev IsStop : List ℕ → List ℕ → Type 0
  IsStop front rest = IsFirst front rest ⊎ (HasLines tys text × IsSyntax tys text front rest)

  one_stop : (front rest other left : List ℕ) → IsStop front rest → IsStop other left → front ≡ other
  one_stop front rest other left (inl one) (inl two) = (one_place BeginsWithGas text front rest other left one.place two.place).0
  one_stop front rest other left (inl one) (inr two) = absurd (first_not_gas front rest two.0.gas two.0.behind one two.0.is_gas)
  one_stop front rest other left (inr one) (inl two) = absurd (first_not_gas other left one.0.gas one.0.behind two one.0.is_gas)
  one_stop front rest other left (inr one) (inr two) = (one_place (IsInputOf tys) text front rest other left one.1.ends.place two.1.ends.place).0

  stop_not_range : (front rest : List ℕ) → IsStop front rest → IsRange → ⊥
  stop_not_range front rest (inl one) range = first_not_gas front rest range.0 range.1 one range.2
  stop_not_range front rest (inr one) range = lines_not_range one.0 range

  stop_not_count : (front rest : List ℕ) (expected found : ℕ) → IsStop front rest → IsCount expected found → ⊥
  stop_not_count front rest expected found (inl one) count = first_not_gas front rest count.0 count.1 one count.2
  stop_not_count front rest expected found (inr one) count = lines_not_count expected found one.0 count

  stop_not_out : (front rest other : List ℕ) → IsStop front rest → HasLines tys text → IsOutOfRange tys text other → ⊥
  stop_not_out front rest other (inl one) has range = first_not_gas front rest has.gas has.behind one has.is_gas
  stop_not_out front rest other (inr one) has range = syntax_not_range tys text front rest other one.1 range

  stop_not_long : (front rest other : List ℕ) → IsStop front rest → HasLines tys text → IsLong tys text other → ⊥
  stop_not_long front rest other (inl one) has long = first_not_gas front rest has.gas has.behind one has.is_gas
  stop_not_long front rest other (inr one) has long = syntax_not_long tys text front rest other one.1 long

  one_number : (place there : Place) → HasNumberOutOfRange tys text place → HasNumberOutOfRange tys text there → place ≡ there
  one_number place there one two = same_place one.0 two.0 place there one.3 two.3 (one_range tys text one.0 two.0 one.2 two.2)

  -- ---- one fault

  pub one_fault : (a b : InputFault) → IsInputFault tys text a → IsInputFault tys text b → a ≡ b
  one_fault (faults.Syntax place) (faults.Syntax there) one two =
      ap faults.Syntax (same_place one.0 two.0 place there one.2 two.2 (one_stop one.0 one.1 two.0 two.1 one.3 two.3))
  one_fault (faults.Syntax place) (faults.OutOfRange there) one two = absurd (stop_not_out one.0 one.1 two.0.0 one.3 two.0.1 two.0.2)
  one_fault (faults.Syntax place) (faults.LineCount expected found) one two = absurd (stop_not_count one.0 one.1 expected found one.3 two)
  one_fault (faults.Syntax place) (faults.LongArray there) one two = absurd (stop_not_long one.0 one.1 two.0 one.3 two.1 two.2)
  one_fault (faults.Syntax place) faults.GasRange one two = absurd (stop_not_range one.0 one.1 one.3 two)
  one_fault (faults.Syntax place) faults.Memory one two = absurd two
  one_fault (faults.OutOfRange place) (faults.Syntax there) one two = absurd (stop_not_out two.0 two.1 one.0.0 two.3 one.0.1 one.0.2)
  one_fault (faults.OutOfRange place) (faults.OutOfRange there) one two =
      ap faults.OutOfRange (one_number place there one.0 two.0)
  one_fault (faults.OutOfRange place) (faults.LineCount expected found) one two = absurd (lines_not_count expected found one.0.1 two)
  one_fault (faults.OutOfRange place) (faults.LongArray there) one two = absurd (one.1 two.0 two.2)
  one_fault (faults.OutOfRange place) faults.GasRange one two = absurd (lines_not_range one.0.1 two)
  one_fault (faults.OutOfRange place) faults.Memory one two = absurd two
  one_fault (faults.LineCount expected found) (faults.Syntax there) one two = absurd (stop_not_count two.0 two.1 expected found two.3 one)
  one_fault (faults.LineCount expected found) (faults.OutOfRange there) one two = absurd (lines_not_count expected found two.0.1 one)
  one_fault (faults.LineCount expected found) (faults.LineCount other_expected other_found) one two = one_count expected found other_expected other_found one two
  one_fault (faults.LineCount expected found) (faults.LongArray there) one two = absurd (lines_not_count expected found two.1 one)
  one_fault (faults.LineCount expected found) faults.GasRange one two = absurd (range_not_count expected found two one)
  one_fault (faults.LineCount expected found) faults.Memory one two = absurd two
  one_fault (faults.LongArray place) (faults.Syntax there) one two = absurd (stop_not_long two.0 two.1 one.0 two.3 one.1 one.2)
  one_fault (faults.LongArray place) (faults.OutOfRange there) one two = absurd (two.1 one.0 one.2)
  one_fault (faults.LongArray place) (faults.LineCount expected found) one two = absurd (lines_not_count expected found one.1 two)
  one_fault (faults.LongArray place) (faults.LongArray there) one two =
      ap faults.LongArray (same_place one.0 two.0 place there one.3 two.3 (one_long tys text one.0 two.0 one.2 two.2))
  one_fault (faults.LongArray place) faults.GasRange one two = absurd (lines_not_range one.1 two)
  one_fault (faults.LongArray place) faults.Memory one two = absurd two
  one_fault faults.GasRange (faults.Syntax there) one two = absurd (stop_not_range two.0 two.1 two.3 one)
  one_fault faults.GasRange (faults.OutOfRange there) one two = absurd (lines_not_range two.0.1 one)
  one_fault faults.GasRange (faults.LineCount expected found) one two = absurd (range_not_count expected found one two)
  one_fault faults.GasRange (faults.LongArray there) one two = absurd (lines_not_range two.1 one)
  one_fault faults.GasRange faults.GasRange one two = refl
  one_fault faults.GasRange faults.Memory one two = absurd two
  one_fault faults.Memory b one two = absurd one

  abbrev IsArray : InputFault → Type 0
  IsArray fault = (there : Place) × (fault ≡ faults.LongArray there)

  -- where a number is out of range, nothing is told but it, or an array that is too long
  pub of_number : (place : Place) (fault : InputFault) → HasNumberOutOfRange tys text place → IsInputFault tys text fault → (fault ≡ faults.OutOfRange place) ⊎ IsArray fault
  of_number place (faults.Syntax there) one two = absurd (stop_not_out two.0 two.1 one.0 two.3 one.1 one.2)
  of_number place (faults.OutOfRange there) one two = inl (ap faults.OutOfRange (one_number there place two.0 one))
  of_number place (faults.LineCount expected found) one two = absurd (lines_not_count expected found one.1 two)
  of_number place (faults.LongArray there) one two = inr (there, refl)
  of_number place faults.GasRange one two = absurd (lines_not_range one.1 two)
  of_number place faults.Memory one two = absurd two

  -- ---- an input has none

  input_gas : (i : InputView) → IsInputOf tys i text → HasGas i.gas text (flat_map line_of i.args)
  input_gas i is = is.1 ∙ text_of i

  input_lines : (i : InputView) → IsInputOf tys i text → HasLines tys text
  input_lines i is = record {
    gas = i.gas;
    behind = flat_map line_of i.args;
    is_gas = input_gas i is;
    in_range = is.0.gas;
    lines = as_many_lines i.args ∙ as_many most_elements tys i.args is.0.args;
  }

  -- the text goes on from each of its fronts
  front_goes : (i : InputView) (front rest : List ℕ) → IsInputOf tys i text → text ≡ front ++ rest → Continues (IsInputOf tys) front
  front_goes i front rest is parts = (i, rest, (is.0, sym parts ∙ is.1))

  stop_not_input : (i : InputView) (front rest : List ℕ) → IsStop front rest → IsInputOf tys i text → ⊥
  stop_not_input i front rest (inl one) is = first_not_gas front rest i.gas (flat_map line_of i.args) one (input_gas i is)
  stop_not_input i front rest (inr one) is = one.1.ends.none i is

  pub not_both : (fault : InputFault) (i : InputView) → IsInputFault tys text fault → FitsMain tys i → text ≡ input_text i → ⊥
  not_both (faults.Syntax place) i one fits same = stop_not_input i one.0 one.1 one.3 (fits, same)
  not_both (faults.OutOfRange place) i one fits same =
      let range = one.0.2 in
      range.no_input (front_goes i (one.0.0 ++ decimal_text range.number) range.behind (fits, same) (number_parts text one.0.0 range.there range.behind range.number range.parts range.is_number))
  not_both (faults.LineCount expected found) i one fits same = lines_not_count expected found (input_lines i (fits, same)) one
  not_both (faults.LongArray place) i one fits same =
      let long = one.2 in
      long.too_long (input_has_form tys (upto one.0 long.elements) (front_goes i (upto one.0 long.elements) long.behind (fits, same) (long_parts text one.0 long.elements long.behind long.parts)))
  not_both faults.GasRange i one fits same = lines_not_range (input_lines i (fits, same)) one
  not_both faults.Memory i one fits same = one
