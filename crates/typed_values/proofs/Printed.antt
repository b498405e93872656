-- Values one after another, of which some are printed.
use Rattle.std.proofs.Common.{◌≡◌, ℕ, ◌<◌, ◌^◌, ◌++◌, decimal, Bool, true, false, List, [], ◌∷◌, codes, refl, sym, ap, ◌∙◌, arith}
use Rattle.std.proofs.lemmas.List.{append-nil, append_assoc}
use Rattle.byte_reading.specs.Decimal.{decimal_text}
use Rattle.byte_reading.proofs.DecimalLaws.{decimal_is_decimal_text}
use Rattle.value_trees.specs.Val.{Plain, vals_of}
use Rattle.typed_values.specs.Texts.{value_text, values_text}
use Rattle.typed_values.specs.Listing.{next_text, left_text}

-- a number of 64 bits in decimal
pub as_decimal : (text new : List ℕ) (n : ℕ) → n < 2 ^ 64 → new ≡ text ++ decimal n → new ≡ text ++ decimal_text n
as_decimal text new n small printed = printed ∙ ap (λ t. text ++ t) (decimal_is_decimal_text n (omega arith))

first_more : (v : Plain) (vs : List Plain) → left_text true (v ∷ vs) ≡ value_text v ++ left_text false vs
first_more v [] = sym (append-nil (value_text v))
first_more v (w ∷ vs) = ap (λ t. value_text v ++ (codes ", " ++ t)) (append-nil (values_text (vals_of (w ∷ vs))))

pub left_more : (is_first : Bool) (v : Plain) (vs : List Plain) → left_text is_first (v ∷ vs) ≡ next_text is_first v ++ left_text false vs
left_more true v vs = first_more v vs
left_more false v vs = ap (λ t. codes ", " ++ t) (first_more v vs) ∙ sym (append_assoc (codes ", ") (value_text v) (left_text false vs))

-- one more is printed
pub one_more : (text new whole : List ℕ) (is_first : Bool) (v : Plain) (vs : List Plain) → new ≡ text ++ next_text is_first v → text ++ left_text is_first (v ∷ vs) ≡ whole → new ++ left_text false vs ≡ whole
one_more text new whole is_first v vs printed h =
    ap (λ t. t ++ left_text false vs) printed
    ∙ append_assoc text (next_text is_first v) (left_text false vs)
    ∙ ap (λ t. text ++ t) (sym (left_more is_first v vs))
    ∙ h

-- all are printed
pub none_left : (text whole : List ℕ) (is_first : Bool) → text ++ left_text is_first [] ≡ whole → text ≡ whole
none_left text whole true h = sym (append-nil text) ∙ h
none_left text whole false h = sym (append-nil text) ∙ h
