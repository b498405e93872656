-- The texts of values, with what follows them.
use Rattle.std.proofs.Common.{◌≡◌, ℕ, ◌≤◌, ◌++◌, Bool, true, false, List, [], ◌∷◌, refl, sym, ap, ◌∙◌, arith}
use Rattle.std.proofs.lemmas.List.{append-nil, append_assoc}
use Rattle.byte_reading.specs.Decimal.{decimal_text, StartsWithNoDigit}
use Rattle.value_trees.specs.Val.{Plain, Vals, WordMap, OpenMap, no_values, values, vals_of}
use Rattle.value_trees.specs.Val as val
use Rattle.typed_values.specs.Texts.{value_text, values_text}
use Rattle.typed_values.specs.Listing.{next_text, left_text}
use Rattle.typed_values.proofs.Printed.{left_more}

-- the space before an element that isn't the first
abbrev pub spaced : Bool → List ℕ
spaced true = []
spaced false = 32 ∷ []

pub struct_text : (vs : Vals WordMap OpenMap) (rest : List ℕ) → value_text (val.struct vs) ++ rest ≡ 40 ∷ (values_text vs ++ (41 ∷ rest))
struct_text vs rest = ap (λ t. 40 ∷ t) (append_assoc (values_text vs) (41 ∷ []) rest)

pub array_text : (vs : Vals WordMap OpenMap) (rest : List ℕ) → value_text (val.array vs) ++ rest ≡ 91 ∷ (values_text vs ++ (93 ∷ rest))
array_text vs rest = ap (λ t. 91 ∷ t) (append_assoc (values_text vs) (93 ∷ []) rest)

pub enum_text : (index : ℕ) (payload : Plain) (rest : List ℕ) → value_text (val.enum index payload) ++ rest ≡ decimal_text index ++ (58 ∷ (value_text payload ++ rest))
enum_text index payload rest =
    append_assoc (decimal_text index) (58 ∷ (value_text payload ++ [])) rest
    ∙ ap (λ t. decimal_text index ++ (58 ∷ (t ++ rest))) (append-nil (value_text payload))

-- a member, with what stands before it, and the others
pub member_text : (is_first : Bool) (v : Plain) (vs : List Plain) (rest : List ℕ) → left_text is_first (v ∷ vs) ++ rest ≡ next_text is_first v ++ (left_text false vs ++ rest)
member_text is_first v vs rest = ap (λ t. t ++ rest) (left_more is_first v vs) ∙ append_assoc (next_text is_first v) (left_text false vs) rest

-- an element and the others
pub element_text : (v w : Plain) (vs : List Plain) (rest : List ℕ)
    → values_text (vals_of (v ∷ w ∷ vs)) ++ rest ≡ value_text v ++ (44 ∷ (32 ∷ (values_text (vals_of (w ∷ vs)) ++ rest)))
element_text v w vs rest =
    append_assoc (value_text v) (44 ∷ (32 ∷ (values_text (vals_of (w ∷ vs)) ++ []))) rest
    ∙ ap (λ t. value_text v ++ (44 ∷ (32 ∷ (t ++ rest)))) (append-nil (values_text (vals_of (w ∷ vs))))

-- no digit follows a member
pub left_follow : (vs : List Plain) (rest : List ℕ) → StartsWithNoDigit rest → StartsWithNoDigit (left_text false vs ++ rest)
left_follow [] rest free = free
left_follow (v ∷ vs) rest free = λ is. not_comma is.0
  where
    not_comma : 48 ≤ 44 → ⊥
    not_comma h = omega arith

-- what stands behind an element: a comma where others follow, else the end of the array
abbrev pub mark : Bool → ℕ
mark true = 44
mark false = 93
