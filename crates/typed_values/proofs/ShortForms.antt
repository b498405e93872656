-- Where the form goes on from a text with arrays of any length, it does so with arrays as short as an input's, or as many elements of an array as
-- it may have and a comma stand in the text: of that array is told, or of a number before it.
use Rattle.std.proofs.Common.{◌≡◌, ℕ, zero, suc, ◌≤◌, ◌⊎◌, inl, inr, ◌++◌, List, [], ◌∷◌, length, Option, Some, Ok, Err, refl, sym, ap, ◌∙◌, append_assoc, arith}
use Rattle.std.proofs.lemmas.List.{append-nil}
use Rattle.std.specs.List.{AllByRecursion}
use Rattle.byte_reading.specs.Decimal.{StartsWithNoDigit}
use Rattle.text_reading.specs.Reading.{Answer.answers, first, Answer, go_on, ◌>>=◌}
use Rattle.text_reading.proofs.Readers.{first-append}
use Rattle.type_trees.specs.Ty.{Ty}
use Rattle.value_trees.specs.Val.{Plain, vals_of}
use Rattle.typed_values.specs.Faults.{CanBeGiven, HasFlatArrays}
use Rattle.typed_values.specs.Inputs.{most_elements}
use Rattle.typed_values.specs.Marks.{ValueReader}
use Rattle.typed_values.specs.Reading.{value_at}
use Rattle.typed_values.specs.Texts.{value_text, values_text}
use Rattle.typed_values.specs.declared.fault.ValueLimit.{ValueLimit}
use Rattle.typed_values.specs.declared.fault.ValueLimit.TheVariants as limits
use Rattle.typed_values.proofs.ArrayForms.{IsFew, IsLongAt}
use Rattle.typed_values.proofs.FewRead.{FewForm, value_few}
use Rattle.typed_values.proofs.RangeStops.{last_apart}
use Rattle.typed_values.proofs.RangeValues.{value_out}
use Rattle.typed_values.proofs.Steady.{no_digit_too}

-- ---- lists

pub split : (front rest other left : List ℕ) → front ++ rest ≡ other ++ left
    → ((more : List ℕ) × (front ≡ other ++ more)) ⊎ ((more : List ℕ) × (other ≡ front ++ more) × (rest ≡ more ++ left))
split [] rest other left same = inr (other, refl, same)
split (k ∷ front) rest [] left same = inl (k ∷ front, refl)
split (k ∷ front) rest (p ∷ other) left same = go (split front rest other left tails)
  where
    heads : k ≡ p
    heads = cc

    tails : front ++ rest ≡ other ++ left
    tails = cc

    go : ((more : List ℕ) × (front ≡ other ++ more)) ⊎ ((more : List ℕ) × (other ≡ front ++ more) × (rest ≡ more ++ left))
        → ((more : List ℕ) × (k ∷ front ≡ (p ∷ other) ++ more)) ⊎ ((more : List ℕ) × (p ∷ other ≡ (k ∷ front) ++ more) × (rest ≡ more ++ left))
    go (inl l) = let is = l.1 in inl (l.0, cc)
    go (inr l) = let is = l.1 in inr (l.0, cc, l.2)

pub prefix_of : (front other : List ℕ) (byte : ℕ) (more : List ℕ) (last : ℕ) → front ++ (last ∷ []) ≡ other ++ (byte ∷ more) → (end : List ℕ) × (front ≡ other ++ end)
prefix_of front [] byte more last same = (front, refl)
prefix_of [] (p ∷ []) byte more last same = absurd cc
prefix_of [] (p ∷ q ∷ other) byte more last same = absurd cc
prefix_of (k ∷ front) (p ∷ other) byte more last same =
    let heads : k ≡ p = cc in
    let tails : front ++ (last ∷ []) ≡ other ++ (byte ∷ more) = cc in
    let found = prefix_of front other byte more last tails in
    let is = found.1 in
    (found.0, cc)

pub cut : (room : ℕ) (vs : List Plain) → (length vs ≤ room) ⊎ ((front : List Plain) × (u : Plain) × (us : List Plain) × (vs ≡ front ++ (u ∷ us)) × (length front ≡ room))
cut room [] = inl (omega arith)
cut zero (v ∷ vs) = inr ([], v, vs, refl, refl)
cut (suc room) (v ∷ vs) = elim (cut room vs) [
  | inl few ↦ inl (omega (arith, few))
  | inr more ↦ inr (v ∷ more.0, more.1, more.2, ap (λ (t : List Plain). v ∷ t) more.3, ap suc more.4)
]

pub all_front : (P : Plain → Type 0) (a b : List Plain) → AllByRecursion P (a ++ b) → AllByRecursion P a
all_front P [] b all = tt
all_front P (v ∷ a) b all = (all.0, all_front P a b all.1)

pub all_too : (P Q : Plain → Type 0) → ((v : Plain) → P v → Q v) → (vs : List Plain) → AllByRecursion P vs → AllByRecursion Q vs
all_too P Q f [] all = tt
all_too P Q f (v ∷ vs) all = (f v all.0, all_too P Q f vs all.1)

pub more_text : (v : Plain) (vs : List Plain) (u : Plain) (us : List Plain)
    → values_text (vals_of (v ∷ (vs ++ (u ∷ us)))) ≡ values_text (vals_of (v ∷ vs)) ++ (44 ∷ (32 ∷ values_text (vals_of (u ∷ us))))
more_text v [] u us = ap (λ (t : List ℕ). value_text v ++ (44 ∷ (32 ∷ t))) (append-nil (values_text (vals_of (u ∷ us))))
more_text v (w ∷ vs) u us =
    ap (λ (t : List ℕ). value_text v ++ (44 ∷ (32 ∷ t))) (append-nil (values_text (vals_of (w ∷ (vs ++ (u ∷ us))))) ∙ more_text w vs u us)
    ∙ ap (λ (t : List ℕ). value_text v ++ (44 ∷ (32 ∷ (t ++ (44 ∷ (32 ∷ values_text (vals_of (u ∷ us)))))))) (sym (append-nil (values_text (vals_of (w ∷ vs)))))
    ∙ sym (append_assoc (value_text v) (44 ∷ (32 ∷ (values_text (vals_of (w ∷ vs)) ++ []))) (44 ∷ (32 ∷ values_text (vals_of (u ∷ us)))))

-- ---- what is told

abbrev pub IsOut : {A : Type 0} → Answer ValueLimit A → List ℕ → Type 0
IsOut answer rest = answer ≡ answers (Err (Some limits.OutOfRange)) rest

abbrev pub Stop : {A : Type 0} → ValueReader A → List ℕ → List ℕ → Type 0
Stop reader front there = IsLongAt (reader (front ++ there)) there ⊎ ((x : List ℕ) × IsOut (reader (front ++ there)) (x ++ there))

pub record InLong {A : Type 0} (reader : ValueReader A) (front : List ℕ) : Type 0 where
  pub before : List ℕ
  pub elements : List ℕ
  pub behind : List ℕ
  pub parts : front ≡ before ++ (91 ∷ (elements ++ (44 ∷ behind)))
  pub stop : (other : List ℕ) → Stop reader before (91 ∷ (elements ++ (44 ∷ other)))

abbrev pub InShort : {V : Type 0} → (V → Type 0) → (V → List ℕ) → List ℕ → List ℕ → Type 0
InShort {V} Few text_of front tail = (w : V) × (more : List ℕ) × Few w × (text_of w ++ tail ≡ front ++ more)

abbrev pub ShortOrLong : {V A : Type 0} → (V → Type 0) → (V → List ℕ) → ValueReader A → List ℕ → List ℕ → Type 0
ShortOrLong Few text_of reader front tail = InShort Few text_of front tail ⊎ InLong reader front

-- the reader comes to the next one with these bytes, or tells of a number before them
abbrev pub Leads : {A B : Type 0} → ValueReader A → ValueReader B → List ℕ → List ℕ → Type 0
Leads reader next front there =
    ((why : Option ValueLimit) (left : List ℕ) → next there ≡ answers (Err why) left → reader (front ++ there) ≡ answers (Err why) left) ⊎ ((x : List ℕ) × IsOut (reader (front ++ there)) (x ++ there))

lift_stop : {A B : Type 0} (reader : ValueReader A) (next : ValueReader B) (front before there : List ℕ) → Stop next before there → Leads reader next front (before ++ there) → Stop reader (front ++ before) there
lift_stop reader next front before there (inl long) (inl leads) = inl (ap reader (append_assoc front before there) ∙ leads (Some limits.LongArray) there long)
lift_stop reader next front before there (inr out) (inl leads) = inr (out.0, ap reader (append_assoc front before there) ∙ leads (Some limits.OutOfRange) (out.0 ++ there) out.1)
lift_stop reader next front before there stop (inr out) =
    inr (out.0 ++ before, ap reader (append_assoc front before there) ∙ out.1 ∙ ap (λ (t : List ℕ). answers (Err (Some limits.OutOfRange)) t) (sym (append_assoc out.0 before there)))

pub lift_long : {A B : Type 0} (reader : ValueReader A) (next : ValueReader B) (whole front mid more : List ℕ) → whole ≡ front ++ mid → InLong next mid
    → ((there : List ℕ) → first (mid ++ more) ≡ first there → Leads reader next front there) → InLong reader whole
lift_long reader next whole front mid more is l leads = record {
  before = front ++ l.before;
  elements = l.elements;
  behind = l.behind;
  parts = is ∙ ap (λ (t : List ℕ). front ++ t) l.parts ∙ sym (append_assoc front l.before (91 ∷ (l.elements ++ (44 ∷ l.behind))));
  stop = λ other.
      lift_stop reader next front l.before (91 ∷ (l.elements ++ (44 ∷ other))) (l.stop other)
      (leads (l.before ++ (91 ∷ (l.elements ++ (44 ∷ other))))
      (ap first (ap (λ (t : List ℕ). t ++ more) l.parts ∙ append_assoc l.before (91 ∷ (l.elements ++ (44 ∷ l.behind))) more)
      ∙ first-append l.before (91 ∷ ((l.elements ++ (44 ∷ l.behind)) ++ more)) (91 ∷ (l.elements ++ (44 ∷ other))) refl));
}

pub first_stops : {A B : Type 0} (reader : ValueReader A) (next : A → ValueReader B) (front : List ℕ) → InLong reader front → InLong (reader >>= next) front
first_stops reader next front l = record { before = l.before; elements = l.elements; behind = l.behind; parts = l.parts; stop = λ other. go (91 ∷ (l.elements ++ (44 ∷ other))) (l.stop other) }
  where
    go : (there : List ℕ) → Stop reader l.before there → Stop (reader >>= next) l.before there
    go there (inl long) = inl (ap (λ a. go_on a next) long)
    go there (inr out) = inr (out.0, ap (λ a. go_on a next) out.1)

-- a number out of range that is told of a value stands in the value
pub position : (ty : Ty) → CanBeGiven ty → HasFlatArrays ty → (w : Plain) (mid left : List ℕ) → FewForm ty w → StartsWithNoDigit mid → IsOut (value_at most_elements ty (value_text w ++ mid)) left → (x : List ℕ) × (left ≡ x ++ mid)
position ty can flat w mid left few free is =
    let one = value_out most_elements ty can (10 ∷ []) (value_text w ++ mid) left (last_apart [] 10 refl) is in
    elim (split one.taken left (value_text w) mid (sym one.is)) [
      | inr inside ↦ (inside.0, inside.2)
      | inl past ↦ go one.taken past.0 left one.ends.0 one.ends.1 past.1 one.is (one.ends.2 [] tt)
    ]
  where
    clash : (v : Plain) (byte : ℕ) (more : List ℕ) (answer : Answer ValueLimit Plain) → answer ≡ answers (Ok v) [] → IsFew w (byte ∷ more) answer → ⊥
    clash v byte more answer is (inl read) = let never : ⊥ = cc in never
    clash v byte more answer is (inr stop) =
        let out = stop.1 in
        let never : ⊥ = cc in never

    go : (taken more left end : List ℕ) (v : Plain) → taken ≡ value_text w ++ more → value_text w ++ mid ≡ taken ++ left → value_at most_elements ty (taken ++ (end ++ [])) ≡ answers (Ok v) [] → (x : List ℕ) × (left ≡ x ++ mid)
    go taken [] left end v past parts read =
        let taken_is : taken ≡ value_text w = past ∙ append-nil (value_text w) in
        ([], sym (same_rest (value_text w) mid left (parts ∙ ap (λ (t : List ℕ). t ++ left) taken_is)))
      where
        same_rest : (front a b : List ℕ) → front ++ a ≡ front ++ b → a ≡ b
        same_rest [] a b same = same
        same_rest (f ∷ front) a b same = let tails : front ++ a ≡ front ++ b = cc in same_rest front a b tails
    go taken (byte ∷ more) left end v past parts read =
        let mid_is : mid ≡ (byte ∷ more) ++ left =
        same_rest (value_text w) mid ((byte ∷ more) ++ left) (parts ∙ ap (λ (t : List ℕ). t ++ left) past ∙ append_assoc (value_text w) (byte ∷ more) left) in
        let whole : taken ++ (end ++ []) ≡ value_text w ++ (byte ∷ (more ++ (end ++ []))) = ap (λ (t : List ℕ). t ++ (end ++ [])) past ∙ append_assoc (value_text w) (byte ∷ more) (end ++ []) in
        absurd (clash v byte (more ++ (end ++ [])) (value_at most_elements ty (value_text w ++ (byte ∷ (more ++ (end ++ []))))) (ap (value_at most_elements ty) (sym whole) ∙ read)
        (value_few ty flat w (byte ∷ (more ++ (end ++ []))) few (no_digit_too mid (byte ∷ (more ++ (end ++ []))) (ap first mid_is) free)))
      where
        same_rest : (front a b : List ℕ) → front ++ a ≡ front ++ b → a ≡ b
        same_rest [] a b same = same
        same_rest (f ∷ front) a b same = let tails : front ++ a ≡ front ++ b = cc in same_rest front a b tails

-- a value leads to what stands behind it
pub value_leads : {B : Type 0} (ty : Ty) → CanBeGiven ty → HasFlatArrays ty → (next : Plain → ValueReader B) (w : Plain) (there : List ℕ) → FewForm ty w → StartsWithNoDigit there
    → Leads (value_at most_elements ty >>= next) (next w) (value_text w) there
value_leads ty can flat next w there few free = go (value_few ty flat w there few free)
  where
    go : IsFew w there (value_at most_elements ty (value_text w ++ there)) → Leads (value_at most_elements ty >>= next) (next w) (value_text w) there
    go (inl read) = inl (λ why left is. ap (λ a. go_on a next) read ∙ is)
    go (inr out) =
        let found = position ty can flat w there out.0 few free out.1 in
        inr (found.0, ap (λ a. go_on a next) (out.1 ∙ ap (λ (t : List ℕ). answers (Err (Some limits.OutOfRange)) t) found.1))
