-- In the text of a value whose type holds no array no array begins, and its reader tells of none that is too long.
use Rattle.std.proofs.Common.{◌≡◌, ◌≢◌, ℕ, zero, suc, ◌≤◌, ◌++◌, ◌||◌, List, [], ◌∷◌, Bool, true, false, cond, nat_lt, Option, Some, None, Ok, Err, refl, sym, subst, arith}
use Rattle.std.proofs.lemmas.Str.Parse.{digit_from_value}
use Rattle.std.specs.Char.{IsAsciiDigit}
use Rattle.std.specs.List.{AllByRecursion}
use Rattle.std.specs.Str.Parse.{AllDigits}
use Rattle.byte_reading.specs.Decimal.{decimal_text}
use Rattle.byte_reading.proofs.DecimalLaws.{is_decimal-decimal_text}
use Rattle.text_reading.specs.Reading.{Answer.answers, Answer, done, go_on, ◌>>=◌}
use Rattle.type_trees.specs.Ty.{Ty, Tys, number, nonzero, range_check, gas_builtin, box, array, snapshot, struct, enum, dict, dict_entry, squashed_dict, uninitialized, no_types, types, holds_array, any_holds_array}
use Rattle.value_trees.specs.Of.{bound}
use Rattle.value_trees.specs.Val.{Plain, no_values, values, vals_of}
use Rattle.value_trees.specs.Val as val
use Rattle.typed_values.specs.Faults.{HasForm, HaveForms, HasVariantForm}
use Rattle.typed_values.specs.Listing.{next_text, left_text}
use Rattle.typed_values.specs.Marks.{ValueReader, byte_at, below, leading, number_at, separator_at, none_at, count}
use Rattle.typed_values.specs.Reading.{member_at, value_at, members_at, variant_at}
use Rattle.typed_values.specs.Skimming.{taken, any_number_at, skim_member, skim_at, skim_members, skim_variant}
use Rattle.typed_values.specs.Texts.{value_text, values_text}
use Rattle.typed_values.specs.declared.fault.ValueLimit.{ValueLimit}
use Rattle.typed_values.specs.declared.fault.ValueLimit.TheVariants as limits
use Rattle.typed_values.proofs.FirstLine.{byte_no_limits, done_no_limits}
use Rattle.typed_values.proofs.Printed.{left_more}

pub neither : (a b : Bool) → (a || b) ≡ false → (a ≡ false) × (b ≡ false)
neither true b is = absurd cc
neither false true is = absurd cc
neither false false is = (refl, refl)

-- ---- no array that is too long

abbrev pub NeverLong : {A : Type 0} → ValueReader A → Type 0
NeverLong reader = (bytes rest : List ℕ) → reader bytes ≡ answers (Err (Some limits.LongArray)) rest → ⊥

pub then_never : {A B : Type 0} (reader : ValueReader A) (next : A → ValueReader B) → NeverLong reader → ((x : A) → NeverLong (next x)) → NeverLong (reader >>= next)
then_never {A} {B} reader next none nexts bytes rest is = go (reader bytes) refl is
  where
    go : (a : Answer ValueLimit A) → reader bytes ≡ a → go_on a next ≡ answers (Err (Some limits.LongArray)) rest → ⊥
    go (answers (Ok x) left) was is = nexts x left rest is
    go (answers (Err None) left) was is = cc
    go (answers (Err (Some limits.OutOfRange)) left) was is = cc
    go (answers (Err (Some limits.LongArray)) left) was is = none bytes left was

pub byte_never : (wanted : ℕ) → NeverLong (byte_at wanted)
byte_never wanted bytes rest is = byte_no_limits wanted bytes rest limits.LongArray is

pub done_never : {A : Type 0} (x : A) → NeverLong (done x)
done_never x bytes rest is = done_no_limits x bytes rest limits.LongArray is

pub number_never : (limit : ℕ) → NeverLong (number_at limit)
unfolding number_at
number_never limit bytes rest is = go (leading bytes) is
  where
    tested : (n : ℕ) (tail : List ℕ) (t : Bool) → cond t (answers (Ok n) tail) (answers (Err (Some limits.OutOfRange)) bytes) ≡ answers (Err (Some limits.LongArray)) rest → ⊥
    tested n tail true is = cc
    tested n tail false is = cc

    go : (o : Option (ℕ × List ℕ)) → below limit o bytes ≡ answers (Err (Some limits.LongArray)) rest → ⊥
    go None is = cc
    go (Some (n, tail)) is = tested n tail (nat_lt n limit) is

any_number_never : NeverLong any_number_at
unfolding any_number_at
any_number_never bytes rest is = go (leading bytes) is
  where
    go : (o : Option (ℕ × List ℕ)) → taken o bytes ≡ answers (Err (Some limits.LongArray)) rest → ⊥
    go None is = cc
    go (Some (n, tail)) is = cc

separator_never : (is_first : Bool) → NeverLong (separator_at is_first)
unfolding separator_at
separator_never true = done_never tt
separator_never false = then_never (byte_at 44) (λ _. byte_at 32) (byte_never 44) (λ _. byte_never 32)

pub member_never : (is_first : Bool) (value : ValueReader Plain) → NeverLong value → NeverLong (member_at is_first value)
unfolding member_at
member_never is_first value none = then_never (separator_at is_first) (λ _. value) (separator_never is_first) (λ _. none)

skim_member_never : (is_first : Bool) (value : ValueReader (Unit {0})) → NeverLong value → NeverLong (skim_member is_first value)
unfolding skim_member
skim_member_never is_first value none = then_never (separator_at is_first) (λ _. value) (separator_never is_first) (λ _. none)

none_never : {A : Type 0} → NeverLong (none_at {A = A})
none_never bytes rest is = cc

module _ (most : Ty → ℕ) where
  mutual
    unfolding value_at members_at variant_at

    pub value_never : (ty : Ty) → holds_array ty ≡ false → NeverLong (value_at most ty)
    value_never (number k) flat = then_never (number_at (bound k)) (λ n. done (val.number k n)) (number_never (bound k)) (λ n. done_never (val.number k n))
    value_never (array ty) flat = absurd cc
    value_never (struct name tys) flat =
        then_never (byte_at 40) (λ _. members_at most true tys >>= λ vs. byte_at 41 >>= λ _. done (val.struct vs)) (byte_never 40)
        (λ _. then_never (members_at most true tys) (λ vs. byte_at 41 >>= λ _. done (val.struct vs)) (members_never true tys flat)
        (λ vs. then_never (byte_at 41) (λ _. done (val.struct vs)) (byte_never 41) (λ _. done_never (val.struct vs))))
    value_never (enum name tys) flat =
        then_never (number_at (count tys)) (λ index. byte_at 58 >>= λ _. variant_at most tys index >>= λ v. done (val.enum index v)) (number_never (count tys))
        (λ index. then_never (byte_at 58) (λ _. variant_at most tys index >>= λ v. done (val.enum index v)) (byte_never 58)
        (λ _. then_never (variant_at most tys index) (λ v. done (val.enum index v)) (variant_never tys flat index) (λ v. done_never (val.enum index v))))
    value_never (nonzero k) flat = none_never
    value_never range_check flat = none_never
    value_never gas_builtin flat = none_never
    value_never (box ty) flat = none_never
    value_never (snapshot ty) flat = none_never
    value_never (dict k) flat = none_never
    value_never (dict_entry k) flat = none_never
    value_never (squashed_dict k) flat = none_never
    value_never (uninitialized ty) flat = none_never

    members_never : (is_first : Bool) (tys : Tys) → any_holds_array tys ≡ false → NeverLong (members_at most is_first tys)
    members_never is_first no_types flat = done_never no_values
    members_never is_first (types ty tys) flat =
        then_never (member_at is_first (value_at most ty)) (λ v. members_at most false tys >>= λ vs. done (values v vs))
        (member_never is_first (value_at most ty) (value_never ty (neither (holds_array ty) (any_holds_array tys) flat).0))
        (λ v. then_never (members_at most false tys) (λ vs. done (values v vs)) (members_never false tys (neither (holds_array ty) (any_holds_array tys) flat).1) (λ vs. done_never (values v vs)))

    variant_never : (tys : Tys) → any_holds_array tys ≡ false → (index : ℕ) → NeverLong (variant_at most tys index)
    variant_never no_types flat index = none_never
    variant_never (types ty tys) flat zero = value_never ty (neither (holds_array ty) (any_holds_array tys) flat).0
    variant_never (types ty tys) flat (suc index) = variant_never tys (neither (holds_array ty) (any_holds_array tys) flat).1 index

  mutual
    unfolding skim_at skim_members skim_variant

    pub skim_never : (ty : Ty) → holds_array ty ≡ false → NeverLong (skim_at most ty)
    skim_never (number k) flat = any_number_never
    skim_never (array ty) flat = absurd cc
    skim_never (struct name tys) flat =
        then_never (byte_at 40) (λ _. skim_members most true tys >>= λ _. byte_at 41) (byte_never 40)
        (λ _. then_never (skim_members most true tys) (λ _. byte_at 41) (skim_members_never true tys flat) (λ _. byte_never 41))
    skim_never (enum name tys) flat =
        then_never (number_at (count tys)) (λ index. byte_at 58 >>= λ _. skim_variant most tys index) (number_never (count tys))
        (λ index. then_never (byte_at 58) (λ _. skim_variant most tys index) (byte_never 58) (λ _. skim_variant_never tys flat index))
    skim_never (nonzero k) flat = none_never
    skim_never range_check flat = none_never
    skim_never gas_builtin flat = none_never
    skim_never (box ty) flat = none_never
    skim_never (snapshot ty) flat = none_never
    skim_never (dict k) flat = none_never
    skim_never (dict_entry k) flat = none_never
    skim_never (squashed_dict k) flat = none_never
    skim_never (uninitialized ty) flat = none_never

    skim_members_never : (is_first : Bool) (tys : Tys) → any_holds_array tys ≡ false → NeverLong (skim_members most is_first tys)
    skim_members_never is_first no_types flat = done_never tt
    skim_members_never is_first (types ty tys) flat =
        then_never (skim_member is_first (skim_at most ty)) (λ _. skim_members most false tys)
        (skim_member_never is_first (skim_at most ty) (skim_never ty (neither (holds_array ty) (any_holds_array tys) flat).0))
        (λ _. skim_members_never false tys (neither (holds_array ty) (any_holds_array tys) flat).1)

    skim_variant_never : (tys : Tys) → any_holds_array tys ≡ false → (index : ℕ) → NeverLong (skim_variant most tys index)
    skim_variant_never no_types flat index = none_never
    skim_variant_never (types ty tys) flat zero = skim_never ty (neither (holds_array ty) (any_holds_array tys) flat).0
    skim_variant_never (types ty tys) flat (suc index) = skim_variant_never tys (neither (holds_array ty) (any_holds_array tys) flat).1 index

-- ---- no array begins in a text

abbrev pub NoBracket : List ℕ → Type 0
NoBracket bytes = AllByRecursion (λ byte. byte ≢ 91) bytes

pub no_bracket_append : (a b : List ℕ) → NoBracket a → NoBracket b → NoBracket (a ++ b)
no_bracket_append [] b one two = two
no_bracket_append (x ∷ a) b one two = (one.0, no_bracket_append a b one.1 two)

digits_no_bracket : (ds : List ℕ) → AllDigits 10 ds → NoBracket ds
digits_no_bracket [] all = tt
digits_no_bracket (d ∷ ds) all = (no_digit d (digit_from_value d all.0), digits_no_bracket ds all.1)
  where
    no_digit : (d : ℕ) → IsAsciiDigit d → d ≢ 91
    no_digit d is = let to : d ≤ 57 = is.1 in λ same. omega arith

pub number_no_bracket : (n : ℕ) → NoBracket (decimal_text n)
number_no_bracket n = digits_no_bracket (decimal_text n) (is_decimal-decimal_text n).digits.1

next_no_bracket : (is_first : Bool) (v : Plain) → NoBracket (value_text v) → NoBracket (next_text is_first v)
next_no_bracket true v all = all
next_no_bracket false v all = (λ same. omega arith, ((λ same. omega arith), all))

module _ (Few : Ty → ℕ → Type 0) where
  mutual
    pub form_no_bracket : (ty : Ty) → holds_array ty ≡ false → (v : Plain) → HasForm Few ⊥ ty v → NoBracket (value_text v)
    form_no_bracket (number k) flat v form = subst (λ w. NoBracket (value_text w)) (sym form.1) (number_no_bracket form.0)
    form_no_bracket (array ty) flat v form = absurd cc
    form_no_bracket (struct name tys) flat v form =
        subst (λ w. NoBracket (value_text w)) (sym form.1)
        ((λ same. omega arith), no_bracket_append (values_text (vals_of form.0)) (41 ∷ []) (members_no_bracket true tys flat form.0 form.2) ((λ same. omega arith), tt))
    form_no_bracket (enum name tys) flat v form =
        subst (λ w. NoBracket (value_text w)) (sym form.2)
        (no_bracket_append (decimal_text form.0) (58 ∷ (value_text form.1 ++ [])) (number_no_bracket form.0)
        ((λ same. omega arith), no_bracket_append (value_text form.1) [] (variant_no_bracket tys flat form.0 form.1 form.3) tt))
    form_no_bracket (nonzero k) flat v form = absurd form
    form_no_bracket range_check flat v form = absurd form
    form_no_bracket gas_builtin flat v form = absurd form
    form_no_bracket (box ty) flat v form = absurd form
    form_no_bracket (snapshot ty) flat v form = absurd form
    form_no_bracket (dict k) flat v form = absurd form
    form_no_bracket (dict_entry k) flat v form = absurd form
    form_no_bracket (squashed_dict k) flat v form = absurd form
    form_no_bracket (uninitialized ty) flat v form = absurd form

    members_no_bracket : (is_first : Bool) (tys : Tys) → any_holds_array tys ≡ false → (vs : List Plain) → HaveForms Few ⊥ tys vs → NoBracket (left_text is_first vs)
    members_no_bracket true no_types flat vs form = subst (λ us. NoBracket (left_text true us)) (sym form) tt
    members_no_bracket false no_types flat vs form = subst (λ us. NoBracket (left_text false us)) (sym form) tt
    members_no_bracket is_first (types ty tys) flat vs form =
        subst (λ us. NoBracket (left_text is_first us)) (sym form.2)
        (subst NoBracket (sym (left_more is_first form.0 form.1))
        (no_bracket_append (next_text is_first form.0) (left_text false form.1) (next_no_bracket is_first form.0 (form_no_bracket ty (neither (holds_array ty) (any_holds_array tys) flat).0 form.0 form.3)) (members_no_bracket false tys (neither (holds_array ty) (any_holds_array tys) flat).1 form.1 form.4)))

    variant_no_bracket : (tys : Tys) → any_holds_array tys ≡ false → (index : ℕ) (v : Plain) → HasVariantForm Few ⊥ tys index v → NoBracket (value_text v)
    variant_no_bracket no_types flat index v form = absurd form
    variant_no_bracket (types ty tys) flat zero v form = form_no_bracket ty (neither (holds_array ty) (any_holds_array tys) flat).0 v form
    variant_no_bracket (types ty tys) flat (suc index) v form = variant_no_bracket tys (neither (holds_array ty) (any_holds_array tys) flat).1 index v form
