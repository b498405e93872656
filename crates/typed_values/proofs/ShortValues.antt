-- The texts from which the form of values and lines goes on, with arrays as short as an input's, or in which an array is too long.
use Rattle.std.proofs.Common.{◌≡◌, ℕ, zero, suc, ◌<◌, ◌≤◌, ◌⊎◌, inl, inr, ◌++◌, List, [], ◌∷◌, length, Bool, true, false, Some, Err, refl, sym, ap, ◌∙◌, subst, append_assoc, arith}
use Rattle.std.proofs.lemmas.List.{append-nil}
use Rattle.std.specs.List.{AllByRecursion, flat_map}
use Rattle.byte_reading.specs.Decimal.{decimal_text, StartsWithNoDigit}
use Rattle.text_reading.specs.Reading.{Answer.answers, first, done, go_on, ◌>>=◌}
use Rattle.type_trees.specs.Ty.{Ty, Tys, number, nonzero, range_check, gas_builtin, box, array, snapshot, struct, enum, dict, dict_entry, squashed_dict, uninitialized, no_types, types, holds_array, any_holds_array}
use Rattle.value_trees.specs.Val.{Plain, Vals, WordMap, OpenMap, values, vals_of}
use Rattle.value_trees.specs.Val as val
use Rattle.typed_values.specs.Faults.{CanBeGiven, CanAllBeGiven, HaveForms, HasVariantForm, AllFormed, any_length, few_elements, HasFlatArrays, HaveFlatArrays}
use Rattle.typed_values.specs.Inputs.{most_elements, line_of}
use Rattle.typed_values.specs.Listing.{next_text, left_text}
use Rattle.typed_values.specs.Marks.{ValueReader, byte_at, number_at, comma_at, separator_at, count}
use Rattle.typed_values.specs.Reading.{whole_array_at, member_at, value_at, members_at, variant_at, line_at, lines_at}
use Rattle.typed_values.specs.Skimming.{skim_at}
use Rattle.typed_values.specs.Texts.{value_text, values_text}
use Rattle.typed_values.specs.declared.fault.ValueLimit.TheVariants as limits
use Rattle.typed_values.proofs.ArrayForms.{IsFew, whole_long}
use Rattle.typed_values.proofs.FewRead.{FewForm, none_flat, value_few}
use Rattle.typed_values.proofs.FormsOfValues.{given_few, members_few, variant_few, lines_few}
use Rattle.typed_values.proofs.FormsRead.{text_opens}
use Rattle.typed_values.proofs.InputTexts.{line_text, no_digit_here}
use Rattle.typed_values.proofs.Leading.{number_complete}
use Rattle.typed_values.proofs.LongForms.{AnyForm, AnyForms, AnyVariant, LinesOf, all_lines}
use Rattle.typed_values.proofs.NoArrays.{neither, skim_never}
use Rattle.typed_values.proofs.ReadBoth.{after, then_byte, byte_complete}
use Rattle.typed_values.proofs.ShortForms.{split, prefix_of, cut, all_front, all_too, more_text, ShortOrLong, Leads, lift_long, first_stops, position, value_leads}
use Rattle.typed_values.proofs.SkimForms.{skim_complete, skim_sound, index_below}
use Rattle.typed_values.proofs.Steady.{no_digit_too}
use Rattle.typed_values.proofs.SteadyValues.{a_value, some_values, a_variant, some_lines}
use Rattle.typed_values.proofs.TextForms.{struct_text, array_text, enum_text, member_text, left_follow}
use Rattle.typed_values.proofs.ValuesComplete.{no_digit_above, no_digit_below, starts}

abbrev FewForms : Tys → List Plain → Type 0
FewForms = HaveForms few_elements ⊥

abbrev FewVariant : Tys → ℕ → Plain → Type 0
FewVariant = HasVariantForm few_elements ⊥

abbrev pub FewLines : List Ty → List Plain → Type 0
FewLines = AllFormed few_elements ⊥

abbrev Shortens : {V A : Type 0} → (V → Type 0) → (V → Type 0) → (V → List ℕ) → ValueReader A → Type 0
Shortens {V} Any Few text_of reader =
    (f : V) (front tail more : List ℕ) → Any f → StartsWithNoDigit tail → text_of f ++ tail ≡ front ++ more → ShortOrLong Few text_of reader front tail

stops_too : {V A B : Type 0} (Few : V → Type 0) (text_of : V → List ℕ) (reader : ValueReader A) (next : A → ValueReader B) (front tail : List ℕ) → ShortOrLong Few text_of reader front tail
    → ShortOrLong Few text_of (reader >>= next) front tail
stops_too Few text_of reader next front tail (inl short) = inl short
stops_too Few text_of reader next front tail (inr long) = inr (first_stops reader next front long)

-- something first, and what stands behind it
step : {V W A B : Type 0} (Few : V → Type 0) (text_of : V → List ℕ) (FewNext : W → Type 0) (next_of : W → List ℕ) (reader : ValueReader A) (next : ValueReader B) (key behind front more tail next_tail : List ℕ)
    → key ++ behind ≡ front ++ more → (some : V) (some_behind : List ℕ) → Few some → text_of some ++ tail ≡ key ++ some_behind
    → ((mid : List ℕ) → behind ≡ mid ++ more → ShortOrLong FewNext next_of next mid next_tail)
    → (make : W → V) → ((w : W) → FewNext w → Few (make w)) → ((w : W) → text_of (make w) ++ tail ≡ key ++ (next_of w ++ next_tail))
    → ((there : List ℕ) → first behind ≡ first there → Leads reader next key there) → ShortOrLong Few text_of reader front tail
step {V} {W} {A} {B} Few text_of FewNext next_of reader next key behind front more tail next_tail same some some_behind some_few some_text others make made_few made_text leads = go (split key behind front more same)
  where
    found : (mid : List ℕ) → front ≡ key ++ mid → behind ≡ mid ++ more → ShortOrLong FewNext next_of next mid next_tail → ShortOrLong Few text_of reader front tail
    found mid is rest_is (inl s) =
        inl (make s.0, s.1, made_few s.0 s.2, made_text s.0 ∙ ap (λ (t : List ℕ). key ++ t) s.3 ∙ sym (append_assoc key mid s.1) ∙ ap (λ (t : List ℕ). t ++ s.1) (sym is))
    found mid is rest_is (inr l) = inr (lift_long reader next front key mid more is l (λ there alike. leads there (ap first rest_is ∙ alike)))

    go : ((m : List ℕ) × (key ≡ front ++ m)) ⊎ ((m : List ℕ) × (front ≡ key ++ m) × (behind ≡ m ++ more)) → ShortOrLong Few text_of reader front tail
    go (inl l) = inl (some, l.0 ++ some_behind, some_few, some_text ∙ ap (λ (t : List ℕ). t ++ some_behind) l.1 ∙ append_assoc front l.0 some_behind)
    go (inr r) = found r.0 r.1 r.2 (others r.0 r.2)

-- ---- where there is no array

mutual
  any_few : (ty : Ty) → holds_array ty ≡ false → (v : Plain) → AnyForm ty v → FewForm ty v
  any_few (number k) flat v form = form
  any_few (array ty) flat v form = absurd cc
  any_few (struct name tys) flat v form = (form.0, form.1, any_few_all tys flat form.0 form.2)
  any_few (enum name tys) flat v form = (form.0, form.1, form.2, any_few_variant tys flat form.0 form.1 form.3)
  any_few (nonzero k) flat v form = form
  any_few range_check flat v form = form
  any_few gas_builtin flat v form = form
  any_few (box ty) flat v form = form
  any_few (snapshot ty) flat v form = form
  any_few (dict k) flat v form = form
  any_few (dict_entry k) flat v form = form
  any_few (squashed_dict k) flat v form = form
  any_few (uninitialized ty) flat v form = form

  any_few_all : (tys : Tys) → any_holds_array tys ≡ false → (vs : List Plain) → AnyForms tys vs → FewForms tys vs
  any_few_all no_types flat vs form = form
  any_few_all (types ty tys) flat vs form =
      (form.0, form.1, form.2, any_few ty (neither (holds_array ty) (any_holds_array tys) flat).0 form.0 form.3, any_few_all tys (neither (holds_array ty) (any_holds_array tys) flat).1 form.1 form.4)

  any_few_variant : (tys : Tys) → any_holds_array tys ≡ false → (index : ℕ) (v : Plain) → AnyVariant tys index v → FewVariant tys index v
  any_few_variant no_types flat index v form = form
  any_few_variant (types ty tys) flat zero v form = any_few ty (neither (holds_array ty) (any_holds_array tys) flat).0 v form
  any_few_variant (types ty tys) flat (suc index) v form = any_few_variant tys (neither (holds_array ty) (any_holds_array tys) flat).1 index v form

-- ---- an array

array_shortens : (ty : Ty) → HasFlatArrays (array ty)
    → Shortens (AnyForm (array ty)) (FewForm (array ty)) value_text (whole_array_at (value_at most_elements ty) (skim_at most_elements ty) (most_elements ty))
array_shortens ty flat f front tail more any free same = go (cut (most_elements ty) any.0)
  where
    few_of : (vs : List Plain) → AllByRecursion (AnyForm ty) vs → AllByRecursion (FewForm ty) vs
    few_of vs all = all_too (AnyForm ty) (FewForm ty) (any_few ty flat.0) vs all

    long : (e : Plain) (es : List Plain) (behind : List ℕ) → AllByRecursion (FewForm ty) (e ∷ es) → suc (length es) ≡ most_elements ty
        → front ≡ 91 ∷ (values_text (vals_of (e ∷ es)) ++ (44 ∷ behind)) → ShortOrLong (FewForm (array ty)) value_text (whole_array_at (value_at most_elements ty) (skim_at most_elements ty) (most_elements ty)) front tail
    long e es behind all full parts = inr (record {
      before = [];
      elements = values_text (vals_of (e ∷ es));
      behind = behind;
      parts = parts;
      stop = λ other.
          inl (whole_long (skim_at most_elements ty) (FewForm ty) (skim_complete few_elements most_elements ty flat.0) (skim_sound few_elements most_elements ty flat.0) (skim_never most_elements ty flat.0)
          (text_opens few_elements ⊥ ty) (value_at most_elements ty) (value_few ty (none_flat ty flat.0)) (most_elements ty) e es other all.0 all.1 full);
    })

    short : (e : Plain) (es : List Plain) (end : List ℕ) → AllByRecursion (FewForm ty) (e ∷ es) → suc (length es) ≡ most_elements ty
        → 91 ∷ values_text (vals_of (e ∷ es)) ≡ front ++ end → ShortOrLong (FewForm (array ty)) value_text (whole_array_at (value_at most_elements ty) (skim_at most_elements ty) (most_elements ty)) front tail
    short e es end all full is =
        inl (
          val.array (vals_of (e ∷ es)),
          end ++ (93 ∷ tail),
          (e ∷ es, refl, all, omega (arith, full)),
          array_text (vals_of (e ∷ es)) tail ∙ ap (λ (t : List ℕ). t ++ (93 ∷ tail)) is ∙ append_assoc front end (93 ∷ tail),
        )

    by_end : (e : Plain) (es : List Plain) (m : List ℕ) → AllByRecursion (FewForm ty) (e ∷ es) → suc (length es) ≡ most_elements ty
        → 91 ∷ (values_text (vals_of (e ∷ es)) ++ (44 ∷ [])) ≡ front ++ m → ShortOrLong (FewForm (array ty)) value_text (whole_array_at (value_at most_elements ty) (skim_at most_elements ty) (most_elements ty)) front tail
    by_end e es [] all full is = long e es [] all full (sym (is ∙ append-nil front))
    by_end e es (b ∷ m) all full is =
        let found = prefix_of (91 ∷ values_text (vals_of (e ∷ es))) front b m 44 is in
        short e es found.0 all full found.1

    many : (vs : List Plain) (u : Plain) (us : List Plain) → any.0 ≡ vs ++ (u ∷ us) → length vs ≡ most_elements ty → ShortOrLong (FewForm (array ty)) value_text (whole_array_at (value_at most_elements ty) (skim_at most_elements ty) (most_elements ty)) front tail
    many [] u us is full = let some : 0 < most_elements ty = flat.1 in absurd (omega (arith, some, full))
    many (e ∷ es) u us is full =
        let text = values_text (vals_of (e ∷ es)) in
        let more_behind = (32 ∷ values_text (vals_of (u ∷ us))) ++ (93 ∷ tail) in
        let all = few_of (e ∷ es) (all_front (AnyForm ty) (e ∷ es) (u ∷ us) (subst (AllByRecursion (AnyForm ty)) is any.2)) in
        let whole : value_text f ++ tail ≡ (91 ∷ (text ++ (44 ∷ []))) ++ more_behind =
        ap (λ w. value_text w ++ tail) any.1
        ∙ array_text (vals_of any.0) tail
        ∙ ap (λ vs. 91 ∷ (values_text (vals_of vs) ++ (93 ∷ tail))) is
        ∙ ap (λ (t : List ℕ). 91 ∷ (t ++ (93 ∷ tail))) (more_text e es u us)
        ∙ ap (λ (t : List ℕ). 91 ∷ t) (append_assoc text (44 ∷ (32 ∷ values_text (vals_of (u ∷ us)))) (93 ∷ tail))
        ∙ ap (λ (t : List ℕ). 91 ∷ t) (sym (append_assoc text (44 ∷ []) more_behind))
        in
        elim (split (91 ∷ (text ++ (44 ∷ []))) more_behind front more (sym whole ∙ same)) [
          | inl l ↦ by_end e es l.0 all full l.1
          | inr r ↦ long e es r.0 all full (r.1 ∙ ap (λ (t : List ℕ). 91 ∷ t) (append_assoc text (44 ∷ []) r.0))
        ]

    go : (length any.0 ≤ most_elements ty) ⊎ ((vs : List Plain) × (u : Plain) × (us : List Plain) × (any.0 ≡ vs ++ (u ∷ us)) × (length vs ≡ most_elements ty)) → ShortOrLong (FewForm (array ty)) value_text (whole_array_at (value_at most_elements ty) (skim_at most_elements ty) (most_elements ty)) front tail
    go (inl few) = inl (f, more, (any.0, any.1, few_of any.0 any.2, few), same)
    go (inr m) = many m.0 m.1 m.2 m.3 m.4

-- ---- members

comma_then : (item : ValueReader Plain) (there : List ℕ) → (comma_at >>= λ _. item) (44 ∷ (32 ∷ there)) ≡ item there
comma_then item there = after comma_at (λ _. item) (44 ∷ (32 ∷ there)) there tt (then_byte 44 (byte_at 32) (32 ∷ there) ∙ byte_complete 32 there)

member_shortens : (ty : Ty) → CanBeGiven ty → Shortens (AnyForm ty) (FewForm ty) value_text (value_at most_elements ty) → (is_first : Bool)
    → Shortens (AnyForm ty) (FewForm ty) (next_text is_first) (member_at is_first (value_at most_elements ty))
unfolding member_at separator_at
member_shortens ty can value true f front tail more any free same = value f front tail more any free same
member_shortens ty can value false f front tail more any free same =
    let one = a_value most_elements ty can in
    step (FewForm ty) (next_text false) (FewForm ty) value_text (member_at false (value_at most_elements ty)) (value_at most_elements ty) (44 ∷ (32 ∷ [])) (value_text f ++ tail) front more tail tail same
    one.0 (value_text one.0 ++ tail) (given_few ty one.0 one.1) refl (λ mid is. value f mid tail more any free is) (λ w. w) (λ w few. few) (λ w. refl)
    (λ there alike. inl (λ why left is. comma_then (value_at most_elements ty) there ∙ is))

member_leads : {B : Type 0} (ty : Ty) → CanBeGiven ty → HasFlatArrays ty → (is_first : Bool) (next : Plain → ValueReader B) (w : Plain) (there : List ℕ) → FewForm ty w → StartsWithNoDigit there
    → Leads (member_at is_first (value_at most_elements ty) >>= next) (next w) (next_text is_first w) there
unfolding member_at separator_at
member_leads ty can flat true next w there few free = value_leads ty can flat next w there few free
member_leads ty can flat false next w there few free = go (value_leads ty can flat next w there few free)
  where
    comma : (comma_at >>= λ _. value_at most_elements ty) (44 ∷ (32 ∷ (value_text w ++ there))) ≡ value_at most_elements ty (value_text w ++ there)
    comma = comma_then (value_at most_elements ty) (value_text w ++ there)

    go : Leads (value_at most_elements ty >>= next) (next w) (value_text w) there → Leads ((comma_at >>= λ _. value_at most_elements ty) >>= next) (next w) (44 ∷ (32 ∷ value_text w)) there
    go (inl leads) = inl (λ why left is. ap (λ a. go_on a next) comma ∙ leads why left is)
    go (inr out) = inr (out.0, ap (λ a. go_on a next) comma ∙ out.1)

abbrev Members : Type 0
Members = Vals WordMap OpenMap

members_shorten : (ty : Ty) (tys : Tys) → CanBeGiven ty → HasFlatArrays ty → CanAllBeGiven tys → (is_first : Bool)
    → Shortens (AnyForm ty) (FewForm ty) (next_text is_first) (member_at is_first (value_at most_elements ty))
    → Shortens (AnyForms tys) (FewForms tys) (left_text false) (members_at most_elements false tys)
    → Shortens (AnyForms (types ty tys)) (FewForms (types ty tys)) (left_text is_first)
    (member_at is_first (value_at most_elements ty) >>= λ v. members_at most_elements false tys >>= λ vs. done (values v vs))
members_shorten ty tys can flat can_all is_first member others f front tail more any free same = go (member any.0 front (left_text false any.1 ++ tail) more any.3 (left_follow any.1 tail free) starts_so)
  where
    next : Plain → ValueReader Members
    next v = members_at most_elements false tys >>= λ vs. done (values v vs)

    starts_so : next_text is_first any.0 ++ (left_text false any.1 ++ tail) ≡ front ++ more
    starts_so = sym (ap (λ us. left_text is_first us ++ tail) any.2 ∙ member_text is_first any.0 any.1 tail) ∙ same

    go : ShortOrLong (FewForm ty) (next_text is_first) (member_at is_first (value_at most_elements ty)) front (left_text false any.1 ++ tail)
        → ShortOrLong (FewForms (types ty tys)) (left_text is_first) (member_at is_first (value_at most_elements ty) >>= next) front tail
    go (inr l) = inr (first_stops (member_at is_first (value_at most_elements ty)) next front l)
    go (inl s) =
        let us = some_values most_elements tys can_all in
        step (FewForms (types ty tys)) (left_text is_first) (FewForms tys) (left_text false) (member_at is_first (value_at most_elements ty) >>= next) (next s.0) (next_text is_first s.0)
        (left_text false any.1 ++ tail) front s.1 tail tail s.3
        (s.0 ∷ us.0) (left_text false us.0 ++ tail) (s.0, us.0, refl, s.2, members_few tys us.0 us.1) (member_text is_first s.0 us.0 tail)
        (λ mid is. stops_too (FewForms tys) (left_text false) (members_at most_elements false tys) (λ vs. done (values s.0 vs)) mid tail (others any.1 mid tail s.1 any.4 free is))
        (λ ws. s.0 ∷ ws) (λ ws few. (s.0, ws, refl, s.2, few)) (λ ws. member_text is_first s.0 ws tail)
        (λ there alike. member_leads ty can flat is_first next s.0 there s.2 (no_digit_too (left_text false any.1 ++ tail) there alike (left_follow any.1 tail free)))

-- ---- structs and enums

struct_shortens : (name : List ℕ) (tys : Tys) → CanAllBeGiven tys → Shortens (AnyForms tys) (FewForms tys) (left_text true) (members_at most_elements true tys)
    → Shortens (AnyForm (struct name tys)) (FewForm (struct name tys)) value_text (byte_at 40 >>= λ _. members_at most_elements true tys >>= λ vs. byte_at 41 >>= λ _. done (val.struct vs))
struct_shortens name tys can members f front tail more any free same =
    let us = some_values most_elements tys can in
    step (FewForm (struct name tys)) value_text (FewForms tys) (left_text true) (byte_at 40 >>= λ _. members_at most_elements true tys >>= closing) (members_at most_elements true tys >>= closing) (40 ∷ [])
    (values_text (vals_of any.0) ++ (41 ∷ tail)) front more tail (41 ∷ tail) (sym (ap (λ w. value_text w ++ tail) any.1 ∙ struct_text (vals_of any.0) tail) ∙ same)
    (val.struct (vals_of us.0)) (values_text (vals_of us.0) ++ (41 ∷ tail)) (us.0, refl, members_few tys us.0 us.1) (struct_text (vals_of us.0) tail)
    (λ mid is. stops_too (FewForms tys) (left_text true) (members_at most_elements true tys) closing mid (41 ∷ tail) (members any.0 mid (41 ∷ tail) more any.2 (no_digit_below 41 tail (omega arith)) is))
    (λ vs. val.struct (vals_of vs)) (λ vs few. (vs, refl, few)) (λ vs. struct_text (vals_of vs) tail)
    (λ there alike. inl (λ why left is. then_byte 40 (members_at most_elements true tys >>= closing) there ∙ is))
  where
    closing : Members → ValueReader Plain
    closing vs = byte_at 41 >>= λ _. done (val.struct vs)

enum_shortens : (name : List ℕ) (tys : Tys) → CanAllBeGiven tys
    → ((index : ℕ) → index < count tys → Shortens (AnyVariant tys index) (FewVariant tys index) value_text (variant_at most_elements tys index))
    → Shortens (AnyForm (enum name tys)) (FewForm (enum name tys)) value_text (number_at (count tys) >>= λ index. byte_at 58 >>= λ _. variant_at most_elements tys index >>= λ v. done (val.enum index v))
enum_shortens name tys can variant f front tail more any free same =
    let below = index_below any_length most_elements tys any.0 any.1 any.3 in
    let one = a_variant most_elements tys can any.0 below in
    step (FewForm (enum name tys)) value_text (FewVariant tys any.0) value_text (number_at (count tys) >>= behind_index) (payload any.0) (decimal_text any.0 ++ (58 ∷ []))
    (value_text any.1 ++ tail) front more tail tail (sym (ap (λ w. value_text w ++ tail) any.2 ∙ texts any.1) ∙ same)
    (val.enum any.0 one.0) (value_text one.0 ++ tail) (any.0, one.0, refl, variant_few tys any.0 one.0 one.1) (texts one.0)
    (λ mid is. stops_too (FewVariant tys any.0) value_text (variant_at most_elements tys any.0) (λ v. done (val.enum any.0 v)) mid tail (variant any.0 below any.1 mid tail more any.3 free is))
    (λ v. val.enum any.0 v) (λ v few. (any.0, v, refl, few)) texts
    (λ there alike. inl (λ why left is. leads below there ∙ is))
  where
    payload : ℕ → ValueReader Plain
    payload index = variant_at most_elements tys index >>= λ v. done (val.enum index v)

    behind_index : ℕ → ValueReader Plain
    behind_index index = byte_at 58 >>= λ _. payload index

    texts : (v : Plain) → value_text (val.enum any.0 v) ++ tail ≡ (decimal_text any.0 ++ (58 ∷ [])) ++ (value_text v ++ tail)
    texts v = enum_text any.0 v tail ∙ sym (append_assoc (decimal_text any.0) (58 ∷ []) (value_text v ++ tail))

    leads : any.0 < count tys → (there : List ℕ) → (number_at (count tys) >>= behind_index) ((decimal_text any.0 ++ (58 ∷ [])) ++ there) ≡ payload any.0 there
    leads below there =
        ap (number_at (count tys) >>= behind_index) (append_assoc (decimal_text any.0) (58 ∷ []) there)
        ∙ after (number_at (count tys)) behind_index (decimal_text any.0 ++ (58 ∷ there)) (58 ∷ there) any.0
        (number_complete (count tys) any.0 (decimal_text any.0 ++ (58 ∷ there)) (58 ∷ there) below (starts any.0 (58 ∷ there) (no_digit_above 58 there (omega arith))))
        ∙ then_byte 58 (payload any.0) there

-- ---- by type

mutual
  unfolding value_at members_at variant_at

  value_shortens : (ty : Ty) → CanBeGiven ty → HasFlatArrays ty → Shortens (AnyForm ty) (FewForm ty) value_text (value_at most_elements ty)
  value_shortens (number k) can flat f front tail more any free same = inl (f, more, any, same)
  value_shortens (array ty) can flat f front tail more any free same = array_shortens ty flat f front tail more any free same
  value_shortens (struct name tys) can flat f front tail more any free same = struct_shortens name tys can (all_shorten true tys can flat) f front tail more any free same
  value_shortens (enum name no_types) can flat f front tail more any free same = absurd can
  value_shortens (enum name (types ty tys)) can flat f front tail more any free same =
      enum_shortens name (types ty tys) can (λ index below. variant_shortens (types ty tys) can flat index below) f front tail more any free same
  value_shortens (nonzero k) can flat f front tail more any free same = absurd can
  value_shortens range_check can flat f front tail more any free same = absurd can
  value_shortens gas_builtin can flat f front tail more any free same = absurd can
  value_shortens (box ty) can flat f front tail more any free same = absurd can
  value_shortens (snapshot ty) can flat f front tail more any free same = absurd can
  value_shortens (dict k) can flat f front tail more any free same = absurd can
  value_shortens (dict_entry k) can flat f front tail more any free same = absurd can
  value_shortens (squashed_dict k) can flat f front tail more any free same = absurd can
  value_shortens (uninitialized ty) can flat f front tail more any free same = absurd can

  all_shorten : (is_first : Bool) (tys : Tys) → CanAllBeGiven tys → HaveFlatArrays tys → Shortens (AnyForms tys) (FewForms tys) (left_text is_first) (members_at most_elements is_first tys)
  all_shorten is_first no_types can flat f front tail more any free same = inl (f, more, any, same)
  all_shorten is_first (types ty tys) can flat f front tail more any free same =
      members_shorten ty tys can.0 flat.0 can.1 is_first (member_shortens ty can.0 (value_shortens ty can.0 flat.0) is_first) (all_shorten false tys can.1 flat.1) f front tail more any free same

  variant_shortens : (tys : Tys) → CanAllBeGiven tys → HaveFlatArrays tys → (index : ℕ) → index < count tys
      → Shortens (AnyVariant tys index) (FewVariant tys index) value_text (variant_at most_elements tys index)
  variant_shortens no_types can flat index below f front tail more any free same = absurd (omega arith)
  variant_shortens (types ty tys) can flat zero below f front tail more any free same = value_shortens ty can.0 flat.0 f front tail more any free same
  variant_shortens (types ty tys) can flat (suc index) below f front tail more any free same = variant_shortens tys can.1 flat.1 index (omega arith) f front tail more any free same

-- ---- lines

line_leads : {B : Type 0} (ty : Ty) → CanBeGiven ty → HasFlatArrays ty → (next : Plain → ValueReader B) (w : Plain) (there : List ℕ) → FewForm ty w
    → Leads (line_at most_elements ty >>= next) (next w) (value_text w ++ (10 ∷ [])) there
unfolding line_at
line_leads ty can flat next w there few = go (value_few ty flat w (10 ∷ there) few (no_digit_here there))
  where
    closing : Plain → ValueReader Plain
    closing v = byte_at 10 >>= λ _. done v

    whole : (value_text w ++ (10 ∷ [])) ++ there ≡ value_text w ++ (10 ∷ there)
    whole = append_assoc (value_text w) (10 ∷ []) there

    go : IsFew w (10 ∷ there) (value_at most_elements ty (value_text w ++ (10 ∷ there))) → Leads ((value_at most_elements ty >>= closing) >>= next) (next w) (value_text w ++ (10 ∷ [])) there
    go (inl read) =
        inl (λ why left is.
        ap (λ (t : List ℕ). go_on ((value_at most_elements ty >>= closing) t) next) whole
        ∙ ap (λ a. go_on (go_on a closing) next) read ∙ ap (λ a. go_on a next) (then_byte 10 (done w) there) ∙ is)
    go (inr out) =
        let found = position ty can flat w (10 ∷ there) out.0 few (no_digit_here there) out.1 in
        inr (
          found.0 ++ (10 ∷ []),
          ap (λ (t : List ℕ). go_on ((value_at most_elements ty >>= closing) t) next) whole
              ∙ ap (λ a. go_on (go_on a closing) next) out.1
              ∙ ap (λ (t : List ℕ). answers (Err (Some limits.OutOfRange)) t) (found.1 ∙ sym (append_assoc found.0 (10 ∷ []) there)),
        )

pub lines_shorten : (tys : List Ty) → AllByRecursion CanBeGiven tys → AllByRecursion HasFlatArrays tys → (f : List Plain) (front more : List ℕ) → LinesOf tys f → all_lines f ++ [] ≡ front ++ more
    → ShortOrLong (FewLines tys) all_lines (lines_at most_elements tys) front []
unfolding lines_at line_at
lines_shorten [] can flat f front more any same = inl (f, more, any, same)
lines_shorten (ty ∷ tys) can flat f front more any same =
    go (lines_shorten tys can.1 flat.1) (value_shortens ty can.0 flat.0 any.0 front (10 ∷ (flat_map line_of any.1 ++ [])) more any.3 (no_digit_here (flat_map line_of any.1 ++ [])) starts_so)
  where
    next : Plain → ValueReader (List Plain)
    next v = lines_at most_elements tys >>= λ vs. done (v ∷ vs)

    line : (v : Plain) (vs : List Plain) → all_lines (v ∷ vs) ++ [] ≡ value_text v ++ (10 ∷ (flat_map line_of vs ++ []))
    line v vs = append_assoc (line_of v) (flat_map line_of vs) [] ∙ line_text v (flat_map line_of vs ++ [])

    starts_so : value_text any.0 ++ (10 ∷ (flat_map line_of any.1 ++ [])) ≡ front ++ more
    starts_so = sym (ap (λ us. all_lines us ++ []) any.2 ∙ line any.0 any.1) ∙ same

    go : ((f : List Plain) (front more : List ℕ) → LinesOf tys f → all_lines f ++ [] ≡ front ++ more → ShortOrLong (FewLines tys) all_lines (lines_at most_elements tys) front [])
        → ShortOrLong (FewForm ty) value_text (value_at most_elements ty) front (10 ∷ (flat_map line_of any.1 ++ [])) → ShortOrLong (FewLines (ty ∷ tys)) all_lines (line_at most_elements ty >>= next) front []
    go others (inr l) = inr (first_stops (line_at most_elements ty) next front (first_stops (value_at most_elements ty) (λ v. byte_at 10 >>= λ _. done v) front l))
    go others (inl s) =
        let us = some_lines most_elements tys can.1 in
        step (FewLines (ty ∷ tys)) all_lines (FewLines tys) all_lines (line_at most_elements ty >>= next) (next s.0) (value_text s.0 ++ (10 ∷ [])) (flat_map line_of any.1 ++ []) front s.1 [] []
        (append_assoc (value_text s.0) (10 ∷ []) (flat_map line_of any.1 ++ []) ∙ s.3)
        (s.0 ∷ us.0) (flat_map line_of us.0 ++ []) (s.0, us.0, refl, s.2, lines_few tys us.0 us.1)
        (line s.0 us.0 ∙ sym (append_assoc (value_text s.0) (10 ∷ []) (flat_map line_of us.0 ++ [])))
        (λ mid is. stops_too (FewLines tys) all_lines (lines_at most_elements tys) (λ vs. done (s.0 ∷ vs)) mid [] (others any.1 mid s.1 any.4 is))
        (λ ws. s.0 ∷ ws) (λ ws few. (s.0, ws, refl, s.2, few)) (λ ws. line s.0 ws ∙ sym (append_assoc (value_text s.0) (10 ∷ []) (flat_map line_of ws ++ [])))
        (λ there alike. line_leads ty can.0 flat.0 next s.0 there s.2)
