-- Where an array is told to be too long: an input's text begins with what was taken and the `[`, and a text of the form goes on up to the comma
-- that is one too many.
use Rattle.std.proofs.Common.{◌≡◌, ℕ, zero, suc, ◌<◌, inl, inr, ◌++◌, List, [], ◌∷◌, Bool, true, false, Ok, refl, sym, ap, ◌∙◌, subst, append_assoc, arith}
use Rattle.std.proofs.lemmas.List.{append-nil}
use Rattle.std.specs.List.{AllByRecursion, flat_map}
use Rattle.byte_reading.specs.Decimal.{decimal_text}
use Rattle.text_reading.specs.Reading.{Answer.answers, first, done, go_on, ◌>>=◌}
use Rattle.text_reading.proofs.Readers.{first-append, cancel}
use Rattle.type_trees.specs.Ty.{Ty, Tys, number, nonzero, range_check, gas_builtin, box, array, snapshot, struct, enum, dict, dict_entry, squashed_dict, uninitialized, no_types, types}
use Rattle.value_trees.specs.Of.{bound}
use Rattle.value_trees.specs.Val.{Plain, Vals, WordMap, OpenMap, no_values, values, vals_of}
use Rattle.value_trees.specs.Val as val
use Rattle.typed_values.specs.Faults.{CanBeGiven, CanAllBeGiven, HasForm, HaveForms, HasVariantForm, AllFormed, any_length, few_elements, HasFlatArrays, HaveFlatArrays}
use Rattle.typed_values.specs.Inputs.{IsGiven, AreGiven, IsGivenVariant, AllGiven, most_elements, line_of}
use Rattle.typed_values.specs.Listing.{next_text, left_text}
use Rattle.typed_values.specs.Marks.{ValueReader, byte_at, number_at, comma_at, separator_at, count}
use Rattle.typed_values.specs.Reading.{whole_array_at, member_at, value_at, members_at, variant_at, line_at, lines_at}
use Rattle.typed_values.specs.Skimming.{skim_at}
use Rattle.typed_values.specs.Texts.{value_text, values_text}
use Rattle.typed_values.proofs.ArrayForms.{IsLongAt, long_source, long_behind, long_made, long_byte, LongElements, whole_long, whole_source}
use Rattle.typed_values.proofs.FewRead.{FewForm, none_flat, value_few}
use Rattle.typed_values.proofs.FormsOfValues.{few_any, given_few, given_length, members_length, lines_length}
use Rattle.typed_values.proofs.FormsRead.{text_opens}
use Rattle.typed_values.proofs.InputTexts.{line_text}
use Rattle.typed_values.proofs.Leading.{number_sound}
use Rattle.typed_values.proofs.NoArrays.{NeverLong, NoBracket, no_bracket_append, form_no_bracket, byte_never, done_never, then_never, number_never, skim_never, value_never}
use Rattle.typed_values.proofs.Printed.{left_more}
use Rattle.typed_values.proofs.ReadBoth.{both, after, byte_complete, then_byte, byte_sound, byte_then, done_is}
use Rattle.typed_values.proofs.SkimForms.{skim_complete, skim_sound}
use Rattle.typed_values.proofs.Steady.{Steady, steady_number}
use Rattle.typed_values.proofs.SteadyValues.{some_values, some_lines, value_starts, member_steady, value_steady, line_steady, variants_some}
use Rattle.typed_values.proofs.TextForms.{element_text}
use Rattle.typed_values.proofs.ValuesSound.{member_sound, value_sound}

pub record LongIn {V R : Type 0} (G F : V → Type 0) (text_of : V → List ℕ) (reader : ValueReader R) (bytes rest : List ℕ) : Type 0 where
  pub taken : List ℕ
  pub elements : List ℕ
  pub behind : List ℕ
  pub given : V
  pub given_end : List ℕ
  pub is_given : G given
  pub given_text : text_of given ≡ taken ++ (91 ∷ given_end)
  pub form : V
  pub form_end : List ℕ
  pub is_form : F form
  pub form_text : text_of form ≡ taken ++ (91 ∷ (elements ++ (44 ∷ form_end)))
  pub is : bytes ≡ taken ++ rest
  pub rest_is : rest ≡ 91 ∷ (elements ++ (44 ∷ behind))
  pub same_array : NoBracket elements
  pub local : (other : List ℕ) → IsLongAt (reader (taken ++ (91 ∷ (elements ++ (44 ∷ other))))) (91 ∷ (elements ++ (44 ∷ other)))

abbrev LongRead : {V R : Type 0} → (V → Type 0) → (V → Type 0) → (V → List ℕ) → ValueReader R → Type 0
LongRead G F text_of reader = (bytes rest : List ℕ) → IsLongAt (reader bytes) rest → LongIn G F text_of reader bytes rest

-- the same with more before and behind
shift : {V W R S : Type 0} {G F : V → Type 0} {text_of : V → List ℕ} {reader : ValueReader R} (H E : W → Type 0) (other_text : W → List ℕ) (other_reader : ValueReader S)
    (mid rest : List ℕ) (l : LongIn G F text_of reader mid rest) (front back end bytes : List ℕ) (v w : W) → bytes ≡ front ++ mid
    → H v → other_text v ≡ front ++ (text_of l.given ++ back) → E w → other_text w ≡ front ++ (text_of l.form ++ end)
    → ((other : List ℕ) → IsLongAt (other_reader (front ++ (l.taken ++ (91 ∷ (l.elements ++ (44 ∷ other)))))) (91 ∷ (l.elements ++ (44 ∷ other))))
    → LongIn H E other_text other_reader bytes rest
shift H E other_text other_reader mid rest l front back end bytes v w parts given given_text form form_text goes = record {
  taken = front ++ l.taken;
  elements = l.elements;
  behind = l.behind;
  given = v;
  given_end = l.given_end ++ back;
  is_given = given;
  given_text =
      given_text
      ∙ ap (λ (t : List ℕ). front ++ (t ++ back)) l.given_text
      ∙ ap (λ (t : List ℕ). front ++ t) (append_assoc l.taken (91 ∷ l.given_end) back)
      ∙ sym (append_assoc front l.taken (91 ∷ (l.given_end ++ back)));
  form = w;
  form_end = l.form_end ++ end;
  is_form = form;
  form_text =
      form_text
      ∙ ap (λ (t : List ℕ). front ++ (t ++ end)) l.form_text
      ∙ ap (λ (t : List ℕ). front ++ t) (append_assoc l.taken (91 ∷ (l.elements ++ (44 ∷ l.form_end))) end)
      ∙ ap (λ (t : List ℕ). front ++ (l.taken ++ (91 ∷ t))) (append_assoc l.elements (44 ∷ l.form_end) end)
      ∙ sym (append_assoc front l.taken (91 ∷ (l.elements ++ (44 ∷ (l.form_end ++ end)))));
  is = parts ∙ ap (λ (t : List ℕ). front ++ t) l.is ∙ sym (append_assoc front l.taken rest);
  rest_is = l.rest_is;
  same_array = l.same_array;
  local = λ other. ap other_reader (append_assoc front l.taken (91 ∷ (l.elements ++ (44 ∷ other)))) ∙ goes other;
}

-- the next reader isn't come to
stops : {V R S : Type 0} {G F : V → Type 0} {text_of : V → List ℕ} (reader : ValueReader R) (next : R → ValueReader S) (bytes rest : List ℕ) → LongIn G F text_of reader bytes rest
    → LongIn G F text_of (reader >>= next) bytes rest
stops reader next bytes rest l = record {
  taken = l.taken;
  elements = l.elements;
  behind = l.behind;
  given = l.given;
  given_end = l.given_end;
  is_given = l.is_given;
  given_text = l.given_text;
  form = l.form;
  form_end = l.form_end;
  is_form = l.is_form;
  form_text = l.form_text;
  is = l.is;
  rest_is = l.rest_is;
  same_array = l.same_array;
  local = λ other. ap (λ a. go_on a next) (l.local other);
}

-- what was read is read again where the rest begins alike
reads_too : {A : Type 0} {follow : List ℕ → Type 0} (reader : ValueReader A) (bytes mid text : List ℕ) (x : A) → Steady follow reader → reader bytes ≡ answers (Ok x) mid → bytes ≡ text ++ mid
    → (other : List ℕ) → first mid ≡ first other → reader (text ++ other) ≡ answers (Ok x) other
reads_too reader bytes mid text x steady was parts other same =
    let took = steady bytes mid (Ok x) tt was in
    let is : took.taken ≡ text = cancel took.taken text mid (sym took.is ∙ parts) in
    subst (λ (t : List ℕ). reader (t ++ other) ≡ answers (Ok x) other) is (took.local other same)

-- the next reader is come to
goes_next : {V A B : Type 0} {G F : V → Type 0} {text_of : V → List ℕ} (reader : ValueReader A) (next : A → ValueReader B) (mid rest text : List ℕ) (x : A)
    → ((other : List ℕ) → first mid ≡ first other → reader (text ++ other) ≡ answers (Ok x) other) → (l : LongIn G F text_of (next x) mid rest)
    → (other : List ℕ) → IsLongAt ((reader >>= next) (text ++ (l.taken ++ (91 ∷ (l.elements ++ (44 ∷ other)))))) (91 ∷ (l.elements ++ (44 ∷ other)))
goes_next reader next mid rest text x reads l other =
    after reader next (text ++ (l.taken ++ (91 ∷ (l.elements ++ (44 ∷ other))))) (l.taken ++ (91 ∷ (l.elements ++ (44 ∷ other)))) x
    (reads (l.taken ++ (91 ∷ (l.elements ++ (44 ∷ other))))
    (ap first (l.is ∙ ap (λ (t : List ℕ). l.taken ++ t) l.rest_is) ∙ first-append l.taken (91 ∷ (l.elements ++ (44 ∷ l.behind))) (91 ∷ (l.elements ++ (44 ∷ other))) refl))
    ∙ l.local other

closing_never : {A : Type 0} (byte : ℕ) (x : A) → NeverLong (byte_at byte >>= λ _. done x)
closing_never byte x = then_never (byte_at byte) (λ _. done x) (byte_never byte) (λ _. done_never x)

-- ---- an array

all_and : (P : Plain → Type 0) (vs : List Plain) (w : Plain) → AllByRecursion P vs → P w → AllByRecursion P (vs ++ (w ∷ []))
all_and P [] w all one = (one, tt)
all_and P (v ∷ vs) w all one = (all.0, all_and P vs w all.1 one)

all_too : (P Q : Plain → Type 0) → ((v : Plain) → P v → Q v) → (vs : List Plain) → AllByRecursion P vs → AllByRecursion Q vs
all_too P Q f [] all = tt
all_too P Q f (v ∷ vs) all = (f v all.0, all_too P Q f vs all.1)

one_more : (v : Plain) (vs : List Plain) (w : Plain) → values_text (vals_of (v ∷ (vs ++ (w ∷ [])))) ≡ values_text (vals_of (v ∷ vs)) ++ (44 ∷ (32 ∷ value_text w))
one_more v [] w = ap (λ (t : List ℕ). value_text v ++ (44 ∷ (32 ∷ t))) (append-nil (value_text w))
one_more v (u ∷ vs) w =
    ap (λ (t : List ℕ). value_text v ++ (44 ∷ (32 ∷ t))) (append-nil (values_text (vals_of (u ∷ (vs ++ (w ∷ []))))) ∙ one_more u vs w)
    ∙ sym (element_text v u vs (44 ∷ (32 ∷ value_text w)))

values_no_bracket : (P : Plain → Type 0) → ((v : Plain) → P v → NoBracket (value_text v)) → (v : Plain) (vs : List Plain) → P v → AllByRecursion P vs → NoBracket (values_text (vals_of (v ∷ vs)))
values_no_bracket P none v [] given all = none v given
values_no_bracket P none v (u ∷ vs) given all =
    no_bracket_append (value_text v) (44 ∷ (32 ∷ (values_text (vals_of (u ∷ vs)) ++ []))) (none v given)
    ((λ same. omega arith), ((λ same. omega arith), no_bracket_append (values_text (vals_of (u ∷ vs))) [] (values_no_bracket P none u vs all.0 all.1) tt))

abbrev pub AnyForm : Ty → Plain → Type 0
AnyForm = HasForm any_length ⊥

abbrev pub AnyForms : Tys → List Plain → Type 0
AnyForms = HaveForms any_length ⊥

abbrev pub AnyVariant : Tys → ℕ → Plain → Type 0
AnyVariant = HasVariantForm any_length ⊥

array_long : (ty : Ty) → HasFlatArrays (array ty) → LongRead (IsGiven most_elements (array ty)) (AnyForm (array ty)) value_text (whole_array_at (value_at most_elements ty) (skim_at most_elements ty) (most_elements ty))
array_long ty flat bytes rest is =
    let found = whole_source (skim_at most_elements ty) (FewForm ty) (skim_complete few_elements most_elements ty flat.0) (skim_sound few_elements most_elements ty flat.0) (skim_never most_elements ty flat.0)
    (text_opens few_elements ⊥ ty) (value_at most_elements ty) (value_few ty (none_flat ty flat.0)) (IsGiven most_elements ty) (value_sound most_elements ty) (given_few ty) (value_never most_elements ty flat.0)
    (most_elements ty) flat.1 bytes rest is in
    go found.0 found.1 found.2
  where
    go : (mid : List ℕ) → bytes ≡ 91 ∷ mid → LongElements (FewForm ty) bytes (most_elements ty) true mid rest
        → LongIn (IsGiven most_elements (array ty)) (AnyForm (array ty)) value_text (whole_array_at (value_at most_elements ty) (skim_at most_elements ty) (most_elements ty)) bytes rest
    go mid parts e = record {
      taken = [];
      elements = values_text (vals_of (e.element ∷ e.others));
      behind = e.behind;
      given = val.array no_values;
      given_end = 93 ∷ [];
      is_given = ([], refl, tt, omega arith);
      given_text = refl;
      form = val.array (vals_of (e.element ∷ (e.others ++ (e.element ∷ []))));
      form_end = (32 ∷ value_text e.element) ++ (93 ∷ []);
      is_form = (
        e.element ∷ (e.others ++ (e.element ∷ [])),
        refl,
        (few_any ty e.element e.formed, all_and (AnyForm ty) e.others e.element (all_too (FewForm ty) (AnyForm ty) (few_any ty) e.others e.all) (few_any ty e.element e.formed)),
        tt,
      );
      form_text =
          ap (λ (t : List ℕ). 91 ∷ (t ++ (93 ∷ []))) (one_more e.element e.others e.element)
          ∙ ap (λ (t : List ℕ). 91 ∷ t) (append_assoc (values_text (vals_of (e.element ∷ e.others))) (44 ∷ (32 ∷ value_text e.element)) (93 ∷ []));
      is = sym e.start_is;
      rest_is = e.start_is ∙ parts ∙ ap (λ (t : List ℕ). 91 ∷ t) e.text;
      same_array = values_no_bracket (FewForm ty) (form_no_bracket few_elements ty flat.0) e.element e.others e.formed e.all;
      local = λ other.
          whole_long (skim_at most_elements ty) (FewForm ty) (skim_complete few_elements most_elements ty flat.0) (skim_sound few_elements most_elements ty flat.0) (skim_never most_elements ty flat.0)
          (text_opens few_elements ⊥ ty) (value_at most_elements ty) (value_few ty (none_flat ty flat.0)) (most_elements ty) e.element e.others other e.formed e.all e.room_is;
    }

-- ---- members

member_long : (ty : Ty) → LongRead (IsGiven most_elements ty) (AnyForm ty) value_text (value_at most_elements ty) → (is_first : Bool)
    → LongRead (IsGiven most_elements ty) (AnyForm ty) (next_text is_first) (member_at is_first (value_at most_elements ty))
unfolding member_at separator_at
member_long ty long true bytes rest is =
    let l = long bytes rest is in
    shift (IsGiven most_elements ty) (AnyForm ty) (next_text true) (member_at true (value_at most_elements ty)) bytes rest l [] [] [] bytes l.given l.form refl l.is_given (sym (append-nil (value_text l.given)))
    l.is_form (sym (append-nil (value_text l.form))) l.local
member_long ty long false bytes rest is =
    let found = long_behind comma_at (λ _. value_at most_elements ty) bytes rest (then_never (byte_at 44) (λ _. byte_at 32) (byte_never 44) (λ _. byte_never 32)) is in
    let comma = byte_then 44 (byte_at 32) bytes found.1 found.0 found.2 in
    let space = byte_sound 32 comma.0 found.1 found.0 comma.2 in
    let l = long found.1 rest found.3 in
    shift (IsGiven most_elements ty) (AnyForm ty) (next_text false) (member_at false (value_at most_elements ty)) found.1 rest l (44 ∷ (32 ∷ [])) [] [] bytes l.given l.form
    (comma.1 ∙ ap (λ (t : List ℕ). 44 ∷ t) space) l.is_given (ap (λ (t : List ℕ). 44 ∷ (32 ∷ t)) (sym (append-nil (value_text l.given))))
    l.is_form (ap (λ (t : List ℕ). 44 ∷ (32 ∷ t)) (sym (append-nil (value_text l.form))))
    (λ other.
    after comma_at (λ _. value_at most_elements ty) (44 ∷ (32 ∷ (l.taken ++ (91 ∷ (l.elements ++ (44 ∷ other)))))) (l.taken ++ (91 ∷ (l.elements ++ (44 ∷ other)))) tt
    (then_byte 44 (byte_at 32) (32 ∷ (l.taken ++ (91 ∷ (l.elements ++ (44 ∷ other))))) ∙ byte_complete 32 (l.taken ++ (91 ∷ (l.elements ++ (44 ∷ other)))))
    ∙ l.local other)

abbrev Members : Type 0
Members = Vals WordMap OpenMap

members_step : (ty : Ty) (tys : Tys) → CanBeGiven ty → CanAllBeGiven tys → (is_first : Bool)
    → LongRead (IsGiven most_elements ty) (AnyForm ty) (next_text is_first) (member_at is_first (value_at most_elements ty))
    → LongRead (AreGiven most_elements tys) (AnyForms tys) (left_text false) (members_at most_elements false tys)
    → LongRead (AreGiven most_elements (types ty tys)) (AnyForms (types ty tys)) (left_text is_first)
    (member_at is_first (value_at most_elements ty) >>= λ v. members_at most_elements false tys >>= λ vs. done (values v vs))
unfolding stops
members_step ty tys can can_all is_first member others bytes rest is = elim (long_source (member_at is_first (value_at most_elements ty)) next bytes rest is) [
  | inl here ↦
      let l = member bytes rest here in
      let more = some_values most_elements tys can_all in
      shift (AreGiven most_elements (types ty tys)) (AnyForms (types ty tys)) (left_text is_first) reader bytes rest l [] (left_text false more.0) (left_text false more.0) bytes (l.given ∷ more.0) (l.form ∷ more.0) refl
      (l.given, more.0, refl, l.is_given, more.1) (left_more is_first l.given more.0)
      (l.form, more.0, refl, l.is_form, members_length tys more.0 more.1) (left_more is_first l.form more.0)
      (stops (member_at is_first (value_at most_elements ty)) next bytes rest l).local
  | inr later ↦
      let given = member_sound (value_at most_elements ty) (IsGiven most_elements ty) (value_sound most_elements ty) is_first bytes later.1 later.0 later.2 in
      let l = others later.1 rest (long_made (members_at most_elements false tys) (values later.0) later.1 rest later.3) in
      shift (AreGiven most_elements (types ty tys)) (AnyForms (types ty tys)) (left_text is_first) reader later.1 rest l (next_text is_first later.0) [] [] bytes (later.0 ∷ l.given) (later.0 ∷ l.form) given.1
      (later.0, l.given, refl, given.0, l.is_given) (left_more is_first later.0 l.given ∙ ap (λ (t : List ℕ). next_text is_first later.0 ++ t) (sym (append-nil (left_text false l.given))))
      (later.0, l.form, refl, given_length ty later.0 given.0, l.is_form) (left_more is_first later.0 l.form ∙ ap (λ (t : List ℕ). next_text is_first later.0 ++ t) (sym (append-nil (left_text false l.form))))
      (goes_next (member_at is_first (value_at most_elements ty)) next later.1 rest (next_text is_first later.0) later.0
      (reads_too (member_at is_first (value_at most_elements ty)) bytes later.1 (next_text is_first later.0) later.0
      (member_steady is_first (value_at most_elements ty) (value_steady most_elements ty can) (value_starts most_elements ty can)) later.2 given.1)
      (stops (members_at most_elements false tys) (λ vs. done (values later.0 vs)) later.1 rest l))
]
  where
    next : Plain → ValueReader Members
    next v = members_at most_elements false tys >>= λ vs. done (values v vs)

    reader : ValueReader Members
    reader = member_at is_first (value_at most_elements ty) >>= next

-- ---- structs and enums

struct_long : (name : List ℕ) (tys : Tys) → LongRead (AreGiven most_elements tys) (AnyForms tys) (left_text true) (members_at most_elements true tys)
    → LongRead (IsGiven most_elements (struct name tys)) (AnyForm (struct name tys)) value_text
    (byte_at 40 >>= λ _. members_at most_elements true tys >>= λ vs. byte_at 41 >>= λ _. done (val.struct vs))
unfolding stops
struct_long name tys members bytes rest is =
    let opened = long_byte 40 (members_at most_elements true tys >>= closing) bytes rest is in
    go opened.0 opened.1 opened.2
  where
    closing : Members → ValueReader Plain
    closing vs = byte_at 41 >>= λ _. done (val.struct vs)

    go : (mid : List ℕ) → bytes ≡ 40 ∷ mid → IsLongAt ((members_at most_elements true tys >>= closing) mid) rest
        → LongIn (IsGiven most_elements (struct name tys)) (AnyForm (struct name tys)) value_text (byte_at 40 >>= λ _. members_at most_elements true tys >>= closing) bytes rest
    go mid parts is = elim (long_source (members_at most_elements true tys) closing mid rest is) [
      | inl here ↦
          let l = members mid rest here in
          shift (IsGiven most_elements (struct name tys)) (AnyForm (struct name tys)) value_text (byte_at 40 >>= λ _. members_at most_elements true tys >>= closing) mid rest l (40 ∷ []) (41 ∷ []) (41 ∷ []) bytes
          (val.struct (vals_of l.given)) (val.struct (vals_of l.form)) parts (l.given, refl, l.is_given) refl (l.form, refl, l.is_form) refl
          (λ other.
          then_byte 40 (members_at most_elements true tys >>= closing) (l.taken ++ (91 ∷ (l.elements ++ (44 ∷ other))))
          ∙ (stops (members_at most_elements true tys) closing mid rest l).local other)
      | inr later ↦ absurd (closing_never 41 (val.struct later.0) later.1 rest later.3)
    ]

enum_long : (name : List ℕ) (tys : Tys) → 0 < count tys
    → ((index : ℕ) → index < count tys → LongRead (IsGivenVariant most_elements tys index) (AnyVariant tys index) value_text (variant_at most_elements tys index))
    → LongRead (IsGiven most_elements (enum name tys)) (AnyForm (enum name tys)) value_text
    (number_at (count tys) >>= λ index. byte_at 58 >>= λ _. variant_at most_elements tys index >>= λ v. done (val.enum index v))
unfolding stops shift
enum_long name tys some variant bytes rest is =
    let found = long_behind (number_at (count tys)) behind_index bytes rest (number_never (count tys)) is in
    let number_is = number_sound (count tys) found.0 bytes found.1 found.2 in
    let colon = long_byte 58 (payload found.0) found.1 rest found.3 in
    go found.0 found.1 colon.0 number_is.0 number_is.1.text_is colon.1 found.2 (long_made (variant_at most_elements tys found.0) (val.enum found.0) colon.0 rest colon.2)
  where
    payload : ℕ → ValueReader Plain
    payload index = variant_at most_elements tys index >>= λ v. done (val.enum index v)

    behind_index : ℕ → ValueReader Plain
    behind_index index = byte_at 58 >>= λ _. payload index

    go : (index : ℕ) (mid end : List ℕ) → index < count tys → bytes ≡ decimal_text index ++ mid → mid ≡ 58 ∷ end → number_at (count tys) bytes ≡ answers (Ok index) mid
        → IsLongAt (variant_at most_elements tys index end) rest
        → LongIn (IsGiven most_elements (enum name tys)) (AnyForm (enum name tys)) value_text (number_at (count tys) >>= behind_index) bytes rest
    go index mid end below parts colon read is =
        let l = variant index below end rest is in
        let c = shift (IsGivenVariant most_elements tys index) (AnyVariant tys index) (λ v. 58 ∷ value_text v) (behind_index index) end rest l (58 ∷ []) [] [] mid l.given l.form colon
        l.is_given (ap (λ (t : List ℕ). 58 ∷ t) (sym (append-nil (value_text l.given)))) l.is_form (ap (λ (t : List ℕ). 58 ∷ t) (sym (append-nil (value_text l.form))))
        (λ other.
        then_byte 58 (payload index) (l.taken ++ (91 ∷ (l.elements ++ (44 ∷ other))))
        ∙ (stops (variant_at most_elements tys index) (λ v. done (val.enum index v)) end rest l).local other) in
        shift (IsGiven most_elements (enum name tys)) (AnyForm (enum name tys)) value_text (number_at (count tys) >>= behind_index) mid rest c (decimal_text index) [] [] bytes (val.enum index l.given) (val.enum index l.form) parts
        (index, l.given, refl, l.is_given) refl (index, l.form, refl, l.is_form) refl
        (goes_next (number_at (count tys)) behind_index mid rest (decimal_text index) index
        (reads_too (number_at (count tys)) bytes mid (decimal_text index) index (steady_number (count tys) some) read parts) c)

-- ---- by type

mutual
  unfolding value_at members_at variant_at

  value_long : (ty : Ty) → CanBeGiven ty → HasFlatArrays ty → LongRead (IsGiven most_elements ty) (AnyForm ty) value_text (value_at most_elements ty)
  value_long (number k) can flat bytes rest is = absurd (then_never (number_at (bound k)) (λ n. done (val.number k n)) (number_never (bound k)) (λ n. done_never (val.number k n)) bytes rest is)
  value_long (array ty) can flat bytes rest is = array_long ty flat bytes rest is
  value_long (struct name tys) can flat bytes rest is = struct_long name tys (members_long true tys can flat) bytes rest is
  value_long (enum name no_types) can flat bytes rest is = absurd can
  value_long (enum name (types ty tys)) can flat bytes rest is =
      enum_long name (types ty tys) (variants_some ty tys) (λ index below. variant_long (types ty tys) can flat index below) bytes rest is
  value_long (nonzero k) can flat bytes rest is = absurd can
  value_long range_check can flat bytes rest is = absurd can
  value_long gas_builtin can flat bytes rest is = absurd can
  value_long (box ty) can flat bytes rest is = absurd can
  value_long (snapshot ty) can flat bytes rest is = absurd can
  value_long (dict k) can flat bytes rest is = absurd can
  value_long (dict_entry k) can flat bytes rest is = absurd can
  value_long (squashed_dict k) can flat bytes rest is = absurd can
  value_long (uninitialized ty) can flat bytes rest is = absurd can

  members_long : (is_first : Bool) (tys : Tys) → CanAllBeGiven tys → HaveFlatArrays tys → LongRead (AreGiven most_elements tys) (AnyForms tys) (left_text is_first) (members_at most_elements is_first tys)
  members_long is_first no_types can flat bytes rest is = absurd (done_never no_values bytes rest is)
  members_long is_first (types ty tys) can flat bytes rest is =
      members_step ty tys can.0 can.1 is_first (member_long ty (value_long ty can.0 flat.0) is_first) (members_long false tys can.1 flat.1) bytes rest is

  variant_long : (tys : Tys) → CanAllBeGiven tys → HaveFlatArrays tys → (index : ℕ) → index < count tys
      → LongRead (IsGivenVariant most_elements tys index) (AnyVariant tys index) value_text (variant_at most_elements tys index)
  variant_long no_types can flat index below bytes rest is = absurd (omega arith)
  variant_long (types ty tys) can flat zero below bytes rest is = value_long ty can.0 flat.0 bytes rest is
  variant_long (types ty tys) can flat (suc index) below bytes rest is = variant_long tys can.1 flat.1 index (omega arith) bytes rest is

line_long : (ty : Ty) → CanBeGiven ty → HasFlatArrays ty → LongRead (IsGiven most_elements ty) (AnyForm ty) value_text (line_at most_elements ty)
unfolding line_at
line_long ty can flat bytes rest is = elim (long_source (value_at most_elements ty) (λ v. byte_at 10 >>= λ _. done v) bytes rest is) [
  | inl here ↦ stops (value_at most_elements ty) (λ v. byte_at 10 >>= λ _. done v) bytes rest (value_long ty can flat bytes rest here)
  | inr later ↦ absurd (closing_never 10 later.0 later.1 rest later.3)
]

-- what a line was read of
line_sound : (ty : Ty) (bytes rest : List ℕ) (v : Plain) → line_at most_elements ty bytes ≡ answers (Ok v) rest → IsGiven most_elements ty v × (bytes ≡ (value_text v ++ (10 ∷ [])) ++ rest)
unfolding line_at
line_sound ty bytes rest v is =
    let value = both (value_at most_elements ty) (λ w. byte_at 10 >>= λ _. done w) bytes rest v is in
    let close = byte_then 10 (done value.0) value.1 rest v value.3 in
    let end = done_is value.0 v close.0 rest close.2 in
    let given = value_sound most_elements ty bytes value.1 value.0 value.2 in (
      subst (IsGiven most_elements ty) end.0 given.0,
      given.1 ∙ ap (λ (t : List ℕ). value_text value.0 ++ t) (close.1 ∙ ap (λ (t : List ℕ). 10 ∷ t) end.1) ∙ sym (append_assoc (value_text value.0) (10 ∷ []) rest)
          ∙ ap (λ w. (value_text w ++ (10 ∷ [])) ++ rest) end.0,
    )

abbrev pub LinesOf : List Ty → List Plain → Type 0
LinesOf = AllFormed any_length ⊥

abbrev pub all_lines : List Plain → List ℕ
all_lines vs = flat_map line_of vs

pub lines_long : (tys : List Ty) → AllByRecursion CanBeGiven tys → AllByRecursion HasFlatArrays tys → LongRead (AllGiven most_elements tys) (LinesOf tys) all_lines (lines_at most_elements tys)
unfolding lines_at stops
lines_long [] can flat [] rest is = let never : ⊥ = cc in absurd never
lines_long [] can flat (byte ∷ bytes) rest is = let never : ⊥ = cc in absurd never
lines_long (ty ∷ tys) can flat bytes rest is = elim (long_source (line_at most_elements ty) (λ v. lines_at most_elements tys >>= λ vs. done (v ∷ vs)) bytes rest is) [
  | inl here ↦
      let l = line_long ty can.0 flat.0 bytes rest here in
      let more = some_lines most_elements tys can.1 in
      shift (AllGiven most_elements (ty ∷ tys)) (LinesOf (ty ∷ tys)) all_lines (lines_at most_elements (ty ∷ tys)) bytes rest l [] (10 ∷ flat_map line_of more.0) (10 ∷ flat_map line_of more.0) bytes
      (l.given ∷ more.0) (l.form ∷ more.0) refl (l.given, more.0, refl, l.is_given, more.1) (line_text l.given (flat_map line_of more.0))
      (l.form, more.0, refl, l.is_form, lines_length tys more.0 more.1) (line_text l.form (flat_map line_of more.0))
      (stops (line_at most_elements ty) (λ v. lines_at most_elements tys >>= λ vs. done (v ∷ vs)) bytes rest l).local
  | inr later ↦
      let given = line_sound ty bytes later.1 later.0 later.2 in
      let l = lines_long tys can.1 flat.1 later.1 rest (long_made (lines_at most_elements tys) (λ vs. later.0 ∷ vs) later.1 rest later.3) in
      shift (AllGiven most_elements (ty ∷ tys)) (LinesOf (ty ∷ tys)) all_lines (lines_at most_elements (ty ∷ tys)) later.1 rest l (value_text later.0 ++ (10 ∷ [])) [] [] bytes
      (later.0 ∷ l.given) (later.0 ∷ l.form) given.1 (later.0, l.given, refl, given.0, l.is_given) (ap (λ (t : List ℕ). line_of later.0 ++ t) (sym (append-nil (flat_map line_of l.given))))
      (later.0, l.form, refl, given_length ty later.0 given.0, l.is_form) (ap (λ (t : List ℕ). line_of later.0 ++ t) (sym (append-nil (flat_map line_of l.form))))
      (goes_next (line_at most_elements ty) (λ v. lines_at most_elements tys >>= λ vs. done (v ∷ vs)) later.1 rest (value_text later.0 ++ (10 ∷ [])) later.0
      (reads_too (line_at most_elements ty) bytes later.1 (value_text later.0 ++ (10 ∷ [])) later.0 (line_steady most_elements ty can.0) later.2 given.1)
      (stops (lines_at most_elements tys) (λ vs. done (later.0 ∷ vs)) later.1 rest l))
]
