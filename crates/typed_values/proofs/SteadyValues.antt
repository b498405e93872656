-- The readers of values and of lines are steady where values can be given.
use Rattle.std.proofs.Common.{◌≡◌, ℕ, zero, suc, ◌<◌, List, [], ◌∷◌, ◌++◌, Bool, true, false, None, Ok, Err, refl, sym, ◌∙◌, ap, arith}
use Rattle.std.proofs.lemmas.List.{append-nil}
use Rattle.std.specs.List.{AllByRecursion, flat_map}
use Rattle.byte_reading.specs.Decimal.{StartsWithNoDigit}
use Rattle.text_reading.specs.Reading.{first, Answer.answers, done, ◌>>=◌}
use Rattle.text_reading.proofs.Readers.{Starts, done_starts}
use Rattle.type_trees.specs.Ty.{Ty, Tys, number, nonzero, range_check, gas_builtin, box, array, snapshot, struct, enum, dict, dict_entry, squashed_dict, uninitialized, no_types, types}
use Rattle.type_trees.specs.declared.num.Num.{Num}
use Rattle.type_trees.specs.declared.num.Num.TheVariants as nums
use Rattle.value_trees.specs.Of.{bound}
use Rattle.value_trees.specs.Val.{Plain, Vals, WordMap, OpenMap, no_values, values, vals_of}
use Rattle.value_trees.specs.Val as val
use Rattle.typed_values.specs.Faults.{CanBeGiven, CanAllBeGiven}
use Rattle.typed_values.specs.Inputs.{IsGiven, AreGiven, IsGivenVariant, AllGiven, line_of}
use Rattle.typed_values.specs.Listing.{left_text}
use Rattle.typed_values.specs.Marks.{ValueReader, byte_at, number_at, comma_at, separator_at, count}
use Rattle.typed_values.specs.Reading.{member_at, value_at, members_at, variant_at, line_at, lines_at}
use Rattle.typed_values.specs.Skimming.{skim_at}
use Rattle.typed_values.specs.Texts.{value_text}
use Rattle.typed_values.proofs.InputTexts.{lines_complete, no_digit_here}
use Rattle.typed_values.proofs.Leading.{number_sound}
use Rattle.typed_values.proofs.Steady.{Anything, Steady, steady_before, steady_then, starts_then, starts_byte, steady_done, steady_byte, steady_number, steady_made, starts_made, steady_behind, starts_behind}
use Rattle.typed_values.proofs.SteadyArrays.{whole_array_steady}
use Rattle.typed_values.proofs.TextForms.{left_follow}
use Rattle.typed_values.proofs.ValuesComplete.{no_digit_above, no_digit_below, value_complete, members_complete, variant_complete}

-- ---- a value of each type

pub bound_some : (k : Num) → 0 < bound k
bound_some nums.Felt64 = omega arith
bound_some nums.U8 = omega arith
bound_some nums.U16 = omega arith
bound_some nums.U32 = omega arith

module _ (most : Ty → ℕ) where
  mutual
    pub a_value : (ty : Ty) → CanBeGiven ty → (v : Plain) × IsGiven most ty v
    a_value (number k) can = (val.number k 0, (0, refl, bound_some k))
    a_value (array ty) can = (val.array no_values, ([], refl, tt, omega arith))
    a_value (struct name tys) can = let members = some_values tys can in (val.struct (vals_of members.0), (members.0, refl, members.1))
    a_value (enum name no_types) can = absurd can
    a_value (enum name (types ty tys)) can = let payload = a_value ty can.0 in (val.enum 0 payload.0, (0, payload.0, refl, payload.1))
    a_value (nonzero k) can = absurd can
    a_value range_check can = absurd can
    a_value gas_builtin can = absurd can
    a_value (box ty) can = absurd can
    a_value (snapshot ty) can = absurd can
    a_value (dict k) can = absurd can
    a_value (dict_entry k) can = absurd can
    a_value (squashed_dict k) can = absurd can
    a_value (uninitialized ty) can = absurd can

    pub some_values : (tys : Tys) → CanAllBeGiven tys → (vs : List Plain) × AreGiven most tys vs
    some_values no_types can = ([], refl)
    some_values (types ty tys) can =
        let one = a_value ty can.0 in
        let others = some_values tys can.1 in
        (one.0 ∷ others.0, (one.0, others.0, refl, one.1, others.1))

  pub a_variant : (tys : Tys) → CanAllBeGiven tys → (index : ℕ) → index < count tys → (v : Plain) × IsGivenVariant most tys index v
  a_variant no_types can index below = absurd (omega arith)
  a_variant (types ty tys) can zero below = a_value ty can.0
  a_variant (types ty tys) can (suc index) below = a_variant tys can.1 index (omega arith)

  pub some_lines : (tys : List Ty) → AllByRecursion CanBeGiven tys → (vs : List Plain) × AllGiven most tys vs
  some_lines [] can = ([], refl)
  some_lines (ty ∷ tys) can =
      let one = a_value ty can.0 in
      let others = some_lines tys can.1 in
      (one.0 ∷ others.0, (one.0, others.0, refl, one.1, others.1))

  -- ---- where they start

  pub value_starts : (ty : Ty) → CanBeGiven ty → Starts Anything StartsWithNoDigit (value_at most ty)
  value_starts ty can = let one = a_value ty can in (value_text one.0, one.0, λ rest free. (tt, value_complete most ty one.0 rest one.1 free))

  pub first_members_start : (tys : Tys) → CanAllBeGiven tys → Starts Anything StartsWithNoDigit (members_at most true tys)
  first_members_start tys can =
      let all = some_values tys can in
      (left_text true all.0, vals_of all.0, λ rest free. (tt, members_complete most true tys all.0 rest all.1 free))

  pub members_start : (tys : Tys) → CanAllBeGiven tys → Starts StartsWithNoDigit StartsWithNoDigit (members_at most false tys)
  members_start tys can =
      let all = some_values tys can in
      (left_text false all.0, vals_of all.0, λ rest free. (left_follow all.0 rest free, members_complete most false tys all.0 rest all.1 free))

  pub variant_starts : (tys : Tys) → CanAllBeGiven tys → (index : ℕ) → index < count tys → Starts Anything StartsWithNoDigit (variant_at most tys index)
  variant_starts tys can index below =
      let one = a_variant tys can index below in
      (value_text one.0, one.0, λ rest free. (tt, variant_complete most tys index one.0 rest one.1 free))

-- ---- forms over others

abbrev Members : Type 0
Members = Vals WordMap OpenMap

struct_steady : (members : ValueReader Members) → Steady StartsWithNoDigit members → Starts Anything StartsWithNoDigit members
    → Steady Anything (byte_at 40 >>= λ _. members >>= λ vs. byte_at 41 >>= λ _. done (val.struct vs))
struct_steady members steady start =
    steady_behind 40 (members >>= closing)
    (steady_then members closing (λ vs. Unit {0}) tt steady (λ bytes rest vs is. tt)
    (λ vs p. steady_behind 41 (done (val.struct vs)) (steady_done Anything (val.struct vs)) (done_starts Anything (val.struct vs)))
    (λ vs p. closing_starts vs))
    (starts_then Anything StartsWithNoDigit Anything members closing start (closing_starts start.1))
  where
    closing : Members → ValueReader Plain
    closing vs = byte_at 41 >>= λ _. done (val.struct vs)

    closing_starts : (vs : Members) → Starts StartsWithNoDigit Anything (byte_at 41 >>= λ _. done (val.struct vs))
    closing_starts vs = starts_behind StartsWithNoDigit Anything 41 (done (val.struct vs)) (λ rest. no_digit_below 41 rest (omega arith)) (done_starts Anything (val.struct vs))

enum_steady : (limit : ℕ) (variant : ℕ → ValueReader Plain) → 0 < limit → ((index : ℕ) → index < limit → Steady StartsWithNoDigit (variant index))
    → ((index : ℕ) → index < limit → Starts Anything StartsWithNoDigit (variant index))
    → Steady StartsWithNoDigit (number_at limit >>= λ index. byte_at 58 >>= λ _. variant index >>= λ v. done (val.enum index v))
enum_steady limit variant some steady start =
    steady_then (number_at limit) (λ index. byte_at 58 >>= λ _. variant index >>= λ v. done (val.enum index v)) (λ index. index < limit) tt (steady_number limit some)
    (λ bytes rest index is. (number_sound limit index bytes rest is).0)
    (λ index below.
    steady_behind 58 (variant index >>= λ v. done (val.enum index v)) (steady_made (variant index) (val.enum index) tt (steady index below))
    (starts_made Anything StartsWithNoDigit (variant index) (val.enum index) (start index below)))
    (λ index below.
    starts_behind StartsWithNoDigit StartsWithNoDigit 58 (variant index >>= λ v. done (val.enum index v)) (λ rest. no_digit_above 58 rest (omega arith))
    (starts_made Anything StartsWithNoDigit (variant index) (val.enum index) (start index below)))

pub comma_steady : Steady Anything comma_at
comma_steady = steady_behind 44 (byte_at 32) (steady_byte 32) (starts_byte Anything 32 (λ rest. tt))

pub member_steady : (is_first : Bool) (value : ValueReader Plain) → Steady StartsWithNoDigit value → Starts Anything StartsWithNoDigit value → Steady StartsWithNoDigit (member_at is_first value)
unfolding member_at separator_at
member_steady true value steady start = steady
member_steady false value steady start =
    steady_then comma_at (λ _. value) (λ x. Unit {0}) tt comma_steady (λ bytes rest x is. tt) (λ x p. steady) (λ x p. start)

members_step : (member : ValueReader Plain) (others : ValueReader Members) → Steady StartsWithNoDigit member → Steady StartsWithNoDigit others
    → Starts StartsWithNoDigit StartsWithNoDigit others → Steady StartsWithNoDigit (member >>= λ v. others >>= λ vs. done (values v vs))
members_step member others steady others_steady start =
    steady_then member (λ v. others >>= λ vs. done (values v vs)) (λ v. Unit {0}) tt steady (λ bytes rest v is. tt)
    (λ v p. steady_made others (values v) tt others_steady)
    (λ v p. starts_made StartsWithNoDigit StartsWithNoDigit others (values v) start)

pub variants_some : (ty : Ty) (tys : Tys) → 0 < count (types ty tys)
variants_some ty tys = omega arith

-- ---- by type

-- the text ends
abbrev pub IsEnd : List ℕ → Type 0
IsEnd rest = rest ≡ []

module _ (most : Ty → ℕ) where
  mutual
    unfolding value_at members_at variant_at

    pub value_steady : (ty : Ty) → CanBeGiven ty → Steady StartsWithNoDigit (value_at most ty)
    value_steady (number k) can = steady_made (number_at (bound k)) (val.number k) tt (steady_number (bound k) (bound_some k))
    value_steady (array ty) can =
        steady_before (λ rest free. tt) (whole_array_steady (value_at most ty) (value_steady ty can) (value_starts most ty can) (skim_at most ty) (most ty))
    value_steady (struct name tys) can = steady_before (λ rest free. tt) (struct_steady (members_at most true tys) (members_steady true tys can) (first_members_start most tys can))
    value_steady (enum name no_types) can = absurd can
    value_steady (enum name (types ty tys)) can =
        enum_steady (count (types ty tys)) (variant_at most (types ty tys)) (variants_some ty tys) (λ index below. variant_steady (types ty tys) can index below)
        (λ index below. variant_starts most (types ty tys) can index below)
    value_steady (nonzero k) can = absurd can
    value_steady range_check can = absurd can
    value_steady gas_builtin can = absurd can
    value_steady (box ty) can = absurd can
    value_steady (snapshot ty) can = absurd can
    value_steady (dict k) can = absurd can
    value_steady (dict_entry k) can = absurd can
    value_steady (squashed_dict k) can = absurd can
    value_steady (uninitialized ty) can = absurd can

    pub members_steady : (is_first : Bool) (tys : Tys) → CanAllBeGiven tys → Steady StartsWithNoDigit (members_at most is_first tys)
    members_steady is_first no_types can = steady_done StartsWithNoDigit no_values
    members_steady is_first (types ty tys) can =
        members_step (member_at is_first (value_at most ty)) (members_at most false tys) (member_steady is_first (value_at most ty) (value_steady ty can.0) (value_starts most ty can.0))
        (members_steady false tys can.1) (members_start most tys can.1)

    pub variant_steady : (tys : Tys) → CanAllBeGiven tys → (index : ℕ) → index < count tys → Steady StartsWithNoDigit (variant_at most tys index)
    variant_steady no_types can index below = absurd (omega arith)
    variant_steady (types ty tys) can zero below = value_steady ty can.0
    variant_steady (types ty tys) can (suc index) below = variant_steady tys can.1 index (omega arith)

  pub line_steady : (ty : Ty) → CanBeGiven ty → Steady Anything (line_at most ty)
  unfolding line_at
  line_steady ty can =
      steady_then (value_at most ty) (λ v. byte_at 10 >>= λ _. done v) (λ v. Unit {0}) tt (value_steady ty can) (λ bytes rest v is. tt)
      (λ v p. steady_behind 10 (done v) (steady_done Anything v) (done_starts Anything v))
      (λ v p. starts_behind StartsWithNoDigit Anything 10 (done v) no_digit_here (done_starts Anything v))

  pub lines_start : (tys : List Ty) → AllByRecursion CanBeGiven tys → Starts Anything IsEnd (lines_at most tys)
  lines_start tys can =
      let all = some_lines most tys can in
      let text = flat_map line_of all.0 in
      let read : (rest : List ℕ) → IsEnd rest → lines_at most tys (text ++ rest) ≡ answers (Ok all.0) rest =
      λ rest ends. ap (λ (t : List ℕ). lines_at most tys (text ++ t)) ends ∙ ap (lines_at most tys) (append-nil text) ∙ lines_complete most tys all.0 all.1 ∙ ap (λ (t : List ℕ). answers (Ok all.0) t) (sym ends)
      in
      (text, all.0, λ rest ends. (tt, read rest ends))

  pub lines_steady : (tys : List Ty) → AllByRecursion CanBeGiven tys → Steady IsEnd (lines_at most tys)
  unfolding lines_at
  lines_steady [] can [] rest out quiet is =
      let out_is : Ok [] ≡ out = cc in
      let rest_is : [] ≡ rest = cc in
      record {
        taken = [];
        is = rest_is;
        local = λ other same. at_end other (ap first rest_is ∙ same) ∙ ap (λ o. answers o other) out_is;
        ends = ([], [], λ end ends. ap (lines_at most []) ends ∙ ap (λ (t : List ℕ). answers (Ok []) t) (sym ends));
      }
    where
      at_end : (other : List ℕ) → first [] ≡ first other → lines_at most [] other ≡ answers (Ok []) other
      at_end [] same = refl
      at_end (byte ∷ other) same = absurd cc
  lines_steady [] can (byte ∷ bytes) rest out quiet is =
      let out_is : Err None ≡ out = cc in
      let rest_is : byte ∷ bytes ≡ rest = cc in
      record {
        taken = [];
        is = rest_is;
        local = λ other same. goes_on other (ap first rest_is ∙ same) ∙ ap (λ o. answers o other) out_is;
        ends = ([], [], λ end ends. ap (lines_at most []) ends ∙ ap (λ (t : List ℕ). answers (Ok []) t) (sym ends));
      }
    where
      goes_on : (other : List ℕ) → first (byte ∷ bytes) ≡ first other → lines_at most [] other ≡ answers (Err None) other
      goes_on [] same = absurd cc
      goes_on (c ∷ other) same = refl
  lines_steady (ty ∷ tys) can bytes rest out quiet is =
      steady_then (line_at most ty) (λ v. lines_at most tys >>= λ vs. done (v ∷ vs)) (λ v. Unit {0}) tt (line_steady ty can.0) (λ b r v i. tt)
      (λ v p. steady_made (lines_at most tys) (λ vs. v ∷ vs) refl (lines_steady tys can.1))
      (λ v p. starts_made Anything IsEnd (lines_at most tys) (λ vs. v ∷ vs) (lines_start tys can.1)) bytes rest out quiet is
