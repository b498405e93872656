-- Where a number out of range is told in values and lines: what was taken before it, and that no text that goes on from the number is read.
use Rattle.std.proofs.Common.{◌≡◌, ℕ, zero, suc, ◌<◌, ◌++◌, List, [], ◌∷◌, Bool, true, false, cond, ◌==◌, Some, None, Ok, Err, refl, sym, ap, ◌∙◌, subst, append_assoc, arith}
use Rattle.std.specs.List.{AllByRecursion}
use Rattle.byte_reading.specs.Decimal.{decimal_text, StartsWithNoDigit}
use Rattle.text_reading.specs.Reading.{first, Answer, Answer.answers, done, go_on, ◌>>=◌, begins, branch}
use Rattle.text_reading.proofs.Readers.{Ends, Starts, first-append, cancel, done_starts}
use Rattle.type_trees.specs.Ty.{Ty, Tys, number, nonzero, range_check, gas_builtin, box, array, snapshot, struct, enum, dict, dict_entry, squashed_dict, uninitialized, no_types, types}
use Rattle.value_trees.specs.Of.{bound}
use Rattle.value_trees.specs.Val.{Plain, Vals, WordMap, OpenMap, no_values, values, vals_of}
use Rattle.value_trees.specs.Val as val
use Rattle.typed_values.specs.Faults.{CanBeGiven, CanAllBeGiven}
use Rattle.typed_values.specs.Marks.{ValueReader, byte_at, number_at, separator_at, space_at, count}
use Rattle.typed_values.specs.Reading.{elements_at, array_at, told, whole_array_at, member_at, value_at, members_at, variant_at, line_at, lines_at}
use Rattle.typed_values.specs.Skimming.{skim_array, skim_at}
use Rattle.typed_values.specs.declared.fault.ValueLimit.{ValueLimit}
use Rattle.typed_values.specs.declared.fault.ValueLimit.TheVariants as limits
use Rattle.typed_values.proofs.FirstLine.{NoLimits, then_no_limits, byte_no_limits, done_no_limits}
use Rattle.typed_values.proofs.InputTexts.{no_digit_here}
use Rattle.typed_values.proofs.Leading.{number_sound}
use Rattle.typed_values.proofs.RangeStops.{Apart, OutTook, OutSteady, out_none, out_before, out_as, out_then, anywhere, out_byte, last_apart, number_first, out_made, out_number}
use Rattle.typed_values.proofs.Steady.{Anything, Steady, steady_done, steady_number, steady_made, starts_made, steady_behind, starts_behind}
use Rattle.typed_values.proofs.ReadBoth.{both, byte_sound, then_byte, begins_self}
use Rattle.typed_values.proofs.SteadyArrays.{Elements, closed_behind, more_behind, tail_at, element_then, element_is, tail_starts, tail_steady, elements_steady, closed, others_from, array_from, array_is, same_arrays, told_quiet}
use Rattle.typed_values.proofs.SteadyValues.{bound_some, value_starts, members_start, variant_starts, member_steady, variants_some, value_steady, members_steady, variant_steady, line_steady, lines_start, lines_steady, IsEnd}
use Rattle.typed_values.proofs.ValuesComplete.{no_digit_above, no_digit_below}

-- ---- a choice by the next byte, of which the first reader tells no limit

module _ {A : Type 0} {Before follow : List ℕ → Type 0} (byte : ℕ) (reader other : ValueReader A) (none : NoLimits reader) (out : OutSteady Before follow other)
    (opens : (x : A) × ((rest : List ℕ) → follow rest → reader (byte ∷ rest) ≡ answers (Ok x) rest)) where
  by_other : (bytes : List ℕ) → begins byte bytes ≡ false → branch byte reader other bytes ≡ other bytes
  by_other bytes test = ap (λ t. cond t (reader bytes) (other bytes)) test

  begins_same : (bytes more : List ℕ) → first bytes ≡ first more → begins byte bytes ≡ begins byte more
  begins_same [] [] same = refl
  begins_same [] (c ∷ more) same = absurd cc
  begins_same (b ∷ bytes) [] same = absurd cc
  begins_same (b ∷ bytes) (c ∷ more) same = let one : b ≡ c = cc in ap (λ n. n == byte) one

  ends_of : (bytes taken rest : List ℕ) → bytes ≡ taken ++ rest → begins byte bytes ≡ false → Ends follow other taken → Ends follow (branch byte reader other) taken
  ends_of bytes [] rest is test ends =
      (byte ∷ [], opens.0, λ end fits. ap (λ t. cond t (reader (byte ∷ end)) (other (byte ∷ end))) (begins_self byte end) ∙ opens.1 end fits)
  ends_of bytes (b ∷ taken) rest is test ends = (
    ends.0,
    ends.1,
    λ end fits. by_other (b ∷ (taken ++ (ends.0 ++ end))) (sym (begins_same bytes (b ∷ (taken ++ (ends.0 ++ end))) (ap first is)) ∙ test) ∙ ends.2 end fits,
  )

  out_branch : OutSteady Before follow (branch byte reader other)
  out_branch front bytes rest before is = go (begins byte bytes) refl
    where
      go : (t : Bool) → begins byte bytes ≡ t → OutTook follow (branch byte reader other) front bytes rest
      go true test = absurd (none bytes rest limits.OutOfRange (sym (ap (λ t. cond t (reader bytes) (other bytes)) test) ∙ is))
      go false test =
          let one = out front bytes rest before (sym (by_other bytes test) ∙ is) in
          record {
            taken = one.taken;
            number = one.number;
            behind = one.behind;
            is = one.is;
            is_number = one.is_number;
            apart = one.apart;
            ends = ends_of bytes one.taken rest one.is test one.ends;
            never = λ more left x read.
                let there = one.taken ++ (decimal_text one.number ++ more) in
                let same : first bytes ≡ first there =
                ap first (one.is ∙ ap (λ (t : List ℕ). one.taken ++ t) one.is_number.text_is)
                ∙ first-append one.taken (decimal_text one.number ++ one.behind) (decimal_text one.number ++ more) (number_first one.number one.behind more)
                in
                one.never more left x (sym (by_other there (sym (begins_same bytes there same) ∙ test)) ∙ read);
          }

-- ---- arrays

closing_none : {A : Type 0} (byte : ℕ) (x : A) → NoLimits (byte_at byte >>= λ _. done x)
closing_none byte x = then_no_limits (byte_at byte) (λ _. done x) (byte_no_limits byte) (λ unit. done_no_limits x)

module _ (item : ValueReader Plain) (steady : Steady StartsWithNoDigit item) (start : Starts Anything StartsWithNoDigit item) (out : OutSteady Apart StartsWithNoDigit item) where
  tail_out : (others : ValueReader Elements) → Steady Anything others → OutSteady Apart Anything others → (v : Plain) → OutSteady Anything Anything (tail_at item others v)
  tail_out others others_steady others_out v =
      out_branch 93 (closed_behind item v) (more_behind item others v) (closing_none 93 (values v no_values))
      (out_byte 44 refl (others >>= λ vs. done (values v vs)) (out_made others (values v) tt others_steady others_out))
      (values v no_values, λ rest fits. then_byte 93 (done (values v no_values)) rest)

  item_out : (others : ValueReader Elements) → Steady Anything others → OutSteady Apart Anything others → OutSteady Apart Anything (item >>= tail_at item others)
  item_out others others_steady others_out =
      out_then {Before = Apart} {Mid = Anything} item (tail_at item others) (λ v. Unit {0}) tt steady (λ bytes rest v is. tt) (λ v p. tail_steady item steady start others others_steady v)
      (λ v p. tail_starts item steady start others v) out (λ v p. tail_out others others_steady others_out v) (anywhere Apart item)

  element_out : (others : ValueReader Elements) → Steady Anything others → OutSteady Apart Anything others → (is_first : Bool) → OutSteady Apart Anything (element_then item others is_first)
  unfolding space_at
  element_out others others_steady others_out true = item_out others others_steady others_out
  element_out others others_steady others_out false =
      out_before (λ front apart. tt) (λ rest fits. fits) (out_byte 32 refl (item >>= tail_at item others) (item_out others others_steady others_out))

  elements_out : (s : List ℕ) (room : ℕ) (is_first : Bool) → OutSteady Apart Anything (elements_at item s room is_first)
  unfolding elements_at
  elements_out s zero is_first front bytes rest before is = let never : ⊥ = cc in absurd never
  elements_out s (suc room) is_first front bytes rest before is =
      out_as (element_is item (elements_at item s room false) is_first)
      (element_out (elements_at item s room false) (elements_steady item steady start s room false) (elements_out s room false) is_first) front bytes rest before is

  from_out : (s : List ℕ) (most : ℕ) → OutSteady Anything Anything (array_from item steady start s most)
  from_out s most =
      out_byte 91 refl (branch 93 (closed item steady start) (others_from item steady start s most))
      (out_branch 93 (closed item steady start) (others_from item steady start s most) (closing_none 93 (val.array no_values))
      (out_made (elements_at item s most true) (λ vs. val.array vs) tt (elements_steady item steady start s most true) (elements_out s most true))
      (val.array no_values, λ rest fits. then_byte 93 (done (val.array no_values)) rest))

  array_out : (most : ℕ) → OutSteady Anything Anything (array_at item most)
  array_out most front bytes rest before is =
      let one = from_out bytes most front bytes rest before (sym (array_is item steady start most bytes) ∙ is) in
      record {
        taken = one.taken;
        number = one.number;
        behind = one.behind;
        is = one.is;
        is_number = one.is_number;
        apart = one.apart;
        ends = (
          one.ends.0,
          one.ends.1,
          λ end fits.
              let whole = one.taken ++ (one.ends.0 ++ end) in
              array_is item steady start most whole ∙ same_arrays item steady start bytes whole most whole end (Ok one.ends.1) tt (one.ends.2 end fits),
        );
        never = λ more left x read.
            let there = one.taken ++ (decimal_text one.number ++ more) in
            one.never more left x (same_arrays item steady start there bytes most there left (Ok x) tt (sym (array_is item steady start most there) ∙ read));
      }

  told_out : (answer : Answer ValueLimit Plain) (form : Answer ValueLimit (Unit {0})) (rest : List ℕ) → told answer form ≡ answers (Err (Some limits.OutOfRange)) rest
      → answer ≡ answers (Err (Some limits.OutOfRange)) rest
  told_out (answers (Ok v) left) form rest is = let never : ⊥ = cc in absurd never
  told_out (answers (Err None) left) form rest is = let never : ⊥ = cc in absurd never
  told_out (answers (Err (Some limits.LongArray)) left) form rest is = let never : ⊥ = cc in absurd never
  told_out (answers (Err (Some limits.OutOfRange)) left) (answers (Ok unit) s) rest is = is
  told_out (answers (Err (Some limits.OutOfRange)) left) (answers (Err None) s) rest is = is
  told_out (answers (Err (Some limits.OutOfRange)) left) (answers (Err (Some limits.OutOfRange)) s) rest is = is
  told_out (answers (Err (Some limits.OutOfRange)) left) (answers (Err (Some limits.LongArray)) s) rest is = let never : ⊥ = cc in absurd never

  whole_out : (form : ValueReader (Unit {0})) (most : ℕ) → OutSteady Anything Anything (whole_array_at item form most)
  unfolding whole_array_at
  whole_out form most front bytes rest before is =
      let one = array_out most front bytes rest before (told_out (array_at item most bytes) (skim_array form most bytes) rest is) in
      record {
        taken = one.taken;
        number = one.number;
        behind = one.behind;
        is = one.is;
        is_number = one.is_number;
        apart = one.apart;
        ends = (
          one.ends.0,
          one.ends.1,
          λ end fits. ap (λ a. told a (skim_array form most (one.taken ++ (one.ends.0 ++ end)))) (one.ends.2 end fits),
        );
        never = λ more left x read.
            let there = one.taken ++ (decimal_text one.number ++ more) in
            one.never more left x (told_quiet item steady start (array_at item most there) (skim_array form most there) left (Ok x) tt read);
      }

-- ---- members and variants

joined_same : {A B C : Type 0} (reader : ValueReader A) (mid : A → ValueReader B) (next : B → ValueReader C) (bytes : List ℕ)
    → (reader >>= λ x. mid x >>= next) bytes ≡ ((reader >>= mid) >>= next) bytes
joined_same {A} reader mid next bytes = go (reader bytes)
  where
    go : (a : Answer ValueLimit A) → go_on a (λ x. mid x >>= next) ≡ go_on (go_on a mid) next
    go (answers (Ok x) rest) = refl
    go (answers (Err why) rest) = refl

abbrev Members : Type 0
Members = Vals WordMap OpenMap

first_member_out : (value : ValueReader Plain) → OutSteady Apart StartsWithNoDigit value → OutSteady Apart StartsWithNoDigit (member_at true value)
unfolding member_at separator_at
first_member_out value out = out

member_out : (value : ValueReader Plain) → OutSteady Apart StartsWithNoDigit value → OutSteady Anything StartsWithNoDigit (member_at false value)
unfolding member_at separator_at
member_out value out =
    out_as (joined_same (byte_at 44) (λ _. byte_at 32) (λ _. value))
    (out_byte 44 refl (byte_at 32 >>= λ _. value) (out_before (λ front apart. tt) (λ rest fits. fits) (out_byte 32 refl value out)))

members_step_out : {Before : List ℕ → Type 0} (member : ValueReader Plain) (others : ValueReader Members) → Steady StartsWithNoDigit member → Steady StartsWithNoDigit others
    → Starts StartsWithNoDigit StartsWithNoDigit others → OutSteady Before StartsWithNoDigit member → OutSteady Anything StartsWithNoDigit others
    → OutSteady Before StartsWithNoDigit (member >>= λ v. others >>= λ vs. done (values v vs))
members_step_out {Before} member others steady others_steady start out others_out =
    out_then {Before = Before} {Mid = Anything} member (λ v. others >>= λ vs. done (values v vs)) (λ v. Unit {0}) tt steady (λ bytes rest v is. tt)
    (λ v p. steady_made others (values v) tt others_steady) (λ v p. starts_made StartsWithNoDigit StartsWithNoDigit others (values v) start)
    out (λ v p. out_made others (values v) tt others_steady others_out) (anywhere Before member)

struct_out : (members : ValueReader Members) → Steady StartsWithNoDigit members → OutSteady Apart StartsWithNoDigit members
    → OutSteady Anything Anything (byte_at 40 >>= λ _. members >>= λ vs. byte_at 41 >>= λ _. done (val.struct vs))
struct_out members steady out =
    out_byte 40 refl (members >>= λ vs. byte_at 41 >>= λ _. done (val.struct vs))
    (out_then {Before = Apart} {Mid = Anything} members (λ vs. byte_at 41 >>= λ _. done (val.struct vs)) (λ vs. Unit {0}) tt steady (λ bytes rest vs is. tt)
    (λ vs p. steady_behind 41 (done (val.struct vs)) (steady_done Anything (val.struct vs)) (done_starts Anything (val.struct vs)))
    (λ vs p. starts_behind StartsWithNoDigit Anything 41 (done (val.struct vs)) (λ rest. no_digit_below 41 rest (omega arith)) (done_starts Anything (val.struct vs)))
    out (λ vs p. out_none Anything Anything (byte_at 41 >>= λ _. done (val.struct vs)) (closing_none 41 (val.struct vs))) (anywhere Apart members))

enum_out : (limit : ℕ) (variant : ℕ → ValueReader Plain) → 0 < limit → ((index : ℕ) → index < limit → Steady StartsWithNoDigit (variant index))
    → ((index : ℕ) → index < limit → Starts Anything StartsWithNoDigit (variant index)) → ((index : ℕ) → index < limit → OutSteady Apart StartsWithNoDigit (variant index))
    → OutSteady Apart StartsWithNoDigit (number_at limit >>= λ index. byte_at 58 >>= λ _. variant index >>= λ v. done (val.enum index v))
enum_out limit variant some steady start out =
    out_then {Before = Apart} {Mid = Anything} (number_at limit) (λ index. byte_at 58 >>= λ _. variant index >>= λ v. done (val.enum index v)) (λ index. index < limit) tt (steady_number limit some)
    (λ bytes rest index is. (number_sound limit index bytes rest is).0)
    (λ index below.
    steady_behind 58 (variant index >>= λ v. done (val.enum index v)) (steady_made (variant index) (val.enum index) tt (steady index below))
    (starts_made Anything StartsWithNoDigit (variant index) (val.enum index) (start index below)))
    (λ index below.
    starts_behind StartsWithNoDigit StartsWithNoDigit 58 (variant index >>= λ v. done (val.enum index v)) (λ rest. no_digit_above 58 rest (omega arith))
    (starts_made Anything StartsWithNoDigit (variant index) (val.enum index) (start index below)))
    (out_number limit some)
    (λ index below. out_byte 58 refl (variant index >>= λ v. done (val.enum index v)) (out_made (variant index) (val.enum index) tt (steady index below) (out index below)))
    (anywhere Apart (number_at limit))

-- ---- by type

module _ (most : Ty → ℕ) where
  mutual
    unfolding value_at members_at variant_at

    pub value_out : (ty : Ty) → CanBeGiven ty → OutSteady Apart StartsWithNoDigit (value_at most ty)
    value_out (number k) can = out_made (number_at (bound k)) (val.number k) tt (steady_number (bound k) (bound_some k)) (out_number (bound k) (bound_some k))
    value_out (array ty) can =
        out_before (λ front apart. tt) (λ rest free. tt) (whole_out (value_at most ty) (value_steady most ty can) (value_starts most ty can) (value_out ty can) (skim_at most ty) (most ty))
    value_out (struct name tys) can =
        out_before (λ front apart. tt) (λ rest free. tt) (struct_out (members_at most true tys) (members_steady most true tys can) (first_members_out tys can))
    value_out (enum name no_types) can = absurd can
    value_out (enum name (types ty tys)) can =
        enum_out (count (types ty tys)) (variant_at most (types ty tys)) (variants_some ty tys) (λ index below. variant_steady most (types ty tys) can index below)
        (λ index below. variant_starts most (types ty tys) can index below) (λ index below. variant_out (types ty tys) can index below)
    value_out (nonzero k) can = absurd can
    value_out range_check can = absurd can
    value_out gas_builtin can = absurd can
    value_out (box ty) can = absurd can
    value_out (snapshot ty) can = absurd can
    value_out (dict k) can = absurd can
    value_out (dict_entry k) can = absurd can
    value_out (squashed_dict k) can = absurd can
    value_out (uninitialized ty) can = absurd can

    first_members_out : (tys : Tys) → CanAllBeGiven tys → OutSteady Apart StartsWithNoDigit (members_at most true tys)
    first_members_out no_types can = out_none Apart StartsWithNoDigit (members_at most true no_types) (done_no_limits no_values)
    first_members_out (types ty tys) can =
        members_step_out (member_at true (value_at most ty)) (members_at most false tys) (member_steady true (value_at most ty) (value_steady most ty can.0) (value_starts most ty can.0))
        (members_steady most false tys can.1) (members_start most tys can.1) (first_member_out (value_at most ty) (value_out ty can.0)) (members_out tys can.1)

    members_out : (tys : Tys) → CanAllBeGiven tys → OutSteady Anything StartsWithNoDigit (members_at most false tys)
    members_out no_types can = out_none Anything StartsWithNoDigit (members_at most false no_types) (done_no_limits no_values)
    members_out (types ty tys) can =
        members_step_out (member_at false (value_at most ty)) (members_at most false tys) (member_steady false (value_at most ty) (value_steady most ty can.0) (value_starts most ty can.0))
        (members_steady most false tys can.1) (members_start most tys can.1) (member_out (value_at most ty) (value_out ty can.0)) (members_out tys can.1)

    variant_out : (tys : Tys) → CanAllBeGiven tys → (index : ℕ) → index < count tys → OutSteady Apart StartsWithNoDigit (variant_at most tys index)
    variant_out no_types can index below = absurd (omega arith)
    variant_out (types ty tys) can zero below = value_out ty can.0
    variant_out (types ty tys) can (suc index) below = variant_out tys can.1 index (omega arith)

  line_out : (ty : Ty) → CanBeGiven ty → OutSteady Apart Anything (line_at most ty)
  unfolding line_at
  line_out ty can =
      out_then {Before = Apart} {Mid = Anything} (value_at most ty) (λ v. byte_at 10 >>= λ _. done v) (λ v. Unit {0}) tt (value_steady most ty can) (λ bytes rest v is. tt)
      (λ v p. steady_behind 10 (done v) (steady_done Anything v) (done_starts Anything v))
      (λ v p. starts_behind StartsWithNoDigit Anything 10 (done v) no_digit_here (done_starts Anything v))
      (value_out ty can) (λ v p. out_none Anything Anything (byte_at 10 >>= λ _. done v) (closing_none 10 v)) (anywhere Apart (value_at most ty))

  -- a line ends with its line end
  line_leads : (ty : Ty) → CanBeGiven ty → (front bytes mid taken : List ℕ) (v : Plain) → Apart front → line_at most ty bytes ≡ answers (Ok v) mid → bytes ≡ taken ++ mid → Apart (front ++ taken)
  unfolding line_at
  line_leads ty can front bytes mid taken v before is parts =
      let found = both (value_at most ty) (λ w. byte_at 10 >>= λ _. done w) bytes mid v is in
      let closes = both (byte_at 10) (λ _. done found.0) found.1 mid v found.3 in
      let end : found.1 ≡ 10 ∷ closes.1 = byte_sound 10 found.1 closes.1 closes.0 closes.2 in
      let left : closes.1 ≡ mid = left_is found.0 closes.1 closes.3 in
      let one = value_steady most ty can bytes found.1 (Ok found.0) tt found.2 in
      let whole : (one.taken ++ (10 ∷ [])) ++ mid ≡ taken ++ mid =
      append_assoc one.taken (10 ∷ []) mid ∙ ap (λ (t : List ℕ). one.taken ++ (10 ∷ t)) (sym left) ∙ ap (λ (t : List ℕ). one.taken ++ t) (sym end) ∙ sym one.is ∙ parts
      in
      let same : one.taken ++ (10 ∷ []) ≡ taken = cancel (one.taken ++ (10 ∷ [])) taken mid whole in
      subst (λ (t : List ℕ). Apart (front ++ t)) same (subst Apart (append_assoc front one.taken (10 ∷ [])) (last_apart (front ++ one.taken) 10 refl))
    where
      left_is : (w : Plain) (a : List ℕ) → done {K = ValueLimit} w a ≡ answers (Ok v) mid → a ≡ mid
      left_is w a is = cc

  pub lines_out : (tys : List Ty) → AllByRecursion CanBeGiven tys → OutSteady Apart IsEnd (lines_at most tys)
  unfolding lines_at
  lines_out [] can front [] rest before is = let never : ⊥ = cc in absurd never
  lines_out [] can front (byte ∷ bytes) rest before is = let never : ⊥ = cc in absurd never
  lines_out (ty ∷ tys) can front bytes rest before is =
      out_then {Before = Apart} {Mid = Apart} (line_at most ty) (λ v. lines_at most tys >>= λ vs. done (v ∷ vs)) (λ v. Unit {0}) tt (line_steady most ty can.0) (λ b r v i. tt)
      (λ v p. steady_made (lines_at most tys) (λ vs. v ∷ vs) refl (lines_steady most tys can.1))
      (λ v p. starts_made Anything IsEnd (lines_at most tys) (λ vs. v ∷ vs) (lines_start most tys can.1))
      (line_out ty can.0) (λ v p. out_made (lines_at most tys) (λ vs. v ∷ vs) refl (lines_steady most tys can.1) (lines_out tys can.1)) (line_leads ty can.0) front bytes rest before is
