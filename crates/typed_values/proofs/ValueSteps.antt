-- What is read of numbers, members and elements one by one.
use Rattle.std.proofs.Common.{◌≡◌, ℕ, zero, suc, ◌-◌, ◌<◌, ◌++◌, Bool, true, false, cond, List, [], ◌∷◌, length, map, Option, Some, None, Result, Ok, Err, refl, sym, ap, ◌∙◌, subst, arith}
use Rattle.std.proofs.lemmas.List.{append-nil, append_assoc}
use Rattle.std.specs.Result.{IsErrAnd}
use Rattle.text_reading.specs.Given.{Gives}
use Rattle.text_reading.specs.Reading.{Answer, Answer.answers, Reader, done, go_on, ◌>>=◌}
use Rattle.text_reading.specs.declared.stop.Stop.{Stop}
use Rattle.text_reading.specs.declared.stop.Stop.TheVariants as stops
use Rattle.type_trees.specs.Ty.{Ty, Tys, no_types, types}
use Rattle.type_trees.specs.declared.num.Num.{Num}
use Rattle.value_trees.specs.Meant.{meant}
use Rattle.value_trees.specs.Of.{bound}
use Rattle.value_trees.specs.Val.{Plain, Vals, WordMap, OpenMap, no_values, values, vals_of, list_of}
use Rattle.value_trees.specs.Val as val
use Rattle.value_trees.specs.declared.value.Value.{Value}
use Rattle.typed_values.specs.Behind.{behind_values, behind_lines}
use Rattle.typed_values.specs.Inputs.{most_elements}
use Rattle.typed_values.specs.Kinds.{number_of, enum_at}
use Rattle.typed_values.specs.Marks.{ValueReader, byte_at, number_at}
use Rattle.typed_values.specs.Reading.{behind_at, element_at, elements_at, member_at, value_at, members_at, variant_at, line_at, lines_at}
use Rattle.typed_values.specs.declared.fault.ValueLimit.{ValueLimit}
use Rattle.typed_values.specs.declared.fault.ValueLimit.TheVariants as limits

-- a stop of a part that is passed on is a stop of the whole
pub passes : {K X Y A B : Type 0} (view : X → A) (other : Y → B) (stop : Stop K) (result : Result Y (Stop K)) (rest : List ℕ) (part : Answer K A) (whole : Answer K B)
    → IsErrAnd result (λ e. e ≡ stop) → ((why : Option K) → part ≡ answers (Err why) rest → whole ≡ answers (Err why) rest) → Gives view (Err stop) rest part → Gives other result rest whole
passes view other stop (Ok value) rest part whole is stops_too h = absurd is
passes {K} {X} {Y} {A} {B} view other stop (Err e) rest part whole is stops_too h = subst (λ s. Gives other (Err s) rest whole) (sym is) (go stop h)
  where
    go : (s : Stop K) → Gives view (Err s) rest part → Gives other (Err s) rest whole
    go stops.Syntax h = stops_too None h
    go (stops.Limit kind) h = stops_too (Some kind) h
    go stops.Memory h = tt

-- ---- a number

pub number_stop : (k : Num) (limit : ℕ) (bytes rest : List ℕ) (why : Option ValueLimit) → limit ≡ bound k → number_at limit bytes ≡ answers (Err why) rest
    → number_of k bytes ≡ answers (Err why) rest
unfolding number_of
number_stop k limit bytes rest why is read = ap (λ a. go_on a (λ n. done (val.number k n))) (ap (λ l. number_at l bytes) (sym is) ∙ read)

pub number_read : (k : Num) (limit n : ℕ) (v : Plain) (bytes rest : List ℕ) → limit ≡ bound k → number_at limit bytes ≡ answers (Ok n) rest → v ≡ val.number k n
    → number_of k bytes ≡ answers (Ok v) rest
unfolding number_of
number_read k limit n v bytes rest is read v_is =
    ap (λ a. go_on a (λ m. done (val.number k m))) (ap (λ l. number_at l bytes) (sym is) ∙ read) ∙ ap (λ w. answers (Ok w) rest) (sym v_is)

-- ---- values behind others

same_values : (vs : Vals WordMap OpenMap) → vals_of (list_of vs) ≡ vs
same_values no_values = refl
same_values (values v vs) = ap (values v) (same_values vs)

pub behind_none : (front : List Plain) (answer : Answer ValueLimit (Vals WordMap OpenMap)) → front ≡ [] → behind_values front answer ≡ answer
behind_none front answer none = ap (λ f. behind_values f answer) none ∙ go answer
  where
    go : (a : Answer ValueLimit (Vals WordMap OpenMap)) → behind_values [] a ≡ a
    go (answers (Ok vs) rest) = ap (λ us. answers (Ok us) rest) (same_values vs)
    go (answers (Err why) rest) = refl

behind_more : (front : List Plain) (v : Plain) (answer : Answer ValueLimit (Vals WordMap OpenMap))
    → behind_values (front ++ (v ∷ [])) answer ≡ behind_values front (go_on answer (λ vs. done (values v vs)))
behind_more front v (answers (Ok vs) rest) = ap (λ l. answers (Ok (vals_of l)) rest) (append_assoc front (v ∷ []) (list_of vs))
behind_more front v (answers (Err why) rest) = refl

pub pushed : (old new : List Value) (x : Value) → new ≡ old ++ (x ∷ []) → map meant new ≡ map meant old ++ (meant x ∷ [])
pushed old new x is = ap (map meant) is ∙ go old
  where
    go : (vs : List Value) → map meant (vs ++ (x ∷ [])) ≡ map meant vs ++ (meant x ∷ [])
    go [] = refl
    go (v ∷ vs) = ap (λ l. meant v ∷ l) (go vs)

-- ---- elements

module _ (item : ValueReader Plain) (start : List ℕ) (front : List Plain) where
  pub elements_stop : (room : ℕ) (is_first : Bool) (bytes rest : List ℕ) (why : Option ValueLimit) → 0 < room
      → element_at item is_first bytes ≡ answers (Err why) rest → behind_values front (elements_at item start room is_first bytes) ≡ answers (Err why) rest
  unfolding elements_at
  elements_stop zero is_first bytes rest why some is = absurd (omega arith)
  elements_stop (suc room) is_first bytes rest why some is = ap (λ a. behind_values front (go_on a (behind_at (elements_at item start room false)))) is

  pub elements_end : (room : ℕ) (is_first goes_on : Bool) (v : Plain) (whole : List Plain) (bytes rest : List ℕ) → 0 < room → goes_on ≡ false
      → element_at item is_first bytes ≡ answers (Ok (v, goes_on)) rest → whole ≡ front ++ (v ∷ [])
      → behind_values front (elements_at item start room is_first bytes) ≡ answers (Ok (vals_of whole)) rest
  unfolding elements_at
  elements_end zero is_first goes_on v whole bytes rest some ends is whole_is = absurd (omega arith)
  elements_end (suc room) is_first goes_on v whole bytes rest some ends is whole_is =
      ap (λ a. behind_values front (go_on a (behind_at (elements_at item start room false)))) is
      ∙ ap (λ g. behind_values front (behind_at (elements_at item start room false) (v, g) rest)) ends
      ∙ ap (λ l. answers (Ok (vals_of l)) rest) (sym whole_is)

  pub elements_more : (room : ℕ) (is_first goes_on : Bool) (v : Plain) (whole : List Plain) (bytes rest : List ℕ) → 0 < room → goes_on ≡ true
      → element_at item is_first bytes ≡ answers (Ok (v, goes_on)) rest → whole ≡ front ++ (v ∷ [])
      → behind_values whole (elements_at item start (room - 1) false rest) ≡ behind_values front (elements_at item start room is_first bytes)
  unfolding elements_at
  elements_more zero is_first goes_on v whole bytes rest some more is whole_is = absurd (omega arith)
  elements_more (suc room) is_first goes_on v whole bytes rest some more is whole_is =
      ap (λ l. behind_values l (elements_at item start (suc room - 1) false rest)) whole_is
      ∙ ap (λ n. behind_values (front ++ (v ∷ [])) (elements_at item start n false rest)) (one_less room)
      ∙ behind_more front v (elements_at item start room false rest)
      ∙ sym (
      ap (λ a. behind_values front (go_on a (behind_at (elements_at item start room false)))) is
      ∙ ap (λ g. behind_values front (behind_at (elements_at item start room false) (v, g) rest)) more
      )
    where
      one_less : (n : ℕ) → suc n - 1 ≡ n
      one_less n = omega arith

  pub elements_full : (room : ℕ) (is_first : Bool) (bytes : List ℕ) → room ≡ 0 → behind_values front (elements_at item start room is_first bytes) ≡ answers (Err (Some limits.LongArray)) start
  unfolding elements_at
  elements_full room is_first bytes none = ap (λ n. behind_values front (elements_at item start n is_first bytes)) none

-- ---- members

module _ (front : List Plain) (tys others : Tys) (ty : Ty) (are : tys ≡ types ty others) where
  members_read : (is_first : Bool) (bytes : List ℕ)
      → behind_values front (members_at most_elements is_first tys bytes)
      ≡ behind_values front (go_on (member_at is_first (value_at most_elements ty) bytes) (λ v. members_at most_elements false others >>= λ vs. done (values v vs)))
  unfolding members_at
  members_read is_first bytes = ap (λ l. behind_values front (members_at most_elements is_first l bytes)) are

  pub members_stop : (is_first : Bool) (bytes rest : List ℕ) (why : Option ValueLimit)
      → member_at is_first (value_at most_elements ty) bytes ≡ answers (Err why) rest → behind_values front (members_at most_elements is_first tys bytes) ≡ answers (Err why) rest
  members_stop is_first bytes rest why is =
      members_read is_first bytes ∙ ap (λ a. behind_values front (go_on a (λ v. members_at most_elements false others >>= λ vs. done (values v vs)))) is

  pub members_more : (is_first : Bool) (v : Plain) (whole : List Plain) (bytes rest : List ℕ)
      → member_at is_first (value_at most_elements ty) bytes ≡ answers (Ok v) rest → whole ≡ front ++ (v ∷ [])
      → behind_values whole (members_at most_elements false others rest) ≡ behind_values front (members_at most_elements is_first tys bytes)
  members_more is_first v whole bytes rest is whole_is =
      ap (λ l. behind_values l (members_at most_elements false others rest)) whole_is
      ∙ behind_more front v (members_at most_elements false others rest)
      ∙ sym (members_read is_first bytes ∙ ap (λ a. behind_values front (go_on a (λ w. members_at most_elements false others >>= λ vs. done (values w vs)))) is)

pub members_end : (front : List Plain) (is_first : Bool) (tys : Tys) (bytes : List ℕ) → tys ≡ no_types
    → behind_values front (members_at most_elements is_first tys bytes) ≡ answers (Ok (vals_of front)) bytes
unfolding members_at
members_end front is_first tys bytes none = ap (λ l. behind_values front (members_at most_elements is_first l bytes)) none ∙ ap (λ l. answers (Ok (vals_of l)) bytes) (append-nil front)

-- ---- a variant

module _ (variants : ℕ) (tys : Tys) (index : ℕ) (bytes between after : List ℕ)
    (read : number_at variants bytes ≡ answers (Ok index) between) (colon : byte_at 58 between ≡ answers (Ok tt) after) where
  enum_read : enum_at variants tys bytes ≡ go_on (variant_at most_elements tys index after) (λ v. done (val.enum index v))
  unfolding enum_at
  enum_read =
      ap (λ a. go_on a (λ i. byte_at 58 >>= λ _. variant_at most_elements tys i >>= λ v. done (val.enum i v))) read
      ∙ ap (λ a. go_on a (λ _. variant_at most_elements tys index >>= λ v. done (val.enum index v))) colon

  pub enum_stop : (value : ValueReader Plain) (rest : List ℕ) (why : Option ValueLimit) → value ≡ variant_at most_elements tys index → value after ≡ answers (Err why) rest
      → enum_at variants tys bytes ≡ answers (Err why) rest
  enum_stop value rest why value_is is = enum_read ∙ ap (λ a. go_on a (λ v. done (val.enum index v))) (ap (λ r. r after) (sym value_is) ∙ is)

  pub enum_end : (value : ValueReader Plain) (payload v : Plain) (rest : List ℕ) → value ≡ variant_at most_elements tys index → value after ≡ answers (Ok payload) rest
      → v ≡ val.enum index payload → enum_at variants tys bytes ≡ answers (Ok v) rest
  enum_end value payload v rest value_is is v_is =
      enum_read ∙ ap (λ a. go_on a (λ w. done (val.enum index w))) (ap (λ r. r after) (sym value_is) ∙ is) ∙ ap (λ w. answers (Ok w) rest) (sym v_is)

-- ---- lines

pub lines_none : (front : List Plain) (answer : Answer ValueLimit (List Plain)) → front ≡ [] → behind_lines front answer ≡ answer
lines_none front answer none = ap (λ f. behind_lines f answer) none ∙ go answer
  where
    go : (a : Answer ValueLimit (List Plain)) → behind_lines [] a ≡ a
    go (answers (Ok vs) rest) = refl
    go (answers (Err why) rest) = refl

behind_line : (front : List Plain) (v : Plain) (answer : Answer ValueLimit (List Plain)) → behind_lines (front ++ (v ∷ [])) answer ≡ behind_lines front (go_on answer (λ vs. done (v ∷ vs)))
behind_line front v (answers (Ok vs) rest) = ap (λ l. answers (Ok l) rest) (append_assoc front (v ∷ []) vs)
behind_line front v (answers (Err why) rest) = refl

module _ (front : List Plain) (tys others : List Ty) (ty : Ty) (are : tys ≡ ty ∷ others) where
  lines_read : (bytes : List ℕ) → behind_lines front (lines_at most_elements tys bytes)
      ≡ behind_lines front (go_on (line_at most_elements ty bytes) (λ v. lines_at most_elements others >>= λ vs. done (v ∷ vs)))
  unfolding lines_at
  lines_read bytes = ap (λ l. behind_lines front (lines_at most_elements l bytes)) are

  pub lines_stop : (bytes rest : List ℕ) (why : Option ValueLimit) → line_at most_elements ty bytes ≡ answers (Err why) rest
      → behind_lines front (lines_at most_elements tys bytes) ≡ answers (Err why) rest
  lines_stop bytes rest why is = lines_read bytes ∙ ap (λ a. behind_lines front (go_on a (λ v. lines_at most_elements others >>= λ vs. done (v ∷ vs)))) is

  pub lines_more : (v : Plain) (whole : List Plain) (bytes rest : List ℕ) → line_at most_elements ty bytes ≡ answers (Ok v) rest → whole ≡ front ++ (v ∷ [])
      → behind_lines whole (lines_at most_elements others rest) ≡ behind_lines front (lines_at most_elements tys bytes)
  lines_more v whole bytes rest is whole_is =
      ap (λ l. behind_lines l (lines_at most_elements others rest)) whole_is
      ∙ behind_line front v (lines_at most_elements others rest)
      ∙ sym (lines_read bytes ∙ ap (λ a. behind_lines front (go_on a (λ w. lines_at most_elements others >>= λ vs. done (w ∷ vs)))) is)

pub lines_end : (front : List Plain) (tys : List Ty) (bytes : List ℕ) → tys ≡ [] → length bytes ≡ 0 → behind_lines front (lines_at most_elements tys bytes) ≡ answers (Ok front) bytes
unfolding lines_at
lines_end front tys [] none ends = ap (λ l. behind_lines front (lines_at most_elements l [])) none ∙ ap (λ l. answers (Ok l) []) (append-nil front)
lines_end front tys (byte ∷ rest) none ends = absurd (omega arith)

pub lines_left : (front : List Plain) (tys : List Ty) (bytes : List ℕ) → tys ≡ [] → 0 < length bytes → behind_lines front (lines_at most_elements tys bytes) ≡ answers (Err None) bytes
unfolding lines_at
lines_left front tys [] none some = absurd (omega arith)
lines_left front tys (byte ∷ rest) none some = ap (λ l. behind_lines front (lines_at most_elements l (byte ∷ rest))) none
