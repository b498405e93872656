-- What is taken of members and elements one by one.
use Rattle.std.proofs.Common.{◌≡◌, ℕ, zero, suc, ◌-◌, ◌<◌, Bool, true, false, List, [], ◌∷◌, Option, Some, None, Result, Ok, Err, refl, sym, ap, ◌∙◌, arith}
use Rattle.text_reading.specs.Reading.{Answer, Answer.answers, Reader, done, go_on, ◌>>=◌}
use Rattle.type_trees.specs.Ty.{Ty, Tys, no_types, types}
use Rattle.typed_values.specs.Inputs.{most_elements}
use Rattle.typed_values.specs.Kinds.{enum_form_at}
use Rattle.typed_values.specs.Marks.{ValueReader, byte_at, number_at}
use Rattle.typed_values.specs.Skimming.{skim_behind, skim_element, skim_elements, skim_member, skim_at, skim_members, skim_variant}
use Rattle.typed_values.specs.declared.fault.ValueLimit.{ValueLimit}
use Rattle.typed_values.specs.declared.fault.ValueLimit.TheVariants as limits

-- ---- elements

module _ (item : ValueReader (Unit {0})) (start : List ℕ) where
  pub elements_stop : (room : ℕ) (is_first : Bool) (bytes rest : List ℕ) (why : Option ValueLimit) → 0 < room
      → skim_element item is_first bytes ≡ answers (Err why) rest → skim_elements item start room is_first bytes ≡ answers (Err why) rest
  unfolding skim_elements
  elements_stop zero is_first bytes rest why some is = absurd (omega arith)
  elements_stop (suc room) is_first bytes rest why some is = ap (λ a. go_on a (skim_behind (skim_elements item start room false))) is

  pub elements_end : (room : ℕ) (is_first goes_on : Bool) (bytes rest : List ℕ) → 0 < room → goes_on ≡ false
      → skim_element item is_first bytes ≡ answers (Ok goes_on) rest → skim_elements item start room is_first bytes ≡ answers (Ok tt) rest
  unfolding skim_elements
  elements_end zero is_first goes_on bytes rest some ends is = absurd (omega arith)
  elements_end (suc room) is_first goes_on bytes rest some ends is =
      ap (λ a. go_on a (skim_behind (skim_elements item start room false))) (is ∙ ap (λ g. answers (Ok g) rest) ends)

  pub elements_more : (room : ℕ) (is_first goes_on : Bool) (bytes rest : List ℕ) → 0 < room → goes_on ≡ true
      → skim_element item is_first bytes ≡ answers (Ok goes_on) rest → skim_elements item start (room - 1) false rest ≡ skim_elements item start room is_first bytes
  unfolding skim_elements
  elements_more zero is_first goes_on bytes rest some more is = absurd (omega arith)
  elements_more (suc room) is_first goes_on bytes rest some more is =
      ap (λ n. skim_elements item start n false rest) (one_less room)
      ∙ sym (ap (λ a. go_on a (skim_behind (skim_elements item start room false))) (is ∙ ap (λ g. answers (Ok g) rest) more))
    where
      one_less : (n : ℕ) → suc n - 1 ≡ n
      one_less n = omega arith

  pub elements_full : (room : ℕ) (is_first : Bool) (bytes : List ℕ) → room ≡ 0 → skim_elements item start room is_first bytes ≡ answers (Err (Some limits.LongArray)) start
  unfolding skim_elements
  elements_full room is_first bytes none = ap (λ n. skim_elements item start n is_first bytes) none

-- ---- members

module _ (tys others : Tys) (ty : Ty) (are : tys ≡ types ty others) where
  members_read : (is_first : Bool) (bytes : List ℕ)
      → skim_members most_elements is_first tys bytes ≡ go_on (skim_member is_first (skim_at most_elements ty) bytes) (λ _. skim_members most_elements false others)
  unfolding skim_members
  members_read is_first bytes = ap (λ l. skim_members most_elements is_first l bytes) are

  pub members_stop : (is_first : Bool) (bytes rest : List ℕ) (why : Option ValueLimit)
      → skim_member is_first (skim_at most_elements ty) bytes ≡ answers (Err why) rest → skim_members most_elements is_first tys bytes ≡ answers (Err why) rest
  members_stop is_first bytes rest why is = members_read is_first bytes ∙ ap (λ a. go_on a (λ _. skim_members most_elements false others)) is

  pub members_more : (is_first : Bool) (bytes rest : List ℕ)
      → skim_member is_first (skim_at most_elements ty) bytes ≡ answers (Ok tt) rest → skim_members most_elements false others rest ≡ skim_members most_elements is_first tys bytes
  members_more is_first bytes rest is = sym (members_read is_first bytes ∙ ap (λ a. go_on a (λ _. skim_members most_elements false others)) is)

pub members_end : (is_first : Bool) (tys : Tys) (bytes : List ℕ) → tys ≡ no_types → skim_members most_elements is_first tys bytes ≡ answers (Ok tt) bytes
unfolding skim_members
members_end is_first tys bytes none = ap (λ l. skim_members most_elements is_first l bytes) none

-- ---- a variant

pub enum_read : (variants : ℕ) (tys : Tys) (index : ℕ) (bytes between rest : List ℕ) → number_at variants bytes ≡ answers (Ok index) between
    → byte_at 58 between ≡ answers (Ok tt) rest → enum_form_at variants tys bytes ≡ skim_variant most_elements tys index rest
unfolding enum_form_at
enum_read variants tys index bytes between rest read colon =
    ap (λ a. go_on a (λ i. byte_at 58 >>= λ _. skim_variant most_elements tys i)) read
    ∙ ap (λ a. go_on a (λ _. skim_variant most_elements tys index)) colon
