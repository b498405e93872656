-- Arrays of elements that hold no array: one with few elements is read, or a number in it is out of range, and where one is told to be too
-- long, as many elements as it may have and a comma stand there.
use Rattle.std.proofs.Common.{◌≡◌, ℕ, zero, suc, ◌<◌, ◌≤◌, ◌⊎◌, inl, inr, ◌++◌, List, [], ◌∷◌, length, Bool, true, false, cond, Some, None, Ok, Err, refl, sym, ap, ◌∙◌, subst, arith}
use Rattle.std.specs.List.{AllByRecursion}
use Rattle.byte_reading.specs.Decimal.{StartsWithNoDigit}
use Rattle.text_reading.specs.Reading.{Answer.answers, Answer, done, go_on, ◌>>=◌, begins, branch}
use Rattle.value_trees.specs.Val.{Plain, no_values, values, vals_of}
use Rattle.value_trees.specs.Val as val
use Rattle.typed_values.specs.Marks.{ValueReader, byte_at, space_at, goes_on_at}
use Rattle.typed_values.specs.Reading.{behind_at, element_at, elements_at, array_at, told, whole_array_at}
use Rattle.typed_values.specs.Skimming.{skim_behind, skim_element, skim_elements, skim_array}
use Rattle.typed_values.specs.Texts.{value_text, values_text}
use Rattle.typed_values.specs.declared.fault.ValueLimit.{ValueLimit}
use Rattle.typed_values.specs.declared.fault.ValueLimit.TheVariants as limits
use Rattle.typed_values.proofs.NoArrays.{NeverLong, byte_never, done_never, then_never}
use Rattle.typed_values.proofs.ReadBoth.{both, after, byte_complete, then_byte, byte_sound}
use Rattle.typed_values.proofs.SkimForms.{SkimComplete, SkimSound}
use Rattle.typed_values.proofs.TextForms.{spaced, mark, array_text, element_text}
use Rattle.typed_values.proofs.ValuesComplete.{goes_on_complete, space_complete, mark_follow}
use Rattle.typed_values.proofs.ValuesSound.{IsSound, goes_on_sound, space_sound, element_sound}

-- ---- what is read, but for a number out of range

abbrev pub IsFew : {A : Type 0} → A → List ℕ → Answer ValueLimit A → Type 0
IsFew x rest answer = (answer ≡ answers (Ok x) rest) ⊎ ((left : List ℕ) × (answer ≡ answers (Err (Some limits.OutOfRange)) left))

pub few_then : {A B : Type 0} (reader : ValueReader A) (next : A → ValueReader B) (bytes mid rest : List ℕ) (x : A) (y : B) → IsFew x mid (reader bytes)
    → (reader bytes ≡ answers (Ok x) mid → IsFew y rest (next x mid)) → IsFew y rest ((reader >>= next) bytes)
few_then reader next bytes mid rest x y (inl is) few = subst (IsFew y rest) (sym (ap (λ a. go_on a next) is)) (few is)
few_then reader next bytes mid rest x y (inr stop) few = inr (stop.0, ap (λ a. go_on a next) stop.1)

abbrev pub IsFewRead : (Plain → Type 0) → ValueReader Plain → Type 0
IsFewRead P reader = (v : Plain) (rest : List ℕ) → P v → StartsWithNoDigit rest → IsFew v rest (reader (value_text v ++ rest))

-- ---- what is told of an array that begins at these bytes

abbrev pub IsLongAt : {A : Type 0} → Answer ValueLimit A → List ℕ → Type 0
IsLongAt answer rest = answer ≡ answers (Err (Some limits.LongArray)) rest

abbrev IsStopped : {A : Type 0} → List ℕ → Answer ValueLimit A → Type 0
IsStopped start answer = IsLongAt answer start ⊎ ((left : List ℕ) × (answer ≡ answers (Err (Some limits.OutOfRange)) left))

stopped_first : {A B : Type 0} (reader : ValueReader A) (next : A → ValueReader B) (bytes start : List ℕ) → IsStopped start (reader bytes) → IsStopped start ((reader >>= next) bytes)
stopped_first reader next bytes start (inl is) = inl (ap (λ a. go_on a next) is)
stopped_first reader next bytes start (inr stop) = inr (stop.0, ap (λ a. go_on a next) stop.1)

stopped_next : {A B : Type 0} (reader : ValueReader A) (next : A → ValueReader B) (bytes mid start : List ℕ) (x : A) → IsFew x mid (reader bytes) → IsStopped start (next x mid)
    → IsStopped start ((reader >>= next) bytes)
stopped_next reader next bytes mid start x (inl is) stop = subst (IsStopped start) (sym (ap (λ a. go_on a next) is)) stop
stopped_next reader next bytes mid start x (inr out) stop = inr (out.0, ap (λ a. go_on a next) out.1)

-- where it comes from
abbrev pub LongSource : {A B : Type 0} → ValueReader A → (A → ValueReader B) → List ℕ → List ℕ → Type 0
LongSource {A} reader next bytes rest = IsLongAt (reader bytes) rest ⊎ ((x : A) × (mid : List ℕ) × (reader bytes ≡ answers (Ok x) mid) × IsLongAt (next x mid) rest)

pub long_source : {A B : Type 0} (reader : ValueReader A) (next : A → ValueReader B) (bytes rest : List ℕ) → IsLongAt ((reader >>= next) bytes) rest → LongSource reader next bytes rest
long_source {A} {B} reader next bytes rest is = go (reader bytes) refl is
  where
    go : (a : Answer ValueLimit A) → reader bytes ≡ a → IsLongAt (go_on a next) rest → LongSource reader next bytes rest
    go (answers (Ok x) mid) was is = inr (x, mid, was, is)
    go (answers (Err None) left) was is = let never : ⊥ = cc in absurd never
    go (answers (Err (Some limits.OutOfRange)) left) was is = let never : ⊥ = cc in absurd never
    go (answers (Err (Some limits.LongArray)) left) was is =
        let left_is : left ≡ rest = cc in
        inl (was ∙ ap (λ (t : List ℕ). answers (Err (Some limits.LongArray)) t) left_is)

-- behind a reader that tells of no array
pub long_behind : {A B : Type 0} (reader : ValueReader A) (next : A → ValueReader B) (bytes rest : List ℕ) → NeverLong reader → IsLongAt ((reader >>= next) bytes) rest
    → (x : A) × (mid : List ℕ) × (reader bytes ≡ answers (Ok x) mid) × IsLongAt (next x mid) rest
long_behind reader next bytes rest never is = elim (long_source reader next bytes rest is) [
  | inl here ↦ absurd (never bytes rest here)
  | inr later ↦ later
]

pub long_made : {A B : Type 0} (reader : ValueReader A) (make : A → B) (bytes rest : List ℕ) → IsLongAt ((reader >>= λ x. done (make x)) bytes) rest → IsLongAt (reader bytes) rest
long_made reader make bytes rest is = elim (long_source reader (λ x. done (make x)) bytes rest is) [
  | inl here ↦ here
  | inr later ↦ absurd (done_never (make later.0) later.1 rest later.3)
]

pub long_byte : {A : Type 0} (wanted : ℕ) (next : ValueReader A) (bytes rest : List ℕ) → IsLongAt ((byte_at wanted >>= λ _. next) bytes) rest → (mid : List ℕ) × (bytes ≡ wanted ∷ mid) × IsLongAt (next mid) rest
long_byte wanted next bytes rest is =
    let found = long_behind (byte_at wanted) (λ _. next) bytes rest (byte_never wanted) is in
    (found.1, byte_sound wanted bytes found.1 found.0 found.2, found.3)

-- ---- so many elements and a comma

pub record LongElements (P : Plain → Type 0) (start : List ℕ) (room : ℕ) (is_first : Bool) (bytes rest : List ℕ) : Type 0 where
  pub element : Plain
  pub others : List Plain
  pub behind : List ℕ
  pub formed : P element
  pub all : AllByRecursion P others
  pub room_is : suc (length others) ≡ room
  pub text : bytes ≡ spaced is_first ++ (values_text (vals_of (element ∷ others)) ++ (44 ∷ behind))
  pub start_is : rest ≡ start

module _ (P : Plain → Type 0) (start : List ℕ) (Run : ℕ → Bool → List ℕ → List ℕ → Type 0)
    (at_end : (is_first : Bool) (bytes rest : List ℕ) → Run zero is_first bytes rest → rest ≡ start)
    (step : (room : ℕ) (is_first : Bool) (bytes rest : List ℕ) → Run (suc room) is_first bytes rest
    → (v : Plain) × (mid : List ℕ) × P v × (bytes ≡ spaced is_first ++ (value_text v ++ (44 ∷ mid))) × Run room false mid rest) where
  by_steps : (room : ℕ) (is_first : Bool) (bytes rest : List ℕ) → Run (suc room) is_first bytes rest → LongElements P start (suc room) is_first bytes rest
  by_steps zero is_first bytes rest run =
      let one = step zero is_first bytes rest run in
      record { element = one.0; others = []; behind = one.1; formed = one.2; all = tt; room_is = refl; text = one.3; start_is = at_end false one.1 rest one.4 }
  by_steps (suc room) is_first bytes rest run =
      let one = step (suc room) is_first bytes rest run in
      let more = by_steps room false one.1 rest one.4 in
      record {
        element = one.0;
        others = more.element ∷ more.others;
        behind = more.behind;
        formed = one.2;
        all = (more.formed, more.all);
        room_is = ap suc more.room_is;
        text =
            one.3 ∙ ap (λ (t : List ℕ). spaced is_first ++ (value_text one.0 ++ (44 ∷ t))) more.text
            ∙ ap (λ (t : List ℕ). spaced is_first ++ t) (sym (element_text one.0 more.element more.others (44 ∷ more.behind)));
        start_is = more.start_is;
      }

goes_on_never : NeverLong goes_on_at
unfolding goes_on_at
goes_on_never bytes rest is = by_test (begins 93 bytes) is
  where
    by_test : (t : Bool) → cond t ((byte_at 93 >>= λ _. done false) bytes) ((byte_at 44 >>= λ _. done true) bytes) ≡ answers (Err (Some limits.LongArray)) rest → ⊥
    by_test true is = then_never (byte_at 93) (λ _. done false) (byte_never 93) (λ unit. done_never false) bytes rest is
    by_test false is = then_never (byte_at 44) (λ _. done true) (byte_never 44) (λ unit. done_never true) bytes rest is

space_never : (is_first : Bool) → NeverLong (space_at is_first)
unfolding space_at
space_never true = done_never tt
space_never false = byte_never 32

-- ---- the form alone

module _ (form : ValueReader (Unit {0})) (P : Plain → Type 0) (complete : SkimComplete P form) (sound : SkimSound P form) (never : NeverLong form)
    (opens : (v : Plain) (more : List ℕ) → P v → begins 93 (value_text v ++ more) ≡ false) where
  skimmed_element : (is_first g : Bool) (v : Plain) (rest : List ℕ) → P v → skim_element form is_first (spaced is_first ++ (value_text v ++ (mark g ∷ rest))) ≡ answers (Ok g) rest
  unfolding skim_element
  skimmed_element is_first g v rest given =
      after (space_at is_first) (λ _. form >>= λ _. goes_on_at) (spaced is_first ++ (value_text v ++ (mark g ∷ rest))) (value_text v ++ (mark g ∷ rest)) tt
      (space_complete is_first (value_text v ++ (mark g ∷ rest)))
      ∙ after form (λ _. goes_on_at) (value_text v ++ (mark g ∷ rest)) (mark g ∷ rest) tt (complete v (mark g ∷ rest) given (mark_follow g rest))
      ∙ goes_on_complete g rest

  skimmed_elements : (start : List ℕ) (room : ℕ) (is_first : Bool) (v : Plain) (vs : List Plain) (rest : List ℕ) → suc (length vs) ≤ room → P v → AllByRecursion P vs
      → skim_elements form start room is_first (spaced is_first ++ (values_text (vals_of (v ∷ vs)) ++ (93 ∷ rest))) ≡ answers (Ok tt) rest
  unfolding skim_elements
  skimmed_elements start zero is_first v vs rest few given all = absurd (omega arith)
  skimmed_elements start (suc room) is_first v [] rest few given all =
      after (skim_element form is_first) (skim_behind (skim_elements form start room false)) (spaced is_first ++ (value_text v ++ (93 ∷ rest))) rest false
      (skimmed_element is_first false v rest given)
  skimmed_elements start (suc room) is_first v (w ∷ vs) rest few given all =
      ap (λ (t : List ℕ). skim_elements form start (suc room) is_first (spaced is_first ++ t)) (element_text v w vs (93 ∷ rest))
      ∙ after (skim_element form is_first) (skim_behind (skim_elements form start room false))
      (spaced is_first ++ (value_text v ++ (44 ∷ (32 ∷ (values_text (vals_of (w ∷ vs)) ++ (93 ∷ rest))))))
      (32 ∷ (values_text (vals_of (w ∷ vs)) ++ (93 ∷ rest))) true
      (skimmed_element is_first true v (32 ∷ (values_text (vals_of (w ∷ vs)) ++ (93 ∷ rest))) given)
      ∙ skimmed_elements start room false w vs rest (omega arith) all.0 all.1

  long_elements : (start : List ℕ) (room : ℕ) (is_first : Bool) (v : Plain) (vs : List Plain) (rest : List ℕ) → suc (length vs) ≡ room → P v → AllByRecursion P vs
      → IsLongAt (skim_elements form start room is_first (spaced is_first ++ (values_text (vals_of (v ∷ vs)) ++ (44 ∷ rest)))) start
  unfolding skim_elements
  long_elements start zero is_first v vs rest full given all = absurd (omega arith)
  long_elements start (suc zero) is_first v [] rest full given all =
      after (skim_element form is_first) (skim_behind (skim_elements form start zero false)) (spaced is_first ++ (value_text v ++ (44 ∷ rest))) rest true
      (skimmed_element is_first true v rest given)
  long_elements start (suc (suc room)) is_first v [] rest full given all = absurd (omega arith)
  long_elements start (suc room) is_first v (w ∷ vs) rest full given all =
      ap (λ (t : List ℕ). skim_elements form start (suc room) is_first (spaced is_first ++ t)) (element_text v w vs (44 ∷ rest))
      ∙ after (skim_element form is_first) (skim_behind (skim_elements form start room false))
      (spaced is_first ++ (value_text v ++ (44 ∷ (32 ∷ (values_text (vals_of (w ∷ vs)) ++ (44 ∷ rest))))))
      (32 ∷ (values_text (vals_of (w ∷ vs)) ++ (44 ∷ rest))) true
      (skimmed_element is_first true v (32 ∷ (values_text (vals_of (w ∷ vs)) ++ (44 ∷ rest))) given)
      ∙ long_elements start room false w vs rest (omega arith) all.0 all.1

  not_closed : (v : Plain) (vs : List Plain) (more : List ℕ) → P v → begins 93 (values_text (vals_of (v ∷ vs)) ++ more) ≡ false
  not_closed v [] more given = opens v more given
  not_closed v (w ∷ vs) more given = ap (begins 93) (element_text v w vs more) ∙ opens v (44 ∷ (32 ∷ (values_text (vals_of (w ∷ vs)) ++ more))) given

  skim_open : (most : ℕ) (v : Plain) (vs : List Plain) (more : List ℕ) → P v
      → let text = values_text (vals_of (v ∷ vs)) ++ more in skim_array form most (91 ∷ text) ≡ skim_elements form (91 ∷ text) most true text
  unfolding skim_array
  skim_open most v vs more given =
      let text = values_text (vals_of (v ∷ vs)) ++ more in
      then_byte 91 (branch 93 (byte_at 93) (skim_elements form (91 ∷ text) most true)) text
      ∙ ap (λ t. cond t (byte_at 93 text) (skim_elements form (91 ∷ text) most true text)) (not_closed v vs more given)

  skimmed_array : (most : ℕ) (vs : List Plain) (rest : List ℕ) → AllByRecursion P vs → length vs ≤ most
      → skim_array form most (91 ∷ (values_text (vals_of vs) ++ (93 ∷ rest))) ≡ answers (Ok tt) rest
  unfolding skim_array
  skimmed_array most [] rest all few = then_byte 91 (branch 93 (byte_at 93) (skim_elements form (91 ∷ (93 ∷ rest)) most true)) (93 ∷ rest) ∙ byte_complete 93 rest
  skimmed_array most (v ∷ vs) rest all few =
      skim_open most v vs (93 ∷ rest) all.0 ∙ skimmed_elements (91 ∷ (values_text (vals_of (v ∷ vs)) ++ (93 ∷ rest))) most true v vs rest few all.0 all.1

  long_skim : (most : ℕ) (v : Plain) (vs : List Plain) (rest : List ℕ) → P v → AllByRecursion P vs → suc (length vs) ≡ most
      → let bytes = 91 ∷ (values_text (vals_of (v ∷ vs)) ++ (44 ∷ rest)) in IsLongAt (skim_array form most bytes) bytes
  long_skim most v vs rest given all full =
      skim_open most v vs (44 ∷ rest) given ∙ long_elements (91 ∷ (values_text (vals_of (v ∷ vs)) ++ (44 ∷ rest))) most true v vs rest full given all

  element_source : (is_first : Bool) (bytes rest : List ℕ) (g : Bool) → skim_element form is_first bytes ≡ answers (Ok g) rest
      → (v : Plain) × P v × (bytes ≡ spaced is_first ++ (value_text v ++ (mark g ∷ rest)))
  unfolding skim_element
  element_source is_first bytes rest g is =
      let space = both (space_at is_first) (λ _. form >>= λ _. goes_on_at) bytes rest g is in
      let value = both form (λ _. goes_on_at) space.1 rest g space.3 in
      let found = sound space.1 value.1 value.2 in (
        found.0,
        found.1,
        space_sound is_first bytes space.1 space.0 space.2
            ∙ ap (λ (t : List ℕ). spaced is_first ++ t) (found.2 ∙ ap (λ (t : List ℕ). value_text found.0 ++ t) (goes_on_sound value.1 rest g value.3)),
      )

  skim_element_never : (is_first : Bool) → NeverLong (skim_element form is_first)
  unfolding skim_element
  skim_element_never is_first = then_never (space_at is_first) (λ _. form >>= λ _. goes_on_at) (space_never is_first) (λ _. then_never form (λ _. goes_on_at) never (λ _. goes_on_never))

  long_skimmed : (start : List ℕ) (room : ℕ) (is_first : Bool) (bytes rest : List ℕ) → IsLongAt (skim_elements form start (suc room) is_first bytes) rest → LongElements P start (suc room) is_first bytes rest
  unfolding skim_elements
  long_skimmed start = by_steps P start (λ room is_first bytes rest. IsLongAt (skim_elements form start room is_first bytes) rest) at_end step
    where
      at_end : (is_first : Bool) (bytes rest : List ℕ) → IsLongAt (skim_elements form start zero is_first bytes) rest → rest ≡ start
      at_end is_first bytes rest is = cc

      step : (room : ℕ) (is_first : Bool) (bytes rest : List ℕ) → IsLongAt (skim_elements form start (suc room) is_first bytes) rest
          → (v : Plain) × (mid : List ℕ) × P v × (bytes ≡ spaced is_first ++ (value_text v ++ (44 ∷ mid))) × IsLongAt (skim_elements form start room false mid) rest
      step room is_first bytes rest is =
          let found = long_behind (skim_element form is_first) (skim_behind (skim_elements form start room false)) bytes rest (skim_element_never is_first) is in
          go found.0 found.1 found.2 found.3
        where
          go : (g : Bool) (mid : List ℕ) → skim_element form is_first bytes ≡ answers (Ok g) mid → IsLongAt (skim_behind (skim_elements form start room false) g mid) rest
              → (v : Plain) × (mid : List ℕ) × P v × (bytes ≡ spaced is_first ++ (value_text v ++ (44 ∷ mid))) × IsLongAt (skim_elements form start room false mid) rest
          go false mid read more = let no : ⊥ = cc in absurd no
          go true mid read more = let one = element_source is_first bytes mid true read in (one.0, mid, one.1, one.2, more)

  -- ---- an array with its elements

  pub long_skim_source : (most : ℕ) → 0 < most → (bytes rest : List ℕ) → IsLongAt (skim_array form most bytes) rest → (mid : List ℕ) × (bytes ≡ 91 ∷ mid) × LongElements P bytes most true mid rest
  unfolding skim_array
  long_skim_source zero some bytes rest is = absurd (omega arith)
  long_skim_source (suc room) some bytes rest is =
      let opened = long_byte 91 (branch 93 (byte_at 93) (skim_elements form bytes (suc room) true)) bytes rest is in
      go opened.0 opened.1 (begins 93 opened.0) opened.2
    where
      go : (mid : List ℕ) → bytes ≡ 91 ∷ mid → (t : Bool) → IsLongAt (cond t (byte_at 93 mid) (skim_elements form bytes (suc room) true mid)) rest
          → (mid : List ℕ) × (bytes ≡ 91 ∷ mid) × LongElements P bytes (suc room) true mid rest
      go mid parts true is = absurd (byte_never 93 mid rest is)
      go mid parts false is = (mid, parts, long_skimmed bytes room true mid rest is)

  module _ (item : ValueReader Plain) (few : IsFewRead P item) where
    element_few : (is_first g : Bool) (v : Plain) (rest : List ℕ) → P v → IsFew (v, g) rest (element_at item is_first (spaced is_first ++ (value_text v ++ (mark g ∷ rest))))
    unfolding element_at
    element_few is_first g v rest given =
        few_then (space_at is_first) (λ _. item >>= λ w. goes_on_at >>= λ goes_on. done (w, goes_on)) (spaced is_first ++ (value_text v ++ (mark g ∷ rest)))
        (value_text v ++ (mark g ∷ rest)) rest tt (v, g) (inl (space_complete is_first (value_text v ++ (mark g ∷ rest))))
        (λ _.
        few_then item (λ w. goes_on_at >>= λ goes_on. done (w, goes_on)) (value_text v ++ (mark g ∷ rest)) (mark g ∷ rest) rest v (v, g)
        (few v (mark g ∷ rest) given (mark_follow g rest))
        (λ _. few_then goes_on_at (λ goes_on. done (v, goes_on)) (mark g ∷ rest) rest rest g (v, g) (inl (goes_on_complete g rest)) (λ _. inl refl)))

    elements_few : (start : List ℕ) (room : ℕ) (is_first : Bool) (v : Plain) (vs : List Plain) (rest : List ℕ) → suc (length vs) ≤ room → P v → AllByRecursion P vs
        → IsFew (vals_of (v ∷ vs)) rest (elements_at item start room is_first (spaced is_first ++ (values_text (vals_of (v ∷ vs)) ++ (93 ∷ rest))))
    unfolding elements_at
    elements_few start zero is_first v vs rest less given all = absurd (omega arith)
    elements_few start (suc room) is_first v [] rest less given all =
        few_then (element_at item is_first) (behind_at (elements_at item start room false)) (spaced is_first ++ (value_text v ++ (93 ∷ rest))) rest rest (v, false) (vals_of (v ∷ []))
        (element_few is_first false v rest given) (λ _. inl refl)
    elements_few start (suc room) is_first v (w ∷ vs) rest less given all =
        subst (λ (t : List ℕ). IsFew (vals_of (v ∷ w ∷ vs)) rest (elements_at item start (suc room) is_first (spaced is_first ++ t))) (sym (element_text v w vs (93 ∷ rest)))
        (
        few_then (element_at item is_first) (behind_at (elements_at item start room false))
        (spaced is_first ++ (value_text v ++ (44 ∷ (32 ∷ (values_text (vals_of (w ∷ vs)) ++ (93 ∷ rest))))))
        (32 ∷ (values_text (vals_of (w ∷ vs)) ++ (93 ∷ rest))) rest (v, true) (vals_of (v ∷ w ∷ vs))
        (element_few is_first true v (32 ∷ (values_text (vals_of (w ∷ vs)) ++ (93 ∷ rest))) given)
        (λ _.
        few_then (elements_at item start room false) (λ us. done (values v us)) (32 ∷ (values_text (vals_of (w ∷ vs)) ++ (93 ∷ rest))) rest rest (vals_of (w ∷ vs)) (vals_of (v ∷ w ∷ vs))
        (elements_few start room false w vs rest (omega arith) all.0 all.1) (λ _. inl refl))
        )

    elements_stopped : (start : List ℕ) (room : ℕ) (is_first : Bool) (v : Plain) (vs : List Plain) (rest : List ℕ) → suc (length vs) ≡ room → P v → AllByRecursion P vs
        → IsStopped start (elements_at item start room is_first (spaced is_first ++ (values_text (vals_of (v ∷ vs)) ++ (44 ∷ rest))))
    unfolding elements_at
    elements_stopped start zero is_first v vs rest full given all = absurd (omega arith)
    elements_stopped start (suc zero) is_first v [] rest full given all =
        stopped_next (element_at item is_first) (behind_at (elements_at item start zero false)) (spaced is_first ++ (value_text v ++ (44 ∷ rest))) rest start (v, true)
        (element_few is_first true v rest given) (inl refl)
    elements_stopped start (suc (suc room)) is_first v [] rest full given all = absurd (omega arith)
    elements_stopped start (suc room) is_first v (w ∷ vs) rest full given all =
        subst (λ (t : List ℕ). IsStopped start (elements_at item start (suc room) is_first (spaced is_first ++ t))) (sym (element_text v w vs (44 ∷ rest)))
        (
        stopped_next (element_at item is_first) (behind_at (elements_at item start room false))
        (spaced is_first ++ (value_text v ++ (44 ∷ (32 ∷ (values_text (vals_of (w ∷ vs)) ++ (44 ∷ rest))))))
        (32 ∷ (values_text (vals_of (w ∷ vs)) ++ (44 ∷ rest))) start (v, true)
        (element_few is_first true v (32 ∷ (values_text (vals_of (w ∷ vs)) ++ (44 ∷ rest))) given)
        (
        stopped_first (elements_at item start room false) (λ us. done (values v us)) (32 ∷ (values_text (vals_of (w ∷ vs)) ++ (44 ∷ rest))) start
        (elements_stopped start room false w vs rest (omega arith) all.0 all.1)
        )
        )

    abbrev closed : ValueReader Plain
    closed = byte_at 93 >>= λ _. done (val.array no_values)

    abbrev others_of : ℕ → List ℕ → ValueReader Plain
    others_of most start = elements_at item start most true >>= λ vs. done (val.array vs)

    array_open : (most : ℕ) (v : Plain) (vs : List Plain) (more : List ℕ) → P v
        → let text = values_text (vals_of (v ∷ vs)) ++ more in array_at item most (91 ∷ text) ≡ others_of most (91 ∷ text) text
    unfolding array_at
    array_open most v vs more given =
        let text = values_text (vals_of (v ∷ vs)) ++ more in
        then_byte 91 (branch 93 closed (others_of most (91 ∷ text))) text ∙ ap (λ t. cond t (closed text) (others_of most (91 ∷ text) text)) (not_closed v vs more given)

    array_few : (most : ℕ) (vs : List Plain) (rest : List ℕ) → AllByRecursion P vs → length vs ≤ most
        → IsFew (val.array (vals_of vs)) rest (array_at item most (91 ∷ (values_text (vals_of vs) ++ (93 ∷ rest))))
    unfolding array_at
    array_few most [] rest all less = inl (then_byte 91 (branch 93 closed (others_of most (91 ∷ (93 ∷ rest)))) (93 ∷ rest) ∙ then_byte 93 (done (val.array no_values)) rest)
    array_few most (v ∷ vs) rest all less =
        subst (IsFew (val.array (vals_of (v ∷ vs))) rest) (sym (array_open most v vs (93 ∷ rest) all.0))
        (
        few_then (elements_at item (91 ∷ (values_text (vals_of (v ∷ vs)) ++ (93 ∷ rest))) most true) (λ us. done (val.array us)) (values_text (vals_of (v ∷ vs)) ++ (93 ∷ rest)) rest rest (vals_of (v ∷ vs)) (val.array (vals_of (v ∷ vs)))
        (elements_few (91 ∷ (values_text (vals_of (v ∷ vs)) ++ (93 ∷ rest))) most true v vs rest less all.0 all.1) (λ _. inl refl)
        )

    told_few : (v : Plain) (rest : List ℕ) (answer : Answer ValueLimit Plain) → IsFew v rest answer → IsFew v rest (told answer (answers (Ok tt) rest))
    told_few v rest answer (inl is) = inl (ap (λ a. told a (answers (Ok tt) rest)) is)
    told_few v rest answer (inr stop) = inr (stop.0, ap (λ a. told a (answers (Ok tt) rest)) stop.1)

    pub whole_few : (most : ℕ) (vs : List Plain) (rest : List ℕ) → AllByRecursion P vs → length vs ≤ most
        → IsFew (val.array (vals_of vs)) rest (whole_array_at item form most (value_text (val.array (vals_of vs)) ++ rest))
    unfolding whole_array_at
    whole_few most vs rest all less =
        let bytes = 91 ∷ (values_text (vals_of vs) ++ (93 ∷ rest)) in
        subst (λ (t : List ℕ). IsFew (val.array (vals_of vs)) rest (told (array_at item most t) (skim_array form most t))) (sym (array_text (vals_of vs) rest))
        (subst (λ a. IsFew (val.array (vals_of vs)) rest (told (array_at item most bytes) a)) (sym (skimmed_array most vs rest all less))
        (told_few (val.array (vals_of vs)) rest (array_at item most bytes) (array_few most vs rest all less)))

    told_long : (start : List ℕ) (answer : Answer ValueLimit Plain) → IsStopped start answer → IsLongAt (told answer (answers (Err (Some limits.LongArray)) start)) start
    told_long start answer (inl is) = ap (λ a. told a (answers (Err (Some limits.LongArray)) start)) is
    told_long start answer (inr stop) = ap (λ a. told a (answers (Err (Some limits.LongArray)) start)) stop.1

    pub whole_long : (most : ℕ) (v : Plain) (vs : List Plain) (rest : List ℕ) → P v → AllByRecursion P vs → suc (length vs) ≡ most
        → let bytes = 91 ∷ (values_text (vals_of (v ∷ vs)) ++ (44 ∷ rest)) in IsLongAt (whole_array_at item form most bytes) bytes
    unfolding whole_array_at
    whole_long most v vs rest given all full =
        let text = values_text (vals_of (v ∷ vs)) ++ (44 ∷ rest) in
        ap (λ a. told (array_at item most (91 ∷ text)) a) (long_skim most v vs rest given all full)
        ∙ told_long (91 ∷ text) (array_at item most (91 ∷ text))
        (subst (IsStopped (91 ∷ text)) (sym (array_open most v vs (44 ∷ rest) given))
        (stopped_first (elements_at item (91 ∷ text) most true) (λ us. done (val.array us)) text (91 ∷ text) (elements_stopped (91 ∷ text) most true v vs rest full given all)))

    module _ (Q : Plain → Type 0) (value_sound : IsSound Q item) (weaker : (v : Plain) → Q v → P v) (item_never : NeverLong item) where
      element_never : (is_first : Bool) → NeverLong (element_at item is_first)
      unfolding element_at
      element_never is_first =
          then_never (space_at is_first) (λ _. item >>= λ v. goes_on_at >>= λ goes_on. done (v, goes_on)) (space_never is_first)
          (λ _. then_never item (λ v. goes_on_at >>= λ goes_on. done (v, goes_on)) item_never (λ v. then_never goes_on_at (λ goes_on. done (v, goes_on)) goes_on_never (λ goes_on. done_never (v, goes_on))))

      long_read : (start : List ℕ) (room : ℕ) (is_first : Bool) (bytes rest : List ℕ) → IsLongAt (elements_at item start (suc room) is_first bytes) rest → LongElements P start (suc room) is_first bytes rest
      unfolding elements_at
      long_read start = by_steps P start (λ room is_first bytes rest. IsLongAt (elements_at item start room is_first bytes) rest) at_end step
        where
          at_end : (is_first : Bool) (bytes rest : List ℕ) → IsLongAt (elements_at item start zero is_first bytes) rest → rest ≡ start
          at_end is_first bytes rest is = cc

          step : (room : ℕ) (is_first : Bool) (bytes rest : List ℕ) → IsLongAt (elements_at item start (suc room) is_first bytes) rest
              → (v : Plain) × (mid : List ℕ) × P v × (bytes ≡ spaced is_first ++ (value_text v ++ (44 ∷ mid))) × IsLongAt (elements_at item start room false mid) rest
          step room is_first bytes rest is =
              let found = long_behind (element_at item is_first) (behind_at (elements_at item start room false)) bytes rest (element_never is_first) is in
              let one = element_sound item Q value_sound is_first bytes found.1 found.0 found.2 in
              go found.0.0 found.0.1 found.1 one.0 one.1 found.3
            where
              go : (v : Plain) (g : Bool) (mid : List ℕ) → Q v → bytes ≡ spaced is_first ++ (value_text v ++ (mark g ∷ mid)) → IsLongAt (behind_at (elements_at item start room false) (v, g) mid) rest
                  → (v : Plain) × (mid : List ℕ) × P v × (bytes ≡ spaced is_first ++ (value_text v ++ (44 ∷ mid))) × IsLongAt (elements_at item start room false mid) rest
              go v false mid given text more = let no : ⊥ = cc in absurd no
              go v true mid given text more = (v, mid, weaker v given, text, long_made (elements_at item start room false) (values v) mid rest more)

      long_array_source : (most : ℕ) → 0 < most → (bytes rest : List ℕ) → IsLongAt (array_at item most bytes) rest → (mid : List ℕ) × (bytes ≡ 91 ∷ mid) × LongElements P bytes most true mid rest
      unfolding array_at
      long_array_source zero some bytes rest is = absurd (omega arith)
      long_array_source (suc room) some bytes rest is =
          let opened = long_byte 91 (branch 93 closed (others_of (suc room) bytes)) bytes rest is in
          go opened.0 opened.1 (begins 93 opened.0) opened.2
        where
          go : (mid : List ℕ) → bytes ≡ 91 ∷ mid → (t : Bool) → IsLongAt (cond t (closed mid) (others_of (suc room) bytes mid)) rest
              → (mid : List ℕ) × (bytes ≡ 91 ∷ mid) × LongElements P bytes (suc room) true mid rest
          go mid parts true is = absurd (then_never (byte_at 93) (λ _. done (val.array no_values)) (byte_never 93) (λ _. done_never (val.array no_values)) mid rest is)
          go mid parts false is = (mid, parts, long_read bytes room true mid rest (long_made (elements_at item bytes (suc room) true) (λ vs. val.array vs) mid rest is))

      pub whole_source : (most : ℕ) → 0 < most → (bytes rest : List ℕ) → IsLongAt (whole_array_at item form most bytes) rest → (mid : List ℕ) × (bytes ≡ 91 ∷ mid) × LongElements P bytes most true mid rest
      unfolding whole_array_at
      whole_source most some bytes rest is = go (array_at item most bytes) refl is
        where
          by_form : (left : List ℕ) (a : Answer ValueLimit (Unit {0})) → skim_array form most bytes ≡ a → IsLongAt {A = Plain} (told (answers (Err (Some limits.OutOfRange)) left) a) rest
              → (mid : List ℕ) × (bytes ≡ 91 ∷ mid) × LongElements P bytes most true mid rest
          by_form left (answers (Ok unit) s) was is = let no : ⊥ = cc in absurd no
          by_form left (answers (Err None) s) was is = let no : ⊥ = cc in absurd no
          by_form left (answers (Err (Some limits.OutOfRange)) s) was is = let no : ⊥ = cc in absurd no
          by_form left (answers (Err (Some limits.LongArray)) s) was is =
              let left_is : s ≡ rest = cc in
              long_skim_source most some bytes rest (was ∙ ap (λ (t : List ℕ). answers (Err (Some limits.LongArray)) t) left_is)

          go : (a : Answer ValueLimit Plain) → array_at item most bytes ≡ a → IsLongAt (told a (skim_array form most bytes)) rest
              → (mid : List ℕ) × (bytes ≡ 91 ∷ mid) × LongElements P bytes most true mid rest
          go (answers (Ok v) left) was is = let no : ⊥ = cc in absurd no
          go (answers (Err None) left) was is = let no : ⊥ = cc in absurd no
          go (answers (Err (Some limits.LongArray)) left) was is = long_array_source most some bytes rest (was ∙ is)
          go (answers (Err (Some limits.OutOfRange)) left) was is = by_form left (skim_array form most bytes) refl is
