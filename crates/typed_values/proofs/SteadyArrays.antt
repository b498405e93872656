-- The reader of an array is steady where that of its elements is.
use Rattle.std.proofs.Common.{◌≡◌, ℕ, zero, suc, List, [], ◌∷◌, ◌++◌, Bool, true, false, cond, Option, None, Some, Result, Ok, Err, refl, sym, ◌∙◌, ap, arith}
use Rattle.byte_reading.specs.Decimal.{StartsWithNoDigit}
use Rattle.text_reading.specs.Reading.{Answer, Answer.answers, done, go_on, ◌>>=◌, begins, branch}
use Rattle.text_reading.proofs.Readers.{Starts, done_starts}
use Rattle.value_trees.specs.Val.{Plain, Vals, WordMap, OpenMap, no_values, values}
use Rattle.value_trees.specs.Val as val
use Rattle.typed_values.specs.Marks.{ValueReader, byte_at, space_at, goes_on_at}
use Rattle.typed_values.specs.Reading.{behind_at, element_at, elements_at, array_at, told, whole_array_at}
use Rattle.typed_values.specs.Skimming.{skim_array}
use Rattle.typed_values.specs.declared.fault.ValueLimit.{ValueLimit}
use Rattle.typed_values.specs.declared.fault.ValueLimit.TheVariants as limits
use Rattle.typed_values.proofs.ReadBoth.{then_byte, begins_self}
use Rattle.typed_values.proofs.Steady.{Anything, Quiet, Steady, half, steady_as, steady_then, starts_then, steady_done, steady_byte, steady_branch, half_byte, steady_made, steady_behind}
use Rattle.typed_values.proofs.ValuesComplete.{no_digit_above}

-- ---- readers that answer the same but for limits

abbrev Agree : {A : Type 0} → ValueReader A → ValueReader A → Type 0
Agree {A} reader other = (bytes rest : List ℕ) (out : Result A (Option ValueLimit)) → Quiet out → reader bytes ≡ answers out rest → other bytes ≡ answers out rest

never_quiet : {A : Type 0} (limit : ValueLimit) (left rest : List ℕ) (out : Result A (Option ValueLimit)) → Quiet out → ◌≡◌ {A = Answer ValueLimit A} (answers (Err (Some limit)) left) (answers out rest) → ⊥
never_quiet limit left rest (Ok x) quiet is = cc
never_quiet limit left rest (Err None) quiet is = cc
never_quiet limit left rest (Err (Some other)) quiet is = quiet

agree_then : {A B : Type 0} (reader other : ValueReader A) (next : A → ValueReader B) → Agree reader other → Agree (reader >>= next) (other >>= next)
agree_then {A} {B} reader other next agree bytes rest out quiet is = go (reader bytes) refl is
  where
    go : (a : Answer ValueLimit A) → reader bytes ≡ a → go_on a next ≡ answers out rest → (other >>= next) bytes ≡ answers out rest
    go (answers (Ok x) left) was is = ap (λ b. go_on b next) (agree bytes left (Ok x) tt was) ∙ is
    go (answers (Err None) left) was is = ap (λ b. go_on b next) (agree bytes left (Err None) tt was) ∙ is
    go (answers (Err (Some limit)) left) was is = absurd (never_quiet limit left rest out quiet is)

agree_behind : {A B : Type 0} (reader : ValueReader A) (next other : A → ValueReader B) → ((x : A) → Agree (next x) (other x)) → Agree (reader >>= next) (reader >>= other)
agree_behind {A} {B} reader next other agree bytes rest out quiet is = go (reader bytes) is
  where
    go : (a : Answer ValueLimit A) → go_on a next ≡ answers out rest → go_on a other ≡ answers out rest
    go (answers (Ok x) left) is = agree x left rest out quiet is
    go (answers (Err why) left) is = is

agree_branch : {A : Type 0} (byte : ℕ) (reader one other : ValueReader A) → Agree one other → Agree (branch byte reader one) (branch byte reader other)
agree_branch {A} byte reader one other agree bytes rest out quiet is = go (begins byte bytes) is
  where
    go : (t : Bool) → cond t (reader bytes) (one bytes) ≡ answers out rest → cond t (reader bytes) (other bytes) ≡ answers out rest
    go true is = is
    go false is = agree bytes rest out quiet is

-- ---- elements

abbrev pub Elements : Type 0
Elements = Vals WordMap OpenMap

behind_agree : (one other : ValueReader Elements) → Agree one other → (p : Plain × Bool) → Agree (behind_at one p) (behind_at other p)
behind_agree one other agree (v, true) bytes rest out quiet is = agree_then one other (λ vs. done (values v vs)) agree bytes rest out quiet is
behind_agree one other agree (v, false) bytes rest out quiet is = is

module _ (item : ValueReader Plain) where
  -- where the array begins is told of one that is too long alone
  same_elements : (s t : List ℕ) (room : ℕ) (is_first : Bool) → Agree (elements_at item s room is_first) (elements_at item t room is_first)
  unfolding elements_at
  same_elements s t zero is_first bytes rest out quiet is = absurd (never_quiet limits.LongArray s rest out quiet is)
  same_elements s t (suc room) is_first bytes rest out quiet is =
      agree_behind (element_at item is_first) (behind_at (elements_at item s room false)) (behind_at (elements_at item t room false))
      (behind_agree (elements_at item s room false) (elements_at item t room false) (same_elements s t room false)) bytes rest out quiet is

  abbrev pub closed_behind : Plain → ValueReader Elements
  closed_behind v = byte_at 93 >>= λ _. done (values v no_values)

  abbrev pub more_behind : ValueReader Elements → Plain → ValueReader Elements
  more_behind others v = byte_at 44 >>= λ _. others >>= λ vs. done (values v vs)

  abbrev pub tail_at : ValueReader Elements → Plain → ValueReader Elements
  tail_at others v = branch 93 (closed_behind v) (more_behind others v)

  tail_is : (others : ValueReader Elements) (v : Plain) (bytes : List ℕ) → tail_at others v bytes ≡ go_on ((goes_on_at >>= λ g. done (v, g)) bytes) (behind_at others)
  unfolding goes_on_at
  tail_is others v bytes = go (begins 93 bytes)
    where
      ends : (a : Answer ValueLimit (Unit {0})) → go_on a (λ _. done (values v no_values)) ≡ go_on (go_on (go_on a (λ _. done false)) (λ g. done (v, g))) (behind_at others)
      ends (answers (Ok unit) rest) = refl
      ends (answers (Err why) rest) = refl

      goes : (a : Answer ValueLimit (Unit {0})) → go_on a (λ _. others >>= λ vs. done (values v vs)) ≡ go_on (go_on (go_on a (λ _. done true)) (λ g. done (v, g))) (behind_at others)
      goes (answers (Ok unit) rest) = refl
      goes (answers (Err why) rest) = refl

      go : (t : Bool) → cond t (closed_behind v bytes) (more_behind others v bytes)
          ≡ go_on (go_on (cond t ((byte_at 93 >>= λ _. done false) bytes) ((byte_at 44 >>= λ _. done true) bytes)) (λ g. done (v, g))) (behind_at others)
      go true = ends (byte_at 93 bytes)
      go false = goes (byte_at 44 bytes)

  abbrev pub element_then : ValueReader Elements → Bool → ValueReader Elements
  element_then others is_first = space_at is_first >>= λ _. item >>= tail_at others

  pub element_is : (others : ValueReader Elements) (is_first : Bool) (bytes : List ℕ) → element_then others is_first bytes ≡ (element_at item is_first >>= behind_at others) bytes
  unfolding element_at
  element_is others is_first bytes = go (space_at is_first bytes)
    where
      value : (a : Answer ValueLimit Plain) → go_on a (tail_at others) ≡ go_on (go_on a (λ v. goes_on_at >>= λ g. done (v, g))) (behind_at others)
      value (answers (Ok v) rest) = tail_is others v rest
      value (answers (Err why) rest) = refl

      go : (a : Answer ValueLimit (Unit {0})) → go_on a (λ _. item >>= tail_at others)
          ≡ go_on (go_on a (λ _. item >>= λ v. goes_on_at >>= λ g. done (v, g))) (behind_at others)
      go (answers (Ok unit) rest) = value (item rest)
      go (answers (Err why) rest) = refl

  module _ (steady : Steady StartsWithNoDigit item) (start : Starts Anything StartsWithNoDigit item) where
    closes : (v : Plain) (rest : List ℕ) → closed_behind v (93 ∷ rest) ≡ answers (Ok (values v no_values)) rest
    closes v rest = then_byte 93 (done (values v no_values)) rest

    pub tail_starts : (others : ValueReader Elements) (v : Plain) → Starts StartsWithNoDigit Anything (tail_at others v)
    tail_starts others v = (
      93 ∷ [],
      values v no_values,
      λ rest fits. (
        no_digit_above 93 rest (omega arith),
        ap (λ t. cond t (closed_behind v (93 ∷ rest)) (more_behind others v (93 ∷ rest))) (begins_self 93 rest) ∙ closes v rest,
      ),
    )

    pub tail_steady : (others : ValueReader Elements) → Steady Anything others → (v : Plain) → Steady Anything (tail_at others v)
    tail_steady others others_steady v =
        steady_branch 93 (closed_behind v) (more_behind others v)
        (steady_behind 93 (done (values v no_values)) (steady_done Anything (values v no_values)) (done_starts Anything (values v no_values)))
        (half_byte 44 (others >>= λ vs. done (values v vs)) (steady_made others (values v) tt others_steady))
        (values v no_values, λ rest fits. closes v rest)

    pub space_steady : (is_first : Bool) → Steady Anything (space_at is_first)
    unfolding space_at
    space_steady true = steady_done Anything tt
    space_steady false = steady_byte 32

    element_steady : (others : ValueReader Elements) → Steady Anything others → (is_first : Bool) → Steady Anything (element_then others is_first)
    element_steady others others_steady is_first =
        steady_then (space_at is_first) (λ _. item >>= tail_at others) (λ x. Unit {0}) tt (space_steady is_first) (λ bytes rest x is. tt)
        (λ x p. steady_then item (tail_at others) (λ v. Unit {0}) tt steady (λ bytes rest v is. tt) (λ v q. tail_steady others others_steady v) (λ v q. tail_starts others v))
        (λ x p. starts_then Anything StartsWithNoDigit Anything item (tail_at others) start (tail_starts others start.1))

    pub elements_steady : (s : List ℕ) (room : ℕ) (is_first : Bool) → Steady Anything (elements_at item s room is_first)
    unfolding elements_at
    elements_steady s zero is_first bytes rest out quiet is = absurd (never_quiet limits.LongArray s rest out quiet is)
    elements_steady s (suc room) is_first bytes rest out quiet is =
        steady_as (element_is (elements_at item s room false) is_first) (element_steady (elements_at item s room false) (elements_steady s room false) is_first) bytes rest out quiet is

    -- ---- an array

    abbrev pub closed : ValueReader Plain
    closed = byte_at 93 >>= λ _. done (val.array no_values)

    abbrev pub others_from : List ℕ → ℕ → ValueReader Plain
    others_from s most = elements_at item s most true >>= λ vs. done (val.array vs)

    -- an array that is said to begin there
    abbrev pub array_from : List ℕ → ℕ → ValueReader Plain
    array_from s most = byte_at 91 >>= λ _. branch 93 closed (others_from s most)

    pub array_is : (most : ℕ) (bytes : List ℕ) → array_at item most bytes ≡ array_from bytes most bytes
    unfolding array_at
    array_is most bytes = refl

    pub same_arrays : (s t : List ℕ) (most : ℕ) → Agree (array_from s most) (array_from t most)
    same_arrays s t most =
        agree_behind (byte_at 91) (λ _. branch 93 closed (others_from s most)) (λ _. branch 93 closed (others_from t most))
        (λ x. agree_branch 93 closed (others_from s most) (others_from t most)
        (agree_then (elements_at item s most true) (elements_at item t most true) (λ vs. done (val.array vs)) (same_elements s t most true)))

    pub branch_starts : (other : ValueReader Plain) → Starts Anything Anything (branch 93 closed other)
    branch_starts other = (
      93 ∷ [],
      val.array no_values,
      λ rest fits. (
        tt,
        ap (λ t. cond t (closed (93 ∷ rest)) (other (93 ∷ rest))) (begins_self 93 rest) ∙ then_byte 93 (done (val.array no_values)) rest,
      ),
    )

    from_steady : (s : List ℕ) (most : ℕ) → Steady Anything (array_from s most)
    from_steady s most =
        steady_behind 91 (branch 93 closed (others_from s most))
        (steady_branch 93 closed (others_from s most)
        (steady_behind 93 (done (val.array no_values)) (steady_done Anything (val.array no_values)) (done_starts Anything (val.array no_values)))
        (half (steady_made (elements_at item s most true) (λ vs. val.array vs) tt (elements_steady s most true)))
        (val.array no_values, λ rest fits. then_byte 93 (done (val.array no_values)) rest))
        (branch_starts (others_from s most))

    array_steady : (most : ℕ) → Steady Anything (array_at item most)
    array_steady most bytes rest out quiet is =
        let one = from_steady bytes most bytes rest out quiet (sym (array_is most bytes) ∙ is) in
        record {
          taken = one.taken;
          is = one.is;
          local = λ other same.
              array_is most (one.taken ++ other) ∙ same_arrays bytes (one.taken ++ other) most (one.taken ++ other) other out quiet (one.local other same);
          ends = (
            one.ends.0,
            one.ends.1,
            λ end fits.
                let whole = one.taken ++ (one.ends.0 ++ end) in
                array_is most whole ∙ same_arrays bytes whole most whole end (Ok one.ends.1) tt (one.ends.2 end fits),
          );
        }

    -- ---- also where the form of an array is taken on

    pub told_quiet : (answer : Answer ValueLimit Plain) (form : Answer ValueLimit (Unit {0})) (rest : List ℕ) (out : Result Plain (Option ValueLimit)) → Quiet out
        → told answer form ≡ answers out rest → answer ≡ answers out rest
    told_quiet (answers (Ok v) left) form rest out quiet is = is
    told_quiet (answers (Err None) left) form rest out quiet is = is
    told_quiet (answers (Err (Some limits.LongArray)) left) form rest out quiet is = is
    told_quiet (answers (Err (Some limits.OutOfRange)) left) (answers (Ok unit) start) rest out quiet is = is
    told_quiet (answers (Err (Some limits.OutOfRange)) left) (answers (Err None) start) rest out quiet is = is
    told_quiet (answers (Err (Some limits.OutOfRange)) left) (answers (Err (Some limits.OutOfRange)) start) rest out quiet is = is
    told_quiet (answers (Err (Some limits.OutOfRange)) left) (answers (Err (Some limits.LongArray)) start) rest out quiet is =
        absurd (never_quiet limits.LongArray start rest out quiet is)

    pub quiet_told : (form : Answer ValueLimit (Unit {0})) (rest : List ℕ) (out : Result Plain (Option ValueLimit)) → Quiet out → told (answers out rest) form ≡ answers out rest
    quiet_told form rest (Ok v) quiet = refl
    quiet_told form rest (Err None) quiet = refl
    quiet_told form rest (Err (Some limit)) quiet = absurd quiet

    pub whole_array_steady : (form : ValueReader (Unit {0})) (most : ℕ) → Steady Anything (whole_array_at item form most)
    unfolding whole_array_at
    whole_array_steady form most bytes rest out quiet is =
        let one = array_steady most bytes rest out quiet (told_quiet (array_at item most bytes) (skim_array form most bytes) rest out quiet is) in
        record {
          taken = one.taken;
          is = one.is;
          local = λ other same.
              ap (λ a. told a (skim_array form most (one.taken ++ other))) (one.local other same) ∙ quiet_told (skim_array form most (one.taken ++ other)) other out quiet;
          ends = (
            one.ends.0,
            one.ends.1,
            λ end fits.
                let whole = one.taken ++ (one.ends.0 ++ end) in
                ap (λ a. told a (skim_array form most whole)) (one.ends.2 end fits),
          );
        }
