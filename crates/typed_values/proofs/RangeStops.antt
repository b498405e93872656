-- Where a number out of range is told: what was taken before it can be ended, and no text that goes on from the number is read.
use Rattle.std.proofs.Common.{◌≡◌, ℕ, ◌<◌, ◌≤◌, inl, inr, ◌++◌, List, [], ◌∷◌, length, Bool, true, false, cond, nat_lt, Option, Some, None, Result, Ok, Err, refl, sym, ap, ◌∙◌, subst, append_assoc, arith}
use Rattle.std.proofs.lemmas.Bool.Decides.{nat_tests}
use Rattle.std.proofs.lemmas.List.{append-nil}
use Rattle.byte_reading.specs.Decimal.{decimal_text, StartsWithNoDigit, StartsWithNumber}
use Rattle.byte_reading.proofs.DecimalLaws.{is_decimal-decimal_text}
use Rattle.text_reading.specs.Reading.{first, Answer, Answer.answers, done, go_on, ◌>>=◌}
use Rattle.text_reading.specs.Tokens.{is_digit}
use Rattle.text_reading.proofs.Readers.{Ends, Starts, first-append, done_starts}
use Rattle.typed_values.specs.Marks.{ValueReader, byte_at, below, number_at}
use Rattle.typed_values.specs.declared.fault.ValueLimit.{ValueLimit}
use Rattle.typed_values.specs.declared.fault.ValueLimit.TheVariants as limits
use Rattle.typed_values.proofs.FirstLine.{NoLimits, byte_no_limits, done_no_limits}
use Rattle.typed_values.proofs.Leading.{begins_number, number_sound, number_complete}
use Rattle.typed_values.proofs.LongerNumbers.{no_smaller}
use Rattle.typed_values.proofs.Numbers.{leading_number}
use Rattle.typed_values.proofs.ReadBoth.{both, byte_sound, then_byte}
use Rattle.typed_values.proofs.Steady.{Anything, Took, Steady, ends_first, ends_next, no_number}

-- no digit stands at the end
abbrev pub Apart : List ℕ → Type 0
Apart front = (before : List ℕ) (byte : ℕ) → front ≡ before ++ (byte ∷ []) → is_digit byte ≡ false

-- A number out of range stands behind what was taken, which stands behind what was read before.
pub record OutTook {A : Type 0} (follow : List ℕ → Type 0) (reader : ValueReader A) (front bytes rest : List ℕ) : Type 0 where
  pub taken : List ℕ
  pub number : ℕ
  pub behind : List ℕ
  pub is : bytes ≡ taken ++ rest
  pub is_number : StartsWithNumber rest number behind
  pub apart : Apart (front ++ taken)
  pub ends : Ends follow reader taken
  pub never : (other left : List ℕ) (x : A) → reader (taken ++ (decimal_text number ++ other)) ≡ answers (Ok x) left → ⊥

abbrev pub OutSteady : {A : Type 0} → (List ℕ → Type 0) → (List ℕ → Type 0) → ValueReader A → Type 0
OutSteady {A} Before follow reader = (front bytes rest : List ℕ) → Before front → reader bytes ≡ answers (Err (Some limits.OutOfRange)) rest → OutTook follow reader front bytes rest

pub out_none : {A : Type 0} (Before follow : List ℕ → Type 0) (reader : ValueReader A) → NoLimits reader → OutSteady Before follow reader
out_none Before follow reader none front bytes rest before is = absurd (none bytes rest limits.OutOfRange is)

-- less may follow, and less may stand before
pub out_before : {A : Type 0} {Before Earlier follow less : List ℕ → Type 0} {reader : ValueReader A} → ((front : List ℕ) → Earlier front → Before front) → ((rest : List ℕ) → less rest → follow rest)
    → OutSteady Before follow reader → OutSteady Earlier less reader
out_before earlier fewer steady front bytes rest before is =
    let one = steady front bytes rest (earlier front before) is in
    record {
      taken = one.taken;
      number = one.number;
      behind = one.behind;
      is = one.is;
      is_number = one.is_number;
      apart = one.apart;
      ends = (one.ends.0, one.ends.1, λ end fits. one.ends.2 end (fewer end fits));
      never = one.never;
    }

pub out_as : {A : Type 0} {Before follow : List ℕ → Type 0} {reader other : ValueReader A} → ((bytes : List ℕ) → reader bytes ≡ other bytes) → OutSteady Before follow reader → OutSteady Before follow other
out_as same steady front bytes rest before is =
    let one = steady front bytes rest before (same bytes ∙ is) in
    record {
      taken = one.taken;
      number = one.number;
      behind = one.behind;
      is = one.is;
      is_number = one.is_number;
      apart = one.apart;
      ends = (one.ends.0, one.ends.1, λ end fits. sym (same (one.taken ++ (one.ends.0 ++ end))) ∙ one.ends.2 end fits);
      never = λ more left x read. one.never more left x (same (one.taken ++ (decimal_text one.number ++ more)) ∙ read);
    }

-- whatever follows a number's text, it begins alike
pub number_first : (n : ℕ) (a b : List ℕ) → first (decimal_text n ++ a) ≡ first (decimal_text n ++ b)
number_first n a b = go (decimal_text n) (is_decimal-decimal_text n).digits.0
  where
    go : (text : List ℕ) → 0 < length text → first (text ++ a) ≡ first (text ++ b)
    go [] some = absurd (omega arith)
    go (d ∷ ds) some = refl

-- ---- one reader and then the next

module _ {A B : Type 0} {Before Mid behind follow : List ℕ → Type 0} (reader : ValueReader A) (next : A → ValueReader B) (P : A → Type 0) (at_end : behind [])
    (steady : Steady behind reader) (gives : (bytes rest : List ℕ) (x : A) → reader bytes ≡ answers (Ok x) rest → P x)
    (nexts : (x : A) → P x → Steady follow (next x)) (starts : (x : A) → P x → Starts behind follow (next x))
    (out : OutSteady Before behind reader) (outs : (x : A) → P x → OutSteady Mid follow (next x))
    (leads : (front bytes mid taken : List ℕ) (x : A) → Before front → reader bytes ≡ answers (Ok x) mid → bytes ≡ taken ++ mid → Mid (front ++ taken)) where
  out_stopped : (front bytes rest : List ℕ) → OutTook behind reader front bytes rest → OutTook follow (reader >>= next) front bytes rest
  out_stopped front bytes rest one = record {
    taken = one.taken;
    number = one.number;
    behind = one.behind;
    is = one.is;
    is_number = one.is_number;
    apart = one.apart;
    ends = ends_first reader next P at_end steady gives nexts starts one.taken one.ends;
    never = λ other left y read.
        let parts = both reader next (one.taken ++ (decimal_text one.number ++ other)) left y read in
        one.never other parts.1 parts.0 parts.2;
  }

  out_went_on : (x : A) (front bytes mid rest : List ℕ) (one : Took behind reader bytes mid (Ok x)) → OutTook follow (next x) (front ++ one.taken) mid rest
      → OutTook follow (reader >>= next) front bytes rest
  out_went_on x front bytes mid rest one two = record {
    taken = one.taken ++ two.taken;
    number = two.number;
    behind = two.behind;
    is = one.is ∙ ap (λ (t : List ℕ). one.taken ++ t) two.is ∙ sym (append_assoc one.taken two.taken rest);
    is_number = two.is_number;
    apart = subst Apart (append_assoc front one.taken two.taken) two.apart;
    ends = ends_next reader next P at_end steady gives nexts starts x bytes mid rest two.taken one two.is two.ends;
    never = λ other left y read.
        let tail = two.taken ++ (decimal_text two.number ++ other) in
        let same : first mid ≡ first tail =
        ap first (two.is ∙ ap (λ (t : List ℕ). two.taken ++ t) two.is_number.text_is)
        ∙ first-append two.taken (decimal_text two.number ++ two.behind) (decimal_text two.number ++ other) (number_first two.number two.behind other)
        in
        let here : (reader >>= next) (one.taken ++ tail) ≡ answers (Ok y) left =
        ap (reader >>= next) (sym (append_assoc one.taken two.taken (decimal_text two.number ++ other))) ∙ read
        in
        let went : (reader >>= next) (one.taken ++ tail) ≡ next x tail = ap (λ a. go_on a next) (one.local tail same) in
        two.never other left y (sym went ∙ here);
  }

  pub out_then : OutSteady Before follow (reader >>= next)
  out_then front bytes rest before is = go (reader bytes) refl is
    where
      go : (answer : Answer ValueLimit A) → reader bytes ≡ answer → go_on answer next ≡ answers (Err (Some limits.OutOfRange)) rest → OutTook follow (reader >>= next) front bytes rest
      go (answers (Err None) left) was is = let never : ⊥ = cc in absurd never
      go (answers (Err (Some limits.LongArray)) left) was is = let never : ⊥ = cc in absurd never
      go (answers (Err (Some limits.OutOfRange)) left) was is =
          let left_is : left ≡ rest = cc in
          out_stopped front bytes rest (out front bytes rest before (was ∙ ap (λ (t : List ℕ). answers (Err (Some limits.OutOfRange)) t) left_is))
      go (answers (Ok x) left) was is =
          let one = steady bytes left (Ok x) tt was in
          out_went_on x front bytes left rest one (outs x (gives bytes left x was) (front ++ one.taken) left rest (leads front bytes left one.taken x before was one.is) is)

-- ---- what leads where

pub anywhere : {A : Type 0} (Before : List ℕ → Type 0) (reader : ValueReader A) (front bytes mid taken : List ℕ) (x : A) → Before front → reader bytes ≡ answers (Ok x) mid → bytes ≡ taken ++ mid → Anything (front ++ taken)
anywhere Before reader front bytes mid taken x before is parts = tt

pub same_last : (a b : List ℕ) (x y : ℕ) → a ++ (x ∷ []) ≡ b ++ (y ∷ []) → x ≡ y
same_last [] [] x y same = cc
same_last [] (c ∷ []) x y same = absurd cc
same_last [] (c ∷ d ∷ b) x y same = absurd cc
same_last (c ∷ []) [] x y same = absurd cc
same_last (c ∷ d ∷ a) [] x y same = absurd cc
same_last (c ∷ a) (d ∷ b) x y same = let tails : a ++ (x ∷ []) ≡ b ++ (y ∷ []) = cc in same_last a b x y tails

pub last_apart : (front : List ℕ) (byte : ℕ) → is_digit byte ≡ false → Apart (front ++ (byte ∷ []))
last_apart front byte other before last same = ap is_digit (sym (same_last front before byte last same)) ∙ other

-- a byte that is no digit, and then the next reader
pub out_byte : {A : Type 0} {follow : List ℕ → Type 0} (wanted : ℕ) → is_digit wanted ≡ false → (next : ValueReader A) → OutSteady Apart follow next → OutSteady Anything follow (byte_at wanted >>= λ _. next)
out_byte {A} {follow} wanted other next out front bytes rest before is = go (byte_at wanted bytes) refl is
  where
    go : (answer : Answer ValueLimit (Unit {0})) → byte_at wanted bytes ≡ answer → go_on answer (λ _. next) ≡ answers (Err (Some limits.OutOfRange)) rest
        → OutTook follow (byte_at wanted >>= λ _. next) front bytes rest
    go (answers (Err None) left) was is = let never : ⊥ = cc in absurd never
    go (answers (Err (Some limit)) left) was is = absurd (byte_no_limits wanted bytes left limit was)
    go (answers (Ok unit) mid) was is =
        let one = out (front ++ (wanted ∷ [])) mid rest (last_apart front wanted other) is in
        record {
          taken = wanted ∷ one.taken;
          number = one.number;
          behind = one.behind;
          is = byte_sound wanted bytes mid unit was ∙ ap (λ (t : List ℕ). wanted ∷ t) one.is;
          is_number = one.is_number;
          apart = subst Apart (append_assoc front (wanted ∷ []) one.taken) one.apart;
          ends = (one.ends.0, one.ends.1, λ end fits. then_byte wanted next (one.taken ++ (one.ends.0 ++ end)) ∙ one.ends.2 end fits);
          never = λ more left x read. one.never more left x (sym (then_byte wanted next (one.taken ++ (decimal_text one.number ++ more))) ∙ read);
        }

-- what is made of a reader's answer
pub out_made : {A B : Type 0} {Before follow : List ℕ → Type 0} (reader : ValueReader A) (make : A → B) → follow [] → Steady follow reader → OutSteady Before follow reader
    → OutSteady Before follow (reader >>= λ x. done (make x))
out_made {A} {B} {Before} {follow} reader make at_end steady out =
    out_then {Before = Before} {Mid = Anything} reader (λ x. done (make x)) (λ x. Unit {0}) at_end steady (λ bytes rest x is. tt) (λ x p. made x) (λ x p. done_starts follow (make x))
    out (λ x p. out_none Anything follow (done (make x)) (done_no_limits (make x))) (anywhere Before reader)
  where
    made : (x : A) → Steady follow (done {K = ValueLimit} (make x))
    made x bytes rest o quiet is =
        let out_is : Ok (make x) ≡ o = cc in
        let rest_is : bytes ≡ rest = cc in
        record { taken = []; is = rest_is; local = λ other same. ap (λ (b : Result B (Option ValueLimit)). answers b other) out_is; ends = ([], make x, λ end fits. refl) }

-- ---- a number

pub out_number : (limit : ℕ) → 0 < limit → OutSteady Apart StartsWithNoDigit (number_at limit)
unfolding number_at
out_number limit some front bytes rest before is = elim (begins_number bytes) [
  | inl free ↦
      let here : number_at limit bytes ≡ answers (Err None) bytes = no_number limit bytes free in
      let never : ⊥ = cc in absurd never
  | inr found ↦ of_test found.0 found.1 found.2 (nat_lt found.0 limit) refl (test_is found.0 found.1 found.2)
]
  where
    test_is : (n : ℕ) (tail : List ℕ) → StartsWithNumber bytes n tail → number_at limit bytes ≡ cond (nat_lt n limit) (answers (Ok n) tail) (answers (Err (Some limits.OutOfRange)) bytes)
    test_is n tail starts = ap (λ o. below limit o bytes) (leading_number bytes n tail starts)

    above : (n : ℕ) → nat_lt n limit ≡ false → limit ≤ n
    above n test = grind (arith, nat_tests)

    of_test : (n : ℕ) (tail : List ℕ) → StartsWithNumber bytes n tail → (t : Bool) → nat_lt n limit ≡ t
        → number_at limit bytes ≡ cond (nat_lt n limit) (answers (Ok n) tail) (answers (Err (Some limits.OutOfRange)) bytes) → OutTook StartsWithNoDigit (number_at limit) front bytes rest
    of_test n tail starts true test read =
        let here : answers (Ok n) tail ≡ answers (Err (Some limits.OutOfRange)) rest = sym (read ∙ ap (λ t. cond t (answers (Ok n) tail) (answers (Err (Some limits.OutOfRange)) bytes)) test) ∙ is in
        let never : ⊥ = cc in absurd never
    of_test n tail starts false test read =
        let here : answers (Err (Some limits.OutOfRange)) bytes ≡ answers (Err (Some limits.OutOfRange)) rest = sym (read ∙ ap (λ t. cond t (answers (Ok n) tail) (answers (Err (Some limits.OutOfRange)) bytes)) test) ∙ is in
        let rest_is : bytes ≡ rest = cc in
        record {
          taken = [];
          number = n;
          behind = tail;
          is = rest_is;
          is_number = subst (λ (t : List ℕ). StartsWithNumber t n tail) rest_is starts;
          apart = subst Apart (sym (append-nil front)) before;
          ends = (decimal_text 0, 0, λ end free. number_complete limit 0 (decimal_text 0 ++ end) end some (record { text_is = refl; longest = inr free }));
          never = λ other left x got.
              let sound = number_sound limit x (decimal_text n ++ other) left got in
              let no_less = no_smaller n x other left sound.1 in
              let from = above n test in
              omega (arith, no_less, from, sound.0);
        }
