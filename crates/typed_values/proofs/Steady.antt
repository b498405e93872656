-- Readers of values: what they answer, but for a limit, depends on no byte after the next one, and what they took can be ended.
use Rattle.std.proofs.Common.{◌≡◌, ℕ, ◌<◌, List, [], ◌∷◌, ◌++◌, ◌⊎◌, inl, inr, Bool, true, false, cond, ◌==◌, nat_lt, Option, None, Some, Result, Ok, Err, refl, sym, ◌∙◌, ap, subst, append_assoc}
use Rattle.std.proofs.lemmas.List.{append-nil}
use Rattle.std.specs.Char.{IsAsciiDigit}
use Rattle.byte_reading.specs.Decimal.{decimal_text, StartsWithNoDigit}
use Rattle.text_reading.specs.Reading.{first, Answer, Answer.answers, done, go_on, ◌>>=◌, begins, branch}
use Rattle.text_reading.proofs.Readers.{Ends, Starts, first-append, then_next, then_stops, begins-first, done_starts}
use Rattle.typed_values.specs.Marks.{ValueReader, byte_at, below, number_at}
use Rattle.typed_values.specs.declared.fault.ValueLimit.{ValueLimit}
use Rattle.typed_values.specs.declared.fault.ValueLimit.TheVariants as limits
use Rattle.typed_values.proofs.Leading.{begins_number, number_sound, number_complete}
use Rattle.typed_values.proofs.Numbers.{leading_none, leading_number}
use Rattle.typed_values.proofs.ReadBoth.{byte_complete, begins_self}

-- whatever follows
abbrev pub Anything : List ℕ → Type 0
Anything rest = Unit {0}

-- an answer that is no limit's
abbrev pub Quiet : {A : Type 0} → Result A (Option ValueLimit) → Type 0
Quiet (Ok x) = Unit {0}
Quiet (Err None) = Unit {0}
Quiet (Err (Some limit)) = ⊥

-- The bytes that were taken, with which the answer is the same whatever follows the next byte; and they can be ended.
pub record Took {A : Type 0} (follow : List ℕ → Type 0) (reader : ValueReader A) (bytes rest : List ℕ) (out : Result A (Option ValueLimit)) : Type 0 where
  pub taken : List ℕ
  pub is : bytes ≡ taken ++ rest
  pub local : (other : List ℕ) → first rest ≡ first other → reader (taken ++ other) ≡ answers out other
  pub ends : Ends follow reader taken

abbrev pub Steady : {A : Type 0} → (List ℕ → Type 0) → ValueReader A → Type 0
Steady {A} follow reader = (bytes rest : List ℕ) (out : Result A (Option ValueLimit)) → Quiet out → reader bytes ≡ answers out rest → Took follow reader bytes rest out

-- the same where something was taken
pub record HalfTook {A : Type 0} (follow : List ℕ → Type 0) (reader : ValueReader A) (bytes rest : List ℕ) (out : Result A (Option ValueLimit)) : Type 0 where
  pub taken : List ℕ
  pub is : bytes ≡ taken ++ rest
  pub local : (other : List ℕ) → first rest ≡ first other → reader (taken ++ other) ≡ answers out other
  pub ends : (byte : ℕ) (more : List ℕ) → taken ≡ byte ∷ more → Ends follow reader taken

abbrev pub HalfSteady : {A : Type 0} → (List ℕ → Type 0) → ValueReader A → Type 0
HalfSteady {A} follow reader = (bytes rest : List ℕ) (out : Result A (Option ValueLimit)) → Quiet out → reader bytes ≡ answers out rest → HalfTook follow reader bytes rest out

pub half : {A : Type 0} {follow : List ℕ → Type 0} {reader : ValueReader A} → Steady follow reader → HalfSteady follow reader
half steady bytes rest out quiet is =
    let one = steady bytes rest out quiet is in
    record { taken = one.taken; is = one.is; local = one.local; ends = λ byte more taken_is. one.ends }

-- less may follow
pub steady_before : {A : Type 0} {follow less : List ℕ → Type 0} {reader : ValueReader A} → ((rest : List ℕ) → less rest → follow rest) → Steady follow reader → Steady less reader
steady_before fewer steady bytes rest out quiet is =
    let one = steady bytes rest out quiet is in
    record { taken = one.taken; is = one.is; local = one.local; ends = (one.ends.0, one.ends.1, λ end fits. one.ends.2 end (fewer end fits)) }

-- a reader that answers the same
pub steady_as : {A : Type 0} {follow : List ℕ → Type 0} {reader other : ValueReader A} → ((bytes : List ℕ) → reader bytes ≡ other bytes) → Steady follow reader → Steady follow other
steady_as same steady bytes rest out quiet is =
    let one = steady bytes rest out quiet (same bytes ∙ is) in
    record {
      taken = one.taken;
      is = one.is;
      local = λ more next. sym (same (one.taken ++ more)) ∙ one.local more next;
      ends = (one.ends.0, one.ends.1, λ end fits. sym (same (one.taken ++ (one.ends.0 ++ end))) ∙ one.ends.2 end fits);
    }

-- ---- one reader and then the next, which goes on from what the first one gives

module _ {A B : Type 0} {behind follow : List ℕ → Type 0} (reader : ValueReader A) (next : A → ValueReader B) (P : A → Type 0) (at_end : behind [])
    (steady : Steady behind reader) (gives : (bytes rest : List ℕ) (x : A) → reader bytes ≡ answers (Ok x) rest → P x)
    (nexts : (x : A) → P x → Steady follow (next x)) (starts : (x : A) → P x → Starts behind follow (next x)) where
  pub ends_first : (taken : List ℕ) → Ends behind reader taken → Ends follow (reader >>= next) taken
  ends_first taken ends =
      let given = gives (taken ++ (ends.0 ++ [])) [] ends.1 (ends.2 [] at_end) in
      let start = starts ends.1 given in (
        ends.0 ++ start.0,
        start.1,
        λ rest fits.
            let go = start.2 rest fits in
            let whole : taken ++ ((ends.0 ++ start.0) ++ rest) ≡ taken ++ (ends.0 ++ (start.0 ++ rest)) = ap (λ (t : List ℕ). taken ++ t) (append_assoc ends.0 start.0 rest) in
            ap (reader >>= next) whole
            ∙ then_next reader next (taken ++ (ends.0 ++ (start.0 ++ rest))) (start.0 ++ rest) ends.1 (answers (Ok start.1) rest) (ends.2 (start.0 ++ rest) go.0) go.1,
      )

  pub ends_next : (x : A) (bytes mid rest after : List ℕ) (one : Took behind reader bytes mid (Ok x)) → mid ≡ after ++ rest → Ends follow (next x) after
      → Ends follow (reader >>= next) (one.taken ++ after)
  ends_next x bytes mid rest [] one mid_is ends = subst (λ (t : List ℕ). Ends follow (reader >>= next) t) (sym (append-nil one.taken)) (ends_first one.taken one.ends)
  ends_next x bytes mid rest (byte ∷ after) one mid_is ends = (
    ends.0,
    ends.1,
    λ end fits.
        ap (reader >>= next) (append_assoc one.taken (byte ∷ after) (ends.0 ++ end))
        ∙ then_next reader next (one.taken ++ ((byte ∷ after) ++ (ends.0 ++ end))) ((byte ∷ after) ++ (ends.0 ++ end)) x (answers (Ok ends.1) end)
        (one.local ((byte ∷ after) ++ (ends.0 ++ end)) (ap first mid_is)) (ends.2 end fits),
  )

  went_on : (x : A) (bytes mid rest : List ℕ) (out : Result B (Option ValueLimit)) → Took behind reader bytes mid (Ok x) → Took follow (next x) mid rest out
      → Took follow (reader >>= next) bytes rest out
  went_on x bytes mid rest out one two = record {
    taken = one.taken ++ two.taken;
    is = one.is ∙ ap (λ (t : List ℕ). one.taken ++ t) two.is ∙ sym (append_assoc one.taken two.taken rest);
    local = λ other same.
        ap (reader >>= next) (append_assoc one.taken two.taken other)
        ∙ then_next reader next (one.taken ++ (two.taken ++ other)) (two.taken ++ other) x (answers out other)
        (one.local (two.taken ++ other) (ap first two.is ∙ first-append two.taken rest other same)) (two.local other same);
    ends = ends_next x bytes mid rest two.taken one two.is two.ends;
  }

  stopped : (bytes rest : List ℕ) → Took behind reader bytes rest (Err None) → Took follow (reader >>= next) bytes rest (Err None)
  stopped bytes rest one = record {
    taken = one.taken;
    is = one.is;
    local = λ other same. then_stops reader next (one.taken ++ other) other None (one.local other same);
    ends = ends_first one.taken one.ends;
  }

  pub steady_then : Steady follow (reader >>= next)
  steady_then bytes rest out quiet is = go (reader bytes) refl is
    where
      moved : (left : List ℕ) → Took follow (reader >>= next) bytes left (Err None) → left ≡ rest → Err None ≡ out → Took follow (reader >>= next) bytes rest out
      moved left one left_is out_is = subst (λ o. Took follow (reader >>= next) bytes rest o) out_is (subst (λ (t : List ℕ). Took follow (reader >>= next) bytes t (Err None)) left_is one)

      never : (limit : ValueLimit) → Err (Some limit) ≡ out → ⊥
      never limit out_is = subst Quiet (sym out_is) quiet

      go : (answer : Answer ValueLimit A) → reader bytes ≡ answer → go_on answer next ≡ answers out rest → Took follow (reader >>= next) bytes rest out
      go (answers (Err None) left) was is =
          let left_is : left ≡ rest = cc in
          let out_is : Err None ≡ out = cc in
          moved left (stopped bytes left (steady bytes left (Err None) tt was)) left_is out_is
      go (answers (Err (Some limit)) left) was is = let out_is : Err (Some limit) ≡ out = cc in absurd (never limit out_is)
      go (answers (Ok x) left) was is =
          went_on x bytes left rest out (steady bytes left (Ok x) tt was) (nexts x (gives bytes left x was) left rest out quiet is)

-- ---- starts

pub starts_then : {A B : Type 0} (outer behind follow : List ℕ → Type 0) (reader : ValueReader A) (next : A → ValueReader B) (start : Starts outer behind reader)
    → Starts behind follow (next start.1) → Starts outer follow (reader >>= next)
starts_then outer behind follow reader next start then = (
  start.0 ++ then.0,
  then.1,
  λ rest fits.
      let back = then.2 rest fits in
      let front = start.2 (then.0 ++ rest) back.0 in
      let whole = append_assoc start.0 then.0 rest in (
        subst outer (sym whole) front.0,
        ap (reader >>= next) whole ∙ then_next reader next (start.0 ++ (then.0 ++ rest)) (then.0 ++ rest) start.1 (answers (Ok then.1) rest) front.1 back.1,
      ),
)

pub starts_byte : (outer : List ℕ → Type 0) (wanted : ℕ) → ((rest : List ℕ) → outer (wanted ∷ rest)) → Starts outer Anything (byte_at wanted)
starts_byte outer wanted may = (wanted ∷ [], tt, λ rest fits. (may rest, byte_complete wanted rest))

-- ---- single readers

pub steady_done : {A : Type 0} (follow : List ℕ → Type 0) (x : A) → Steady follow (done {K = ValueLimit} x)
steady_done {A} follow x bytes rest out quiet is =
    let out_is : Ok x ≡ out = cc in
    let rest_is : bytes ≡ rest = cc in
    record {
      taken = [];
      is = rest_is;
      local = λ other same. ap (λ o. answers o other) out_is;
      ends = ([], x, λ end fits. refl);
    }

nothing_follows : (other : List ℕ) → first [] ≡ first other → other ≡ []
nothing_follows [] same = refl
nothing_follows (byte ∷ other) same = absurd cc

byte_read : (wanted byte : ℕ) (rest : List ℕ) → (byte == wanted) ≡ true → byte_at wanted (byte ∷ rest) ≡ answers (Ok tt) rest
unfolding byte_at
byte_read wanted byte rest test = ap (λ t. cond t (answers (Ok tt) rest) (answers (Err None) (byte ∷ rest))) test

byte_stop : (wanted byte : ℕ) (rest : List ℕ) → (byte == wanted) ≡ false → byte_at wanted (byte ∷ rest) ≡ answers (Err None) (byte ∷ rest)
unfolding byte_at
byte_stop wanted byte rest test = ap (λ t. cond t (answers (Ok tt) rest) (answers (Err None) (byte ∷ rest))) test

byte_end : (wanted : ℕ) → byte_at wanted [] ≡ answers (Err None) []
unfolding byte_at
byte_end wanted = refl

took_as : {A : Type 0} {follow : List ℕ → Type 0} {reader : ValueReader A} (bytes left rest : List ℕ) (one out : Result A (Option ValueLimit))
    → answers one left ≡ answers out rest → Took follow reader bytes left one → Took follow reader bytes rest out
took_as {A} {follow} {reader} bytes left rest one out same took =
    let out_is : one ≡ out = cc in
    let rest_is : left ≡ rest = cc in
    subst (λ o. Took follow reader bytes rest o) out_is (subst (λ (t : List ℕ). Took follow reader bytes t one) rest_is took)

pub steady_byte : (wanted : ℕ) → Steady Anything (byte_at wanted)
steady_byte wanted [] rest out quiet is =
    took_as [] [] rest (Err None) out (sym (byte_end wanted) ∙ is) (record {
      taken = [];
      is = refl;
      local = λ other same. ap (byte_at wanted) (nothing_follows other same) ∙ byte_end wanted ∙ ap (λ (t : List ℕ). answers (Err None) t) (sym (nothing_follows other same));
      ends = (wanted ∷ [], tt, λ end fits. byte_complete wanted end);
    })
steady_byte wanted (byte ∷ more) rest out quiet is = go (byte == wanted) refl
  where
    stops : (byte == wanted) ≡ false → (other : List ℕ) → first (byte ∷ more) ≡ first other → byte_at wanted other ≡ answers (Err None) other
    stops test [] same = absurd cc
    stops test (c ∷ other) same =
        let one : byte ≡ c = cc in
        subst (λ (d : ℕ). byte_at wanted (d ∷ other) ≡ answers (Err None) (d ∷ other)) one (byte_stop wanted byte other test)

    go : (t : Bool) → (byte == wanted) ≡ t → Took Anything (byte_at wanted) (byte ∷ more) rest out
    go true test = took_as (byte ∷ more) more rest (Ok tt) out (sym (byte_read wanted byte more test) ∙ is) (record {
      taken = byte ∷ [];
      is = refl;
      local = λ other same. byte_read wanted byte other test;
      ends = ([], tt, λ end fits. byte_read wanted byte end test);
    })
    go false test = took_as (byte ∷ more) (byte ∷ more) rest (Err None) out (sym (byte_stop wanted byte more test) ∙ is) (record {
      taken = [];
      is = refl;
      local = stops test;
      ends = (wanted ∷ [], tt, λ end fits. byte_complete wanted end);
    })

-- ---- a number

pub no_digit_too : (rest other : List ℕ) → first rest ≡ first other → StartsWithNoDigit rest → StartsWithNoDigit other
no_digit_too rest [] same free = tt
no_digit_too [] (c ∷ other) same free = absurd cc
no_digit_too (b ∷ rest) (c ∷ other) same free = let one : c ≡ b = cc in λ is. free (subst IsAsciiDigit one is)

pub longest_too : (n : ℕ) (rest other : List ℕ) → first rest ≡ first other → (n ≡ 0) ⊎ StartsWithNoDigit rest → (n ≡ 0) ⊎ StartsWithNoDigit other
longest_too n rest other same (inl zero) = inl zero
longest_too n rest other same (inr free) = inr (no_digit_too rest other same free)

pub no_number : (limit : ℕ) (bytes : List ℕ) → StartsWithNoDigit bytes → number_at limit bytes ≡ answers (Err None) bytes
unfolding number_at
no_number limit bytes free = ap (λ o. below limit o bytes) (leading_none bytes free)

pub number_syntax : (limit : ℕ) (bytes rest : List ℕ) → number_at limit bytes ≡ answers (Err None) rest → (bytes ≡ rest) × StartsWithNoDigit bytes
unfolding number_at
number_syntax limit bytes rest is = elim (begins_number bytes) [
  | inl free ↦ let here : number_at limit bytes ≡ answers (Err None) bytes = no_number limit bytes free in (let left : bytes ≡ rest = cc in left, free)
  | inr some ↦ absurd (tested some.0 some.1 (nat_lt some.0 limit) (ap (λ o. below limit o bytes) (sym (leading_number bytes some.0 some.1 some.2)) ∙ is))
]
  where
    tested : (n : ℕ) (tail : List ℕ) (t : Bool) → cond t (answers (Ok n) tail) (answers (Err (Some limits.OutOfRange)) bytes) ≡ answers (Err None) rest → ⊥
    tested n tail true is = cc
    tested n tail false is = cc

pub steady_number : (limit : ℕ) → 0 < limit → Steady StartsWithNoDigit (number_at limit)
steady_number limit some bytes rest (Ok n) quiet is =
    let found = number_sound limit n bytes rest is in
    record {
      taken = decimal_text n;
      is = found.1.text_is;
      local = λ other same. number_complete limit n (decimal_text n ++ other) other found.0 (record { text_is = refl; longest = longest_too n rest other same found.1.longest });
      ends = ([], n, λ end free. number_complete limit n (decimal_text n ++ end) end found.0 (record { text_is = refl; longest = inr free }));
    }
steady_number limit some bytes rest (Err None) quiet is =
    let found = number_syntax limit bytes rest is in
    let here : StartsWithNoDigit rest = subst StartsWithNoDigit found.0 found.1 in
    record {
      taken = [];
      is = found.0;
      local = λ other same. no_number limit other (no_digit_too rest other same here);
      ends = (decimal_text 0, 0, λ end free. number_complete limit 0 (decimal_text 0 ++ end) end some (record { text_is = refl; longest = inr free }));
    }
steady_number limit some bytes rest (Err (Some kind)) quiet is = absurd quiet

-- ---- a choice by the next byte

module _ {A : Type 0} {follow : List ℕ → Type 0} (byte : ℕ) (reader other : ValueReader A) (steady : Steady follow reader) (others : HalfSteady follow other)
    (opens : (x : A) × ((rest : List ℕ) → follow rest → reader (byte ∷ rest) ≡ answers (Ok x) rest)) where
  by_first : (bytes : List ℕ) → begins byte bytes ≡ true → branch byte reader other bytes ≡ reader bytes
  by_first bytes test = ap (λ t. cond t (reader bytes) (other bytes)) test

  by_other : (bytes : List ℕ) → begins byte bytes ≡ false → branch byte reader other bytes ≡ other bytes
  by_other bytes test = ap (λ t. cond t (reader bytes) (other bytes)) test

  ends_empty : Ends follow (branch byte reader other) []
  ends_empty = (byte ∷ [], opens.0, λ end fits. by_first (byte ∷ end) (begins_self byte end) ∙ opens.1 end fits)

  -- what was taken begins as the bytes do
  begins_so : (bytes taken rest more : List ℕ) (t : Bool) → bytes ≡ taken ++ rest → first (taken ++ rest) ≡ first (taken ++ more) → begins byte bytes ≡ t → begins byte (taken ++ more) ≡ t
  begins_so bytes taken rest more t is same test = sym (begins-first byte (taken ++ rest) (taken ++ more) same) ∙ ap (begins byte) (sym is) ∙ test

  ends_reader : (bytes taken rest : List ℕ) → bytes ≡ taken ++ rest → begins byte bytes ≡ true → Ends follow reader taken → Ends follow (branch byte reader other) taken
  ends_reader bytes [] rest is test ends = ends_empty
  ends_reader bytes (b ∷ taken) rest is test ends =
      (ends.0, ends.1, λ end fits. by_first (b ∷ (taken ++ (ends.0 ++ end))) (begins_so bytes (b ∷ taken) rest (ends.0 ++ end) true is refl test) ∙ ends.2 end fits)

  ends_other : (bytes taken rest : List ℕ) → bytes ≡ taken ++ rest → begins byte bytes ≡ false → ((b : ℕ) (more : List ℕ) → taken ≡ b ∷ more → Ends follow other taken)
      → Ends follow (branch byte reader other) taken
  ends_other bytes [] rest is test ends = ends_empty
  ends_other bytes (b ∷ taken) rest is test ends =
      let end = ends b taken refl in
      (end.0, end.1, λ after fits. by_other (b ∷ (taken ++ (end.0 ++ after))) (begins_so bytes (b ∷ taken) rest (end.0 ++ after) false is refl test) ∙ end.2 after fits)

  pub steady_branch : Steady follow (branch byte reader other)
  steady_branch bytes rest out quiet is = go (begins byte bytes) refl
    where
      go : (t : Bool) → begins byte bytes ≡ t → Took follow (branch byte reader other) bytes rest out
      go true test =
          let one = steady bytes rest out quiet (sym (by_first bytes test) ∙ is) in
          record {
            taken = one.taken;
            is = one.is;
            local = λ more same.
                by_first (one.taken ++ more) (begins_so bytes one.taken rest more true one.is (first-append one.taken rest more same) test) ∙ one.local more same;
            ends = ends_reader bytes one.taken rest one.is test one.ends;
          }
      go false test =
          let one = others bytes rest out quiet (sym (by_other bytes test) ∙ is) in
          record {
            taken = one.taken;
            is = one.is;
            local = λ more same.
                by_other (one.taken ++ more) (begins_so bytes one.taken rest more false one.is (first-append one.taken rest more same) test) ∙ one.local more same;
            ends = ends_other bytes one.taken rest one.is test one.ends;
          }

-- ---- a byte first

half_as : {A : Type 0} {follow : List ℕ → Type 0} {reader : ValueReader A} (bytes left rest : List ℕ) (one out : Result A (Option ValueLimit))
    → answers one left ≡ answers out rest → HalfTook follow reader bytes left one → HalfTook follow reader bytes rest out
half_as {A} {follow} {reader} bytes left rest one out same took =
    let out_is : one ≡ out = cc in
    let rest_is : left ≡ rest = cc in
    subst (λ o. HalfTook follow reader bytes rest o) out_is (subst (λ (t : List ℕ). HalfTook follow reader bytes t one) rest_is took)

no_byte : (byte : ℕ) (more : List ℕ) → [] ≡ byte ∷ more → ⊥
no_byte byte more is = cc

module _ {A : Type 0} {follow : List ℕ → Type 0} (wanted : ℕ) (next : ValueReader A) (steady : Steady follow next) where
  abbrev joined : ValueReader A
  joined = byte_at wanted >>= λ _. next

  goes_on : (byte : ℕ) (rest : List ℕ) → (byte == wanted) ≡ true → joined (byte ∷ rest) ≡ next rest
  goes_on byte rest test = ap (λ a. go_on a (λ _. next)) (byte_read wanted byte rest test)

  stops : (byte : ℕ) (rest : List ℕ) → (byte == wanted) ≡ false → joined (byte ∷ rest) ≡ answers (Err None) (byte ∷ rest)
  stops byte rest test = ap (λ a. go_on a (λ _. next)) (byte_stop wanted byte rest test)

  at_end : joined [] ≡ answers (Err None) []
  at_end = ap (λ a. go_on a (λ _. next)) (byte_end wanted)

  stops_too : (byte : ℕ) (more : List ℕ) → (byte == wanted) ≡ false → (other : List ℕ) → first (byte ∷ more) ≡ first other → joined other ≡ answers (Err None) other
  stops_too byte more test [] same = absurd cc
  stops_too byte more test (c ∷ other) same =
      let one : byte ≡ c = cc in
      subst (λ (d : ℕ). joined (d ∷ other) ≡ answers (Err None) (d ∷ other)) one (stops byte other test)

  -- where the next reader may not start, at least what was taken behind the byte can be ended
  pub half_byte : HalfSteady follow joined
  half_byte [] rest out quiet is =
      half_as [] [] rest (Err None) out (sym at_end ∙ is) (record {
        taken = [];
        is = refl;
        local = λ other same. ap joined (nothing_follows other same) ∙ at_end ∙ ap (λ (t : List ℕ). answers (Err None) t) (sym (nothing_follows other same));
        ends = λ byte more taken_is. absurd (no_byte byte more taken_is);
      })
  half_byte (b ∷ bytes) rest out quiet is = go (b == wanted) refl
    where
      go : (t : Bool) → (b == wanted) ≡ t → HalfTook follow joined (b ∷ bytes) rest out
      go true test =
          let one = steady bytes rest out quiet (sym (goes_on b bytes test) ∙ is) in
          record {
            taken = b ∷ one.taken;
            is = ap (λ (t : List ℕ). b ∷ t) one.is;
            local = λ other same. goes_on b (one.taken ++ other) test ∙ one.local other same;
            ends = λ byte more taken_is. (one.ends.0, one.ends.1, λ end fits. goes_on b (one.taken ++ (one.ends.0 ++ end)) test ∙ one.ends.2 end fits);
          }
      go false test = half_as (b ∷ bytes) (b ∷ bytes) rest (Err None) out (sym (stops b bytes test) ∙ is) (record {
        taken = [];
        is = refl;
        local = stops_too b bytes test;
        ends = λ byte more taken_is. absurd (no_byte byte more taken_is);
      })

-- ---- ways to join

pub steady_made : {A B : Type 0} {follow : List ℕ → Type 0} (reader : ValueReader A) (make : A → B) → follow [] → Steady follow reader → Steady follow (reader >>= λ x. done (make x))
steady_made {A} {B} {follow} reader make at_end steady =
    steady_then reader (λ x. done (make x)) (λ x. Unit {0}) at_end steady (λ bytes rest x is. tt) (λ x p. steady_done follow (make x)) (λ x p. done_starts follow (make x))

pub starts_made : {A B : Type 0} (outer follow : List ℕ → Type 0) (reader : ValueReader A) (make : A → B) → Starts outer follow reader → Starts outer follow (reader >>= λ x. done (make x))
starts_made outer follow reader make start = starts_then outer follow follow reader (λ x. done (make x)) start (done_starts follow (make start.1))

pub steady_behind : {A : Type 0} {follow : List ℕ → Type 0} (wanted : ℕ) (next : ValueReader A) → Steady follow next → Starts Anything follow next → Steady follow (byte_at wanted >>= λ _. next)
steady_behind wanted next steady start =
    steady_then (byte_at wanted) (λ _. next) (λ x. Unit {0}) tt (steady_byte wanted) (λ bytes rest x is. tt) (λ x p. steady) (λ x p. start)

pub starts_behind : {A : Type 0} (outer follow : List ℕ → Type 0) (wanted : ℕ) (next : ValueReader A) → ((rest : List ℕ) → outer (wanted ∷ rest)) → Starts Anything follow next
    → Starts outer follow (byte_at wanted >>= λ _. next)
starts_behind outer follow wanted next may start = starts_then outer Anything follow (byte_at wanted) (λ _. next) (starts_byte outer wanted may) start
