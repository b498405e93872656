-- The first line, whatever its number is: what is read of it, and where reading it stops.
use Rattle.std.proofs.Common.{◌≡◌, ℕ, ◌^◌, ◌<◌, ◌≤◌, ◌⊎◌, inl, inr, ◌++◌, List, [], ◌∷◌, Bool, true, false, cond, nat_lt, ◌==◌, Option, Some, None, Ok, Err, refl, sym, ap, ◌∙◌, subst, append_assoc, arith}
use Rattle.std.proofs.lemmas.Bool.Decides.{nat_tests}
use Rattle.byte_reading.specs.Decimal.{decimal_text, StartsWithNoDigit, StartsWithNumber}
use Rattle.byte_reading.proofs.DecimalLaws.{one_leading_number}
use Rattle.text_reading.specs.Reading.{Answer, Answer.answers, done, go_on, ◌>>=◌}
use Rattle.text_reading.proofs.Readers.{Starts, done_starts}
use Rattle.typed_values.specs.Faults.{HasGas}
use Rattle.typed_values.specs.Marks.{ValueReader, byte_at, leading}
use Rattle.typed_values.specs.Reading.{gas_of, any_number, gas_at, head_at, first_line_at}
use Rattle.typed_values.specs.declared.fault.ValueLimit.{ValueLimit}
use Rattle.typed_values.proofs.InputTexts.{first_text, no_digit_here}
use Rattle.typed_values.proofs.Leading.{begins_number, leading_sound}
use Rattle.typed_values.proofs.Numbers.{leading_none, leading_number}
use Rattle.typed_values.proofs.ReadBoth.{both, after, done_is, byte_sound, byte_complete, byte_then, then_byte}
use Rattle.typed_values.proofs.Steady.{Anything, Steady, steady_then, starts_then, starts_byte, steady_done, steady_byte, steady_behind, starts_behind, no_digit_too, longest_too}
use Rattle.typed_values.proofs.ValuesComplete.{starts}

-- ---- the number

gas_any : (bytes rest : List ℕ) (o : Option ℕ) → gas_at bytes ≡ answers (Ok o) rest → (n : ℕ) × (gas_of n ≡ o) × StartsWithNumber bytes n rest
unfolding gas_at
gas_any bytes rest o is = go (leading bytes) refl is
  where
    go : (l : Option (ℕ × List ℕ)) → leading bytes ≡ l → any_number l bytes ≡ answers (Ok o) rest → (n : ℕ) × (gas_of n ≡ o) × StartsWithNumber bytes n rest
    go None leads is = let never : ⊥ = cc in absurd never
    go (Some (n, tail)) leads is =
        let gas_is : gas_of n ≡ o = cc in
        let rest_is : tail ≡ rest = cc in
        let here : leading bytes ≡ Some (n, rest) = leads ∙ ap (λ (t : List ℕ). Some (n, t)) rest_is in
        (n, gas_is, leading_sound bytes n rest here)

gas_read : (bytes rest : List ℕ) (n : ℕ) → StartsWithNumber bytes n rest → gas_at bytes ≡ answers (Ok (gas_of n)) rest
unfolding gas_at
gas_read bytes rest n starts_so = ap (λ o. any_number o bytes) (leading_number bytes n rest starts_so)

no_gas : (bytes : List ℕ) → StartsWithNoDigit bytes → gas_at bytes ≡ answers (Err None) bytes
unfolding gas_at
no_gas bytes free = ap (λ o. any_number o bytes) (leading_none bytes free)

gas_stops : (bytes rest : List ℕ) (why : Option ValueLimit) → gas_at bytes ≡ answers (Err why) rest → (why ≡ None) × (bytes ≡ rest) × StartsWithNoDigit bytes
gas_stops bytes rest why is = elim (begins_number bytes) [
  | inl free ↦
      let here : gas_at bytes ≡ answers (Err None) bytes = no_gas bytes free in
      let why_is : why ≡ None = cc in
      let rest_is : bytes ≡ rest = cc in
      (why_is, rest_is, free)
  | inr some ↦
      let here : gas_at bytes ≡ answers (Ok (gas_of some.0)) some.1 = gas_read bytes some.1 some.0 some.2 in
      let never : ⊥ = cc in
      absurd never
]

gas_steady : Steady StartsWithNoDigit gas_at
gas_steady bytes rest (Ok o) quiet is =
    let found = gas_any bytes rest o is in
    let read : (other : List ℕ) → (found.0 ≡ 0) ⊎ StartsWithNoDigit other → gas_at (decimal_text found.0 ++ other) ≡ answers (Ok o) other =
    λ other longest. gas_read (decimal_text found.0 ++ other) other found.0 (record { text_is = refl; longest = longest }) ∙ ap (λ g. answers (Ok g) other) found.1
    in
    record {
      taken = decimal_text found.0;
      is = found.2.text_is;
      local = λ other same. read other (longest_too found.0 rest other same found.2.longest);
      ends = ([], o, λ end free. read end (inr free));
    }
gas_steady bytes rest (Err None) quiet is =
    let found = gas_stops bytes rest None is in
    let here : StartsWithNoDigit rest = subst StartsWithNoDigit found.1 found.2 in
    record {
      taken = [];
      is = found.1;
      local = λ other same. no_gas other (no_digit_too rest other same here);
      ends = (decimal_text 0, gas_of 0, λ end free. gas_read (decimal_text 0 ++ end) end 0 (starts 0 end free));
    }
gas_steady bytes rest (Err (Some limit)) quiet is = absurd quiet

-- ---- the line

pub first_any : (text rest : List ℕ) (o : Option ℕ) → first_line_at text ≡ answers (Ok o) rest → (gas : ℕ) × (gas_of gas ≡ o) × (text ≡ first_text gas rest)
unfolding first_line_at head_at
first_any text rest o is =
    let head = both head_at (λ _. gas_at >>= λ g. byte_at 10 >>= λ _. done g) text rest o is in
    let g = byte_then 103 (byte_at 97 >>= λ _. byte_at 115 >>= λ _. byte_at 32) text head.1 head.0 head.2 in
    let a = byte_then 97 (byte_at 115 >>= λ _. byte_at 32) g.0 head.1 head.0 g.2 in
    let s = byte_then 115 (byte_at 32) a.0 head.1 head.0 a.2 in
    let space = byte_sound 32 s.0 head.1 head.0 s.2 in
    let number = both gas_at (λ g. byte_at 10 >>= λ _. done g) head.1 rest o head.3 in
    let close = byte_then 10 (done number.0) number.1 rest o number.3 in
    let end = done_is number.0 o close.0 rest close.2 in
    let found = gas_any head.1 number.1 number.0 number.2 in
    (found.0, found.1 ∙ end.0, put_together found.0 g.0 a.0 s.0 head.1 number.1 close.0 g.1 a.1 s.1 space found.2.text_is close.1 end.1)
  where
    put_together : (n : ℕ) (a b c d e f : List ℕ) → text ≡ 103 ∷ a → a ≡ 97 ∷ b → b ≡ 115 ∷ c → c ≡ 32 ∷ d → d ≡ decimal_text n ++ e → e ≡ 10 ∷ f → f ≡ rest → text ≡ first_text n rest
    put_together n a b c d e f one two three four five six seven = cc

pub first_read : (gas : ℕ) (rest : List ℕ) → first_line_at (first_text gas rest) ≡ answers (Ok (gas_of gas)) rest
unfolding first_line_at head_at
first_read gas rest =
    after head_at (λ _. gas_at >>= λ g. byte_at 10 >>= λ _. done g) (first_text gas rest) (decimal_text gas ++ (10 ∷ rest)) tt
    (
    then_byte 103 (byte_at 97 >>= λ _. byte_at 115 >>= λ _. byte_at 32) (97 ∷ (115 ∷ (32 ∷ (decimal_text gas ++ (10 ∷ rest)))))
    ∙ then_byte 97 (byte_at 115 >>= λ _. byte_at 32) (115 ∷ (32 ∷ (decimal_text gas ++ (10 ∷ rest))))
    ∙ then_byte 115 (byte_at 32) (32 ∷ (decimal_text gas ++ (10 ∷ rest)))
    ∙ byte_complete 32 (decimal_text gas ++ (10 ∷ rest))
    )
    ∙ after gas_at (λ g. byte_at 10 >>= λ _. done g) (decimal_text gas ++ (10 ∷ rest)) (10 ∷ rest) (gas_of gas)
    (gas_read (decimal_text gas ++ (10 ∷ rest)) (10 ∷ rest) gas (record { text_is = refl; longest = inr (no_digit_here rest) }))
    ∙ then_byte 10 (done (gas_of gas)) rest

abbrev close_gas : Option ℕ → ValueReader (Option ℕ)
close_gas g = byte_at 10 >>= λ _. done g

close_starts : (g : Option ℕ) → Starts StartsWithNoDigit Anything (close_gas g)
close_starts g = starts_behind StartsWithNoDigit Anything 10 (done g) no_digit_here (done_starts Anything g)

gas_starts : Starts Anything StartsWithNoDigit gas_at
gas_starts = (decimal_text 0, gas_of 0, λ rest free. (tt, gas_read (decimal_text 0 ++ rest) rest 0 (starts 0 rest free)))

head_steady : Steady Anything head_at
unfolding head_at
head_steady =
    steady_behind 103 (byte_at 97 >>= λ _. byte_at 115 >>= λ _. byte_at 32)
    (steady_behind 97 (byte_at 115 >>= λ _. byte_at 32)
    (steady_behind 115 (byte_at 32) (steady_byte 32) space)
    s_starts)
    (starts_behind Anything Anything 97 (byte_at 115 >>= λ _. byte_at 32) (λ rest. tt) s_starts)
  where
    space : Starts Anything Anything (byte_at 32)
    space = starts_byte Anything 32 (λ rest. tt)

    s_starts : Starts Anything Anything (byte_at 115 >>= λ _. byte_at 32)
    s_starts = starts_behind Anything Anything 115 (byte_at 32) (λ rest. tt) (starts_byte Anything 32 (λ rest. tt))

pub first_steady : Steady Anything first_line_at
unfolding first_line_at
first_steady =
    steady_then head_at (λ _. gas_at >>= close_gas) (λ x. Unit {0}) tt head_steady (λ bytes rest x is. tt)
    (λ x p.
    steady_then gas_at close_gas (λ g. Unit {0}) tt gas_steady (λ bytes rest g is. tt)
    (λ g q. steady_behind 10 (done g) (steady_done Anything g) (done_starts Anything g))
    (λ g q. close_starts g))
    (λ x p. starts_then Anything StartsWithNoDigit Anything gas_at close_gas gas_starts (close_starts gas_starts.1))

-- ---- nothing in it passes a limit

abbrev pub NoLimits : {A : Type 0} → ValueReader A → Type 0
NoLimits reader = (bytes rest : List ℕ) (limit : ValueLimit) → reader bytes ≡ answers (Err (Some limit)) rest → ⊥

pub then_no_limits : {A B : Type 0} (reader : ValueReader A) (next : A → ValueReader B) → NoLimits reader → ((x : A) → NoLimits (next x)) → NoLimits (reader >>= next)
then_no_limits {A} {B} reader next none nexts bytes rest limit is = go (reader bytes) refl is
  where
    go : (a : Answer ValueLimit A) → reader bytes ≡ a → go_on a next ≡ answers (Err (Some limit)) rest → ⊥
    go (answers (Ok x) left) was is = nexts x left rest limit is
    go (answers (Err None) left) was is = cc
    go (answers (Err (Some other)) left) was is = none bytes left other was

pub byte_no_limits : (wanted : ℕ) → NoLimits (byte_at wanted)
unfolding byte_at
byte_no_limits wanted [] rest limit is = cc
byte_no_limits wanted (byte ∷ bytes) rest limit is = go (byte == wanted) is
  where
    go : (t : Bool) → ◌≡◌ {A = Answer ValueLimit (Unit {0})} (cond t (answers (Ok tt) bytes) (answers (Err None) (byte ∷ bytes))) (answers (Err (Some limit)) rest) → ⊥
    go true is = cc
    go false is = cc

pub done_no_limits : {A : Type 0} (x : A) → NoLimits (done x)
done_no_limits x bytes rest limit is = cc

gas_no_limits : NoLimits gas_at
gas_no_limits bytes rest limit is = let why = (gas_stops bytes rest (Some limit) is).0 in cc

pub first_no_limits : NoLimits first_line_at
unfolding first_line_at head_at
first_no_limits =
    then_no_limits head_at (λ _. gas_at >>= close_gas)
    (then_no_limits (byte_at 103) (λ _. byte_at 97 >>= λ _. byte_at 115 >>= λ _. byte_at 32) (byte_no_limits 103)
    (λ x. then_no_limits (byte_at 97) (λ _. byte_at 115 >>= λ _. byte_at 32) (byte_no_limits 97)
    (λ y. then_no_limits (byte_at 115) (λ _. byte_at 32) (byte_no_limits 115) (λ z. byte_no_limits 32))))
    (λ x. then_no_limits gas_at close_gas gas_no_limits (λ g. then_no_limits (byte_at 10) (λ _. done g) (byte_no_limits 10) (λ z. done_no_limits g)))

-- ---- one gas

pub first_append : (gas : ℕ) (a b : List ℕ) → first_text gas a ++ b ≡ first_text gas (a ++ b)
first_append gas a b = ap (λ (t : List ℕ). 103 ∷ (97 ∷ (115 ∷ (32 ∷ t)))) (append_assoc (decimal_text gas) (10 ∷ a) b)

pub one_gas : (m n : ℕ) (text a b : List ℕ) → HasGas m text a → HasGas n text b → (m ≡ n) × (a ≡ b)
one_gas m n text a b one other =
    let tails : decimal_text m ++ (10 ∷ a) ≡ decimal_text n ++ (10 ∷ b) = tail_of (sym one ∙ other) in
    let both = one_leading_number (decimal_text m ++ (10 ∷ a)) m (10 ∷ a) n (10 ∷ b) (record { text_is = refl; longest = inr (no_digit_here a) })
    (record { text_is = tails; longest = inr (no_digit_here b) }) in
    let behind : 10 ∷ a ≡ 10 ∷ b = both.1 in
    (both.0, let rest : a ≡ b = cc in rest)
  where
    tail_of : 103 ∷ (97 ∷ (115 ∷ (32 ∷ (decimal_text m ++ (10 ∷ a))))) ≡ 103 ∷ (97 ∷ (115 ∷ (32 ∷ (decimal_text n ++ (10 ∷ b))))) → decimal_text m ++ (10 ∷ a) ≡ decimal_text n ++ (10 ∷ b)
    tail_of same = cc

-- ---- its range

pub in_range : (gas n : ℕ) → gas_of gas ≡ Some n → (gas ≡ n) × (gas < 2 ^ 32)
in_range gas n is = go (nat_lt gas (2 ^ 32)) refl is
  where
    below : nat_lt gas (2 ^ 32) ≡ true → gas < 2 ^ 32
    below test = grind (arith, nat_tests)

    go : (t : Bool) → nat_lt gas (2 ^ 32) ≡ t → cond t (Some gas) None ≡ Some n → (gas ≡ n) × (gas < 2 ^ 32)
    go true test is = (let same : gas ≡ n = cc in same, below test)
    go false test is = let never : ⊥ = cc in absurd never

pub out_of_range : (gas : ℕ) → gas_of gas ≡ None → 2 ^ 32 ≤ gas
out_of_range gas is = go (nat_lt gas (2 ^ 32)) refl is
  where
    above : nat_lt gas (2 ^ 32) ≡ false → 2 ^ 32 ≤ gas
    above test = grind (arith, nat_tests)

    go : (t : Bool) → nat_lt gas (2 ^ 32) ≡ t → cond t (Some gas) None ≡ None → 2 ^ 32 ≤ gas
    go true test is = let never : ⊥ = cc in absurd never
    go false test is = above test
