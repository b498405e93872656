-- Numbers: their reader reads what their form says, and a limit changes no more than where they pass it.
use Rattle.std.proofs.Common.{◌≡◌, ◌≢◌, ℕ, zero, suc, ◌+◌, ◌*◌, ◌-◌, ◌/◌, ◌%◌, ◌<◌, ◌≤◌, List, [], ◌∷◌, ◌++◌, Bool, true, false, cond, not, ◌||◌, ◌&&◌, eqb, leb, Option, None, Some, Result, Ok, Err, refl, sym, ◌∙◌, ap, subst, append_assoc, arith, inl, inr, ◌⊎◌}
use Rattle.std.proofs.lemmas.Bool.{or_left, and_parts, and_from, and_right, ne_eqb, leb-true, le-leb, lt-ltb, ltb-true, cases_eq, cases_lt, cases_Bool}
use Rattle.byte_reading.specs.Decimal.{decimal_text}
use Rattle.byte_reading.proofs.DecimalLaws.{decimal_text-small, decimal_text_step}
use Rattle.text_reading.specs.Tokens.{is_digit, is_within, NoneNext, Digits, Number}
use Rattle.text_reading.specs.Reading.{Answer, Answer.answers, Reader, scan, scan_from}
use Rattle.text_reading.specs.TokenReading.{longer, next_number, number_end, digits_at, number_at}
use Rattle.text_reading.proofs.Readers.{not_longer, scan_short}
use Rattle.text_reading.proofs.Limits.{Passes, Lifted, Lifted.kept, Lifted.passed, Lifts, lifts_itself, scan_never}
use Rattle.text_reading.proofs.TokenFacts.{number_from, number_ends, digits_is, token_lifts, IsWide, token_sound, token_complete}

pub digit_bounds : (byte : ℕ) → is_digit byte ≡ true → (48 ≤ byte) × (byte ≤ 57)
digit_bounds byte is =
    let both = and_parts (leb 48 byte) (leb byte 57) is in
    (leb-true 48 byte both.0, leb-true byte 57 both.1)

pub digit_is : (byte : ℕ) → 48 ≤ byte → byte ≤ 57 → is_digit byte ≡ true
digit_is byte low high = and_from (leb 48 byte) (leb byte 57) (le-leb 48 byte low) (le-leb byte 57 high)

-- a digit behind a number above 0
digit_behind : (n byte : ℕ) → 0 < n → is_digit byte ≡ true → decimal_text (longer n byte) ≡ decimal_text n ++ (byte ∷ [])
digit_behind n byte above is =
    let bounds = digit_bounds byte is in
    let front : longer n byte / 10 ≡ n = omega arith in
    let last : 48 + longer n byte % 10 ≡ byte = omega arith in
    decimal_text_step (longer n byte) (omega arith) ∙ rw (front, last) refl

module _ {K : Type 0} (limit : Option ℕ) (zero_too : Bool) (kind : K) where
  abbrev from : Option ℕ → Reader K ℕ
  from = number_from limit zero_too kind

  -- whether a digit goes on behind a number
  abbrev goes_on : ℕ → ℕ → Bool
  goes_on n byte = not (eqb n 0) && (is_digit byte && is_within limit (longer n byte))

  sound_end : (n byte m : ℕ) (text rest : List ℕ) → answers (number_end kind (Some n) (Some byte)) (byte ∷ text) ≡ answers (Ok m) rest
      → (n ≡ m) × (byte ∷ text ≡ rest) × (is_digit byte ≡ false)
  sound_end n byte m text rest e = go (is_digit byte) refl e
    where
      go : (b : Bool) → is_digit byte ≡ b → answers (cond b (Err (cond (eqb n 0) None (Some kind))) (Ok n)) (byte ∷ text) ≡ answers (Ok m) rest
          → (n ≡ m) × (byte ∷ text ≡ rest) × (is_digit byte ≡ false)
      go true is e = absurd cc
      go false is e = (cc, cc, is)

  sound_more : (text rest : List ℕ) (n m : ℕ) → 0 < n → is_within limit n ≡ true → from (Some n) text ≡ answers (Ok m) rest
      → (decimal_text n ++ text ≡ decimal_text m ++ rest) × NoneNext is_digit rest × (is_within limit m ≡ true) × (0 < m)
  sound_more [] rest n m above within e =
      let n_is : n ≡ m = cc in
      let none : [] ≡ rest = cc in
      (ap (λ k. decimal_text k ++ []) n_is ∙ ap (λ (t : List ℕ). decimal_text m ++ t) none, subst (NoneNext is_digit) none tt, subst (λ k. is_within limit k ≡ true) n_is within, omega arith)
  sound_more (byte ∷ text) rest n m above within e = go (goes_on n byte) refl (λ fits. sound_more text rest (longer n byte) m (omega arith) fits) e
    where
      go : (b : Bool) → goes_on n byte ≡ b
          → (is_within limit (longer n byte) ≡ true → from (Some (longer n byte)) text ≡ answers (Ok m) rest
          → (decimal_text (longer n byte) ++ text ≡ decimal_text m ++ rest) × NoneNext is_digit rest × (is_within limit m ≡ true) × (0 < m))
          → scan_from (next_number limit zero_too) (number_end kind) (cond b (Some (Some (longer n byte))) None) (Some n) byte text (λ a. from a text) ≡ answers (Ok m) rest
          → (decimal_text n ++ (byte ∷ text) ≡ decimal_text m ++ rest) × NoneNext is_digit rest × (is_within limit m ≡ true) × (0 < m)
      go true is more e =
          let tests = and_parts (not (eqb n 0)) (is_digit byte && is_within limit (longer n byte)) is in
          let others = and_parts (is_digit byte) (is_within limit (longer n byte)) tests.1 in
          let tail = more others.1 e in
          let here : decimal_text n ++ (byte ∷ text) ≡ decimal_text (longer n byte) ++ text =
          sym (ap (λ (t : List ℕ). t ++ text) (digit_behind n byte above others.0) ∙ append_assoc (decimal_text n) (byte ∷ []) text) in
          (here ∙ tail.0, tail.1, tail.2, tail.3)
      go false is more e =
          let end = sound_end n byte m text rest e in (
            ap (λ k. decimal_text k ++ (byte ∷ text)) end.0 ∙ ap (λ (t : List ℕ). decimal_text m ++ t) end.1,
            subst (NoneNext is_digit) end.1 end.2,
            subst (λ k. is_within limit k ≡ true) end.0 within,
            omega (arith, end.0),
          )

  sound_zero : (text rest : List ℕ) (m : ℕ) → from (Some 0) text ≡ answers (Ok m) rest → (0 ≡ m) × (text ≡ rest) × NoneNext is_digit rest
  sound_zero [] rest m e = let none : [] ≡ rest = cc in (cc, none, subst (NoneNext is_digit) none tt)
  sound_zero (byte ∷ text) rest m e = let end = sound_end 0 byte m text rest e in (end.0, end.1, subst (NoneNext is_digit) end.1 end.2)

  wide_within : IsWide limit → (n : ℕ) → n < 10 → is_within limit n ≡ true
  wide_within wide n small = go limit wide
    where
      go : (l : Option ℕ) → IsWide l → is_within l n ≡ true
      go None wide = refl
      go (Some most) wide = lt-ltb n most (omega arith)

  -- what is read is a number's text
  pub digits_sound : IsWide limit → (text rest : List ℕ) (m : ℕ) → digits_at limit zero_too kind text ≡ answers (Ok m) rest
      → Digits limit m text rest × (zero_too ≡ false → m ≢ 0)
  unfolding digits_at
  digits_sound wide [] rest m e = absurd cc
  digits_sound wide (byte ∷ text) rest m e = go (is_digit byte && (zero_too || not (eqb byte 48))) refl e
    where
      first_digit : (is_digit byte ≡ true) → ((zero_too || not (eqb byte 48)) ≡ true) → from (Some (byte - 48)) text ≡ answers (Ok m) rest
          → (byte ≡ 48) ⊎ (byte ≡ 48 → ⊥) → Digits limit m (byte ∷ text) rest × (zero_too ≡ false → m ≢ 0)
      first_digit is may e (inl zero_is) =
          let bytes : byte - 48 ≡ 0 = omega arith in
          let tail = sound_zero text rest m (subst (λ n. from (Some n) text ≡ answers (Ok m) rest) bytes e) in
          let whole : byte ∷ text ≡ decimal_text 0 ++ rest = rw (decimal_text-small 0 (omega arith), zero_is) (ap (λ (t : List ℕ). 48 ∷ t) tail.1) in (
            record {
              text_is = whole ∙ ap (λ n. decimal_text n ++ rest) tail.0;
              whole = tail.2;
              within = subst (λ n. is_within limit n ≡ true) tail.0 (wide_within wide 0 (omega arith));
            },
            λ none. absurd (no_zero none may),
          )
        where
          no_zero : zero_too ≡ false → (zero_too || not (eqb byte 48)) ≡ true → ⊥
          no_zero none may =
              let lost : (zero_too || not (eqb byte 48)) ≡ false = rw (none, zero_is) refl in
              let clash : true ≡ false = sym may ∙ lost in cc
      first_digit is may e (inr some) =
          let bounds = digit_bounds byte is in
          let above : 0 < byte - 48 = omega arith in
          let small : byte - 48 < 10 = omega arith in
          let same : 48 + (byte - 48) ≡ byte = omega arith in
          let tail = sound_more text rest (byte - 48) m above (wide_within wide (byte - 48) small) e in
          let whole : byte ∷ text ≡ decimal_text (byte - 48) ++ text = rw (decimal_text-small (byte - 48) small) (ap (λ d. d ∷ text) (sym same)) in
          let some_m : 0 < m = tail.3 in
          (record { text_is = whole ∙ tail.0; whole = tail.1; within = tail.2 }, λ none is_zero. omega arith)

      go : (b : Bool) → (is_digit byte && (zero_too || not (eqb byte 48))) ≡ b
          → scan_from (next_number limit zero_too) (number_end kind) (cond b (Some (Some (byte - 48))) None) None byte text (λ a. from a text) ≡ answers (Ok m) rest
          → Digits limit m (byte ∷ text) rest × (zero_too ≡ false → m ≢ 0)
      go true is e = let tests = and_parts (is_digit byte) (zero_too || not (eqb byte 48)) is in first_digit tests.0 tests.1 e (cases_eq byte 48)
      go false is e = absurd cc

  -- the digits of a number above 0 lead to it
  complete_digits : (most n : ℕ) (tail : List ℕ) → n ≤ most → 0 < n → is_within limit n ≡ true → from None (decimal_text n ++ tail) ≡ from (Some n) tail
  complete_digits zero n tail below above within = absurd (omega arith)
  complete_digits (suc most) n tail below above within =
      elim (cases_lt n 10) [
        | inl small ↦ one_digit small
        | inr long ↦ more_digits long (complete_digits most (n / 10) (((48 + n % 10)) ∷ tail) (omega arith) (omega arith) (smaller limit within))
      ]
    where
      one_digit : n < 10 → from None (decimal_text n ++ tail) ≡ from (Some n) tail
      one_digit small =
          let is = digit_is (48 + n) (omega arith) (omega arith) in
          let other : eqb (48 + n) 48 ≡ false = ne_eqb (48 + n) 48 (λ e. omega arith) in
          let may : (zero_too || not (eqb (48 + n) 48)) ≡ true = rw other (always zero_too) in
          let value : (48 + n) - 48 ≡ n = omega arith in
          rw (decimal_text-small n small) (rw (is, may, value) refl)
        where
          always : (b : Bool) → (b || true) ≡ true
          always true = refl
          always false = refl

      smaller : (l : Option ℕ) → is_within l n ≡ true → is_within l (n / 10) ≡ true
      smaller None within = refl
      smaller (Some most_of) within = let below_it = ltb-true n most_of within in lt-ltb (n / 10) most_of (omega arith)

      more_digits : 10 ≤ n → from None (decimal_text (n / 10) ++ ((48 + n % 10) ∷ tail)) ≡ from (Some (n / 10)) ((48 + n % 10) ∷ tail)
          → from None (decimal_text n ++ tail) ≡ from (Some n) tail
      more_digits long front =
          let digit : n % 10 < 10 = omega arith in
          let value : n / 10 * 10 + n % 10 ≡ n = omega arith in
          let text = decimal_text_step n long in
          let whole : decimal_text n ++ tail ≡ decimal_text (n / 10) ++ ((48 + n % 10) ∷ tail) =
          ap (λ (t : List ℕ). t ++ tail) text ∙ append_assoc (decimal_text (n / 10)) ((48 + n % 10) ∷ []) tail in
          ap (from None) whole ∙ front ∙ last_digit digit value
        where
          last_digit : n % 10 < 10 → n / 10 * 10 + n % 10 ≡ n → from (Some (n / 10)) ((48 + n % 10) ∷ tail) ≡ from (Some n) tail
          last_digit digit value =
              let is = digit_is (48 + n % 10) (omega arith) (omega arith) in
              let longer_is : n / 10 * 10 + ((48 + n % 10) - 48) ≡ n = omega arith in
              let some : eqb (n / 10) 0 ≡ false = ne_eqb (n / 10) 0 (λ e. omega arith) in
              rw (some, is, longer_is, within) refl

  -- a number's text is read
  pub digits_complete : (text rest : List ℕ) (m : ℕ) → Digits limit m text rest → (zero_too ≡ false → m ≢ 0) → digits_at limit zero_too kind text ≡ answers (Ok m) rest
  unfolding digits_at
  digits_complete text rest m form some = ap (from None) form.text_is ∙ go (cases_eq m 0)
    where
      zero_read : zero_too ≡ true → from None (48 ∷ rest) ≡ from (Some 0) rest
      zero_read may =
          let test : (zero_too || false) ≡ true = or_left zero_too false may in
          ap (λ b. scan_from (next_number limit zero_too) (number_end kind) (cond b (Some (Some 0)) None) None 48 rest (λ a. from a rest)) test

      go : (m ≡ 0) ⊎ (m ≡ 0 → ⊥) → from None (decimal_text m ++ rest) ≡ answers (Ok m) rest
      go (inl none) =
          let may : zero_too ≡ true = elim (cases_Bool zero_too) [ inl may ↦ may | inr none_too ↦ absurd (some none_too none) ] in
          let text_is : decimal_text m ++ rest ≡ 48 ∷ rest = rw (none, decimal_text-small 0 (omega arith)) refl in
          ap (from None) text_is ∙ zero_read may ∙ number_ends limit zero_too kind 0 rest form.whole ∙ ap (λ n. answers (Ok n) rest) (sym none)
      go (inr above) =
          complete_digits m m rest (omega arith) (omega arith) form.within ∙ number_ends limit zero_too kind m rest form.whole

  -- ---- with their blanks

  pub number_sound : IsWide limit → (text rest : List ℕ) (m : ℕ) → number_at limit zero_too kind text ≡ answers (Ok m) rest
      → Number limit m text rest × (zero_too ≡ false → m ≢ 0)
  unfolding number_at
  number_sound wide text rest m e =
      let token_parts = token_sound (digits_at limit zero_too kind) text rest m e in
      let read = digits_sound wide text token_parts.0 m token_parts.1 in
      ((token_parts.0, read.0, token_parts.2), read.1)

  pub number_complete : (text rest : List ℕ) (m : ℕ) → Number limit m text rest → (zero_too ≡ false → m ≢ 0) → number_at limit zero_too kind text ≡ answers (Ok m) rest
  unfolding number_at
  number_complete text rest m form some =
      token_complete (digits_at limit zero_too kind) text form.0 rest m (digits_complete text form.0 m form.1 some) form.2

  -- ---- limits

  abbrev bare : Option ℕ → Reader K ℕ
  bare = number_from None zero_too kind

  -- the state behind a byte
  abbrev step : (Option ℕ → ℕ → Option (Option ℕ)) → Option (Option ℕ) → Option ℕ → ℕ → List ℕ → Answer K ℕ
  step next after state byte text = scan_from next (number_end kind) after state byte text (λ a. scan next (number_end kind) a text)

  one_more : (state after : Option ℕ) (byte : ℕ) (taken rest : List ℕ) (out : Result ℕ (Option K)) → ((text : List ℕ) → bare state (byte ∷ text) ≡ bare after text)
      → Lifted kind (bare after) taken rest out → Lifted kind (bare state) (byte ∷ taken) rest out
  one_more state after byte taken rest out goes (kept never same) = kept never (goes (taken ++ rest) ∙ same)
  one_more state after byte taken rest out goes (passed p digit more rest_is is bare_out same) = passed p digit more rest_is is bare_out (goes (taken ++ (digit ∷ [])) ∙ same)

  -- a number ends at a byte
  lifts_end : (n byte : ℕ) (more : List ℕ) (out : Result ℕ (Option K)) → number_end kind (Some n) (Some byte) ≡ out → goes_on n byte ≡ false
      → Lifted kind (bare (Some n)) [] (byte ∷ more) out
  lifts_end n byte more out out_is ends = go (eqb n 0) (is_digit byte) refl refl
    where
      stays : (not (eqb n 0) && (is_digit byte && true)) ≡ false → bare (Some n) (byte ∷ more) ≡ answers out (byte ∷ more)
      stays test = ap (λ b. step (next_number None zero_too) (cond b (Some (Some (longer n byte))) None) (Some n) byte more) test ∙ ap (λ o. answers o (byte ∷ more)) out_is

      go : (z d : Bool) → eqb n 0 ≡ z → is_digit byte ≡ d → Lifted kind (bare (Some n)) [] (byte ∷ more) out
      go z false z_is d_is =
          let value : number_end kind (Some n) (Some byte) ≡ Ok n = rw d_is refl in
          let test : (not (eqb n 0) && (is_digit byte && true)) ≡ false = and_right (not (eqb n 0)) (is_digit byte && true) (rw d_is refl) in
          kept (λ p. subst (Passes kind) (sym out_is ∙ value) p) (stays test)
      go true true z_is d_is =
          let value : number_end kind (Some n) (Some byte) ≡ Err None = rw (d_is, z_is) refl in
          let test : (not (eqb n 0) && (is_digit byte && true)) ≡ false = rw z_is refl in
          kept (λ p. subst (Passes kind) (sym out_is ∙ value) p) (stays test)
      go false true z_is d_is =
          let value : number_end kind (Some n) (Some byte) ≡ Err (Some kind) = rw (d_is, z_is) refl in
          let test : (not (eqb n 0) && (is_digit byte && true)) ≡ true = rw (z_is, d_is) refl in
          passed (subst (Passes kind) (sym value ∙ out_is) refl) byte more refl d_is (Ok (longer n byte))
          (ap (λ b. step (next_number None zero_too) (cond b (Some (Some (longer n byte))) None) (Some n) byte []) test)

  lifts_from : (taken rest : List ℕ) (state : Option ℕ) (out : Result ℕ (Option K)) → from state (taken ++ rest) ≡ answers out rest → Lifted kind (bare state) taken rest out
  lifts_from [] [] None out e = kept (λ p. let out_is : out ≡ Err None = cc in subst (Passes kind) out_is p) e
  lifts_from [] [] (Some n) out e = kept (λ p. let out_is : out ≡ Ok n = cc in subst (Passes kind) out_is p) e
  lifts_from [] (byte ∷ more) None out e = go (is_digit byte && (zero_too || not (eqb byte 48))) refl e
    where
      go : (b : Bool) → (is_digit byte && (zero_too || not (eqb byte 48))) ≡ b
          → step (next_number limit zero_too) (cond b (Some (Some (byte - 48))) None) None byte more ≡ answers out (byte ∷ more) → Lifted kind (bare None) [] (byte ∷ more) out
      go true is e = absurd (scan_short (next_number limit zero_too) (number_end kind) (Some (byte - 48)) byte more out e)
      go false is e =
          let out_is : out ≡ Err None = cc in
          kept (λ p. subst (Passes kind) out_is p)
          (ap (λ b. step (next_number None zero_too) (cond b (Some (Some (byte - 48))) None) None byte more) is ∙ ap (λ o. answers o (byte ∷ more)) (sym out_is))
  lifts_from [] (byte ∷ more) (Some n) out e = go (goes_on n byte) refl e
    where
      go : (b : Bool) → goes_on n byte ≡ b → step (next_number limit zero_too) (cond b (Some (Some (longer n byte))) None) (Some n) byte more ≡ answers out (byte ∷ more)
          → Lifted kind (bare (Some n)) [] (byte ∷ more) out
      go true is e = absurd (scan_short (next_number limit zero_too) (number_end kind) (Some (longer n byte)) byte more out e)
      go false is e = lifts_end n byte more out (cc) is
  lifts_from (byte ∷ taken) rest None out e = go (is_digit byte && (zero_too || not (eqb byte 48))) refl (lifts_from taken rest (Some (byte - 48)) out) e
    where
      go : (b : Bool) → (is_digit byte && (zero_too || not (eqb byte 48))) ≡ b
          → (from (Some (byte - 48)) (taken ++ rest) ≡ answers out rest → Lifted kind (bare (Some (byte - 48))) taken rest out)
          → step (next_number limit zero_too) (cond b (Some (Some (byte - 48))) None) None byte (taken ++ rest) ≡ answers out rest → Lifted kind (bare None) (byte ∷ taken) rest out
      go true is more e =
          one_more None (Some (byte - 48)) byte taken rest out
          (λ text. ap (λ b. step (next_number None zero_too) (cond b (Some (Some (byte - 48))) None) None byte text) is) (more e)
      go false is more e = let whole : byte ∷ (taken ++ rest) ≡ rest = cc in let none = not_longer (byte ∷ taken) rest whole in absurd cc
  lifts_from (byte ∷ taken) rest (Some n) out e = go (goes_on n byte) refl (lifts_from taken rest (Some (longer n byte)) out) e
    where
      go : (b : Bool) → goes_on n byte ≡ b
          → (from (Some (longer n byte)) (taken ++ rest) ≡ answers out rest → Lifted kind (bare (Some (longer n byte))) taken rest out)
          → step (next_number limit zero_too) (cond b (Some (Some (longer n byte))) None) (Some n) byte (taken ++ rest) ≡ answers out rest
          → Lifted kind (bare (Some n)) (byte ∷ taken) rest out
      go true is more e =
          let tests = and_parts (not (eqb n 0)) (is_digit byte && is_within limit (longer n byte)) is in
          let others = and_parts (is_digit byte) (is_within limit (longer n byte)) tests.1 in
          let test : (not (eqb n 0) && (is_digit byte && true)) ≡ true = and_from (not (eqb n 0)) (is_digit byte && true) tests.0 (and_from (is_digit byte) true others.0 refl) in
          one_more (Some n) (Some (longer n byte)) byte taken rest out
          (λ text. ap (λ b. step (next_number None zero_too) (cond b (Some (Some (longer n byte))) None) (Some n) byte text) test) (more e)
      go false is more e = let whole : byte ∷ (taken ++ rest) ≡ rest = cc in let none = not_longer (byte ∷ taken) rest whole in absurd cc

  pub number_lifts : Lifts kind (number_at limit zero_too kind) (number_at None zero_too kind)
  unfolding number_at digits_at
  number_lifts = token_lifts kind (digits_at limit zero_too kind) (digits_at None zero_too kind) (digits_is limit zero_too kind) (digits_is None zero_too kind) (λ rest. refl) digits_lifts
    where
      digits_lifts : Lifts kind (digits_at limit zero_too kind) (digits_at None zero_too kind)
      digits_lifts taken rest out e = lifts_from taken rest None out e

  -- a number of another kind is no stop of this kind
  pub number_keeps : (other : K) → other ≢ kind → Lifts other (number_at limit zero_too kind) (number_at limit zero_too kind)
  unfolding number_at digits_at
  number_keeps other differs = token_lifts other (digits_at limit zero_too kind) (digits_at limit zero_too kind) (digits_is limit zero_too kind) (digits_is limit zero_too kind) (λ rest. refl) digits_keep
    where
      at_end : (n : ℕ) (byte : ℕ) (b z : Bool) → Passes {A = ℕ} other (cond b (Err (cond z None (Some kind))) (Ok n)) → ⊥
      at_end n byte true true p = p
      at_end n byte true false p = differs (sym p)
      at_end n byte false z p = p

      never : (state : Option ℕ) (byte : Option ℕ) → Passes other (number_end kind state byte) → ⊥
      never None byte p = p
      never (Some n) None p = p
      never (Some n) (Some byte) p = at_end n byte (is_digit byte) (eqb n 0) p

      digits_keep : Lifts other (digits_at limit zero_too kind) (digits_at limit zero_too kind)
      digits_keep = lifts_itself other (from None) (λ text rest out e p. scan_never other (next_number limit zero_too) (number_end kind) never text None rest out e p)
