-- Blanks: their reader reads them all, and the reader of a token and its blanks.
use Rattle.text_reading.specs.declared.tokens.Spot.{Spot}
use Rattle.text_reading.specs.declared.tokens.Spot.TheVariants as spots
use Rattle.std.proofs.Common.{◌≡◌, ℕ, List, [], ◌∷◌, Bool, true, false, cond, ◌||◌, eqb, Option, None, Some, Ok, refl, sym, ap}
use Rattle.std.specs.Bool.{MatchBool}
use Rattle.std.proofs.lemmas.Bool.{or_parts}
use Rattle.text_reading.specs.Tokens.{is_blank, NoneNext, BlanksFrom, Blanks}
use Rattle.text_reading.specs.Reading.{Answer, Answer.answers, Reader, done, ◌>>=◌, scan, scan_from}
use Rattle.text_reading.specs.TokenReading.{next_spot, blanks_end, blanks_at, token}
use Rattle.text_reading.proofs.Readers.{Ends, Starts, IsReader, scan_is, bind_is, bind_starts, done_is, done_starts, then_next}

abbrev pub is_gap : ℕ → Bool
is_gap byte = is_blank byte || eqb byte 47

-- what may stand behind blanks: the end, or a byte that is no blank and begins no comment
abbrev pub Fresh : List ℕ → Type 0
Fresh = NoneNext is_gap

abbrev blanks_from : {K : Type 0} → Spot → Reader K (Unit {0})
blanks_from = scan next_spot blanks_end

no_more : {K : Type 0} (rest : List ℕ) → Fresh rest → blanks_from {K = K} spots.Outside rest ≡ answers (Ok tt) rest
no_more [] fresh = refl
no_more (byte ∷ rest) fresh =
    let both = or_parts (is_blank byte) (eqb byte 47) fresh in
    rw (both.0, both.1) refl

blanks_end_at : {K : Type 0} (spot : Spot) → Ends Fresh (blanks_from {K = K} spot) []
blanks_end_at spots.Outside = ([], tt, no_more)
blanks_end_at spots.AfterSlash = (47 ∷ 10 ∷ [], tt, no_more)
blanks_end_at spots.InComment = (10 ∷ [], tt, no_more)

pub blanks_is : {K : Type 0} → IsReader Fresh (blanks_at {K = K})
unfolding blanks_at
blanks_is = scan_is next_spot blanks_end blanks_end_at spots.Outside

-- no blanks
pub blanks_none : {K : Type 0} (rest : List ℕ) → Fresh rest → blanks_at {K = K} rest ≡ answers (Ok tt) rest
unfolding blanks_at
blanks_none = no_more

-- a line end
pub blanks_line : {K : Type 0} (rest : List ℕ) → Fresh rest → blanks_at {K = K} (10 ∷ rest) ≡ answers (Ok tt) rest
unfolding blanks_at
blanks_line = no_more

pub blanks_starts : {K : Type 0} (behind : List ℕ → Type 0) → ((rest : List ℕ) → behind (10 ∷ rest)) → Starts behind Fresh (blanks_at {K = K})
blanks_starts behind line = (10 ∷ [], tt, λ rest fresh. (line rest, blanks_line rest fresh))

-- ---- what was read, and the blanks behind it

module _ {K A : Type 0} {behind : List ℕ → Type 0} (reader : Reader K A) (is : IsReader behind reader) (line : (rest : List ℕ) → behind (10 ∷ rest)) where
  abbrev pub then_blanks : A → Reader K A
  then_blanks x = blanks_at >>= λ _. done x

  pub then_blanks_is : (x : A) → IsReader Fresh (then_blanks x)
  then_blanks_is x = bind_is blanks_at (λ _. done x) blanks_is (λ _. done_is Fresh x) (λ _. done_starts Fresh x)

  then_blanks_starts : (x : A) → Starts behind Fresh (then_blanks x)
  then_blanks_starts x = bind_starts behind Fresh Fresh blanks_at (λ _. done x) (blanks_starts behind line) (λ _. done_starts Fresh x)

  pub token_is : IsReader Fresh (token reader)
  token_is = bind_is reader then_blanks is then_blanks_is then_blanks_starts

  pub token_starts : Starts Fresh behind reader → Starts Fresh Fresh (token reader)
  token_starts starts = bind_starts Fresh behind Fresh reader then_blanks starts then_blanks_starts

pub token_reads : {K A : Type 0} (reader : Reader K A) (text between rest : List ℕ) (x : A)
    → reader text ≡ answers (Ok x) between → blanks_at {K = K} between ≡ answers (Ok tt) rest → token reader text ≡ answers (Ok x) rest
token_reads {K} {A} reader text between rest x read blank =
    let then_blanks : A → Reader K A = λ y. blanks_at >>= λ _. done y in
    then_next reader then_blanks text between x (answers (Ok x) rest) read (then_next blanks_at (λ _. done x) between rest tt (answers (Ok x) rest) blank refl)

-- ---- they are the blanks of a text

module _ (K : Type 0) (byte : ℕ) (text rest : List ℕ) where
  abbrev Sound : Spot → Type 0
  Sound spot = blanks_from {K = K} spot text ≡ answers (Ok tt) rest → BlanksFrom spot text rest

  abbrev Complete : Spot → Type 0
  Complete spot = BlanksFrom spot text rest → blanks_from {K = K} spot text ≡ answers (Ok tt) rest

  abbrev step : Option Spot → Spot → Answer K (Unit {0})
  step after spot = scan_from {K = K} next_spot blanks_end after spot byte text (λ a. blanks_from a text)

  sound_outside : (blank slash : Bool) → ((spot : Spot) → Sound spot) → step (cond blank (Some spots.Outside) (cond slash (Some spots.AfterSlash) None)) spots.Outside ≡ answers (Ok tt) rest
      → MatchBool blank (BlanksFrom spots.Outside text rest) (MatchBool slash (BlanksFrom spots.AfterSlash text rest) (rest ≡ byte ∷ text))
  sound_outside true slash more e = more spots.Outside e
  sound_outside false true more e = more spots.AfterSlash e
  sound_outside false false more e = cc

  sound_slash : (slash : Bool) → ((spot : Spot) → Sound spot) → step (cond slash (Some spots.InComment) None) spots.AfterSlash ≡ answers (Ok tt) rest
      → MatchBool slash (BlanksFrom spots.InComment text rest) ⊥
  sound_slash true more e = more spots.InComment e
  sound_slash false more e = cc

  sound_comment : (line : Bool) → ((spot : Spot) → Sound spot) → step (cond line (Some spots.Outside) (Some spots.InComment)) spots.InComment ≡ answers (Ok tt) rest
      → MatchBool line (BlanksFrom spots.Outside text rest) (BlanksFrom spots.InComment text rest)
  sound_comment true more e = more spots.Outside e
  sound_comment false more e = more spots.InComment e

  complete_outside : (blank slash : Bool) → ((spot : Spot) → Complete spot)
      → MatchBool blank (BlanksFrom spots.Outside text rest) (MatchBool slash (BlanksFrom spots.AfterSlash text rest) (rest ≡ byte ∷ text))
      → step (cond blank (Some spots.Outside) (cond slash (Some spots.AfterSlash) None)) spots.Outside ≡ answers (Ok tt) rest
  complete_outside true slash more h = more spots.Outside h
  complete_outside false true more h = more spots.AfterSlash h
  complete_outside false false more h = ap (answers (Ok tt)) (sym h)

  complete_slash : (slash : Bool) → ((spot : Spot) → Complete spot) → MatchBool slash (BlanksFrom spots.InComment text rest) ⊥
      → step (cond slash (Some spots.InComment) None) spots.AfterSlash ≡ answers (Ok tt) rest
  complete_slash true more h = more spots.InComment h
  complete_slash false more h = absurd h

  complete_comment : (line : Bool) → ((spot : Spot) → Complete spot) → MatchBool line (BlanksFrom spots.Outside text rest) (BlanksFrom spots.InComment text rest)
      → step (cond line (Some spots.Outside) (Some spots.InComment)) spots.InComment ≡ answers (Ok tt) rest
  complete_comment true more h = more spots.Outside h
  complete_comment false more h = more spots.InComment h

sound_from : {K : Type 0} (text rest : List ℕ) (spot : Spot) → blanks_from {K = K} spot text ≡ answers (Ok tt) rest → BlanksFrom spot text rest
sound_from [] rest spots.Outside e = cc
sound_from [] rest spots.AfterSlash e = absurd cc
sound_from [] rest spots.InComment e = cc
sound_from {K} (byte ∷ text) rest spots.Outside e = sound_outside K byte text rest (is_blank byte) (eqb byte 47) (sound_from text rest) e
sound_from {K} (byte ∷ text) rest spots.AfterSlash e = sound_slash K byte text rest (eqb byte 47) (sound_from text rest) e
sound_from {K} (byte ∷ text) rest spots.InComment e = sound_comment K byte text rest (eqb byte 10) (sound_from text rest) e

complete_from : {K : Type 0} (text rest : List ℕ) (spot : Spot) → BlanksFrom spot text rest → blanks_from {K = K} spot text ≡ answers (Ok tt) rest
complete_from [] rest spots.Outside h = ap (answers (Ok tt)) (sym h)
complete_from [] rest spots.AfterSlash h = absurd h
complete_from [] rest spots.InComment h = ap (answers (Ok tt)) (sym h)
complete_from {K} (byte ∷ text) rest spots.Outside h = complete_outside K byte text rest (is_blank byte) (eqb byte 47) (complete_from text rest) h
complete_from {K} (byte ∷ text) rest spots.AfterSlash h = complete_slash K byte text rest (eqb byte 47) (complete_from text rest) h
complete_from {K} (byte ∷ text) rest spots.InComment h = complete_comment K byte text rest (eqb byte 10) (complete_from text rest) h

pub blanks_sound : {K : Type 0} (text rest : List ℕ) → blanks_at {K = K} text ≡ answers (Ok tt) rest → Blanks text rest
unfolding blanks_at
blanks_sound text rest e = sound_from text rest spots.Outside e

pub blanks_complete : {K : Type 0} (text rest : List ℕ) → Blanks text rest → blanks_at {K = K} text ≡ answers (Ok tt) rest
unfolding blanks_at
blanks_complete text rest h = complete_from text rest spots.Outside h
