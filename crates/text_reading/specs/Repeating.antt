-- Readers that choose by what is next, and readers that take turns until their end is next.
use Rattle.std.specs.Prelude.{ℕ, zero, suc, List, [], ◌∷◌, length, Bool, true, false, cond, None, Ok, Err}
use Rattle.text_reading.specs.Reading.{Answer.answers, Reader, ◌>>=◌}

-- whether a byte of this kind is next
abbrev pub begins_with : (ℕ → Bool) → List ℕ → Bool
begins_with kind [] = false
begins_with kind (byte ∷ rest) = kind byte

-- whether the text ends here
abbrev pub is_end : List ℕ → Bool
is_end [] = true
is_end (byte ∷ rest) = false

-- the first reader if the test holds of what is next, else the second
abbrev pub choice : {K A : Type 0} → (List ℕ → Bool) → Reader K A → Reader K A → Reader K A
choice test reader other bytes = cond (test bytes) (reader bytes) (other bytes)

-- the end of the text
abbrev pub finish_at : {K A : Type 0} → A → Reader K A
finish_at x [] = answers (Ok x) []
finish_at x (byte ∷ rest) = answers (Err None) (byte ∷ rest)

-- Turns, each from one state to the next, until the test holds of what is next, and then the end.
module _ {K S A : Type 0} (test : List ℕ → Bool) (end : S → Reader K A) (turn : S → Reader K S) where
  -- so many turns at most
  unfoldable pub repeat_within : ℕ → S → Reader K A
  repeat_within zero state = end state
  repeat_within (suc most) state = choice test (end state) (turn state >>= λ after. repeat_within most after)

  -- each turn takes a byte at least
  unfoldable pub repeat_at : S → Reader K A
  repeat_at state bytes = repeat_within (suc (length bytes)) state bytes
