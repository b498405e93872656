-- Readers of texts as functions on the bytes. A reader takes bytes from the head of a text, and answers a tree or
-- why it stops, with the bytes that are left.
use Rattle.std.specs.Prelude.{ℕ, zero, suc, List, [], ◌∷◌, length, Bool, false, cond, ◌==◌, Option, None, Some, Result, Ok, Err}

-- the byte that is next
abbrev pub first : List ℕ → Option ℕ
first [] = None
first (byte ∷ rest) = Some byte

-- What a reader answers: a tree, or why it stops, and the bytes that are left. It stops with `None` where no text
-- goes on with the next byte, and with `Some kind` where the next byte is a digit by which a number of this kind
-- passes its limit.
pub data Answer (K A : Type 0) : Type 0 where
  answers : Result A (Option K) → List ℕ → Answer K A

abbrev pub Reader : Type 0 → Type 0 → Type 0
Reader K A = List ℕ → Answer K A

-- takes nothing
abbrev pub done : {K A : Type 0} → A → Reader K A
done x bytes = answers (Ok x) bytes

-- what comes after an answer: the next reader, or the stop
abbrev pub go_on : {K A B : Type 0} → Answer K A → (A → Reader K B) → Answer K B
go_on (answers (Ok x) rest) next = next x rest
go_on (answers (Err why) rest) next = answers (Err why) rest

-- one reader and then the next, which may depend on what was read
infixr 10 ◌>>=◌
abbrev pub ◌>>=◌ : {K A B : Type 0} → Reader K A → (A → Reader K B) → Reader K B
(reader >>= next) bytes = go_on (reader bytes) next

-- whether this byte is next
abbrev pub begins : ℕ → List ℕ → Bool
begins byte [] = false
begins byte (other ∷ rest) = other == byte

-- the first reader if this byte is next, else the second
abbrev pub branch : {K A : Type 0} → ℕ → Reader K A → Reader K A → Reader K A
branch byte reader other bytes = cond (begins byte bytes) (reader bytes) (other bytes)

-- A scan takes one byte after another, each leading from a state to the next, as long as there is a next state.
-- What it answers is by the state and by the byte at which it ends.
module _ {K A S : Type 0} (next : S → ℕ → Option S) (finish : S → Option ℕ → Result A (Option K)) where
  abbrev pub scan_from : Option S → S → ℕ → List ℕ → (S → Answer K A) → Answer K A
  scan_from None state byte rest scan_rest = answers (finish state (Some byte)) (byte ∷ rest)
  scan_from (Some after) state byte rest scan_rest = scan_rest after

  abbrev pub scan : S → Reader K A
  scan state [] = answers (finish state None) []
  scan state (byte ∷ rest) = scan_from (next state byte) state byte rest (λ after. scan after rest)

-- this tree where the text ends, else the reader
abbrev pub unless_end : {K A : Type 0} → A → Reader K A → Reader K A
unless_end x reader [] = answers (Ok x) []
unless_end x reader (byte ∷ rest) = reader (byte ∷ rest)

-- items one after another up to the end of the text, so many at most
unfoldable pub items_within : {K A : Type 0} → Reader K A → ℕ → Reader K (List A)
items_within item zero = done []
items_within item (suc most) = unless_end [] (item >>= λ x. items_within item most >>= λ items. done (x ∷ items))

-- items up to the end of the text: each takes a byte at least
unfoldable pub items_at : {K A : Type 0} → Reader K A → Reader K (List A)
items_at item bytes = items_within item (length bytes) bytes
