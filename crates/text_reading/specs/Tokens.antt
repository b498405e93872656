-- The tokens of a text and the blanks between them. A form says which bytes may stand at the head of a text,
-- by the text and by what is left of it.
use Rattle.text_reading.specs.declared.tokens.Spot.{Spot}
use Rattle.text_reading.specs.declared.tokens.Spot.TheVariants as spots
use Rattle.std.specs.Prelude.{◌≡◌, ℕ, List, [], ◌∷◌, ◌++◌, Bool, true, false, ◌&&◌, ◌||◌, ◌==◌, nat_le, nat_lt, Option, None, Some}
use Rattle.std.specs.Bool.{MatchBool}
use Rattle.byte_reading.specs.Decimal.{decimal_text}

abbrev pub Form : Type 1
Form = List ℕ → List ℕ → Type 0

-- one form and then the next
infixr 10 ◌then◌
abbrev pub ◌then◌ : Form → Form → Form
(before then after) text rest = (between : List ℕ) × before text between × after between rest

-- space, tab, CR, LF
abbrev pub is_blank : ℕ → Bool
is_blank byte = byte == 32 || byte == 9 || byte == 13 || byte == 10

abbrev pub is_digit : ℕ → Bool
is_digit byte = nat_le 48 byte && nat_le byte 57

abbrev pub is_letter : ℕ → Bool
is_letter byte = (nat_le 65 byte && nat_le byte 90) || (nat_le 97 byte && nat_le byte 122)

-- a letter, a digit or `_`
abbrev pub is_word_byte : ℕ → Bool
is_word_byte byte = is_letter byte || is_digit byte || byte == 95

-- no byte of this kind is next
abbrev pub NoneNext : (ℕ → Bool) → List ℕ → Type 0
NoneNext kind [] = Unit {0}
NoneNext kind (byte ∷ rest) = kind byte ≡ false

-- all blanks from here on: spaces, tabs, line ends, and comments from `//` to the end of their line or of the text
abbrev pub BlanksFrom : Spot → Form
BlanksFrom spots.Outside [] rest = rest ≡ []
BlanksFrom spots.Outside (byte ∷ text) rest =
    MatchBool (is_blank byte) (BlanksFrom spots.Outside text rest)
    (MatchBool (byte == 47) (BlanksFrom spots.AfterSlash text rest) (rest ≡ byte ∷ text))
BlanksFrom spots.AfterSlash [] rest = ⊥
BlanksFrom spots.AfterSlash (byte ∷ text) rest = MatchBool (byte == 47) (BlanksFrom spots.InComment text rest) ⊥
BlanksFrom spots.InComment [] rest = rest ≡ []
BlanksFrom spots.InComment (byte ∷ text) rest = MatchBool (byte == 10) (BlanksFrom spots.Outside text rest) (BlanksFrom spots.InComment text rest)

abbrev pub Blanks : Form
Blanks = BlanksFrom spots.Outside

-- these bytes
abbrev pub Literal : List ℕ → Form
Literal bytes text rest = text ≡ bytes ++ rest

-- a mark, and the blanks behind it
abbrev pub Mark : List ℕ → Form
Mark bytes = Literal bytes then Blanks

-- these bytes as a word: no letter, digit or `_` goes on with it
abbrev pub WholeWord : List ℕ → Form
WholeWord bytes text rest = (text ≡ bytes ++ rest) × NoneNext is_word_byte rest

-- a word, and the blanks behind it
abbrev pub Word : List ℕ → Form
Word bytes = WholeWord bytes then Blanks

-- numbers of a kind may be limited to those below a number
abbrev pub is_within : Option ℕ → ℕ → Bool
is_within None n = true
is_within (Some limit) n = nat_lt n limit

-- a number in decimal, from its first digit to its last
pub record Digits (limit : Option ℕ) (n : ℕ) (text rest : List ℕ) : Type 0 where
  pub text_is : text ≡ decimal_text n ++ rest
  pub whole : NoneNext is_digit rest
  pub within : is_within limit n ≡ true

-- a number, and the blanks behind it
abbrev pub Number : Option ℕ → ℕ → Form
Number limit n = Digits limit n then Blanks
