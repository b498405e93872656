-- Words, labels and ids. Each is one token: it takes as many bytes as it can, and no blank stands in it.
use Rattle.std.specs.Prelude.{◌≡◌, ℕ, List, [], ◌∷◌, ◌++◌, Bool, true, not, ◌||◌, ◌&&◌, ◌==◌, nat_le, codes}
use Rattle.std.specs.List.{list_all}
use Rattle.std.specs.Str.{bytes_eq}
use Rattle.text_reading.specs.Tokens.{Form, is_letter, is_word_byte, NoneNext, WholeWord}

-- ---- words

-- a letter or `_`
abbrev pub is_word_start : ℕ → Bool
is_word_start byte = is_letter byte || byte == 95

-- a letter or `_`, then letters, digits and `_`
abbrev pub IsWord : List ℕ → Type 0
IsWord [] = ⊥
IsWord (byte ∷ more) = (is_word_start byte ≡ true) × (list_all is_word_byte more ≡ true)

-- this word, from its first letter to its last
pub record WordText (word text rest : List ℕ) : Type 0 where
  pub is_word : IsWord word
  pub whole : WholeWord word text rest

-- `type`, `libfunc` and `return` begin declarations: as labels of their own they are no ids
abbrev pub is_reserved : List ℕ → Bool
is_reserved word = bytes_eq word (codes "type") || (bytes_eq word (codes "libfunc") || bytes_eq word (codes "return"))

-- ---- groups and brackets

-- from space to `~`
abbrev pub is_printable : ℕ → Bool
is_printable byte = nat_le 32 byte && nat_le byte 126

abbrev pub is_group_byte : ℕ → Bool
is_group_byte byte = is_printable byte && not (byte == 60 || byte == 62)

abbrev pub is_bracket_byte : ℕ → Bool
is_bracket_byte byte = is_printable byte && not (byte == 91 || byte == 93)

-- what stands in a group: characters other than `<` and `>`, and groups
pub data Grouped : List ℕ → List ℕ → Type 0 where
  nothing : (rest : List ℕ) → Grouped rest rest
  character : (byte : ℕ) (text rest : List ℕ) → is_group_byte byte ≡ true → Grouped text rest → Grouped (byte ∷ text) rest
  group : (text between rest : List ℕ) → Grouped text (62 ∷ between) → Grouped between rest → Grouped (60 ∷ text) rest

-- what stands in a bracket: one character or more, other than `[` and `]`
pub data Bracketed : List ℕ → List ℕ → Type 0 where
  last : (byte : ℕ) (rest : List ℕ) → is_bracket_byte byte ≡ true → Bracketed (byte ∷ rest) rest
  character : (byte : ℕ) (text rest : List ℕ) → is_bracket_byte byte ≡ true → Bracketed text rest → Bracketed (byte ∷ text) rest

-- ---- labels

-- any number of tails: `::` and a word, `::` and a group, a group, a bracket
pub data Tails : List ℕ → List ℕ → Type 0 where
  no_more : (rest : List ℕ) → Tails rest rest
  path : (word text between rest : List ℕ) → WordText word text between → Tails between rest → Tails (58 ∷ 58 ∷ text) rest
  path_group : (text between rest : List ℕ) → Grouped text (62 ∷ between) → Tails between rest → Tails (58 ∷ 58 ∷ 60 ∷ text) rest
  group : (text between rest : List ℕ) → Grouped text (62 ∷ between) → Tails between rest → Tails (60 ∷ text) rest
  bracket : (text between rest : List ℕ) → Bracketed text (93 ∷ between) → Tails between rest → Tails (91 ∷ text) rest

-- with such a byte behind it a label would be longer, or its word another
abbrev pub is_label_byte : ℕ → Bool
is_label_byte byte = is_word_byte byte || (byte == 58 || (byte == 60 || byte == 91))

-- A label: a word and its tails. A bracket never directly follows a first word that is reserved.
pub record Label (label text rest : List ℕ) : Type 0 where
  pub word : List ℕ
  pub tails : List ℕ
  pub first_word : WordText word text tails
  pub tails_are : Tails tails rest
  pub no_bracket : is_reserved word ≡ true → NoneNext (λ byte. byte == 91) tails
  pub text_is : text ≡ label ++ rest
  pub whole : NoneNext is_label_byte rest

-- with such a byte behind it a reserved word would be the beginning of a longer label
abbrev pub makes_label : ℕ → Bool
makes_label byte = is_word_byte byte || (byte == 58 || byte == 60)

-- a reserved word that is no id's beginning
abbrev pub Reserved : List ℕ → Form
Reserved word text rest = (text ≡ word ++ rest) × NoneNext makes_label rest
