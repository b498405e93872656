-- Whole texts, and the place where bytes stop being the beginning of one.
use Rattle.std.specs.Prelude.{◌≡◌, ℕ, ◌+◌, List, [], ◌∷◌, ◌++◌, length, reverse, true, not, ◌==◌}
use Rattle.std.specs.List.{count_by, take_while}
use Rattle.text_reading.specs.Tokens.{Form, Blanks, is_digit}

-- items one after another, up to the end of the text
abbrev pub Items : {A : Type 0} → (A → Form) → List A → List ℕ → Type 0
Items item [] text = text ≡ []
Items item (x ∷ items) text = (rest : List ℕ) × item x text rest × Items item items rest

-- a text of items, with blanks before the first
abbrev pub TextOf : {A : Type 0} → (A → Form) → List A → List ℕ → Type 0
TextOf item items text = (start : List ℕ) × Blanks text start × Items item items start

-- some text of the language goes on from these bytes
abbrev pub Continues : {A : Type 0} → (A → List ℕ → Type 0) → List ℕ → Type 0
Continues {A} IsText front = (tree : A) × (more : List ℕ) × IsText tree (front ++ more)

-- the front of the text is its longest prefix that some text of the language goes on from
pub record IsPlace {A : Type 0} (IsText : A → List ℕ → Type 0) (text front rest : List ℕ) : Type 0 where
  pub parts : text ≡ front ++ rest
  pub before : Continues IsText front
  pub longest : (byte : ℕ) (more : List ℕ) → rest ≡ byte ∷ more → Continues IsText (front ++ (byte ∷ [])) → ⊥

-- the byte behind the front is a digit with which some text of the language goes on
pub record GoesOnWithDigit {A : Type 0} (IsText : A → List ℕ → Type 0) (front rest : List ℕ) : Type 0 where
  pub digit : ℕ
  pub more : List ℕ
  pub next : rest ≡ digit ∷ more
  pub is_digit : is_digit digit ≡ true
  pub goes_on : Continues IsText (front ++ (digit ∷ []))

-- the line of the byte behind these bytes, from 1: lines end at LF
abbrev pub line_behind : List ℕ → ℕ
line_behind bytes = count_by (λ byte. byte == 10) bytes + 1

-- the column of the byte behind these bytes, from 1: columns count bytes
abbrev pub column_behind : List ℕ → ℕ
column_behind bytes = length (take_while (λ byte. not (byte == 10)) (reverse bytes)) + 1
