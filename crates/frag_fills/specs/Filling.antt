-- How cells that have no word yet get one while a fragment goes: the cell of a query by its honest answer, and else at most one
-- cell, by what the equation of a piece leaves open. The honest run fills its cells so.
use Rattle.std.specs.Prelude.{◌≡◌, ◌≢◌, ◌⊎◌, ℕ, zero, suc, ◌+◌, ◌<◌, Bool, if◌then◌else◌, List, [], ◌∷◌, Option, Some, None, IsSome}
use Rattle.std.specs.Option.{option_map, option_and_then}
use Rattle.std.specs.FinMap.{get, insert}
use Rattle.felt64.specs.Field.{modulus, sum, product}
use Rattle.casm_word.specs.declared.instr.CellRef.{CellRef}
use Rattle.casm_word.specs.declared.cell_expr.At.{At}
use Rattle.casm_word.specs.declared.cell_expr.Side.{Side}
use Rattle.casm_word.specs.declared.cell_expr.Side.TheVariants as side
use Rattle.casm_word.specs.declared.cell_expr.CellExpr.{CellExpr}
use Rattle.casm_word.specs.declared.cell_expr.CellExpr.TheVariants as expr
use Rattle.ro_machine.specs.Cells.{Cells}
use Rattle.ro_machine.specs.Step.{moved}
use Rattle.casm_steps.specs.Reading.{reading_by}
use Rattle.hint_source.specs.declared.kind.Kind.{Kind}
use Rattle.hint_source.specs.declared.kind.Kind.TheVariants as kind
use Rattle.hint_source.specs.Honest.{honest_answer}
use Rattle.hint_source.specs.Remembered.{Remembered}
use Rattle.hint_source.specs.View.{is_fresh}
use Rattle.frag_code.specs.declared.piece.Piece.{Piece}
use Rattle.frag_code.specs.declared.piece.Piece.TheVariants as piece
use Rattle.frag_code.specs.Evaluation.{Tally, nothing, address_after, cell_after, word_after, Says}
use Rattle.frag_code.specs.Form.{has_jump}

-- no two numbers of the field have the same product with this one
pub record IsDivisor (n : ℕ) : Type 0 where
  pub some : n ≢ 0
  pub once : (u v : ℕ) → u < modulus → v < modulus → product u n ≡ product v n → u ≡ v

module _ (m : ℕ → Option ℕ) (place : At → ℕ) where
  -- one of two operands is the cell at this address, and the other one has a word, of which P holds
  abbrev pub IsBeside : (P : ℕ → Type 0) → At → Side → ℕ → Type 0
  IsBeside P at (side.Cell b) a = (w : ℕ) × P w × (((a ≡ place at) × (m (place b) ≡ Some w)) ⊎ ((a ≡ place b) × (m (place at) ≡ Some w)))
  IsBeside P at (side.Imm n) a = (a ≡ place at) × P n

  -- the expression's word and its other cells leave one word for the cell at this address
  abbrev pub IsOpenIn : CellExpr → ℕ → Type 0
  IsOpenIn (expr.Cell at) a = a ≡ place at
  IsOpenIn (expr.DoubleCell at inner) a = (w : ℕ) × (m (place at) ≡ Some w) × (a ≡ moved w inner)
  IsOpenIn (expr.Imm n) a = ⊥
  IsOpenIn (expr.Sum at s) a = IsBeside (λ w. Unit {0}) at s a
  IsOpenIn (expr.Diff at s) a = IsBeside (λ w. Unit {0}) at s a
  IsOpenIn (expr.Product at s) a = IsBeside IsDivisor at s a

  -- The equation says that cell c has the word of an expression. Of the cells that it names, the one at this address may still lack
  -- its word, and the others leave one for it.
  abbrev pub IsOpen : (c : ℕ) → CellExpr → ℕ → Type 0
  IsOpen c e a = ((a ≡ c) × IsSome (reading_by m place e)) ⊎ (IsSome (m c) × IsOpenIn e a)

-- The cells after an equation: those before, and at most one more, which gets the word of the field that the equation leaves for
-- it. Which word that is, is what the piece says of the cells after it.
abbrev pub Adds : Cells → (place : At → ℕ) → (c : ℕ) → CellExpr → Cells → Type 0
Adds m place c e more = (more ≡ m) ⊎ ((a w : ℕ) × (w < modulus) × (get m a ≡ None) × IsOpen (get m) place c e a × (more ≡ insert m a w))

abbrev pub with_two : (ℕ → ℕ → Kind ℕ) → Option ℕ → Option ℕ → Option (Kind ℕ)
with_two f a b = option_and_then (λ x. option_map (f x) b) a

abbrev pub with_three : (ℕ → ℕ → ℕ → Kind ℕ) → Option ℕ → Option ℕ → Option ℕ → Option (Kind ℕ)
with_three f a b c = option_and_then (λ x. with_two (f x) b c) a

-- the query with words in place of what stands for them, None where one of them isn't there
abbrev pub query_of : {A : Type 0} → (A → Option ℕ) → Kind A → Option (Kind ℕ)
query_of word (kind.Less a b) = with_two kind.Less (word a) (word b)
query_of word (kind.Quotient a b) = with_two kind.Quotient (word a) (word b)
query_of word (kind.Remainder a b) = with_two kind.Remainder (word a) (word b)
query_of word (kind.High a) = option_map kind.High (word a)
query_of word (kind.Low a) = option_map kind.Low (word a)
query_of word kind.Fresh = Some kind.Fresh
query_of word (kind.Previous log key) = with_two kind.Previous (word log) (word key)
query_of word (kind.KeyCount log) = option_map kind.KeyCount (word log)
query_of word (kind.KeyAt log i) = with_two kind.KeyAt (word log) (word i)
query_of word (kind.FirstAt log key) = with_two kind.FirstAt (word log) (word key)
query_of word (kind.NextIn log key index) = with_three kind.NextIn (word log) (word key) (word index)

-- what the honest source remembers once it has answered
abbrev pub once_answered : Kind ℕ → Remembered → Remembered
once_answered q r = if is_fresh q then record r { fresh = r.fresh + 1 } else r

-- A query of the honest source, for the cell at an address that has no word yet: the words that it asks for are there, the source
-- has an answer, a number of the field, and the cell gets it.
pub record Answers (query : Option (Kind ℕ)) (a : ℕ) (r : Remembered) (m : Cells) (s : Remembered) (more : Cells) : Type 0 where
  pub asked : Kind ℕ
  pub word : ℕ
  pub asks : query ≡ Some asked
  pub answer : honest_answer r.logs r.fresh asked ≡ Some word
  pub small : word < modulus
  pub open_ : get m a ≡ None
  pub added : more ≡ insert m a word
  pub remembers : s ≡ once_answered asked r

abbrev pub at_ref : CellRef → At
at_ref cell = record { base = cell.reg; off = cell.off }

-- what a piece adds to the cells at a tally, and what the honest source remembers then
abbrev pub Fills : (ap fp : ℕ) → Piece → Tally → Remembered → Cells → Remembered → Cells → Type 0
Fills ap fp (piece.Let e) t r m s more = (s ≡ r) × Adds m (address_after ap fp t.change) (sum ap t.change) e more
Fills ap fp (piece.Reserve n) t r m s more = (s ≡ r) × (more ≡ m)
Fills ap fp (piece.Hint cell ask) t r m s more = Answers (query_of (word_after (get m) ap fp t.change) ask) (cell_after ap fp t.change cell) r m s more
Fills ap fp (piece.Assert cell e) t r m s more = (s ≡ r) × Adds m (address_after ap fp t.change) (cell_after ap fp t.change cell) e more
Fills ap fp (piece.Range pointer at cell) t r m s more =
    (s ≡ r) × Adds m (address_after ap fp t.change) (cell_after ap fp t.change cell) (expr.DoubleCell (at_ref pointer) at) more
Fills ap fp (piece.IfNonZero cell to) t r m s more = (s ≡ r) × (more ≡ m)
Fills ap fp (piece.Exit x) t r m s more = (s ≡ r) × (more ≡ m)

-- where a filling has come to: the counts, what the honest source remembers, and the cells
pub record Filled : Type 0 where
  pub end : Tally
  pub remembered : Remembered
  pub cells : Cells

-- The evaluation of the pieces from position i on, of which so many are passed over first, over cells that the pieces fill as it
-- goes: each piece says of the cells after it what it says in an evaluation.
unfoldable pub FillsFrom : (ap fp : ℕ) → (jumps : Bool) → List Piece → (i skip : ℕ) → Tally → Remembered → Cells → (k : ℕ) → Filled → Type 0
FillsFrom ap fp jumps [] i skip t r m k z = ⊥
FillsFrom ap fp jumps (p ∷ ps) i (suc skip) t r m k z = FillsFrom ap fp jumps ps (i + 1) skip t r m k z
FillsFrom ap fp jumps (p ∷ ps) i zero t r m k z =
    (s : Remembered) × (more : Cells) × Fills ap fp p t r m s more
    × Says (get more) ap fp jumps p i t (λ skip u. FillsFrom ap fp jumps ps (i + 1) skip u s more k z) (λ x u. (k ≡ x) × (z ≡ record { end = u; remembered = s; cells = more }))

-- The fragment, from ap and fp, fills the cells by the honest source's answers and comes to the exit k.
abbrev pub Filling : List Piece → (ap fp : ℕ) → Remembered → Cells → (k : ℕ) → Filled → Type 0
Filling f ap fp r m k z = FillsFrom ap fp (has_jump f) f 0 0 nothing r m k z
