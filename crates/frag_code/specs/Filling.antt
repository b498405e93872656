-- What the equation of one step gives: words for cells that the step reads and that have none yet. It goes by the flags of
-- the step and knows no pieces. The honest run fills its cells so.
use Rattle.std.specs.Prelude.{◌≡◌, ◌≢◌, ◌⊎◌, ℕ, ◌<◌, Some, None}
use Rattle.std.specs.FinMap.{get, insert}
use Rattle.felt64.specs.Field.{modulus, difference, product}
use Rattle.casm_word.specs.declared.flags.Op1.{Op1}
use Rattle.casm_word.specs.declared.flags.Op1.TheVariants as op1
use Rattle.casm_word.specs.declared.flags.ResKind.{ResKind}
use Rattle.casm_word.specs.declared.flags.ResKind.TheVariants as res
use Rattle.casm_word.specs.declared.flags.Opcode.TheVariants as opcode
use Rattle.casm_word.specs.declared.flags.Flags.{Flags}
use Rattle.ro_machine.specs.declared.machine.State.{State}
use Rattle.ro_machine.specs.Cells.{Cells}
use Rattle.ro_machine.specs.Step.{dst_address, op0_address, op1_address, next_instruction, res_of}

module _ (m : Cells) (f : Flags) (s : State) where
  -- the cell has a word
  abbrev pub Dst : ℕ → Type 0
  Dst w = get m (dst_address f s) ≡ Some w

  abbrev pub Op0 : ℕ → Type 0
  Op0 w = get m (op0_address f s) ≡ Some w

  -- op1 lies at this address, which needs op0 only where it counts from op0's word
  abbrev pub Op1At : Op1 → ℕ → Type 0
  Op1At op1.Op0 at = (w : ℕ) × Op0 w × (at ≡ op1_address f s w)
  Op1At op1.Imm at = at ≡ op1_address f s 0
  Op1At op1.Fp at = at ≡ op1_address f s 0
  Op1At op1.Ap at = at ≡ op1_address f s 0

  abbrev pub Op1Is : ℕ → Type 0
  Op1Is w = (at : ℕ) × Op1At f.op1 at × (get m at ≡ Some w)

  -- the res of the step, of which op0 is needed only for a sum or a product
  abbrev pub ResIs : ResKind → ℕ → Type 0
  ResIs res.Op1 w = Op1Is w
  ResIs res.Add w = (x : ℕ) × (y : ℕ) × Op0 x × Op1Is y × (w ≡ res_of res.Add x y)
  ResIs res.Mul w = (x : ℕ) × (y : ℕ) × Op0 x × Op1Is y × (w ≡ res_of res.Mul x y)

  -- this is one of op0 and op1, and the other one has the word
  abbrev pub IsOperandBeside : ℕ → ℕ → Type 0
  IsOperandBeside at other = ((at ≡ op0_address f s) × Op1Is other) ⊎ (Op1At f.op1 at × Op0 other)

  -- the rows of the table: the cell at an address gets a word
  abbrev pub Row : Type 1
  Row = ℕ → ℕ → Type 0

  -- a call gives dst the word of fp
  abbrev pub SavesFrame : Row
  SavesFrame at w = (f.opcode ≡ opcode.Call) × (at ≡ dst_address f s) × (w ≡ s.fp)

  -- a call gives op0 the place of the next instruction
  abbrev pub SavesPlace : Row
  SavesPlace at w = (f.opcode ≡ opcode.Call) × (at ≡ op0_address f s) × (w ≡ next_instruction f s)

  -- without a sum or a product, an assertion gives op1 the word of dst
  abbrev pub GivesRight : Row
  GivesRight at w = (f.opcode ≡ opcode.AssertEq) × (f.res ≡ res.Op1) × Op1At f.op1 at × Dst w

  -- a sum gives its one operand without a word what dst and the other differ by
  abbrev pub GivesAddend : Row
  GivesAddend at w = (f.opcode ≡ opcode.AssertEq) × (f.res ≡ res.Add) × (d : ℕ) × (other : ℕ) × Dst d × IsOperandBeside at other × (w ≡ difference d other)

  -- a product gives its one operand without a word the quotient of dst by the other, which isn't 0: the one number of the
  -- field whose product with it is dst
  abbrev pub GivesFactor : Row
  GivesFactor at w =
      (f.opcode ≡ opcode.AssertEq) × (f.res ≡ res.Mul) × (d : ℕ) × (other : ℕ) × Dst d × IsOperandBeside at other
      × (other ≢ 0) × (w < modulus) × (product w other ≡ d) × ((v : ℕ) → v < modulus → product v other ≡ d → v ≡ w)

  -- an assertion gives dst the word of res
  abbrev pub GivesLeft : Row
  GivesLeft at w = (f.opcode ≡ opcode.AssertEq) × (at ≡ dst_address f s) × ResIs f.res w

-- a row is taken: it gives a cell without a word its word, or it has none to give
abbrev pub TakesRow : (Cells → Flags → State → ℕ → ℕ → Type 0) → Flags → State → Cells → Cells → Type 0
TakesRow row f s m more =
    ((at : ℕ) × (w : ℕ) × row m f s at w × (get m at ≡ None) × (more ≡ insert m at w))
    ⊎ (((at w : ℕ) → row m f s at w → get m at ≢ None) × (more ≡ m))

-- The rows are taken once, in this order: the cells with the words that the equation of the step gives.
pub record Gives (f : Flags) (s : State) (m more : Cells) : Type 0 where
  pub saved_frame : Cells
  pub saved_place : Cells
  pub right : Cells
  pub addend : Cells
  pub factor : Cells
  pub saves_frame : TakesRow SavesFrame f s m saved_frame
  pub saves_place : TakesRow SavesPlace f s saved_frame saved_place
  pub gives_right : TakesRow GivesRight f s saved_place right
  pub gives_addend : TakesRow GivesAddend f s right addend
  pub gives_factor : TakesRow GivesFactor f s addend factor
  pub gives_left : TakesRow GivesLeft f s factor more
