-- The readers of CASM text read exactly the forms of its definition.
use Rattle.std.proofs.Common.{◌≡◌, ◌≢◌, ℕ, zero, suc, ◌-◌, List, [], ◌∷◌, Bool, true, false, eqb, Option, None, Some, refl, sym, ◌∙◌, subst, inl, inr, arith}
use Rattle.std.specs.Prelude.{ℤ, pos, negsuc, codes, option_map}
use Rattle.felt64.specs.Field.{modulus}
use Rattle.casm_word.specs.declared.instr.Reg.{Reg}
use Rattle.casm_word.specs.declared.instr.Reg.TheVariants as regs
use Rattle.casm_word.specs.declared.instr.CellRef.{CellRef}
use Rattle.casm_word.specs.declared.instr.Operand.{Operand}
use Rattle.casm_word.specs.declared.instr.Operand.TheVariants as operands
use Rattle.casm_word.specs.declared.instr.Res.{Res}
use Rattle.casm_word.specs.declared.instr.Res.TheVariants as results
use Rattle.casm_word.specs.declared.instr.Instr.{Instr}
use Rattle.casm_word.specs.declared.instr.Instr.TheVariants as instrs
use Rattle.text_reading.specs.Tokens.{Form, ◌then◌, is_digit, Mark, Word, Number}
use Rattle.text_reading.specs.Reading.{begins}
use Rattle.text_reading.proofs.TokenFacts.{IsWide}
use Rattle.text_reading.proofs.Exact.{IsExact, Then, Made, Or, exact_as, exact_then, exact_last, exact_done, exact_branch, exact_mark, exact_word, exact_number, exact_positive, mark_begins, word_begins, number_begins}
use Rattle.casm_text.specs.declared.fault.NumberKind.TheVariants as kinds
use Rattle.casm_text.specs.Text.{Limits, Register, Ending, Base, Offset, Imm, Cell, OperandText, ResText, InstrText}
use Rattle.casm_word.specs.Offset.{minus}
use Rattle.casm_text.specs.Reading.{register_at, ending_at, offset_at, imm_at, inner_at, cell_rest_at, cell_at, operand_at, behind_cell_at, double_at, bracket_at, res_at, assert_at, jnz_at, jump_end_at, relative_end_at, jump_at, base_at, call_at, add_ap_at, ret_at, instr_at}

-- the limits that a text may have: a first digit passes none
pub record AreWide (limits : Limits) : Type 0 where
  pub offset : IsWide limits.offset
  pub imm : IsWide limits.imm

-- the limit of the numbers that `-` may stand before
wide_suc : (limit : Option ℕ) → IsWide limit → IsWide (option_map suc limit)
wide_suc None wide = tt
wide_suc (Some limit) wide = omega arith

-- ---- registers, `rel` and `abs`, and how an instruction ends

register_back : (reg : Reg) (text rest : List ℕ) → Register reg text rest → Or 97 (Made (λ (unit : Unit {0}). regs.Ap) (λ _. Word (codes "ap"))) (Made (λ (unit : Unit {0}). regs.Fp) (λ _. Word (codes "fp"))) reg text rest
register_back regs.Ap text rest h = inl (tt, refl, h)
register_back regs.Fp text rest h = inr (word_begins 102 97 (112 ∷ []) text rest h, (tt, refl, h))

register_exact : IsExact register_at Register
unfolding register_at
register_exact =
    exact_as
    (exact_branch 97 (exact_last (λ _. regs.Ap) (exact_word (codes "ap"))) (exact_last (λ _. regs.Fp) (exact_word (codes "fp")))
    (λ reg text rest h. word_begins 97 97 (112 ∷ []) text rest h.2))
    (λ reg text rest h. elim h [ inl w ↦ subst (λ r. Register r text rest) w.1 w.2 | inr w ↦ subst (λ r. Register r text rest) w.1.1 w.1.2 ])
    register_back

base_back : (rel : Bool) (text rest : List ℕ) → Base rel text rest → Or 114 (Made (λ (unit : Unit {0}). true) (λ _. Word (codes "rel"))) (Made (λ (unit : Unit {0}). false) (λ _. Word (codes "abs"))) rel text rest
base_back true text rest h = inl (tt, refl, h)
base_back false text rest h = inr (word_begins 97 114 (98 ∷ 115 ∷ []) text rest h, (tt, refl, h))

base_exact : IsExact base_at Base
unfolding base_at
base_exact =
    exact_as
    (exact_branch 114 (exact_last (λ _. true) (exact_word (codes "rel"))) (exact_last (λ _. false) (exact_word (codes "abs")))
    (λ rel text rest h. word_begins 114 114 (101 ∷ 108 ∷ []) text rest h.2))
    (λ rel text rest h. elim h [ inl w ↦ subst (λ r. Base r text rest) w.1 w.2 | inr w ↦ subst (λ r. Base r text rest) w.1.1 w.1.2 ])
    base_back

ending_back : (inc : Bool) (text rest : List ℕ) → Ending inc text rest
    → Or 44 (Then (λ (unit : Unit {0}). Mark (codes ",")) (λ _. Then (λ (unit : Unit {0}). Word (codes "ap")) (λ _. Then (λ (unit : Unit {0}). Mark (codes "++")) (λ _. Made (λ (unit : Unit {0}). true) (λ _. Mark (codes ";"))))))
    (Made (λ (unit : Unit {0}). false) (λ _. Mark (codes ";"))) inc text rest
ending_back true text rest h = inl (tt, h.0, h.1, (tt, h.2.0, h.2.1, (tt, h.2.2.0, h.2.2.1, (tt, refl, h.2.2.2))))
ending_back false text rest h = inr (mark_begins 59 44 [] text rest h, (tt, refl, h))

ending_exact : IsExact ending_at Ending
unfolding ending_at
ending_exact =
    exact_as
    (exact_branch 44
    (exact_then (exact_mark (codes ",")) (λ _. exact_then (exact_word (codes "ap")) (λ _. exact_then (exact_mark (codes "++")) (λ _. exact_last (λ _. true) (exact_mark (codes ";"))))))
    (exact_last (λ _. false) (exact_mark (codes ";")))
    (λ inc text rest h. mark_begins 44 44 [] text h.1 h.2))
    (λ inc text rest h. elim h [
      | inl w ↦ subst (λ r. Ending r text rest) w.3.3.3.1 (w.1, w.2, (w.3.1, w.3.2, (w.3.3.1, w.3.3.2, w.3.3.3.2)))
      | inr w ↦ subst (λ r. Ending r text rest) w.1.1 w.1.2
    ])
    ending_back

-- an instruction ends with `,` or `;`
ending_begins : (inc : Bool) (other : ℕ) (text rest : List ℕ) → eqb 44 other ≡ false → eqb 59 other ≡ false → Ending inc text rest → begins other text ≡ false
ending_begins true other text rest comma semicolon h = mark_begins 44 other [] text h.0 h.1 ∙ comma
ending_begins false other text rest comma semicolon h = mark_begins 59 other [] text rest h ∙ semicolon

module _ (limits : Limits) (wide : AreWide limits) where
  abbrev NegativeOffset : ℤ → Form
  NegativeOffset = Then (λ (unit : Unit {0}). Mark (codes "-")) (λ _. Made minus (λ n text rest. (n ≢ 0) × Number (option_map suc limits.offset) n text rest))

  offset_there : (z : ℤ) (text rest : List ℕ) → Or 45 NegativeOffset (Made pos (Number limits.offset)) z text rest → Offset limits z text rest
  offset_there z text rest (inl w) = go w.3.0 w.3.1 w.3.2.0 w.3.2.1
    where
      go : (n : ℕ) → minus n ≡ z → n ≢ 0 → Number (option_map suc limits.offset) n w.1 rest → Offset limits z text rest
      go zero is some number = absurd (some refl)
      go (suc n) is some number = subst (λ o. Offset limits o text rest) is (w.1, w.2, number)
  offset_there z text rest (inr w) = subst (λ o. Offset limits o text rest) w.1.1 w.1.2

  offset_back : (z : ℤ) (text rest : List ℕ) → Offset limits z text rest → Or 45 NegativeOffset (Made pos (Number limits.offset)) z text rest
  offset_back (pos n) text rest h = inr (number_begins limits.offset n 45 text rest refl h, (n, refl, h))
  offset_back (negsuc n) text rest h = inl (tt, h.0, h.1, (suc n, refl, (λ e. omega arith, h.2)))

  offset_exact : IsExact (offset_at limits) (Offset limits)
  unfolding offset_at
  offset_exact =
      exact_as
      (exact_branch 45
      (exact_then (exact_mark (codes "-")) (λ _. exact_last minus (exact_positive (option_map suc limits.offset) kinds.Offset (wide_suc limits.offset wide.offset))))
      (exact_last pos (exact_number limits.offset kinds.Offset wide.offset))
      (λ z text rest h. mark_begins 45 45 [] text h.1 h.2))
      offset_there offset_back

  abbrev Negative : ℕ → Form
  Negative = Then (λ (unit : Unit {0}). Mark (codes "-")) (λ _. Made (λ n. modulus - n) (λ n text rest. (n ≢ 0) × Number limits.imm n text rest))

  imm_back : (n : ℕ) (text rest : List ℕ) → Imm limits n text rest → Or 45 Negative (Number limits.imm) n text rest
  imm_back n text rest (inl h) = inr (number_begins limits.imm n 45 text rest refl h, h)
  imm_back n text rest (inr h) = inl (tt, h.3.0, h.3.1, (h.0, sym h.2, (h.1, h.3.2)))

  imm_exact : IsExact (imm_at limits) (Imm limits)
  unfolding imm_at
  imm_exact =
      exact_as
      (exact_branch 45
      (exact_then (exact_mark (codes "-")) (λ _. exact_last (λ n. modulus - n) (exact_positive limits.imm kinds.Imm wide.imm)))
      (exact_number limits.imm kinds.Imm wide.imm)
      (λ z text rest h. mark_begins 45 45 [] text h.1 h.2))
      (λ n text rest h. elim h [ inl w ↦ inr (w.3.0, w.3.2.0, sym w.3.1, (w.1, w.2, w.3.2.1)) | inr w ↦ inl w.1 ])
      imm_back

  -- an immediate begins with `-` or a digit
  imm_begins : (n other : ℕ) (text rest : List ℕ) → eqb 45 other ≡ false → is_digit other ≡ false → Imm limits n text rest → begins other text ≡ false
  imm_begins n other text rest minus digit (inl h) = number_begins limits.imm n other text rest digit h
  imm_begins n other text rest minus digit (inr h) = mark_begins 45 other [] text h.3.0 h.3.1 ∙ minus

  abbrev Inner : ℤ → Form
  Inner z = Mark (codes "+") then Offset limits z then Mark (codes "]")

  inner_exact : IsExact (inner_at limits) Inner
  unfolding inner_at
  inner_exact =
      exact_as
      (exact_then (exact_mark (codes "+")) (λ _. exact_then offset_exact (λ z. exact_last (λ _. z) (exact_mark (codes "]")))))
      (λ z text rest h. subst (λ o. Inner o text rest) h.3.3.1 (h.1, h.2, (h.3.1, h.3.2, h.3.3.2)))
      (λ z text rest h. (tt, h.0, h.1, (z, h.2.0, h.2.1, (tt, refl, h.2.2))))

  abbrev CellRest : CellRef → Form
  CellRest c = Register c.reg then Inner c.off

  cell_rest_exact : IsExact (cell_rest_at limits) CellRest
  unfolding cell_rest_at
  cell_rest_exact =
      exact_as
      (exact_then register_exact (λ reg. exact_last (λ z. record { reg = reg; off = z }) inner_exact))
      (λ c text rest h. subst (λ d. CellRest d text rest) h.3.1 (h.1, h.2, h.3.2))
      (λ c text rest h. (c.reg, h.0, h.1, (c.off, refl, h.2)))

  cell_exact : IsExact (cell_at limits) (Cell limits)
  unfolding cell_at
  cell_exact =
      exact_as
      (exact_then (exact_mark (codes "[")) (λ _. cell_rest_exact))
      (λ c text rest h. (h.1, h.2, h.3))
      (λ c text rest h. (tt, h.0, h.1, h.2))

  operand_back : (o : Operand) (text rest : List ℕ) → OperandText limits o text rest → Or 91 (Made operands.Cell (Cell limits)) (Made operands.Imm (Imm limits)) o text rest
  operand_back (operands.Cell c) text rest h = inl (c, refl, h)
  operand_back (operands.Imm n) text rest h = inr (imm_begins n 91 text rest refl refl h, (n, refl, h))

  operand_exact : IsExact (operand_at limits) (OperandText limits)
  unfolding operand_at
  operand_exact =
      exact_as
      (exact_branch 91 (exact_last operands.Cell cell_exact) (exact_last operands.Imm imm_exact) (λ o text rest h. mark_begins 91 91 [] text h.2.0 h.2.1))
      (λ o text rest h. elim h [ inl w ↦ subst (λ p. OperandText limits p text rest) w.1 w.2 | inr w ↦ subst (λ p. OperandText limits p text rest) w.1.1 w.1.2 ])
      operand_back

  -- ---- results

  -- Behind a cell that is all of a result neither `+` nor `*` is next.
  abbrev NoOperator : Res → List ℕ → Type 0
  NoOperator (results.Cell c) rest = (begins 43 rest ≡ false) × (begins 42 rest ≡ false)
  NoOperator (results.Double c z) rest = Unit {0}
  NoOperator (results.Imm n) rest = Unit {0}
  NoOperator (results.Add c o) rest = Unit {0}
  NoOperator (results.Mul c o) rest = Unit {0}

  -- a result as far as it goes
  abbrev WholeRes : Res → Form
  WholeRes res text rest = ResText limits res text rest × NoOperator res rest

  abbrev BehindCell : CellRef → Res → Form
  BehindCell c =
      Or 43 (Then (λ (unit : Unit {0}). Mark (codes "+")) (λ _. Made (results.Add c) (OperandText limits)))
      (Or 42 (Then (λ (unit : Unit {0}). Mark (codes "*")) (λ _. Made (results.Mul c) (OperandText limits)))
      (λ res text rest. (results.Cell c ≡ res) × (text ≡ rest)))

  behind_cell_exact : (c : CellRef) → IsExact (behind_cell_at limits c) (BehindCell c)
  unfolding behind_cell_at
  behind_cell_exact c =
      exact_branch 43 (exact_then (exact_mark (codes "+")) (λ _. exact_last (results.Add c) operand_exact))
      (exact_branch 42 (exact_then (exact_mark (codes "*")) (λ _. exact_last (results.Mul c) operand_exact)) (exact_done (results.Cell c))
      (λ res text rest h. mark_begins 42 42 [] text h.1 h.2))
      (λ res text rest h. mark_begins 43 43 [] text h.1 h.2)

  abbrev DoubleRes : Res → Form
  DoubleRes = Then (Cell limits) (λ c. Made (results.Double c) Inner)

  abbrev Bracket : Res → Form
  Bracket = Or 91 DoubleRes (Then CellRest BehindCell)

  bracket_exact : IsExact (bracket_at limits) Bracket
  unfolding bracket_at double_at
  bracket_exact =
      exact_branch 91 (exact_then cell_exact (λ c. exact_last (results.Double c) inner_exact)) (exact_then cell_rest_exact behind_cell_exact)
      (λ res text rest h. mark_begins 91 91 [] text h.2.0 h.2.1)

  abbrev AnyRes : Res → Form
  AnyRes = Or 91 (Then (λ (unit : Unit {0}). Mark (codes "[")) (λ _. Bracket)) (Made results.Imm (Imm limits))

  behind_there : (c : CellRef) (res : Res) (text between rest : List ℕ) → Cell limits c text between → BehindCell c res between rest → WholeRes res text rest
  behind_there c res text between rest cell (inl w) = subst (λ r. WholeRes r text rest) w.3.1 ((between, cell, (w.1, w.2, w.3.2)), tt)
  behind_there c res text between rest cell (inr (plus, inl w)) = subst (λ r. WholeRes r text rest) w.3.1 ((between, cell, (w.1, w.2, w.3.2)), tt)
  behind_there c res text between rest cell (inr (plus, inr (times, (is, same)))) =
      subst (λ r. WholeRes r text rest) is
      (subst (λ (t : List ℕ). WholeRes (results.Cell c) text t) same (cell, (plus, times)))

  bracket_there : (res : Res) (text between rest : List ℕ) → Mark (codes "[") text between → Bracket res between rest → WholeRes res text rest
  bracket_there res text between rest mark (inl w) = subst (λ r. WholeRes r text rest) w.3.1 ((between, mark, (w.1, w.2, w.3.2)), tt)
  bracket_there res text between rest mark (inr w) = behind_there w.1.0 res text w.1.1 rest (between, mark, w.1.2) w.1.3

  res_there : (res : Res) (text rest : List ℕ) → AnyRes res text rest → WholeRes res text rest
  res_there res text rest (inl w) = bracket_there res text w.1 rest w.2 w.3
  res_there res text rest (inr w) = subst (λ r. WholeRes r text rest) w.1.1 (w.1.2, tt)

  -- a register is no `[`
  rest_begins : (c : CellRef) (text rest : List ℕ) → CellRest c text rest → begins 91 text ≡ false
  rest_begins c text rest h = go c.reg h.1
    where
      go : (reg : Reg) → Register reg text h.0 → begins 91 text ≡ false
      go regs.Ap word = word_begins 97 91 (112 ∷ []) text h.0 word
      go regs.Fp word = word_begins 102 91 (112 ∷ []) text h.0 word

  res_back : (res : Res) (text rest : List ℕ) → WholeRes res text rest → AnyRes res text rest
  res_back (results.Cell c) text rest h =
      inl (tt, h.0.0, h.0.1, inr (rest_begins c h.0.0 rest h.0.2, (c, rest, h.0.2, inr (h.1.0, inr (h.1.1, (refl, refl))))))
  res_back (results.Double c z) text rest h = inl (tt, h.0.0, h.0.1, inl (c, h.0.2.0, h.0.2.1, (z, refl, h.0.2.2)))
  res_back (results.Imm n) text rest h = inr (imm_begins n 91 text rest refl refl h.0, (n, refl, h.0))
  res_back (results.Add c o) text rest h =
      let cell = h.0.1 in
      inl (tt, cell.0, cell.1, inr (rest_begins c cell.0 h.0.0 cell.2, (c, h.0.0, cell.2, inl (tt, h.0.2.0, h.0.2.1, (o, refl, h.0.2.2)))))
  res_back (results.Mul c o) text rest h =
      let cell = h.0.1 in
      inl (
        tt,
        cell.0,
        cell.1,
        inr (
          rest_begins c cell.0 h.0.0 cell.2,
          (
            c,
            h.0.0,
            cell.2,
            inr (mark_begins 42 43 [] h.0.0 h.0.2.0 h.0.2.1, inl (tt, h.0.2.0, h.0.2.1, (o, refl, h.0.2.2))),
          ),
        ),
      )

  res_exact : IsExact (res_at limits) WholeRes
  unfolding res_at
  res_exact =
      exact_as
      (exact_branch 91 (exact_then (exact_mark (codes "[")) (λ _. bracket_exact)) (exact_last results.Imm imm_exact) (λ res text rest h. mark_begins 91 91 [] text h.1 h.2))
      res_there res_back

  -- what doesn't begin with `+` or `*` leaves a result whole
  res_whole : (res : Res) (rest : List ℕ) → begins 43 rest ≡ false → begins 42 rest ≡ false → NoOperator res rest
  res_whole (results.Cell c) rest plus times = (plus, times)
  res_whole (results.Double c z) rest plus times = tt
  res_whole (results.Imm n) rest plus times = tt
  res_whole (results.Add c o) rest plus times = tt
  res_whole (results.Mul c o) rest plus times = tt

  -- ---- instructions

  abbrev Assert : Instr → Form
  Assert = Then (Cell limits) (λ dst. Then (λ (unit : Unit {0}). Mark (codes "=")) (λ _. Then WholeRes (λ res. Made (instrs.AssertEq dst res) Ending)))

  abbrev JnzEnd : Operand → Instr → Form
  JnzEnd to =
      Then (λ (unit : Unit {0}). Word (codes "if")) (λ _. Then (Cell limits) (λ cond. Then (λ (unit : Unit {0}). Mark (codes "!=")) (λ _.
      Then (λ (unit : Unit {0}). Mark (codes "0")) (λ _. Made (instrs.Jnz cond to) Ending))))

  abbrev JumpEnd : Bool → Res → Instr → Form
  JumpEnd rel to = Made (instrs.Jump rel to) Ending

  abbrev RelativeEnd : Res → Instr → Form
  RelativeEnd (results.Cell c) = Or 105 (JnzEnd (operands.Cell c)) (JumpEnd true (results.Cell c))
  RelativeEnd (results.Imm n) = Or 105 (JnzEnd (operands.Imm n)) (JumpEnd true (results.Imm n))
  RelativeEnd (results.Double c z) = JumpEnd true (results.Double c z)
  RelativeEnd (results.Add c o) = JumpEnd true (results.Add c o)
  RelativeEnd (results.Mul c o) = JumpEnd true (results.Mul c o)

  abbrev JumpText : Instr → Form
  JumpText =
      Then (λ (unit : Unit {0}). Word (codes "jmp")) (λ _.
      Or 114 (Then (λ (unit : Unit {0}). Word (codes "rel")) (λ _. Then WholeRes RelativeEnd))
      (Then (λ (unit : Unit {0}). Word (codes "abs")) (λ _. Then WholeRes (JumpEnd false))))

  abbrev CallText : Instr → Form
  CallText =
      Then (λ (unit : Unit {0}). Word (codes "call")) (λ _. Then Base (λ rel. Then (OperandText limits) (λ to. Made (λ (unit : Unit {0}). instrs.Call rel to) (λ _. Mark (codes ";")))))

  abbrev AddApText : Instr → Form
  AddApText =
      Then (λ (unit : Unit {0}). Word (codes "ap")) (λ _. Then (λ (unit : Unit {0}). Mark (codes "+=")) (λ _. Then WholeRes (λ by. Made (λ (unit : Unit {0}). instrs.AddAp by) (λ _. Mark (codes ";")))))

  abbrev RetText : Instr → Form
  RetText = Then (λ (unit : Unit {0}). Word (codes "ret")) (λ _. Made (λ (unit : Unit {0}). instrs.Ret) (λ _. Mark (codes ";")))

  jnz_exact : (to : Operand) → IsExact (jnz_at limits to) (JnzEnd to)
  unfolding jnz_at
  jnz_exact to =
      exact_then (exact_word (codes "if")) (λ _. exact_then cell_exact (λ cond. exact_then (exact_mark (codes "!=")) (λ _.
      exact_then (exact_mark (codes "0")) (λ _. exact_last (instrs.Jnz cond to) ending_exact))))

  jump_end_exact : (rel : Bool) (to : Res) → IsExact (jump_end_at rel to) (JumpEnd rel to)
  unfolding jump_end_at
  jump_end_exact rel to = exact_last (instrs.Jump rel to) ending_exact

  relative_end_exact : (to : Res) → IsExact (relative_end_at limits to) (RelativeEnd to)
  unfolding relative_end_at
  relative_end_exact (results.Cell c) = exact_branch 105 (jnz_exact (operands.Cell c)) (jump_end_exact true (results.Cell c)) (λ i text rest h. word_begins 105 105 (102 ∷ []) text h.1 h.2)
  relative_end_exact (results.Imm n) = exact_branch 105 (jnz_exact (operands.Imm n)) (jump_end_exact true (results.Imm n)) (λ i text rest h. word_begins 105 105 (102 ∷ []) text h.1 h.2)
  relative_end_exact (results.Double c z) = jump_end_exact true (results.Double c z)
  relative_end_exact (results.Add c o) = jump_end_exact true (results.Add c o)
  relative_end_exact (results.Mul c o) = jump_end_exact true (results.Mul c o)

  assert_exact : IsExact (assert_at limits) Assert
  unfolding assert_at
  assert_exact = exact_then cell_exact (λ dst. exact_then (exact_mark (codes "=")) (λ _. exact_then res_exact (λ res. exact_last (instrs.AssertEq dst res) ending_exact)))

  jump_exact : IsExact (jump_at limits) JumpText
  unfolding jump_at
  jump_exact =
      exact_then (exact_word (codes "jmp")) (λ _.
      exact_branch 114 (exact_then (exact_word (codes "rel")) (λ _. exact_then res_exact relative_end_exact))
      (exact_then (exact_word (codes "abs")) (λ _. exact_then res_exact (jump_end_exact false)))
      (λ i text rest h. word_begins 114 114 (101 ∷ 108 ∷ []) text h.1 h.2))

  call_exact : IsExact (call_at limits) CallText
  unfolding call_at
  call_exact = exact_then (exact_word (codes "call")) (λ _. exact_then base_exact (λ rel. exact_then operand_exact (λ to. exact_last (λ _. instrs.Call rel to) (exact_mark (codes ";")))))

  add_ap_exact : IsExact (add_ap_at limits) AddApText
  unfolding add_ap_at
  add_ap_exact = exact_then (exact_word (codes "ap")) (λ _. exact_then (exact_mark (codes "+=")) (λ _. exact_then res_exact (λ by. exact_last (λ _. instrs.AddAp by) (exact_mark (codes ";")))))

  ret_exact : IsExact ret_at RetText
  unfolding ret_at
  ret_exact = exact_then (exact_word (codes "ret")) (λ _. exact_last (λ _. instrs.Ret) (exact_mark (codes ";")))

  abbrev AnyInstr : Instr → Form
  AnyInstr = Or 91 Assert (Or 106 JumpText (Or 99 CallText (Or 97 AddApText RetText)))

  jnz_there : (i : Instr) (to : Operand) (text behind_jmp behind_rel behind_to rest : List ℕ) → Word (codes "jmp") text behind_jmp → Word (codes "rel") behind_jmp behind_rel
      → OperandText limits to behind_rel behind_to → JnzEnd to i behind_to rest → InstrText limits i text rest
  jnz_there i to text behind_jmp behind_rel behind_to rest jmp rel operand w =
      let cond = w.3 in
      let differs = cond.3 in
      let none = differs.3 in
      let end = none.3 in
      subst (λ j. InstrText limits j text rest) end.1
      (behind_jmp, jmp, (behind_rel, rel, (behind_to, operand, (w.1, w.2, (cond.1, cond.2, (differs.1, differs.2, (none.1, none.2, end.2)))))))

  jump_there : (i : Instr) (is_rel : Bool) (to : Res) (text behind_jmp behind_base behind_to rest : List ℕ) → Word (codes "jmp") text behind_jmp → Base is_rel behind_jmp behind_base
      → ResText limits to behind_base behind_to → JumpEnd is_rel to i behind_to rest → InstrText limits i text rest
  jump_there i is_rel to text behind_jmp behind_base behind_to rest jmp base res w =
      subst (λ j. InstrText limits j text rest) w.1 (behind_jmp, jmp, (behind_base, base, (behind_to, res, w.2)))

  relative_there : (i : Instr) (to : Res) (text behind_jmp behind_rel behind_to rest : List ℕ) → Word (codes "jmp") text behind_jmp → Word (codes "rel") behind_jmp behind_rel
      → ResText limits to behind_rel behind_to → RelativeEnd to i behind_to rest → InstrText limits i text rest
  relative_there i (results.Cell c) text a b d rest jmp rel res (inl w) = jnz_there i (operands.Cell c) text a b d rest jmp rel res w
  relative_there i (results.Cell c) text a b d rest jmp rel res (inr w) = jump_there i true (results.Cell c) text a b d rest jmp rel res w.1
  relative_there i (results.Imm n) text a b d rest jmp rel res (inl w) = jnz_there i (operands.Imm n) text a b d rest jmp rel res w
  relative_there i (results.Imm n) text a b d rest jmp rel res (inr w) = jump_there i true (results.Imm n) text a b d rest jmp rel res w.1
  relative_there i (results.Double c z) text a b d rest jmp rel res w = jump_there i true (results.Double c z) text a b d rest jmp rel res w
  relative_there i (results.Add c o) text a b d rest jmp rel res w = jump_there i true (results.Add c o) text a b d rest jmp rel res w
  relative_there i (results.Mul c o) text a b d rest jmp rel res w = jump_there i true (results.Mul c o) text a b d rest jmp rel res w

  any_jump_there : (i : Instr) (text rest : List ℕ) → JumpText i text rest → InstrText limits i text rest
  any_jump_there i text rest w = go w.3
    where
      go : Or 114 (Then (λ (unit : Unit {0}). Word (codes "rel")) (λ _. Then WholeRes RelativeEnd))
          (Then (λ (unit : Unit {0}). Word (codes "abs")) (λ _. Then WholeRes (JumpEnd false))) i w.1 rest → InstrText limits i text rest
      go (inl v) = relative_there i v.3.0 text w.1 v.1 v.3.1 rest w.2 v.2 v.3.2.0 v.3.3
      go (inr v) = let u = v.1 in jump_there i false u.3.0 text w.1 u.1 u.3.1 rest w.2 u.2 u.3.2.0 u.3.3

  instr_there : (i : Instr) (text rest : List ℕ) → AnyInstr i text rest → InstrText limits i text rest
  instr_there i text rest (inl w) =
      let equals = w.3 in
      let res = equals.3 in
      let end = res.3 in
      subst (λ j. InstrText limits j text rest) end.1 (w.1, w.2, (equals.1, equals.2, (res.1, res.2.0, end.2)))
  instr_there i text rest (inr (no_assert, inl w)) = any_jump_there i text rest w
  instr_there i text rest (inr (no_assert, inr (no_jump, inl w))) =
      let base = w.3 in
      let operand = base.3 in
      let end = operand.3 in
      subst (λ j. InstrText limits j text rest) end.1 (w.1, w.2, (base.1, base.2, (operand.1, operand.2, end.2)))
  instr_there i text rest (inr (no_assert, inr (no_jump, inr (no_call, inl w)))) =
      let moves = w.3 in
      let by = moves.3 in
      let end = by.3 in
      subst (λ j. InstrText limits j text rest) end.1 (w.1, w.2, (moves.1, moves.2, (by.1, by.2.0, end.2)))
  instr_there i text rest (inr (no_assert, inr (no_jump, inr (no_call, inr (no_ap, w))))) =
      let end = w.3 in
      subst (λ j. InstrText limits j text rest) end.1 (w.1, w.2, end.2)

  -- a result before the end of an instruction
  res_ends : (res : Res) (inc : Bool) (text between rest : List ℕ) → ResText limits res text between → Ending inc between rest → WholeRes res text between
  res_ends res inc text between rest h ending = (h, res_whole res between (ending_begins inc 43 between rest refl refl ending) (ending_begins inc 42 between rest refl refl ending))

  relative_back : (to : Res) (inc : Bool) (text rest : List ℕ) → Ending inc text rest → RelativeEnd to (instrs.Jump true to inc) text rest
  relative_back (results.Cell c) inc text rest h = inr (ending_begins inc 105 text rest refl refl h, (inc, refl, h))
  relative_back (results.Imm n) inc text rest h = inr (ending_begins inc 105 text rest refl refl h, (inc, refl, h))
  relative_back (results.Double c z) inc text rest h = (inc, refl, h)
  relative_back (results.Add c o) inc text rest h = (inc, refl, h)
  relative_back (results.Mul c o) inc text rest h = (inc, refl, h)

  instr_back : (i : Instr) (text rest : List ℕ) → InstrText limits i text rest → AnyInstr i text rest
  instr_back (instrs.AssertEq dst res inc) text rest (a, cell, (b, equals, (d, result, ending))) =
      inl (dst, a, cell, (tt, b, equals, (res, d, res_ends res inc b d rest result ending, (inc, refl, ending))))
  instr_back (instrs.Jump true to inc) text rest (a, jmp, (b, rel, (d, result, ending))) =
      inr (
        word_begins 106 91 (109 ∷ 112 ∷ []) text a jmp,
        inl (tt, a, jmp, inl (tt, b, rel, (to, d, res_ends to inc b d rest result ending, relative_back to inc d rest ending))),
      )
  instr_back (instrs.Jump false to inc) text rest (a, jmp, (b, base, (d, result, ending))) =
      inr (
        word_begins 106 91 (109 ∷ 112 ∷ []) text a jmp,
        inl (tt, a, jmp, inr (word_begins 97 114 (98 ∷ 115 ∷ []) a b base, (tt, b, base, (to, d, res_ends to inc b d rest result ending, (inc, refl, ending))))),
      )
  instr_back (instrs.Jnz cond (operands.Cell c) inc) text rest (a, jmp, (b, rel, (d, to, (f, when, (g, cell, (h, differs, (k, none, ending))))))) =
      inr (
        word_begins 106 91 (109 ∷ 112 ∷ []) text a jmp,
        inl (
          tt,
          a,
          jmp,
          inl (
            tt,
            b,
            rel,
            (
              results.Cell c,
              d,
              (to, (word_begins 105 43 (102 ∷ []) d f when, word_begins 105 42 (102 ∷ []) d f when)),
              inl (tt, f, when, (cond, g, cell, (tt, h, differs, (tt, k, none, (inc, refl, ending))))),
            ),
          ),
        ),
      )
  instr_back (instrs.Jnz cond (operands.Imm n) inc) text rest (a, jmp, (b, rel, (d, to, (f, when, (g, cell, (h, differs, (k, none, ending))))))) =
      inr (
        word_begins 106 91 (109 ∷ 112 ∷ []) text a jmp,
        inl (
          tt,
          a,
          jmp,
          inl (
            tt,
            b,
            rel,
            (
              results.Imm n,
              d,
              (to, tt),
              inl (tt, f, when, (cond, g, cell, (tt, h, differs, (tt, k, none, (inc, refl, ending))))),
            ),
          ),
        ),
      )
  instr_back (instrs.Call rel to) text rest (a, call, (b, base, (d, operand, mark))) =
      inr (
        word_begins 99 91 (97 ∷ 108 ∷ 108 ∷ []) text a call,
        inr (
          word_begins 99 106 (97 ∷ 108 ∷ 108 ∷ []) text a call,
          inl (tt, a, call, (rel, b, base, (to, d, operand, (tt, refl, mark)))),
        ),
      )
  instr_back (instrs.AddAp by) text rest (a, word, (b, moves, (d, result, mark))) =
      inr (
        word_begins 97 91 (112 ∷ []) text a word,
        inr (
          word_begins 97 106 (112 ∷ []) text a word,
          inr (
            word_begins 97 99 (112 ∷ []) text a word,
            inl (tt, a, word, (tt, b, moves, (by, d, (result, res_whole by d (mark_begins 59 43 [] d rest mark) (mark_begins 59 42 [] d rest mark)), (tt, refl, mark)))),
          ),
        ),
      )
  instr_back instrs.Ret text rest (a, word, mark) =
      inr (
        word_begins 114 91 (101 ∷ 116 ∷ []) text a word,
        inr (
          word_begins 114 106 (101 ∷ 116 ∷ []) text a word,
          inr (
            word_begins 114 99 (101 ∷ 116 ∷ []) text a word,
            inr (word_begins 114 97 (101 ∷ 116 ∷ []) text a word, (tt, a, word, (tt, refl, mark))),
          ),
        ),
      )

  pub instr_exact : IsExact (instr_at limits) (InstrText limits)
  unfolding instr_at
  instr_exact =
      exact_as
      (exact_branch 91 assert_exact
      (exact_branch 106 jump_exact
      (exact_branch 99 call_exact
      (exact_branch 97 add_ap_exact ret_exact (λ i text rest h. word_begins 97 97 (112 ∷ []) text h.1 h.2))
      (λ i text rest h. word_begins 99 99 (97 ∷ 108 ∷ 108 ∷ []) text h.1 h.2))
      (λ i text rest h. word_begins 106 106 (109 ∷ 112 ∷ []) text h.1 h.2))
      (λ i text rest h. mark_begins 91 91 [] text h.2.0 h.2.1))
      instr_there instr_back
