-- What is printed is a text of the code.
use Rattle.std.proofs.Common.{◌≡◌, ℕ, suc, ◌-◌, ◌/◌, ◌<◌, ◌^◌, List, [], ◌∷◌, ◌++◌, Bool, true, false, cond, ltb, Some, refl, sym, ◌∙◌, ap, subst, append_assoc, inl, inr, arith}
use Rattle.std.specs.Prelude.{ℤ, pos, negsuc, codes, decimal}
use Rattle.std.specs.Fmt.{signed_decimal}
use Rattle.std.proofs.lemmas.Bool.{ltb-true, lt-ltb}
use Rattle.std.proofs.lemmas.List.Concat.{flat_map-cons}
use Rattle.std.specs.List.{AllByRecursion}
use Rattle.felt64.specs.Field.{modulus}
use Rattle.casm_word.specs.declared.instr.Reg.{Reg}
use Rattle.casm_word.specs.declared.instr.Reg.TheVariants as regs
use Rattle.casm_word.specs.declared.instr.CellRef.{CellRef}
use Rattle.casm_word.specs.declared.instr.Operand.{Operand}
use Rattle.casm_word.specs.declared.instr.Operand.TheVariants as operands
use Rattle.casm_word.specs.declared.instr.Res.{Res}
use Rattle.casm_word.specs.declared.instr.Res.TheVariants as results
use Rattle.casm_word.specs.declared.instr.Instr.{Instr}
use Rattle.casm_word.specs.declared.instr.Instr.TheVariants as instrs
use Rattle.casm_word.specs.Offset.{IsNear}
use Rattle.casm_word.specs.Bounds.{IsOperandInField, IsResInField, IsInstrInField, IsOperandNear, IsResNear, IsInstrNear}
use Rattle.text_reading.specs.Tokens.{◌then◌, NoneNext, is_digit, Blanks, Mark}
use Rattle.text_reading.specs.Places.{Items}
use Rattle.text_reading.proofs.BlankFacts.{Fresh}
use Rattle.text_reading.proofs.Written.{blanks_here, blank_space, blank_line, mark_written, word_written, number_written, number_fresh}
use Rattle.casm_text.specs.Text.{standard, Register, Ending, Base, Offset, Imm, Cell, OperandText, ResText, InstrText, Text}
use Rattle.casm_text.specs.Printing.{register_text, imm_text, cell_text, operand_text, double_text, res_text, ending_text, base_text, jnz_text, instr_text, printed}

-- ---- numbers

offset_fresh : (z : ℤ) (after : List ℕ) → IsNear z → Fresh (signed_decimal z ++ after)
offset_fresh (pos n) after near = number_fresh n after (omega arith)
offset_fresh (negsuc n) after near = refl

offset_printed : (z : ℤ) (after rest : List ℕ) → IsNear z → NoneNext is_digit after → Blanks after rest → Offset standard z (signed_decimal z ++ after) rest
offset_printed (pos n) after rest near ends blanks = number_written (Some (2 ^ 15)) n after rest (omega arith) (lt-ltb n (2 ^ 15) (omega arith)) ends blanks
offset_printed (negsuc n) after rest near ends blanks =
    let number : List ℕ = decimal (suc n) ++ after in (
      number,
      mark_written (codes "-") number number (blanks_here number (number_fresh (suc n) after (omega arith))),
      number_written (Some (suc (2 ^ 15))) (suc n) after rest (omega arith) (lt-ltb (suc n) (suc (2 ^ 15)) (omega arith)) ends blanks,
    )

imm_fresh : (n : ℕ) (after : List ℕ) → n < modulus → Fresh (imm_text n ++ after)
imm_fresh n after below = go (ltb ((modulus - 1) / 2) n)
  where
    go : (b : Bool) → Fresh (cond b (codes "-" ++ decimal (modulus - n)) (decimal n) ++ after)
    go true = refl
    go false = number_fresh n after (omega arith)

imm_printed : (n : ℕ) (after rest : List ℕ) → n < modulus → NoneNext is_digit after → Blanks after rest → Imm standard n (imm_text n ++ after) rest
imm_printed n after rest below ends blanks = go (ltb ((modulus - 1) / 2) n) refl
  where
    go : (b : Bool) → ltb ((modulus - 1) / 2) n ≡ b → Imm standard n (cond b (codes "-" ++ decimal (modulus - n)) (decimal n) ++ after) rest
    go false is = inl (number_written (Some modulus) n after rest (omega arith) (lt-ltb n modulus below) ends blanks)
    go true is =
        let above = ltb-true ((modulus - 1) / 2) n is in
        let number : List ℕ = decimal (modulus - n) ++ after in
        inr (
          modulus - n,
          λ e. omega arith,
          omega arith,
          (
            number,
            mark_written (codes "-") number number (blanks_here number (number_fresh (modulus - n) after (omega arith))),
            number_written (Some modulus) (modulus - n) after rest (omega arith) (lt-ltb (modulus - n) modulus (omega arith)) ends blanks,
          ),
        )

-- ---- cells

-- a printed cell, with what follows it
cell_parts : (c : CellRef) (after : List ℕ) → cell_text c ++ after ≡ register_text c.reg ++ (signed_decimal c.off ++ (93 ∷ after))
unfolding cell_text
cell_parts c after =
    append_assoc (register_text c.reg) (signed_decimal c.off ++ codes "]") after
    ∙ ap (λ (t : List ℕ). register_text c.reg ++ t) (append_assoc (signed_decimal c.off) (codes "]") after)

cell_fresh : (c : CellRef) (after : List ℕ) → Fresh (cell_text c ++ after)
cell_fresh c after = subst Fresh (sym (cell_parts c after)) (go c.reg)
  where
    go : (reg : Reg) → Fresh (register_text reg ++ (signed_decimal c.off ++ (93 ∷ after)))
    go regs.Ap = refl
    go regs.Fp = refl

cell_printed : (c : CellRef) (after rest : List ℕ) → IsNear c.off → Blanks after rest → Cell standard c (cell_text c ++ after) rest
cell_printed c after rest near blanks =
    subst (λ (t : List ℕ). Cell standard c t rest) (sym (cell_parts c after)) (go c.reg)
  where
    offset : List ℕ
    offset = signed_decimal c.off ++ (93 ∷ after)

    behind : (Mark (codes "+") then Offset standard c.off then Mark (codes "]")) (43 ∷ 32 ∷ (signed_decimal c.off ++ (93 ∷ after))) rest
    behind = (
      signed_decimal c.off ++ (93 ∷ after),
      (32 ∷ (signed_decimal c.off ++ (93 ∷ after)), refl, blank_space (signed_decimal c.off ++ (93 ∷ after)) (offset_fresh c.off (93 ∷ after) near)),
      (93 ∷ after, offset_printed c.off (93 ∷ after) (93 ∷ after) near refl (blanks_here (93 ∷ after) refl), mark_written (codes "]") after rest blanks),
    )

    go : (reg : Reg) → (Mark (codes "[") then Register reg then Mark (codes "+") then Offset standard c.off then Mark (codes "]")) (register_text reg ++ (signed_decimal c.off ++ (93 ∷ after))) rest
    go regs.Ap =
        let text : List ℕ = 97 ∷ 112 ∷ 32 ∷ 43 ∷ 32 ∷ (signed_decimal c.off ++ (93 ∷ after)) in
        let plus : List ℕ = 43 ∷ 32 ∷ (signed_decimal c.off ++ (93 ∷ after)) in
        (text, mark_written (codes "[") text text (blanks_here text refl), (plus, word_written (codes "ap") (32 ∷ plus) plus refl (blank_space plus refl), behind))
    go regs.Fp =
        let text : List ℕ = 102 ∷ 112 ∷ 32 ∷ 43 ∷ 32 ∷ (signed_decimal c.off ++ (93 ∷ after)) in
        let plus : List ℕ = 43 ∷ 32 ∷ (signed_decimal c.off ++ (93 ∷ after)) in
        (text, mark_written (codes "[") text text (blanks_here text refl), (plus, word_written (codes "fp") (32 ∷ plus) plus refl (blank_space plus refl), behind))

operand_fresh : (o : Operand) (after : List ℕ) → IsOperandInField o → Fresh (operand_text o ++ after)
operand_fresh (operands.Cell c) after field = cell_fresh c after
operand_fresh (operands.Imm n) after field = imm_fresh n after field

operand_printed : (o : Operand) (after rest : List ℕ) → IsOperandInField o → IsOperandNear o → NoneNext is_digit after → Blanks after rest → OperandText standard o (operand_text o ++ after) rest
operand_printed (operands.Cell c) after rest field near ends blanks = cell_printed c after rest near blanks
operand_printed (operands.Imm n) after rest field near ends blanks = imm_printed n after rest field ends blanks

-- ---- results

res_fresh : (res : Res) (after : List ℕ) → IsResInField res → Fresh (res_text res ++ after)
unfolding res_text
res_fresh (results.Cell c) after field = cell_fresh c after
res_fresh (results.Double c z) after field = refl
res_fresh (results.Imm n) after field = imm_fresh n after field
res_fresh (results.Add c o) after field = subst Fresh (sym (append_assoc (cell_text c) (codes " + " ++ operand_text o) after)) (cell_fresh c ((codes " + " ++ operand_text o) ++ after))
res_fresh (results.Mul c o) after field = subst Fresh (sym (append_assoc (cell_text c) (codes " * " ++ operand_text o) after)) (cell_fresh c ((codes " * " ++ operand_text o) ++ after))

double_printed : (c : CellRef) (z : ℤ) (after rest : List ℕ) → IsNear c.off → IsNear z → Blanks after rest → ResText standard (results.Double c z) (double_text c z ++ after) rest
double_printed c z after rest near inner_near blanks =
    let offset : List ℕ = signed_decimal z ++ (93 ∷ after) in
    let plus : List ℕ = 43 ∷ 32 ∷ offset in
    let whole : double_text c z ++ after ≡ 91 ∷ (cell_text c ++ (32 ∷ plus)) =
    ap (λ (t : List ℕ). 91 ∷ t)
    (append_assoc (cell_text c) (codes " + " ++ (signed_decimal z ++ codes "]")) after
    ∙ ap (λ (t : List ℕ). cell_text c ++ (32 ∷ 43 ∷ 32 ∷ t)) (append_assoc (signed_decimal z) (codes "]") after)) in
    subst (λ (t : List ℕ). ResText standard (results.Double c z) t rest) (sym whole) (
      cell_text c ++ (32 ∷ plus),
      mark_written (codes "[") (cell_text c ++ (32 ∷ plus)) (cell_text c ++ (32 ∷ plus)) (blanks_here (cell_text c ++ (32 ∷ plus)) (cell_fresh c (32 ∷ plus))),
      (
        plus,
        cell_printed c (32 ∷ plus) plus near (blank_space plus refl),
        (
          offset,
          mark_written (codes "+") (32 ∷ offset) offset (blank_space offset (offset_fresh z (93 ∷ after) inner_near)),
          (93 ∷ after, offset_printed z (93 ∷ after) (93 ∷ after) inner_near refl (blanks_here (93 ∷ after) refl), mark_written (codes "]") after rest blanks),
        ),
      ),
    )

-- a cell, a sign and an operand
signed_printed : (c : CellRef) (sign : ℕ) (o : Operand) (after rest : List ℕ) → IsNear c.off → IsOperandInField o → IsOperandNear o → NoneNext is_digit after → Blanks after rest
    → Fresh (sign ∷ []) → (Cell standard c then Mark (sign ∷ []) then OperandText standard o) (cell_text c ++ (32 ∷ sign ∷ 32 ∷ (operand_text o ++ after))) rest
signed_printed c sign o after rest near field operand_near ends blanks solid =
    let operand : List ℕ = operand_text o ++ after in (
      sign ∷ 32 ∷ operand,
      cell_printed c (32 ∷ sign ∷ 32 ∷ operand) (sign ∷ 32 ∷ operand) near (blank_space (sign ∷ 32 ∷ operand) solid),
      (operand, mark_written (sign ∷ []) (32 ∷ operand) operand (blank_space operand (operand_fresh o after field)), operand_printed o after rest field operand_near ends blanks),
    )

res_printed : (res : Res) (after rest : List ℕ) → IsResInField res → IsResNear res → NoneNext is_digit after → Blanks after rest → ResText standard res (res_text res ++ after) rest
unfolding res_text
res_printed (results.Cell c) after rest field near ends blanks = cell_printed c after rest near blanks
res_printed (results.Double c z) after rest field near ends blanks = double_printed c z after rest near.0 near.1 blanks
res_printed (results.Imm n) after rest field near ends blanks = imm_printed n after rest field ends blanks
res_printed (results.Add c o) after rest field near ends blanks =
    subst (λ (t : List ℕ). ResText standard (results.Add c o) t rest) (sym (append_assoc (cell_text c) (codes " + " ++ operand_text o) after))
    (signed_printed c 43 o after rest near.0 field near.1 ends blanks refl)
res_printed (results.Mul c o) after rest field near ends blanks =
    subst (λ (t : List ℕ). ResText standard (results.Mul c o) t rest) (sym (append_assoc (cell_text c) (codes " * " ++ operand_text o) after))
    (signed_printed c 42 o after rest near.0 field near.1 ends blanks refl)

-- ---- instructions

ending_printed : (inc : Bool) (rest : List ℕ) → Fresh rest → Ending inc (ending_text inc ++ rest) rest
ending_printed false rest fresh = mark_written (codes ";") (10 ∷ rest) rest (blank_line rest fresh)
ending_printed true rest fresh =
    let end : List ℕ = 59 ∷ 10 ∷ rest in
    let plus : List ℕ = 43 ∷ 43 ∷ end in
    let word : List ℕ = 97 ∷ 112 ∷ plus in (
      word,
      mark_written (codes ",") (32 ∷ word) word (blank_space word refl),
      (
        plus,
        word_written (codes "ap") plus plus refl (blanks_here plus refl),
        (end, mark_written (codes "++") end end (blanks_here end refl), mark_written (codes ";") (10 ∷ rest) rest (blank_line rest fresh)),
      ),
    )

ending_fresh : (inc : Bool) (rest : List ℕ) → Fresh (ending_text inc ++ rest)
ending_fresh true rest = refl
ending_fresh false rest = refl

ending_ends : (inc : Bool) (rest : List ℕ) → NoneNext is_digit (ending_text inc ++ rest)
ending_ends true rest = refl
ending_ends false rest = refl

-- a result at the end of an instruction
res_end : (res : Res) (inc : Bool) (rest : List ℕ) → IsResInField res → IsResNear res → Fresh rest
    → (ResText standard res then Ending inc) (res_text res ++ (ending_text inc ++ rest)) rest
res_end res inc rest field near fresh =
    let end : List ℕ = ending_text inc ++ rest in
    (end, res_printed res end end field near (ending_ends inc rest) (blanks_here end (ending_fresh inc rest)), ending_printed inc rest fresh)

base_fresh : (rel : Bool) (rest : List ℕ) → Fresh (base_text rel ++ rest)
base_fresh true rest = refl
base_fresh false rest = refl

base_printed : (rel : Bool) (rest : List ℕ) → Fresh rest → Base rel (base_text rel ++ rest) rest
base_printed true rest fresh = word_written (codes "rel") (32 ∷ rest) rest refl (blank_space rest fresh)
base_printed false rest fresh = word_written (codes "abs") (32 ∷ rest) rest refl (blank_space rest fresh)

jnz_printed : (cond : CellRef) (to : Operand) (inc : Bool) (rest : List ℕ) → IsOperandInField to → IsNear cond.off → IsOperandNear to → Fresh rest
    → InstrText standard (instrs.Jnz cond to inc) (jnz_text cond to inc ++ rest) rest
jnz_printed cond to inc rest field near operand_near fresh =
    let end : List ℕ = ending_text inc ++ rest in
    let zero : List ℕ = 48 ∷ end in
    let differs : List ℕ = 33 ∷ 61 ∷ 32 ∷ zero in
    let cell : List ℕ = cell_text cond ++ (32 ∷ differs) in
    let when : List ℕ = 105 ∷ 102 ∷ 32 ∷ cell in
    let operand : List ℕ = operand_text to ++ (32 ∷ when) in
    let rel : List ℕ = 114 ∷ 101 ∷ 108 ∷ 32 ∷ operand in
    let whole : jnz_text cond to inc ++ rest ≡ 106 ∷ 109 ∷ 112 ∷ 32 ∷ rel =
    ap (λ (t : List ℕ). codes "jmp rel " ++ t)
    (append_assoc (operand_text to) (codes " if " ++ (cell_text cond ++ (codes " != 0" ++ ending_text inc))) rest
    ∙ ap (λ (t : List ℕ). operand_text to ++ (codes " if " ++ t)) (append_assoc (cell_text cond) (codes " != 0" ++ ending_text inc) rest)) in
    subst (λ (t : List ℕ). InstrText standard (instrs.Jnz cond to inc) t rest) (sym whole) (
      rel,
      word_written (codes "jmp") (32 ∷ rel) rel refl (blank_space rel refl),
      (
        operand,
        word_written (codes "rel") (32 ∷ operand) operand refl (blank_space operand (operand_fresh to (32 ∷ when) field)),
        (
          when,
          operand_printed to (32 ∷ when) when field operand_near refl (blank_space when refl),
          (
            cell,
            word_written (codes "if") (32 ∷ cell) cell refl (blank_space cell (cell_fresh cond (32 ∷ differs))),
            (
              differs,
              cell_printed cond (32 ∷ differs) differs near (blank_space differs refl),
              (
                zero,
                mark_written (codes "!=") (32 ∷ zero) zero (blank_space zero refl),
                (end, mark_written (codes "0") end end (blanks_here end (ending_fresh inc rest)), ending_printed inc rest fresh),
              ),
            ),
          ),
        ),
      ),
    )

instr_printed : (i : Instr) (rest : List ℕ) → IsInstrInField i → IsInstrNear i → Fresh rest → InstrText standard i (instr_text i ++ rest) rest
unfolding instr_text
instr_printed (instrs.AssertEq dst res inc) rest field near fresh =
    let result : List ℕ = res_text res ++ (ending_text inc ++ rest) in
    let equals : List ℕ = 61 ∷ 32 ∷ result in
    let whole : instr_text (instrs.AssertEq dst res inc) ++ rest ≡ cell_text dst ++ (32 ∷ equals) =
    append_assoc (cell_text dst) (codes " = " ++ (res_text res ++ ending_text inc)) rest
    ∙ ap (λ (t : List ℕ). cell_text dst ++ (codes " = " ++ t)) (append_assoc (res_text res) (ending_text inc) rest) in
    subst (λ (t : List ℕ). InstrText standard (instrs.AssertEq dst res inc) t rest) (sym whole) (
      equals,
      cell_printed dst (32 ∷ equals) equals near.0 (blank_space equals refl),
      (result, mark_written (codes "=") (32 ∷ result) result (blank_space result (res_fresh res (ending_text inc ++ rest) field)), res_end res inc rest field near.1 fresh),
    )
instr_printed (instrs.Jump rel to inc) rest field near fresh =
    let result : List ℕ = res_text to ++ (ending_text inc ++ rest) in
    let base : List ℕ = base_text rel ++ result in
    let whole : instr_text (instrs.Jump rel to inc) ++ rest ≡ 106 ∷ 109 ∷ 112 ∷ 32 ∷ base =
    ap (λ (t : List ℕ). codes "jmp " ++ t)
    (append_assoc (base_text rel) (res_text to ++ ending_text inc) rest ∙ ap (λ (t : List ℕ). base_text rel ++ t) (append_assoc (res_text to) (ending_text inc) rest)) in
    subst (λ (t : List ℕ). InstrText standard (instrs.Jump rel to inc) t rest) (sym whole) (
      base,
      word_written (codes "jmp") (32 ∷ base) base refl (blank_space base (base_fresh rel result)),
      (result, base_printed rel result (res_fresh to (ending_text inc ++ rest) field), res_end to inc rest field near fresh),
    )
instr_printed (instrs.Jnz cond to inc) rest field near fresh = jnz_printed cond to inc rest field near.0 near.1 fresh
instr_printed (instrs.Call rel to) rest field near fresh =
    let end : List ℕ = 59 ∷ 10 ∷ rest in
    let operand : List ℕ = operand_text to ++ end in
    let base : List ℕ = base_text rel ++ operand in
    let whole : instr_text (instrs.Call rel to) ++ rest ≡ 99 ∷ 97 ∷ 108 ∷ 108 ∷ 32 ∷ base =
    ap (λ (t : List ℕ). codes "call " ++ t)
    (append_assoc (base_text rel) (operand_text to ++ codes ";\n") rest ∙ ap (λ (t : List ℕ). base_text rel ++ t) (append_assoc (operand_text to) (codes ";\n") rest)) in
    subst (λ (t : List ℕ). InstrText standard (instrs.Call rel to) t rest) (sym whole) (
      base,
      word_written (codes "call") (32 ∷ base) base refl (blank_space base (base_fresh rel operand)),
      (
        operand,
        base_printed rel operand (operand_fresh to end field),
        (end, operand_printed to end end field near refl (blanks_here end refl), mark_written (codes ";") (10 ∷ rest) rest (blank_line rest fresh)),
      ),
    )
instr_printed (instrs.AddAp by) rest field near fresh =
    let end : List ℕ = 59 ∷ 10 ∷ rest in
    let result : List ℕ = res_text by ++ end in
    let moves : List ℕ = 43 ∷ 61 ∷ 32 ∷ result in
    let whole : instr_text (instrs.AddAp by) ++ rest ≡ 97 ∷ 112 ∷ 32 ∷ moves = ap (λ (t : List ℕ). codes "ap += " ++ t) (append_assoc (res_text by) (codes ";\n") rest) in
    subst (λ (t : List ℕ). InstrText standard (instrs.AddAp by) t rest) (sym whole) (
      moves,
      word_written (codes "ap") (32 ∷ moves) moves refl (blank_space moves refl),
      (
        result,
        mark_written (codes "+=") (32 ∷ result) result (blank_space result (res_fresh by end field)),
        (end, res_printed by end end field near refl (blanks_here end refl), mark_written (codes ";") (10 ∷ rest) rest (blank_line rest fresh)),
      ),
    )
instr_printed instrs.Ret rest field near fresh =
    let end : List ℕ = 59 ∷ 10 ∷ rest in
    (end, word_written (codes "ret") end end refl (blanks_here end refl), mark_written (codes ";") (10 ∷ rest) rest (blank_line rest fresh))

instr_fresh : (i : Instr) (rest : List ℕ) → Fresh (instr_text i ++ rest)
unfolding instr_text
instr_fresh (instrs.AssertEq dst res inc) rest =
    subst Fresh (sym (append_assoc (cell_text dst) (codes " = " ++ (res_text res ++ ending_text inc)) rest)) (cell_fresh dst ((codes " = " ++ (res_text res ++ ending_text inc)) ++ rest))
instr_fresh (instrs.Jump rel to inc) rest = refl
instr_fresh (instrs.Jnz cond to inc) rest = refl
instr_fresh (instrs.Call rel to) rest = refl
instr_fresh (instrs.AddAp by) rest = refl
instr_fresh instrs.Ret rest = refl

printed_fresh : (code : List Instr) → Fresh (printed code)
printed_fresh [] = tt
printed_fresh (i ∷ code) = subst Fresh (sym (flat_map-cons instr_text i code)) (instr_fresh i (printed code))

items_printed : (code : List Instr) → AllByRecursion IsInstrInField code → AllByRecursion IsInstrNear code → Items (InstrText standard) code (printed code)
items_printed [] field near = refl
items_printed (i ∷ code) field near =
    subst (λ (t : List ℕ). Items (InstrText standard) (i ∷ code) t) (sym (flat_map-cons instr_text i code))
    (printed code, instr_printed i (printed code) field.0 near.0 (printed_fresh code), items_printed code field.1 near.1)

-- what is printed is a text of the code
pub code_printed : (code : List Instr) → AllByRecursion IsInstrInField code → AllByRecursion IsInstrNear code → Text standard code (printed code)
code_printed code field near = (printed code, blanks_here (printed code) (printed_fresh code), items_printed code field near)
