-- The forms of CASM text as readers: what each takes can be ended, and where one kind of number has no limit it
-- reads the same, but where a number passes that limit.
use Rattle.std.proofs.Common.{◌≢◌, suc, [], ◌∷◌, Bool, true, false, refl, ◌-◌}
use Rattle.std.specs.Prelude.{pos, codes, option_map}
use Rattle.felt64.specs.Field.{modulus}
use Rattle.casm_word.specs.declared.instr.Reg.TheVariants as regs
use Rattle.casm_word.specs.declared.instr.CellRef.{CellRef}
use Rattle.casm_word.specs.declared.instr.Operand.{Operand}
use Rattle.casm_word.specs.declared.instr.Operand.TheVariants as operands
use Rattle.casm_word.specs.declared.instr.Res.{Res}
use Rattle.casm_word.specs.declared.instr.Res.TheVariants as results
use Rattle.casm_word.specs.declared.instr.Instr.TheVariants as instrs
use Rattle.text_reading.specs.Reading.{◌>>=◌, branch}
use Rattle.text_reading.specs.TokenReading.{word_at, number_at}
use Rattle.text_reading.proofs.Languages.{Limited, LimitedFrom, limited_then, from_then, limited_done, limited_branch, from_branch, from_mark, from_word, limited_number, limited_other}
use Rattle.casm_text.specs.declared.fault.NumberKind.{NumberKind}
use Rattle.casm_text.specs.declared.fault.NumberKind.TheVariants as kinds
use Rattle.casm_text.specs.Text.{Limits, without}
use Rattle.casm_word.specs.Offset.{minus}
use Rattle.casm_text.specs.Reading.{register_at, ending_at, offset_at, imm_at, inner_at, cell_rest_at, cell_at, operand_at, behind_cell_at, double_at, bracket_at, res_at, assert_at, jnz_at, jump_end_at, relative_end_at, jump_at, base_at, call_at, add_ap_at, ret_at, instr_at}

module _ (kind : NumberKind) where
  register : LimitedFrom 97 kind register_at register_at
  unfolding register_at
  register =
      from_branch 97 102 kind refl
      (from_then kind 97 (from_word kind 97 (112 ∷ []) refl) (λ _. limited_done kind regs.Ap))
      (from_then kind 102 (from_word kind 102 (112 ∷ []) refl) (λ _. limited_done kind regs.Fp))

  ending : LimitedFrom 44 kind ending_at ending_at
  unfolding ending_at
  ending =
      from_branch 44 59 kind refl
      (from_then kind 44 (from_mark kind 44 [] refl) (λ _.
      limited_then kind (from_word kind 97 (112 ∷ []) refl).limited (λ _.
      limited_then kind (from_mark kind 43 (43 ∷ []) refl).limited (λ _.
      limited_then kind (from_mark kind 59 [] refl).limited (λ _. limited_done kind true)))))
      (from_then kind 59 (from_mark kind 59 [] refl) (λ _. limited_done kind false))

  -- `rel` or `abs`
  base : LimitedFrom 114 kind base_at base_at
  unfolding base_at
  base =
      from_branch 114 97 kind refl
      (from_then kind 114 (from_word kind 114 (101 ∷ 108 ∷ []) refl) (λ _. limited_done kind true))
      (from_then kind 97 (from_word kind 97 (98 ∷ 115 ∷ []) refl) (λ _. limited_done kind false))

imm_differs : kinds.Imm ≢ kinds.Offset
imm_differs e = cc

offset_differs : kinds.Offset ≢ kinds.Imm
offset_differs e = cc

module _ (limits : Limits) where
  offset_number : (kind : NumberKind) → Limited kind (number_at limits.offset true kinds.Offset) (number_at (without kind limits).offset true kinds.Offset)
  offset_number kinds.Offset = limited_number limits.offset true kinds.Offset
  offset_number kinds.Imm = limited_other limits.offset true kinds.Offset kinds.Imm imm_differs

  negative_offset : (kind : NumberKind) → Limited kind (number_at (option_map suc limits.offset) false kinds.Offset) (number_at (option_map suc (without kind limits).offset) false kinds.Offset)
  negative_offset kinds.Offset = limited_number (option_map suc limits.offset) false kinds.Offset
  negative_offset kinds.Imm = limited_other (option_map suc limits.offset) false kinds.Offset kinds.Imm imm_differs

  imm_number : (zero_too : Bool) (kind : NumberKind) → Limited kind (number_at limits.imm zero_too kinds.Imm) (number_at (without kind limits).imm zero_too kinds.Imm)
  imm_number zero_too kinds.Imm = limited_number limits.imm zero_too kinds.Imm
  imm_number zero_too kinds.Offset = limited_other limits.imm zero_too kinds.Imm kinds.Offset offset_differs

module _ (kind : NumberKind) (limits : Limits) where
  offset : Limited kind (offset_at limits) (offset_at (without kind limits))
  unfolding offset_at
  offset =
      limited_branch 45 kind refl
      (from_then kind 45 (from_mark kind 45 [] refl) (λ _. limited_then kind (negative_offset limits kind) (λ n. limited_done kind (minus n))))
      (limited_then kind (offset_number limits kind) (λ n. limited_done kind (pos n)))

  imm : Limited kind (imm_at limits) (imm_at (without kind limits))
  unfolding imm_at
  imm =
      limited_branch 45 kind refl
      (from_then kind 45 (from_mark kind 45 [] refl) (λ _. limited_then kind (imm_number limits false kind) (λ n. limited_done kind (modulus - n))))
      (imm_number limits true kind)

  inner : LimitedFrom 43 kind (inner_at limits) (inner_at (without kind limits))
  unfolding inner_at
  inner =
      from_then kind 43 (from_mark kind 43 [] refl) (λ _.
      limited_then kind offset (λ n. limited_then kind (from_mark kind 93 [] refl).limited (λ _. limited_done kind n)))

  cell_rest : LimitedFrom 97 kind (cell_rest_at limits) (cell_rest_at (without kind limits))
  unfolding cell_rest_at
  cell_rest = from_then kind 97 (register kind) (λ reg. limited_then kind inner.limited (λ n. limited_done kind (record { reg = reg; off = n })))

  cell : LimitedFrom 91 kind (cell_at limits) (cell_at (without kind limits))
  unfolding cell_at
  cell = from_then kind 91 (from_mark kind 91 [] refl) (λ _. cell_rest.limited)

  operand : Limited kind (operand_at limits) (operand_at (without kind limits))
  unfolding operand_at
  operand =
      limited_branch 91 kind refl
      (from_then kind 91 cell (λ c. limited_done kind (operands.Cell c)))
      (limited_then kind imm (λ n. limited_done kind (operands.Imm n)))

  behind_cell : (c : CellRef) → Limited kind (behind_cell_at limits c) (behind_cell_at (without kind limits) c)
  unfolding behind_cell_at
  behind_cell c =
      limited_branch 43 kind refl
      (from_then kind 43 (from_mark kind 43 [] refl) (λ _. limited_then kind operand (λ o. limited_done kind (results.Add c o))))
      (limited_branch 42 kind refl
      (from_then kind 42 (from_mark kind 42 [] refl) (λ _. limited_then kind operand (λ o. limited_done kind (results.Mul c o))))
      (limited_done kind (results.Cell c)))

  double : LimitedFrom 91 kind (double_at limits) (double_at (without kind limits))
  unfolding double_at
  double = from_then kind 91 cell (λ c. limited_then kind inner.limited (λ n. limited_done kind (results.Double c n)))

  bracket : LimitedFrom 91 kind (bracket_at limits) (bracket_at (without kind limits))
  unfolding bracket_at
  bracket = from_branch 91 97 kind refl double (from_then kind 97 cell_rest behind_cell)

  res : Limited kind (res_at limits) (res_at (without kind limits))
  unfolding res_at
  res =
      limited_branch 91 kind refl
      (from_then kind 91 (from_mark kind 91 [] refl) (λ _. bracket.limited))
      (limited_then kind imm (λ n. limited_done kind (results.Imm n)))

  assertion : LimitedFrom 91 kind (assert_at limits) (assert_at (without kind limits))
  unfolding assert_at
  assertion =
      from_then kind 91 cell (λ dst. limited_then kind (from_mark kind 61 [] refl).limited (λ _.
      limited_then kind res (λ r. limited_then kind (ending kind).limited (λ inc. limited_done kind (instrs.AssertEq dst r inc)))))

  jnz : (to : Operand) → LimitedFrom 105 kind (jnz_at limits to) (jnz_at (without kind limits) to)
  unfolding jnz_at
  jnz to =
      from_then kind 105 (from_word kind 105 (102 ∷ []) refl) (λ _. limited_then kind cell.limited (λ c.
      limited_then kind (from_mark kind 33 (61 ∷ []) refl).limited (λ _. limited_then kind (from_mark kind 48 [] refl).limited (λ _.
      limited_then kind (ending kind).limited (λ inc. limited_done kind (instrs.Jnz c to inc))))))

  jump_end : (rel : Bool) (to : Res) → Limited kind (jump_end_at rel to) (jump_end_at rel to)
  unfolding jump_end_at
  jump_end rel to = limited_then kind (ending kind).limited (λ inc. limited_done kind (instrs.Jump rel to inc))

  relative_end : (to : Res) → Limited kind (relative_end_at limits to) (relative_end_at (without kind limits) to)
  unfolding relative_end_at
  relative_end (results.Cell c) = limited_branch 105 kind refl (jnz (operands.Cell c)) (jump_end true (results.Cell c))
  relative_end (results.Imm n) = limited_branch 105 kind refl (jnz (operands.Imm n)) (jump_end true (results.Imm n))
  relative_end (results.Double c n) = jump_end true (results.Double c n)
  relative_end (results.Add c o) = jump_end true (results.Add c o)
  relative_end (results.Mul c o) = jump_end true (results.Mul c o)

  jump_target : LimitedFrom 114 kind
      (branch 114 (word_at (codes "rel") >>= λ _. res_at limits >>= λ to. relative_end_at limits to) (word_at (codes "abs") >>= λ _. res_at limits >>= λ to. jump_end_at false to))
      (branch 114 (word_at (codes "rel") >>= λ _. res_at (without kind limits) >>= λ to. relative_end_at (without kind limits) to)
      (word_at (codes "abs") >>= λ _. res_at (without kind limits) >>= λ to. jump_end_at false to))
  jump_target =
      from_branch 114 97 kind refl
      (from_then kind 114 (from_word kind 114 (101 ∷ 108 ∷ []) refl) (λ _. limited_then kind res relative_end))
      (from_then kind 97 (from_word kind 97 (98 ∷ 115 ∷ []) refl) (λ _. limited_then kind res (jump_end false)))

  jump : LimitedFrom 106 kind (jump_at limits) (jump_at (without kind limits))
  unfolding jump_at
  jump = from_then kind 106 (from_word kind 106 (109 ∷ 112 ∷ []) refl) (λ _. jump_target.limited)

  call : LimitedFrom 99 kind (call_at limits) (call_at (without kind limits))
  unfolding call_at
  call =
      from_then kind 99 (from_word kind 99 (97 ∷ 108 ∷ 108 ∷ []) refl) (λ _. limited_then kind (base kind).limited (λ rel.
      limited_then kind operand (λ to. limited_then kind (from_mark kind 59 [] refl).limited (λ _. limited_done kind (instrs.Call rel to)))))

  add_ap : LimitedFrom 97 kind (add_ap_at limits) (add_ap_at (without kind limits))
  unfolding add_ap_at
  add_ap =
      from_then kind 97 (from_word kind 97 (112 ∷ []) refl) (λ _. limited_then kind (from_mark kind 43 (61 ∷ []) refl).limited (λ _.
      limited_then kind res (λ by. limited_then kind (from_mark kind 59 [] refl).limited (λ _. limited_done kind (instrs.AddAp by)))))

  ret : LimitedFrom 114 kind ret_at ret_at
  unfolding ret_at
  ret =
      from_then kind 114 (from_word kind 114 (101 ∷ 116 ∷ []) refl) (λ _.
      limited_then kind (from_mark kind 59 [] refl).limited (λ _. limited_done kind instrs.Ret))

  pub instr : LimitedFrom 91 kind (instr_at limits) (instr_at (without kind limits))
  unfolding instr_at
  instr =
      from_branch 91 106 kind refl assertion (from_branch 106 99 kind refl jump (from_branch 99 97 kind refl call (from_branch 97 114 kind refl add_ap ret)))
