-- What an instruction does is its step, and back.
use Rattle.std.proofs.Common.{◌≡◌, ℕ, ◌+◌, ◌^◌, ◌≤◌, ◌==◌, Bool, true, false, if◌then◌else◌, ℤ, pos, Option, Some, None, refl, sym, ap, subst, ◌∙◌, arith}
use Rattle.felt64.specs.Field.{sum, difference, product}
use Rattle.casm_word.specs.declared.instr.Reg.{Reg}
use Rattle.casm_word.specs.declared.instr.Reg.TheVariants as reg
use Rattle.casm_word.specs.declared.instr.CellRef.{CellRef}
use Rattle.casm_word.specs.declared.instr.Operand.{Operand}
use Rattle.casm_word.specs.declared.instr.Operand.TheVariants as operand
use Rattle.casm_word.specs.declared.instr.Res.{Res}
use Rattle.casm_word.specs.declared.instr.Res.TheVariants as res
use Rattle.casm_word.specs.declared.instr.Instr.{Instr}
use Rattle.casm_word.specs.declared.instr.Instr.TheVariants as instr
use Rattle.casm_word.specs.declared.flags.ResKind.{ResKind}
use Rattle.casm_word.specs.declared.flags.ResKind.TheVariants as kind
use Rattle.casm_word.specs.declared.flags.Opcode.TheVariants as opcode
use Rattle.casm_word.specs.declared.flags.Op1.{Op1}
use Rattle.casm_word.specs.Bounds.{IsInstrNear}
use Rattle.casm_word.specs.Encoding.{from_reg, with_operand, sources_of, jump_kind, inc_kind, flags_of, operand_immediate, res_immediate, unused, ap_cell}
use Rattle.casm_word.specs.Word.{Word, word_of}
use Rattle.casm_word.proofs.EncodingLaws.{instr_word}
use Rattle.casm_word.proofs.WordLaws.{one_flags}
use Rattle.ro_machine.specs.declared.machine.State.{State}
use Rattle.ro_machine.specs.Step.{Step, moved, op1_base, size_of, res_of, pc_after, ap_after}
use Rattle.ro_machine.specs.StepBy.{StepBy}
use Rattle.ro_machine.proofs.StepLaws.{step_parts}
use Rattle.casm_steps.specs.Reading.{register, behind}
use Rattle.casm_steps.specs.Executes.{state, cell_address, operand_word, res_word, cells_with, next_pc, jumped, inc_ap, Executes, HasImmediate, HasInstr}
use Rattle.casm_steps.proofs.Readings.{both_is, both_parts, behind_parts}

state_is : (a b c x y z : ℕ) → a ≡ x → b ≡ y → c ≡ z → state a b c ≡ state x y z
state_is a b c x y z first second third = rw (first, second, third) refl

-- the place behind an instruction doesn't wrap
next_place : (n k : ℕ) → n ≤ 2 ^ 25 → k ≤ 2 → sum n k ≡ n + k
next_place n k small two = omega arith

register_size : (r : Reg) → size_of (from_reg r) ≡ 1
register_size reg.Ap = refl
register_size reg.Fp = refl

operand_size : (c : CellRef) (x : Operand) (k : ResKind) → size_of (with_operand c x k).op1 ≡ cells_with (operand_immediate x)
operand_size c (operand.Cell d) k = register_size d.reg
operand_size c (operand.Imm n) k = refl

res_size : (r : Res) → size_of (sources_of r).op1 ≡ cells_with (res_immediate r)
res_size (res.Cell c) = operand_size unused (operand.Cell c) kind.Op1
res_size (res.Double c inner) = refl
res_size (res.Imm n) = refl
res_size (res.Add c x) = operand_size c x kind.Add
res_size (res.Mul c x) = operand_size c x kind.Mul

cells_few : (o : Option ℕ) → cells_with o ≤ 2
cells_few None = omega arith
cells_few (Some n) = omega arith

operand_kind : (c : CellRef) (x : Operand) (k : ResKind) → (with_operand c x k).res ≡ k
operand_kind c (operand.Cell d) k = refl
operand_kind c (operand.Imm n) k = refl

operand_op0 : (c : CellRef) (x : Operand) (k : ResKind) → (with_operand c x k).op0 ≡ c
operand_op0 c (operand.Cell d) k = refl
operand_op0 c (operand.Imm n) k = refl

module _ (m : ℕ → Option ℕ) (s : State) (small : s.pc ≤ 2 ^ 25) where
  op1_register : (r : Reg) (op0 : ℕ) → op1_base (from_reg r) s op0 ≡ register r s.ap s.fp
  op1_register reg.Ap op0 = refl
  op1_register reg.Fp op0 = refl

  abbrev op1_place : Op1 → ℤ → ℕ → ℕ
  op1_place base off op0 = moved (op1_base base s op0) off

  -- the place of op1 is that of the operand's word
  operand_place : (c : CellRef) (x : Operand) (k : ResKind) (op0 : ℕ) → HasImmediate m (s.pc + 1) (operand_immediate x) → m (op1_place (with_operand c x k).op1 (with_operand c x k).off_op1 op0) ≡ operand_word m s x
  operand_place c (operand.Cell d) k op0 has = ap (λ base. m (moved base d.off)) (op1_register d.reg op0)
  operand_place c (operand.Imm n) k op0 has = ap m (next_place s.pc 1 small (omega arith)) ∙ has

  -- what the operands give is what the form of the instruction says
  res_reads : (r : Res) (op0 op1 : ℕ) → HasImmediate m (s.pc + 1) (res_immediate r)
      → m (cell_address s (sources_of r).op0) ≡ Some op0 → m (op1_place (sources_of r).op1 (sources_of r).off_op1 op0) ≡ Some op1 → res_word m s r ≡ Some (res_of (sources_of r).res op0 op1)
  res_reads (res.Cell c) op0 op1 has first second = sym (operand_place unused (operand.Cell c) kind.Op1 op0 has) ∙ second
  res_reads (res.Double c inner) op0 op1 has first second = ap (λ o. behind m o inner) first ∙ second
  res_reads (res.Imm n) op0 op1 has first second = sym (operand_place unused (operand.Imm n) kind.Op1 op0 has) ∙ second
  res_reads (res.Add c (operand.Cell d)) op0 op1 has first second = both_is sum _ _ op0 op1 first (sym (operand_place c (operand.Cell d) kind.Add op0 has) ∙ second)
  res_reads (res.Add c (operand.Imm n)) op0 op1 has first second = both_is sum _ _ op0 op1 first (sym (operand_place c (operand.Imm n) kind.Add op0 has) ∙ second)
  res_reads (res.Mul c (operand.Cell d)) op0 op1 has first second = both_is product _ _ op0 op1 first (sym (operand_place c (operand.Cell d) kind.Mul op0 has) ∙ second)
  res_reads (res.Mul c (operand.Imm n)) op0 op1 has first second = both_is product _ _ op0 op1 first (sym (operand_place c (operand.Imm n) kind.Mul op0 has) ∙ second)

  -- the two operands are listed, and give the word
  record Read (cell : CellRef) (base : Op1) (off : ℤ) (k : ResKind) (w : ℕ) : Type 0 where
    pub op0 : ℕ
    pub op1 : ℕ
    pub op0_is : m (cell_address s cell) ≡ Some op0
    pub op1_is : m (op1_place base off op0) ≡ Some op1
    pub gives : res_of k op0 op1 ≡ w

  res_back : (r : Res) (w u : ℕ) → HasImmediate m (s.pc + 1) (res_immediate r) → m (difference s.fp 1) ≡ Some u → res_word m s r ≡ Some w → Read (sources_of r).op0 (sources_of r).op1 (sources_of r).off_op1 (sources_of r).res w
  res_back (res.Cell c) w u has frame is = record { op0 = u; op1 = w; op0_is = frame; op1_is = operand_place unused (operand.Cell c) kind.Op1 u has ∙ is; gives = refl }
  res_back (res.Double c inner) w u has frame is =
      let parts = behind_parts m (m (cell_address s c)) inner w is in
      record { op0 = parts.0; op1 = w; op0_is = parts.1; op1_is = parts.2; gives = refl }
  res_back (res.Imm n) w u has frame is = record { op0 = u; op1 = w; op0_is = frame; op1_is = operand_place unused (operand.Imm n) kind.Op1 u has ∙ is; gives = refl }
  res_back (res.Add c (operand.Cell d)) w u has frame is =
      let parts = both_parts sum (m (cell_address s c)) (operand_word m s (operand.Cell d)) w is in
      record { op0 = parts.0; op1 = parts.1; op0_is = parts.2; op1_is = operand_place c (operand.Cell d) kind.Add parts.0 has ∙ parts.3; gives = parts.4 }
  res_back (res.Add c (operand.Imm n)) w u has frame is =
      let parts = both_parts sum (m (cell_address s c)) (operand_word m s (operand.Imm n)) w is in
      record { op0 = parts.0; op1 = parts.1; op0_is = parts.2; op1_is = operand_place c (operand.Imm n) kind.Add parts.0 has ∙ parts.3; gives = parts.4 }
  res_back (res.Mul c (operand.Cell d)) w u has frame is =
      let parts = both_parts product (m (cell_address s c)) (operand_word m s (operand.Cell d)) w is in
      record { op0 = parts.0; op1 = parts.1; op0_is = parts.2; op1_is = operand_place c (operand.Cell d) kind.Mul parts.0 has ∙ parts.3; gives = parts.4 }
  res_back (res.Mul c (operand.Imm n)) w u has frame is =
      let parts = both_parts product (m (cell_address s c)) (operand_word m s (operand.Imm n)) w is in
      record { op0 = parts.0; op1 = parts.1; op0_is = parts.2; op1_is = operand_place c (operand.Imm n) kind.Mul parts.0 has ∙ parts.3; gives = parts.4 }

  -- the step by the flags of the instruction at pc
  pub step_by : (i : Instr) (t : State) → IsInstrNear i → HasInstr m s.pc i → Step m s t → StepBy m (flags_of i) s t
  step_by i t near has step =
      let parts = (step_parts m s t).0 step in
      let fetched = parts.1 in
      let word : fetched.0 ≡ word_of (flags_of i) = let there = fetched.1 in let here = has.word in cc in
      let same = one_flags parts.0 (flags_of i) fetched.0 fetched.2 (subst (Word (flags_of i)) (sym word) (instr_word i near)) in
      subst (λ f. StepBy m f s t) same parts.2

  pub by_step : (i : Instr) (t : State) → IsInstrNear i → HasInstr m s.pc i → StepBy m (flags_of i) s t → Step m s t
  by_step i t near has by = (step_parts m s t).1 (flags_of i, (word_of (flags_of i), has.word, instr_word i near), by)

  inc_after : (inc : Bool) (r : ℕ) → ap_after opcode.AssertEq (inc_kind inc) s.ap r ≡ inc_ap inc s
  inc_after true r = refl
  inc_after false r = refl

  inc_after_jump : (inc : Bool) (r : ℕ) → ap_after opcode.Nop (inc_kind inc) s.ap r ≡ inc_ap inc s
  inc_after_jump true r = refl
  inc_after_jump false r = refl

  jump_after : (rel : Bool) (next op1 dst r : ℕ) → pc_after (jump_kind rel) next s.pc op1 dst r ≡ jumped rel s r
  jump_after true next op1 dst r = refl
  jump_after false next op1 dst r = refl

  next_by : (o : Option ℕ) (size : ℕ) → size ≡ cells_with o → sum s.pc size ≡ s.pc + cells_with o
  next_by o size is = ap (sum s.pc) is ∙ next_place s.pc (cells_with o) small (cells_few o)

  assert_does : (dst : CellRef) (r : Res) (inc : Bool) (t : State) → HasImmediate m (s.pc + 1) (res_immediate r)
      → StepBy m (flags_of (instr.AssertEq dst r inc)) s t → Executes m (instr.AssertEq dst r inc) s t
  assert_does dst r inc t has by = (
    by.dst,
    by.reads.dst_is,
    res_reads r by.op0 by.op1 has by.reads.op0_is by.reads.op1_is ∙ ap Some (sym by.asserts),
    by.next ∙ state_is _ _ _ _ _ _ (next_by (res_immediate r) _ (res_size r)) (inc_after inc _) refl,
  )

  jump_does : (rel : Bool) (to : Res) (inc : Bool) (t : State) → HasImmediate m (s.pc + 1) (res_immediate to)
      → StepBy m (flags_of (instr.Jump rel to inc)) s t → Executes m (instr.Jump rel to inc) s t
  jump_does rel to inc t has by = (
    res_of (sources_of to).res by.op0 by.op1,
    res_reads to by.op0 by.op1 has by.reads.op0_is by.reads.op1_is,
    by.next ∙ state_is _ _ _ _ _ _ (jump_after rel _ _ _ _) (inc_after_jump inc _) refl,
  )

  jnz_does : (cond : CellRef) (to : Operand) (inc : Bool) (t : State) → HasImmediate m (s.pc + 1) (operand_immediate to)
      → StepBy m (flags_of (instr.Jnz cond to inc)) s t → Executes m (instr.Jnz cond to inc) s t
  jnz_does cond to inc t has by = (
    by.dst,
    by.op1,
    by.reads.dst_is,
    sym (operand_place unused to kind.Op1 by.op0 has) ∙ by.reads.op1_is,
    by.next ∙ state_is _ _ _ _ _ _ (ap (λ next. if by.dst == 0 then next else sum s.pc by.op1) (next_by (operand_immediate to) _ (operand_size unused to kind.Op1))) (inc_after_jump inc _) refl,
  )

  call_does : (rel : Bool) (to : Operand) (t : State) → HasImmediate m (s.pc + 1) (operand_immediate to)
      → StepBy m (flags_of (instr.Call rel to)) s t → Executes m (instr.Call rel to) s t
  call_does rel to t has by = (
    by.op1,
    by.reads.dst_is ∙ ap Some by.asserts.0,
    ap (λ c. m (cell_address s c)) (sym (operand_op0 (ap_cell (pos 1)) to kind.Op1)) ∙ by.reads.op0_is ∙ ap Some (by.asserts.1 ∙ next_by (operand_immediate to) _ (operand_size (ap_cell (pos 1)) to kind.Op1)),
    sym (operand_place (ap_cell (pos 1)) to kind.Op1 by.op0 has) ∙ by.reads.op1_is,
    by.next ∙ state_is _ _ _ _ _ _ (jump_after rel _ _ _ _ ∙ ap (λ k. jumped rel s (res_of k by.op0 by.op1)) (operand_kind (ap_cell (pos 1)) to kind.Op1)) refl refl,
  )

  add_does : (r : Res) (t : State) → HasImmediate m (s.pc + 1) (res_immediate r) → StepBy m (flags_of (instr.AddAp r)) s t → Executes m (instr.AddAp r) s t
  add_does r t has by = (
    res_of (sources_of r).res by.op0 by.op1,
    res_reads r by.op0 by.op1 has by.reads.op0_is by.reads.op1_is,
    by.next ∙ state_is _ _ _ _ _ _ (next_by (res_immediate r) _ (res_size r)) refl refl,
  )

  ret_does : (t : State) → StepBy m (flags_of instr.Ret) s t → Executes m instr.Ret s t
  ret_does t by = (by.op1, by.dst, by.reads.dst_is, by.reads.op1_is, by.next)

  does : (i : Instr) (t : State) → HasInstr m s.pc i → StepBy m (flags_of i) s t → Executes m i s t
  does (instr.AssertEq dst r inc) t has by = assert_does dst r inc t has.beside by
  does (instr.Jump rel to inc) t has by = jump_does rel to inc t has.beside by
  does (instr.Jnz cond to inc) t has by = jnz_does cond to inc t has.beside by
  does (instr.Call rel to) t has by = call_does rel to t has.beside by
  does (instr.AddAp r) t has by = add_does r t has.beside by
  does instr.Ret t has by = ret_does t by

  -- a step from an instruction is what the instruction does
  pub executes : (i : Instr) (t : State) → IsInstrNear i → HasInstr m s.pc i → Step m s t → Executes m i s t
  executes i t near has step = does i t has (step_by i t near has step)

  module _ (u : ℕ) (frame : m (difference s.fp 1) ≡ Some u) where
    assert_steps : (dst : CellRef) (r : Res) (inc : Bool) (t : State) → HasImmediate m (s.pc + 1) (res_immediate r)
        → Executes m (instr.AssertEq dst r inc) s t → StepBy m (flags_of (instr.AssertEq dst r inc)) s t
    assert_steps dst r inc t has (w, left, right, next) =
        let read = res_back r w u has frame right in
        record {
          op0 = read.op0;
          op1 = read.op1;
          dst = w;
          reads = record { op0_is = read.op0_is; op1_is = read.op1_is; dst_is = left };
          asserts = sym read.gives;
          next = next ∙ state_is _ _ _ _ _ _ (sym (next_by (res_immediate r) _ (res_size r))) (sym (inc_after inc _)) refl;
        }

    jump_steps : (rel : Bool) (to : Res) (inc : Bool) (t : State) → HasImmediate m (s.pc + 1) (res_immediate to)
        → Executes m (instr.Jump rel to inc) s t → StepBy m (flags_of (instr.Jump rel to inc)) s t
    jump_steps rel to inc t has (n, is, next) =
        let read = res_back to n u has frame is in
        record {
          op0 = read.op0;
          op1 = read.op1;
          dst = u;
          reads = record { op0_is = read.op0_is; op1_is = read.op1_is; dst_is = frame };
          asserts = tt;
          next = next ∙ state_is _ _ _ _ _ _ (ap (jumped rel s) (sym read.gives) ∙ sym (jump_after rel _ _ _ _)) (sym (inc_after_jump inc _)) refl;
        }

    operand_op0_is : (c : CellRef) (x : Operand) (k : ResKind) (w : ℕ) → m (cell_address s c) ≡ Some w → m (cell_address s (with_operand c x k).op0) ≡ Some w
    operand_op0_is c x k w is = ap (λ c. m (cell_address s c)) (operand_op0 c x k) ∙ is

    jnz_steps : (cond : CellRef) (to : Operand) (inc : Bool) (t : State) → HasImmediate m (s.pc + 1) (operand_immediate to)
        → Executes m (instr.Jnz cond to inc) s t → StepBy m (flags_of (instr.Jnz cond to inc)) s t
    jnz_steps cond to inc t has (w, n, tested, is, next) = record {
      op0 = u;
      op1 = n;
      dst = w;
      reads = record { op0_is = operand_op0_is unused to kind.Op1 u frame; op1_is = operand_place unused to kind.Op1 u has ∙ is; dst_is = tested };
      asserts = tt;
      next = next ∙ state_is _ _ _ _ _ _ (ap (λ next. if w == 0 then next else sum s.pc n) (sym (next_by (operand_immediate to) _ (operand_size unused to kind.Op1)))) (sym (inc_after_jump inc _)) refl;
    }

    call_steps : (rel : Bool) (to : Operand) (t : State) → HasImmediate m (s.pc + 1) (operand_immediate to)
        → Executes m (instr.Call rel to) s t → StepBy m (flags_of (instr.Call rel to)) s t
    call_steps rel to t has (n, first, second, is, next) = record {
      op0 = next_pc (instr.Call rel to) s;
      op1 = n;
      dst = s.fp;
      reads = record {
        op0_is = operand_op0_is (ap_cell (pos 1)) to kind.Op1 (next_pc (instr.Call rel to) s) second;
        op1_is = operand_place (ap_cell (pos 1)) to kind.Op1 (next_pc (instr.Call rel to) s) has ∙ is;
        dst_is = first;
      };
      asserts = (refl, sym (next_by (operand_immediate to) _ (operand_size (ap_cell (pos 1)) to kind.Op1)));
      next = next ∙ state_is _ _ _ _ _ _ (ap (λ k. jumped rel s (res_of k (next_pc (instr.Call rel to) s) n)) (sym (operand_kind (ap_cell (pos 1)) to kind.Op1)) ∙ sym (jump_after rel _ _ _ _)) refl refl;
    }

    add_steps : (r : Res) (t : State) → HasImmediate m (s.pc + 1) (res_immediate r) → Executes m (instr.AddAp r) s t → StepBy m (flags_of (instr.AddAp r)) s t
    add_steps r t has (n, is, next) =
        let read = res_back r n u has frame is in
        record {
          op0 = read.op0;
          op1 = read.op1;
          dst = u;
          reads = record { op0_is = read.op0_is; op1_is = read.op1_is; dst_is = frame };
          asserts = tt;
          next = next ∙ state_is _ _ _ _ _ _ (sym (next_by (res_immediate r) _ (res_size r))) (ap (sum s.ap) (sym read.gives)) refl;
        }

    ret_steps : (t : State) → Executes m instr.Ret s t → StepBy m (flags_of instr.Ret) s t
    ret_steps t (pc, fp, saved, back, next) = record {
      op0 = pc;
      op1 = pc;
      dst = fp;
      reads = record { op0_is = back; op1_is = back; dst_is = saved };
      asserts = tt;
      next = next;
    }

    steps_by : (i : Instr) (t : State) → HasInstr m s.pc i → Executes m i s t → StepBy m (flags_of i) s t
    steps_by (instr.AssertEq dst r inc) t has does = assert_steps dst r inc t has.beside does
    steps_by (instr.Jump rel to inc) t has does = jump_steps rel to inc t has.beside does
    steps_by (instr.Jnz cond to inc) t has does = jnz_steps cond to inc t has.beside does
    steps_by (instr.Call rel to) t has does = call_steps rel to t has.beside does
    steps_by (instr.AddAp r) t has does = add_steps r t has.beside does
    steps_by instr.Ret t has does = ret_steps t does

    -- what an instruction does is a step
    pub steps : (i : Instr) (t : State) → IsInstrNear i → HasInstr m s.pc i → Executes m i s t → Step m s t
    steps i t near has does = by_step i t near has (steps_by i t has does)
