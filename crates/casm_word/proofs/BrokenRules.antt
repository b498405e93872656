-- The rules on flags of different kinds, as they are tested and as they are said.
use Rattle.std.proofs.Common.{◌≡◌, ◌≢◌, false, ℤ, pos, None, refl, sym, arith}
use Rattle.std.proofs.lemmas.Bool.{false≢true}
use Rattle.std.proofs.lemmas.Bool.Decides.{nat_tests}
use Rattle.casm_word.specs.declared.flags.Op1.{Op1}
use Rattle.casm_word.specs.declared.flags.Op1.TheVariants as op1
use Rattle.casm_word.specs.declared.flags.ResKind.{ResKind}
use Rattle.casm_word.specs.declared.flags.ResKind.TheVariants as res
use Rattle.casm_word.specs.declared.flags.PcKind.{PcKind}
use Rattle.casm_word.specs.declared.flags.PcKind.TheVariants as pc
use Rattle.casm_word.specs.declared.flags.ApKind.{ApKind}
use Rattle.casm_word.specs.declared.flags.ApKind.TheVariants as ap
use Rattle.casm_word.specs.declared.flags.Opcode.{Opcode}
use Rattle.casm_word.specs.declared.flags.Opcode.TheVariants as opcode
use Rattle.casm_word.specs.declared.flags.Flags.{Flags}
use Rattle.casm_word.specs.Parts.{IsDefined}
use Rattle.casm_word.specs.Decoding.{jnz_beside_others, call_beside_ap_flag, immediate_not_next, broken_rule}

-- pc_jnz stands alone
abbrev pub JnzAlone : PcKind → ResKind → Opcode → ApKind → Type 0
JnzAlone p r o a = p ≡ pc.Jnz → (r ≡ res.Op1) × (o ≡ opcode.Nop) × (a ≢ ap.Add)

pub jnz_alone : (p : PcKind) (r : ResKind) (o : Opcode) (a : ApKind) → jnz_beside_others p r o a ≡ false → JnzAlone p r o a
jnz_alone pc.Next r o a is jnz = cc
jnz_alone pc.Abs r o a is jnz = cc
jnz_alone pc.Rel r o a is jnz = cc
jnz_alone pc.Jnz res.Op1 opcode.Nop ap.Keep is jnz = (refl, refl, λ e. cc)
jnz_alone pc.Jnz res.Op1 opcode.Nop ap.Inc is jnz = (refl, refl, λ e. cc)
jnz_alone pc.Jnz _ _ _ is jnz = absurd (false≢true (sym is))

pub jnz_not_beside : (p : PcKind) (r : ResKind) (o : Opcode) (a : ApKind) → JnzAlone p r o a → jnz_beside_others p r o a ≡ false
jnz_not_beside pc.Next r o a alone = refl
jnz_not_beside pc.Abs r o a alone = refl
jnz_not_beside pc.Rel r o a alone = refl
jnz_not_beside pc.Jnz res.Op1 opcode.Nop ap.Keep alone = refl
jnz_not_beside pc.Jnz res.Op1 opcode.Nop ap.Inc alone = refl
jnz_not_beside pc.Jnz res.Op1 opcode.Nop ap.Add alone = absurd ((alone refl).2 refl)
jnz_not_beside pc.Jnz res.Op1 opcode.Call a alone = let e = (alone refl).1 in cc
jnz_not_beside pc.Jnz res.Op1 opcode.Ret a alone = let e = (alone refl).1 in cc
jnz_not_beside pc.Jnz res.Op1 opcode.AssertEq a alone = let e = (alone refl).1 in cc
jnz_not_beside pc.Jnz res.Add o a alone = let e = (alone refl).0 in cc
jnz_not_beside pc.Jnz res.Mul o a alone = let e = (alone refl).0 in cc

pub call_keeps_ap : (o : Opcode) (a : ApKind) → call_beside_ap_flag o a ≡ false → o ≡ opcode.Call → a ≡ ap.Keep
call_keeps_ap opcode.Call ap.Keep is call = refl
call_keeps_ap opcode.Call ap.Add is call = absurd (false≢true (sym is))
call_keeps_ap opcode.Call ap.Inc is call = absurd (false≢true (sym is))
call_keeps_ap opcode.Nop a is call = cc
call_keeps_ap opcode.Ret a is call = cc
call_keeps_ap opcode.AssertEq a is call = cc

pub call_not_beside : (o : Opcode) (a : ApKind) → (o ≡ opcode.Call → a ≡ ap.Keep) → call_beside_ap_flag o a ≡ false
call_not_beside opcode.Call ap.Keep keeps = refl
call_not_beside opcode.Call ap.Add keeps = let e = keeps refl in cc
call_not_beside opcode.Call ap.Inc keeps = let e = keeps refl in cc
call_not_beside opcode.Nop a keeps = refl
call_not_beside opcode.Ret a keeps = refl
call_not_beside opcode.AssertEq a keeps = refl

pub immediate_is_next : (x : Op1) (off : ℤ) → immediate_not_next x off ≡ false → x ≡ op1.Imm → off ≡ pos 1
immediate_is_next op1.Imm off is imm = grind (arith, nat_tests)
immediate_is_next op1.Op0 off is imm = cc
immediate_is_next op1.Fp off is imm = cc
immediate_is_next op1.Ap off is imm = cc

pub immediate_not_elsewhere : (x : Op1) (off : ℤ) → (x ≡ op1.Imm → off ≡ pos 1) → immediate_not_next x off ≡ false
immediate_not_elsewhere op1.Imm off next = let e = next refl in rw e refl
immediate_not_elsewhere op1.Op0 off next = refl
immediate_not_elsewhere op1.Fp off next = refl
immediate_not_elsewhere op1.Ap off next = refl

pub defined_from : (f : Flags) → broken_rule (record { op1 = f.op1; res = f.res; pc = f.pc; ap = f.ap; opcode = f.opcode }) f.off_op1 ≡ None → IsDefined f
unfolding broken_rule
defined_from f is =
    let jnz : jnz_beside_others f.pc f.res f.opcode f.ap ≡ false = grind arith in
    let call : call_beside_ap_flag f.opcode f.ap ≡ false = grind arith in
    let imm : immediate_not_next f.op1 f.off_op1 ≡ false = grind arith in
    record {
      jnz_alone = jnz_alone f.pc f.res f.opcode f.ap jnz;
      call_keeps_ap = call_keeps_ap f.opcode f.ap call;
      immediate_is_next = immediate_is_next f.op1 f.off_op1 imm;
    }

pub none_broken : (f : Flags) → IsDefined f → broken_rule (record { op1 = f.op1; res = f.res; pc = f.pc; ap = f.ap; opcode = f.opcode }) f.off_op1 ≡ None
unfolding broken_rule
none_broken f defined =
    let jnz = jnz_not_beside f.pc f.res f.opcode f.ap defined.jnz_alone in
    let call = call_not_beside f.opcode f.ap defined.call_keeps_ap in
    let imm = immediate_not_elsewhere f.op1 f.off_op1 defined.immediate_is_next in
    rw (jnz, call, imm) refl
