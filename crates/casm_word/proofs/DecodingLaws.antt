-- What decoding gives: the flags of a word, or the first rule that it meets.
use Rattle.std.proofs.Common.{◌≡◌, ◌≢◌, ◌⊎◌, ℕ, ◌+◌, ◌/◌, ◌%◌, ◌^◌, ◌<◌, ◌≤◌, Bool, true, false, cond, ℤ, pos, Option, Some, None, Result, Ok, Err, ◌==◌, if◌then◌else◌, refl, sym, ap, subst, ◌∙◌, inl, inr, arith}
use Rattle.std.proofs.lemmas.Bool.{cases_lt, false≢true, le-leb, lt-leb}
use Rattle.std.proofs.lemmas.Bool.Decides.{nat_tests}
use Rattle.casm_word.specs.declared.flags.Op1.{Op1}
use Rattle.casm_word.specs.declared.flags.Op1.TheVariants as op1
use Rattle.casm_word.specs.declared.flags.ResKind.{ResKind}
use Rattle.casm_word.specs.declared.flags.ResKind.TheVariants as res
use Rattle.casm_word.specs.declared.flags.PcKind.{PcKind}
use Rattle.casm_word.specs.declared.flags.PcKind.TheVariants as pc
use Rattle.casm_word.specs.declared.flags.ApKind.{ApKind}
use Rattle.casm_word.specs.declared.flags.ApKind.TheVariants as apk
use Rattle.casm_word.specs.declared.flags.Opcode.{Opcode}
use Rattle.casm_word.specs.declared.flags.Opcode.TheVariants as opcode
use Rattle.casm_word.specs.declared.flags.Flags.{Flags}
use Rattle.casm_word.specs.declared.rules.Rule.{Rule}
use Rattle.casm_word.specs.declared.rules.Rule.TheVariants.{TwoOp1Flags, TwoResFlags, TwoPcFlags, TwoApFlags, TwoOpcodes, JnzBesideOthers, CallBesideApFlag, ImmediateNotNext}
use Rattle.casm_word.specs.declared.rules.WordFault.{WordFault}
use Rattle.casm_word.specs.declared.rules.WordFault.TheVariants.{HighBit, Undefined}
use Rattle.casm_word.specs.declared.decoding.Kinds.{Kinds}
use Rattle.casm_word.specs.Word.{Word, AreNear, word_of, biased}
use Rattle.casm_word.specs.Rules.{IsBitSet, Meets, number, HasHighBit, IsUndefinedBy}
use Rattle.casm_word.specs.Decoding.{field, unbiased, one_of_three, one_of_two, op1_in, res_in, pc_in, ap_in, opcode_in, kinds_of, kinds_in, broken_rule, jnz_beside_others, call_beside_ap_flag, immediate_not_next, parts_in, flags_from, flags_by, decoded}
use Rattle.casm_word.proofs.Fields.{bit_of_field, field_below}
use Rattle.casm_word.proofs.OneFlag.{two_in, two_of, both_in, both_of, three_none, three_some, three_code, two_none, two_some, two_code}
use Rattle.casm_word.proofs.BrokenRules.{defined_from, none_broken}
use Rattle.casm_word.proofs.Sums.{op1_code, res_code, pc_code, ap_code, opcode_code, bit_code, op1_adds, res_adds, pc_adds, ap_adds, opcode_adds, bit_adds, bit_of_code, code_of_bit, biased-unbiased, unbiased-biased, biased_below, unbiased_near, word_sum, sum_fields, Fields}

-- ---- the order of the rules

rule_at : ℕ → Rule
rule_at n =
    if n == 1 then TwoOp1Flags else (if n == 2 then TwoResFlags else (if n == 3 then TwoPcFlags else (if n == 4 then TwoApFlags
    else (if n == 5 then TwoOpcodes else (if n == 6 then JnzBesideOthers else (if n == 7 then CallBesideApFlag else ImmediateNotNext))))))

rule_at-number : (rule : Rule) → rule_at (number rule) ≡ rule
unfolding rule_at
rule_at-number TwoOp1Flags = refl
rule_at-number TwoResFlags = refl
rule_at-number TwoPcFlags = refl
rule_at-number TwoApFlags = refl
rule_at-number TwoOpcodes = refl
rule_at-number JnzBesideOthers = refl
rule_at-number CallBesideApFlag = refl
rule_at-number ImmediateNotNext = refl

pub same_rule : (a b : Rule) → number a ≡ number b → a ≡ b
same_rule a b same = sym (rule_at-number a) ∙ ap rule_at same ∙ rule_at-number b

number_bounds : (rule : Rule) → (1 ≤ number rule) × (number rule < 9)
number_bounds TwoOp1Flags = (omega arith, omega arith)
number_bounds TwoResFlags = (omega arith, omega arith)
number_bounds TwoPcFlags = (omega arith, omega arith)
number_bounds TwoApFlags = (omega arith, omega arith)
number_bounds TwoOpcodes = (omega arith, omega arith)
number_bounds JnzBesideOthers = (omega arith, omega arith)
number_bounds CallBesideApFlag = (omega arith, omega arith)
number_bounds ImmediateNotNext = (omega arith, omega arith)

-- the word meets no rule before this place
abbrev NoneBefore : ℕ → ℕ → Type 0
NoneBefore n word = (other : Rule) → number other < n → ¬ Meets other word

none_before_first : (word : ℕ) → NoneBefore 1 word
none_before_first word other before = absurd (omega (arith, (number_bounds other).0))

-- one rule more
none_more : (word : ℕ) (rule : Rule) → NoneBefore (number rule) word → ¬ Meets rule word → NoneBefore (number rule + 1) word
none_more word rule before not_met other lt met =
    elim (cases_lt (number other) (number rule)) [
      | inl less ↦ before other less met
      | inr more ↦ not_met (subst (λ r. Meets r word) (same_rule other rule (omega arith)) met)
    ]

-- ---- the flags of each kind

-- the bits of each kind are those of what was found
record Reads (word : ℕ) (k : Kinds) : Type 0 where
  pub op1 : field word 50 3 ≡ op1_code k.op1
  pub res : field word 53 2 ≡ res_code k.res
  pub pc : field word 55 3 ≡ pc_code k.pc
  pub ap : field word 58 2 ≡ ap_code k.ap
  pub opcode : field word 60 3 ≡ opcode_code k.opcode

abbrev KindsMean : ℕ → Result Kinds Rule → Type 0
KindsMean word (Ok k) = NoneBefore 6 word × Reads word k
KindsMean word (Err rule) = NoneBefore (number rule) word × Meets rule word

module _ (word : ℕ) where
  op1_found : (x : Op1) → op1_in word ≡ Some x → (¬ Meets TwoOp1Flags word) × (field word 50 3 ≡ op1_code x)
  unfolding op1_code
  op1_found x is = (λ met. three_some _ _ _ _ x _ (field_below word 50 3) is (two_of word 50 met), three_code op1.Op0 op1.Imm op1.Fp op1.Ap op1_code refl refl refl refl x _ (field_below word 50 3) is)

  res_found : (x : ResKind) → res_in word ≡ Some x → (¬ Meets TwoResFlags word) × (field word 53 2 ≡ res_code x)
  unfolding res_code
  res_found x is = (λ met. two_some _ _ _ x _ (field_below word 53 2) is (both_of word 53 met), two_code res.Op1 res.Add res.Mul res_code refl refl refl x _ (field_below word 53 2) is)

  pc_found : (x : PcKind) → pc_in word ≡ Some x → (¬ Meets TwoPcFlags word) × (field word 55 3 ≡ pc_code x)
  unfolding pc_code
  pc_found x is = (λ met. three_some _ _ _ _ x _ (field_below word 55 3) is (two_of word 55 met), three_code pc.Next pc.Abs pc.Rel pc.Jnz pc_code refl refl refl refl x _ (field_below word 55 3) is)

  ap_found : (x : ApKind) → ap_in word ≡ Some x → (¬ Meets TwoApFlags word) × (field word 58 2 ≡ ap_code x)
  unfolding ap_code
  ap_found x is = (λ met. two_some _ _ _ x _ (field_below word 58 2) is (both_of word 58 met), two_code apk.Keep apk.Add apk.Inc ap_code refl refl refl x _ (field_below word 58 2) is)

  opcode_found : (x : Opcode) → opcode_in word ≡ Some x → (¬ Meets TwoOpcodes word) × (field word 60 3 ≡ opcode_code x)
  unfolding opcode_code
  opcode_found x is = (λ met. three_some _ _ _ _ x _ (field_below word 60 3) is (two_of word 60 met), three_code opcode.Nop opcode.Call opcode.Ret opcode.AssertEq opcode_code refl refl refl refl x _ (field_below word 60 3) is)

  kinds_mean : (a : Option Op1) (b : Option ResKind) (c : Option PcKind) (d : Option ApKind) (e : Option Opcode)
      → op1_in word ≡ a → res_in word ≡ b → pc_in word ≡ c → ap_in word ≡ d → opcode_in word ≡ e → KindsMean word (kinds_of a b c d e)
  unfolding kinds_of
  kinds_mean None b c d e a-is b-is c-is d-is e-is =
      (none_before_first word, two_in word 50 (three_none _ _ _ _ _ (field_below word 50 3) a-is))
  kinds_mean (Some x) None c d e a-is b-is c-is d-is e-is =
      (none_more word TwoOp1Flags (none_before_first word) (op1_found x a-is).0, both_in word 53 (two_none _ _ _ _ (field_below word 53 2) b-is))
  kinds_mean (Some x) (Some r) None d e a-is b-is c-is d-is e-is =
      let first = none_more word TwoOp1Flags (none_before_first word) (op1_found x a-is).0 in
      (none_more word TwoResFlags first (res_found r b-is).0, two_in word 55 (three_none _ _ _ _ _ (field_below word 55 3) c-is))
  kinds_mean (Some x) (Some r) (Some q) None e a-is b-is c-is d-is e-is =
      let first = none_more word TwoOp1Flags (none_before_first word) (op1_found x a-is).0 in
      let second = none_more word TwoResFlags first (res_found r b-is).0 in
      (none_more word TwoPcFlags second (pc_found q c-is).0, both_in word 58 (two_none _ _ _ _ (field_below word 58 2) d-is))
  kinds_mean (Some x) (Some r) (Some q) (Some s) None a-is b-is c-is d-is e-is =
      let first = none_more word TwoOp1Flags (none_before_first word) (op1_found x a-is).0 in
      let second = none_more word TwoResFlags first (res_found r b-is).0 in
      let third = none_more word TwoPcFlags second (pc_found q c-is).0 in
      (none_more word TwoApFlags third (ap_found s d-is).0, two_in word 60 (three_none _ _ _ _ _ (field_below word 60 3) e-is))
  kinds_mean (Some x) (Some r) (Some q) (Some s) (Some o) a-is b-is c-is d-is e-is =
      let first = none_more word TwoOp1Flags (none_before_first word) (op1_found x a-is).0 in
      let second = none_more word TwoResFlags first (res_found r b-is).0 in
      let third = none_more word TwoPcFlags second (pc_found q c-is).0 in
      let fourth = none_more word TwoApFlags third (ap_found s d-is).0 in
      (none_more word TwoOpcodes fourth (opcode_found o e-is).0, record { op1 = (op1_found x a-is).1; res = (res_found r b-is).1; pc = (pc_found q c-is).1; ap = (ap_found s d-is).1; opcode = (opcode_found o e-is).1 })

-- ---- flags of different kinds

module _ (word at count i n : ℕ) (inside : i < count) (is : field word at count ≡ n) where
  bit_in_word : IsBitSet n i → IsBitSet word (at + i)
  bit_in_word bit = sym (bit_of_field word at count i inside) ∙ ap (λ n. n / 2 ^ i % 2) is ∙ bit

  bit_in_field : IsBitSet word (at + i) → IsBitSet n i
  bit_in_field bit = ap (λ n. n / 2 ^ i % 2) (sym is) ∙ bit_of_field word at count i inside ∙ bit

-- the rule on pc_jnz, said of the bits of each kind
abbrev JnzBits : ℕ → ℕ → ℕ → ℕ → Type 0
JnzBits q r o s = IsBitSet q 2 × (IsBitSet r 0 ⊎ IsBitSet r 1 ⊎ IsBitSet o 0 ⊎ IsBitSet o 1 ⊎ IsBitSet o 2 ⊎ IsBitSet s 0)

jnz_bits : (q : PcKind) (r : ResKind) (o : Opcode) (s : ApKind) → jnz_beside_others q r o s ≡ true → JnzBits (pc_code q) (res_code r) (opcode_code o) (ap_code s)
unfolding pc_code res_code opcode_code ap_code
jnz_bits pc.Next r o s is = absurd (false≢true is)
jnz_bits pc.Abs r o s is = absurd (false≢true is)
jnz_bits pc.Rel r o s is = absurd (false≢true is)
jnz_bits pc.Jnz res.Add o s is = (refl, inl refl)
jnz_bits pc.Jnz res.Mul o s is = (refl, inr (inl refl))
jnz_bits pc.Jnz res.Op1 opcode.Call s is = (refl, inr (inr (inl refl)))
jnz_bits pc.Jnz res.Op1 opcode.Ret s is = (refl, inr (inr (inr (inl refl))))
jnz_bits pc.Jnz res.Op1 opcode.AssertEq s is = (refl, inr (inr (inr (inr (inl refl)))))
jnz_bits pc.Jnz res.Op1 opcode.Nop apk.Add is = (refl, inr (inr (inr (inr (inr refl)))))
jnz_bits pc.Jnz res.Op1 opcode.Nop apk.Keep is = absurd (false≢true is)
jnz_bits pc.Jnz res.Op1 opcode.Nop apk.Inc is = absurd (false≢true is)

no_other_bit : (s : ℕ) → (IsBitSet s 0 → ⊥) → IsBitSet 0 0 ⊎ IsBitSet 0 1 ⊎ IsBitSet 0 0 ⊎ IsBitSet 0 1 ⊎ IsBitSet 0 2 ⊎ IsBitSet s 0 → ⊥
no_other_bit s clear (inl bit) = cc
no_other_bit s clear (inr (inl bit)) = cc
no_other_bit s clear (inr (inr (inl bit))) = cc
no_other_bit s clear (inr (inr (inr (inl bit)))) = cc
no_other_bit s clear (inr (inr (inr (inr (inl bit))))) = cc
no_other_bit s clear (inr (inr (inr (inr (inr bit))))) = clear bit

no_jnz_bits : (q : PcKind) (r : ResKind) (o : Opcode) (s : ApKind) → jnz_beside_others q r o s ≡ false → ¬ JnzBits (pc_code q) (res_code r) (opcode_code o) (ap_code s)
unfolding pc_code res_code opcode_code ap_code
no_jnz_bits pc.Next r o s is bits = let jnz = bits.0 in cc
no_jnz_bits pc.Abs r o s is bits = let jnz = bits.0 in cc
no_jnz_bits pc.Rel r o s is bits = let jnz = bits.0 in cc
no_jnz_bits pc.Jnz res.Op1 opcode.Nop apk.Keep is bits = no_other_bit 0 (λ bit. cc) bits.1
no_jnz_bits pc.Jnz res.Op1 opcode.Nop apk.Inc is bits = no_other_bit 2 (λ bit. cc) bits.1
no_jnz_bits pc.Jnz _ _ _ is bits = absurd (false≢true (sym is))

abbrev CallBits : ℕ → ℕ → Type 0
CallBits o s = IsBitSet o 0 × (IsBitSet s 0 ⊎ IsBitSet s 1)

call_bits : (o : Opcode) (s : ApKind) → call_beside_ap_flag o s ≡ true → CallBits (opcode_code o) (ap_code s)
unfolding opcode_code ap_code
call_bits opcode.Call apk.Add is = (refl, inl refl)
call_bits opcode.Call apk.Inc is = (refl, inr refl)
call_bits opcode.Call apk.Keep is = absurd (false≢true is)
call_bits opcode.Nop s is = absurd (false≢true is)
call_bits opcode.Ret s is = absurd (false≢true is)
call_bits opcode.AssertEq s is = absurd (false≢true is)

no_call_bits : (o : Opcode) (s : ApKind) → call_beside_ap_flag o s ≡ false → ¬ CallBits (opcode_code o) (ap_code s)
unfolding opcode_code ap_code
no_call_bits opcode.Call apk.Keep is (call, inl bit) = cc
no_call_bits opcode.Call apk.Keep is (call, inr bit) = cc
no_call_bits opcode.Call apk.Add is bits = absurd (false≢true (sym is))
no_call_bits opcode.Call apk.Inc is bits = absurd (false≢true (sym is))
no_call_bits opcode.Nop s is bits = let call = bits.0 in cc
no_call_bits opcode.Ret s is bits = let call = bits.0 in cc
no_call_bits opcode.AssertEq s is bits = let call = bits.0 in cc

abbrev ImmediateBits : ℕ → ℕ → Type 0
ImmediateBits x off = IsBitSet x 0 × (off ≢ biased (pos 1))

immediate_bits : (x : Op1) (off : ℕ) → immediate_not_next x (unbiased off) ≡ true → ImmediateBits (op1_code x) off
unfolding op1_code
immediate_bits op1.Imm off is = (refl, λ same. let true_false : immediate_not_next op1.Imm (pos 1) ≡ true = subst (λ n. immediate_not_next op1.Imm (unbiased n) ≡ true) same is in false≢true true_false)
immediate_bits op1.Op0 off is = absurd (false≢true is)
immediate_bits op1.Fp off is = absurd (false≢true is)
immediate_bits op1.Ap off is = absurd (false≢true is)

is_one : (off : ℤ) → immediate_not_next op1.Imm off ≡ false → off ≡ pos 1
is_one off is = grind (arith, nat_tests)

no_immediate_bits : (x : Op1) (off : ℕ) → off < 2 ^ 16 → immediate_not_next x (unbiased off) ≡ false → ¬ ImmediateBits (op1_code x) off
unfolding op1_code
no_immediate_bits op1.Imm off lt is bits = bits.1 (sym (biased-unbiased off lt) ∙ ap biased (is_one (unbiased off) is))
no_immediate_bits op1.Op0 off lt is bits = let imm = bits.0 in cc
no_immediate_bits op1.Fp off lt is bits = let imm = bits.0 in cc
no_immediate_bits op1.Ap off lt is bits = let imm = bits.0 in cc

module _ (word : ℕ) (k : Kinds) (reads : Reads word k) where
  jnz_met : JnzBits (pc_code k.pc) (res_code k.res) (opcode_code k.opcode) (ap_code k.ap) → Meets JnzBesideOthers word
  jnz_met (jnz, inl bit) = (bit_in_word word 55 3 2 _ (omega arith) reads.pc jnz, inl (bit_in_word word 53 2 0 _ (omega arith) reads.res bit))
  jnz_met (jnz, inr (inl bit)) = (bit_in_word word 55 3 2 _ (omega arith) reads.pc jnz, inr (inl (bit_in_word word 53 2 1 _ (omega arith) reads.res bit)))
  jnz_met (jnz, inr (inr (inl bit))) = (bit_in_word word 55 3 2 _ (omega arith) reads.pc jnz, inr (inr (inl (bit_in_word word 60 3 0 _ (omega arith) reads.opcode bit))))
  jnz_met (jnz, inr (inr (inr (inl bit)))) = (bit_in_word word 55 3 2 _ (omega arith) reads.pc jnz, inr (inr (inr (inl (bit_in_word word 60 3 1 _ (omega arith) reads.opcode bit)))))
  jnz_met (jnz, inr (inr (inr (inr (inl bit))))) = (bit_in_word word 55 3 2 _ (omega arith) reads.pc jnz, inr (inr (inr (inr (inl (bit_in_word word 60 3 2 _ (omega arith) reads.opcode bit))))))
  jnz_met (jnz, inr (inr (inr (inr (inr bit))))) = (bit_in_word word 55 3 2 _ (omega arith) reads.pc jnz, inr (inr (inr (inr (inr (bit_in_word word 58 2 0 _ (omega arith) reads.ap bit))))))

  jnz_of : Meets JnzBesideOthers word → JnzBits (pc_code k.pc) (res_code k.res) (opcode_code k.opcode) (ap_code k.ap)
  jnz_of (jnz, inl bit) = (bit_in_field word 55 3 2 _ (omega arith) reads.pc jnz, inl (bit_in_field word 53 2 0 _ (omega arith) reads.res bit))
  jnz_of (jnz, inr (inl bit)) = (bit_in_field word 55 3 2 _ (omega arith) reads.pc jnz, inr (inl (bit_in_field word 53 2 1 _ (omega arith) reads.res bit)))
  jnz_of (jnz, inr (inr (inl bit))) = (bit_in_field word 55 3 2 _ (omega arith) reads.pc jnz, inr (inr (inl (bit_in_field word 60 3 0 _ (omega arith) reads.opcode bit))))
  jnz_of (jnz, inr (inr (inr (inl bit)))) = (bit_in_field word 55 3 2 _ (omega arith) reads.pc jnz, inr (inr (inr (inl (bit_in_field word 60 3 1 _ (omega arith) reads.opcode bit)))))
  jnz_of (jnz, inr (inr (inr (inr (inl bit))))) = (bit_in_field word 55 3 2 _ (omega arith) reads.pc jnz, inr (inr (inr (inr (inl (bit_in_field word 60 3 2 _ (omega arith) reads.opcode bit))))))
  jnz_of (jnz, inr (inr (inr (inr (inr bit))))) = (bit_in_field word 55 3 2 _ (omega arith) reads.pc jnz, inr (inr (inr (inr (inr (bit_in_field word 58 2 0 _ (omega arith) reads.ap bit))))))

  call_met : CallBits (opcode_code k.opcode) (ap_code k.ap) → Meets CallBesideApFlag word
  call_met (call, inl bit) = (bit_in_word word 60 3 0 _ (omega arith) reads.opcode call, inl (bit_in_word word 58 2 0 _ (omega arith) reads.ap bit))
  call_met (call, inr bit) = (bit_in_word word 60 3 0 _ (omega arith) reads.opcode call, inr (bit_in_word word 58 2 1 _ (omega arith) reads.ap bit))

  call_of : Meets CallBesideApFlag word → CallBits (opcode_code k.opcode) (ap_code k.ap)
  call_of (call, inl bit) = (bit_in_field word 60 3 0 _ (omega arith) reads.opcode call, inl (bit_in_field word 58 2 0 _ (omega arith) reads.ap bit))
  call_of (call, inr bit) = (bit_in_field word 60 3 0 _ (omega arith) reads.opcode call, inr (bit_in_field word 58 2 1 _ (omega arith) reads.ap bit))

  immediate_met : ImmediateBits (op1_code k.op1) (field word 32 16) → Meets ImmediateNotNext word
  immediate_met bits = (bit_in_word word 50 3 0 _ (omega arith) reads.op1 bits.0, bits.1)

  immediate_of : Meets ImmediateNotNext word → ImmediateBits (op1_code k.op1) (field word 32 16)
  immediate_of met = (bit_in_field word 50 3 0 _ (omega arith) reads.op1 met.0, met.1)

  abbrev BrokenMeans : Option Rule → Type 0
  BrokenMeans None = NoneBefore 9 word
  BrokenMeans (Some rule) = NoneBefore (number rule) word × Meets rule word

  module _ (before : NoneBefore 6 word) where
    broken_cases : (x y z : Bool) → jnz_beside_others k.pc k.res k.opcode k.ap ≡ x → call_beside_ap_flag k.opcode k.ap ≡ y → immediate_not_next k.op1 (unbiased (field word 32 16)) ≡ z
        → BrokenMeans (if x then Some JnzBesideOthers else (if y then Some CallBesideApFlag else (if z then Some ImmediateNotNext else None)))
    broken_cases true y z jnz call imm = (before, jnz_met (jnz_bits _ _ _ _ jnz))
    broken_cases false true z jnz call imm =
        let sixth = none_more word JnzBesideOthers before (λ met. no_jnz_bits _ _ _ _ jnz (jnz_of met)) in
        (sixth, call_met (call_bits _ _ call))
    broken_cases false false true jnz call imm =
        let sixth = none_more word JnzBesideOthers before (λ met. no_jnz_bits _ _ _ _ jnz (jnz_of met)) in
        let seventh = none_more word CallBesideApFlag sixth (λ met. no_call_bits _ _ call (call_of met)) in
        (seventh, immediate_met (immediate_bits _ _ imm))
    broken_cases false false false jnz call imm =
        let sixth = none_more word JnzBesideOthers before (λ met. no_jnz_bits _ _ _ _ jnz (jnz_of met)) in
        let seventh = none_more word CallBesideApFlag sixth (λ met. no_call_bits _ _ call (call_of met)) in
        none_more word ImmediateNotNext seventh (λ met. no_immediate_bits _ _ (field_below word 32 16) imm (immediate_of met))

    broken_means : BrokenMeans (broken_rule k (unbiased (field word 32 16)))
    unfolding broken_rule
    broken_means = broken_cases _ _ _ refl refl refl

-- ---- the whole word

-- what each answer of decoding means
abbrev pub Means : ℕ → Result Flags WordFault → Type 0
Means word (Ok f) = Word f word × ((rule : Rule) → ¬ Meets rule word)
Means word (Err HighBit) = HasHighBit word
Means word (Err (Undefined rule)) = IsUndefinedBy rule word

parts_sum : (word : ℕ) (k : Kinds) → word < 2 ^ 63 → Reads word k → word_of (parts_in word k) ≡ word
parts_sum word k below reads =
    let dst = biased-unbiased (field word 0 16) (field_below word 0 16) in
    let op0 = biased-unbiased (field word 16 16) (field_below word 16 16) in
    let op1 = biased-unbiased (field word 32 16) (field_below word 32 16) in
    let dst_fp = code_of_bit (field word 48 1) (field_below word 48 1) in
    let op0_fp = code_of_bit (field word 49 1) (field_below word 49 1) in
    omega (
      arith,
      word_sum word below,
      dst,
      op0,
      op1,
      dst_fp,
      op0_fp,
      reads.op1,
      reads.res,
      reads.pc,
      reads.ap,
      reads.opcode,
      (bit_adds (field word 48 1 == 1) 0).flag_is,
      (bit_adds (field word 49 1 == 1) 1).flag_is,
      (op1_adds k.op1).flag_is,
      (res_adds k.res).flag_is,
      (pc_adds k.pc).flag_is,
      (ap_adds k.ap).flag_is,
      (opcode_adds k.opcode).flag_is,
    )

parts_near : (word : ℕ) (k : Kinds) → AreNear (parts_in word k)
parts_near word k =
    record {
      dst = unbiased_near (field word 0 16) (field_below word 0 16);
      op0 = unbiased_near (field word 16 16) (field_below word 16 16);
      op1 = unbiased_near (field word 32 16) (field_below word 32 16);
    }

module _ (word : ℕ) (below : word < 2 ^ 63) where
  low : ¬ HasHighBit word
  low bit = absurd (omega (arith, bit))

  flags_mean : (k : Kinds) (reads : Reads word k) (found : Option Rule) → broken_rule k (unbiased (field word 32 16)) ≡ found → BrokenMeans word k reads found → Means word (flags_from word found k)
  flags_mean k reads None is before = (
    record { is = parts_sum word k below reads; near = parts_near word k; defined = defined_from (parts_in word k) is },
    λ rule. before rule (number_bounds rule).1,
  )
  flags_mean k reads (Some rule) is met = record { low = low; meets = met.1; none_before = met.0 }

  kinds_flags_mean : (found : Result Kinds Rule) → KindsMean word found → Means word (flags_by word found)
  kinds_flags_mean (Err rule) met = record { low = low; meets = met.1; none_before = met.0 }
  kinds_flags_mean (Ok k) means = flags_mean k means.1 _ refl (broken_means word k means.1 means.0)

pub decoded_means : (word : ℕ) → word < 2 ^ 64 → Means word (decoded word)
unfolding decoded
decoded_means word lt =
    elim (cases_lt word (2 ^ 63)) [
      | inl below ↦
          subst (λ b. Means word (cond b (Err HighBit) (flags_by word (kinds_in word)))) (sym (lt-leb (2 ^ 63) word below))
          (kinds_flags_mean word below (kinds_in word) (kinds_mean word _ _ _ _ _ refl refl refl refl refl))
      | inr above ↦
          subst (λ b. Means word (cond b (Err HighBit) (flags_by word (kinds_in word)))) (sym (le-leb (2 ^ 63) word above)) (omega arith)
    ]

-- ---- the flags of a word come back

kinds_some : (k : Kinds) (a : Option Op1) (b : Option ResKind) (c : Option PcKind) (d : Option ApKind) (e : Option Opcode)
    → a ≡ Some k.op1 → b ≡ Some k.res → c ≡ Some k.pc → d ≡ Some k.ap → e ≡ Some k.opcode → kinds_of a b c d e ≡ Ok k
unfolding kinds_of
kinds_some k a b c d e a-is b-is c-is d-is e-is = rw (a-is, b-is, c-is, d-is, e-is) refl

op1_back : (x : Op1) → one_of_three (op1_code x) op1.Op0 op1.Imm op1.Fp op1.Ap ≡ Some x
unfolding op1_code
op1_back op1.Op0 = refl
op1_back op1.Imm = refl
op1_back op1.Fp = refl
op1_back op1.Ap = refl

res_back : (x : ResKind) → one_of_two (res_code x) res.Op1 res.Add res.Mul ≡ Some x
unfolding res_code
res_back res.Op1 = refl
res_back res.Add = refl
res_back res.Mul = refl

pc_back : (x : PcKind) → one_of_three (pc_code x) pc.Next pc.Abs pc.Rel pc.Jnz ≡ Some x
unfolding pc_code
pc_back pc.Next = refl
pc_back pc.Abs = refl
pc_back pc.Rel = refl
pc_back pc.Jnz = refl

ap_back : (x : ApKind) → one_of_two (ap_code x) apk.Keep apk.Add apk.Inc ≡ Some x
unfolding ap_code
ap_back apk.Keep = refl
ap_back apk.Add = refl
ap_back apk.Inc = refl

opcode_back : (x : Opcode) → one_of_three (opcode_code x) opcode.Nop opcode.Call opcode.Ret opcode.AssertEq ≡ Some x
unfolding opcode_code
opcode_back opcode.Nop = refl
opcode_back opcode.Call = refl
opcode_back opcode.Ret = refl
opcode_back opcode.AssertEq = refl

-- flags by their parts, for equations part by part
with_parts : Kinds → ℤ → ℤ → ℤ → Bool → Bool → Flags
with_parts k off_dst off_op0 off_op1 dst_fp op0_fp =
    record { off_dst = off_dst; off_op0 = off_op0; off_op1 = off_op1; dst_fp = dst_fp; op0_fp = op0_fp; op1 = k.op1; res = k.res; pc = k.pc; ap = k.ap; opcode = k.opcode }

module _ (f : Flags) (word : ℕ) (w : Word f word) where
  kinds_here : Kinds
  kinds_here = record { op1 = f.op1; res = f.res; pc = f.pc; ap = f.ap; opcode = f.opcode }

  fields_here : Fields word (biased f.off_dst) (biased f.off_op0) (biased f.off_op1) (bit_code f.dst_fp) (bit_code f.op0_fp) (op1_code f.op1) (res_code f.res) (pc_code f.pc) (ap_code f.ap) (opcode_code f.opcode)
  fields_here =
      let a = bit_adds f.dst_fp 0 in
      let b = bit_adds f.op0_fp 1 in
      let x = op1_adds f.op1 in
      let r = res_adds f.res in
      let q = pc_adds f.pc in
      let s = ap_adds f.ap in
      let o = opcode_adds f.opcode in
      sum_fields word _ _ _ _ _ _ _ _ _ _
      (biased_below f.off_dst w.near.dst) (biased_below f.off_op0 w.near.op0) (biased_below f.off_op1 w.near.op1)
      a.below b.below x.below r.below q.below s.below o.below
      (omega (arith, w.is, a.flag_is, b.flag_is, x.flag_is, r.flag_is, q.flag_is, s.flag_is, o.flag_is))

  pub word_below : word < 2 ^ 63
  word_below =
      let a = bit_adds f.dst_fp 0 in
      let b = bit_adds f.op0_fp 1 in
      let x = op1_adds f.op1 in
      let r = res_adds f.res in
      let q = pc_adds f.pc in
      let s = ap_adds f.ap in
      let o = opcode_adds f.opcode in
      omega (
        arith,
        w.is,
        biased_below f.off_dst w.near.dst,
        biased_below f.off_op0 w.near.op0,
        biased_below f.off_op1 w.near.op1,
        a.below,
        b.below,
        x.below,
        r.below,
        q.below,
        s.below,
        o.below,
        a.flag_is,
        b.flag_is,
        x.flag_is,
        r.flag_is,
        q.flag_is,
        s.flag_is,
        o.flag_is,
      )

  kinds_found : kinds_in word ≡ Ok kinds_here
  unfolding kinds_here
  kinds_found =
      kinds_some kinds_here _ _ _ _ _
      (ap (λ n. one_of_three n op1.Op0 op1.Imm op1.Fp op1.Ap) fields_here.op1_kind ∙ op1_back f.op1)
      (ap (λ n. one_of_two n res.Op1 res.Add res.Mul) fields_here.res ∙ res_back f.res)
      (ap (λ n. one_of_three n pc.Next pc.Abs pc.Rel pc.Jnz) fields_here.pc ∙ pc_back f.pc)
      (ap (λ n. one_of_two n apk.Keep apk.Add apk.Inc) fields_here.ap ∙ ap_back f.ap)
      (ap (λ n. one_of_three n opcode.Nop opcode.Call opcode.Ret opcode.AssertEq) fields_here.opcode ∙ opcode_back f.opcode)

  parts_found : parts_in word kinds_here ≡ f
  unfolding with_parts kinds_here
  parts_found =
      let dst = ap unbiased fields_here.dst ∙ unbiased-biased f.off_dst w.near.dst in
      let op0 = ap unbiased fields_here.op0 ∙ unbiased-biased f.off_op0 w.near.op0 in
      let op1 = ap unbiased fields_here.op1 ∙ unbiased-biased f.off_op1 w.near.op1 in
      let dst_fp = ap (λ n. n == 1) fields_here.dst_fp ∙ bit_of_code f.dst_fp in
      let op0_fp = ap (λ n. n == 1) fields_here.op0_fp ∙ bit_of_code f.op0_fp in
      ap (λ d. with_parts kinds_here d (unbiased (field word 16 16)) (unbiased (field word 32 16)) (field word 48 1 == 1) (field word 49 1 == 1)) dst
      ∙ ap (λ d. with_parts kinds_here f.off_dst d (unbiased (field word 32 16)) (field word 48 1 == 1) (field word 49 1 == 1)) op0
      ∙ ap (λ d. with_parts kinds_here f.off_dst f.off_op0 d (field word 48 1 == 1) (field word 49 1 == 1)) op1
      ∙ ap (λ b. with_parts kinds_here f.off_dst f.off_op0 f.off_op1 b (field word 49 1 == 1)) dst_fp
      ∙ ap (λ b. with_parts kinds_here f.off_dst f.off_op0 f.off_op1 f.dst_fp b) op0_fp

  none_found : broken_rule kinds_here (unbiased (field word 32 16)) ≡ None
  unfolding kinds_here
  none_found =
      ap (λ off. broken_rule kinds_here off) (ap unbiased fields_here.op1 ∙ unbiased-biased f.off_op1 w.near.op1) ∙ none_broken f w.defined

  pub word_decodes : decoded word ≡ Ok f
  unfolding decoded
  word_decodes =
      ap (λ b. cond b (Err HighBit) (flags_by word (kinds_in word))) (lt-leb (2 ^ 63) word word_below)
      ∙ ap (flags_by word) kinds_found
      ∙ ap (λ found. flags_from word found kinds_here) none_found
      ∙ ap Ok parts_found
