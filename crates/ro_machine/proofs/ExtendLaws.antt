-- What stays as cells are added.
use Rattle.std.proofs.Common.{◌≡◌, ℕ, ◌⊎◌, inl, inr, Option, Some, None, arith, ap, sym, ◌∙◌}
use Rattle.std.specs.FinMap.{get, insert, get-insert}
use Rattle.std.specs.Cmp.{nat_cmp_total}
use Rattle.std.proofs.lemmas.Bool.Decides.{nat_tests}
use Rattle.ro_machine.specs.declared.machine.State.{State}
use Rattle.ro_machine.specs.Cells.{Cells}
use Rattle.ro_machine.specs.Extends.{Extends}
use Rattle.ro_machine.specs.Memory.{IsMemory}
use Rattle.ro_machine.specs.Step.{Step}

pub extends_itself : (m : ℕ → Option ℕ) → Extends m m
extends_itself m a n is = is

pub extends_trans : (m more most : ℕ → Option ℕ) → Extends m more → Extends more most → Extends m most
extends_trans m more most first second a n is = second a n (first a n is)

-- a memory from which another grew is in the field too
pub is_memory_before : (m more : ℕ → Option ℕ) → Extends m more → IsMemory more → IsMemory m
is_memory_before m more extends field a n is = field a n (extends a n is)

-- a cell that isn't listed, or has the word, may be inserted
pub insert_extends : (m : Cells) (addr word : ℕ) → (get m addr ≡ None) ⊎ (get m addr ≡ Some word) → Extends (get m) (get (insert m addr word))
insert_extends m addr word free a n is =
    let at = get-insert nat_cmp_total m addr word a in
    let here : a ≡ addr → Some word ≡ Some n = λ same. one_word (get m addr) free (ap (get m) (sym same) ∙ is) in
    grind (arith, nat_tests, at, is, here)
  where
    one_word : (o : Option ℕ) → (o ≡ None) ⊎ (o ≡ Some word) → o ≡ Some n → Some word ≡ Some n
    one_word o (inl none) some = absurd (cc)
    one_word o (inr listed) some = cc

-- a step stays a step
pub step_extends : (m more : ℕ → Option ℕ) (s t : State) → Extends m more → Step m s t → Step more s t
step_extends m more s t extends step = record {
  word = step.word;
  word_is = extends _ _ step.word_is;
  flags = step.flags;
  decodes = step.decodes;
  op0 = step.op0;
  op1 = step.op1;
  dst = step.dst;
  reads = record {
    op0_is = extends _ _ step.reads.op0_is;
    op1_is = extends _ _ step.reads.op1_is;
    dst_is = extends _ _ step.reads.dst_is;
  };
  asserts = step.asserts;
  next = step.next;
}
