-- The step as a function gives the next state exactly where the machine steps, and a fault exactly where it stops.
use Rattle.std.proofs.Common.{◌≡◌, ◌≢◌, ◌⊎◌, ◌↔◌, ℕ, Option, Some, None, Result, Ok, Err, IfErr, refl, sym, ap, subst, ◌∙◌, inl, inr, arith}
use Rattle.std.proofs.lemmas.Bool.Decides.{nat_tests}
use Rattle.casm_word.specs.declared.flags.Opcode.{Opcode}
use Rattle.casm_word.specs.declared.flags.Opcode.TheVariants as opcode
use Rattle.casm_word.specs.declared.flags.Flags.{Flags}
use Rattle.ro_machine.specs.declared.machine.State.{State}
use Rattle.ro_machine.specs.declared.machine.StepFault.{StepFault}
use Rattle.ro_machine.specs.declared.machine.StepFault.TheVariants.{CellMissing, BadWord, AssertFails, CallFails}
use Rattle.casm_word.specs.declared.rules.WordFault.{WordFault}
use Rattle.casm_word.specs.Word.{Word}
use Rattle.casm_word.specs.Decoding as decoding
use Rattle.casm_word.proofs.WordLaws.{decodes, undecoded}
use Rattle.ro_machine.specs.Step.{Step, Operands, Asserts, op0_address, op1_address, dst_address, res_of, next_instruction, next_state}
use Rattle.ro_machine.specs.StepBy.{StepBy, Fetches}
use Rattle.ro_machine.specs.Stops.{Stops, AssertDiffers, CallDiffers, MissesOperand}
use Rattle.ro_machine.specs.Stepping.{◌>>=◌, word_or, flags_or, listed, decoded, equal_or, asserted, step_of}

module _ {A B : Type 0} where
  bind_ok : (r : Result A StepFault) (f : A → Result B StepFault) (y : B) → (r >>= f) ≡ Ok y → (x : A) × (r ≡ Ok x) × (f x ≡ Ok y)
  bind_ok (Ok x) f y is = (x, refl, is)
  bind_ok (Err fault) f y is = cc

  -- either the first part fails, or it passes and the rest fails
  bind_err : (r : Result A StepFault) (f : A → Result B StepFault) (fault : StepFault) → (r >>= f) ≡ Err fault → (r ≡ Err fault) ⊎ ((x : A) × (r ≡ Ok x) × (f x ≡ Err fault))
  bind_err (Ok x) f fault is = inr (x, refl, is)
  bind_err (Err first) f fault is = inl (cc)

  after_ok : (r : Result A StepFault) (f : A → Result B StepFault) (x : A) → r ≡ Ok x → (r >>= f) ≡ f x
  after_ok r f x is = ap (λ r. r >>= f) is

  after_err : (r : Result A StepFault) (f : A → Result B StepFault) (fault : StepFault) → r ≡ Err fault → (r >>= f) ≡ Err fault
  after_err r f fault is = ap (λ r. r >>= f) is

module _ {A : Type 0} where
  word_or_ok : (o : Option A) (fault : StepFault) (x : A) → word_or o fault ≡ Ok x → o ≡ Some x
  word_or_ok None fault x is = cc
  word_or_ok (Some y) fault x is = cc

  word_or_err : (o : Option A) (fault d : StepFault) → word_or o fault ≡ Err d → (o ≡ None) × (d ≡ fault)
  word_or_err None fault d is = (refl, cc)
  word_or_err (Some y) fault d is = cc

  word_or_some : (o : Option A) (fault : StepFault) (x : A) → o ≡ Some x → word_or o fault ≡ Ok x
  word_or_some o fault x is = ap (λ o. word_or o fault) is

  word_or_none : (o : Option A) (fault : StepFault) → o ≡ None → word_or o fault ≡ Err fault
  word_or_none o fault is = ap (λ o. word_or o fault) is

flags_or_err : (r : Result Flags WordFault) (pc : ℕ) (fault : StepFault) → flags_or r pc ≡ Err fault → fault ≡ BadWord pc
flags_or_err (Ok flags) pc fault is = cc
flags_or_err (Err e) pc fault is = cc

-- decoding passes if and only if the word stands for flags
decoded_ok : (pc word : ℕ) (f : Flags) → decoded pc word ≡ Ok f → Word f word
decoded_ok pc word f is =
    elim (decoding.decoded word) as (λ r. decoding.decoded word ≡ r → flags_or r pc ≡ Ok f → Word f word) [
      | Ok g ↦ λ found same. let here : g ≡ f = cc in subst (λ f. Word f word) here ((decodes g word).0 found)
      | Err fault ↦ λ found differs. cc
    ] refl is

decoded_word : (pc word : ℕ) (f : Flags) → Word f word → decoded pc word ≡ Ok f
decoded_word pc word f w = ap (λ r. flags_or r pc) ((decodes f word).1 w)

decoded_err : (pc word : ℕ) (fault : StepFault) → decoded pc word ≡ Err fault → ((f : Flags) → ¬ Word f word) × (fault ≡ BadWord pc)
decoded_err pc word fault is = (λ f w. let ok = decoded_word pc word f w in cc, flags_or_err (decoding.decoded word) pc fault is)

decoded_none : (pc word : ℕ) → ((f : Flags) → ¬ Word f word) → decoded pc word ≡ Err (BadWord pc)
decoded_none pc word none = ap (λ r. flags_or r pc) (undecoded word none).1

equal_or_ok : (left right : ℕ) (fault : StepFault) → equal_or left right fault ≡ Ok tt → left ≡ right
equal_or_ok left right fault is = grind (arith, nat_tests)

equal_or_err : (left right : ℕ) (fault d : StepFault) → equal_or left right fault ≡ Err d → (left ≢ right) × (d ≡ fault)
equal_or_err left right fault d is = grind (arith, nat_tests)

equal_or_same : (left right : ℕ) (fault : StepFault) → left ≡ right → equal_or left right fault ≡ Ok tt
equal_or_same left right fault same = grind (arith, nat_tests)

equal_or_differs : (left right : ℕ) (fault : StepFault) → left ≢ right → equal_or left right fault ≡ Err fault
equal_or_differs left right fault differs = grind (arith, nat_tests)

-- what the opcode asserts of op0, op1 and dst
abbrev asserted_by : Opcode → Flags → State → ℕ → ℕ → ℕ → Result (Unit {0}) StepFault
asserted_by op f s op0 op1 dst = asserted op f s op0 dst (res_of f.res op0 op1)

-- the asserts pass if and only if they hold
asserted_ok : (op : Opcode) (f : Flags) (s : State) (op0 op1 dst : ℕ) → asserted_by op f s op0 op1 dst ≡ Ok tt → Asserts op f s op0 op1 dst
asserted_ok opcode.Nop f s op0 op1 dst is = tt
asserted_ok opcode.Call f s op0 op1 dst is =
    let first = bind_ok (equal_or dst s.fp (CallFails dst s.fp)) (λ _. equal_or op0 (next_instruction f s) (CallFails op0 (next_instruction f s))) tt is in
    (equal_or_ok dst s.fp (CallFails dst s.fp) first.1, equal_or_ok op0 (next_instruction f s) (CallFails op0 (next_instruction f s)) first.2)
asserted_ok opcode.Ret f s op0 op1 dst is = tt
asserted_ok opcode.AssertEq f s op0 op1 dst is = equal_or_ok dst (res_of f.res op0 op1) (AssertFails dst (res_of f.res op0 op1)) is

asserted_holds : (op : Opcode) (f : Flags) (s : State) (op0 op1 dst : ℕ) → Asserts op f s op0 op1 dst → asserted_by op f s op0 op1 dst ≡ Ok tt
asserted_holds opcode.Nop f s op0 op1 dst holds = refl
asserted_holds opcode.Call f s op0 op1 dst holds =
    after_ok (equal_or dst s.fp (CallFails dst s.fp)) (λ _. equal_or op0 (next_instruction f s) (CallFails op0 (next_instruction f s))) tt (equal_or_same dst s.fp (CallFails dst s.fp) holds.0)
    ∙ equal_or_same op0 (next_instruction f s) (CallFails op0 (next_instruction f s)) holds.1
asserted_holds opcode.Ret f s op0 op1 dst holds = refl
asserted_holds opcode.AssertEq f s op0 op1 dst holds = equal_or_same dst (res_of f.res op0 op1) (AssertFails dst (res_of f.res op0 op1)) holds

-- what a fault of the asserts says
abbrev FailsBy : Opcode → Flags → State → ℕ → ℕ → ℕ → StepFault → Type 0
FailsBy op f s op0 op1 dst (CellMissing at) = ⊥
FailsBy op f s op0 op1 dst (BadWord at) = ⊥
FailsBy op f s op0 op1 dst (AssertFails left right) = AssertDiffers op f s op0 op1 dst left right
FailsBy op f s op0 op1 dst (CallFails left right) = CallDiffers op f s op0 dst left right

asserted_err : (op : Opcode) (f : Flags) (s : State) (op0 op1 dst : ℕ) (fault : StepFault) → asserted_by op f s op0 op1 dst ≡ Err fault → FailsBy op f s op0 op1 dst fault
asserted_err opcode.Nop f s op0 op1 dst fault is = cc
asserted_err opcode.Call f s op0 op1 dst fault is =
    elim (bind_err (equal_or dst s.fp (CallFails dst s.fp)) (λ _. equal_or op0 (next_instruction f s) (CallFails op0 (next_instruction f s))) fault is) [
      | inl first ↦ let differs = equal_or_err dst s.fp (CallFails dst s.fp) fault first in
          subst (FailsBy opcode.Call f s op0 op1 dst) (sym differs.1) (refl, inl (refl, refl, differs.0))
      | inr second ↦ let differs = equal_or_err op0 (next_instruction f s) (CallFails op0 (next_instruction f s)) fault second.2 in
          subst (FailsBy opcode.Call f s op0 op1 dst) (sym differs.1) (refl, inr (equal_or_ok dst s.fp (CallFails dst s.fp) second.1, refl, refl, differs.0))
    ]
asserted_err opcode.Ret f s op0 op1 dst fault is = cc
asserted_err opcode.AssertEq f s op0 op1 dst fault is =
    let differs = equal_or_err dst (res_of f.res op0 op1) (AssertFails dst (res_of f.res op0 op1)) fault is in
    subst (FailsBy opcode.AssertEq f s op0 op1 dst) (sym differs.1) (refl, refl, refl, differs.0)

asserted_fails : (op : Opcode) (f : Flags) (s : State) (op0 op1 dst : ℕ) (fault : StepFault) → FailsBy op f s op0 op1 dst fault → asserted_by op f s op0 op1 dst ≡ Err fault
asserted_fails op f s op0 op1 dst (CellMissing at) fails = absurd fails
asserted_fails op f s op0 op1 dst (BadWord at) fails = absurd fails
asserted_fails op f s op0 op1 dst (AssertFails left right) fails =
    let res = res_of f.res op0 op1 in
    rw fails.0 (equal_or_differs dst res (AssertFails dst res) (λ same. fails.3 (fails.1 ∙ same ∙ sym fails.2)) ∙ rw (fails.1, fails.2) refl)
asserted_fails op f s op0 op1 dst (CallFails left right) fails =
    let saves = equal_or dst s.fp (CallFails dst s.fp) in
    let returns = equal_or op0 (next_instruction f s) (CallFails op0 (next_instruction f s)) in
    rw fails.0 (elim fails.1 [
      | inl first ↦ after_err saves (λ _. returns) (CallFails left right) (equal_or_differs dst s.fp (CallFails dst s.fp) (λ same. first.2 (first.0 ∙ same ∙ sym first.1)) ∙ rw (first.0, first.1) refl)
      | inr second ↦ after_ok saves (λ _. returns) tt (equal_or_same dst s.fp (CallFails dst s.fp) second.0)
          ∙ equal_or_differs op0 (next_instruction f s) (CallFails op0 (next_instruction f s)) (λ same. second.3 (second.1 ∙ same ∙ sym second.2)) ∙ rw (second.1, second.2) refl
    ])

module _ (cells : ℕ → Option ℕ) (s : State) where
  -- what is left of a step at each part that passes
  abbrev after_dst : Flags → ℕ → ℕ → ℕ → Result State StepFault
  after_dst f op0 op1 dst = asserted_by f.opcode f s op0 op1 dst >>= λ holds. Ok (next_state f s op0 op1 dst)

  abbrev after_op1 : Flags → ℕ → ℕ → Result State StepFault
  after_op1 f op0 op1 = listed cells (dst_address f s) >>= after_dst f op0 op1

  abbrev after_op0 : Flags → ℕ → Result State StepFault
  after_op0 f op0 = listed cells (op1_address f s op0) >>= after_op1 f op0

  abbrev after_flags : Flags → Result State StepFault
  after_flags f = listed cells (op0_address f s) >>= after_op0 f

  abbrev after_word : ℕ → Result State StepFault
  after_word word = decoded s.pc word >>= after_flags

  step_of-parts : step_of cells s ≡ (listed cells s.pc >>= after_word)
  unfolding step_of
  step_of-parts = refl

  pub step_from : (t : State) → step_of cells s ≡ Ok t → Step cells s t
  step_from t is =
      let a = bind_ok (listed cells s.pc) after_word t (sym step_of-parts ∙ is) in
      let b = bind_ok (decoded s.pc a.0) after_flags t a.2 in
      let c = bind_ok (listed cells (op0_address b.0 s)) (after_op0 b.0) t b.2 in
      let d = bind_ok (listed cells (op1_address b.0 s c.0)) (after_op1 b.0 c.0) t c.2 in
      let e = bind_ok (listed cells (dst_address b.0 s)) (after_dst b.0 c.0 d.0) t d.2 in
      let g = bind_ok (asserted_by b.0.opcode b.0 s c.0 d.0 e.0) (λ holds. Ok (next_state b.0 s c.0 d.0 e.0)) t e.2 in
      record {
        word = a.0;
        word_is = word_or_ok (cells s.pc) (CellMissing s.pc) a.0 a.1;
        flags = b.0;
        decodes = decoded_ok s.pc a.0 b.0 b.1;
        op0 = c.0;
        op1 = d.0;
        dst = e.0;
        reads = record {
          op0_is = word_or_ok (cells (op0_address b.0 s)) (CellMissing (op0_address b.0 s)) c.0 c.1;
          op1_is = word_or_ok (cells (op1_address b.0 s c.0)) (CellMissing (op1_address b.0 s c.0)) d.0 d.1;
          dst_is = word_or_ok (cells (dst_address b.0 s)) (CellMissing (dst_address b.0 s)) e.0 e.1;
        };
        asserts = asserted_ok b.0.opcode b.0 s c.0 d.0 e.0 g.1;
        next = let same : ◌≡◌ {A = Result State StepFault} (Ok (next_state b.0 s c.0 d.0 e.0)) (Ok t) = g.2 in cc;
      }

  -- the step up to each part, from what passes before it
  module _ (word : ℕ) (word_is : cells s.pc ≡ Some word) where
    up_to_word : step_of cells s ≡ after_word word
    up_to_word = step_of-parts ∙ after_ok (listed cells s.pc) after_word word (word_or_some (cells s.pc) (CellMissing s.pc) word word_is)

    module _ (f : Flags) (decodes : Word f word) where
      up_to_flags : step_of cells s ≡ after_flags f
      up_to_flags = up_to_word ∙ after_ok (decoded s.pc word) after_flags f (decoded_word s.pc word f decodes)

      module _ (op0 : ℕ) (op0_is : cells (op0_address f s) ≡ Some op0) where
        up_to_op0 : step_of cells s ≡ after_op0 f op0
        up_to_op0 = up_to_flags ∙ after_ok (listed cells (op0_address f s)) (after_op0 f) op0 (word_or_some (cells (op0_address f s)) (CellMissing (op0_address f s)) op0 op0_is)

        module _ (op1 : ℕ) (op1_is : cells (op1_address f s op0) ≡ Some op1) where
          up_to_op1 : step_of cells s ≡ after_op1 f op0 op1
          up_to_op1 = up_to_op0 ∙ after_ok (listed cells (op1_address f s op0)) (after_op1 f op0) op1 (word_or_some (cells (op1_address f s op0)) (CellMissing (op1_address f s op0)) op1 op1_is)

          module _ (dst : ℕ) (dst_is : cells (dst_address f s) ≡ Some dst) where
            up_to_dst : step_of cells s ≡ after_dst f op0 op1 dst
            up_to_dst = up_to_op1 ∙ after_ok (listed cells (dst_address f s)) (after_dst f op0 op1) dst (word_or_some (cells (dst_address f s)) (CellMissing (dst_address f s)) dst dst_is)

  up_to_operands : (f : Flags) → Fetches cells s f → (op0 op1 dst : ℕ) → Operands cells f s op0 op1 dst → step_of cells s ≡ after_dst f op0 op1 dst
  up_to_operands f fetched op0 op1 dst reads = up_to_dst fetched.0 fetched.1 f fetched.2 op0 reads.op0_is op1 reads.op1_is dst reads.dst_is

  pub from_step : (t : State) → Step cells s t → step_of cells s ≡ Ok t
  from_step t step =
      up_to_operands step.flags (step.word, step.word_is, step.decodes) step.op0 step.op1 step.dst step.reads
      ∙ after_ok (asserted_by step.flags.opcode step.flags s step.op0 step.op1 step.dst) (λ holds. Ok (next_state step.flags s step.op0 step.op1 step.dst)) tt (asserted_holds step.flags.opcode step.flags s step.op0 step.op1 step.dst step.asserts)
      ∙ ap Ok (sym step.next)

  fails_stop : (f : Flags) → Fetches cells s f → (op0 op1 dst : ℕ) → Operands cells f s op0 op1 dst → (fault : StepFault) → FailsBy f.opcode f s op0 op1 dst fault → Stops cells s fault
  fails_stop f fetched op0 op1 dst reads (CellMissing at) fails = absurd fails
  fails_stop f fetched op0 op1 dst reads (BadWord at) fails = absurd fails
  fails_stop f fetched op0 op1 dst reads (AssertFails left right) fails = (f, op0, op1, dst, fetched, reads, fails)
  fails_stop f fetched op0 op1 dst reads (CallFails left right) fails = (f, op0, op1, dst, fetched, reads, fails)

  -- the operands are read in turn, and the asserts come last
  stops_after_flags : (f : Flags) → Fetches cells s f → (fault : StepFault) → after_flags f ≡ Err fault → Stops cells s fault
  stops_after_flags f fetched fault is =
      let misses : (at : ℕ) → fault ≡ CellMissing at → MissesOperand cells f s at → Stops cells s fault = λ at named missing. subst (Stops cells s) (sym named) (inr (f, fetched, missing)) in
      elim (bind_err (listed cells (op0_address f s)) (after_op0 f) fault is) [
        | inl c ↦ let m = word_or_err (cells (op0_address f s)) (CellMissing (op0_address f s)) fault c in
            misses (op0_address f s) m.1 (inl (refl, m.0))
        | inr c ↦
            let op0 = c.0 in
            let op0_is = word_or_ok (cells (op0_address f s)) (CellMissing (op0_address f s)) op0 c.1 in
            elim (bind_err (listed cells (op1_address f s op0)) (after_op1 f op0) fault c.2) [
              | inl d ↦ let m = word_or_err (cells (op1_address f s op0)) (CellMissing (op1_address f s op0)) fault d in
                  misses (op1_address f s op0) m.1 (inr (op0, op0_is, inl (refl, m.0)))
              | inr d ↦
                  let op1 = d.0 in
                  let op1_is = word_or_ok (cells (op1_address f s op0)) (CellMissing (op1_address f s op0)) op1 d.1 in
                  elim (bind_err (listed cells (dst_address f s)) (after_dst f op0 op1) fault d.2) [
                    | inl e ↦ let m = word_or_err (cells (dst_address f s)) (CellMissing (dst_address f s)) fault e in
                        misses (dst_address f s) m.1 (inr (op0, op0_is, inr (op1, op1_is, refl, m.0)))
                    | inr e ↦
                        let dst = e.0 in
                        let dst_is = word_or_ok (cells (dst_address f s)) (CellMissing (dst_address f s)) dst e.1 in
                        elim (bind_err (asserted_by f.opcode f s op0 op1 dst) (λ holds. Ok (next_state f s op0 op1 dst)) fault e.2) [
                          | inl g ↦ fails_stop f fetched op0 op1 dst (record { op0_is = op0_is; op1_is = op1_is; dst_is = dst_is }) fault (asserted_err f.opcode f s op0 op1 dst fault g)
                          | inr g ↦ let passes : ◌≡◌ {A = Result State StepFault} (Ok (next_state f s op0 op1 dst)) (Err fault) = g.2 in cc
                        ]
                  ]
            ]
      ]

  pub stops_from : (fault : StepFault) → step_of cells s ≡ Err fault → Stops cells s fault
  stops_from fault is =
      elim (bind_err (listed cells s.pc) after_word fault (sym step_of-parts ∙ is)) [
        | inl a ↦ let m = word_or_err (cells s.pc) (CellMissing s.pc) fault a in
            subst (Stops cells s) (sym m.1) (inl (refl, m.0))
        | inr a ↦
            let word_is = word_or_ok (cells s.pc) (CellMissing s.pc) a.0 a.1 in
            elim (bind_err (decoded s.pc a.0) after_flags fault a.2) [
              | inl b ↦ let m = decoded_err s.pc a.0 fault b in
                  subst (Stops cells s) (sym m.1) (refl, (a.0, word_is, m.0))
              | inr b ↦ stops_after_flags b.0 (a.0, word_is, decoded_ok s.pc a.0 b.0 b.1) fault b.2
            ]
      ]

  missing : (at addr : ℕ) → at ≡ addr → cells at ≡ None → listed cells addr ≡ Err (CellMissing at)
  missing at addr same unlisted = subst (λ addr. listed cells addr ≡ Err (CellMissing at)) same (word_or_none (cells at) (CellMissing at) unlisted)

  pub from_stops : (fault : StepFault) → Stops cells s fault → step_of cells s ≡ Err fault
  from_stops (CellMissing at) (inl stops) = step_of-parts ∙ after_err (listed cells s.pc) after_word (CellMissing at) (missing at s.pc stops.0 stops.1)
  from_stops (CellMissing at) (inr stops) =
      let f = stops.0 in
      let fetched = stops.1 in
      let word = fetched.0 in
      elim stops.2 [
        | inl c ↦ up_to_flags word fetched.1 f fetched.2 ∙ after_err (listed cells (op0_address f s)) (after_op0 f) (CellMissing at) (missing at (op0_address f s) c.0 c.1)
        | inr c ↦ elim c.2 [
          | inl d ↦ up_to_op0 word fetched.1 f fetched.2 c.0 c.1 ∙ after_err (listed cells (op1_address f s c.0)) (after_op1 f c.0) (CellMissing at) (missing at (op1_address f s c.0) d.0 d.1)
          | inr d ↦ up_to_op1 word fetched.1 f fetched.2 c.0 c.1 d.0 d.1 ∙ after_err (listed cells (dst_address f s)) (after_dst f c.0 d.0) (CellMissing at) (missing at (dst_address f s) d.2 d.3)
        ]
      ]
  from_stops (BadWord at) stops =
      let word = stops.1.0 in
      let undecoded : decoded s.pc word ≡ Err (BadWord at) = subst (λ pc. decoded pc word ≡ Err (BadWord at)) stops.0 (decoded_none at word stops.1.2) in
      up_to_word word (subst (λ pc. cells pc ≡ Some word) stops.0 stops.1.1) ∙ after_err (decoded s.pc word) after_flags (BadWord at) undecoded
  from_stops (AssertFails left right) (f, op0, op1, dst, fetched, reads, fails) =
      up_to_operands f fetched op0 op1 dst reads
      ∙ after_err (asserted_by f.opcode f s op0 op1 dst) (λ holds. Ok (next_state f s op0 op1 dst)) (AssertFails left right) (asserted_fails f.opcode f s op0 op1 dst (AssertFails left right) fails)
  from_stops (CallFails left right) (f, op0, op1, dst, fetched, reads, fails) =
      up_to_operands f fetched op0 op1 dst reads
      ∙ after_err (asserted_by f.opcode f s op0 op1 dst) (λ holds. Ok (next_state f s op0 op1 dst)) (CallFails left right) (asserted_fails f.opcode f s op0 op1 dst (CallFails left right) fails)

  -- there is at most one next state
  pub step_functional : (t u : State) → Step cells s t → Step cells s u → t ≡ u
  step_functional t u to_t to_u =
      let same = sym (from_step t to_t) ∙ from_step u to_u in
      cc

  -- a state that stops has no next state
  pub stops_no_step : (t : State) (fault : StepFault) → Stops cells s fault → Step cells s t → ⊥
  stops_no_step t fault stops to_t =
      let same = sym (from_step t to_t) ∙ from_stops fault stops in
      cc

  -- it stops for one fault
  pub stops_functional : (a b : StepFault) → Stops cells s a → Stops cells s b → a ≡ b
  stops_functional a b by_a by_b =
      let same = sym (from_stops a by_a) ∙ from_stops b by_b in
      cc

  -- what the function gives, by its variants
  pub ok_is_step : (r : Result State StepFault) → r ≡ step_of cells s → (to : State) → (r ≡ Ok to) ↔ Step cells s to
  ok_is_step r is to = (λ ok. step_from to (sym is ∙ ok), λ step. is ∙ from_step to step)

  pub err_stops : (r : Result State StepFault) → r ≡ step_of cells s → IfErr r (Stops cells s)
  err_stops (Ok to) is = tt
  err_stops (Err fault) is = stops_from fault (sym is)

  -- each state either steps or stops
  pub step_or_stops : ((to : State) × Step cells s to) ⊎ ((fault : StepFault) × Stops cells s fault)
  step_or_stops =
      elim (step_of cells s) as (λ r. step_of cells s ≡ r → ((to : State) × Step cells s to) ⊎ ((fault : StepFault) × Stops cells s fault)) [
        | Ok to ↦ λ is. inl (to, step_from to is)
        | Err fault ↦ λ is. inr (fault, stops_from fault is)
      ] refl

  -- so what `step` ensures of its result says which fault it gives
  pub fault_is_stops : (r : Result State StepFault) → ((to : State) → (r ≡ Ok to) ↔ Step cells s to) → IfErr r (Stops cells s) → (fault : StepFault) → (r ≡ Err fault) ↔ Stops cells s fault
  fault_is_stops (Ok to) steps stops fault = (λ is. cc, λ stopped. absurd (stops_no_step to fault stopped ((steps to).0 refl)))
  fault_is_stops (Err first) steps stops fault = (λ is. let same : first ≡ fault = cc in subst (Stops cells s) same stops, λ stopped. ap Err (stops_functional first fault stops stopped))

  -- a step is the flags at pc and their step
  pub step_parts : (t : State) → Step cells s t ↔ ((f : Flags) × Fetches cells s f × StepBy cells f s t)
  step_parts t = (
    λ step. (step.flags, (step.word, step.word_is, step.decodes), record { op0 = step.op0; op1 = step.op1; dst = step.dst; reads = step.reads; asserts = step.asserts; next = step.next }),
    λ (f, fetched, by). record {
      word = fetched.0;
      word_is = fetched.1;
      flags = f;
      decodes = fetched.2;
      op0 = by.op0;
      op1 = by.op1;
      dst = by.dst;
      reads = by.reads;
      asserts = by.asserts;
      next = by.next;
    },
  )

  -- a word that stands for no flags has no step
  pub undefined_no_step : (word : ℕ) (t : State) → cells s.pc ≡ Some word → ((f : Flags) → ¬ Word f word) → ¬ Step cells s t
  undefined_no_step word t is none step =
      let same : step.word ≡ word = let w = step.word_is in cc in
      none step.flags (subst (Word step.flags) same step.decodes)
