-- Whatever an accepted run lists, its three steps give the operation's result for the argument and the constant.
use Rattle.std.proofs.Common.{◌≡◌, ◌≢◌, ℕ, ◌+◌, ◌-◌, ◌<◌, List, [], ◌∷◌, length, map, Option, Some, slice_get, true, false, pos, refl, sym, ap, subst, ◌∙◌, inl, inr, zero, suc, arith}
use Rattle.felt64.specs.Field.{modulus, sum, difference, product, negative}
use Rattle.ro_machine.specs.declared.machine.State.{State}
use Rattle.casm_word.specs.declared.instr.Operand.TheVariants as operand
use Rattle.casm_word.specs.declared.instr.Res.TheVariants as res
use Rattle.casm_word.specs.declared.instr.Instr.{Instr}
use Rattle.casm_word.specs.declared.instr.Instr.TheVariants as instr
use Rattle.casm_word.specs.Bounds.{IsInstrNear}
use Rattle.casm_word.specs.Encoding.{flags_of, ap_cell, fp_cell}
use Rattle.casm_word.specs.Offset.{minus}
use Rattle.casm_word.specs.Word.{Word, word_of}
use Rattle.casm_word.proofs.EncodingLaws.{instr_word}
use Rattle.casm_word.proofs.WordLaws.{one_flags}
use Rattle.ro_machine.specs.Step.{Step}
use Rattle.ro_machine.specs.StepBy.{StepBy}
use Rattle.std.proofs.lemmas.Int.{ints}
use Rattle.std.proofs.lemmas.Bool.{cases_lt}
use Rattle.std.proofs.lemmas.Option.{slice_get_within}
use Rattle.felt64.proofs.FieldLaws.{sum_below, difference_below, product_below, sum-remainder_right}
use Rattle.ro_machine.specs.Readings.{cells_below}
use Rattle.first_form.specs.Accepted.{Accepts, AllGoOn, Ends, IsLast, final_pc}
use Rattle.first_form.specs.Meaning.{applied, computing_word, computing_number, code_of, parameter_types, result_types, arguments_of, Means}
use Rattle.first_form.specs.Runs.{Shows, CostsAtMost}
use Rattle.first_form.specs.Values.{felt64, Number, meant, StandAll}
use Rattle.first_form.specs.declared.verdict.Value.TheVariants as values
use Rattle.first_form.specs.declared.operation.Operation.{Operation}
use Rattle.first_form.specs.declared.operation.Operation.TheVariants as operations
use Rattle.first_form.specs.declared.code.TheConstants.{ADD_IMMEDIATE, MUL_IMMEDIATE}
use Rattle.first_form.proofs.AcceptedLaws.{one_in}
use Rattle.first_form.proofs.ValueLaws.{one_below, one_number, stands_below}
use Rattle.first_form.specs.declared.program.Program.{Program}
use Rattle.first_form.specs.declared.input.Input.{Input}
use Rattle.first_form.specs.declared.verdict.Verdict.{Verdict}

-- the step goes by the flags of the instruction at pc
step_by : (m : ℕ → Option ℕ) (s t : State) (i : Instr) → IsInstrNear i → Step m s t → m s.pc ≡ Some (word_of (flags_of i)) → StepBy m (flags_of i) s t
step_by m s t i near step at =
    let same_word : step.word ≡ word_of (flags_of i) = one_in (m s.pc) step.word (word_of (flags_of i)) step.word_is at in
    let same : step.flags ≡ flags_of i = one_flags step.flags (flags_of i) (word_of (flags_of i)) (subst (Word step.flags) same_word step.decodes) (instr_word i near) in
    subst (λ g. StepBy m g s t) same (record { op0 = step.op0; op1 = step.op1; dst = step.dst; reads = step.reads; asserts = step.asserts; next = step.next })

-- the call to main writes the frame and the return pc, and goes to cell 4
record Calls (m : ℕ → Option ℕ) (base : ℕ) (t : State) : Type 0 where
  frame : m (sum base 0) ≡ Some base
  back : m (sum base 1) ≡ Some 2
  next : t ≡ record { pc = 4; ap = sum base 2; fp = sum base 2 }

calls : (m : ℕ → Option ℕ) (base : ℕ) (t : State) → Step m (record { pc = 0; ap = base; fp = base }) t → m 0 ≡ Some 0x1104800180018000 → m 1 ≡ Some 4 → Calls m base t
calls m base t step word distance =
    let by = step_by m (record { pc = 0; ap = base; fp = base }) t (instr.Call true (operand.Imm 4)) tt step word in
    let by_four : by.op1 ≡ 4 = one_in (m 1) by.op1 4 by.reads.op1_is distance in
    record {
      frame = by.reads.dst_is ∙ ap Some by.asserts.0;
      back = by.reads.op0_is ∙ ap Some by.asserts.1;
      next = by.next ∙ ap (λ n. record { pc = sum 0 n; ap = sum base 2; fp = sum base 2 }) by_four;
    }

-- a sum with the negative is the difference
pub sum-negative : (a c : ℕ) → sum a (negative c) ≡ difference a c
sum-negative a c = sum-remainder_right a (modulus - c)

-- the instruction at cell 4 writes the result, and goes to cell 6
record Computes (m : ℕ → Option ℕ) (frame : ℕ) (operation : Operation) (constant : ℕ) (t : State) : Type 0 where
  argument : ℕ
  argument_is : m (difference frame 3) ≡ Some argument
  result_is : m (sum frame 0) ≡ Some (applied operation argument constant)
  next : t ≡ record { pc = 6; ap = sum frame 1; fp = frame }

-- the state at cell 4, in this frame
abbrev at_four : ℕ → State
at_four frame = record { pc = 4; ap = frame; fp = frame }

adds : (m : ℕ → Option ℕ) (frame number : ℕ) (t : State) → Step m (at_four frame) t → m 4 ≡ Some ADD_IMMEDIATE → m 5 ≡ Some number → Computes m frame operations.Add number t
adds m frame number t step word immediate =
    let by = step_by m (at_four frame) t (instr.AssertEq (ap_cell (pos 0)) (res.Add (fp_cell (minus 3)) (operand.Imm number)) true) (omega (arith, ints), (omega (arith, ints), tt)) step word in
    let by_number : by.op1 ≡ number = one_in (m 5) by.op1 number by.reads.op1_is immediate in
    record {
      argument = by.op0;
      argument_is = by.reads.op0_is;
      result_is = by.reads.dst_is ∙ ap Some (by.asserts ∙ ap (λ n. sum by.op0 n) by_number);
      next = by.next;
    }

multiplies : (m : ℕ → Option ℕ) (frame number : ℕ) (t : State) → Step m (at_four frame) t → m 4 ≡ Some MUL_IMMEDIATE → m 5 ≡ Some number → Computes m frame operations.Mul number t
multiplies m frame number t step word immediate =
    let by = step_by m (at_four frame) t (instr.AssertEq (ap_cell (pos 0)) (res.Mul (fp_cell (minus 3)) (operand.Imm number)) true) (omega (arith, ints), (omega (arith, ints), tt)) step word in
    let by_number : by.op1 ≡ number = one_in (m 5) by.op1 number by.reads.op1_is immediate in
    record {
      argument = by.op0;
      argument_is = by.reads.op0_is;
      result_is = by.reads.dst_is ∙ ap Some (by.asserts ∙ ap (λ n. product by.op0 n) by_number);
      next = by.next;
    }

computes : (m : ℕ → Option ℕ) (frame : ℕ) (operation : Operation) (constant : ℕ) (t : State) → Step m (at_four frame) t → m 4 ≡ Some (computing_word operation) → m 5 ≡ Some (computing_number operation constant) → Computes m frame operation constant t
computes m frame operations.Add constant t step word immediate = adds m frame constant t step word immediate
computes m frame operations.Sub constant t step word immediate =
    let by = adds m frame (negative constant) t step word immediate in
    record {
      argument = by.argument;
      argument_is = by.argument_is;
      result_is = by.result_is ∙ ap Some (sum-negative by.argument constant);
      next = by.next;
    }
computes m frame operations.Mul constant t step word immediate = multiplies m frame constant t step word immediate

-- the result is a number of the field
pub applied_below : (operation : Operation) (argument constant : ℕ) → applied operation argument constant < modulus
applied_below operations.Add argument constant = sum_below argument constant
applied_below operations.Sub argument constant = difference_below argument constant
applied_below operations.Mul argument constant = product_below argument constant

-- the return goes to the pc that the call wrote
record Returns (m : ℕ → Option ℕ) (top frame : ℕ) (t : State) : Type 0 where
  pc_is : m (difference frame 1) ≡ Some t.pc
  ap_is : t.ap ≡ top

returns : (m : ℕ → Option ℕ) (top frame : ℕ) (t : State) → Step m (record { pc = 6; ap = top; fp = frame }) t → m 6 ≡ Some 0x208b7fff7fff7ffe → Returns m top frame t
returns m top frame t step word =
    let by = step_by m (record { pc = 6; ap = top; fp = frame }) t instr.Ret tt step word in
    record {
      pc_is = by.reads.op1_is ∙ ap Some (sym (ap (λ s. s.pc) by.next));
      ap_is = ap (λ s. s.ap) by.next;
    }

-- there is a state at each place below the number of states
state_at : (states : List State) (i : ℕ) → i < length states → (s : State) × (slice_get states i ≡ Some s)
state_at [] i below = absurd (omega arith)
state_at (s ∷ states) zero below = (s, refl)
state_at (s ∷ states) (suc i) below = state_at states i (omega arith)

-- a run goes on by a step from a state that isn't at the end
record GoesBy (m : ℕ → Option ℕ) (states : List State) (i : ℕ) (s : State) : Type 0 where
  follower : State
  there : slice_get states (i + 1) ≡ Some follower
  step : Step m s follower

goes_by : (m : ℕ → Option ℕ) (states : List State) → AllGoOn m states → Ends states → (i : ℕ) (s : State) → slice_get states i ≡ Some s → s.pc ≢ final_pc → GoesBy m states i s
goes_by m states go (last, last_is, at_end) i s is elsewhere =
    let within = slice_get_within states i s is in
    elim (cases_lt (i + 1) (length states)) [
      | inl more ↦
          let next = state_at states (i + 1) more in
          let goes = go i s next.0 (record { here = is; after = next.1 }) in
          record { follower = next.0; there = next.1; step = subst (Step m s) (sym goes.next_is) goes.step }
      | inr none ↦
          let place : length states - 1 ≡ i = omega arith in
          let same = one_in (slice_get states i) last s (ap (slice_get states) (sym place) ∙ last_is) is in
          absurd (elsewhere (ap (λ t. t.pc) (sym same) ∙ at_end))
    ]

-- and ends at a state that is
ends_at : (m : ℕ → Option ℕ) (states : List State) → AllGoOn m states → (i : ℕ) (s : State) → slice_get states i ≡ Some s → s.pc ≡ final_pc → length states ≡ i + 1
ends_at m states go i s is there =
    let within = slice_get_within states i s is in
    elim (cases_lt (i + 1) (length states)) [
      | inl more ↦
          let next = state_at states (i + 1) more in
          absurd ((go i s next.0 (record { here = is; after = next.1 })).not_early there)
      | inr last ↦ omega arith
    ]

-- the cell below the result's end is the result's cell
below_top : (m : ℕ → Option ℕ) (frame top word : ℕ) → top ≡ sum frame 1 → m (sum frame 0) ≡ Some word → m (difference top 1) ≡ Some word
below_top m frame top word top_is there = let same : sum frame 0 ≡ difference top 1 = omega arith in subst (λ at. m at ≡ Some word) same there

-- the cells below main's frame
back_cell : (base : ℕ) → difference (sum base 2) 1 ≡ sum base 1
back_cell base = omega arith

argument_cell : (base : ℕ) → difference (sum base 2) 3 ≡ difference base 1
argument_cell base = omega arith

-- what an accepted run is: four states, of which the last has the result below its ap
pub record Ended (m : ℕ → Option ℕ) (states : List State) (result : ℕ) : Type 0 where
  pub four : length states ≡ 4
  pub last : State
  pub last_is : slice_get states 3 ≡ Some last
  pub result_is : m (difference last.ap 1) ≡ Some result

module _ (program : Program) (input : Input) (rc : ℕ) (m : ℕ → Option ℕ) (states : List State)
    (accepts : Accepts (code_of program) (parameter_types program) (arguments_of program input) rc m states) where
  pub ends : Ended m states (applied program.operation input.argument program.constant)
  ends =
      let base = accepts.base in
      let first = accepts.start in
      let second = goes_by m states accepts.goes_on accepts.final 0 _ first (λ e. absurd (omega arith)) in
      let called = calls m base second.follower second.step (accepts.code_cells 0 (omega arith)) (accepts.code_cells 1 (omega arith)) in
      let second_is : slice_get states 1 ≡ Some (record { pc = 4; ap = sum base 2; fp = sum base 2 }) = second.there ∙ ap Some called.next in
      let third = goes_by m states accepts.goes_on accepts.final 1 _ second_is (λ e. absurd (omega arith)) in
      let computed = computes m (sum base 2) program.operation program.constant third.follower third.step (accepts.code_cells 4 (omega arith)) (accepts.code_cells 5 (omega arith)) in
      let third_is : slice_get states 2 ≡ Some (record { pc = 6; ap = sum (sum base 2) 1; fp = sum base 2 }) = third.there ∙ ap Some computed.next in
      let fourth = goes_by m states accepts.goes_on accepts.final 2 _ third_is (λ e. absurd (omega arith)) in
      let returned = returns m (sum (sum base 2) 1) (sum base 2) fourth.follower fourth.step (accepts.code_cells 6 (omega arith)) in
      let at_end : fourth.follower.pc ≡ 2 = one_in (m (sum base 1)) fourth.follower.pc 2 (subst (λ at. m at ≡ Some fourth.follower.pc) (back_cell base) returned.pc_is) called.back in
      let argument = one_below m base (arguments_of program input) accepts.argument_cells in
      let argument_given : input.argument ≡ argument.number_there = one_number _ _ argument.value_is in
      let argument_is : computed.argument ≡ input.argument = one_in (m (difference base 1)) computed.argument input.argument (subst (λ at. m at ≡ Some computed.argument) (argument_cell base) computed.argument_is) (subst (λ n. m (difference base 1) ≡ Some n) (sym argument_given) argument.listed) in
      record {
        four = ends_at m states accepts.goes_on 3 fourth.follower fourth.there at_end;
        last = fourth.follower;
        last_is = fourth.there;
        result_is = below_top m (sum base 2) fourth.follower.ap (applied program.operation input.argument program.constant) returned.ap_is
            (subst (λ n. m (sum (sum base 2) 0) ≡ Some (applied program.operation n program.constant)) argument_is computed.result_is);
      }

  -- the last state is the fourth
  one_last : (s : State) → IsLast states s → s ≡ ends.last
  one_last s last_is =
      let four = ends.four in
      let place : length states - 1 ≡ 3 = omega arith in
      one_in (slice_get states 3) s ends.last (ap (slice_get states) (sym place) ∙ last_is) ends.last_is

  -- so the verdict that the run shows is the meaning, and its steps cost the gas used
  pub soundness : (verdict : Verdict) → Shows program input rc m states verdict → Means program input verdict.outcome × CostsAtMost verdict
  soundness verdict shows =
      let four = ends.four in
      let shown = one_below m shows.last.ap (map meant verdict.outcome.values) shows.values in
      let same_last = one_last shows.last shows.last_is in
      let value : shown.number_there ≡ applied program.operation input.argument program.constant =
      one_in (m (difference ends.last.ap 1)) _ _ (ap (λ s. m (difference s.ap 1)) (sym same_last) ∙ shown.listed) ends.result_is in
      let gas_used = shows.gas_used in
      let gas_left = shows.gas_left in
      let steps = shows.steps in
      let checks = shows.checks in (
        record { panic = shows.panic; values = shown.value_is ∙ ap (λ n. Number felt64 n ∷ []) value; gas_used = omega arith; gas_left = omega arith },
        omega arith,
      )

  -- the cell below the last state's ap is listed with the result
  pub last_cell : (s : State) → IsLast states s → m (difference s.ap 1) ≡ Some (applied program.operation input.argument program.constant)
  last_cell s last_is = ap (λ t. m (difference t.ap 1)) (one_last s last_is) ∙ ends.result_is

  -- a verdict of that value, of one step less than there are states, and of what the input's gas leaves is shown
  pub shows_it : (verdict : Verdict) → verdict.outcome.values ≡ values.Felt (applied program.operation input.argument program.constant) ∷ [] → verdict.outcome.panic ≡ false →
      verdict.outcome.gas_left + 300 ≡ input.gas → verdict.outcome.gas_used ≡ 300 → verdict.steps ≡ length states - 1 → verdict.checks ≡ 0 → Shows program input rc m states verdict
  shows_it verdict value panic gas_left gas_used steps checks =
      let four = ends.four in
      let place : length states - 1 ≡ 3 = omega arith in
      record {
        last = ends.last;
        last_is = ap (slice_get states) place ∙ ends.last_is;
        values = subst (λ vs. StandAll m (result_types program) (cells_below m ends.last.ap 1) (map meant vs)) (sym value)
            (stands_below m ends.last.ap (applied program.operation input.argument program.constant) (applied_below program.operation input.argument program.constant) ends.result_is);
        panic = panic;
        gas_left = gas_left;
        gas_used = omega arith;
        steps = omega arith;
        checks = checks;
      }
