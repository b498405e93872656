-- The honest run is accepted, shows a verdict, and lists no cell that isn't needed.
use Rattle.std.proofs.Common.{◌≡◌, ◌≢◌, inl, inr, ℕ, zero, suc, ◌+◌, ◌-◌, ◌<◌, ◌≤◌, List, [], ◌∷◌, ◌++◌, length, Option, Some, slice_get, refl, sym, subst, ◌∙◌, arith, pos, true, false, cond, ◌^◌}
use Rattle.std.specs.FinMap.{get, find, entries, get-from_sorted, entries-from_sorted}
use Rattle.std.specs.Ordering.{nat_cmp, eq_by_cmp}
use Rattle.std.proofs.lemmas.Bool.Decides.{nat_tests}
use Rattle.std.proofs.lemmas.Option.{slice_get_within}
use Rattle.std.specs.List.{AllByRecursion}
use Rattle.felt64.specs.Field.{modulus, sum, difference, product, negative}
use Rattle.felt64.proofs.FieldLaws.{negative_below}
use Rattle.run_file.specs.Spelling.{IsCell, IsRun, listing_spelling, spelling}
use Rattle.ro_machine.specs.declared.machine.State.{State}
use Rattle.ro_machine.specs.Step.{Step}
use Rattle.casm_word.specs.declared.instr.Operand.TheVariants as operand
use Rattle.casm_word.specs.declared.instr.Res.TheVariants as res
use Rattle.casm_word.specs.declared.instr.Instr.{Instr}
use Rattle.casm_word.specs.declared.instr.Instr.TheVariants as instr
use Rattle.casm_word.specs.Encoding.{flags_of, ap_cell, fp_cell}
use Rattle.casm_word.specs.Offset.{minus}
use Rattle.casm_word.proofs.EncodingLaws.{instr_word}
use Rattle.std.proofs.lemmas.Int.{ints}
use Rattle.first_form.specs.declared.operation.Operation.{Operation}
use Rattle.first_form.specs.declared.operation.Operation.TheVariants as operations
use Rattle.first_form.specs.declared.program.Program.{Program}
use Rattle.first_form.specs.declared.input.Input.{Input}
use Rattle.first_form.specs.declared.verdict.Verdict.{Verdict}
use Rattle.first_form.specs.declared.verdict.Value.TheVariants as values
use Rattle.first_form.specs.declared.code.TheConstants.{CALL_REL, ADD_IMMEDIATE, MUL_IMMEDIATE, RET}
use Rattle.first_form.specs.Accepted.{GoesOn, Follows, final_pc, range_limit}
use Rattle.first_form.specs.Honest.{execution_start, first_frame, range_start, cells_from, execution_of, honest_states, honest_run, IsReadBy, IsNeeded}
use Rattle.first_form.specs.Meaning.{applied, computing_word, computing_number, entry_gas, code_of, parameter_types}
use Rattle.first_form.specs.Runs.{IsAccepted, IsVerdict}
use Rattle.first_form.proofs.Soundness.{sum-negative, applied_below, soundness, shows_it}
use Rattle.first_form.proofs.ValueLaws.{stands_below}

-- keys that tie are one
same_key : (at key : ℕ) → eq_by_cmp nat_cmp at key ≡ true → at ≡ key
same_key at key same = grind (arith, nat_tests)

-- what the honest run lists
abbrev listed_cells : Program → Input → List (ℕ × ℕ)
listed_cells program input = cells_from 0 (code_of program) ++ cells_from execution_start (execution_of program input)

abbrev honest_word : Program → Input → ℕ → Option ℕ
honest_word program input = get (honest_run program input).memory

look : (program : Program) (input : Input) (at : ℕ) → honest_word program input at ≡ find nat_cmp at (listed_cells program input)
look program input at = get-from_sorted nat_cmp (listed_cells program input) at tt

-- the four states
abbrev at_call : State
at_call = record { pc = 0; ap = first_frame; fp = first_frame }

abbrev at_result : State
at_result = record { pc = 4; ap = first_frame + 2; fp = first_frame + 2 }

abbrev at_return : State
at_return = record { pc = 6; ap = first_frame + 3; fp = first_frame + 2 }

abbrev at_end : State
at_end = record { pc = 2; ap = first_frame + 3; fp = first_frame }

-- the program of an operation and a constant
abbrev program_with : Operation → ℕ → Program
program_with operation constant = record { operation = operation; constant = constant }

-- the step that computes the result
result_step : (operation : Operation) (constant : ℕ) (input : Input) → Step (honest_word (program_with operation constant) input) at_result at_return
result_step operations.Add constant input =
    let cell = look (program_with operations.Add constant) input in
    let add = instr.AssertEq (ap_cell (pos 0)) (res.Add (fp_cell (minus 3)) (operand.Imm constant)) true in
    record {
      word = ADD_IMMEDIATE;
      word_is = cell 4;
      flags = flags_of add;
      decodes = instr_word add (omega (arith, ints), (omega (arith, ints), tt));
      op0 = input.argument;
      op1 = constant;
      dst = sum input.argument constant;
      reads = record { op0_is = cell execution_start; op1_is = cell 5; dst_is = cell (first_frame + 2) };
      asserts = refl;
      next = refl;
    }
result_step operations.Sub constant input =
    let cell = look (program_with operations.Sub constant) input in
    let add = instr.AssertEq (ap_cell (pos 0)) (res.Add (fp_cell (minus 3)) (operand.Imm (negative constant))) true in
    record {
      word = ADD_IMMEDIATE;
      word_is = cell 4;
      flags = flags_of add;
      decodes = instr_word add (omega (arith, ints), (omega (arith, ints), tt));
      op0 = input.argument;
      op1 = negative constant;
      dst = difference input.argument constant;
      reads = record { op0_is = cell execution_start; op1_is = cell 5; dst_is = cell (first_frame + 2) };
      asserts = sym (sum-negative input.argument constant);
      next = refl;
    }
result_step operations.Mul constant input =
    let cell = look (program_with operations.Mul constant) input in
    let multiply = instr.AssertEq (ap_cell (pos 0)) (res.Mul (fp_cell (minus 3)) (operand.Imm constant)) true in
    record {
      word = MUL_IMMEDIATE;
      word_is = cell 4;
      flags = flags_of multiply;
      decodes = instr_word multiply (omega (arith, ints), (omega (arith, ints), tt));
      op0 = input.argument;
      op1 = constant;
      dst = product input.argument constant;
      reads = record { op0_is = cell execution_start; op1_is = cell 5; dst_is = cell (first_frame + 2) };
      asserts = refl;
      next = refl;
    }

-- it reads the result's cell
result_read : (operation : Operation) (constant : ℕ) (input : Input) → IsReadBy (honest_word (program_with operation constant) input) at_result at_return (result_step operation constant input) (first_frame + 2)
unfolding result_step
result_read operations.Add constant input = inr (inr (inr refl))
result_read operations.Sub constant input = inr (inr (inr refl))
result_read operations.Mul constant input = inr (inr (inr refl))

-- the words of the code are numbers of the field
computing_word_below : (operation : Operation) → computing_word operation < modulus
computing_word_below operations.Add = omega arith
computing_word_below operations.Sub = omega arith
computing_word_below operations.Mul = omega arith

computing_number_below : (operation : Operation) (constant : ℕ) → constant < modulus → computing_number operation constant < modulus
computing_number_below operations.Add constant fits = fits
computing_number_below operations.Sub constant fits = negative_below constant
computing_number_below operations.Mul constant fits = fits

module _ (program : Program) (input : Input) where
  abbrev cells : List (ℕ × ℕ)
  cells = listed_cells program input

  abbrev m : ℕ → Option ℕ
  m = honest_word program input

  cell : (at : ℕ) → m at ≡ find nat_cmp at cells
  cell at = look program input at

  code_cell : (k : ℕ) → k < 7 → m k ≡ slice_get (code_of program) k
  code_cell zero below = cell 0
  code_cell (suc zero) below = cell 1
  code_cell (suc (suc zero)) below = cell 2
  code_cell (suc (suc (suc zero))) below = cell 3
  code_cell (suc (suc (suc (suc zero)))) below = cell 4
  code_cell (suc (suc (suc (suc (suc zero))))) below = cell 5
  code_cell (suc (suc (suc (suc (suc (suc zero)))))) below = cell 6
  code_cell (suc (suc (suc (suc (suc (suc (suc k))))))) below = absurd (omega arith)

  abbrev call : Instr
  call = instr.Call true (operand.Imm 4)

  call_step : Step m at_call at_result
  call_step = record {
    word = CALL_REL;
    word_is = cell 0;
    flags = flags_of call;
    decodes = instr_word call tt;
    op0 = 2;
    op1 = 4;
    dst = first_frame;
    reads = record { op0_is = cell (first_frame + 1); op1_is = cell 1; dst_is = cell first_frame };
    asserts = (refl, refl);
    next = refl;
  }

  return_step : Step m at_return at_end
  return_step = record {
    word = RET;
    word_is = cell 6;
    flags = flags_of instr.Ret;
    decodes = instr_word instr.Ret tt;
    op0 = 2;
    op1 = 2;
    dst = first_frame;
    reads = record { op0_is = cell (first_frame + 1); op1_is = cell (first_frame + 1); dst_is = cell first_frame };
    asserts = tt;
    next = refl;
  }

  -- a state program_with a pc other than the end's, from which a step leads to its follower, goes on
  goes : (s t s' t' : State) → s.pc ≢ final_pc → Step m s t → Some s ≡ Some s' → Some t ≡ Some t' → GoesOn m s' t'
  goes s t s' t' not_early step same same_follower =
      let s_is : s ≡ s' = cc in
      let t_is : t ≡ t' = cc in
      subst (λ u. GoesOn m s' u) t_is (subst (λ u. GoesOn m u t) s_is (record { not_early = not_early; next = t; step = step; next_is = refl }))

  all_go_on : (i : ℕ) (s t : State) → Follows honest_states i s t → GoesOn m s t
  all_go_on zero s t pair = goes at_call at_result s t (λ e. absurd (omega arith)) call_step pair.here pair.after
  all_go_on (suc zero) s t pair = goes at_result at_return s t (λ e. absurd (omega arith)) (result_step program.operation program.constant input) pair.here pair.after
  all_go_on (suc (suc zero)) s t pair = goes at_return at_end s t (λ e. absurd (omega arith)) return_step pair.here pair.after
  all_go_on (suc (suc (suc i))) s t pair = let within = slice_get_within honest_states (suc (suc (suc i)) + 1) t pair.after in absurd (omega arith)

  no_range_cell : (k word : ℕ) → k < 4 → m (sum range_start k) ≡ Some word → word < range_limit
  no_range_cell zero word below listed = let none = cell range_start in cc
  no_range_cell (suc zero) word below listed = let none = cell (range_start + 1) in cc
  no_range_cell (suc (suc zero)) word below listed = let none = cell (range_start + 2) in cc
  no_range_cell (suc (suc (suc zero))) word below listed = let none = cell (range_start + 3) in cc
  no_range_cell (suc (suc (suc (suc k)))) word below listed = absurd (omega arith)

  pub accepted : program.constant < modulus → input.argument < modulus → IsAccepted program input (honest_run program input)
  accepted constant_fits argument_fits = record {
    few = omega arith;
    code_cells = code_cell;
    base = first_frame;
    start = refl;
    argument_cells = stands_below m first_frame input.argument argument_fits (cell execution_start);
    goes_on = all_go_on;
    final = (at_end, refl, refl);
    range_cells = λ k below word listed. no_range_cell k word below listed;
  }

  pub shown : program.constant < modulus → input.argument < modulus → entry_gas program ≤ input.gas → (verdict : Verdict) × IsVerdict program input (honest_run program input) verdict
  shown constant_fits argument_fits enough =
      let accepts = accepted constant_fits argument_fits in
      let verdict : Verdict = record {
        outcome = record { panic = false; values = values.Felt (applied program.operation input.argument program.constant) ∷ []; gas_left = input.gas - 300; gas_used = 300 };
        steps = 3;
        checks = 0;
      } in
      let shows = shows_it program input range_start m honest_states accepts verdict refl refl (omega arith) refl refl refl in
      let means = soundness program input range_start m honest_states accepts verdict shows in
      (verdict, record { shown = shows; meant = means.0; cost = means.1 })

  -- it has a file: its numbers are of the field, and there are few
  pub is_run : program.constant < modulus → input.argument < modulus → IsRun (honest_run program input)
  is_run constant_fits argument_fits =
      let entries_are : entries (honest_run program input).memory ≡ cells = entries-from_sorted nat_cmp cells tt in
      let word = computing_word_below program.operation in
      let number = computing_number_below program.operation program.constant constant_fits in
      let value = applied_below program.operation input.argument program.constant in
      record {
        rc = omega arith;
        cells = subst (AllByRecursion IsCell) (sym entries_are) (
          (omega arith, omega arith),
          (
            (omega arith, omega arith),
            (
              (omega arith, omega arith),
              (
                (omega arith, omega arith),
                (
                  (omega arith, word),
                  (
                    (omega arith, number),
                    (
                      (omega arith, omega arith),
                      (
                        (omega arith, argument_fits),
                        ((omega arith, omega arith), ((omega arith, omega arith), ((omega arith, value), tt))),
                      ),
                    ),
                  ),
                ),
              ),
            ),
          ),
        );
        cell_count = subst (λ (es : List (ℕ × ℕ)). length es < 2 ^ 64) (sym entries_are) (omega arith);
        states = (record { pc = omega arith; ap = omega arith; fp = omega arith }, (record { pc = omega arith; ap = omega arith; fp = omega arith }, (record { pc = omega arith; ap = omega arith; fp = omega arith }, (record { pc = omega arith; ap = omega arith; fp = omega arith }, tt))));
        some_state = omega arith;
        state_count = omega arith;
      }

  -- the file is short, since the run lists few cells and has few states
  pub is_short : length (spelling (honest_run program input)) ≤ 2 ^ 24
  is_short =
      let entries_are : entries (honest_run program input).memory ≡ cells = entries-from_sorted nat_cmp cells tt in
      subst (λ (es : List (ℕ × ℕ)). length (listing_spelling (record { rc = range_start; cells = es; states = honest_states })) ≤ 2 ^ 24) (sym entries_are) (omega arith)

  -- what is so of each key of a list is so of each key that is found
  abbrev AllKeys : (ℕ → Type 0) → List (ℕ × ℕ) → Type 0
  AllKeys P [] = Unit {0}
  AllKeys P (e ∷ es) = P e.0 × AllKeys P es

  found_key : (P : ℕ → Type 0) (es : List (ℕ × ℕ)) (at word : ℕ) → AllKeys P es → find nat_cmp at es ≡ Some word → P at
  found_key P [] at word all found = absurd cc
  found_key P (e ∷ es) at word all found =
      elim (eq_by_cmp nat_cmp at e.0) as (λ b. eq_by_cmp nat_cmp at e.0 ≡ b → cond b (Some e.1) (find nat_cmp at es) ≡ Some word → P at) [
        | true ↦ λ same is. subst P (sym (same_key at e.0 same)) all.0
        | false ↦ λ other is. found_key P es at word all.1 is
      ] refl found

  abbrev Needed : ℕ → Type 0
  Needed at = IsNeeded (code_of program) (parameter_types program) m honest_states at

  all_needed : AllKeys Needed cells
  unfolding call_step
  all_needed = (
    inl (omega arith),
    (
      inl (omega arith),
      (
        inl (omega arith),
        (
          inl (omega arith),
          (
            inl (omega arith),
            (
              inl (omega arith),
              (
                inl (omega arith),
                (
                  inr (inl (first_frame, 0, refl, omega arith, refl)),
                  (
                    inr (inr (0, at_call, at_result, record { here = refl; after = refl }, (call_step, inr (inr (inr refl))))),
                    (
                      inr (inr (0, at_call, at_result, record { here = refl; after = refl }, (call_step, inr (inl refl)))),
                      (inr (inr (1, at_result, at_return, record { here = refl; after = refl }, (result_step program.operation program.constant input, result_read program.operation program.constant input))), tt),
                    ),
                  ),
                ),
              ),
            ),
          ),
        ),
      ),
    ),
  )

  pub needed : (at word : ℕ) → m at ≡ Some word → Needed at
  needed at word listed = found_key Needed cells at word all_needed (sym (cell at) ∙ listed)
