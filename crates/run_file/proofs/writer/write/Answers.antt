use Rattle.std.proofs.Common.{◌≡◌, ◌∙◌, length, arith}
use Rattle.std.specs.FinMap.{entries, len-entries}
use Rattle.run_file.proofs.Writing.{cells_fit, whole}
use Rattle.run_file.proofs.writer.write.Goals as goal

pub returns-clause-spelled : goal.returns-clause-spelled
returns-clause-spelled c =
    let rc = rw c.value.ensures.value at c.in_ok-put.ensures in
    let count = rw (c.len-2.ensures.count ∙ len-entries c.args.run.now.memory) at c.in_ok-put-2.ensures in
    let steps = rw c.as_slice-states.ensures at c.in_ok-put-3.ensures in
    let states = rw c.as_slice-states.ensures at c.in_ok-put_states.ensures.put in
    whole _ _ _ _ _ _ _ _ _ _ _ _ _ c.in_ok-bytes.ensures.items c.in_ok-extend_from_slice.ensures.items rc count c.in_ok-put_cells.ensures steps states

pub returns-clause-is_run : goal.returns-clause-is_run
returns-clause-is_run c =
    let count : c.len.result ≡ length (entries c.args.run.now.memory) = c.len.ensures.count ∙ len-entries c.args.run.now.memory in
    record {
      rc = omega (arith, c.value.ensures.value, c.value.ensures.below);
      cells = cells_fit c.args.run.now.memory c.len.ensures.in_field;
      cell_count = omega (arith, count, c.len.type_inv);
      states = rw c.as_slice-states.ensures at c.in_ok-put_states.ensures.words;
      some_state = c.requires.some_state;
      state_count = c.requires.few_states;
    }
