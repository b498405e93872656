use Rattle.std.proofs.Common.{sym, subst, ◌∙◌, arith}
use Rattle.ro_machine.specs.Cells.{NoneFrom}
use Rattle.run_file.proofs.Order.{none_at_first}
use Rattle.first_form.proofs.ListedLaws.{honest_listed, same_run, same_words}
use Rattle.first_form.proofs.honest.honest_run.Goals as goal

-- a new memory has no cells
pub list_words-requires-clause-free : goal.list_words-requires-clause-free
list_words-requires-clause-free c = λ b above. subst (λ m. NoneFrom m 0) (sym c.new-memory.ensures) none_at_first b (omega arith)

-- the code and the execution are listed in it, and nothing else
pub returns : goal.returns
returns c =
    let execution = same_words c.args.input.now.argument _ _ _ _ _ _ c.reduce-frame.ensures c.from-2.ensures c.apply-value.ensures in
    let memory = honest_listed c.args.program.now c.args.input.now _ _ _ _ _ _ _ c.new-memory.ensures c.from.ensures c.code_words.ensures c.in_ok-list_words.ensures.listed
    c.reduce.ensures execution c.in_ok-list_words-2.ensures.listed in
    same_run _ _ _ _ _ _ c.reduce-2.ensures (c.memory-2.view_is ∙ memory) (c.new.ensures ∙ c.in_ok-honest_states.ensures)
