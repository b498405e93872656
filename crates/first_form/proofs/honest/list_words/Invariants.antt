use Rattle.std.proofs.Common.{◌≡◌, ◌+◌, ◌++◌, drop}
use Rattle.std.specs.FinMap.{entries}
use Rattle.ro_machine.specs.Cells.{NoneFrom}
use Rattle.first_form.specs.Honest.{cells_from}
use Rattle.first_form.proofs.honest.list_words.Given as goal

-- the cells so far, and those of the words that are left, are all
abbrev pub invariant-loop-word : goal.invariant-loop-word
invariant-loop-word l = record {
  place : l.addr ≡ l.fn.start + l.word-index;
  free : NoneFrom l.memory l.addr;
  listed : entries l.memory ++ cells_from l.addr (drop l.word-index l.words) ≡ entries l.fn.memory ++ cells_from l.fn.start l.words;
}
