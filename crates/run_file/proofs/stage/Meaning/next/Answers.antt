use Rattle.std.proofs.Common.{[], ◌∷◌, refl, sym}
use Rattle.std.specs.FinMap.{insert}
use Rattle.run_file.proofs.Order.{none_after}
use Rattle.run_file.specs.Stages.{with_cells, with_states, from_word, from_stage}
use Rattle.run_file.proofs.stage.Meaning.next.Goals as goal

pub returns-in-Rc-clause-goes_on : goal.returns-in-Rc-clause-goes_on
unfolding from_word from_stage
returns-in-Rc-clause-goes_on c l p = rw (c.in-Rc.is, c.with.ensures) refl

pub returns-in-CellWord-clause-goes_on : goal.returns-in-CellWord-clause-goes_on
unfolding from_word
returns-in-CellWord-clause-goes_on c l p =
    let cells = c.cells.ensures.goes_on (with_cells l ((c.in-CellWord.address, c.args.word) ∷ [])) p in
    rw (c.in-CellWord.is, c.with-in-CellWord.ensures) (sym (rw c.value.ensures.value at cells))

pub returns-in-Pc-clause-goes_on : goal.returns-in-Pc-clause-goes_on
unfolding from_word from_stage
returns-in-Pc-clause-goes_on c l p = rw (c.in-Pc.is, c.without_part.ensures) refl

pub returns-in-Ap-clause-goes_on : goal.returns-in-Ap-clause-goes_on
unfolding from_word from_stage
returns-in-Ap-clause-goes_on c l p = rw (c.in-Ap.is, c.without_part-in-Ap.ensures) refl

pub returns-in-Fp-clause-goes_on : goal.returns-in-Fp-clause-goes_on
unfolding from_word
returns-in-Fp-clause-goes_on c l p = rw (c.in-Fp.is, c.with-in-Fp.ensures) (sym (c.states.ensures.goes_on (with_states l (record { pc = c.in-Fp.pc; ap = c.in-Fp.ap; fp = c.args.word } ∷ [])) p))

pub returns-in-CellWord-clause-fits : goal.returns-in-CellWord-clause-fits
returns-in-CellWord-clause-fits c = rw (c.in-CellWord.is, c.with-in-CellWord.ensures) (λ cells room fits. (
  fits,
  λ later has. c.cells.ensures.fits (insert cells c.in-CellWord.address c.args.word) later
      (rw c.value.ensures.value (none_after cells c.in-CellWord.address c.args.word fits)),
))
