use Rattle.std.proofs.Common.{◌≡◌, ◌∷◌, sym, ap, ◌∙◌, rules}
use Rattle.ro_machine.proofs.Walks.{walk_bound, next_walk, walk_cell, walk_last}
use Rattle.ro_machine.proofs.listed_cells.ListedCellsIterator.next.Goals as goal
use Rattle.ro_machine.proofs.listed_cells.ListedCellsIterator.next.Goals.{then-self-last_offset, else-self-last_offset}

pub cell-cell-requires-clause-in_field : goal.cell-cell-requires-clause-in_field
cell-cell-requires-clause-in_field c = walk_bound _ _ _ _ c.in_ok-segment.ensures.cases.0 c.self.invariant

pub invariant_of-self : goal.invariant_of-self
invariant_of-self c = next_walk _ _ _ _ c.in_ok-segment.ensures.cases.0 c.self.invariant

yielded : (c : goal.Joined-self-last_offset) → c.args.self.now ≡ c.cell-cell.result ∷ c.if-self-last_offset.self
yielded c =
    let cell = walk_cell _ _ _ _ _ c.in_ok-segment.ensures.cases.0 c.self.invariant c.cell-cell.ensures in
    elim c.if-self-last_offset.branch [
      | then-self-last_offset w ↦ sym c.self.view_is ∙ cell ∙ ap (λ cells. c.cell-cell.result ∷ cells) (walk_last _ _ _ _ c.in_ok-segment.ensures.cases.0 (w.if-self-last_offset.true ∙ c.last_offset.ensures) ∙ sym w.self-is)
      | else-self-last_offset w ↦ sym c.self.view_is ∙ cell ∙ ap (λ cells. c.cell-cell.result ∷ cells) (sym w.self-is)
    ]

pub returns-clause-steps : goal.returns-clause-steps
returns-clause-steps c = yielded c

pub returns-clause-goes : goal.returns-clause-goes
returns-clause-goes c = rw (yielded c) (search rules)
