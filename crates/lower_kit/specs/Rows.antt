-- Plans with one line for each of some terms.
use Rattle.std.specs.Prelude.{ℕ, ◌+◌, List, [], ◌∷◌}
use Rattle.cell_terms.specs.declared.term.Slot.TheVariants as slots
use Rattle.cell_terms.specs.declared.term.Term.{Term}
use Rattle.frag_plan.specs.Plan.{Plan, lay, same, line}

-- each term's word is laid in a new cell, in order; and then the plan
abbrev pub lay_each : List Term → Plan → Plan
lay_each [] p = p
lay_each (t ∷ ts) p = line (lay t) (lay_each ts p)

-- the cells that the arguments' expressions are, from one on, have the terms' words, in order; and then the plan
abbrev pub same_each : ℕ → List Term → Plan → Plan
same_each i [] p = p
same_each i (t ∷ ts) p = line (same (slots.Arg i) t) (same_each (i + 1) ts p)
