use Rattle.type_table.proofs.RepeatSteps.{AreTold}
use Rattle.type_table.proofs.repeats.repeats.Given as goal

abbrev pub invariant-loop-i : goal.invariant-loop-i
invariant-loop-i l = AreTold l.declarations l.kinds l.graph l.ids_repeated l.i l.set l.flags.items
