use Rattle.std.proofs.Common.{◌≡◌, take}
use Rattle.least_needs.specs.Terms.{graph_of}
use Rattle.least_needs.proofs.solving.graph_of.Given as goal

abbrev pub invariant-loop-statement : goal.invariant-loop-statement
invariant-loop-statement l = l.graph ≡ take l.statement (graph_of l.terms)
