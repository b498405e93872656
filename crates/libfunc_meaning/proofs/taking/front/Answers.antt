use Rattle.std.proofs.Common.{map, sym, ap, ◌∙◌}
use Rattle.std.proofs.lemmas.List.{take-map}
use Rattle.value_trees.specs.Meant.{meant}
use Rattle.libfunc_meaning.proofs.taking.front.Goals as goal

pub returns : goal.returns
returns c = ap (λ vs. map meant vs) c.truncate.ensures.items ∙ sym (take-map meant c.args.kept c.args.values.items)
