use Rattle.std.proofs.Common.{◌++◌, Some, map, subst, sym, ap, ◌∙◌}
use Rattle.cell_forms.specs.Laying.{laid_each}
use Rattle.value_trees.specs.Val.{vals_of}
use Rattle.value_trees.specs.Meant.{meant}
use Rattle.type_table.specs.View.{trees_of}
use Rattle.cell_forms.specs.Standing.{AllPlainStand, zeros}
use Rattle.cell_forms.proofs.LaidLaws.{all_laid}
use Rattle.cell_forms.proofs.laying.lay.Goals as goal

pub returns : goal.returns
returns c = λ m.
    subst (λ ws. AllPlainStand zeros m (trees_of c.args.t.now c.args.args.now) (map (λ n. Some n) ws) (map meant c.args.values.now)) (sym (c.in_ok-push_each.ensures ∙ ap (λ l. l ++ laid_each (vals_of (map meant c.args.values.now)) (trees_of c.args.t.now c.args.args.now)) c.new-words.ensures.items))
    (all_laid m c.args.t.now.rows c.args.args.now c.requires.plain c.requires.no_array (map meant c.args.values.now) c.requires.typed)
