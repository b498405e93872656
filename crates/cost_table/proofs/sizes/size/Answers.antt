use Rattle.std.proofs.Common.{◌≤◌, ◌^◌, ap, sym, subst}
use Rattle.cost_table.proofs.FewCells.{size_few}
use Rattle.cost_table.proofs.sizes.size.Goals as goal

pub returns-clause-few : goal.returns-clause-few
returns-clause-few c =
    subst (λ n. n ≤ 2 ^ 14) (sym (ap (λ info. info.size) c.info.ensures))
    (size_few c.args.types.now c.len-count.ensures.kept c.args.t.0 c.requires)
