use Rattle.std.proofs.Common.{◌≤◌, ◌^◌, ap, sym, subst, arith}
use Rattle.cost_table.proofs.FewCells.{size_few}
use Rattle.lower_core.proofs.sizes.size.Goals as goal

pub returns-clause-few : goal.returns-clause-few
returns-clause-few c =
    let few : c.info.result.size ≤ 2 ^ 14 =
    subst (λ n. n ≤ 2 ^ 14) (sym (ap (λ info. info.size) c.info.ensures)) (size_few c.args.types.now c.len-count.ensures.kept c.args.t.0 c.requires) in
    omega (arith, few, c.from.ensures)
