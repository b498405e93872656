use Rattle.std.proofs.Common.{ℕ, ltb, rules}
use Rattle.std.proofs.lemmas.List.Sorted.{IsPartitionPoint-from_clause}
use Rattle.held_list.proofs.Placing.{lower_parted, at_parted}
use Rattle.held_list.proofs.held.index_of.Goals as goal

pub returns : goal.returns
returns g c =
    let held = c.args.pairs.now in
    let v = c.args.variable in
    let parted = lower_parted held 0 v c.requires.rising in
    let point = IsPartitionPoint-from_clause (λ (x : ℕ × _). ltb x.0 v) _ _ c.partition_point.ensures.partitioned parted (λ a r next called. search rules) in
    at_parted held 0 v _ c.requires.rising c.partition_point.ensures.bound point c.requires.held
