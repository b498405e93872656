use Rattle.std.proofs.Common.{leb, sym, arith, rules}
use Rattle.std.proofs.lemmas.List.Sorted.{IsPartitionPoint-from_clause}
use Rattle.ro_machine.specs.Stretches.{Stretch}
use Rattle.ro_machine.proofs.Lookups.{place_last, place_parted, starts_parted}
use Rattle.ro_machine.proofs.memory.place_of.Goals as goal

pub returns-in-Some : goal.returns-in-Some
returns-in-Some c = place_last c.args.segments.now _ c.in-Some.last.now c.requires (sym c.in-Some.ensures.value) (omega arith)

pub returns-in_default : goal.returns-in_default
returns-in_default c =
    let parted = starts_parted c.args.segments.now c.args.addr c.requires in
    let point = IsPartitionPoint-from_clause (λ (s : Stretch). leb s.start c.args.addr) _ _ c.partition_point.ensures.partitioned parted (λ a r q k. search rules) in
    place_parted _ _ _ c.partition_point.ensures.bound point
