use Rattle.std.proofs.Common.{◌≡◌, ◌-◌, arith}
use Rattle.std.specs.FinMap.{get}
use Rattle.felt64.specs.Field.{sum}
use Rattle.first_form.specs.Ranges.{IsWide, IsFirstWide}
use Rattle.first_form.proofs.AcceptedLaws.{some_weaker, wide_is_first, wide_before_end, wide_behind_end}
use Rattle.first_form.proofs.accepted.first_wide.Goals as goal

pub returns-then-value-clause-some : goal.returns-then-value-clause-some
returns-then-value-clause-some c =
    let m = get c.args.memory.now in
    let last_is : c.add-last.result ≡ sum c.args.rc (c.args.count - 1) = omega arith in
    some_weaker c.wide_between.result (IsWide m c.args.rc c.add-last.result) (IsFirstWide m c.args.rc c.args.count)
    (wide_is_first m c.args.rc c.add-last.result c.args.count (omega arith) (omega arith) c.requires.some c.requires.few last_is (omega arith)) c.wide_between.ensures.some

pub returns-in-Some-clause-some : goal.returns-in-Some-clause-some
returns-in-Some-clause-some c =
    let m = get c.args.memory.now in
    let last_is : c.add-last.result ≡ sum c.args.rc (c.args.count - 1) = omega arith in
    wide_before_end m c.args.rc c.add-last.result c.neg.result c.args.count (omega arith) (omega arith) c.requires.some c.requires.few last_is (omega arith) (omega arith) c.in-Some.cell c.in-Some.ensures.some

pub returns-in-None-clause-some : goal.returns-in-None-clause-some
returns-in-None-clause-some c =
    let m = get c.args.memory.now in
    let last_is : c.add-last.result ≡ sum c.args.rc (c.args.count - 1) = omega arith in
    some_weaker c.wide_between-in-None.result (IsWide m c.from-in-None.result c.add-last.result) (IsFirstWide m c.args.rc c.args.count)
    (wide_behind_end m c.args.rc c.add-last.result c.neg.result c.from-in-None.result c.args.count (omega arith) (omega arith) c.requires.some c.requires.few last_is (omega arith) (omega arith) (omega arith) c.in-None.ensures.none) c.wide_between-in-None.ensures.some
