use Rattle.std.proofs.Common.{◌≡◌, ◌∙◌, sym, refl, length, true, false, nat_eq, slice_get, Some}
use Rattle.std.specs.HashSet.{contains}
use Rattle.std.proofs.lemmas.Bool.{false≢true, not-true, not-false}
use Rattle.std.proofs.lemmas.Option.{slice_get_read}
use Rattle.type_table.proofs.SignatureLaws.{taken_twice, one_more, no_twice}
use Rattle.type_table.proofs.signatures.has_one_variable_twice.Goals as goal

pub returns-then-not-branch : goal.returns-then-not-branch
returns-then-not-branch c =
    let params = c.args.params.now in
    let here : slice_get params c.loop-param.param-index ≡ Some c.param-item.result =
    slice_get_read params (length params) c.loop-param.param-index c.param-item.result refl c.loop-param-test.true c.param-item.is in
    let is_so : contains nat_eq c.loop-param.variables c.param-item.result.0 ≡ true =
    not-false (contains nat_eq c.loop-param.variables c.param-item.result.0) (sym c.in_ok-insert.ensures.added ∙ c.if-not-branch.true) in
    let two = taken_twice params c.loop-param.param-index (contains nat_eq c.loop-param.variables) c.param-item.result c.loop-param.invariant here is_so in
    (λ _. two, λ _. refl)

pub loop-param-preserved : goal.loop-param-preserved
loop-param-preserved c =
    let params = c.args.params.now in
    let here : slice_get params c.loop-param.param-index ≡ Some c.param-item.result =
    slice_get_read params (length params) c.loop-param.param-index c.param-item.result refl c.loop-param-test.true c.param-item.is in
    let new : contains nat_eq c.loop-param.variables c.param-item.result.0 ≡ false =
    not-true (contains nat_eq c.loop-param.variables c.param-item.result.0) (sym c.in_ok-insert.ensures.added ∙ c.if-not-branch.false) in
    one_more params c.loop-param.param-index (contains nat_eq c.loop-param.variables) (contains nat_eq c.insert.new.self) c.param-item.result c.loop-param.invariant here new
    c.in_ok-insert.ensures.updates.0

pub returns : goal.returns
returns c = (λ told. absurd (false≢true told), λ two. absurd (no_twice c.args.params.now c.loop-param.param-index _ c.loop-param.invariant c.loop-param-test.false two))
