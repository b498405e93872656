use Rattle.std.proofs.Common.{refl, ap, ◌∙◌}
use Rattle.std.specs.Option.{option_copied}
use Rattle.std.proofs.lemmas.Option.{slice_get_past, slice_get_read}
use Rattle.statement_walk.proofs.Storing.{given_stored, flat}
use Rattle.statement_walk.proofs.walk.Walk.given.Goals as goal

pub returns-in_err-get : goal.returns-in_err-get
returns-in_err-get g c =
    let past = rw c.deref.ensures.value at c.in_err-get.ensures.lookup.3 in
    ap option_copied c.from_residual.ensures ∙ given_stored _ _ _ _ _ c.self.view_is (ap flat (slice_get_past _ _ past))

pub returns : goal.returns
returns g c =
    let within = rw c.deref.ensures.value at c.in_ok-get.ensures.lookup.3.0 in
    let read = rw c.deref.ensures.value at c.in_ok-get.ensures.lookup.1 in
    c.as_ref.ensures.value ∙ given_stored _ _ _ _ _ c.self.view_is (ap flat (slice_get_read _ _ _ _ refl within read))
