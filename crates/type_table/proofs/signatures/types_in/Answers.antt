use Rattle.std.proofs.Common.{◌≡◌, ◌∙◌, ap, sym, refl, map, take, length, option_map, slice_get, Some}
use Rattle.std.proofs.lemmas.List.{take-map}
use Rattle.std.proofs.lemmas.Option.{slice_get-map, slice_get_read}
use Rattle.type_table.specs.declared.fault.TypeFault.TheVariants as faults
use Rattle.type_table.specs.Lookups.{found}
use Rattle.type_table.specs.Signatures.{AreFound}
use Rattle.type_table.proofs.SignatureLaws.{unfound_at}
use Rattle.type_table.proofs.signatures.types_in.Goals as goal

pub returns-in_default-clause-refused : goal.returns-in_default-clause-refused
returns-in_default-clause-refused g c =
    let f = g.T.HasType.type_of in
    let named = c.args.named.now in
    let positions = c.args.positions.now in
    let i = c.loop-item.item-index in
    let id = c.bytes-id.result.now in
    let here : slice_get (map f named) i ≡ Some id =
    slice_get-map f named i
    ∙ ap (option_map f) (slice_get_read named (length named) i c.item-item.result refl c.loop-item-test.true c.item-item.is)
    ∙ ap Some (sym (c.bytes-id.ensures ∙ c.type_id.ensures)) in
    let so_far : AreFound positions (take i (map f named)) c.loop-item.types.items = ap (map (λ x. found positions x)) (take-map f i named) ∙ c.loop-item.invariant in
    let u = unfound_at positions (map f named) i c.loop-item.types.items id here (sym c.find.ensures ∙ c.in_default.is) so_far in
    λ _. (id, u.0, u.1, ap faults.UnknownType c.in_ok-new.ensures)
