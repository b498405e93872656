use Rattle.std.proofs.Common.{◌≡◌, ◌∙◌, ap, sym, subst, refl, inl, inr, map, length, option_map, slice_get, Some, is_some, ◌+◌, arith}
use Rattle.std.proofs.lemmas.Option.{slice_get-map, slice_get_read, slice_get_within}
use Rattle.std.proofs.lemmas.List.{length-map}
use Rattle.type_table.proofs.Ids.{AreTaken, AreListed, taken_more, all_listed}
use Rattle.type_table.proofs.named.all_ids.Goals as goal
use Rattle.type_table.proofs.named.all_ids.Goals.{then-not-known+in_ok-add, else-not-known}

pub loop-i-preserved : goal.loop-i-preserved
loop-i-preserved g c =
    let ds = c.args.declarations.now in
    let ids = map g.D.HasId.id_of ds in
    let x = c.bytes-id.result.now in
    let here : slice_get ids c.loop-i.i ≡ Some x =
    slice_get-map g.D.HasId.id_of ds c.loop-i.i
    ∙ ap (option_map g.D.HasId.id_of) (slice_get_read ds (length ds) c.loop-i.i c.index-declarations-i.result refl c.loop-i-test.true c.index-declarations-i.is)
    ∙ ap Some (sym (c.bytes-id.ensures ∙ c.id.ensures)) in
    let more = taken_more ids c.loop-i.i c.loop-i.positions c.if-not-known.positions c.loop-i.repeated.items x c.is_some-known.result c.loop-i.invariant here
    (c.is_some-known.ensures ∙ ap is_some c.find.ensures) in
    let pushed = subst (AreTaken ids (c.loop-i.i + 1) c.if-not-known.positions) (sym c.in_ok-push.ensures.items) in
    elim c.if-not-known.branch [
      | then-not-known+in_ok-add w ↦ pushed (more (inr (w.if-not-known.true, w.positions-is ∙ w.in_ok-add.ensures.ok)))
      | else-not-known w ↦ pushed (more (inl (w.if-not-known.false, w.positions-is)))
    ]

pub returns-clause-repeated : goal.returns-clause-repeated
returns-clause-repeated g c i id is =
    c.loop-i.invariant.right i id
    (omega (arith, slice_get_within (map g.D.HasId.id_of c.args.declarations.now) i id is, length-map c.args.declarations.now g.D.HasId.id_of, c.loop-i-test.false)) is

pub returns-clause-listed : goal.returns-clause-listed
returns-clause-listed g c = λ none.
    let ids = map g.D.HasId.id_of c.args.declarations.now in
    let all : c.loop-i.i ≡ length ids = omega (arith, length-map c.args.declarations.now g.D.HasId.id_of, c.loop-i-test.false, c.loop-i.auto.i-end) in
    let listed = c.loop-i.invariant.listed (λ k less. none k (omega (arith, less, all, length-map c.args.declarations.now g.D.HasId.id_of))) in
    (all_listed ids c.loop-i.positions (subst (λ n. AreListed ids n c.loop-i.positions) all listed), listed.numbered)
