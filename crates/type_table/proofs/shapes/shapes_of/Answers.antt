use Rattle.std.proofs.Common.{◌≡◌, ◌+◌, ◌∙◌, sym, refl, subst, length, slice_get, Some}
use Rattle.std.proofs.lemmas.Option.{slice_get_read}
use Rattle.type_table.proofs.ShapeLaws.{AreFoundBefore, fresh, one_shape, no_shape, all_found}
use Rattle.type_table.proofs.shapes.shapes_of.Goals as goal
use Rattle.type_table.proofs.shapes.shapes_of.Goals.{in-Some+in_ok-add, in_default}

pub add-requires : goal.add-requires
add-requires c =
    let rows = c.args.rows.now in
    let row = c.index-rows-i.result in
    let here : slice_get rows c.loop-i.i ≡ Some row = slice_get_read rows (length rows) c.loop-i.i row refl c.loop-i-test.true c.index-rows-i.is in
    fresh rows c.requires c.loop-i.i row here c.loop-i.shapes c.loop-i.invariant c.in-Some.shape (sym c.shape_of.ensures ∙ c.in-Some.is)

pub loop-i-preserved : goal.loop-i-preserved
loop-i-preserved c =
    let rows = c.args.rows.now in
    let row = c.index-rows-i.result in
    let here : slice_get rows c.loop-i.i ≡ Some row = slice_get_read rows (length rows) c.loop-i.i row refl c.loop-i-test.true c.index-rows-i.is in
    elim c.match-shape_of.branch [
      | in-Some+in_ok-add w ↦
          subst (AreFoundBefore rows (c.loop-i.i + 1)) (sym (w.shapes-is ∙ w.in_ok-add.ensures.ok))
          (one_shape rows c.requires c.loop-i.i row here c.loop-i.shapes c.loop-i.invariant w.in-Some.shape (sym c.shape_of.ensures ∙ w.in-Some.is))
      | in_default w ↦
          subst (AreFoundBefore rows (c.loop-i.i + 1)) (sym w.shapes-is)
          (no_shape rows c.requires c.loop-i.i row here c.loop-i.shapes c.loop-i.invariant (sym c.shape_of.ensures ∙ w.in_default.is))
    ]

pub returns : goal.returns
returns c = all_found c.args.rows.now c.loop-i.i c.loop-i.shapes c.loop-i-test.false c.loop-i.invariant
