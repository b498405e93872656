use Rattle.std.proofs.Common.{◌≡◌, ◌+◌, ◌-◌, ◌≤◌, length, arith}
use Rattle.edge_io.proofs.Reading.{ForFile-both, Keeps-more, length-more, is_front-more}
use Rattle.edge_io.proofs.files.read_all.Goals as goal

pub loop-whole-preserved : goal.loop-whole-preserved
loop-whole-preserved g c =
    let keeps = c.in_ok-came.ensures.keeps in
    let taken : c.in_ok-came.came ≤ c.loop-whole.room = omega arith in
    let room : c.loop-whole.room ≤ c.args.limit = omega arith in
    let fits : c.in_ok-came.came ≤ length c.read_at.new.buf = omega (arith, c.read_at.auto.buf, c.in_ok-came.ensures.within) in
    let kept : length c.extend_from_slice.new.self.items + (c.loop-whole.room - c.in_ok-came.came) ≡ c.args.limit =
    omega (arith, length-more _ _ _ _ fits c.in_ok-extend_from_slice.ensures.items) in (
      kept,
      Keeps-more _ _ _ c.loop-whole.invariant.1 keeps,
      rw keeps.contents
          (ForFile-both _ _ _ _ _ _ _ _ (λ _ _. tt)
          (λ bytes front read. is_front-more _ _ _ _ _ _ _ taken room c.in_ok-extend_from_slice.ensures.items front read)
          c.loop-whole.invariant.2 c.in_ok-came.ensures.known),
    )
