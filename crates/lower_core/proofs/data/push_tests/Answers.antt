use Rattle.std.proofs.Common.{◌+◌, ◌*◌, refl, ap}
use Rattle.frag_code.specs.declared.piece.Piece.TheVariants as piece
use Rattle.lower_core.specs.Tests.{tested, lessened}
use Rattle.lower_core.proofs.TestRows.{three_more, test_more}
use Rattle.lower_core.proofs.data.push_tests.Goals as goal

pub loop-i-preserved : goal.loop-i-preserved
loop-i-preserved c =
    let args = c.args.args.now in
    let i = c.loop-i.i in
    let pushed = three_more c.loop-i.frag c.push.new.self c.push-in-loop-i.new.self c.push-in-loop-i-2.new.self _ _ _
    (piece.IfNonZero (tested args i) (3 * i + 2)) (piece.Exit i) (piece.Let (lessened args i))
    c.in_ok-push.ensures.ok c.in_ok-push-2.ensures.ok c.in_ok-push-3.ensures.ok
    (ap (λ cell. piece.IfNonZero cell (3 * i + 2)) c.tested.ensures) refl (ap piece.Let c.lessened.ensures.value) in
    test_more args i c.args.frag.now c.loop-i.frag c.push-in-loop-i-2.new.self c.loop-i.invariant pushed
