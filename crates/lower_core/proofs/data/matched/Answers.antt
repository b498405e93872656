use Rattle.std.proofs.Common.{◌≡◌, suc, ◌+◌, ◌-◌, ◌*◌, [], ◌∷◌, ◌++◌, refl, sym, ap, ◌∙◌, arith}
use Rattle.frag_code.specs.declared.piece.Piece.TheVariants as piece
use Rattle.frag_plan.specs.Plan.{fragment}
use Rattle.lower_core.specs.Data.{match_plan}
use Rattle.lower_core.specs.Tests.{tested, all_tests}
use Rattle.lower_core.proofs.TestRows.{three_more, tests_row}
use Rattle.lower_core.proofs.data.matched.Goals as goal

pub returns : goal.returns
returns c =
    let args = c.args.args.now in
    let last = c.args.variants - 2 in
    let enough = c.if-variants-lt2.false in
    let many : suc (suc last) ≡ c.args.variants = omega (arith, enough) in
    let tests = c.in_ok-push_tests.ensures ∙ ap (λ ps. ps ++ all_tests args last) c.new-frag.ensures in
    three_more c.push_tests.new.frag c.push-2.new.self c.push-3.new.self c.push-4.new.self _ _ _
    (piece.IfNonZero (tested args last) (3 * last + 2)) (piece.Exit last) (piece.Exit (last + 1))
    c.in_ok-push-2.ensures.ok c.in_ok-push-3.ensures.ok c.in_ok-push-4.ensures.ok (ap (λ cell. piece.IfNonZero cell (3 * last + 2)) c.tested.ensures) refl refl
    ∙ ap (λ ps. ps ++ (piece.IfNonZero (tested args last) (3 * last + 2) ∷ piece.Exit last ∷ piece.Exit (last + 1) ∷ [])) tests
    ∙ sym (tests_row args last) ∙ ap (λ n. fragment args (match_plan n)) many
