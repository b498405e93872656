use Rattle.std.proofs.Common.{◌++◌, length, sym, ap, ◌∙◌, arith}
use Rattle.std.proofs.lemmas.Result.{err_from_is_err_and}
use Rattle.run_file.proofs.FeedLaws.{eight_behind, goes_on, refused_behind}
use Rattle.run_file.proofs.reader.take.Goals as goal

pub take-requires-clause-offset : goal.take-requires-clause-offset
take-requires-clause-offset c =
    omega (arith, eight_behind c.loop-number.unfinished c.loop-number.rest.now c.in-Some.number c.next.new.piece.now c.in-Some.ensures.whole.0 c.in-Some.ensures.whole.1, c.loop-number.invariant.count, c.requires.offset)

pub loop-number-smaller : goal.loop-number-smaller
loop-number-smaller c =
    let fewer = eight_behind c.loop-number.unfinished c.loop-number.rest.now c.in-Some.number c.next.new.piece.now c.in-Some.ensures.whole.0 c.in-Some.ensures.whole.1 in
    let none = ap length c.in-Some.ensures.whole.2 in
    omega arith

pub loop-number-preserved : goal.loop-number-preserved
loop-number-preserved c =
    let fewer = eight_behind c.loop-number.unfinished c.loop-number.rest.now c.in-Some.number c.next.new.piece.now c.in-Some.ensures.whole.0 c.in-Some.ensures.whole.1 in
    let none = ap length c.in-Some.ensures.whole.2 in
    record {
      fits = c.in_ok-take.ensures.fits;
      count = omega (arith, c.in_ok-take.ensures.at, c.loop-number.invariant.count);
      same = λ more. goes_on c.loop-number.progress c.take.new.self c.loop-number.unfinished c.loop-number.rest.now c.in-Some.number c.next.new.piece.now c.next.new.self more c.in-Some.ensures.whole.1 c.in-Some.ensures.whole.2 (c.in_ok-take.ensures.rest (c.next.new.piece.now ++ more)) ∙ c.loop-number.invariant.same more;
      room = λ states. c.in_ok-take.ensures.room (c.loop-number.invariant.room states);
    }

pub returns-in_err-take-clause-refusal : goal.returns-in_err-take-clause-refusal
returns-in_err-take-clause-refusal c =
    let p = err_from_is_err_and c.from_residual.result c.from_residual.ensures.1 in
    rw (p.1, p.2) (λ other.
    let refused = c.in_err-take.ensures.refusal other in (
      refused.0,
      λ more. sym (c.loop-number.invariant.same more)
          ∙ refused_behind c.loop-number.progress c.loop-number.unfinished c.loop-number.rest.now c.in-Some.number c.next.new.piece.now more c.in_err-take.field-0.0 c.in-Some.ensures.whole.1 refused.1,
    ))
