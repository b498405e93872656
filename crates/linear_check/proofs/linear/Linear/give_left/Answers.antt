use Rattle.std.proofs.Common.{Ok, Err, refl}
use Rattle.linear_check.proofs.Parts.{part_gives, answers_err}
use Rattle.linear_check.proofs.linear.Linear.give_left.Goals as goal

pub returns-in_err-check_align : goal.returns-in_err-check_align
returns-in_err-check_align c =
    let gives = part_gives c.args.self.now.program.now c.args.self.now.sigs.now c.args.statement c.args.several c.args.rest c.args.branch.now c.args.types.now c.items.result.now c.args.rest c.add_all.new.held c.target_of-target.result (Err c.in_err-check_align.field-0.0)
    refl c.items.ensures c.target_of-target.ensures c.in_ok-add_all.ensures c.in_err-check_align.ensures in
    answers_err _ _ c.in_err-check_align.field-0.0 gives c.from_residual-in_err-check_align.ensures.1

pub returns : goal.returns
returns c =
    part_gives c.args.self.now.program.now c.args.self.now.sigs.now c.args.statement c.args.several c.args.rest c.args.branch.now c.args.types.now c.items.result.now c.args.rest c.add_all.new.held c.target_of-target.result (Ok c.in_ok-check_align.field-0)
    refl c.items.ensures c.target_of-target.ensures c.in_ok-add_all.ensures c.in_ok-check_align.ensures
