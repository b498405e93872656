use Rattle.std.proofs.Common.{◌≡◌, length, map, ap, sym, subst, ◌∙◌, arith}
use Rattle.std.specs.Global.{Vec}
use Rattle.value_trees.specs.Meant.{meant}
use Rattle.value_trees.specs.declared.value.Value.{Value}
use Rattle.sierra_meaning.specs.Turns.{Ends, place_of, caller_of}
use Rattle.sierra_meaning.proofs.HeldValues.{ok_same}
use Rattle.sierra_meaning.proofs.Places.{return_can_take, resumes, return_ends, turns_to, more_callers, no_callers}
use Rattle.sierra_meaning.proofs.turns.Evaluator.end.Goals as goal

pub take_values-requires-clause-held : goal.take_values-requires-clause-held
take_values-requires-clause-held c =
    return_can_take c.args.self.now.accepted.now c.args.self.now.positions.items c.requires.ready (place_of c.args.run.now) c.args.args.now c.requires.stands c.requires.here

pub resume-requires : goal.resume-requires
resume-requires c =
    let r = resumes c.args.self.now.accepted.now c.args.self.now.positions.items c.requires.ready (place_of c.args.run.now) c.args.args.now c.take_values.new.values.items c.take_values.new.env (caller_of c.in-Some.caller)
    (map caller_of c.pop.new.self.items) c.requires.stands c.requires.here c.in_ok-take_values.ensures (more_callers c.args.run.now.callers.items c.pop.new.self.items c.in-Some.caller c.in-Some.ensures.items) in
    (r.more, r.adds)

pub returns-in_ok-resume-in-Some-clause-turns : goal.returns-in_ok-resume-in-Some-clause-turns
returns-in_ok-resume-in-Some-clause-turns c =
    let r = resumes c.args.self.now.accepted.now c.args.self.now.positions.items c.requires.ready (place_of c.args.run.now) c.args.args.now c.take_values.new.values.items c.take_values.new.env (caller_of c.in-Some.caller)
    (map caller_of c.pop.new.self.items) c.requires.stands c.requires.here c.in_ok-take_values.ensures (more_callers c.args.run.now.callers.items c.pop.new.self.items c.in-Some.caller c.in-Some.ensures.items) in
    turns_to c.args.self.now.accepted.now c.args.self.now.positions.items c.requires.ready (place_of c.args.run.now) (place_of c.resume.new.run) c.in-Some.caller.next r.more (map caller_of c.pop.new.self.items)
    c.in_ok-resume-in-Some.ensures.at (ok_same c.resume.new.run.env r.more (sym c.in_ok-resume-in-Some.ensures.added ∙ r.adds)) (ap (map caller_of) c.in_ok-resume-in-Some.ensures.callers) r.turns

pub returns-in-None-clause-turns : goal.returns-in-None-clause-turns
returns-in-None-clause-turns c =
    let callers = c.args.run.now.callers.items in
    let cases = c.in-None.ensures.cases in
    let none : length callers ≡ 0 = omega arith in
    subst (λ (v : Vec Value). Ends c.args.self.now.accepted.now (place_of c.args.run.now) (map meant v.items)) (sym c.replace.ensures.value)
    (return_ends c.args.self.now.accepted.now c.args.self.now.positions.items c.requires.ready (place_of c.args.run.now) c.args.args.now c.take_values.new.values.items c.take_values.new.env c.requires.stands c.requires.here
    c.in_ok-take_values.ensures (no_callers callers none))
