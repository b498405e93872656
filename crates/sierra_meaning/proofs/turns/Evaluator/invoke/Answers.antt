use Rattle.std.proofs.Common.{◌<◌, ◌∷◌, [], ◌++◌, rules, length, map, refl, ap, arith}
use Rattle.std.proofs.lemmas.Result.{on_ok_weaker}
use Rattle.sierra_meaning.specs.Acts.{callee_of, begins_at}
use Rattle.sierra_meaning.specs.Turns.{place_of, caller_of}
use Rattle.sierra_meaning.proofs.Places.{invoke_can_take, position_below, sig_below, sig_is, need_below, invokes_by, turns_to, both_ok}
use Rattle.sierra_meaning.proofs.Turning.{no_callee}
use Rattle.sierra_meaning.proofs.turns.Evaluator.invoke.Goals as goal

pub take_values-requires-clause-held : goal.take_values-requires-clause-held
take_values-requires-clause-held c =
    invoke_can_take c.args.self.now.accepted.now c.args.self.now.positions.items c.requires.ready (place_of c.args.run.now) c.requires.here.0 c.args.args.now c.args.branches.now c.requires.stands c.requires.here.1

pub index-requires : goal.index-requires
index-requires c =
    let within : c.args.run.now.at < length c.args.self.now.positions.items =
    position_below c.args.self.now.accepted.now c.args.self.now.positions.items c.requires.ready (place_of c.args.run.now) c.requires.here.0 c.args.args.now c.args.branches.now c.requires.stands c.requires.here.1 in
    let ok = c.args.self.now.positions.ok in
    omega arith

pub bounds-sigs-index : goal.bounds-sigs-index
bounds-sigs-index c =
    sig_below c.args.self.now.accepted.now c.args.self.now.positions.items c.requires.ready (place_of c.args.run.now) c.requires.here.0 c.args.args.now c.args.branches.now c.requires.stands c.requires.here.1
    c.sigs.result.now c.index.result.now c.sigs.ensures c.index.ensures

pub offset_bounds-sigs-index : goal.offset_bounds-sigs-index
offset_bounds-sigs-index c =
    let within : c.index.result.now < length c.sigs.result.now =
    sig_below c.args.self.now.accepted.now c.args.self.now.positions.items c.requires.ready (place_of c.args.run.now) c.requires.here.0 c.args.args.now c.args.branches.now c.requires.stands c.requires.here.1
    c.sigs.result.now c.index.result.now c.sigs.ensures c.index.ensures in
    search rules

pub call-requires-clause-can : goal.call-requires-clause-can
call-requires-clause-can c =
    let same = sig_is c.args.self.now.accepted.now c.args.self.now.positions.items c.requires.ready (place_of c.args.run.now) c.requires.here.0 c.args.args.now c.args.branches.now c.requires.stands c.requires.here.1
    c.sigs.result.now c.index.result.now c.index-sigs-index.result c.sigs.ensures c.index.ensures c.index-sigs-index.is in
    let is = invokes_by c.args.self.now.accepted.now c.args.self.now.positions.items c.requires.ready (place_of c.args.run.now) c.requires.here.0 c.args.args.now c.args.branches.now c.requires.stands c.requires.here.1
    c.take_values.new.values.items c.take_values.new.env c.index-sigs-index.result c.in_ok-take_values.ensures same in
    is.calls c.in-FunctionCall.callee (ap callee_of c.in-FunctionCall.is)

pub go-requires : goal.go-requires
go-requires c =
    let same = sig_is c.args.self.now.accepted.now c.args.self.now.positions.items c.requires.ready (place_of c.args.run.now) c.requires.here.0 c.args.args.now c.args.branches.now c.requires.stands c.requires.here.1
    c.sigs.result.now c.index.result.now c.index-sigs-index.result c.sigs.ensures c.index.ensures c.index-sigs-index.is in
    let is = invokes_by c.args.self.now.accepted.now c.args.self.now.positions.items c.requires.ready (place_of c.args.run.now) c.requires.here.0 c.args.args.now c.args.branches.now c.requires.stands c.requires.here.1
    c.take_values.new.values.items c.take_values.new.env c.index-sigs-index.result c.in_ok-take_values.ensures same in
    record {
      can = is.goes (no_callee c.index-sigs-index.result.libfunc c.in_default.not-FunctionCall);
      few = c.requires.few;
      inside = need_below c.args.self.now.accepted.now c.args.self.now.positions.items c.requires.ready (place_of c.args.run.now) c.requires.stands;
    }

pub returns-in-FunctionCall-clause-turns : goal.returns-in-FunctionCall-clause-turns
returns-in-FunctionCall-clause-turns c =
    let a = c.args.self.now.accepted.now in
    let same = sig_is a c.args.self.now.positions.items c.requires.ready (place_of c.args.run.now) c.requires.here.0 c.args.args.now c.args.branches.now c.requires.stands c.requires.here.1
    c.sigs.result.now c.index.result.now c.index-sigs-index.result c.sigs.ensures c.index.ensures c.index-sigs-index.is in
    let is = invokes_by a c.args.self.now.positions.items c.requires.ready (place_of c.args.run.now) c.requires.here.0 c.args.args.now c.args.branches.now c.requires.stands c.requires.here.1
    c.take_values.new.values.items c.take_values.new.env c.index-sigs-index.result c.in_ok-take_values.ensures same in
    on_ok_weaker c.call.result
    (λ d. turns_to a c.args.self.now.positions.items c.requires.ready (place_of c.args.run.now) (place_of c.call.new.run) (begins_at a c.in-FunctionCall.callee) c.call.new.run.env
    (map caller_of c.args.run.now.callers.items ++ record { rest = c.take_values.new.env; names = d.names; next = d.next } ∷ []) d.begins refl d.waits
    (is.called c.in-FunctionCall.callee c.call.new.run.env d.names d.next (ap callee_of c.in-FunctionCall.is) d.calls))
    c.call.ensures.called

pub returns-in_default : goal.returns-in_default
returns-in_default c =
    let a = c.args.self.now.accepted.now in
    let same = sig_is a c.args.self.now.positions.items c.requires.ready (place_of c.args.run.now) c.requires.here.0 c.args.args.now c.args.branches.now c.requires.stands c.requires.here.1
    c.sigs.result.now c.index.result.now c.index-sigs-index.result c.sigs.ensures c.index.ensures c.index-sigs-index.is in
    let is = invokes_by a c.args.self.now.positions.items c.requires.ready (place_of c.args.run.now) c.requires.here.0 c.args.args.now c.args.branches.now c.requires.stands c.requires.here.1
    c.take_values.new.values.items c.take_values.new.env c.index-sigs-index.result c.in_ok-take_values.ensures same in
    record {
      turns =
          both_ok c.go.result
          (λ d kept. turns_to a c.args.self.now.positions.items c.requires.ready (place_of c.args.run.now) (place_of c.go.new.run) c.go.new.run.at c.go.new.run.env (map caller_of c.args.run.now.callers.items) refl refl (ap (map caller_of) kept)
          (is.went d.cost c.go.new.run.at c.go.new.run.env (no_callee c.index-sigs-index.result.libfunc c.in_default.not-FunctionCall) d.goes))
          c.go.ensures.went c.go.ensures.callers;
      emptied = c.go.ensures.emptied;
    }
