use Rattle.std.proofs.Common.{◌∷◌, [], ◌++◌, map, ap, ◌∙◌}
use Rattle.sierra_types.specs.declared.program.Program.{Program}
use Rattle.held_list.specs.Held.{Held}
use Rattle.value_trees.specs.declared.value.Value.{Value}
use Rattle.sierra_meaning.specs.Turns.{caller_of}
use Rattle.sierra_meaning.proofs.Doing.{read_at, call_begins, calls_so, call_entry}
use Rattle.sierra_meaning.proofs.Places.{more_callers}
use Rattle.sierra_meaning.proofs.turns.Evaluator.call.Goals as goal

pub begin-requires : goal.begin-requires
begin-requires c =
    let a = c.args.self.now.accepted.now in
    let functions = c.items.ensures ∙ ap (λ (p : Program). p.functions) c.program.ensures.program in
    let same = read_at c.items.result.now a.program.functions c.args.callee c.index-items-callee.result c.requires.can.3.callee c.index-items-callee.is functions c.requires.can.3.called in
    rw c.items-2.ensures (call_begins a c.args.callee c.args.run.now.at c.args.run.now.values.items c.args.branches.now c.index-items-callee.result c.requires.can same)

pub returns-clause-called : goal.returns-clause-called
returns-clause-called c =
    let a = c.args.self.now.accepted.now in
    let functions = c.items.ensures ∙ ap (λ (p : Program). p.functions) c.program.ensures.program in
    let same = read_at c.items.result.now a.program.functions c.args.callee c.index-items-callee.result c.requires.can.3.callee c.index-items-callee.is functions c.requires.can.3.called in
    let given = rw c.items-2.ensures at c.in_ok-args.ensures.added in
    let more = more_callers c.push.new.self.items c.args.run.now.callers.items (record { rest = c.replace-rest.result; names = c.items-3.result; next = c.target_of-next.result }) c.in_ok-push.ensures.items in
    record {
      names = c.items-3.result.now;
      next = c.target_of-next.result;
      calls =
          rw c.replace-rest.ensures.after
          (calls_so a c.args.callee c.args.run.now.at c.args.run.now.values.items c.args.branches.now c.index-items-callee.result c.index-branches-0.result c.items-3.result.now c.target_of-next.result c.in_ok-args.args c.requires.can same
          c.index-branches-0.is c.items-3.ensures c.target_of-next.ensures given);
      waits = more ∙ ap (λ (rest : Held Value). map caller_of c.args.run.now.callers.items ++ record { rest = rest; names = c.items-3.result.now; next = c.target_of-next.result } ∷ []) c.replace-rest.ensures.value;
      begins = call_entry a c.args.callee c.args.run.now.at c.args.run.now.values.items c.args.branches.now c.index-items-callee.result c.requires.can same;
    }
