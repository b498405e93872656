use Rattle.std.proofs.Common.{map, ap}
use Rattle.std.specs.Global.{Vec}
use Rattle.libfunc_registry.specs.Fam.{fam_of}
use Rattle.cost_table.specs.Costs.{charge}
use Rattle.value_trees.specs.Meant.{meant}
use Rattle.value_trees.specs.declared.value.Value.{Value}
use Rattle.sierra_meaning.proofs.Doing.{goes_adds, goes_so}
use Rattle.sierra_meaning.proofs.turns.Evaluator.go.Goals as goal

pub add_values-requires : goal.add_values-requires
add_values-requires c =
    goes_adds c.args.self.now.accepted.now c.args.run.now.at c.args.sig.now c.args.branches.now (map meant c.args.run.now.values.items) (map meant c.replace-values.result.items) c.args.run.now.env c.in_ok-taken.taken
    c.in_ok-taken.results.items c.index-branches-taken.result c.items.result.now c.requires.can (ap (λ (v : Vec Value). map meant v.items) c.replace-values.ensures.value) c.in_ok-taken.ensures c.index-branches-taken.is c.items.ensures

pub returns-clause-went : goal.returns-clause-went
returns-clause-went c =
    record {
      cost = charge (fam_of c.args.self.now.accepted.now.types c.args.sig.now.libfunc) c.in_ok-taken.taken;
      goes =
          goes_so c.args.self.now.accepted.now c.args.run.now.at c.args.sig.now c.args.branches.now (map meant c.args.run.now.values.items) (map meant c.replace-values.result.items) c.args.run.now.env c.add_values.new.env c.in_ok-taken.taken
          c.in_ok-taken.results.items c.index-branches-taken.result c.items.result.now c.target_of-run.result c.requires.can (ap (λ (v : Vec Value). map meant v.items) c.replace-values.ensures.value) c.in_ok-taken.ensures c.index-branches-taken.is
          c.items.ensures c.in_ok-add_values.ensures.added c.target_of-run.ensures;
    }
