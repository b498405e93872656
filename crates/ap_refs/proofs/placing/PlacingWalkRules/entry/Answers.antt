use Rattle.std.proofs.Common.{◌<◌, length, sym, subst, ◌∙◌, arith}
use Rattle.std.specs.List.{All}
use Rattle.libfunc_registry.specs.Wanted.{IsBelow}
use Rattle.ap_refs.proofs.Entries.{entries_length, entry_is, params_below}
use Rattle.ap_refs.proofs.placing.PlacingWalkRules.entry.Goals as goal

pub function-declared-requires : goal.function-declared-requires
function-declared-requires c = omega (arith, c.requires, entries_length c.args.self.now.types.now c.args.self.now.program.now.functions 0)

pub beginning-requires : goal.beginning-requires
beginning-requires c = subst (All (IsBelow c.args.self.now.types.now)) (sym c.params_of.ensures) (params_below c.args.self.now.types.now c.len-types.ensures.kept c.args.function)

pub returns : goal.returns
returns c =
    entry_is c.args.self.now.types.now c.args.self.now.program.now.functions c.args.function c.function-declared.result.now c.items.result.now c.params_of.result.now c.in_ok-stored.stored
    c.function-declared.ensures c.items.ensures c.params_of.ensures (c.in_ok-stored.ensures ∙ c.in_ok-place.ensures)
