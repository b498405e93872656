use Rattle.std.proofs.lemmas.List.Elements.{All-push}
use Rattle.casm_word.specs.Bounds.{IsInstrInField}
use Rattle.casm_word.proofs.code.Code.push.Goals as goal

pub invariant_of-self-2 : goal.invariant_of-self-2
invariant_of-self-2 c = rw c.in_ok-push.ensures.items (All-push IsInstrInField c.self.inside.instrs.items c.args.i c.self.invariant c.requires)
