use Rattle.std.proofs.lemmas.List.Elements.{All-push}
use Rattle.frag_code.specs.Form.{IsPieceInField}
use Rattle.frag_code.proofs.frag.Frag.push.Goals as goal

pub invariant_of-self-2 : goal.invariant_of-self-2
invariant_of-self-2 c = rw c.in_ok-push.ensures.items (All-push IsPieceInField c.self.inside.pieces.items c.args.p c.self.invariant c.requires)
