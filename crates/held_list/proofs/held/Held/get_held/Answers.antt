use Rattle.std.proofs.Common.{sym, ap, ◌∙◌, arith}
use Rattle.held_list.specs.Held.{get}
use Rattle.held_list.proofs.Placing.{at_within, get-at}
use Rattle.held_list.proofs.held.Held.get_held.Goals as goal

pub index-requires : goal.index-requires
index-requires g c = omega (arith, at_within _ _ _ c.index_of.ensures, c.deref.ensures.len)

pub returns : goal.returns
returns g c =
    let at = rw c.deref.ensures.value at c.index_of.ensures in
    ap (get c.args.variable) (sym c.self.view_is) ∙ get-at _ _ _ _ at c.index.ensures
