use Rattle.sierra_text.proofs.Appending.{five_pieces}
use Rattle.sierra_text.proofs.printing.push_abilities.Goals as goal

pub returns : goal.returns
returns c =
    five_pieces c.push_str.result _ _ _ _ _ _ _ _ _ _ _ c.in_ok-push_ability.ensures c.in_ok-push_ability-2.ensures c.in_ok-push_ability-3.ensures c.in_ok-push_ability-4.ensures
    c.push_str.ensures.bytes
