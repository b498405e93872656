use Rattle.std.proofs.Common.{sym, ◌∙◌, arith}
use Rattle.ro_machine.proofs.Lookups.{get_first, get_before}
use Rattle.ro_machine.proofs.memory.word_at.Goals as goal

pub returns-in-0 : goal.returns-in-0
returns-in-0 c = sym (get_first _ _ c.args.at c.in-0.is c.requires.apart c.requires.place)

pub returns-in_default : goal.returns-in_default
returns-in_default c = c.get.ensures ∙ sym (get_before _ _ c.args.at _ c.requires.apart c.requires.place (omega arith) c.index-segments-at.is)
