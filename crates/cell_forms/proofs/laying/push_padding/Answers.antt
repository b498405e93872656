use Rattle.std.proofs.Common.{◌++◌, replicate, arith}
use Rattle.cell_forms.proofs.LaidSteps.{padded_more}
use Rattle.cell_forms.proofs.laying.push_padding.Goals as goal

pub loop-preserved : goal.loop-preserved
loop-preserved c =
    padded_more c.loop.words.items c.push_word.new.words.items c.from.result c.loop.counter c.args.count (c.args.words.now.items ++ replicate c.args.count 0) (omega arith) c.from.ensures c.in_ok-push_word.ensures c.loop.invariant
