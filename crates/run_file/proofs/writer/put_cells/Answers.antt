use Rattle.run_file.proofs.Writing.{cell_put}
use Rattle.run_file.proofs.writer.put_cells.Goals as goal

pub loop-address-preserved : goal.loop-address-preserved
loop-address-preserved c =
    let one = rw c.value.ensures.value at c.in_ok-put.ensures in
    let two = rw c.value-in-loop-address.ensures.value at c.in_ok-put-2.ensures in
    cell_put c.loop-address.bytes.items c.put.new.bytes.items c.put-in-loop-address.new.bytes.items _ c.in-Some.address c.in-Some.word c.loop-address.address-iterator c.next.new.self one two c.in-Some.ensures.steps c.loop-address.invariant
