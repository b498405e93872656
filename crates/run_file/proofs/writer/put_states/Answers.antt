use Rattle.std.proofs.Common.{arith}
use Rattle.run_file.proofs.Writing.{state_put, states_fit}
use Rattle.run_file.proofs.writer.put_states.Goals as goal

pub loop-pc-preserved : goal.loop-pc-preserved
loop-pc-preserved c =
    let one = rw c.value.ensures.value at c.in_ok-put.ensures in
    let two = rw c.value-in-loop-pc.ensures.value at c.in_ok-put-2.ensures in
    let three = rw c.value-in-loop-pc-2.ensures.value at c.in_ok-put-3.ensures in
    record {
      put = state_put c.args.bytes.now.items c.loop-pc.bytes.items c.put.new.bytes.items c.put-in-loop-pc.new.bytes.items c.put-in-loop-pc-2.new.bytes.items c.args.states.now c.loop-pc.pc-index c.loop-pc-item.result c.loop-pc-test.true c.loop-pc-item.is c.loop-pc.invariant.put one two three;
      words = states_fit c.args.states.now c.loop-pc.pc-index c.loop-pc-item.result c.loop-pc-test.true c.loop-pc-item.is c.loop-pc.invariant.words (record {
        pc = omega (arith, c.value.ensures.value, c.value.ensures.below);
        ap = omega (arith, c.value-in-loop-pc.ensures.value, c.value-in-loop-pc.ensures.below);
        fp = omega (arith, c.value-in-loop-pc-2.ensures.value, c.value-in-loop-pc-2.ensures.below);
      });
    }
