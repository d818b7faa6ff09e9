use Rattle.std.proofs.Common.{◌≡◌, true, drop, length-drop, arith, int_lt}
use Rattle.jvm_types.specs.CodeFault.{s4_of}
use Rattle.code_decode.proofs.Switching.{ascend_more}
use Rattle.code_decode.proofs.switches.ascend.Goals as goal

pub loop-preserved : goal.loop-preserved
loop-preserved c =
    let below : int_lt (s4_of c.loop.rest.now) (s4_of (drop 8 c.loop.rest.now)) ≡ true = cc in
    record {
      up = rw c.behind-rest.ensures (ascend_more c.args.count c.loop.counter c.loop.rest.now _ c.loop-test.true below c.loop.invariant.up);
      room = rw c.behind-rest.ensures (omega (arith, length-drop 8 c.loop.rest.now));
    }
