use Rattle.std.proofs.Common.{length-drop, arith}
use Rattle.code_decode.proofs.Switching.{offsets_more, pcs_more}
use Rattle.code_decode.proofs.switches.read_ways.Goals as goal

pub loop-preserved : goal.loop-preserved
loop-preserved c = record {
  to = rw (c.in_ok-push_way.ensures, c.behind-rest.ensures) (offsets_more c.args.pc c.args.count c.loop.counter c.loop.to c.loop.rest.now _ c.loop-test.true c.loop.invariant.to);
  pcs = rw (c.in_ok-push_pc.ensures, c.behind-rest.ensures) (pcs_more c.args.pc c.args.count c.loop.counter c.loop.pcs c.loop.rest.now _ c.loop-test.true c.loop.invariant.pcs);
  room = rw c.behind-rest.ensures (omega (arith, length-drop 4 c.loop.rest.now));
}
