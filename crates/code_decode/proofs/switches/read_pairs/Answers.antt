use Rattle.std.proofs.Common.{length-drop, arith}
use Rattle.code_decode.proofs.Switching.{case_offsets_more, cases_more}
use Rattle.code_decode.proofs.switches.read_pairs.Goals as goal

pub loop-preserved : goal.loop-preserved
loop-preserved c = record {
  to = rw (c.in_ok-push_way.ensures, c.behind.ensures, c.behind-rest.ensures) (case_offsets_more c.args.pc c.args.count c.loop.counter c.loop.to c.loop.rest.now _ c.loop-test.true c.loop.invariant.to);
  cases = rw (c.in_ok-push_case.ensures, c.behind-rest.ensures) (cases_more c.args.pc c.args.count c.loop.counter c.loop.cases c.loop.rest.now _ c.loop-test.true c.loop.invariant.cases);
  room = rw c.behind-rest.ensures (omega (arith, length-drop 8 c.loop.rest.now));
}
