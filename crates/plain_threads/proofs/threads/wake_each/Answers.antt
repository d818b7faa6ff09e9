use Rattle.std.proofs.Common.{arith}
use Rattle.machine_types.specs.PlainSteps.{wakes}
use Rattle.plain_threads.proofs.ThreadLists.{one_more}
use Rattle.plain_threads.proofs.threads.wake_each.Goals as goal

pub loop-i-preserved : goal.loop-i-preserved
loop-i-preserved c = one_more (wakes c.args.m) c.args.threads.now.items c.loop-i.threads.items c.loop-i.i c.index_mut.result.now c.wake.new.self c.loop-i.invariant (omega (arith, c.loop-i-test.true, c.len-i-end.ensures)) c.index_mut.ensures.value c.wake.ensures
