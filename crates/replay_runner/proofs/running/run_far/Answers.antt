use Rattle.std.proofs.Common.{◌+◌}
use Rattle.replay_runner.{specs.Running.run_on, proofs.RunAhead.on_again}
use Rattle.replay_runner.proofs.running.run_far.Goals as goal

pub loop-s-init : goal.loop-s-init
loop-s-init c = λ m t h. (0, h)

pub go_far-requires-clause-thread : goal.go_far-requires-clause-thread
go_far-requires-clause-thread c =
    let h = c.requires.thread in
    let was = c.loop-s.invariant h.0 h.1 h.2 in
    (run_on h.0 h.1 was.0, h.1, was.1)

pub loop-s-preserved : goal.loop-s-preserved
loop-s-preserved c = λ m t h.
    let was = c.loop-s.invariant m t h in
    let now = c.go_far.ensures.on (run_on m t was.0) t was.1 in
    (now.0 + was.0, on_again m c.args.p.now t was.0 now.0 c.go_far.new.s c.go_far.new.words now.1)
