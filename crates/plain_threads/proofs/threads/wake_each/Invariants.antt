use Rattle.std.proofs.Common.{◌≡◌, ◌++◌, map, take, drop}
use Rattle.machine_types.specs.PlainSteps.{wakes}
use Rattle.plain_threads.proofs.threads.wake_each.Given as goal

abbrev pub invariant-loop-i : goal.invariant-loop-i
invariant-loop-i l = l.threads.items ≡ map (wakes l.m) (take l.i l.fn.threads.items) ++ drop l.i l.fn.threads.items
