use Rattle.std.{proofs.Common.{◌≡◌, map}, specs.List.range_with_len}
use Rattle.machine_types.specs.PlainState.{plain_start_thread}
use Rattle.plain_threads.proofs.threads.Threads.start.Given as goal

abbrev pub invariant-loop-number : goal.invariant-loop-number
invariant-loop-number l = l.threads.items ≡ map (plain_start_thread l.p.program) (range_with_len 0 l.number)
