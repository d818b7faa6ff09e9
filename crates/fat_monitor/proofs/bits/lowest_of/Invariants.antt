use Rattle.std.{proofs.Common.{◌≡◌, ◌-◌, find}, specs.List.range_with_len}
use Rattle.jvm_types.specs.Numbers.{has_flag}
use Rattle.machine_types.specs.Monitors.{bit_of}
use Rattle.fat_monitor.proofs.bits.lowest_of.Given as goal

abbrev pub invariant-loop-thread : goal.invariant-loop-thread
invariant-loop-thread l = find (λ t. has_flag (bit_of t) l.bits) (range_with_len l.thread (9 - l.thread)) ≡ find (λ t. has_flag (bit_of t) l.bits) (range_with_len 0 9)
