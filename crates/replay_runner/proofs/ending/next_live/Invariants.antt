use Rattle.std.proofs.Common.{◌≡◌, ◌≤◌, ◌<◌, ℕ, false}
use Rattle.machine_types.specs.Core.{lives}
use Rattle.replay_runner.proofs.ending.next_live.Given as goal

abbrev pub invariant-loop-t : goal.invariant-loop-t
invariant-loop-t l = (u : ℕ) → l.from ≤ u → u < l.t → lives l.machine.core u ≡ false

abbrev pub invariant-loop-t-2 : goal.invariant-loop-t-2
invariant-loop-t-2 l = record {
  none_ahead : (u : ℕ) → l.from ≤ u → lives l.machine.core u ≡ false;
  none_before : (u : ℕ) → l.least ≤ u → u < l.t → lives l.machine.core u ≡ false;
}
