use Rattle.std.proofs.Common.{◌≡◌, ◌<◌, ℕ, false}
use Rattle.guard_analysis.specs.BlockReach.{is_led_to}
use Rattle.guard_analysis.proofs.block_reach.first_led_to.Given as goal

abbrev pub invariant-loop-r : goal.invariant-loop-r
invariant-loop-r l = (r : ℕ) → r < l.r → is_led_to l.rules l.ways l.depth r ≡ false
