use Rattle.std.{proofs.Common.{◌≡◌, ℕ, suc, ◌+◌, ◌-◌, ◌<◌, Bool, false, ◌∷◌, refl, sym, ◌∙◌, ap, arith, find}, specs.List.range_with_len}
use Rattle.jvm_types.specs.Numbers.{has_flag}
use Rattle.machine_types.specs.Monitors.{bit_of}
use Rattle.fat_monitor.proofs.bits.lowest_of.Goals as goal

-- the threads from one on, with that one apart
from_one : (t : ℕ) → t < 9 → range_with_len t (9 - t) ≡ t ∷ range_with_len (t + 1) (9 - (t + 1))
from_one t l = let e : 9 - t ≡ suc (9 - (t + 1)) = omega arith in ap (λ n. range_with_len t n) e

passes : (p : ℕ → Bool) (t : ℕ) → t < 9 → p t ≡ false → find p (range_with_len (t + 1) (9 - (t + 1))) ≡ find p (range_with_len t (9 - t))
passes p t l n = rw (from_one t l, n) refl

pub loop-thread-preserved : goal.loop-thread-preserved
loop-thread-preserved c = passes (λ t. has_flag (bit_of t) c.args.bits) c.loop-thread.thread c.loop-thread-test.true (sym c.has_bit.ensures ∙ c.if-has_bit.false) ∙ c.loop-thread.invariant
