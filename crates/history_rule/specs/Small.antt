-- How far the numbers of a plain machine have come: each step adds little to them, so after few
-- steps they fit 64 bits.
use Rattle.std.specs.Prelude.{◌≤◌, ◌<◌, ◌+◌, ◌*◌, ◌^◌, ℕ}
use Rattle.std.specs.List.{AllByRecursion}
use Rattle.jvm_types.specs.declared.fixed_words.TheConstants.{OBJECT_HEAD_WORDS}
use Rattle.jvm_types.specs.declared.limits.TheConstants.{MOST_HEAP}
use Rattle.machine_types.specs.declared.effect.Effect.{Effect}
use Rattle.machine_types.specs.declared.effect.Effect.TheVariants.{Makes}
use Rattle.machine_types.specs.PlainState.{Plain, Status, Waiting, Woken}

-- the depth at which a thread that waits held its monitor
abbrev pub waiting_depth : Status → ℕ
waiting_depth (Waiting m depth) = depth
waiting_depth (Woken m depth) = depth
waiting_depth status = 0

-- behind so many steps no monitor was entered more often, and the next reference lies behind so
-- many objects at most
pub record IsSmall (steps : ℕ) (q : Plain) : Type 0 where
  pub held : AllByRecursion (λ h. h.depth ≤ steps) q.holdings
  pub waits : AllByRecursion (λ x. waiting_depth x.status ≤ steps) q.threads
  pub next : q.next ≤ MOST_HEAP + (MOST_HEAP + OBJECT_HEAD_WORDS) * steps

-- one step more adds to no number of 64 bits more than it holds
pub record HasRoomForStep (q : Plain) : Type 0 where
  pub held : AllByRecursion (λ h. h.depth < 2 ^ 63) q.holdings
  pub next : q.next < 2 ^ 63

-- an effect makes no object that is larger than the heap
abbrev pub MakesSmall : Effect → Type 0
MakesSmall (Makes word size) = size ≤ MOST_HEAP + OBJECT_HEAD_WORDS
MakesSmall e = Unit {0}
