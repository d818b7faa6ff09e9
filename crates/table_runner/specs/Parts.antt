-- The begin of a part, place by place: some of them have a thread.
use Rattle.std.specs.Prelude.{◌≡◌, ℕ, zero, suc, Bool, true, Option, Some, None, option_map}
use Rattle.machine_types.specs.Core.{ended_by}
use Rattle.machine_types.specs.Parts.{has_finished}
use Rattle.machine_types.specs.Threads.{Thread}
use Rattle.run_parts.specs.Parts.{own_begun}
use Rattle.table_rule.specs.Views.{View, held_in}

-- a place without a thread holds nobody up
abbrev pub thread_finished : Option Thread → Bool
thread_finished None = true
thread_finished (Some x) = ended_by has_finished x.phase

-- each thread has taken its share of it
abbrev pub AllBegun : (was now : View) → Type 0
AllBegun was now = (t : ℕ) → held_in now t ≡ option_map own_begun (held_in was t)

-- thread 0 alone has
pub record FirstBegun (was now : View) : Type 0 where
  pub first : held_in now 0 ≡ option_map own_begun (held_in was 0)
  pub others : (t : ℕ) → held_in now (suc t) ≡ held_in was (suc t)

abbrev pub BegunBy : (part : ℕ) → (was now : View) → Type 0
BegunBy zero was now = AllBegun was now
BegunBy (suc part) was now = FirstBegun was now

-- by the part of thread 0
abbrev pub IsPartBegun : Option Thread → (was now : View) → Type 0
IsPartBegun None was now = Unit {0}
IsPartBegun (Some x) was now = BegunBy x.part was now
