-- Who waits: which threads have their bit set in the waiting bits of a record (JLS 17.2 in the
-- edition of its time, of wait sets).
use Rattle.std.specs.Prelude.{◌≡◌, ℕ, ◌<◌, Bool, true, List, Some, IsSome, slice_get, slice_index}
use Rattle.jvm_types.specs.Numbers.{has_flag}
use Rattle.machine_types.specs.Core.{Core}
use Rattle.machine_types.specs.Monitors.{bit_of}
use Rattle.machine_types.specs.Threads.{Thread}
use Rattle.machine_types.specs.declared.phase.Phase.{Phase}
use Rattle.machine_types.specs.Words.{bits_word}
use Rattle.jvm_types.specs.declared.fixed_words.TheConstants.{MONITOR_RECORDS}
use Rattle.machine_types.specs.declared.phase.Phase.TheVariants as phases

-- whether the bit of a thread is set
abbrev pub is_bit_set : (words : List ℕ) → (r u : ℕ) → Bool
is_bit_set words r u = has_flag (bit_of u) (slice_index words (bits_word r))

-- a thread's bit is set from WaitBit until somebody notifies it: so at most while it gives the
-- monitor up and looks
abbrev pub MayWait : Phase → (r : ℕ) → Type 0
MayWait (phases.WaitOut m k) r = r ≡ k
MayWait (phases.WaitLook m k depth) r = r ≡ k
MayWait phase r = ⊥

-- only an owner clears bits: so they are as it left them, or found them
abbrev pub MustWait : (words : List ℕ) → (t : ℕ) → Phase → Type 0
MustWait words t (phases.WaitOut m r) = is_bit_set words r t ≡ true
MustWait words t (phases.NotifyOne m r u) = is_bit_set words r u ≡ true
MustWait words t phase = Unit {0}

pub record Waits (words : List ℕ) (t : ℕ) (phase : Phase) : Type 0 where
  pub only : (r : ℕ) → r < MONITOR_RECORDS → is_bit_set words r t ≡ true → MayWait phase r
  pub must : MustWait words t phase

-- by the phase of each thread that counts; and no bit is that of no thread
pub record Waiting (was : ℕ → Phase) (s : Core) : Type 0 where
  pub each : (t : ℕ) (x : Thread) → slice_get s.threads t ≡ Some x → Waits s.words t (was t)
  pub others : (r t : ℕ) → r < MONITOR_RECORDS → is_bit_set s.words r t ≡ true
      → IsSome (slice_get s.threads t)
