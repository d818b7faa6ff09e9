-- What a thread asks of the words where it takes a lock, leaves a monitor that it holds, makes a
-- lock fat, waits or notifies.
use Rattle.std.specs.Prelude.{nat_lt, Bool, true, false, not, Option, None, if◌then◌else◌}
use Rattle.machine_types.specs.declared.access.Access.{Access}
use Rattle.machine_types.specs.Events.{wanted}
use Rattle.machine_types.specs.Monitors.{Claim, Has, claim}
use Rattle.machine_types.specs.Threads.{Thread}
use Rattle.machine_types.specs.declared.phase.Phase.{Phase}
use Rattle.machine_types.specs.declared.phase.Phase.TheVariants as phases

-- the last exit of a monitor that is held
abbrev pub is_last_exit : Claim → Bool
is_last_exit (Has h) = not (nat_lt 1 h.depth)
is_last_exit claim = false

abbrev pub asks : Thread → Phase → Bool
asks s (phases.Acquire m) = true
asks s (phases.Take m count) = true
asks s (phases.Flag m u) = true
asks s (phases.TakeFat m r) = true
asks s (phases.Leave m a) = is_last_exit (claim s m)
asks s (phases.Grow m toward) = true
asks s (phases.FlatOut m a) = true
asks s (phases.Own m r toward) = true
asks s (phases.FatIn m r toward) = true
asks s (phases.WaitBit m r) = true
asks s (phases.WaitOut m r) = true
asks s (phases.WaitLook m r depth) = true
asks s (phases.Retake m r depth) = true
asks s (phases.NotifyLook m r) = true
asks s (phases.NotifyOne m r u) = true
asks s (phases.NotifyAll m r) = true
asks s phase = false

-- the access is that of the thread's event
abbrev pub asked_in : Thread → Phase → Option Access
asked_in s phase = if asks s phase then wanted s.program s phase else None

abbrev pub asked_access : Thread → Option Access
asked_access s = asked_in s s.phase
