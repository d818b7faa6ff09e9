-- What an event leaves of the word that it accesses, where that is a lock word or stands in a
-- monitor record.
use Rattle.std.specs.Prelude.{◌≡◌, ◌≤◌, ℕ, Some}
use Rattle.jvm_types.specs.declared.limits.TheConstants.{MOST_WORKERS}
use Rattle.checked_program.specs.MarkedProgram.{MarkedProgram}
use Rattle.machine_types.specs.Accesses.{left_by}
use Rattle.machine_types.specs.declared.access.Access.{Access}
use Rattle.machine_types.specs.Bounds.{IsBounded}
use Rattle.machine_types.specs.Events.{wanted}
use Rattle.machine_types.specs.FoundWords.{content_at}
use Rattle.machine_types.specs.Threads.{Thread}
use Rattle.laws_states.specs.SharedWords.{MayStand}

-- what it leaves may stand there, if what it found may
abbrev pub LeftMayStand : Type 0
LeftMayStand = (c : MarkedProgram) (s : Thread) (access : Access) (got : ℕ)
    → s.number ≤ MOST_WORKERS → IsBounded c.program s → wanted c s s.phase ≡ Some access
    → MayStand s.cfg.range (content_at c s s.phase) got
    → MayStand s.cfg.range (content_at c s s.phase) (left_by access got)
