-- An event of a thread outside attempts changes a guarded place only where the thread holds the
-- monitor of the place's object or class, or makes that: in an `<init>` on the object, or in the
-- `<clinit>` of the class, while no worker has begun; and a final field of a frozen class, or a
-- final static one, only in such a method (PLDI 2010 publication, of read-only sections without
-- their lock).
use Rattle.std.specs.Prelude.{◌≡◌, ℕ, Bool, List, Some, None, slice_get}
use Rattle.checked_program.specs.MarkedProgram.{MarkedProgram, IsMarked}
use Rattle.machine_types.specs.Construction.{Construction, Owning}
use Rattle.machine_types.specs.Core.{Core, event}
use Rattle.machine_types.specs.Guards.{KeepsGuards}
use Rattle.machine_types.specs.PlainMemory.{Object}
use Rattle.machine_types.specs.Threads.{Thread}
use Rattle.machine_types.specs.Worlds.{World}
use Rattle.machine_types.specs.declared.config.Config.{Config}
use Rattle.machine_types.specs.declared.phase.Phase.{Phase}
use Rattle.laws_states.specs.RunFacts.{HaveWidth}
use Rattle.laws_states.specs.StateFacts.{StateFacts}

abbrev pub EventsKeepGuards : Type 0
EventsKeepGuards =
    (c : MarkedProgram) (cfg : Config) (objects : List Object) (was : ℕ → Phase) (frozen : ℕ → Bool)
    (own : Owning) (w : World) (s : Core) (t : ℕ) (x : Thread) → IsMarked c → HaveWidth cfg
    → StateFacts c cfg objects was s → Construction c frozen own w was objects s
    → slice_get s.threads t ≡ Some x → x.attempt ≡ None
    → KeepsGuards c own.stores objects s (event c s t) x
