-- Whatever an event makes of a thread, its locking stays structured (JVMS 2.11.10).
use Rattle.std.specs.Prelude.{ℕ}
use Rattle.jvm_types.specs.declared.outcome.End.TheVariants as ends
use Rattle.checked_program.specs.MarkedProgram.{MarkedProgram, IsMarked}
use Rattle.machine_types.specs.Bounds.{IsRooted}
use Rattle.machine_types.specs.Events.{moved}
use Rattle.machine_types.specs.Lawful.{IsTypedWithin}
use Rattle.machine_types.specs.Structure.{IsStructured}
use Rattle.machine_types.specs.Threads.{Thread}
use Rattle.machine_types.specs.declared.phase.Phase.{Phase}
use Rattle.machine_types.specs.declared.phase.Phase.TheVariants as phases

-- ---- the phase that counts after an event

-- where the limit of turns is made: at an entry the lock is still to be looked at
abbrev pub turned_from : (was : Phase) → Phase
turned_from (phases.Enter m tried) = phases.Acquire m
turned_from (phases.Take m count) = phases.Acquire m
turned_from was = was

-- by the one that counted before, and the phase that the thread is in
abbrev pub counted_by : (was now : Phase) → Phase
counted_by was (phases.Ending ends.Steps) = phases.Run
counted_by was (phases.Ending ends.Prints) = phases.Run
counted_by was (phases.Ending ends.Turns) = turned_from was
counted_by was (phases.Ending ends.Records) = was
counted_by was (phases.Ended ends.Steps) = was
counted_by was (phases.Ended ends.Prints) = was
counted_by was (phases.Ended ends.Turns) = was
counted_by was (phases.Ended ends.Records) = was
counted_by was now = now

-- ---- the laws

-- a thread that was in some phase is structured now
abbrev pub StaysStructured : MarkedProgram → (was : Phase) → Thread → Type 0
StaysStructured c was s = IsStructured c (counted_by was s.phase) s

abbrev pub StructureIsKept : Type 0
StructureIsKept =
    (c : MarkedProgram) (was : Phase) (s : Thread) (got : ℕ) → IsMarked c → IsStructured c was s
    → IsTypedWithin c s → IsRooted c.program s → StaysStructured c was (moved c s s.phase got)
