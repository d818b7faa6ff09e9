-- Laws of the facts at the start of a run.
use Rattle.std.specs.Prelude.{◌≡◌, ◌<◌, ℕ, Bool, Contains, List, [], length, Some, slice_get}
use Rattle.jvm_types.specs.ProgramInvariant.{IsProgram, words_of}
use Rattle.jvm_types.specs.declared.class_numbers.TheConstants.{CLASS_ITSELF}
use Rattle.jvm_types.specs.declared.program.Program.{Program}
use Rattle.checked_program.specs.MarkedProgram.{MarkedProgram}
use Rattle.machine_types.specs.Core.{start, start_thread}
use Rattle.machine_types.specs.History.{told_start, past_at}
use Rattle.machine_types.specs.ObjectsApart.{LieApart}
use Rattle.machine_types.specs.PlainMemory.{Object, start_objects, start_statics}
use Rattle.machine_types.specs.PlainState.{plain_start}
use Rattle.machine_types.specs.Threads.{Thread}
use Rattle.machine_types.specs.declared.config.Config.{Config}
use Rattle.machine_types.specs.declared.phase.Phase.{Phase}
use Rattle.machine_types.specs.Agreement.{Agrees}
use Rattle.machine_types.specs.Attempts.{OwesNothing}
use Rattle.machine_types.specs.Construction.{AreFrozen, AreOwned, Owning, ThreadKeeps}
use Rattle.machine_types.specs.Facts.{Facts, FactsBeside, IsThread}
use Rattle.machine_types.specs.Owners.{Owners, references_of}
use Rattle.machine_types.specs.Structure.{Structure}
use Rattle.machine_types.specs.Typed.{HasClass, ThreadHolds}
use Rattle.machine_types.specs.UnusedWords.{AreUnused}
use Rattle.machine_types.specs.Waiting.{Waiting}
use Rattle.machine_types.specs.Words.{class_object}
use Rattle.machine_types.specs.Worlds.{World}

-- the phase of each thread, which is the one that counts
abbrev pub phase_at_start : MarkedProgram → Config → (t : ℕ) → Phase
phase_at_start c cfg t = (start_thread c cfg t).phase

abbrev pub StartHasThreads : Type 0
StartHasThreads =
    (c : MarkedProgram) (cfg : Config) (t : ℕ) (x : Thread)
    → slice_get (start c cfg).threads t ≡ Some x → IsThread c cfg t x

abbrev pub StartIsStructured : Type 0
StartIsStructured =
    (c : MarkedProgram) (cfg : Config) → Structure c (phase_at_start c cfg) (start c cfg).threads

abbrev pub StartWaits : Type 0
StartWaits = (c : MarkedProgram) (cfg : Config) → Waiting (phase_at_start c cfg) (start c cfg)

abbrev pub StartIsTyped : Type 0
StartIsTyped =
    (c : MarkedProgram) (cfg : Config) (objects : List Object) (t : ℕ) (x : Thread)
    → slice_get (start c cfg).threads t ≡ Some x → ThreadHolds c (HasClass objects) x

abbrev pub StartKeeps : Type 0
StartKeeps =
    (c : MarkedProgram) (cfg : Config) (frozen : ℕ → Bool) (own : Owning) (w : World) (next t : ℕ)
    (x : Thread) → slice_get (start c cfg).threads t ≡ Some x
    → ThreadKeeps c frozen own w next t (phase_at_start c cfg t) x

abbrev pub StartOwesNothing : Type 0
StartOwesNothing =
    (c : MarkedProgram) (cfg : Config) (t : ℕ) → OwesNothing (past_at (told_start c cfg) t)

-- of the objects that are there
abbrev pub StartOwns : Type 0
StartOwns =
    (c : MarkedProgram) (cfg : Config) → IsProgram c.program
    → Owners (references_of (start_objects c.program)) (phase_at_start c cfg) (start c cfg)

-- the objects and static fields that are there lie apart, where linking has laid out the program
abbrev pub StartLiesApart : Type 0
StartLiesApart =
    (p : Program) → IsProgram p → LieApart p (start_objects p) (start_statics p) (words_of p)

-- the class of a file is one of these objects, of the class of classes and without values
abbrev pub ClassObjectsStand : Type 0
ClassObjectsStand =
    (p : Program) (file : ℕ) → IsProgram p → file < length p.names
    → Contains (start_objects p)
    (record { reference = class_object p file; class = CLASS_ITSELF; values = [] })

-- and the rest of the heap is unused
abbrev pub StartIsUnused : Type 0
StartIsUnused =
    (c : MarkedProgram) (cfg : Config) → IsProgram c.program → AreUnused c.program (start c cfg)

-- so all facts hold at the start, with some frozen classes and the owned array fields
abbrev pub StartHasFacts : Type 0
StartHasFacts =
    (c : MarkedProgram) (cfg : Config) (frozen owned : ℕ → Bool) → IsProgram c.program
    → AreFrozen c frozen → AreOwned c owned → Facts c cfg (told_start c cfg)

-- the plain machine's start agrees, and stands beside them
abbrev pub StartAgrees : Type 0
StartAgrees =
    (c : MarkedProgram) (cfg : Config) → IsProgram c.program
    → Agrees c.program (start c cfg) (plain_start c.program)

abbrev pub StartStandsBeside : Type 0
StartStandsBeside =
    (c : MarkedProgram) (cfg : Config) (frozen owned : ℕ → Bool) → IsProgram c.program
    → AreFrozen c frozen → AreOwned c owned
    → FactsBeside c cfg (told_start c cfg) (plain_start c.program)
