-- Objects under construction stay with the frames that build them, whatever event happens and where
-- a part of the run begins.
use Rattle.std.specs.Prelude.{◌≡◌, ℕ, Bool, List, Some, None, slice_index}
use Rattle.jvm_types.specs.declared.fixed_words.TheConstants.{NEXT_FREE_WORD}
use Rattle.checked_program.specs.MarkedProgram.{MarkedProgram, IsMarked}
use Rattle.machine_types.specs.Construction.{AreFrozen, AreOwned, Construction, Owning}
use Rattle.machine_types.specs.Core.{Core, start, event, next}
use Rattle.machine_types.specs.OwnedPlaces.{Stores, nowhere}
use Rattle.machine_types.specs.PlainMemory.{Object, start_objects}
use Rattle.machine_types.specs.StartLaws.{phase_at_start}
use Rattle.machine_types.specs.Worlds.{World, GoesOn}
use Rattle.machine_types.specs.declared.config.Config.{Config}
use Rattle.machine_types.specs.declared.phase.Phase.{Phase}
use Rattle.laws_threads.specs.PartLaws.{counted_next}
use Rattle.laws_threads.specs.StateLaws.{counted_after}
use Rattle.laws_states.specs.HeapFacts.{objects_after}
use Rattle.laws_states.specs.RunFacts.{HaveWidth}
use Rattle.laws_states.specs.StateFacts.{StateFacts}

-- at the start all objects are finished
abbrev pub no_builders : World
no_builders v = None

abbrev pub StartHasConstruction : Type 0
StartHasConstruction =
    (c : MarkedProgram) (cfg : Config) (frozen owned : ℕ → Bool) → IsMarked c → AreFrozen c frozen
    → AreOwned c owned
    → Construction c frozen (record { owned = owned; stores = nowhere }) no_builders
    (phase_at_start c cfg) (start_objects c.program) (start c cfg)

-- a later world, changed by thread t alone, of which the facts hold after its event; what lower
-- frames of t see is left open
pub record BuildsOn (c : MarkedProgram) (objects : List Object) (was : ℕ → Phase) (s : Core) (t : ℕ)
    (frozen : ℕ → Bool) (own : Owning) (w : World) : Type 0 where
  pub later : World
  pub goes_on : GoesOn w later (slice_index s.words NEXT_FREE_WORD)
      (slice_index (event c s t).words NEXT_FREE_WORD) t 0
  -- an array that was stored stays so
  pub stores : Stores
  pub kept : (v word : ℕ) → own.stores v ≡ Some word → stores v ≡ Some word
  pub keeps : Construction c frozen (record own { stores = stores }) later (counted_after c was s t)
      (objects_after c.program s t objects) (event c s t)

abbrev pub EventsKeepConstruction : Type 0
EventsKeepConstruction =
    (c : MarkedProgram) (cfg : Config) (objects : List Object) (was : ℕ → Phase) (s : Core) (t : ℕ)
    (frozen : ℕ → Bool) (own : Owning) (w : World) → IsMarked c → HaveWidth cfg
    → StateFacts c cfg objects was s → Construction c frozen own w was objects s
    → BuildsOn c objects was s t frozen own w

-- the world stays as it is
abbrev pub NextKeepsConstruction : Type 0
NextKeepsConstruction =
    (c : MarkedProgram) (cfg : Config) (objects : List Object) (was : ℕ → Phase) (s : Core)
    (frozen : ℕ → Bool) (own : Owning) (w : World) → IsMarked c → StateFacts c cfg objects was s
    → Construction c frozen own w was objects s
    → Construction c frozen own w (counted_next c was s) objects (next c s)
