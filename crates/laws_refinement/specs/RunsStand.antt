-- All that holds after every list of events: of the state, of objects under construction and of
-- attempts, with the plain state that the list stands for, and what the next event of each thread
-- changes.
use Rattle.std.specs.Prelude.{◌≡◌, ℕ, ◌+◌, Bool, List, length, Some, None, slice_get}
use Rattle.checked_program.specs.MarkedProgram.{MarkedProgram, IsMarked}
use Rattle.machine_types.specs.Attempts.{Attempts}
use Rattle.machine_types.specs.Construction.{AreFrozen, Construction, Owning}
use Rattle.machine_types.specs.Core.{Happening, core, event, outcome}
use Rattle.machine_types.specs.Counting.{AreCounted}
use Rattle.machine_types.specs.Facts.{FactsBeside}
use Rattle.machine_types.specs.Faithful.{IsSilent, PrintsFit}
use Rattle.machine_types.specs.Guards.{KeepsGuards}
use Rattle.machine_types.specs.History.{Told, told_start, all_told, shadow}
use Rattle.machine_types.specs.PlainMemory.{Object}
use Rattle.machine_types.specs.PlainState.{Plain, plain_start}
use Rattle.machine_types.specs.PlainSteps.{plain_run}
use Rattle.machine_types.specs.Settings.{AreSettings}
use Rattle.machine_types.specs.Threads.{Thread}
use Rattle.machine_types.specs.Worlds.{World}
use Rattle.machine_types.specs.declared.config.Config.{Config}
use Rattle.machine_types.specs.declared.phase.Phase.{Phase}
use Rattle.laws_states.specs.RunFacts.{HaveWidth}
use Rattle.laws_states.specs.StateFacts.{StateFacts}
use Rattle.laws_simulation.specs.StandsBeside.{StandsBeside}
use Rattle.laws_simulation.specs.OutcomeLaws.{WorkersKeepNone}

-- the state after a list of events, with the pasts of its threads
abbrev pub told_after : MarkedProgram → Config → List Happening → Told
told_after c cfg hs = all_told c (told_start c cfg) hs

pub record RunStands (c : MarkedProgram) (cfg : Config) (hs : List Happening) : Type 0 where
  -- the objects whose header is stored
  pub objects : List Object
  -- of each thread the phase that counts
  pub was : ℕ → Phase
  -- which objects are unfinished, and which frame builds each
  pub world : World
  -- which classes are frozen
  pub frozen : ℕ → Bool
  pub frozen_are : AreFrozen c frozen
  -- which fields own arrays, and which arrays were stored there
  pub owning : Owning
  -- threads, words, objects, locks and waiting
  pub facts : StateFacts c cfg objects was (core c cfg hs)
  -- an unfinished object is in no place, in no other thread, and in no frame but the one that
  -- builds it
  pub built : Construction c frozen owning world was objects (core c cfg hs)
  -- each thread has a past, beside the same state
  pub pasts : length (told_after c cfg hs).pasts ≡ c.program.workers + 1
  pub told_is : (told_after c cfg hs).core ≡ core c cfg hs
  -- what is due of an attempt leads from its entry to where its thread is
  pub attempts : Attempts c owning.stores objects world was (told_after c cfg hs)
  -- the plain state that the shadow leads to stands beside
  pub state : Plain
  pub run : plain_run c.program (plain_start c.program) (shadow c cfg hs) ≡ Some state
  pub beside : StandsBeside c.program objects (core c cfg hs) state
  -- so all of it as the laws on attempts ask for it
  pub joined : FactsBeside c cfg (told_after c cfg hs) state
  -- each thread has counted its steps of the plain run, and the prints are those of the plain state
  pub counts : AreCounted c cfg hs
  pub prints : PrintsFit (outcome (core c cfg hs)) state
  -- only thread 0 keeps how an earlier part ended
  pub keep_none : WorkersKeepNone (core c cfg hs).threads
  -- the next event of a thread changes guarded and frozen places as it may outside attempts, and no
  -- word inside one
  pub guards : (t : ℕ) (x : Thread) → slice_get (core c cfg hs).threads t ≡ Some x
      → x.attempt ≡ None
      → KeepsGuards c owning.stores objects (core c cfg hs) (event c (core c cfg hs) t) x
  pub silent : (t : ℕ) → IsSilent c (core c cfg hs) t

abbrev pub RunsStand : Type 0
RunsStand =
    (c : MarkedProgram) (cfg : Config) (hs : List Happening) → IsMarked c → HaveWidth cfg
    → AreSettings cfg → RunStands c cfg hs
