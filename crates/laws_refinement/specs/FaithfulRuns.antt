-- Every run stands for a plain run, where sections run without their lock, too (PLDI 2010
-- publication, of read-only sections without their lock).
use Rattle.std.specs.Prelude.{◌≡◌, false, List}
use Rattle.checked_program.specs.MarkedProgram.{MarkedProgram, IsMarked}
use Rattle.machine_types.specs.Core.{Happening}
use Rattle.machine_types.specs.Faithful.{IsFaithful}
use Rattle.machine_types.specs.MarkLaws.{HasFrozenTest, HasOwnedTest}
use Rattle.machine_types.specs.Settings.{AreSettings}
use Rattle.machine_types.specs.declared.config.Config.{Config}
use Rattle.laws_states.specs.RunFacts.{HaveWidth}
use Rattle.laws_states.specs.PartsLaws.{StartHasNoAttempts, EventsMakeNoAttempts}
use Rattle.laws_states.specs.PartsLaws.{NextMakesNoAttempts}
use Rattle.laws_states.specs.StateLaws.{ProgramsKeepThreads, StartHasState, EventsKeepState}
use Rattle.laws_states.specs.StateLaws.{NextKeepsState}
use Rattle.laws_objects.specs.ConstructionLaws.{StartHasConstruction, EventsKeepConstruction}
use Rattle.laws_objects.specs.ConstructionLaws.{NextKeepsConstruction}
use Rattle.laws_objects.specs.GuardLaws.{EventsKeepGuards}
use Rattle.laws_simulation.specs.StepsBeside.{FrameSteps, MemorySteps, WaitingSteps, OnwardSteps}
use Rattle.laws_simulation.specs.StepsBeside.{LockSteps, WaitPhaseSteps, NextStandsBeside}
use Rattle.laws_simulation.specs.StepsBeside.{StartStandsBesidePlain}
use Rattle.laws_refinement.specs.ElidedSteps.{OthersKeepAttempts, OwnKeepsAttempt}
use Rattle.laws_refinement.specs.ElidedSteps.{AttemptsAreSilent, AttemptsStandBeside}
use Rattle.laws_refinement.specs.ElidedSteps.{SectionsFinish, AttemptsAreCounted}
use Rattle.laws_refinement.specs.ElidedSteps.{FinishesAreCounted, AttemptsPrintNothing}

-- ---- the laws of events that it follows from

pub record AreEventLaws : Type 0 where
  pub frames : FrameSteps
  pub memory : MemorySteps
  pub waiting : WaitingSteps
  pub onward : OnwardSteps
  pub locks : LockSteps
  pub wait_phases : WaitPhaseSteps
  pub next_beside : NextStandsBeside
  pub start_beside : StartStandsBesidePlain
  pub start_state : StartHasState
  pub events_state : EventsKeepState
  pub next_state : NextKeepsState
  pub parts : ProgramsKeepThreads
  pub start_untried : StartHasNoAttempts
  pub events_untried : EventsMakeNoAttempts
  pub next_untried : NextMakesNoAttempts

-- ---- the laws of attempts that it follows from, beside those of events outside them

pub record AreElidedLaws : Type 0 where
  pub start_built : StartHasConstruction
  pub events_built : EventsKeepConstruction
  pub next_built : NextKeepsConstruction
  pub guards : EventsKeepGuards
  pub others_keep : OthersKeepAttempts
  pub own_keeps : OwnKeepsAttempt
  pub silent : AttemptsAreSilent
  pub under_way : AttemptsStandBeside
  pub finish : SectionsFinish
  pub counted : AttemptsAreCounted
  pub finish_counted : FinishesAreCounted
  pub print_nothing : AttemptsPrintNothing
  pub frozen_test : HasFrozenTest
  pub owned_test : HasOwnedTest

-- ---- every run

abbrev pub RunsAreFaithful : Type 0
RunsAreFaithful =
    (c : MarkedProgram) (cfg : Config) (hs : List Happening) → IsMarked c → HaveWidth cfg
    → AreSettings cfg → IsFaithful c cfg hs

abbrev pub RunsFollow : Type 0
RunsFollow = AreEventLaws → AreElidedLaws → RunsAreFaithful

-- ---- every run with its attempts turned off

abbrev pub LockedRunsAreFaithful : Type 0
LockedRunsAreFaithful =
    (c : MarkedProgram) (cfg : Config) (hs : List Happening) → IsMarked c → HaveWidth cfg
    → AreSettings cfg → cfg.elide ≡ false → IsFaithful c cfg hs

abbrev pub LockedRunsFollow : Type 0
LockedRunsFollow = AreEventLaws → LockedRunsAreFaithful
