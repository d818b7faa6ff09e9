-- What an event stands for, by what the instruction does at which its thread stands.
use Rattle.std.{proofs.Common.{◌≡◌, ◌<◌, ℕ, Option, Some, None, refl, subst, arith}, specs.Option.option_map}
use Rattle.jvm_types.specs.declared.program.Program.{Program}
use Rattle.checked_program.specs.MarkedProgram.{MarkedProgram, IsMarked}
use Rattle.machine_types.specs.{Frames.{Top, effect_at, top_of}, History.run_acts, Lawful.{IsLawful, within}, Threads.Thread, Typed.{FramesHold, PhaseHolds}, declared.effect.Effect.Effect}
use Rattle.machine_types.specs.declared.{effect.Effect.TheVariants.{Notifies, NotifiesAll}, phase.Phase.Phase}
use Rattle.laws_threads.specs.TopFrames.{EffectsAreAllowed, IsAllowed}
use Rattle.event_texts.specs.{Acts.{DoingFits, MonitorFits, doing_acts}, Doings.doing_at}
use Rattle.machine_types.specs.declared.phase.Phase.TheVariants as phases

pub acts_by_doing : (c : MarkedProgram) (s : Thread) (top : Option Top) (got : ℕ) → doing_acts s (option_map (doing_at c.program) top) got ≡ run_acts c s top got
acts_by_doing c s None got = refl
acts_by_doing c s (Some at) got = refl

-- ---- an object that is notified is a word of the heap

monitor_fits : (p : Program) (at : Top) (e : Effect) → p.heap < 4294967296 → IsAllowed p at e → MonitorFits e
monitor_fits p at (Notifies m) h a = omega (arith, h, a.1.1)
monitor_fits p at (NotifiesAll m) h a = omega (arith, h, a.1.1)
monitor_fits p at e h a = first_of (assumption, grind arith)

module _ (all : EffectsAreAllowed) (c : MarkedProgram) (s : Thread) (marked : IsMarked c) (few : c.program.heap < 4294967296) where
  pub doing_fits : IsLawful c s → s.phase ≡ phases.Run → DoingFits (option_map (doing_at c.program) (top_of c.program s.frames))
  doing_fits lawful run = by_top (top_of c.program s.frames) refl
    where
      holds : FramesHold c (within c.program) s.frames
      holds = subst (λ (phase : Phase). PhaseHolds c (within c.program) phase s.frames) run lawful.typed.values.phase

      by_top : (o : Option Top) → top_of c.program s.frames ≡ o → DoingFits (option_map (doing_at c.program) o)
      by_top None e = tt
      by_top (Some at) e = monitor_fits c.program at (effect_at c.program at) few (all c s.frames at marked holds e)
