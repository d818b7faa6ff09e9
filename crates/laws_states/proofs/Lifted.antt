-- What a thread holds where some objects are there it holds where more are.
use Rattle.std.{proofs.Common.{ℕ, inl, inr, List, [], ◌∷◌, Option, Some, None}, specs.List.Contains}
use Rattle.lists.proofs.ListLaws.{all_weaker}
use Rattle.jvm_types.specs.declared.program.Kind.{Kind}
use Rattle.checked_program.specs.MarkedProgram.{MarkedProgram}
use Rattle.machine_types.specs.{Elision.put_back, Frames.pushed, PlainMemory.Object, Threads.{Frame, Attempt, Thread}}
use Rattle.machine_types.specs.Typed.{Classes, KindHolds, ThrownHolds, FramesThrown, HasElement, HasElementOn, HasElementIn, AfterHolds, TowardHolds, with_object, IsObject, PhaseHolds, AttemptHolds, ThreadHolds}
use Rattle.machine_types.specs.{Words.header_class, declared.phase.{After.After, Phase.Phase, Toward.Toward}}
use Rattle.laws_threads.proofs.Lifts.{frame_up, below_up, frames_up}
use Rattle.laws_states.specs.HeapFacts.{IsWaitOn, HoldsObjects}
use Rattle.jvm_types.specs.declared.program.Kind.TheVariants as kinds
use Rattle.machine_types.specs.declared.phase.After.TheVariants as afters
use Rattle.machine_types.specs.declared.phase.Phase.TheVariants as phases
use Rattle.machine_types.specs.declared.phase.Toward.TheVariants as towards

module _ (is more : Classes) (up : (class v : ℕ) → is class v → more class v) where
  pub kind_up : (kind : Kind) (v : ℕ) → KindHolds is kind v → KindHolds more kind v
  kind_up (kinds.Ref class) v (inl e) = inl e
  kind_up (kinds.Ref class) v (inr k) = inr (k.0, up k.0 v k.1, k.2)
  kind_up kind v h = h

  pub object_up : (m : ℕ) → IsObject is m → IsObject more m
  object_up m k = (k.0, up k.0 m k.1)

  with_up : (class a d v : ℕ) → with_object is class a d v → with_object more class a d v
  with_up class a d v (inl k) = inl (up d v k)
  with_up class a d v (inr k) = inr k

  -- ---- monitors

  wait_on_up : (phase : Phase) → IsWaitOn is phase → IsWaitOn more phase
  wait_on_up (phases.WaitLook m r depth) k = object_up m k
  wait_on_up (phases.Retake m r depth) k = object_up m k
  wait_on_up phase k = tt

  pub monitors_up : (x : Thread) → HoldsObjects is x → HoldsObjects more x
  monitors_up x k = record { held = all_weaker (λ h. IsObject is h.monitor) (λ h. IsObject more h.monitor) (λ h. object_up h.monitor) x.held k.held; waits = wait_on_up x.phase k.waits }

  module _ (c : MarkedProgram) where
    thrown_up : (f : Frame) → ThrownHolds c is f → ThrownHolds c more f
    thrown_up f (inl h) = inl (frame_up is more up c 0 f h)
    thrown_up f (inr w) = inr (w.0, (below_up is more up c w.0 (f ∷ []) (w.1, tt)).0)

    throws_up : (fs : List Frame) → FramesThrown c is fs → FramesThrown c more fs
    throws_up [] h = h
    throws_up (f ∷ fs) h = (thrown_up f h.0, below_up is more up c f.method fs h.1)

    after_up : (a : After) (fs : List Frame) → AfterHolds c is a fs → AfterHolds c more a fs
    after_up (afters.Unwind x class) fs h = (up _ x h.0, throws_up fs h.1)
    after_up a fs h = frames_up is more up c fs h

    toward_up : (toward : Toward) (fs : List Frame) → TowardHolds c is toward fs → TowardHolds c more toward fs
    toward_up (towards.Leave a) fs h = after_up a fs h
    toward_up towards.Wait fs h = frames_up is more up c fs h

    phase_up : (phase : Phase) (fs : List Frame) → PhaseHolds c is phase fs → PhaseHolds c more phase fs
    phase_up (phases.Element word stored) fs h = (h.0, frames_up is more up c fs h.1)
    phase_up (phases.Made a word) fs h = frames_up (with_object is (header_class word) a) (with_object more (header_class word) a) (with_up (header_class word) a) c (pushed a fs) h
    phase_up (phases.Throw x class) fs h = (up _ x h.0, throws_up fs h.1)
    phase_up (phases.Enter m tried) fs h = (object_up m h.0, frames_up is more up c fs h.1)
    phase_up (phases.Acquire m) fs h = (object_up m h.0, frames_up is more up c fs h.1)
    phase_up (phases.Take m count) fs h = (object_up m h.0, frames_up is more up c fs h.1)
    phase_up (phases.Flag m u) fs h = (object_up m h.0, frames_up is more up c fs h.1)
    phase_up (phases.TakeFat m r) fs h = (object_up m h.0, frames_up is more up c fs h.1)
    phase_up (phases.Leave m a) fs h = after_up a fs h
    phase_up (phases.Grow m toward) fs h = toward_up toward fs h
    phase_up (phases.FlatOut m a) fs h = after_up a fs h
    phase_up (phases.Own m r toward) fs h = toward_up toward fs h
    phase_up (phases.FatIn m r toward) fs h = toward_up toward fs h
    phase_up phase fs h = frames_up is more up c fs h

    attempt_up : (fs : List Frame) (attempt : Option Attempt) → AttemptHolds c is fs attempt → AttemptHolds c more fs attempt
    attempt_up fs None h = h
    attempt_up fs (Some a) h = (object_up a.monitor h.0, frames_up is more up c (put_back a fs) h.1)

    pub thread_up : (x : Thread) → ThreadHolds c is x → ThreadHolds c more x
    thread_up x h = record { phase = phase_up x.phase x.frames h.phase; attempt = attempt_up x.frames x.attempt h.attempt }

-- ---- elements

module _ (objects more : List Object) (up : (o : Object) → Contains objects o → Contains more o) where
  has_up : (a i : ℕ) → HasElement objects a i → HasElement more a i
  has_up a i k = record { object = k.object; there = up k.object k.there; is = k.is; below = k.below }

  on_up : (stored : Option ℕ) (stack : List ℕ) → HasElementOn objects stored stack → HasElementOn more stored stack
  on_up None (i ∷ a ∷ s) k = has_up a i k
  on_up (Some v) (w ∷ i ∷ a ∷ s) k = has_up a i k
  on_up stored s k = absurd (assumption)

  pub element_up : (stored : Option ℕ) (fs : List Frame) → HasElementIn objects stored fs → HasElementIn more stored fs
  element_up stored [] k = k
  element_up stored (f ∷ fs) k = on_up stored f.stack k
