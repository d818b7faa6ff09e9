-- Each event of a thread in no attempt is of one of the kinds whose steps are known.
use Rattle.std.proofs.Common.{◌≡◌, ◌⊎◌, inl, inr, ℕ, ◌<◌, List, [], ◌∷◌, length, refl, subst, arith}
use Rattle.checked_program.specs.MarkedProgram.{MarkedProgram}
use Rattle.machine_types.specs.{Bounds.FramesFit, Frames.effect_at, Lawful.within, Threads.{Frame, Thread}, Typed.PhaseHolds, declared.{effect.Effect.{Effect, TheVariants.Writes}, phase.Phase.Phase}}
use Rattle.laws_threads.{specs.TopFrames.Begun, proofs.TopStand.frames_stand}
use Rattle.laws_states.specs.{RunFacts.HaveWidth}
use Rattle.laws_simulation.{specs.{StepsBeside.{IsAtEffect, StepsWhere, IsOfFrames, IsOfMemory, IsOfWaiting, GoesOnPhase, LocksPhase, WaitsPhase}}, proofs.Turns.{Turn, StepsOf}}
use Rattle.laws_refinement.specs.FaithfulRuns.{AreEventLaws}
use Rattle.machine_types.specs.declared.phase.Phase.TheVariants as phases

-- ---- the kind of an instruction

kind_of : (e : Effect) → IsOfFrames e ⊎ IsOfMemory e ⊎ IsOfWaiting e
kind_of (Writes v word) = inr (inl tt)
kind_of e = search (inl, inr, tt)

-- and of another phase
kind_in : (phase : Phase) → (phase ≡ phases.Run) ⊎ GoesOnPhase phase ⊎ LocksPhase phase ⊎ WaitsPhase phase
kind_in phases.Run = inl refl
kind_in phase = search (inl, inr, tt)

module _ (laws : AreEventLaws) (turn : Turn) (width : HaveWidth turn.cfg) where
  open turn use {c, cfg, objects, was, s, t, x, q, marked, facts, beside, here, outside}

  by_law : (Holds : MarkedProgram → Thread → Type 0) → StepsWhere Holds → Holds c x → StepsOf turn
  by_law Holds law k = law c cfg objects was s t x q marked width facts beside here outside k

  begins : x.phase ≡ phases.Run → StepsOf turn
  begins e =
      let lawful = facts.threads.lawful t x here in
      let some = (elim x.frames as (λ (frames : List Frame). (roots : List ℕ) → FramesFit phases.Run frames roots → 0 < length frames)
      [ [] ↦ λ roots f. absurd f | f ∷ frames ↦ λ roots k. omega arith ]) x.roots (subst (λ (phase : Phase). FramesFit phase x.frames x.roots) e lawful.rooted.frames) in
      let stands : Begun c.program x.frames = frames_stand c x.frames marked (subst (λ (phase : Phase). PhaseHolds c (within c.program) phase x.frames) e lawful.typed.values.phase) some in
      by_kind stands (kind_of (effect_at c.program stands.at))
    where
      by_effect : (Kind : Effect → Type 0) → StepsWhere (IsAtEffect Kind) → (b : Begun c.program x.frames) → Kind (effect_at c.program b.at) → StepsOf turn
      by_effect Kind law b k = by_law (IsAtEffect Kind) law (record { runs = e; at = b.at; found = b.stands.found; kind = k })

      by_kind : (b : Begun c.program x.frames) → IsOfFrames (effect_at c.program b.at) ⊎ IsOfMemory (effect_at c.program b.at) ⊎ IsOfWaiting (effect_at c.program b.at) → StepsOf turn
      by_kind b (inl k) = by_effect IsOfFrames laws.frames b k
      by_kind b (inr (inl k)) = by_effect IsOfMemory laws.memory b k
      by_kind b (inr (inr k)) = by_effect IsOfWaiting laws.waiting b k

  pub steps_beside : StepsOf turn
  steps_beside = elim (kind_in x.phase) [
    | inl e ↦ begins e
    | inr (inl k) ↦ by_law (λ c x. GoesOnPhase x.phase) laws.onward k
    | inr (inr (inl k)) ↦ by_law (λ c x. LocksPhase x.phase) laws.locks k
    | inr (inr (inr k)) ↦ by_law (λ c x. WaitsPhase x.phase) laws.wait_phases k
  ]
