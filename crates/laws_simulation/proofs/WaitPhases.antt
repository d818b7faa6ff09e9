-- Each phase of waiting, notifying and ending stands for its steps of the plain machine.
use Rattle.std.proofs.Common.{◌≡◌, [], refl, ◌∙◌}
use Rattle.jvm_types.specs.declared.outcome.End.{End}
use Rattle.machine_types.specs.{Going.with_phase, declared.phase.Phase.Phase}
use Rattle.laws_states.specs.SiteLaws.{SitesLieInside}
use Rattle.laws_simulation.{specs.StepsBeside.{StepsBeside, WaitsPhase, WaitPhaseSteps}, proofs.{Moved.{ends_alike, quiet_beside}, Notifiers.{looked_for, woke_one, woke_all}, OwnThread.own}}
use Rattle.laws_simulation.proofs.Moments.{Moment, same_words, own_status, own_frames, own_roots, own_ends, stepped}
use Rattle.laws_simulation.proofs.{Turns.{Turn, StepsOf, by_turn}, Waiters.{bit_set, given_up, looked, took_back}}
use Rattle.machine_types.specs.declared.phase.Phase.TheVariants as phases

-- ---- a thread that ends, has ended, or has not begun: the plain machine makes no step

module _ {turn : Turn} where
  open turn use {c, objects, s, t, x, q}

  idle_stays : Moment turn phases.Idle → StepsBeside c objects s t x q
  idle_stays k = stepped k s.words x [] q refl refl refl refl refl
      (quiet_beside k s.words x (same_words s.words) (λ a word e. cc) (λ a word e. let f : x.phase ≡ phases.Idle = k.phase_is in cc) refl (λ e. cc) refl turn.outside (own turn).fits (own turn).ended (λ u m d. refl))

  ended_stays : (e : End) → Moment turn (phases.Ended e) → StepsBeside c objects s t x q
  ended_stays e k = stepped k s.words x [] q refl refl refl refl refl
      (quiet_beside k s.words x (same_words s.words) (λ a word f. cc) (λ a word f. let g : x.phase ≡ phases.Ended e = k.phase_is in cc) refl (λ f. k.phase_is ∙ f) refl turn.outside (own turn).fits (own turn).ended (λ u m d. refl))

  ending_ends : (e : End) → Moment turn (phases.Ending e) → StepsBeside c objects s t x q
  ending_ends e k = stepped k s.words (with_phase x (phases.Ended e)) [] q refl refl refl refl refl
      (quiet_beside k s.words (with_phase x (phases.Ended e)) (same_words s.words) (λ a word f. cc) (λ a word f. cc) refl (λ f. cc) refl turn.outside
      (record { frames = own_frames k; status = own_status k; roots = own_roots k })
      (own_ends k ∙ ends_alike c.program x.part (phases.Ending e) (phases.Ended e) refl) (λ u m d. refl))

-- ---- by the phase

module _ (turn : Turn) (inside : SitesLieInside) where
  moment : (phase : Phase) → turn.x.phase ≡ phase → Moment turn phase
  moment phase e = record { phase_is = e }

  by_phase : (phase : Phase) → turn.x.phase ≡ phase → WaitsPhase phase → StepsOf turn
  by_phase (phases.WaitBit m r) e h = bit_set inside m r (moment (phases.WaitBit m r) e)
  by_phase (phases.WaitOut m r) e h = given_up m r (moment (phases.WaitOut m r) e)
  by_phase (phases.WaitLook m r depth) e h = looked m r depth (moment (phases.WaitLook m r depth) e)
  by_phase (phases.Retake m r depth) e h = took_back m r depth (moment (phases.Retake m r depth) e)
  by_phase (phases.NotifyLook m r) e h = looked_for m r (moment (phases.NotifyLook m r) e)
  by_phase (phases.NotifyOne m r u) e h = woke_one inside m r u (moment (phases.NotifyOne m r u) e)
  by_phase (phases.NotifyAll m r) e h = woke_all inside m r (moment (phases.NotifyAll m r) e)
  by_phase (phases.Ending end) e h = ending_ends end (moment (phases.Ending end) e)
  by_phase (phases.Ended end) e h = ended_stays end (moment (phases.Ended end) e)
  by_phase phases.Idle e h = idle_stays (moment phases.Idle e)
  by_phase phase e h = absurd h

pub wait_phase_steps : SitesLieInside → WaitPhaseSteps
wait_phase_steps inside = by_turn (λ c x. WaitsPhase x.phase)
    (λ turn kind. by_phase turn inside turn.x.phase refl kind)
