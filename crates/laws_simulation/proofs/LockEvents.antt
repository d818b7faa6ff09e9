-- Each event in which a thread enters a monitor, leaves one, or makes a lock fat is a run of the plain machine.
use Rattle.std.proofs.Common.{◌≡◌, ℕ, List, refl, ◌∙◌, subst, slice_index, slice_set}
use Rattle.checked_program.specs.MarkedProgram.{MarkedProgram}
use Rattle.machine_types.specs.{Accesses.{found_by, words_after}, Agreement.{StatusFits, has_wait_bit, frames_shown}, Bounds.PhaseFits, Elision.may_try, Events.{wanted, moved}, HeldMonitors.held_at}
use Rattle.machine_types.specs.{History.acts_of, LockWords.{lock_of, next_count}, Monitors.count_kept, Owners.{Knows, locks_in, references_of}, PlainMemory.Object, StartLaws.StartLiesApart}
use Rattle.machine_types.specs.{Structure.{GrowShows, IsAs, Stands}, Threads.Frame, Typed.{HasClass, IsObject}, Waiting.MayWait, declared.phase.Phase.Phase}
use Rattle.laws_states.{specs.{HeapFacts.objects_by, SiteLaws.{SitesDiffer, SitesLieInside}, Sites.HasObject}, proofs.Phases.IsOldPhase}
use Rattle.laws_simulation.{specs.StepsBeside.{LocksPhase, LockSteps}, proofs.{Assembled.steps_beside, EntryPhases.{entered, acquires_it, took, flagged, took_fat, loaded}}}
use Rattle.laws_simulation.proofs.{ExitPhases.{behind, left_it, drew_it, flat_out, owned, fattened}, Landing.Makes, OwnThread.{IsBusy, Moving, own, under_way}, RunScene.values}
use Rattle.laws_simulation.proofs.{Scene.{Scene, awake, by_scene}, Turns.Turn}
use Rattle.machine_types.specs.declared.phase.Phase.TheVariants as phases
use Rattle.machine_types.specs.declared.phase.Toward.TheVariants as towards

-- ---- what these phases are

locks_busy : (phase : Phase) → LocksPhase phase → IsBusy phase
locks_busy phases.Idle k = k
locks_busy phase k = first_of (assumption, cc)

locks_old : (phase : Phase) → LocksPhase phase → IsOldPhase phase
locks_old (phases.Made a word) k = k
locks_old phase k = tt

locks_awake : (phase : Phase) → LocksPhase phase → (r : ℕ) → MayWait phase r → ⊥
locks_awake (phases.WaitOut m r) k i h = k
locks_awake (phases.WaitLook m r depth) k i h = k
locks_awake phase k i h = h

locks_frames : (phase : Phase) (frames : List Frame) → LocksPhase phase → frames_shown phase frames ≡ frames
locks_frames (phases.Made a word) frames k = absurd k
locks_frames phase frames k = refl

locks_objects : (c : MarkedProgram) (objects : List Object) (phase : Phase) → LocksPhase phase → objects_by c.program phase objects ≡ objects
locks_objects c objects (phases.Made a word) k = absurd k
locks_objects c objects phase k = refl

locks_as : (phase was : Phase) → LocksPhase phase → IsAs phase was → was ≡ phase
locks_as (phases.Ending e) was k h = absurd k
locks_as (phases.Ended e) was k h = absurd k
locks_as phase was k h = h

-- ---- one thread

module _ (turn : Turn) (locking : LocksPhase turn.x.phase) where
  open turn use {was, t, x}

  counts : was t ≡ x.phase
  counts = let st = turn.facts.structure t x turn.here in locks_as x.phase (was t) locking st.is_as

  moving : Moving turn
  moving = record {
    own = own turn;
    busy = locks_busy x.phase locking;
    old = locks_old x.phase locking;
    counts = counts;
    frames = (own turn).fits.frames ∙ locks_frames x.phase x.frames locking;
    under_way = under_way turn (locks_busy x.phase locking);
    awake = awake turn x.phase counts (locks_awake x.phase locking);
  }

-- ---- its phases

module _ (lies : StartLiesApart) (scene : Scene) (k : Moving scene.turn) where
  open scene use {c, objects, s, t, x, q, facts, here, outside}

  abbrev Done : Phase → Type 0
  Done phase = Makes k (acts_of c x phase (found_by s.words (wanted c x phase))) (words_after s.words (wanted c x phase)) (moved c x phase (found_by s.words (wanted c x phase)))

  status_in : (phase : Phase) → x.phase ≡ phase → StatusFits (has_wait_bit (references_of q.objects) s.words t) x phase k.z.status
  status_in phase e = subst (λ (p : Phase). StatusFits (has_wait_bit (references_of q.objects) s.words t) x p k.z.status) e k.fits.status

  stands_in : (phase : Phase) → x.phase ≡ phase → Stands c phase x.frames x.held x.attempt
  stands_in phase e = let st = facts.structure t x here in subst (λ (p : Phase). Stands c p x.frames x.held x.attempt) (k.counts ∙ e) st.stands

  knows_in : (phase : Phase) → x.phase ≡ phase → Knows (locks_in (references_of objects) s.words) t phase
  knows_in phase e = let o = facts.owners.each t x here in subst (λ (p : Phase). Knows (locks_in (references_of objects) s.words) t p) (k.counts ∙ e) o.knows

  bounded_in : (phase : Phase) → x.phase ≡ phase → PhaseFits phase
  bounded_in phase e = let l = facts.threads.lawful t x here in subst (λ (p : Phase). PhaseFits p) e l.bounded.phase

  object_at : (m : ℕ) → IsObject (HasClass objects) m → HasObject objects m
  object_at m h = (h.1.0, h.1.1, h.1.2)

  by_phase : (phase : Phase) → x.phase ≡ phase → LocksPhase phase → Done phase
  by_phase (phases.Enter m n) e l = entered lies scene k m n (may_try c x n) (held_at x.held m) x.attempt refl outside (status_in (phases.Enter m n) e)
  by_phase (phases.Acquire m) e l = acquires_it lies scene k (slice_set s.words m (slice_index s.words m)) m (lock_of (slice_index s.words m)) (loaded lies scene k m) (status_in (phases.Acquire m) e)
  by_phase (phases.Take m seen) e l = let typed = values scene.turn (phases.Take m seen) e in took lies scene k m seen (object_at m typed.0) (status_in (phases.Take m seen) e)
  by_phase (phases.Flag m u) e l = let typed = values scene.turn (phases.Flag m u) e in flagged lies scene k m u (object_at m typed.0) (status_in (phases.Flag m u) e)
  by_phase (phases.TakeFat m r) e l = took_fat lies scene k m r (knows_in (phases.TakeFat m r) e) (status_in (phases.TakeFat m r) e)
  by_phase (phases.Leave m a) e l =
      let st = stands_in (phases.Leave m a) e in
      left_it lies scene k m a (held_at x.held m) x.attempt refl outside (status_in (phases.Leave m a) e)
      (behind lies scene k a st.shown m st.show st.phase_shows (values scene.turn (phases.Leave m a) e))
  by_phase (phases.Grow m toward) e l =
      let st = stands_in (phases.Grow m toward) e in
      let grows : GrowShows c m toward x.frames x.held = st.phase_shows in
      drew_it lies scene k m toward (status_in (phases.Grow m toward) e) grows.flat
  by_phase (phases.FlatOut m a) e l =
      let st = stands_in (phases.FlatOut m a) e in
      let grows : GrowShows c m (towards.Leave a) x.frames x.held = st.phase_shows in
      flat_out lies scene k m (next_count (count_kept (held_at x.held m)) x.cfg.range) a (held_at x.held m) refl grows.flat grows.once (status_in (phases.FlatOut m a) e)
      (behind lies scene k a st.shown m st.show grows.toward_shows (values scene.turn (phases.FlatOut m a) e))
  by_phase (phases.Own m r toward) e l = owned lies scene k m r toward (status_in (phases.Own m r toward) e) (bounded_in (phases.Own m r toward) e)
  by_phase (phases.FatIn m r toward) e l =
      let st = stands_in (phases.FatIn m r toward) e in
      let grows : GrowShows c m toward x.frames x.held = st.phase_shows in
      let knows = knows_in (phases.FatIn m r toward) e in
      fattened lies scene k m r toward (held_at x.held m) refl grows.flat (status_in (phases.FatIn m r toward) e) (bounded_in (phases.FatIn m r toward) e) knows.0
  by_phase phase e l = absurd l

pub lock_steps : StartLiesApart → SitesDiffer → SitesLieInside → LockSteps
lock_steps lies differ inside = by_scene (λ c x. LocksPhase x.phase) differ inside (λ scene locking.
    let d = by_phase lies scene (moving scene.turn locking) scene.x.phase refl locking in
    steps_beside scene.turn d.after (locks_objects scene.c scene.objects scene.x.phase locking) d.run d.beside_it)
