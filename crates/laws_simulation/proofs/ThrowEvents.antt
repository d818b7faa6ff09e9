-- The event that goes on with an exception and one frame.
use Rattle.std.proofs.Common.{◌≡◌, ℕ, Bool, List, [], ◌∷◌, Option, Some, None, refl, sym, ap, subst, ◌∙◌, option_map}
use Rattle.jvm_types.specs.{CodeTable.can_throw, declared.{code.Op.Op, outcome.Thrown.Thrown}}
use Rattle.checked_program.specs.MarkedProgram.{MarkedProgram, IsMarked}
use Rattle.machine_types.specs.{Elision.{looks, if_same}, Frames.{Top, top_of, handler_at}, Going.{goes_on, goes_on_if}, Onward.{Onward, handed, dispatched}}
use Rattle.machine_types.specs.{PlainState.{Plain, PlainThread, with_thread}, PlainSteps.step_at, ReadyObjects.class_of, Structure.{TopIs, PhaseShows}, Threads.{Frame, Attempt, Thread}}
use Rattle.machine_types.specs.declared.phase.Phase.{Phase}
use Rattle.laws_threads.proofs.{Landing.stand_top, Standings.top_here}
use Rattle.laws_simulation.{specs.StepsBeside.StepsBeside, proofs.{Assembled.one_step, EventSteps.gone_on, MemoryParts.stays, OwnThread.{IsBusy, own, under_way}}}
use Rattle.laws_simulation.proofs.{RunScene.{frames_are, status_fits}, Scene.{Scene, GoesOn, awake, counts_as, going, steps_in}}
use Rattle.machine_types.specs.PlainState as plain
use Rattle.machine_types.specs.declared.phase.Phase.TheVariants as phases
use Rattle.machine_types.specs.declared.plain.Act.TheVariants as acts

-- frames whose top one stands at an instruction
pub top_found : (c : MarkedProgram) → IsMarked c → (test : Op → Bool) (fs : List Frame) → TopIs c test fs → (at : Top) × (top_of c.program fs ≡ Some at)
top_found c marked test [] k = absurd k
top_found c marked test (f ∷ fs) k = (top_here c f fs k.0, stand_top c marked f fs k.0)

module _ (scene : Scene) (e : ℕ) (class : Thrown)
    (throws : scene.x.phase ≡ phases.Throw e class) where
  open scene use {turn, c, objects, was, s, t, x, q}
  open own turn use {plain as y}

  was_so : was t ≡ phases.Throw e class
  was_so = counts_as turn (phases.Throw e class) throws

  top : (at : Top) × (top_of c.program x.frames ≡ Some at)
  top =
      let k = scene.facts.structure t x scene.here in
      let stands = k.stands in
      let shows : PhaseShows c (phases.Throw e class) x.frames stands.shown x.held x.attempt = subst (λ (z : Phase). PhaseShows c z x.frames stands.shown x.held x.attempt) was_so stands.phase_shows in
      top_found c scene.marked can_throw x.frames shows

  abbrev onward : Onward
  onward = handed c.program e class top.0 (handler_at (class_of class) top.0)

  dispatches : dispatched c.program e class x.frames ≡ Some onward
  dispatches = ap (option_map (λ (at : Top). handed c.program e class at (handler_at (class_of class) at))) top.1

  abbrev now : Thread
  now = goes_on x onward

  abbrev shown : PlainThread
  shown = plain.plain_goes_on y onward

  goes : GoesOn turn now shown
  goes = going turn x y onward refl scene.outside refl
      (awake turn (phases.Throw e class) was_so (λ r h. h)) (under_way turn (subst IsBusy (sym throws) tt))

  pub throw_steps : StepsBeside c objects s t x q
  throw_steps = steps_in turn (phases.Throw e class) throws objects None (acts.Do ∷ []) q now shown refl (ap looks scene.outside) refl
      (ap (λ (a : Option Attempt). if_same x a 0 (goes_on_if x (dispatched c.program e class x.frames))) scene.outside ∙ ap (goes_on_if x) dispatches) (λ h. cc)
      (one_step c.program q (with_thread q t shown) t y acts.Do (own turn).here
      (ap (step_at c.program q t y acts.Do) (status_fits turn (phases.Throw e class) throws)
      ∙ (ap (λ (fs : List Frame). option_map (λ o. with_thread q t (plain.plain_goes_on y o)) (dispatched c.program e class fs)) (frames_are turn (phases.Throw e class) throws)
      ∙ ap (option_map (λ o. with_thread q t (plain.plain_goes_on y o))) dispatches)))
      goes (stays scene s.words now refl (λ a word h. let both : phases.Throw e class ≡ phases.Made a word = sym throws ∙ h in cc) (gone_on x onward).makes)
