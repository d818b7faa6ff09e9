-- A thread that goes on: with its next root, with an element, behind the header of a new object, or with an exception.
use Rattle.std.proofs.Common.{◌≡◌, refl}
use Rattle.machine_types.specs.declared.phase.Phase.{Phase}
use Rattle.laws_states.specs.{PartsLaws.EventsKeepParts, SiteLaws.{SitesDiffer, SitesLieInside}}
use Rattle.laws_simulation.{specs.StepsBeside.{GoesOnPhase, OnwardSteps}, proofs.{ElementEvents.element_steps, HeaderEvents.header_steps, Scene.{Scene, by_scene}, StartEvents.start_steps}}
use Rattle.laws_simulation.proofs.{ThrowEvents.throw_steps, Turns.StepsOf}
use Rattle.machine_types.specs.declared.phase.Phase.TheVariants as phases

module _ (scene : Scene) (keeps : EventsKeepParts) where
  onward_by : (phase : Phase) → scene.x.phase ≡ phase → GoesOnPhase phase → StepsOf scene.turn
  onward_by phases.Start e k = start_steps scene keeps e
  onward_by (phases.Element word stored) e k = element_steps scene word stored e
  onward_by (phases.Made a word) e k = header_steps scene a word e
  onward_by (phases.Throw r class) e k = throw_steps scene r class e
  onward_by phase e k = absurd k

pub onward_events : SitesDiffer → SitesLieInside → EventsKeepParts → OnwardSteps
onward_events differ inside keeps = by_scene (λ c x. GoesOnPhase x.phase) differ inside
    (λ scene goes. onward_by scene keeps scene.x.phase refl goes)
