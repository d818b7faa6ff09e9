-- Instructions that write a place, look for an element, or make an object.
use Rattle.std.proofs.Common.{refl}
use Rattle.machine_types.specs.{Frames.effect_at, declared.effect.Effect.{Effect, TheVariants.{Writes, Indexes, Makes}}}
use Rattle.laws_states.specs.SiteLaws.{SitesDiffer, SitesLieInside}
use Rattle.laws_simulation.{specs.StepsBeside.{IsAtEffect, IsOfMemory, MemorySteps}, proofs.{IndexEvents.index_steps, MakeEvents.make_steps, RunScene.Instruction, Scene.{Scene, by_scene}}}
use Rattle.laws_simulation.proofs.{Turns.StepsOf, WriteEvents.write_steps}

pub memory_by : (scene : Scene) (e : Effect) → Instruction scene.turn e → IsOfMemory e
    → StepsOf scene.turn
memory_by scene (Writes v word) i k = write_steps scene v word i
memory_by scene (Indexes array index stored) i k = index_steps scene array index stored i
memory_by scene (Makes word size) i k = make_steps scene word size i
memory_by scene e i k = absurd k

pub memory_events : SitesDiffer → SitesLieInside → MemorySteps
memory_events differ inside = by_scene (IsAtEffect IsOfMemory) differ inside
    (λ scene b. memory_by scene (effect_at scene.c.program b.at)
    (record { runs = b.runs; at = b.at; found = b.found; effect = refl }) b.kind)
