-- What a phase says of the frames and of what it carries, the phase that counts says too.
use Rattle.std.proofs.Common.{List, subst}
use Rattle.machine_types.specs.{Construction.PhaseKeeps, Structure.{IsAs, CountsTurns}, Threads.Frame, declared.phase.Phase.Phase}
use Rattle.laws_threads.specs.StructureLaws.{counted_by, turned_from}
use Rattle.laws_objects.proofs.Buildings.{Building, PhaseIn}
use Rattle.jvm_types.specs.declared.outcome.End.TheVariants as ends
use Rattle.machine_types.specs.declared.phase.Phase.TheVariants as phases

-- of frames in a world
abbrev pub PhaseFits : Building → List Frame → Phase → Type 0
PhaseFits b fs phase = PhaseIn b phase fs × PhaseKeeps b.w b.next b.t phase

module _ (building : Building) (fs : List Frame) where
  turned_fits : (was : Phase) → CountsTurns was → PhaseFits building fs was → PhaseFits building fs (turned_from was)
  turned_fits (phases.Acquire m) is k = k
  turned_fits (phases.Take m count) is k = (k.0, k.1)
  turned_fits was is k = assumption

  pub counted_fits : (was phase : Phase) → IsAs phase was → PhaseFits building fs was → PhaseFits building fs (counted_by was phase)
  counted_fits was (phases.Ending ends.Turns) is k = turned_fits was is k
  counted_fits was (phases.Ending ends.Records) is k = k
  counted_fits was (phases.Ended ends.Steps) is k = k
  counted_fits was (phases.Ended ends.Prints) is k = k
  counted_fits was (phases.Ended ends.Turns) is k = k
  counted_fits was (phases.Ended ends.Records) is k = k
  counted_fits was phase is k = subst (PhaseFits building fs) is k
