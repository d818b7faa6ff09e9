-- How an event of a thread went, by the phase that it leaves.
use Rattle.machine_types.specs.declared.phase.Phase.{Phase}
use Rattle.machine_types.specs.declared.phase.Phase.TheVariants as phases
use Rattle.instr_steps.specs.declared.did.Did.{Did}
use Rattle.instr_steps.specs.declared.did.Did.TheVariants.{Ran, Threw, Ending}

abbrev pub did_in : Phase → Did
did_in (phases.Throw x class) = Threw class
did_in (phases.Ending e) = Ending e
did_in phase = Ran
