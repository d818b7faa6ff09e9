-- All phases and all instructions occur in worked runs.
use Rattle.std.proofs.Common.{refl}
use Rattle.jvm_types.specs.ClassTree.{is_subclass}
use Rattle.machine_plays.specs.Occurring.{AllPhasesOccur, AllInstructionsOccur, OpcodesAreCounted}

pub all_phases_occur : AllPhasesOccur
unfolding is_subclass
all_phases_occur = refl

pub all_instructions_occur : AllInstructionsOccur
unfolding is_subclass
all_instructions_occur = refl

pub opcodes_are_counted : OpcodesAreCounted
opcodes_are_counted = refl
