use Rattle.std.proofs.Common.{subst, sym}
use Rattle.jvm_types.specs.ProgramInvariant.{IsProgram}
use Rattle.checked_program.proofs.checked.Checked.reach.Goals as goal

pub reach-requires-clause-program : goal.reach-requires-clause-program
reach-requires-clause-program c = subst IsProgram (sym c.program.ensures.program) c.program.ensures.marked.checked.program
