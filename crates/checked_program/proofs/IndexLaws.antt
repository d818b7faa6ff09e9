-- What the tables of a program rest on: the pcs of its methods ascend, and its classes have few fields.
use Rattle.std.proofs.Common.{arith}
use Rattle.jvm_types.specs.{ProgramInvariant.IsProgram, declared.program.Program.Program}
use Rattle.laws_programs.proofs.CodeOrder.{methods_laid_out}
use Rattle.code_table.proofs.LaidOut.{ascend}
use Rattle.checked_program.{specs.CodeIndex.{AllAscend, FewInstances}, proofs.FewFields.few_fields}

pub all_ascend : (p : Program) → IsProgram p → AllAscend p.methods
all_ascend p is = λ number m at. ascend m (methods_laid_out p number m is at)

pub few_instances : (p : Program) → IsProgram p → FewInstances p.fields
few_instances p is = record { few = λ class. omega (arith, few_fields p class is) }
