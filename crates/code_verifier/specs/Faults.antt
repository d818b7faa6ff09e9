-- The two faults of a value that is taken or read.
use Rattle.std.specs.Prelude.{Bool, not}
use Rattle.jvm_types.specs.declared.op_row.Want.{Want}
use Rattle.jvm_types.specs.Verifying.{misuses, suits}
use Rattle.jvm_types.specs.declared.typing.VType.{VType}
use Rattle.jvm_types.specs.declared.program.MethodInfo.{MethodInfo}
use Rattle.code_verifier.specs.declared.operands.Fault.{Fault}
use Rattle.code_verifier.specs.declared.operands.Fault.TheVariants.{Misuse, Mistype}

abbrev pub has_fault : MethodInfo → Fault → Want → VType → Bool
has_fault m Misuse want t = misuses m want t
has_fault m Mistype want t = not (suits m want t)
