use Rattle.std.proofs.Common.{sym, ◌∙◌}
use Rattle.jvm_types.specs.CodeTable.{form_of}
use Rattle.code_decode.proofs.PlainSteps.{plain_step}
use Rattle.code_decode.proofs.opcodes.step.Goals as goal

pub returns-in-Some : goal.returns-in-Some
returns-in-Some c = rw c.plain-in-Some.ensures (plain_step c.args.pc (form_of c.args.opcode) c.in-Some.op c.args.rest.now (sym c.plain.ensures ∙ c.in-Some.is))
