use Rattle.std.proofs.Common.{arith}
use Rattle.jvm_types.specs.CodeTable.{form_of}
use Rattle.code_decode.proofs.Sweeping.{visited, step_fits, inside}
use Rattle.code_decode.proofs.sweep.visit.Goals as goal

pub overflow_cast-insn : goal.overflow_cast-insn
overflow_cast-insn c = omega (arith, inside c.args.code.now c.behind-rest.result.now c.args.pc c.from.result c.in-Ok.found.size c.from.ensures c.behind-rest.ensures c.requires.within (step_fits c.args.pc (form_of c.args.opcode) c.behind-rest.result.now c.in-Ok.found c.in-Ok.ensures))

pub overflow_add-insn-in-Ok : goal.overflow_add-insn-in-Ok
overflow_add-insn-in-Ok c = omega (arith, inside c.args.code.now c.behind-rest.result.now c.args.pc c.from.result c.in-Ok.found.size c.from.ensures c.behind-rest.ensures c.requires.within (step_fits c.args.pc (form_of c.args.opcode) c.behind-rest.result.now c.in-Ok.found c.in-Ok.ensures))

pub returns-in_ok-push-in-Ok-2 : goal.returns-in_ok-push-in-Ok-2
returns-in_ok-push-in-Ok-2 c =
    visited c.args.code.now c.args.pc c.args.opcode c.in-Ok.found c.args.swept.now (record { insns = c.push_insn.new.insns; branchings = c.push.new.self; starts = c.push-in-Ok.new.self })
    (rw (c.from-in-Ok.ensures, c.from-in-Ok-2.ensures) at c.in_ok-push_insn-in-Ok.ensures) (rw c.from-in-Ok-3.ensures at c.in_ok-push-in-Ok.ensures.ok) c.in_ok-push-in-Ok-2.ensures.ok
    c.requires.here (rw (c.behind-rest.ensures, c.from.ensures) at c.in-Ok.ensures) c.requires.so_far
