use Rattle.std.proofs.Common.{length, arith}
use Rattle.jvm_types.specs.Members.{is_static}
use Rattle.frames.proofs.CallLaws.{count_fits}
use Rattle.frames.proofs.arguments.argument_count.Goals as goal

pub overflow_add-result : goal.overflow_add-result
overflow_add-result c = omega (arith, count_fits (is_static c.args.m.now.flags) (length c.args.m.now.args) c.requires, c.len-else-is_static.ensures)
