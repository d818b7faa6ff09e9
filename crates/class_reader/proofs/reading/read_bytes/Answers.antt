use Rattle.std.proofs.Common.{arith}
use Rattle.class_reader.proofs.Refusals.{is_spelled, is_only, none_spelled, is_first, is_inside, offset_fits, is_faultless}
use Rattle.class_reader.proofs.reading.read_bytes.Goals as goal

pub overflow_sub-result : goal.overflow_sub-result
overflow_sub-result c = is_inside c.args.bytes.now c.in-Err-At.rule c.in-Err-At.left (λ i. omega (arith, c.type_inv.bytes i)) (rw c.in-Err-At.field-0-is at c.in-Err-At.ensures)

pub overflow_cast-result : goal.overflow_cast-result
overflow_cast-result c = omega (arith, offset_fits c.args.bytes.now c.in-Err-At.rule c.in-Err-At.left (rw c.in-Err-At.field-0-is at c.in-Err-At.ensures))

pub returns-in-Ok-clause-ok : goal.returns-in-Ok-clause-ok
returns-in-Ok-clause-ok c = is_spelled c.args.bytes.now c.in-Ok.class (λ i. omega (arith, c.type_inv.bytes i)) c.in-Ok.ensures

pub returns-in-Ok-clause-only : goal.returns-in-Ok-clause-only
returns-in-Ok-clause-only c = is_only c.args.bytes.now c.in-Ok.class c.in-Ok.ensures

pub returns-in-Err-At-clause-spelled : goal.returns-in-Err-At-clause-spelled
returns-in-Err-At-clause-spelled c = none_spelled c.args.bytes.now c.in-Err-At.rule c.in-Err-At.left (rw c.in-Err-At.field-0-is at c.in-Err-At.ensures)

pub returns-in-Err-At-clause-refused : goal.returns-in-Err-At-clause-refused
returns-in-Err-At-clause-refused c = is_first c.args.bytes.now c.in-Err-At.rule c.in-Err-At.left (rw c.in-Err-At.field-0-is at c.in-Err-At.ensures)

pub returns-in-Ok-clause-faultless : goal.returns-in-Ok-clause-faultless
returns-in-Ok-clause-faultless c = is_faultless c.args.bytes.now c.in-Ok.class c.in-Ok.ensures
