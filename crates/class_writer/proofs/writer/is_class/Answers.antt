use Rattle.std.proofs.Common.{arith}
use Rattle.class_writer.proofs.TestProofs.{class_decided}
use Rattle.class_writer.proofs.writer.is_class.Goals as goal

pub returns-then-bytes-le-MOST_FILE_BYTES : goal.returns-then-bytes-le-MOST_FILE_BYTES
returns-then-bytes-le-MOST_FILE_BYTES c = class_decided c.args.c.now c.args.bytes.now c.keeps_rules.result c.requires.spelled (λ i. omega (arith, c.type_inv.bytes i)) c.requires.written c.if-bytes-le-MOST_FILE_BYTES.true c.keeps_rules.ensures
