use Rattle.std.proofs.Common.{sym}
use Rattle.code_verifier.proofs.VisitLaws.{none_mistyped}
use Rattle.code_verifier.proofs.visit.prepare.Goals as goal

pub frame_after-requires : goal.frame_after-requires
frame_after-requires c = rw c.method.ensures.is (none_mistyped c.args.m.now c.args.insn.now c.args.row.now c.args.f.now (sym c.in_default.ensures))
