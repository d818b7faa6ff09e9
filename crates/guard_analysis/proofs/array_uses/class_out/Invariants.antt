use Rattle.std.proofs.Common.{◌≡◌, length}
use Rattle.guard_analysis.specs.OwnedFound.{class_out_before}
use Rattle.guard_analysis.proofs.array_uses.class_out.Given as goal

abbrev pub invariant-loop-field : goal.invariant-loop-field
invariant-loop-field l = record {
  long : length l.outs ≡ length l.fn.outs;
  out : l.outs ≡ class_out_before l.p l.class l.fn.outs l.field;
}
