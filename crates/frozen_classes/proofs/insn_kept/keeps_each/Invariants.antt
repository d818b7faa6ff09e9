use Rattle.std.proofs.Common.{◌≡◌, slice_get}
use Rattle.frozen_classes.specs.KeptThis.{all_before, keeps_at}
use Rattle.frozen_classes.proofs.insn_kept.keeps_each.Given as goal

abbrev pub invariant-loop-i : goal.invariant-loop-i
invariant-loop-i l = l.keeps ≡ all_before (λ i. keeps_at l.p l.m l.t.frames (slice_get l.m.code i) (slice_get l.m.targets i) (slice_get l.t.frames i)) l.i
