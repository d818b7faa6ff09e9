use Rattle.std.proofs.Common.{◌≡◌, drop}
use Rattle.code_decode.specs.Marking.{all_marked}
use Rattle.code_decode.proofs.marks.all_marked.Given as goal

abbrev pub invariant-loop-to : goal.invariant-loop-to
invariant-loop-to l = all_marked l.marks (drop l.to-index l.targets) ≡ all_marked l.marks l.targets
