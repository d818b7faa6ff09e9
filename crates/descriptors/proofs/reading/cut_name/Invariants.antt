use Rattle.std.{proofs.Common.{◌≡◌, false, take, ◌==◌}, specs.List.list_any}
use Rattle.descriptors.proofs.reading.cut_name.Given as goal

abbrev pub invariant-loop-at : goal.invariant-loop-at
invariant-loop-at l = list_any (λ b. b == 59) (take l.at l.text) ≡ false
