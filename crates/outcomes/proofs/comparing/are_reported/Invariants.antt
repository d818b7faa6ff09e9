use Rattle.std.proofs.Common.{◌≡◌, ◌<◌, ℕ, Some, slice_get}
use Rattle.machine_types.specs.PlainState.{Printed}
use Rattle.outcomes.specs.Comes.{IsReported}
use Rattle.outcomes.proofs.comparing.are_reported.Given as goal

-- each print so far is reported
abbrev pub invariant-loop-i : goal.invariant-loop-i
invariant-loop-i l = (j : ℕ) (x : Printed) → j < l.i → slice_get l.prints j ≡ Some x → IsReported l.o j x
