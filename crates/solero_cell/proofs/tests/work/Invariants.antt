use Rattle.solero_cell.specs.Calls.{StaysAtTable}
use Rattle.solero_cell.proofs.tests.work.Given as goal

abbrev pub invariant-loop-i : goal.invariant-loop-i
invariant-loop-i g l = StaysAtTable l.fn.seat l.seat
