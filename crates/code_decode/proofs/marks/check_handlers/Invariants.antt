use Rattle.std.proofs.Common.{◌≡◌, drop}
use Rattle.code_decode.specs.Marking.{unmarked_row}
use Rattle.code_decode.proofs.marks.check_handlers.Given as goal

abbrev pub invariant-loop-number : goal.invariant-loop-number
invariant-loop-number l = unmarked_row l.marks l.size l.number (drop l.number l.rows) ≡ unmarked_row l.marks l.size 0 l.rows
