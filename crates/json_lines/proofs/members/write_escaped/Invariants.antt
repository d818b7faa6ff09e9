use Rattle.std.proofs.Common.{◌≡◌, ◌++◌, drop}
use Rattle.json_lines.specs.Json.{escaped}
use Rattle.json_lines.proofs.members.write_escaped.Given as goal

abbrev pub invariant-loop-i : goal.invariant-loop-i
invariant-loop-i l = l.out.items ++ escaped l.skip (drop l.i l.text) ≡ l.fn.out.items ++ escaped 0 l.text
