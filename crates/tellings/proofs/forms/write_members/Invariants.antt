use Rattle.std.{proofs.Common.{◌≡◌, ◌++◌, drop}}
use Rattle.tellings.specs.Forms.{members_told}
use Rattle.tellings.proofs.forms.write_members.Given as goal

abbrev pub invariant-loop-fact : goal.invariant-loop-fact
invariant-loop-fact l = l.out.items ++ members_told l.first (drop l.fact-index l.facts) ≡ l.fn.out.items ++ members_told l.fn.is_begin l.facts
