use Rattle.std.proofs.Common.{◌≡◌, take, drop}
use Rattle.monitor_tags.proofs.tag_stacks.top_of.Given as goal

abbrev pub invariant-loop-place : goal.invariant-loop-place
invariant-loop-place l = l.top ≡ drop l.place (take l.count l.stack)
