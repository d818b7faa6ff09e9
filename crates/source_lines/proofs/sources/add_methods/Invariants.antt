use Rattle.std.proofs.Common.{◌≡◌, ◌++◌, drop, map}
use Rattle.source_lines.specs.Sources.{method_lines}
use Rattle.source_lines.proofs.sources.add_methods.Given as goal

abbrev pub invariant-loop-member : goal.invariant-loop-member
invariant-loop-member l = l.methods ++ map (method_lines l.file l.pool) (drop l.member-index l.members) ≡ l.fn.methods ++ map (method_lines l.file l.pool) l.members
