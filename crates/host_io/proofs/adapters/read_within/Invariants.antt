use Rattle.std.{proofs.Common.{◌-◌, ◌≤◌, length}, specs.Io.KnownBytes.Consumes}
use Rattle.host_io.proofs.adapters.read_within.Given as goal

-- the content is what the reader has given, and no longer than the limit
abbrev pub invariant-loop-content : goal.invariant-loop-content
invariant-loop-content g l = record {
  within : length l.content ≤ l.limit;
  given : Consumes (g.F.Read.remaining l.fn.file) (g.F.Read.remaining l.file) l.content;
}

abbrev pub decreases-loop-content : goal.decreases-loop-content
decreases-loop-content g l = l.limit - length l.content
