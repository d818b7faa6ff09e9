use Rattle.std.proofs.Common.{length}
use Rattle.source_lines.proofs.SourcesSoFar.{AreAdded}
use Rattle.source_lines.proofs.sources.sources_of.Given as goal

abbrev pub invariant-loop-rest : goal.invariant-loop-rest
invariant-loop-rest l = AreAdded l.files l.rest l.sources

abbrev pub decreases-loop-rest : goal.decreases-loop-rest
decreases-loop-rest l = length l.rest
