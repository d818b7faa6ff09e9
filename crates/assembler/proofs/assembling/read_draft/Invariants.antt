use Rattle.std.proofs.Common.{length}
use Rattle.assembler.specs.Drafted.{AreDrafted}
use Rattle.assembler.proofs.assembling.read_draft.Given as goal

abbrev pub invariant-loop-end : goal.invariant-loop-end
invariant-loop-end l = AreDrafted l.fn.text l.place l.draft l.number l.rest

abbrev pub decreases-loop-end : goal.decreases-loop-end
decreases-loop-end l = length l.rest
