use Rattle.std.proofs.Common.{◌≡◌, drop}
use Rattle.code_decode.specs.Marking.{unmarked_branch}
use Rattle.code_decode.proofs.marks.check_branches.Given as goal

abbrev pub invariant-loop-branching : goal.invariant-loop-branching
invariant-loop-branching l = unmarked_branch l.marks (drop l.branching-index l.branchings) ≡ unmarked_branch l.marks l.branchings
