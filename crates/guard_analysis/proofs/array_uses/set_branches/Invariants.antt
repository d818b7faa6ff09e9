use Rattle.std.proofs.Common.{◌≡◌, drop}
use Rattle.guard_analysis.specs.OwnedFound.{branches_set}
use Rattle.guard_analysis.proofs.array_uses.set_branches.Given as goal

abbrev pub invariant-loop-insn : goal.invariant-loop-insn
invariant-loop-insn l = branches_set l.m.code l.flags (drop l.insn-index l.insn-items) ≡ branches_set l.m.code l.fn.flags l.m.code
