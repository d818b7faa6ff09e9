use Rattle.std.proofs.Common.{◌≡◌, take}
use Rattle.linker.proofs.copies.copy_insns.Given as goal

abbrev pub invariant-loop-insn : goal.invariant-loop-insn
invariant-loop-insn l = l.copy ≡ take l.insn-index l.insns
