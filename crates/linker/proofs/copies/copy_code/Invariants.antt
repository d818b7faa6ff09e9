use Rattle.std.proofs.Common.{◌≡◌, take}
use Rattle.linker.proofs.copies.copy_code.Given as goal

abbrev pub invariant-loop-insns : goal.invariant-loop-insns
invariant-loop-insns l = l.copy ≡ take l.insns-index l.code
