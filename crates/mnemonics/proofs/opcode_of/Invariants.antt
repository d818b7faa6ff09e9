use Rattle.std.proofs.Common.{◌≢◌, ℕ, ◌<◌, Some}
use Rattle.mnemonics.specs.Mnemonics.{mnemonic}
use Rattle.mnemonics.proofs.opcode_of.Given as goal

abbrev pub invariant-loop-number : goal.invariant-loop-number
invariant-loop-number l = (k : ℕ) → k < l.number → mnemonic k ≢ Some l.name
