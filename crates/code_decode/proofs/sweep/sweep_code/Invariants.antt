use Rattle.code_decode.specs.Decoding.{Swept}
use Rattle.code_decode.proofs.sweep.sweep_code.Given as goal

abbrev pub invariant-loop-pc : goal.invariant-loop-pc
invariant-loop-pc l = Swept l.code l.pc l.skip l.swept
