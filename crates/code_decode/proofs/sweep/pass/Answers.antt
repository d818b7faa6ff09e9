use Rattle.code_decode.proofs.Sweeping.{here, passed}
use Rattle.code_decode.proofs.sweep.pass.Goals as goal

pub returns : goal.returns
returns c = rw c.in_ok-push.ensures.ok (passed c.args.code.now c.args.pc c.args.skip _ c.args.swept.now c.requires.some (here c.args.code.now c.args.pc c.requires.within) c.requires.so_far)
