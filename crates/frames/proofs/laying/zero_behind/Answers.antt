use Rattle.std.proofs.{Common.{◌+◌, ◌∙◌, take, drop, arith}, lemmas.List.{drop-set-lt, length-set}}
use Rattle.frames.proofs.LayLaws.{laid_zero}
use Rattle.frames.proofs.laying.zero_behind.Goals as goal

pub loop-i-preserved : goal.loop-i-preserved
loop-i-preserved c =
    let v = c.loop-i.invariant in
    record {
      long = length-set c.loop-i.slots (c.args.to + c.loop-i.i) 0 ∙ v.long;
      above = drop-set-lt (c.args.to + c.args.limit) c.loop-i.slots (c.args.to + c.loop-i.i) 0 (omega arith) ∙ v.above;
      laid = laid_zero c.args.slots.now c.loop-i.slots (take c.args.first (drop c.args.to c.args.slots.now)) c.args.first c.args.to c.args.limit c.loop-i.i
          c.requires.inside v.long (omega (arith, c.loop-i.auto.i)) c.loop-i-test.true v.laid;
    }
