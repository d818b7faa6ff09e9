use Rattle.std.proofs.{Common.{◌+◌, ◌-◌, ◌∙◌, get_or, arith}, lemmas.List.{drop-set-lt, length-set}}
use Rattle.frames.proofs.LayLaws.{laid_more}
use Rattle.frames.proofs.laying.lay.Goals as goal

pub loop-i-preserved : goal.loop-i-preserved
loop-i-preserved c =
    let v = c.loop-i.invariant in
    let x = get_or c.loop-i.slots (c.args.from + (c.args.count - 1 - c.loop-i.i)) 0 in
    record {
      long = length-set c.loop-i.slots (c.args.to + c.loop-i.i) x ∙ v.long;
      above = drop-set-lt (c.args.to + c.args.limit) c.loop-i.slots (c.args.to + c.loop-i.i) x (omega (arith, c.requires.fits)) ∙ v.above;
      laid = laid_more c.args.slots.now c.loop-i.slots c.args.from c.args.count c.args.to c.args.limit c.loop-i.i c.requires.below c.requires.inside c.requires.fits v.long v.above v.laid c.loop-i-test.true;
    }
