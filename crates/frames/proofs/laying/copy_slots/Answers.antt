use Rattle.std.proofs.{Common.{◌+◌, ◌∙◌, get_or, arith}, lemmas.List.{drop-set-lt, length-set}}
use Rattle.frames.proofs.LayLaws.{copied_more}
use Rattle.frames.proofs.laying.copy_slots.Goals as goal

pub loop-i-preserved : goal.loop-i-preserved
loop-i-preserved c =
    let v = c.loop-i.invariant in
    let x = get_or c.args.source.now (c.args.at + c.loop-i.i) 0 in
    record {
      long = length-set c.loop-i.slots.items (c.args.into + c.loop-i.i) x ∙ v.long;
      above = drop-set-lt (c.args.into + c.args.size) c.loop-i.slots.items (c.args.into + c.loop-i.i) x (omega arith) ∙ v.above;
      done = copied_more c.args.source.now c.loop-i.slots.items c.args.at c.args.into c.args.size c.loop-i.i (omega (arith, v.long, c.requires.room)) c.requires.inside c.loop-i-test.true v.done;
    }
