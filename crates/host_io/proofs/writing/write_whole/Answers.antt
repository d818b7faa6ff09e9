use Rattle.std.proofs.{Common.{◌∙◌}, lemmas.List.take_rest}
use Rattle.host_io.proofs.WrittenFronts.{front_more, within_more}
use Rattle.host_io.proofs.writing.write_whole.Goals as goal

pub loop-written-preserved : goal.loop-written-preserved
loop-written-preserved g c =
    let taken = c.in_ok-written.ensures in
    let before = c.loop-written.invariant in
    let behind = take_rest c.args.text.now c.loop-written.written in
    record {
      within = within_more _ _ _ _ behind before.within taken.1;
      calm = taken.2 ∙ before.calm;
      front = front_more _ _ _ _ _ _ _ behind before.front taken.3;
    }
