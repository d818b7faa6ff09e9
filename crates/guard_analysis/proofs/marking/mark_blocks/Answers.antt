use Rattle.std.proofs.Common.{◌≡◌, ◌<◌, ◌≤◌, ◌∙◌, length, ap, arith}
use Rattle.checked_program.specs.TaggedCode.{tagged_by}
use Rattle.guard_analysis.proofs.MarkLists.{blocks_go_on, blocks_end}
use Rattle.guard_analysis.proofs.marking.mark_blocks.Goals as goal

pub loop-i-preserved : goal.loop-i-preserved
loop-i-preserved c =
    let long : c.len-len.result ≡ length c.args.m.now.code = c.len-len.ensures ∙ ap (λ x. length x.code) c.method.ensures.is in
    let inside : c.loop-i.i < length c.args.m.now.code = omega (arith, c.loop-i-test.true, long) in
    record {
      known = c.in_ok-mark_at.ensures.known;
      marks = blocks_go_on c.args.p.now (tagged_by c.args.tags.now) c.args.uses.now c.args.method c.args.m.now.code c.loop-i.i c.args.marks.now c.loop-i.marks c.mark_at.new.marks inside c.loop-i.invariant.marks c.in_ok-mark_at.ensures.marks;
    }

pub returns : goal.returns
returns c =
    let long : c.len-len.result ≡ length c.args.m.now.code = c.len-len.ensures ∙ ap (λ x. length x.code) c.method.ensures.is in
    let all : length c.args.m.now.code ≤ c.loop-i.i = omega (arith, c.loop-i-test.false, long) in
    blocks_end c.args.p.now (tagged_by c.args.tags.now) c.args.uses.now c.args.method c.args.m.now.code c.loop-i.i c.args.marks.now c.loop-i.marks all c.loop-i.invariant.marks
