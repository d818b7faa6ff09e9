use Rattle.std.proofs.Common.{◌≤◌, Bool, length, subst, below_more, arith}
use Rattle.checked_program.specs.TaggedCode.{tagged_by}
use Rattle.frozen_classes.{specs.FrozenClasses.{KeepsIfInit, TellsOut}, proofs.ClassFlags.all_kept}
use Rattle.frozen_classes.proofs.class_flags.first_out.Goals as goal

pub loop-u-preserved : goal.loop-u-preserved
loop-u-preserved c = below_more (KeepsIfInit c.args.p.now (tagged_by c.args.tags.now) c.args.class) c.loop-u.u c.loop-u.invariant
    (subst (λ (b : Bool). TellsOut c.args.p.now (tagged_by c.args.tags.now) c.args.class c.loop-u.u b) c.if-branch.false c.in_ok-lets_out.ensures)

pub returns : goal.returns
returns c = all_kept c.args.p.now (tagged_by c.args.tags.now) c.args.class c.loop-u.u
    (let all : length c.args.p.now.methods ≤ c.loop-u.u = omega (arith, c.loop-u-test.false, c.len-u-end.ensures, c.loop-u.auto.u-end) in all) c.loop-u.invariant
