use Rattle.std.{proofs.Common.{sym, ap, ◌∙◌, ◌-◌, arith}, specs.Option.option_copied}
use Rattle.jvm_types.proofs.EachAfter.{there_is}
use Rattle.plain_threads.{specs.Roots.is_plain_root, proofs.RootLaws.roots_step}
use Rattle.plain_threads.proofs.roots.add_roots.Goals as goal

pub loop-i-preserved : goal.loop-i-preserved
loop-i-preserved c =
    let here = sym c.get.ensures.value ∙ ap option_copied c.in-Some.is in
    rw (c.in_ok-add_if-in-Some.ensures, c.is_root.ensures)
    (roots_step (is_plain_root c.args.root) c.args.methods.now c.loop-i.i c.in-Some.m.now c.loop-i.numbers c.args.numbers.now c.loop-i-test.true here c.loop-i.invariant)

pub unreachable-requires : goal.unreachable-requires
unreachable-requires c = there_is c.args.methods.now (c.loop-i.i - 1) (omega (arith, c.loop-i-test.true, c.loop-i.auto.i, c.len-i.ensures)) (sym c.get.ensures.value ∙ ap option_copied c.in-None.is)
