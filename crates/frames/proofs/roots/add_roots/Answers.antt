use Rattle.std.{proofs.Common.{sym, ap, ◌∙◌}, specs.Option.option_copied}
use Rattle.frames.{specs.RootLists.is_root, proofs.RootLaws.numbers_step}
use Rattle.frames.proofs.roots.add_roots.Goals as goal

pub loop-i-preserved : goal.loop-i-preserved
loop-i-preserved c =
    let here = sym c.get.ensures.value ∙ ap option_copied c.in-Some.is in
    rw (c.in_ok-add_if-in-Some.ensures, c.is_root.ensures)
    (sym (numbers_step (is_root c.args.root) c.loop-i.numbers c.args.methods.now c.loop-i.i c.in-Some.m.now here) ∙ c.loop-i.invariant)
