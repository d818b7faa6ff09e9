use Rattle.std.proofs.Common.{◌≡◌, ◌∙◌, Some, None, sym}
use Rattle.guard_analysis.proofs.OwnersFound.{tagging_at}
use Rattle.mark_reasons.proofs.explain.reason_of.Goals as goal

pub unreachable-requires-in_default-get : goal.unreachable-requires-in_default-get
unreachable-requires-in_default-get c =
    let t = tagging_at c.args.p.now c.args.tags.now c.requires.program c.requires.taggings c.args.mark.method c.in-Some.m.now (sym c.in-Some.ensures.value) in
    let bad : None ≡ Some t.0 = c.in_default-get.ensures.value ∙ t.1 in
    cc
