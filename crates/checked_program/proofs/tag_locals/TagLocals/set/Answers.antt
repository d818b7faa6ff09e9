use Rattle.std.proofs.Common.{◌≡◌, ◌<◌, max, length, sym, ap, ◌∙◌, arith, slice_set}
use Rattle.checked_program.{specs.LockTags.filled_tags, proofs.FilledTags.{length_filled, local_set}}
use Rattle.checked_program.proofs.tag_locals.TagLocals.set.Goals as goal

pub returns-in_ok-fill : goal.returns-in_ok-fill
returns-in_ok-fill c =
    let long : length c.args.self.now ≡ max c.self.inside.count (length c.self.inside.first) = ap length (sym c.self.view_is) ∙ length_filled c.self.inside.count c.self.inside.first in
    let inside : c.args.i < max c.self.inside.count (length c.self.inside.first) = omega (arith, c.if-i-len.true, c.len.ensures, long) in
    ap (λ l. filled_tags c.self.inside.count l) (c.set.ensures ∙ ap (λ l. slice_set l c.args.i c.args.tag) c.in_ok-fill.ensures)
    ∙ local_set c.self.inside.count c.self.inside.first c.args.i c.args.tag inside ∙ ap (λ l. slice_set l c.args.i c.args.tag) c.self.view_is
