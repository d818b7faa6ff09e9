use Rattle.std.proofs.Common.{ap, ◌∙◌}
use Rattle.checked_program.{specs.LockTags.{filled_tags, without}, proofs.FilledTags.without_filled}
use Rattle.checked_program.proofs.tag_locals.TagLocals.untag.Goals as goal

pub returns : goal.returns
returns c = ap (λ l. filled_tags c.self.inside.count l) c.untag_first.ensures ∙ without_filled c.args.pc c.self.inside.count c.self.inside.first ∙ ap (λ l. without c.args.pc l) c.self.view_is
