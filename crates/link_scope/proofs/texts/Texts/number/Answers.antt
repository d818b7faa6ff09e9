use Rattle.std.proofs.Common.{◌∙◌}
use Rattle.link_scope.proofs.TextLaws.{looked_up}
use Rattle.link_scope.proofs.texts.Texts.number.Goals as goal

pub returns-clause-number : goal.returns-clause-number
returns-clause-number c = rw (← c.self.view_is) (c.copied.ensures ∙ c.get.ensures.value ∙ looked_up c.args.text.now c.self.inside.numbers.entries)
