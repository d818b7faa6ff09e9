use Rattle.std.proofs.Common.{sym, ◌∙◌, subst, IsSomeAnd, Option}
use Rattle.link_scope.specs.{TextNumbers.IsMeaning, declared.texts.Meaning.Meaning}
use Rattle.link_scope.proofs.texts.Texts.meaning.Goals as goal

pub returns : goal.returns
returns c = rw (← c.self.view_is) (λ text e. subst (λ (o : Option Meaning). IsSomeAnd o (IsMeaning c.self.inside.classes text)) (sym (c.copied.ensures ∙ c.get.ensures.value)) (c.self.invariant.meant text c.args.number e))
