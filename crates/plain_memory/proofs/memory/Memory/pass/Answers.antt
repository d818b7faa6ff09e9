use Rattle.std.proofs.Common.{leb-true, sym, ◌∙◌}
use Rattle.plain_memory.proofs.{OrderLaws.number_rises, memory.Memory.pass.Goals.{then-self, else-self}}
use Rattle.plain_memory.proofs.memory.Memory.pass.Goals as goal

pub invariant_of-self : goal.invariant_of-self
invariant_of-self c = λ e. elim c.if-self.branch [
  | then-self w ↦ number_rises _ _ _ (c.self.invariant w.if-self.true) (leb-true _ _ (sym w.self-is ∙ e))
  | else-self w ↦ (let no = sym w.self-is ∙ e in absurd (cc))
]
