use Rattle.std.proofs.Common.{ap, arith, leb-true, sym, ◌∙◌}
use Rattle.machine_types.specs.PlainMemory.{Object}
use Rattle.plain_memory.proofs.{OrderLaws.one_more, memory.Memory.add.Goals.{then-self, else-self}}
use Rattle.plain_memory.proofs.memory.Memory.add.Goals as goal

pub invariant_of-self : goal.invariant_of-self
invariant_of-self c = λ e. rw c.in_err-push.ensures.items (c.self.invariant e)

pub invariant_of-self-2 : goal.invariant_of-self-2
invariant_of-self-2 c = λ e. elim c.if-self.branch [
  | then-self w ↦ (
      let at_next = ap (λ (o : Object). o.reference) c.in_ok-object.ensures in
      let ends = rw w.end.ensures at (leb-true _ _ (sym w.in_order-is ∙ e)) in
      rw c.in_ok-push.ensures.items (one_more _ _ _ _ (c.self.invariant w.if-self.true) (omega (arith, at_next)) ends))
  | else-self w ↦ (let no = sym w.in_order-is ∙ e in absurd (cc))
]
