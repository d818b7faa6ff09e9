use Rattle.plain_memory.proofs.OrderLaws.{written_in_order}
use Rattle.plain_memory.proofs.memory.Memory.write.Goals as goal

pub write_object-requires : goal.write_object-requires
write_object-requires c = λ e. (c.self.invariant e).apart

pub invariant_of-self : goal.invariant_of-self
invariant_of-self c = λ e. rw c.write_object.ensures (written_in_order _ _ _ _ (c.self.invariant e))
