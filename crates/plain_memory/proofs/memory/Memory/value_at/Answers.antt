use Rattle.plain_memory.proofs.memory.Memory.value_at.Goals as goal

pub object_value-value-requires : goal.object_value-value-requires
object_value-value-requires c = λ e. rw c.as_slice.ensures.value (c.self.invariant e).apart
