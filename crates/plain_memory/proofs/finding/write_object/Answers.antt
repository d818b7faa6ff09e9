use Rattle.std.proofs.Common.{sym, ◌∙◌}
use Rattle.plain_memory.proofs.FirstOnes.{no_object}
use Rattle.plain_memory.proofs.finding.write_object.Goals as goal

pub object_at-requires : goal.object_at-requires
object_at-requires c = λ e. rw c.as_slice.ensures.value (c.requires e)

pub returns-in-None : goal.returns-in-None
returns-in-None c = sym (no_object c.args.objects.now.items c.args.place c.args.value (rw c.as_slice.ensures.value at (sym c.object_at.ensures ∙ c.in-None.is)))
