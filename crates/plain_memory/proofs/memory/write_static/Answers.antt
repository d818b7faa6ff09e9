use Rattle.std.proofs.Common.{sym, ◌∙◌}
use Rattle.plain_memory.proofs.FirstOnes.{no_static}
use Rattle.plain_memory.proofs.memory.write_static.Goals as goal

pub returns-in-None : goal.returns-in-None
returns-in-None c = sym (no_static c.args.statics.now.items c.args.place c.args.value (rw c.as_slice.ensures.value at (sym c.static_at.ensures ∙ c.in-None.is)))
