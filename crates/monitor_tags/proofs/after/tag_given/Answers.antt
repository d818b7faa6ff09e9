use Rattle.std.proofs.lemmas.Option.{unwrap_or-slice_get}
use Rattle.checked_program.specs.declared.tag.Tag.TheVariants.{Untagged}
use Rattle.monitor_tags.proofs.after.tag_given.Goals as goal

pub returns-in-Taken : goal.returns-in-Taken
returns-in-Taken c = rw (c.in-Taken.is, c.unwrap_or.ensures, c.copied.ensures, c.get.ensures.value, c.stack.ensures, c.from.ensures) (unwrap_or-slice_get c.args.f.now.stack c.in-Taken.place Untagged)

pub returns-in-Local : goal.returns-in-Local
returns-in-Local c = rw (c.in-Local.is, c.unwrap_or-in-Local.ensures, c.get-in-Local.ensures, c.locals.ensures, c.from-in-Local.ensures) (unwrap_or-slice_get c.args.f.now.locals c.in-Local.i Untagged)
