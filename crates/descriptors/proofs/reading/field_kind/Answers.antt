use Rattle.std.proofs.Common.{sym}
use Rattle.descriptors.proofs.Fronts.{more_than_kind}
use Rattle.descriptors.proofs.reading.field_kind.Goals as goal

pub returns-else-is_empty : goal.returns-else-is_empty
returns-else-is_empty c = sym (more_than_kind c.args.classes.now c.args.text.now c.in-Some.front c.in-Some.ensures (sym c.if-is_empty.ensures))
