use Rattle.std.proofs.Common.{sym}
use Rattle.descriptors.proofs.Fronts.{class_front, unknown_front, unended_front}
use Rattle.descriptors.proofs.reading.read_class.Goals as goal

pub returns-in-Some-class_kind : goal.returns-in-Some-class_kind
returns-in-Some-class_kind c = class_front c.args.classes.now c.args.text.now c.in-Some.cut c.in-Some-class_kind.kind c.in-Some.ensures (sym c.in-Some-class_kind.ensures)

pub returns-in-None-class_kind : goal.returns-in-None-class_kind
returns-in-None-class_kind c = unknown_front c.args.classes.now c.args.text.now c.in-Some.cut c.in-Some.ensures (sym c.in-None-class_kind.ensures)

pub returns-in-None : goal.returns-in-None
returns-in-None c = unended_front c.args.classes.now c.args.text.now c.in-None.ensures
