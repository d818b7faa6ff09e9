use Rattle.field_names.proofs.FieldOrder.{in_order}
use Rattle.field_names.proofs.names.names_are_in_order.Goals as goal

pub returns : goal.returns
returns c = in_order
