use Rattle.source_lines.proofs.MethodOrder.{in_order}
use Rattle.source_lines.proofs.sources.sources_are_in_order.Goals as goal

pub returns : goal.returns
returns c = in_order
