use Rattle.source_lines.proofs.SourcesSoFar.{all_added}
use Rattle.source_lines.proofs.sources.sources_of.Goals as goal

pub returns : goal.returns
returns c = all_added c.args.files.now c.loop-rest.rest.now c.loop-rest.sources c.in_default.len_below c.loop-rest.invariant
