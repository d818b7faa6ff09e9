use Rattle.std.proofs.Common.{sym}
use Rattle.mark_reasons.proofs.ArrayCauseLaws.{no_array}
use Rattle.mark_reasons.proofs.array_causes.array_cause.Goals as goal

pub unreachable-requires : goal.unreachable-requires
unreachable-requires c = no_array c.args.p.now c.in-Some.field (c.requires.arrays c.in-Some.field c.in-Some.is) (sym c.in-None-get.ensures.value)

pub arrays_once-requires-clause-loose : goal.arrays_once-requires-clause-loose
arrays_once-requires-clause-loose c = c.requires.loose c.in-Some.field c.in-Some.is
