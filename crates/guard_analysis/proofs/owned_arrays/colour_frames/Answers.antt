use Rattle.std.proofs.Common.{subst}
use Rattle.code_visits.specs.Analyses.{IsStopped}
use Rattle.guard_analysis.{specs.ColourVisits.colour_plan, proofs.ColourRuns.none_broken}
use Rattle.guard_analysis.proofs.owned_arrays.colour_frames.Goals as goal

pub unreachable-requires : goal.unreachable-requires
unreachable-requires c =
    none_broken c.args.p.now c.args.m.now c.in-Err-Refused.field-0-0 c.in-Err-Refused.field-0-1 (subst (IsStopped (colour_plan c.args.p.now c.args.m.now)) c.in-Err-Refused.field-0-is c.in-Err-Refused.ensures.refused)
