use Rattle.code_visits.{specs.Analyses.plan_of, proofs.FirstNodes.first_level}
use Rattle.code_visits.proofs.visiting.visit_all.Goals as goal

pub settle-requires-clause-level : goal.settle-requires-clause-level
settle-requires-clause-level g c = rw (c.in_ok-nodes.ensures, c.in_ok-indexed.ensures) (first_level g.D.Frames.width (g.D.Analysis.first c.args.m.now) c.args.m.now.code)

pub settle-requires-clause-kept : goal.settle-requires-clause-kept
settle-requires-clause-kept g c = rw (c.in_ok-nodes.ensures, c.in_ok-indexed.ensures) (g.met.D.Analysis.ends c.args.p.now c.args.m.now c.requires).first
