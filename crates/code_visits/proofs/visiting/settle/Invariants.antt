use Rattle.laws_sections.proofs.VisitAnswers.{Continues}
use Rattle.code_visits.specs.{Analyses.plan_of, Level.AreLevel}
use Rattle.code_visits.proofs.visiting.settle.Given as goal

abbrev pub invariant-loop-i : goal.invariant-loop-i
invariant-loop-i g l = record {
  level : AreLevel g.D.Frames.width (g.D.Frames.width (g.D.Analysis.first l.m)) l.m.code l.nodes;
  kept : g.D.Analysis.is_kept l.p l.m l.nodes;
  continues : Continues (plan_of g.D.Frames.meeting g.D.Analysis.first g.D.Analysis.acts l.p l.m) l.fn.nodes l.nodes;
}

abbrev pub decreases-loop-i : goal.decreases-loop-i
decreases-loop-i g l = g.D.Analysis.work l.p l.m l.nodes
