use Rattle.std.proofs.Common.{◌≡◌, ℕ, List, None, drop}
use Rattle.checked_program.specs.Visits.{edges_brought, meeting_clash}
use Rattle.code_visits.specs.Level.{AreLevel}
use Rattle.code_visits.proofs.edges.bring_each.Given as goal

abbrev pub invariant-loop-to : goal.invariant-loop-to
invariant-loop-to g l = record {
  brought : edges_brought g.D.Frames.meeting l.m.code (drop l.to-index l.tos) l.f l.nodes ≡ edges_brought g.D.Frames.meeting l.m.code l.tos l.f l.fn.nodes;
  level : AreLevel g.D.Frames.width (g.D.Frames.width l.f) l.m.code l.nodes;
  apart : meeting_clash g.D.Frames.meeting l.m.code (drop l.to-index l.tos) l.f l.nodes ≡ None;
  others : (others : List ℕ) → meeting_clash g.D.Frames.meeting l.m.code others l.f l.fn.nodes ≡ None → meeting_clash g.D.Frames.meeting l.m.code others l.f l.nodes ≡ None;
}
