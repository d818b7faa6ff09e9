use Rattle.std.proofs.Common.{◌≡◌, drop}
use Rattle.checked_program.specs.Visits.{meeting_clash}
use Rattle.code_visits.specs.Analyses.{lesser}
use Rattle.code_visits.proofs.edges.clash.Given as goal

abbrev pub invariant-loop-to : goal.invariant-loop-to
invariant-loop-to g l = lesser l.least (meeting_clash g.D.Frames.meeting l.m.code (drop l.to-index l.tos) l.f l.nodes) ≡ meeting_clash g.D.Frames.meeting l.m.code l.tos l.f l.nodes
