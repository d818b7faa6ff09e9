use Rattle.std.proofs.Common.{◌≡◌}
use Rattle.checked_program.specs.TaggedCode.{tagged_by}
use Rattle.mark_reasons.specs.{Causes.IsCauseMemo, MarksTold.SectionsSoFar}
use Rattle.mark_reasons.proofs.telling.tell_sections.Given as goal

abbrev pub invariant-loop-mark : goal.invariant-loop-mark
invariant-loop-mark g l = record {
  so_far : SectionsSoFar l.form l.p l.sources (tagged_by l.tags) l.uses l.marks l.mark-index l.last (g.K.Sink.text l.fn.sink) (g.K.Sink.text l.sink);
  memo : IsCauseMemo l.p (tagged_by l.tags) l.memo;
  calm : g.K.Sink.faults l.sink ≡ g.K.Sink.faults l.fn.sink;
}
