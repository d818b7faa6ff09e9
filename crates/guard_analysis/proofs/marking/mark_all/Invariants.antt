use Rattle.std.proofs.Common.{drop}
use Rattle.checked_program.specs.{Sections.{sections, sections_from}, TaggedCode.tagged_by}
use Rattle.guard_analysis.specs.{Faults.AreCallees, SectionGrades.Continues}
use Rattle.guard_analysis.proofs.marking.mark_all.Given as goal

abbrev pub invariant-loop-u : goal.invariant-loop-u
invariant-loop-u l = record {
  callees : AreCallees l.p (tagged_by l.tags) l.uses l.callees.class l.callees.breaks.items l.callees.recurs.items;
  marks : Continues l.p (tagged_by l.tags) l.uses (sections l.p) (sections_from l.u (drop l.u l.p.methods)) l.marks;
}
