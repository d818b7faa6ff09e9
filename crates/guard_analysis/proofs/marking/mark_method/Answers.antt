use Rattle.std.proofs.{Common.{◌∙◌, sym, subst}, lemmas.Result.on_ok_weaker}
use Rattle.checked_program.specs.{TaggedCode.tagged_by, declared.section.Mode.TheVariants.OnThis}
use Rattle.guard_analysis.{specs.SectionGrades.AreGrades, proofs.{Grading.are_grades, MarkLists.both_marked_in}}
use Rattle.guard_analysis.proofs.marking.mark_method.Goals as goal

pub mark_blocks-requires-clause-grades : goal.mark_blocks-requires-clause-grades
mark_blocks-requires-clause-grades c = subst (λ m. AreGrades c.args.p.now (tagged_by c.args.tags.now) c.args.uses.now OnThis c.args.method m c.as_slice.result.now) (sym c.in_ok-indexed.ensures)
    (are_grades c.args.p.now c.args.uses.now c.args.tags.now c.requires.program c.args.method c.args.m.now c.args.t.now c.requires.there c.requires.tagged c.args.callees.now.class OnThis tt c.args.callees.now.breaks.items c.args.callees.now.recurs.items
    c.requires.callees c.as_slice.result.now (c.as_slice.ensures.value ∙ c.in_ok-grades.ensures))

pub returns : goal.returns
returns c = on_ok_weaker c.mark_blocks.result
    (λ k. both_marked_in c.args.p.now (tagged_by c.args.tags.now) c.args.uses.now c.args.method c.args.m.now c.in_ok-indexed.indexed c.args.marks.now c.mark_whole.new.marks c.mark_blocks.new.marks c.in_ok-indexed.ensures c.in_ok-mark_whole.ensures k) c.mark_blocks.ensures
