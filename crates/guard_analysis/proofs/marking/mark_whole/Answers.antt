use Rattle.std.proofs.Common.{◌≡◌, ◌∙◌, true, sym, subst}
use Rattle.jvm_types.specs.Members.{is_synchronized}
use Rattle.checked_program.specs.{Marks.IsMarkOf, TaggedCode.tagged_by, declared.section.{Mode.Mode, Spot.TheVariants.Method}}
use Rattle.guard_analysis.{specs.{Faults.IsModeFor, SectionGrades.{section_in, AreGrades}}, proofs.{Grading.are_grades, MarkLists.marks_whole, SectionMarks.whole_marked}}
use Rattle.guard_analysis.proofs.marking.mark_whole.Goals as goal

pub returns-in_ok-push : goal.returns-in_ok-push
returns-in_ok-push c =
    let locks : is_synchronized c.args.m.now.flags ≡ true = sym c.is_synchronized.ensures ∙ c.if-is_synchronized.true in
    let fits = subst (IsModeFor c.args.callees.now.class) (sym c.method_mode.ensures) (c.requires.fits locks) in
    let so = are_grades c.args.p.now c.args.uses.now c.args.tags.now c.requires.program c.args.method c.args.m.now c.args.t.now c.requires.there c.requires.tagged c.args.callees.now.class c.method_mode.result fits c.args.callees.now.breaks.items
    c.args.callees.now.recurs.items c.requires.callees c.as_slice.result.now (c.as_slice.ensures.value ∙ c.in_ok-grades.ensures) in
    let are = subst (λ (mode : Mode). AreGrades c.args.p.now (tagged_by c.args.tags.now) c.args.uses.now mode c.args.method c.args.m.now c.as_slice.result.now) c.method_mode.ensures so in
    marks_whole c.args.p.now (tagged_by c.args.tags.now) c.args.uses.now c.args.method c.args.m.now c.args.marks.now c.push.new.self c.earliest-mark.result locks c.in_ok-push.ensures.ok
    (subst (λ n. IsMarkOf c.args.p.now (tagged_by c.args.tags.now) c.args.uses.now (section_in c.args.method Method) (record { method = c.args.method; spot = Method; mark = n })) (sym c.earliest-mark.ensures)
    (whole_marked c.args.p.now (tagged_by c.args.tags.now) c.args.uses.now c.args.method c.args.m.now c.requires.there c.as_slice.result.now are))
