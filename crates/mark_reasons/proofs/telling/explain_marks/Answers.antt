use Rattle.std.proofs.Common.{◌∙◌}
use Rattle.mark_reasons.proofs.ExplainLaws.{few_shown, marked_shown}
use Rattle.mark_reasons.proofs.TellingLaws.{marks_written}
use Rattle.mark_reasons.proofs.telling.explain_marks.Goals as goal

pub find_known-requires-clause-few : goal.find_known-requires-clause-few
find_known-requires-clause-few g c = few_shown c.args.c.now c.program-p.result.now c.program-p.ensures.marked c.program-p.ensures.program

pub tell_sections-requires-clause-few : goal.tell_sections-requires-clause-few
tell_sections-requires-clause-few g c = few_shown c.args.c.now c.program-p.result.now c.program-p.ensures.marked c.program-p.ensures.program

pub tell_sections-requires-clause-marked : goal.tell_sections-requires-clause-marked
tell_sections-requires-clause-marked g c = marked_shown c.args.c.now c.program-p.result.now c.tags-tags.result.now c.as_slice-in-Ok.result.now c.in-Ok.known.uses c.program-p.ensures.marked c.program-p.ensures.program c.tags-tags.ensures.tags (c.as_slice-in-Ok.ensures ∙ c.marks.ensures.marks) c.in-Ok.ensures.uses

pub returns-in-Ok : goal.returns-in-Ok
returns-in-Ok g c =
    marks_written c.args.form c.args.c.now c.args.sources.now c.program-p.result.now c.tags-tags.result.now c.in-Ok.known.uses c.as_slice-in-Ok.result.now _ _ _ _ c.tell_sections.result c.program-p.ensures.program c.tags-tags.ensures.tags (c.as_slice-in-Ok.ensures ∙ c.marks.ensures.marks) c.in-Ok.ensures.uses c.tell_sections.ensures.written
