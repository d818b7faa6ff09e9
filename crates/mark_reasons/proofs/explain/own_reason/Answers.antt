use Rattle.std.proofs.Common.{◌≡◌, ◌∙◌, List, Option, Some, None, [], length, refl, sym, subst}
use Rattle.checked_program.specs.{Marks.{callee, BreaksAt}, Sections.section_mode, TaggedCode.tagged_by, declared.section.Mode.Mode}
use Rattle.mark_reasons.specs.{Firsts.IsFirst, Reasons.{marked_section, mark_by, HasCause, LeadsToFault}, Searches.{own_breaks, own_site}, declared.reason.Site.Site}
use Rattle.mark_reasons.proofs.{ExplainLaws.{own_is_fault, own_none}, Nodes.mode_there}
use Rattle.mark_reasons.proofs.explain.own_reason.Goals as goal

pub cause_if-requires-clause-breaks : goal.cause_if-requires-clause-breaks
cause_if-requires-clause-breaks c =
    let mode = c.section_mode-mode.ensures ∙ mode_there c.args.p.now (marked_section c.args.mark) c.args.m.now c.requires.there in
    let first : IsFirst (λ i. own_breaks c.args.p.now c.args.uses.now (section_mode c.args.p.now (marked_section c.args.mark)) c.args.mark.method c.args.m.now c.args.t.now c.args.own.now c.args.mark.mark i) (length c.args.m.now.code) (Some c.in-Some.at) =
    subst (λ (x : Mode). IsFirst (λ i. own_breaks c.args.p.now c.args.uses.now x c.args.mark.method c.args.m.now c.args.t.now c.args.own.now c.args.mark.mark i) (length c.args.m.now.code) (Some c.in-Some.at)) mode c.in-Some.ensures in
    let found = own_is_fault c.args.p.now c.args.uses.now c.args.tags.now c.requires.program (marked_section c.args.mark) c.args.m.now c.args.t.now c.args.own.now c.requires.there c.requires.tagged c.requires.own c.args.mark.mark c.in-Some.at c.requires.breaks.breaks.some first.1 first.2 in
    subst (λ (x : Mode). BreaksAt c.args.p.now (tagged_by c.args.tags.now) c.args.uses.now (callee c.args.mark.method x) c.in-Some.at c.args.mark.mark) (sym mode) found.breaks

pub returns-clause-reason : goal.returns-clause-reason
returns-clause-reason c =
    let mode = c.section_mode-mode.ensures ∙ mode_there c.args.p.now (marked_section c.args.mark) c.args.m.now c.requires.there in
    let first : IsFirst (λ i. own_breaks c.args.p.now c.args.uses.now (section_mode c.args.p.now (marked_section c.args.mark)) c.args.mark.method c.args.m.now c.args.t.now c.args.own.now c.args.mark.mark i) (length c.args.m.now.code) (Some c.in-Some.at) =
    subst (λ (x : Mode). IsFirst (λ i. own_breaks c.args.p.now c.args.uses.now x c.args.mark.method c.args.m.now c.args.t.now c.args.own.now c.args.mark.mark i) (length c.args.m.now.code) (Some c.in-Some.at)) mode c.in-Some.ensures in
    let found = own_is_fault c.args.p.now c.args.uses.now c.args.tags.now c.requires.program (marked_section c.args.mark) c.args.m.now c.args.t.now c.args.own.now c.requires.there c.requires.tagged c.requires.own c.args.mark.mark c.in-Some.at c.requires.breaks.breaks.some first.1 first.2 in
    subst (λ (way : List Site). (c.args.mark.mark ≡ mark_by way c.args.mark.mark) × LeadsToFault c.args.p.now (tagged_by c.args.tags.now) c.args.uses.now (marked_section c.args.mark) way (own_site c.section_mode-mode.result c.args.mark.method c.in-Some.at) c.args.mark.mark × HasCause c.args.p.now (tagged_by c.args.tags.now) (own_site c.section_mode-mode.result c.args.mark.method c.in-Some.at) c.args.mark.mark c.in_ok-cause.cause) (sym c.new.ensures)
    (refl, subst (λ (x : Mode). LeadsToFault c.args.p.now (tagged_by c.args.tags.now) c.args.uses.now (marked_section c.args.mark) [] (own_site x c.args.mark.method c.in-Some.at) c.args.mark.mark) (sym mode) found, c.in_ok-cause.ensures.cause)

pub unreachable-requires : goal.unreachable-requires
unreachable-requires c =
    let mode = c.section_mode-mode.ensures ∙ mode_there c.args.p.now (marked_section c.args.mark) c.args.m.now c.requires.there in
    own_none c.args.p.now c.args.uses.now c.args.tags.now c.requires.program (marked_section c.args.mark) c.args.m.now c.args.t.now c.args.own.now c.requires.there c.requires.tagged c.requires.own c.args.mark.mark c.requires.breaks
    (subst (λ (x : Mode). IsFirst (λ i. own_breaks c.args.p.now c.args.uses.now x c.args.mark.method c.args.m.now c.args.t.now c.args.own.now c.args.mark.mark i) (length c.args.m.now.code) None) mode c.in_default.ensures)
