use Rattle.std.proofs.Common.{◌∙◌, ℕ, None, length, ap, sym, subst}
use Rattle.checked_program.specs.{Marks.Calls, TaggedCode.tagged_by, declared.section.Mode.Mode}
use Rattle.mark_reasons.{specs.{Firsts.IsFirst, Reasons.{marked_section, own_callee}, Searches.{callee_at, own_call, turns}}, proofs.{BackLaws.own_found, MarkParts.own_turns}}
use Rattle.mark_reasons.proofs.Nodes.{class_there, mode_there}
use Rattle.mark_reasons.proofs.explain.recurring_reason.Goals as goal

pub unreachable-requires : goal.unreachable-requires
unreachable-requires c =
    let mode = c.section_mode-mode.ensures ∙ mode_there c.args.p.now (marked_section c.args.mark) c.args.m.now c.requires.there in
    own_turns c.args.p.now c.args.tags.now c.requires.program c.args.recurs.now c.requires.recurs (marked_section c.args.mark) c.args.m.now c.args.t.now c.args.own.now c.requires.there c.requires.tagged c.requires.own c.requires.returns
    (subst (λ (x : Mode). IsFirst (λ i. turns c.args.recurs.now (own_call c.args.p.now x c.args.m.now c.args.t.now.frames c.args.own.now i)) (length c.args.m.now.code) None) mode c.in_default.ensures)

pub come_back-requires-clause-calls : goal.come_back-requires-clause-calls
come_back-requires-clause-calls c =
    let class = class_there c.args.p.now (marked_section c.args.mark) c.args.m.now c.requires.there in
    let mode = c.section_mode-mode.ensures ∙ mode_there c.args.p.now (marked_section c.args.mark) c.args.m.now c.requires.there in
    let found = own_found c.args.p.now c.args.uses.now c.args.tags.now c.requires.program (marked_section c.args.mark) c.args.m.now c.args.t.now c.args.own.now c.requires.there c.requires.tagged c.requires.own c.in-Some.at c.in-Some-own_call.first
    (ap (λ (x : Mode). own_call c.args.p.now x c.args.m.now c.args.t.now.frames c.args.own.now c.in-Some.at) (sym mode) ∙ sym c.in-Some-own_call.ensures) in
    subst (λ (k : ℕ). Calls c.args.p.now (tagged_by c.args.tags.now) (own_callee c.args.p.now (marked_section c.args.mark)) c.in-Some.at (callee_at k c.in-Some-own_call.first)) (sym class) found.2
