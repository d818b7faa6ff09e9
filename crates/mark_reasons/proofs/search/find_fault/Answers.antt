use Rattle.std.proofs.Common.{◌≡◌, ◌∙◌, ◌+◌, ◌*◌, ◌≤◌, ◌/◌, ℕ, Option, Some, None, [], false, length, ap, refl, sym, subst, arith, replicate, slice_get}
use Rattle.checked_program.specs.{Sections.section_mode, TaggedCode.tagged_by, declared.section.Mode.Mode}
use Rattle.guard_analysis.specs.CallGraph.{mode_at}
use Rattle.mark_reasons.specs.{Reasons.{marked_section, mark_by, LeadsToFault}, Searches.{class_of_section, node_fault, node_fault_of, node_visits, own_call, site_at, visits, IsBack, IsFirstFaultOf}}
use Rattle.mark_reasons.specs.declared.{reason.Site.Site, search.Search.Search}
use Rattle.mark_reasons.proofs.{BackLaws.{called_before, leads_to_fault, none_before, none_left, node_is_fault, search_begins, search_goes_on, search_lessens}, Nodes.{class_there, mode_there}}
use Rattle.mark_reasons.proofs.{SearchLaws.found_none, ShortestLaws.{back_calls, no_shorter}}
use Rattle.mark_reasons.proofs.search.find_fault.Goals as goal

pub loop-k-init : goal.loop-k-init
loop-k-init c =
    let mode = c.section_mode-mode.ensures ∙ mode_there c.args.p.now (marked_section c.args.mark) c.args.m.now c.requires.there in
    search_begins c.args.p.now c.args.uses.now c.args.tags.now c.requires.program (marked_section c.args.mark) c.args.m.now c.args.t.now c.args.own.now c.requires.there c.requires.tagged c.requires.own
    c.in_ok-w.w c.visit_own.new.search (c.in_ok-w.ensures ∙ ap (λ (n : ℕ). let w : Search = record { seen = replicate (3 * n) false; queue = [] } in w) c.len.ensures)
    (c.in_ok-visit_own.ensures ∙ ap (λ (x : Mode). visits (own_call c.args.p.now x c.args.m.now c.args.t.now.frames c.args.own.now) c.in_ok-w.w 0 (length c.args.m.now.code)) mode)

pub way_to-requires-clause-before : goal.way_to-requires-clause-before
way_to-requires-clause-before c = called_before c.args.p.now (tagged_by c.args.tags.now) (marked_section c.args.mark) (3 * length c.args.p.now.methods) c.loop-k.w c.loop-k.invariant.sound

pub returns-in-Some : goal.returns-in-Some
returns-in-Some c =
    let class = class_there c.args.p.now (marked_section c.args.mark) c.args.m.now c.requires.there in
    let mode = c.section_mode-mode.ensures ∙ mode_there c.args.p.now (marked_section c.args.mark) c.args.m.now c.requires.there in
    let back : IsBack (class_of_section c.args.p.now (marked_section c.args.mark)) (section_mode c.args.p.now (marked_section c.args.mark)) c.args.mark.method c.loop-k.w.queue c.loop-k.k c.in_ok-way.way =
    subst (λ (k : ℕ). IsBack k (section_mode c.args.p.now (marked_section c.args.mark)) c.args.mark.method c.loop-k.w.queue c.loop-k.k c.in_ok-way.way) class
    (subst (λ (x : Mode). IsBack c.args.m.now.class x c.args.mark.method c.loop-k.w.queue c.loop-k.k c.in_ok-way.way) mode c.in_ok-way.ensures) in
    let first : IsFirstFaultOf c.args.p.now c.args.uses.now (c.entry_at-e.result.node / 3) (slice_get c.args.p.now.methods (c.entry_at-e.result.node / 3)) (slice_get c.args.tags.now (c.entry_at-e.result.node / 3)) (mode_at (class_of_section c.args.p.now (marked_section c.args.mark)) c.entry_at-e.result.node) (Some c.in-Some.at) =
    subst (λ (k : ℕ). IsFirstFaultOf c.args.p.now c.args.uses.now (c.entry_at-e.result.node / 3) (slice_get c.args.p.now.methods (c.entry_at-e.result.node / 3)) (slice_get c.args.tags.now (c.entry_at-e.result.node / 3)) (mode_at k c.entry_at-e.result.node) (Some c.in-Some.at)) class c.in-Some.ensures in
    let found = leads_to_fault c.args.p.now (tagged_by c.args.tags.now) (marked_section c.args.mark) (3 * length c.args.p.now.methods) c.loop-k.w c.loop-k.invariant.sound c.args.uses.now c.loop-k.k c.in-Some.at
    (node_fault_of c.args.p.now c.args.uses.now c.args.tags.now (class_of_section c.args.p.now (marked_section c.args.mark)) c.entry_at-e.result.node c.in-Some.at) c.in_ok-way.way c.entry_at-e.result back c.entry_at-e.ensures
    (node_is_fault c.args.p.now c.args.uses.now c.args.tags.now c.requires.program (class_of_section c.args.p.now (marked_section c.args.mark)) c.entry_at-e.result.node c.in-Some.at first)
    (none_before c.args.p.now c.args.uses.now c.args.tags.now c.requires.program (class_of_section c.args.p.now (marked_section c.args.mark)) c.entry_at-e.result.node c.in-Some.at first)
    (no_shorter c.args.p.now (tagged_by c.args.tags.now) c.args.uses.now (marked_section c.args.mark) (3 * length c.args.p.now.methods) c.loop-k.k c.loop-k.w c.loop-k.invariant (length c.in_ok-way.way)
    (back_calls (class_of_section c.args.p.now (marked_section c.args.mark)) (section_mode c.args.p.now (marked_section c.args.mark)) c.args.mark.method c.loop-k.w.queue c.loop-k.k c.in_ok-way.way back) c.in_ok-way.way refl) in
    let site = c.site_at.ensures ∙ ap (λ (k : ℕ). site_at k c.entry_at-e.result.node c.in-Some.at) class in
    let rule = c.rule_at-rule.ensures ∙ ap (λ (k : ℕ). node_fault c.args.p.now c.args.uses.now (c.entry_at-e.result.node / 3) (slice_get c.args.p.now.methods (c.entry_at-e.result.node / 3)) (slice_get c.args.tags.now (c.entry_at-e.result.node / 3)) (mode_at k c.entry_at-e.result.node) c.in-Some.at) class in
    subst (λ (site : Site). LeadsToFault c.args.p.now (tagged_by c.args.tags.now) c.args.uses.now (marked_section c.args.mark) c.in_ok-way.way site c.rule_at-rule.result × (mark_by c.in_ok-way.way c.rule_at-rule.result ≡ 6)) (sym site)
    (subst (λ (rule : ℕ). LeadsToFault c.args.p.now (tagged_by c.args.tags.now) c.args.uses.now (marked_section c.args.mark) c.in_ok-way.way (site_at (class_of_section c.args.p.now (marked_section c.args.mark)) c.entry_at-e.result.node c.in-Some.at) rule × (mark_by c.in_ok-way.way rule ≡ 6)) (sym rule) found)

pub loop-k-smaller : goal.loop-k-smaller
loop-k-smaller c =
    let class = class_there c.args.p.now (marked_section c.args.mark) c.args.m.now c.requires.there in
    search_lessens c.args.p.now c.args.uses.now c.args.tags.now c.requires.program (marked_section c.args.mark) c.loop-k.k c.loop-k.w c.visit_node.new.search c.entry_at-e.result c.loop-k.invariant c.entry_at-e.ensures
    (c.in_ok-visit_node.ensures ∙ ap (λ (k : ℕ). node_visits c.args.p.now (slice_get c.args.p.now.methods (c.entry_at-e.result.node / 3)) (slice_get c.args.tags.now (c.entry_at-e.result.node / 3)) (mode_at k c.entry_at-e.result.node) c.loop-k.w (c.loop-k.k + 1)) class)

pub loop-k-preserved : goal.loop-k-preserved
loop-k-preserved c =
    let class = class_there c.args.p.now (marked_section c.args.mark) c.args.m.now c.requires.there in
    search_goes_on c.args.p.now c.args.uses.now c.args.tags.now c.requires.program (marked_section c.args.mark) c.loop-k.k c.loop-k.w c.visit_node.new.search c.entry_at-e.result c.loop-k.invariant c.entry_at-e.ensures
    (c.in_ok-visit_node.ensures ∙ ap (λ (k : ℕ). node_visits c.args.p.now (slice_get c.args.p.now.methods (c.entry_at-e.result.node / 3)) (slice_get c.args.tags.now (c.entry_at-e.result.node / 3)) (mode_at k c.entry_at-e.result.node) c.loop-k.w (c.loop-k.k + 1)) class)
    (subst (λ (k : ℕ). IsFirstFaultOf c.args.p.now c.args.uses.now (c.entry_at-e.result.node / 3) (slice_get c.args.p.now.methods (c.entry_at-e.result.node / 3)) (slice_get c.args.tags.now (c.entry_at-e.result.node / 3)) (mode_at k c.entry_at-e.result.node) None) class
    (subst (λ (o : Option ℕ). IsFirstFaultOf c.args.p.now c.args.uses.now (c.entry_at-e.result.node / 3) (slice_get c.args.p.now.methods (c.entry_at-e.result.node / 3)) (slice_get c.args.tags.now (c.entry_at-e.result.node / 3)) (mode_at c.args.m.now.class c.entry_at-e.result.node) o)
    (none_left c.node_fault.result c.in_default.not-Some) c.node_fault.ensures))

pub returns : goal.returns
returns c = found_none c.args.p.now (tagged_by c.args.tags.now) c.args.uses.now (marked_section c.args.mark) (3 * length c.args.p.now.methods) c.loop-k.k c.loop-k.w c.loop-k.invariant
    (let all : length c.loop-k.w.queue ≤ c.loop-k.k = omega (arith, c.loop-k-test.false, c.len-in-loop-k.ensures) in all)
