use Rattle.std.proofs.Common.{◌≡◌, ◌/◌, ℕ, Some, ◌∙◌, ap, sym, subst, slice_get, slice_set}
use Rattle.guard_analysis.specs.CallGraph.{mode_at}
use Rattle.mark_reasons.{specs.{Reasons.marked_section, Searches.{node_call, site_at, IsFirstTurn}}, proofs.{Nodes.class_there, TurnLaws.{some_turns, walk_shown}}}
use Rattle.mark_reasons.proofs.recursion.come_back.Goals as goal

pub unreachable-requires : goal.unreachable-requires
unreachable-requires c = some_turns c.args.p.now c.args.tags.now c.requires.program c.args.recurs.now c.requires.recurs c.args.m.now.class c.loop-i.node c.loop-i.invariant.inside c.loop-i.invariant.flagged c.in_default.ensures

pub loop-i-preserved : goal.loop-i-preserved
loop-i-preserved c =
    let class = class_there c.args.p.now (marked_section c.args.mark) c.args.m.now c.requires.there in
    walk_shown c.args.p.now c.args.tags.now c.requires.program c.args.recurs.now c.requires.recurs (marked_section c.args.mark) c.loop-i.node c.in-Some.i c.in-Some-called_at.next c.site_at.result c.loop-i.way c.push-in-loop-i.new.self c.loop-i.places c.set.new.self
    c.loop-i.invariant
    (subst (λ (k : ℕ). IsFirstTurn c.args.p.now c.args.recurs.now (slice_get c.args.p.now.methods (c.loop-i.node / 3)) (slice_get c.args.tags.now (c.loop-i.node / 3)) (mode_at k c.loop-i.node) (Some c.in-Some.i)) class c.in-Some.ensures)
    (ap (λ (k : ℕ). node_call c.args.p.now (slice_get c.args.p.now.methods (c.loop-i.node / 3)) (slice_get c.args.tags.now (c.loop-i.node / 3)) (mode_at k c.loop-i.node) c.in-Some.i) (sym class) ∙ sym c.in-Some-called_at.ensures)
    (c.site_at.ensures ∙ ap (λ (k : ℕ). site_at k c.loop-i.node c.in-Some.i) class) c.in_ok-push-2.ensures.ok (c.set.ensures ∙ ap (λ (n : ℕ). slice_set c.loop-i.places c.loop-i.node n) c.len-in-loop-i.ensures)
