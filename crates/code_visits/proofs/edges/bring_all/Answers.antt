use Rattle.std.proofs.{Common.{◌≡◌, ◌++◌, [], ◌∷◌, None, refl, sym, ap, ◌∙◌}, lemmas.Result.on_ok_weaker}
use Rattle.checked_program.specs.Visits.{edge_brought, edges_brought, meeting_clash}
use Rattle.code_visits.proofs.{BroughtLaws.{level_brought, brought_last}, ClashLaws.parts_none}
use Rattle.code_visits.proofs.edges.bring_all.Goals as goal

pub bring_each-requires-clause-apart : goal.bring_each-requires-clause-apart
bring_each-requires-clause-apart g c = (parts_none g.D.Frames.meeting c.args.m.now.code c.in-Some.others.now c.in-Some.last.now c.args.f c.args.nodes.now c.laid_out.ensures.ascend
    (ap (λ l. meeting_clash g.D.Frames.meeting c.args.m.now.code l c.args.f c.args.nodes.now) (sym c.in-Some.ensures.cases.0) ∙ c.requires.apart)).0

pub bring_last-requires-clause-apart : goal.bring_last-requires-clause-apart
bring_last-requires-clause-apart g c = c.in_ok-bring_each.ensures.apart (c.in-Some.last.now ∷ []) (parts_none g.D.Frames.meeting c.args.m.now.code c.in-Some.others.now c.in-Some.last.now c.args.f c.args.nodes.now c.laid_out.ensures.ascend
    (ap (λ l. meeting_clash g.D.Frames.meeting c.args.m.now.code l c.args.f c.args.nodes.now) (sym c.in-Some.ensures.cases.0) ∙ c.requires.apart)).1

pub returns-clause-brought : goal.returns-clause-brought
returns-clause-brought g c = on_ok_weaker c.bring_last.result (λ e. e ∙ ap (λ nodes. edge_brought g.D.Frames.meeting c.args.m.now.code c.in-Some.last.now c.args.f nodes) c.in_ok-bring_each.ensures.brought
    ∙ sym (brought_last g.D.Frames.meeting c.args.m.now.code c.in-Some.others.now c.in-Some.last.now c.args.f c.args.nodes.now) ∙ ap (λ l. edges_brought g.D.Frames.meeting c.args.m.now.code l c.args.f c.args.nodes.now) (sym c.in-Some.ensures.cases.0)) c.bring_last.ensures

pub returns-clause-level : goal.returns-clause-level
returns-clause-level g c = on_ok_weaker c.bring_last.result (λ e. rw e (level_brought g.D.Frames.meeting g.D.Frames.width (g.D.Frames.width c.args.f) c.args.m.now.code c.in-Some.last.now c.args.f c.bring_each.new.nodes
    g.met.D.Frames.lawful refl c.in_ok-bring_each.ensures.level)) c.bring_last.ensures
