use Rattle.std.proofs.{Common.{◌≡◌, ℕ, false, List, Some, Ok, Err, sym, ◌∙◌, slice_set}, lemmas.Result.err_from_is_err_and}
use Rattle.checked_program.specs.Visits.{PlanNode, Plan, acted, acts_on, next_waiting, plan_visited}
use Rattle.laws_sections.proofs.VisitAnswers.{Continues, continues_start, continues_more, settled, broken}
use Rattle.code_visits.{specs.{Analyses.{plan_of, Leaves, IsBreak}, Waiting.plan_node_at, declared.stop.Stop.{Stop, TheVariants.{Memory, Refused}}}, proofs.ActLaws.taken_visit}
use Rattle.code_visits.proofs.visiting.settle.Goals as goal

done : {A R : Type 0} (p : Plan A R) (now taken mid : List (PlanNode A)) (i : ℕ) → taken ≡ slice_set now i (record (plan_node_at now i) { waits = false })
    → acted p.meeting p.code (acts_on p i (plan_node_at taken i).frame) taken ≡ Ok mid → plan_visited p i now ≡ Ok mid
done p now taken mid i t v = sym (taken_visit p now taken i t) ∙ v

break_of : {A R : Type 0} (p : Plan A R) (start now taken mid : List (PlanNode A)) (i : ℕ) (e : Stop R) → next_waiting now ≡ Some i → taken ≡ slice_set now i (record (plan_node_at now i) { waits = false })
    → Continues p start now → Leaves {B = Unit {0}} (acted p.meeting p.code (acts_on p i (plan_node_at taken i).frame) taken) mid (Err e) → IsBreak p start e
break_of p start now taken mid i Memory n t c h = tt
break_of p start now taken mid i (Refused rule pc) n t c h = broken p start now i (rule, pc) n (sym (taken_visit p now taken i t) ∙ h) c

pub loop-i-smaller : goal.loop-i-smaller
loop-i-smaller g c =
    let p = plan_of g.D.Frames.meeting g.D.Analysis.first g.D.Analysis.acts c.args.p.now c.args.m.now in
    (g.met.D.Analysis.ends c.args.p.now c.args.m.now c.laid_out.ensures.laid).lessens c.loop-i.nodes c.visit.new.nodes c.in-Some.i c.loop-i.invariant.kept (sym c.in-Some.ensures.next)
    (done p c.loop-i.nodes c.take_next.new.self c.visit.new.nodes c.in-Some.i c.in-Some.ensures.some c.in_ok-visit.ensures.left)

pub loop-i-preserved : goal.loop-i-preserved
loop-i-preserved g c =
    let p = plan_of g.D.Frames.meeting g.D.Analysis.first g.D.Analysis.acts c.args.p.now c.args.m.now in
    let went = done p c.loop-i.nodes c.take_next.new.self c.visit.new.nodes c.in-Some.i c.in-Some.ensures.some c.in_ok-visit.ensures.left in
    record {
      level = c.in_ok-visit.ensures.level;
      kept = (g.met.D.Analysis.ends c.args.p.now c.args.m.now c.laid_out.ensures.laid).keeps c.loop-i.nodes c.visit.new.nodes c.in-Some.i c.loop-i.invariant.kept (sym c.in-Some.ensures.next) went;
      continues = continues_more p c.args.nodes.now c.loop-i.nodes c.visit.new.nodes c.in-Some.i (sym c.in-Some.ensures.next) went c.loop-i.invariant.continues;
    }

pub returns-in_err-visit-clause-broken : goal.returns-in_err-visit-clause-broken
returns-in_err-visit-clause-broken g c =
    let e = err_from_is_err_and c.from_residual.result c.from_residual.ensures.1 in
    rw (e.1, e.2) (break_of (plan_of g.D.Frames.meeting g.D.Analysis.first g.D.Analysis.acts c.args.p.now c.args.m.now) c.args.nodes.now c.loop-i.nodes c.take_next.new.self c.visit.new.nodes c.in-Some.i c.in_err-visit.field-0.0 (sym c.in-Some.ensures.next) c.in-Some.ensures.some
    c.loop-i.invariant.continues c.in_err-visit.ensures.left)

pub visit-requires-clause-kept : goal.visit-requires-clause-kept
visit-requires-clause-kept g c = (c.loop-i.nodes, c.loop-i.invariant.kept, c.in-Some.ensures.some)
