-- One visit, act by act, and the visit of nodes of which the one that is visited waits no more.
use Rattle.std.{proofs.Common.{◌≡◌, ℕ, zero, suc, false, List, [], ◌∷◌, ◌++◌, Option, Some, None, Result, Ok, Err, refl, sym, ap, ◌∙◌, slice_get, slice_set}, specs.List.AllByRecursion}
use Rattle.std.{specs.Option.IfSome, proofs.lemmas.List.length-set}
use Rattle.jvm_types.specs.declared.code.Insn.{Insn}
use Rattle.checked_program.specs.Visits.{Meeting, PlanNode, Act, Break, Bring, Plan, acted, acts_on, edges_brought, meeting_clash, unless_meeting_clash, plan_visited, visited_node}
use Rattle.code_visits.specs.{Analyses.Leaves, Level.AreLevel, Waiting.{plan_node_at, node_or_none}, declared.stop.Stop.{Stop, TheVariants.{Memory, Refused}}}

-- ---- some acts, then others

pub then_acted : {A R : Type 0} (d : Meeting A) (code : List Insn) (acts others : List (Act A R)) (nodes mid : List (PlanNode A)) → acted d code acts nodes ≡ Ok mid → acted d code (acts ++ others) nodes ≡ acted d code others mid
then_acted d code [] others nodes mid e = let same : nodes ≡ mid = cc in ap (acted d code others) same
then_acted d code (Break rule pc ∷ acts) others nodes mid e = absurd (cc)
then_acted d code (Bring rule tos f ∷ acts) others nodes mid e = by_clash (meeting_clash d code tos f nodes) e (then_acted d code acts others (edges_brought d code tos f nodes) mid)
  where
    by_clash : (o : Option ℕ) → unless_meeting_clash rule o (acted d code acts (edges_brought d code tos f nodes)) ≡ Ok mid
        → (acted d code acts (edges_brought d code tos f nodes) ≡ Ok mid → acted d code (acts ++ others) (edges_brought d code tos f nodes) ≡ acted d code others mid)
        → unless_meeting_clash rule o (acted d code (acts ++ others) (edges_brought d code tos f nodes)) ≡ acted d code others mid
    by_clash None e h = h e
    by_clash (Some pc) e h = absurd (cc)

pub broken_acted : {A R : Type 0} (d : Meeting A) (code : List Insn) (acts others : List (Act A R)) (nodes : List (PlanNode A)) (fault : R × ℕ) → acted d code acts nodes ≡ Err fault → acted d code (acts ++ others) nodes ≡ Err fault
broken_acted d code [] others nodes fault e = absurd (cc)
broken_acted d code (Break rule pc ∷ acts) others nodes fault e = e
broken_acted d code (Bring rule tos f ∷ acts) others nodes fault e = by_clash (meeting_clash d code tos f nodes) e (broken_acted d code acts others (edges_brought d code tos f nodes) fault)
  where
    by_clash : (o : Option ℕ) → unless_meeting_clash rule o (acted d code acts (edges_brought d code tos f nodes)) ≡ Err fault
        → (acted d code acts (edges_brought d code tos f nodes) ≡ Err fault → acted d code (acts ++ others) (edges_brought d code tos f nodes) ≡ Err fault)
        → unless_meeting_clash rule o (acted d code (acts ++ others) (edges_brought d code tos f nodes)) ≡ Err fault
    by_clash None e h = h e
    by_clash (Some pc) e h = e

-- an error of the first acts is one of all
pub leaves_first : {A R : Type 0} (B C : Type 0) (d : Meeting A) (code : List Insn) (acts others : List (Act A R)) (nodes mid last : List (PlanNode A)) (e : Stop R)
    → Leaves {B = B} (acted d code acts nodes) mid (Err e) → Leaves {B = C} (acted d code (acts ++ others) nodes) last (Err e)
leaves_first B C d code acts others nodes mid last Memory h = tt
leaves_first B C d code acts others nodes mid last (Refused rule pc) h = broken_acted d code acts others nodes (rule, pc) h

-- and where these leave nodes, the others go on from there
pub leaves_then : {A B R : Type 0} (d : Meeting A) (code : List Insn) (acts others : List (Act A R)) (nodes mid last : List (PlanNode A)) (result : Result B (Stop R)) → acted d code acts nodes ≡ Ok mid
    → Leaves (acted d code others mid) last result → Leaves (acted d code (acts ++ others) nodes) last result
leaves_then d code acts others nodes mid last result e h = rw (then_acted d code acts others nodes mid e) h

-- ---- with the node that is visited taken out of those that wait

taken_wide : {A : Type 0} (width : A → ℕ) (places : ℕ) (nodes : List (PlanNode A)) (i : ℕ) → AllByRecursion (λ (node : PlanNode A). IfSome node.frame (λ g. width g ≡ places)) nodes
    → AllByRecursion (λ (node : PlanNode A). IfSome node.frame (λ g. width g ≡ places)) (slice_set nodes i (record (plan_node_at nodes i) { waits = false }))
taken_wide width places [] i all = tt
taken_wide width places (node ∷ nodes) zero all = all
taken_wide width places (node ∷ nodes) (suc i) all = (all.0, taken_wide width places nodes i all.1)

pub taken_level : {A : Type 0} (width : A → ℕ) (places : ℕ) (code : List Insn) (nodes taken : List (PlanNode A)) (i : ℕ) → taken ≡ slice_set nodes i (record (plan_node_at nodes i) { waits = false })
    → AreLevel width places code nodes → AreLevel width places code taken
taken_level width places code nodes taken i e level = rw e (record {
  long = length-set nodes i (record (plan_node_at nodes i) { waits = false }) ∙ level.long;
  wide = taken_wide width places nodes i level.wide;
})

taken_frame : {A : Type 0} (nodes : List (PlanNode A)) (i : ℕ) → (plan_node_at (slice_set nodes i (record (plan_node_at nodes i) { waits = false })) i).frame ≡ (plan_node_at nodes i).frame
taken_frame [] i = refl
taken_frame (node ∷ nodes) zero = refl
taken_frame (node ∷ nodes) (suc i) = taken_frame nodes i

at_node : {A R : Type 0} (p : Plan A R) (nodes : List (PlanNode A)) (i : ℕ) (o : Option (PlanNode A)) → slice_get nodes i ≡ o
    → acted p.meeting p.code (acts_on p i (node_or_none o).frame) (slice_set nodes i (record (node_or_none o) { waits = false })) ≡ visited_node p i o nodes
at_node p nodes i (Some node) e = refl
at_node {A = A} p nodes i None e = ap Ok (set_none nodes i _ e)
  where
    set_none : (nodes : List (PlanNode A)) (i : ℕ) (node : PlanNode A) → slice_get nodes i ≡ None → slice_set nodes i node ≡ nodes
    set_none [] i node e = refl
    set_none (x ∷ xs) zero node e = absurd (cc)
    set_none (x ∷ xs) (suc i) node e = ap (λ l. x ∷ l) (set_none xs i node e)

-- the visit of nodes of which it was taken that one waits is the visit of the nodes before
pub taken_visit : {A R : Type 0} (p : Plan A R) (nodes taken : List (PlanNode A)) (i : ℕ) → taken ≡ slice_set nodes i (record (plan_node_at nodes i) { waits = false })
    → acted p.meeting p.code (acts_on p i (plan_node_at taken i).frame) taken ≡ plan_visited p i nodes
taken_visit {A = A} p nodes taken i e = ap (λ (l : List (PlanNode A)). acted p.meeting p.code (acts_on p i (plan_node_at l i).frame) l) e
    ∙ ap (λ frame. acted p.meeting p.code (acts_on p i frame) (slice_set nodes i (record (plan_node_at nodes i) { waits = false }))) (taken_frame nodes i)
    ∙ at_node p nodes i (slice_get nodes i) refl
