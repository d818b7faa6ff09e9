-- Nodes that stay as they are where an edge brings a frame.
use Rattle.std.proofs.{Common.{◌≡◌, ℕ, zero, suc, Bool, true, false, not, List, [], ◌∷◌, Some, refl, sym, ap, ◌∙◌, ◌||◌, slice_set}, Math.Bool.or-false}
use Rattle.checked_program.specs.Visits.{Meeting, PlanNode, joined}
use Rattle.code_visits.specs.{Level.IsLawfulMeeting, Waiting.plan_node_at}

node_stays : {A : Type 0} (d : Meeting A) (width : A → ℕ) (node : PlanNode A) (g f : A) → IsLawfulMeeting d width → Some g ≡ node.frame → d.meet g f ≡ g → joined d node.waits node.frame f ≡ node
node_stays d width node g f law e s =
    let same : d.same g (d.meet g f) ≡ true = ap (λ h. d.same g h) s ∙ law.same g in
    ap (λ o. joined d node.waits o f) (sym e)
    ∙ (λ i. record { frame = (ap Some s ∙ e) i; waits = (ap (λ b. node.waits || not b) same ∙ or-false node.waits) i })

set_there : {A : Type 0} (nodes : List (PlanNode A)) (i : ℕ) (node : PlanNode A) → node ≡ plan_node_at nodes i → slice_set nodes i node ≡ nodes
set_there [] i node e = refl
set_there (x ∷ xs) zero node e = ap (λ y. y ∷ xs) e
set_there (x ∷ xs) (suc i) node e = ap (λ ys. x ∷ ys) (set_there xs i node e)

pub stays_there : {A : Type 0} (d : Meeting A) (width : A → ℕ) (nodes : List (PlanNode A)) (i : ℕ) (g f : A) → IsLawfulMeeting d width → Some g ≡ (plan_node_at nodes i).frame → d.meet g f ≡ g
    → slice_set nodes i (joined d (plan_node_at nodes i).waits (plan_node_at nodes i).frame f) ≡ nodes
stays_there d width nodes i g f law e s = set_there nodes i (joined d (plan_node_at nodes i).waits (plan_node_at nodes i).frame f) (node_stays d width (plan_node_at nodes i) g f law e s)
