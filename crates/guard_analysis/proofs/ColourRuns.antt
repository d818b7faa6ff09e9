-- The visits of a colouring break no rule: no frames of colours clash.
use Rattle.std.proofs.Common.{◌≡◌, ℕ, Bool, true, false, cond, ◌&&◌, List, [], ◌∷◌, map, Option, Some, None, Result, Ok, Err, refl, sym, ap, ◌∙◌, subst, slice_get, slice_set}
use Rattle.std.specs.List.{AllByRecursion}
use Rattle.jvm_types.specs.{Numbers.has_number, declared.{code.Insn.Insn, program.{MethodInfo.MethodInfo, Program.Program, Row.Row, Target.Target}}}
use Rattle.checked_program.specs.Visits.{Act, Break, Bring, PlanNode, acted, acts_on, edges_brought, clashes_with, meeting_clash, unless_meeting_clash, visited_node, plan_visited, plan_nodes, PlanBreaks, IsBroken}
use Rattle.guard_analysis.specs.{ColourVisits.{colour_meeting, colours_at_handlers, colour_acts_at, colour_plan}, declared.colouring.{Colour.{Colour, TheVariants.Plain}, NoRule.NoRule}}

abbrev Nodes : Type 0
Nodes = List (PlanNode (List Colour))

pub never_clash : (code : List Insn) (tos : List ℕ) (f : List Colour) (nodes : Nodes) → meeting_clash colour_meeting code tos f nodes ≡ None
never_clash [] tos f nodes = refl
never_clash (insn ∷ code) tos f [] = refl
never_clash (insn ∷ code) tos f (node ∷ nodes) = ap (λ (t : Bool). cond t (Some insn.pc) (meeting_clash colour_meeting code tos f nodes)) (at (has_number tos insn.pc) node.frame) ∙ never_clash code tos f nodes
  where
    at : (t : Bool) (o : Option (List Colour)) → (t && clashes_with colour_meeting o f) ≡ false
    at false o = refl
    at true None = refl
    at true (Some g) = refl

abbrev IsBring : Act (List Colour) NoRule → Type 0
IsBring (Break rule pc) = ⊥
IsBring (Bring rule tos f) = Unit {0}

all_done : (code : List Insn) (acts : List (Act (List Colour) NoRule)) (nodes : Nodes) → AllByRecursion IsBring acts → (mid : Nodes) × (acted colour_meeting code acts nodes ≡ Ok mid)
all_done code [] nodes all = (nodes, refl)
all_done code (Break rule pc ∷ acts) nodes all = absurd all.0
all_done code (Bring rule tos f ∷ acts) nodes all =
    let more = all_done code acts (edges_brought colour_meeting code tos f nodes) all.1 in
    (more.0, ap (λ (o : Option ℕ). unless_meeting_clash rule o (acted colour_meeting code acts (edges_brought colour_meeting code tos f nodes))) (never_clash code tos f nodes) ∙ more.1)

handlers_bring : (rows : List Row) → AllByRecursion IsBring (colours_at_handlers (Plain ∷ []) rows)
handlers_bring [] = tt
handlers_bring (handler ∷ rows) = (tt, handlers_bring rows)

acts_bring : (p : Program) (m : MethodInfo) (o : Option Insn) (q : Option Target) (f : List Colour) → AllByRecursion IsBring (colour_acts_at p m o q f)
acts_bring p m (Some insn) (Some target) f = (tt, handlers_bring _)
acts_bring p m o q f = tt

visit_done : (p : Program) (m : MethodInfo) (i : ℕ) (nodes : Nodes) → (mid : Nodes) × (plan_visited (colour_plan p m) i nodes ≡ Ok mid)
visit_done p m i nodes = by_node (slice_get nodes i)
  where
    by_frame : (o : Option (List Colour)) (before : Nodes) → (mid : Nodes) × (acted colour_meeting m.code (acts_on (colour_plan p m) i o) before ≡ Ok mid)
    by_frame None before = (before, refl)
    by_frame (Some f) before = all_done m.code ((colour_plan p m).acts i f) before (acts_bring p m (slice_get m.code i) (slice_get m.targets i) f)

    by_node : (o : Option (PlanNode (List Colour))) → (mid : Nodes) × (visited_node (colour_plan p m) i o nodes ≡ Ok mid)
    by_node None = (nodes, refl)
    by_node (Some node) = by_frame node.frame (slice_set nodes i (record node { waits = false }))

none_breaks : (p : Program) (m : MethodInfo) (nodes : Nodes) (is : List ℕ) (fault : NoRule × ℕ) → PlanBreaks (colour_plan p m) nodes is fault → ⊥
none_breaks p m nodes [] fault h = h
none_breaks p m nodes (i ∷ []) fault h = let done = visit_done p m i nodes in let bad : Ok done.0 ≡ Err fault = sym done.1 ∙ h.1 in cc
none_breaks p m nodes (i ∷ j ∷ is) fault h = none_breaks p m h.1 (j ∷ is) fault h.3

pub none_broken : (p : Program) (m : MethodInfo) (rule : NoRule) (pc : ℕ) → IsBroken (colour_plan p m) rule pc → ⊥
none_broken p m rule pc h = none_breaks p m (plan_nodes (colour_plan p m)) h.visits (rule, pc) h.broken
