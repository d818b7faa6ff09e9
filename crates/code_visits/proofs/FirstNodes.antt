-- The nodes of a method at the start.
use Rattle.std.{proofs.Common.{◌≡◌, ℕ, suc, ◌<◌, true, List, [], ◌∷◌, length, map, replicate, Some, refl, sym, ap, ◌∙◌, arith, slice_set}, specs.{List.AllByRecursion, Option.IfSome}}
use Rattle.jvm_types.specs.declared.code.Insn.{Insn}
use Rattle.checked_program.specs.Visits.{Meeting, PlanNode, unreached, joined, nodes_for}
use Rattle.code_visits.specs.{Level.AreLevel, Waiting.plan_node_at}

others_unreached : (A : Type 0) (insns : List Insn) → map (λ (other : Insn). unreached {A = A}) insns ≡ replicate (length insns) unreached
others_unreached A [] = refl
others_unreached A (insn ∷ insns) = ap (λ l. unreached ∷ l) (others_unreached A insns)

pub first_empty : {A : Type 0} (f : A) (code : List Insn) → code ≡ [] → replicate (length code) unreached ≡ nodes_for f code
first_empty f [] e = refl
first_empty f (insn ∷ insns) e = absurd (cc)

pub first_entered : {A : Type 0} (d : Meeting A) (f : A) (code : List Insn) (nodes mid : List (PlanNode A)) → 0 < length code → nodes ≡ replicate (length code) unreached
    → mid ≡ slice_set nodes 0 (joined d (plan_node_at nodes 0).waits (plan_node_at nodes 0).frame f) → mid ≡ nodes_for f code
first_entered d f [] nodes mid h e k = absurd (omega (arith, h))
first_entered {A = A} d f (insn ∷ insns) nodes mid h e k = k ∙ ap (λ (l : List (PlanNode A)). slice_set l 0 (joined d (plan_node_at l 0).waits (plan_node_at l 0).frame f)) e
    ∙ ap (λ (l : List (PlanNode A)). record { frame = Some f; waits = true } ∷ l) (sym (others_unreached A insns))

pub first_level : {A : Type 0} (width : A → ℕ) (f : A) (code : List Insn) → AreLevel width (width f) code (nodes_for f code)
first_level width f [] = record { long = refl; wide = tt }
first_level {A = A} width f (insn ∷ insns) = record { long = ap suc (same_long insns); wide = (refl, none_wide insns) }
  where
    same_long : (insns : List Insn) → length (map (λ (other : Insn). unreached {A = A}) insns) ≡ length insns
    same_long [] = refl
    same_long (insn ∷ insns) = ap suc (same_long insns)

    none_wide : (insns : List Insn) → AllByRecursion (λ (node : PlanNode A). IfSome node.frame (λ g. width g ≡ width f)) (map (λ (other : Insn). unreached {A = A}) insns)
    none_wide [] = tt
    none_wide (insn ∷ insns) = (tt, none_wide insns)
