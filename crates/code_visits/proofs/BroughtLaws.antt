-- Edges: what one leaves of the nodes, by the number of the instruction that it leads to.
use Rattle.std.proofs.Common.{◌≡◌, ℕ, suc, ◌<◌, Bool, true, false, List, [], ◌∷◌, ◌++◌, length, Option, Some, None, refl, sym, ap, ◌∙◌, arith, ◌==◌, if◌then◌else◌, slice_set}
use Rattle.std.specs.{List.AllByRecursion, Option.{option_map, IfSome}}
use Rattle.jvm_types.specs.declared.code.Insn.{Insn}
use Rattle.code_table.specs.PcTables.{number_at}
use Rattle.checked_program.specs.Visits.{Meeting, PlanNode, joined, edge_brought, edges_brought}
use Rattle.code_visits.specs.{Level.{IsLawfulMeeting, AreLevel}, Waiting.plan_node_at}

-- ---- an edge, by the number of the instruction

abbrev pub at_place : {A : Type 0} → Meeting A → Option ℕ → A → List (PlanNode A) → List (PlanNode A)
at_place d None f nodes = nodes
at_place d (Some i) f nodes = slice_set nodes i (joined d (plan_node_at nodes i).waits (plan_node_at nodes i).frame f)

one_on : {A : Type 0} (d : Meeting A) (o : Option ℕ) (node : PlanNode A) (f : A) (nodes : List (PlanNode A)) → node ∷ at_place d o f nodes ≡ at_place d (option_map suc o) f (node ∷ nodes)
one_on d None node f nodes = refl
one_on d (Some i) node f nodes = refl

pub brought_at : {A : Type 0} (d : Meeting A) (code : List Insn) (to : ℕ) (f : A) (nodes : List (PlanNode A)) → length nodes ≡ length code
    → edge_brought d code to f nodes ≡ at_place d (number_at code to) f nodes
brought_at d [] to f nodes e = refl
brought_at d (insn ∷ insns) to f [] e = absurd (omega (arith, e))
brought_at d (insn ∷ insns) to f (node ∷ nodes) e = by_test (insn.pc == to) (brought_at d insns to f nodes (omega (arith, e)))
  where
    by_test : (t : Bool) → edge_brought d insns to f nodes ≡ at_place d (number_at insns to) f nodes
        → (if t then joined d node.waits node.frame f ∷ nodes else node ∷ edge_brought d insns to f nodes) ≡ at_place d (if t then Some 0 else option_map suc (number_at insns to)) f (node ∷ nodes)
    by_test true h = refl
    by_test false h = ap (λ l. node ∷ l) h ∙ one_on d (number_at insns to) node f nodes

pub place_inside : (code : List Insn) (pc i : ℕ) → number_at code pc ≡ Some i → i < length code
place_inside [] pc i e = absurd (cc)
place_inside (insn ∷ insns) pc i e = by_test (insn.pc == pc) (number_at insns pc) e (place_inside insns pc)
  where
    by_test : (t : Bool) (o : Option ℕ) → (if t then Some 0 else option_map suc o) ≡ Some i → ((j : ℕ) → o ≡ Some j → j < length insns) → i < suc (length insns)
    by_test true o e h = let same : 0 ≡ i = cc in omega (arith, same)
    by_test false None e h = absurd (cc)
    by_test false (Some j) e h = let same : suc j ≡ i = cc in omega (arith, same, h j refl)

-- ---- what it keeps

length_brought : {A : Type 0} (d : Meeting A) (code : List Insn) (to : ℕ) (f : A) (nodes : List (PlanNode A)) → length (edge_brought d code to f nodes) ≡ length nodes
length_brought d [] to f nodes = refl
length_brought d (insn ∷ insns) to f [] = refl
length_brought d (insn ∷ insns) to f (node ∷ nodes) = by_test (insn.pc == to) (length_brought d insns to f nodes)
  where
    by_test : (t : Bool) → length (edge_brought d insns to f nodes) ≡ length nodes
        → length (if t then joined d node.waits node.frame f ∷ nodes else node ∷ edge_brought d insns to f nodes) ≡ suc (length nodes)
    by_test true h = refl
    by_test false h = ap suc h

joined_wide : {A : Type 0} (d : Meeting A) (width : A → ℕ) (places : ℕ) (waits : Bool) (frame : Option A) (f : A) → IsLawfulMeeting d width → IfSome frame (λ g. width g ≡ places) → width f ≡ places
    → IfSome (joined d waits frame f).frame (λ g. width g ≡ places)
joined_wide d width places waits None f law h k = k
joined_wide d width places waits (Some g) f law h k = law.met_wide g f (h ∙ sym k) ∙ k

wide_brought : {A : Type 0} (d : Meeting A) (width : A → ℕ) (places : ℕ) (code : List Insn) (to : ℕ) (f : A) (nodes : List (PlanNode A)) → IsLawfulMeeting d width → width f ≡ places
    → AllByRecursion (λ (node : PlanNode A). IfSome node.frame (λ g. width g ≡ places)) nodes → AllByRecursion (λ (node : PlanNode A). IfSome node.frame (λ g. width g ≡ places)) (edge_brought d code to f nodes)
wide_brought d width places [] to f nodes law k all = all
wide_brought d width places (insn ∷ insns) to f [] law k all = tt
wide_brought {A = A} d width places (insn ∷ insns) to f (node ∷ nodes) law k all = by_test (insn.pc == to) (wide_brought d width places insns to f nodes law k all.1)
  where
    by_test : (t : Bool) → AllByRecursion (λ (node : PlanNode A). IfSome node.frame (λ g. width g ≡ places)) (edge_brought d insns to f nodes)
        → AllByRecursion (λ (node : PlanNode A). IfSome node.frame (λ g. width g ≡ places)) (if t then joined d node.waits node.frame f ∷ nodes else node ∷ edge_brought d insns to f nodes)
    by_test true h = (joined_wide d width places node.waits node.frame f law all.0 k, all.1)
    by_test false h = (all.0, h)

pub level_brought : {A : Type 0} (d : Meeting A) (width : A → ℕ) (places : ℕ) (code : List Insn) (to : ℕ) (f : A) (nodes : List (PlanNode A)) → IsLawfulMeeting d width → width f ≡ places
    → AreLevel width places code nodes → AreLevel width places code (edge_brought d code to f nodes)
level_brought d width places code to f nodes law k level = record {
  long = length_brought d code to f nodes ∙ level.long;
  wide = wide_brought d width places code to f nodes law k level.wide;
}

pub brought_last : {A : Type 0} (d : Meeting A) (code : List Insn) (tos : List ℕ) (last : ℕ) (f : A) (nodes : List (PlanNode A))
    → edges_brought d code (tos ++ last ∷ []) f nodes ≡ edge_brought d code last f (edges_brought d code tos f nodes)
brought_last d code [] last f nodes = refl
brought_last d code (to ∷ tos) last f nodes = brought_last d code tos last f (edge_brought d code to f nodes)
