-- Visits of any kind are determined: from some nodes on they end in one list of nodes, or at one fault. And where they lead
-- from later nodes they lead from those at the start.
use Rattle.std.proofs.Common.{◌≡◌, ℕ, List, [], ◌∷◌, map, Option, Some, None, Result, Ok, Err, refl, sym, ap, ◌∙◌, subst}
use Rattle.laws_programs.proofs.OneTyping.{some_waits, one_waits}
use Rattle.checked_program.specs.Visits.{PlanNode, Plan, plan_visited, next_waiting, plan_nodes, PlanVisits, PlanBreaks, HasFrames, IsBroken}

-- ---- what is equal to one thing

one_mid : {A R : Type 0} (x : Result (List (PlanNode A)) (R × ℕ)) (mid other : List (PlanNode A)) → x ≡ Ok mid → x ≡ Ok other → mid ≡ other
one_mid x mid other e f = cc

one_fault : {A R : Type 0} (x : Result (List (PlanNode A)) (R × ℕ)) (fault other : R × ℕ) → x ≡ Err fault → x ≡ Err other → fault ≡ other
one_fault x fault other e f = cc

goes_on : {A R : Type 0} (x : Result (List (PlanNode A)) (R × ℕ)) (mid : List (PlanNode A)) (fault : R × ℕ) → x ≡ Ok mid → x ≡ Err fault → ⊥
goes_on x mid fault e f = cc

-- ---- one answer

pub one_last : {A R : Type 0} (p : Plan A R) (nodes last other : List (PlanNode A)) (is js : List ℕ) → PlanVisits p nodes is last → PlanVisits p nodes js other → last ≡ other
one_last p nodes last other [] [] v w = v.1 ∙ sym w.1
one_last p nodes last other [] (j ∷ js) v w = absurd (some_waits (next_waiting nodes) j v.0 w.0)
one_last p nodes last other (i ∷ is) [] v w = absurd (some_waits (next_waiting nodes) i w.0 v.0)
one_last {A = A} p nodes last other (i ∷ is) (j ∷ js) v w =
    let mid : w.1 ≡ v.1 = one_mid (plan_visited p i nodes) w.1 v.1 (subst (λ (k : ℕ). plan_visited p k nodes ≡ Ok w.1) (one_waits (next_waiting nodes) j i w.0 v.0) w.2) v.2 in
    one_last p v.1 last other is js v.3 (subst (λ (n : List (PlanNode A)). PlanVisits p n js other) mid w.3)

-- visits that end break no rule
pub none_breaks : {A R : Type 0} (p : Plan A R) (nodes last : List (PlanNode A)) (is js : List ℕ) (fault : R × ℕ) → PlanVisits p nodes is last → PlanBreaks p nodes js fault → ⊥
none_breaks p nodes last is [] fault v b = b
none_breaks p nodes last [] (j ∷ []) fault v b = some_waits (next_waiting nodes) j v.0 b.0
none_breaks p nodes last [] (j ∷ k ∷ js) fault v b = some_waits (next_waiting nodes) j v.0 b.0
none_breaks p nodes last (i ∷ is) (j ∷ []) fault v b =
    goes_on (plan_visited p i nodes) v.1 fault v.2 (subst (λ (k : ℕ). plan_visited p k nodes ≡ Err fault) (one_waits (next_waiting nodes) j i b.0 v.0) b.1)
none_breaks {A = A} p nodes last (i ∷ is) (j ∷ k ∷ js) fault v b =
    let mid : b.1 ≡ v.1 = one_mid (plan_visited p i nodes) b.1 v.1 (subst (λ (n : ℕ). plan_visited p n nodes ≡ Ok b.1) (one_waits (next_waiting nodes) j i b.0 v.0) b.2) v.2 in
    none_breaks p v.1 last is (k ∷ js) fault v.3 (subst (λ (n : List (PlanNode A)). PlanBreaks p n (k ∷ js) fault) mid b.3)

pub one_break : {A R : Type 0} (p : Plan A R) (nodes : List (PlanNode A)) (is js : List ℕ) (fault other : R × ℕ) → PlanBreaks p nodes is fault → PlanBreaks p nodes js other → fault ≡ other
one_break p nodes [] js fault other a b = absurd a
one_break p nodes (i ∷ is) [] fault other a b = absurd b
one_break p nodes (i ∷ []) (j ∷ []) fault other a b =
    one_fault (plan_visited p i nodes) fault other a.1 (subst (λ (n : ℕ). plan_visited p n nodes ≡ Err other) (one_waits (next_waiting nodes) j i b.0 a.0) b.1)
one_break p nodes (i ∷ []) (j ∷ k ∷ js) fault other a b =
    absurd (goes_on (plan_visited p i nodes) b.1 fault (subst (λ (n : ℕ). plan_visited p n nodes ≡ Ok b.1) (one_waits (next_waiting nodes) j i b.0 a.0) b.2) a.1)
one_break p nodes (i ∷ h ∷ is) (j ∷ []) fault other a b =
    absurd (goes_on (plan_visited p i nodes) a.1 other a.2 (subst (λ (n : ℕ). plan_visited p n nodes ≡ Err other) (one_waits (next_waiting nodes) j i b.0 a.0) b.1))
one_break {A = A} p nodes (i ∷ h ∷ is) (j ∷ k ∷ js) fault other a b =
    let mid : b.1 ≡ a.1 = one_mid (plan_visited p i nodes) b.1 a.1 (subst (λ (n : ℕ). plan_visited p n nodes ≡ Ok b.1) (one_waits (next_waiting nodes) j i b.0 a.0) b.2) a.2 in
    one_break p a.1 (h ∷ is) (k ∷ js) fault other a.3 (subst (λ (n : List (PlanNode A)). PlanBreaks p n (k ∷ js) other) mid b.3)

pub one_frames : {A R : Type 0} (p : Plan A R) (frames others : List (Option A)) → HasFrames p frames → HasFrames p others → frames ≡ others
one_frames {A = A} p frames others v w =
    v.are ∙ ap (map (λ (node : PlanNode A). node.frame)) (one_last p (plan_nodes p) v.last w.last v.visits w.visits v.made w.made) ∙ sym w.are

pub framed_not_broken : {A R : Type 0} (p : Plan A R) (frames : List (Option A)) (rule : R) (pc : ℕ) → HasFrames p frames → IsBroken p rule pc → ⊥
framed_not_broken p frames rule pc v b = none_breaks p (plan_nodes p) v.last v.visits b.visits (rule, pc) v.made b.broken

pub one_breach : {A R : Type 0} (p : Plan A R) (rule other : R) (pc at : ℕ) → IsBroken p rule pc → IsBroken p other at → (rule ≡ other) × (pc ≡ at)
one_breach p rule other pc at a b =
    let same = one_break p (plan_nodes p) a.visits b.visits (rule, pc) (other, at) a.broken b.broken in
    (ap (λ x. x.0) same, ap (λ x. x.1) same)

-- ---- one visit on

-- some visits lead from nodes to the last ones, of which none waits
abbrev pub Settle : {A R : Type 0} → Plan A R → List (PlanNode A) → List (PlanNode A) → Type 0
Settle p nodes last = (visits : List ℕ) × PlanVisits p nodes visits last

-- or to one that breaks a rule
abbrev pub Break : {A R : Type 0} → Plan A R → List (PlanNode A) → R × ℕ → Type 0
Break p nodes fault = (visits : List ℕ) × PlanBreaks p nodes visits fault

-- where the visits lead from now on they lead from the start
pub record Continues {A R : Type 0} (p : Plan A R) (start now : List (PlanNode A)) : Type 0 where
  pub settles : (last : List (PlanNode A)) → Settle p now last → Settle p start last
  pub breaks : (fault : R × ℕ) → Break p now fault → Break p start fault

pub continues_start : {A R : Type 0} (p : Plan A R) (nodes : List (PlanNode A)) → Continues p nodes nodes
continues_start p nodes = record { settles = λ last s. s; breaks = λ fault b. b }

break_more : {A R : Type 0} (p : Plan A R) (nodes mid : List (PlanNode A)) (i : ℕ) (fault : R × ℕ) → next_waiting nodes ≡ Some i → plan_visited p i nodes ≡ Ok mid → (rest : List ℕ) → PlanBreaks p mid rest fault → Break p nodes fault
break_more p nodes mid i fault n v [] b = absurd b
break_more p nodes mid i fault n v (j ∷ rest) b = (i ∷ j ∷ rest, (n, mid, v, b))

pub continues_more : {A R : Type 0} (p : Plan A R) (start now mid : List (PlanNode A)) (i : ℕ) → next_waiting now ≡ Some i → plan_visited p i now ≡ Ok mid → Continues p start now → Continues p start mid
continues_more p start now mid i n v c = record {
  settles = λ last s. c.settles last (i ∷ s.0, (n, mid, v, s.1));
  breaks = λ fault b. c.breaks fault (break_more p now mid i fault n v b.0 b.1);
}

pub settled : {A R : Type 0} (p : Plan A R) (start now : List (PlanNode A)) → next_waiting now ≡ None → Continues p start now → Settle p start now
settled p start now n c = c.settles now ([], (n, refl))

pub broken : {A R : Type 0} (p : Plan A R) (start now : List (PlanNode A)) (i : ℕ) (fault : R × ℕ) → next_waiting now ≡ Some i → plan_visited p i now ≡ Err fault → Continues p start now → Break p start fault
broken p start now i fault n v c = c.breaks fault (i ∷ [], (n, v))
