-- Visits of any kind end, where frames have ranks: a frame that met another and changed has a lower one, and an instruction
-- brings frames whose ranks are not far above that of its own. A visit clears one flag, and a node that begins to wait has a
-- frame that went down; one without a frame is above all frames that it can have.
use Rattle.std.proofs.Common.{◌≡◌, ℕ, zero, suc, ◌+◌, ◌*◌, ◌<◌, ◌≤◌, Bool, true, false, List, [], ◌∷◌, map, Option, Some, None, Result, Ok, Err, ◌⊎◌, inl, inr, refl, sym, ap, subst, arith, ◌||◌, not, ◌==◌, if◌then◌else◌, slice_get, slice_set}
use Rattle.std.{specs.List.AllByRecursion, proofs.lemmas.Bool.cond_both}
use Rattle.jvm_types.{specs.declared.code.Insn.Insn, proofs.EachAfter.all_weaker}
use Rattle.checked_program.specs.Visits.{Meeting, Act, Break, Bring, PlanNode, Plan, unreached, joined, edge_brought, edges_brought, meeting_clash, acted, acts_on, visited_node, plan_visited, first_waiting, next_waiting, nodes_for, plan_nodes, PlanVisits, PlanBreaks, HasFrames, IsBroken}
use Rattle.laws_sections.proofs.VisitedNodes.{unclashed}

-- ---- ranks

-- no frame that goes along an edge has a rank above the bound
abbrev pub BringsUpTo : {A R : Type 0} → (A → ℕ) → ℕ → Act A R → Type 0
BringsUpTo rank bound (Break rule pc) = Unit {0}
BringsUpTo rank bound (Bring rule tos f) = rank f ≤ bound

pub record Ranks {A R : Type 0} (p : Plan A R) : Type 0 where
  pub rank : A → ℕ
  pub gain : ℕ
  pub equal : (f g : A) → p.meeting.same f g ≡ true → f ≡ g
  pub falls : (g f : A) → p.meeting.same g (p.meeting.meet g f) ≡ false → rank (p.meeting.meet g f) < rank g
  pub gains : (i : ℕ) (f : A) → AllByRecursion (BringsUpTo rank (rank f + gain)) (p.acts i f)

-- ---- the work that is left

-- how far the ranks can still rise: by the gain for each instruction without a frame
abbrev room_for : {A : Type 0} → ℕ → Option A → ℕ
room_for gain None = gain
room_for gain (Some f) = 0

abbrev room : {A : Type 0} → ℕ → List (PlanNode A) → ℕ
room gain [] = 0
room gain (node ∷ nodes) = room_for gain node.frame + room gain nodes

-- what is counted of one instruction: a frame twice, so that it may begin to wait where it goes down
abbrev frame_rank : {A : Type 0} → (A → ℕ) → ℕ → Option A → ℕ
frame_rank rank most None = most
frame_rank rank most (Some f) = rank f

abbrev flag : Bool → ℕ
flag true = 1
flag false = 0

abbrev weight : {A : Type 0} → (A → ℕ) → ℕ → Option A → Bool → ℕ
weight rank most frame waits = 2 * frame_rank rank most frame + flag waits

abbrev weights : {A : Type 0} → (A → ℕ) → ℕ → List (PlanNode A) → ℕ
weights rank most [] = 0
weights rank most (node ∷ nodes) = weight rank most node.frame node.waits + weights rank most nodes

-- no rank is above this one
abbrev pub highest : {A R : Type 0} (p : Plan A R) → Ranks p → ℕ
highest p k = k.rank p.first + room k.gain (plan_nodes p)

pub work : {A R : Type 0} (p : Plan A R) → Ranks p → List (PlanNode A) → ℕ
work p k nodes = weights k.rank (suc (highest p k + k.gain)) nodes

-- ---- frames with ranks up to a bound

abbrev IsUnder : {A : Type 0} → (A → ℕ) → ℕ → Option A → Type 0
IsUnder rank bound None = Unit {0}
IsUnder rank bound (Some f) = rank f ≤ bound

abbrev AreUnder : {A : Type 0} → (A → ℕ) → ℕ → List (PlanNode A) → Type 0
AreUnder rank bound nodes = AllByRecursion (λ node. IsUnder rank bound node.frame) nodes

pub record IsKept {A R : Type 0} (p : Plan A R) (k : Ranks p) (nodes : List (PlanNode A)) : Type 0 where
  bound : ℕ
  under : AreUnder k.rank bound nodes
  fits : bound + room k.gain nodes ≤ highest p k

-- ---- steps on the nodes

module _ {A : Type 0} (d : Meeting A) (rank : A → ℕ) (gain most : ℕ) (equal : (f g : A) → d.same f g ≡ true → f ≡ g)
    (falls : (g f : A) → d.same g (d.meet g f) ≡ false → rank (d.meet g f) < rank g) where
  is_under : (b c : ℕ) (frame : Option A) → b ≤ c → IsUnder rank b frame → IsUnder rank c frame
  is_under b c None e h = tt
  is_under b c (Some f) e h = omega (arith, e, h)

  are_under : (b c : ℕ) (nodes : List (PlanNode A)) → b ≤ c → AreUnder rank b nodes → AreUnder rank c nodes
  are_under b c [] e h = tt
  are_under b c (node ∷ nodes) e h = (is_under b c node.frame e h.0, are_under b c nodes e h.1)

  -- what a step leaves of nodes whose frames are under a bound
  record Lowers (b : ℕ) (nodes mid : List (PlanNode A)) : Type 0 where
    bound : ℕ
    above : b ≤ bound
    under : AreUnder rank bound mid
    fits : bound + room gain mid ≤ b + room gain nodes
    less : weights rank most mid ≤ weights rank most nodes

  same_nodes : (b : ℕ) (nodes : List (PlanNode A)) → AreUnder rank b nodes → Lowers b nodes nodes
  same_nodes b nodes h = record { bound = b; above = omega arith; under = h; fits = omega arith; less = omega arith }

  then_lowers : (b : ℕ) (nodes mid last : List (PlanNode A)) → (a : Lowers b nodes mid) → Lowers a.bound mid last → Lowers b nodes last
  then_lowers b nodes mid last a c = record { bound = c.bound; above = omega (arith, a.above, c.above); under = c.under; fits = omega (arith, a.fits, c.fits); less = omega (arith, a.less, c.less) }

  on_others : (b : ℕ) (node : PlanNode A) (nodes after : List (PlanNode A)) → IsUnder rank b node.frame → Lowers b nodes after → Lowers b (node ∷ nodes) (node ∷ after)
  on_others b node nodes after u a = record { bound = a.bound; above = a.above; under = (is_under b a.bound node.frame a.above u, a.under); fits = omega (arith, a.fits); less = omega (arith, a.less) }

  meet_lower : (g f : A) (t : Bool) → d.same g (d.meet g f) ≡ t → rank (d.meet g f) ≤ rank g
  meet_lower g f true e = omega (arith, ap rank (equal g (d.meet g f) e))
  meet_lower g f false e = omega (arith, falls g f e)

  met_weight : (g f : A) (waits t : Bool) → d.same g (d.meet g f) ≡ t → weight rank most (Some (d.meet g f)) (waits || not t) ≤ weight rank most (Some g) waits
  met_weight g f true true e = omega (arith, ap rank (equal g (d.meet g f) e))
  met_weight g f false true e = omega (arith, ap rank (equal g (d.meet g f) e))
  met_weight g f waits t e = omega (arith, falls g f e)

  new_weight : (f : A) (waits : Bool) → rank f < most → weight rank most (Some f) true ≤ weight rank most None waits
  new_weight f waits e = omega (arith, e)

  on_first : (b : ℕ) (waits : Bool) (frame : Option A) (f : A) (nodes : List (PlanNode A)) → IsUnder rank b frame → AreUnder rank b nodes → rank f ≤ b + gain → rank f < most
      → Lowers b (record { frame = frame; waits = waits } ∷ nodes) (joined d waits frame f ∷ nodes)
  on_first b waits None f nodes u h e l = record { bound = b + gain; above = omega arith; under = (e, are_under b (b + gain) nodes (omega arith) h); fits = omega arith; less = omega (arith, new_weight f waits l) }
  on_first b waits (Some g) f nodes u h e l = record {
    bound = b;
    above = omega arith;
    under = (omega (arith, u, meet_lower g f (d.same g (d.meet g f)) refl), h);
    fits = omega arith;
    less = omega (arith, met_weight g f waits (d.same g (d.meet g f)) refl);
  }

  brought_lowers : (b : ℕ) (code : List Insn) (to : ℕ) (f : A) (nodes : List (PlanNode A)) → AreUnder rank b nodes → rank f ≤ b + gain → rank f < most → Lowers b nodes (edge_brought d code to f nodes)
  brought_lowers b [] to f nodes h e l = same_nodes b nodes h
  brought_lowers b (insn ∷ insns) to f [] h e l = same_nodes b [] h
  brought_lowers b (insn ∷ insns) to f (node ∷ nodes) h e l = cond_both (insn.pc == to) (joined d node.waits node.frame f ∷ nodes) (node ∷ edge_brought d insns to f nodes) (Lowers b (node ∷ nodes))
      (λ t. on_first b node.waits node.frame f nodes h.0 h.1 e l) (λ t. on_others b node nodes (edge_brought d insns to f nodes) h.0 (brought_lowers b insns to f nodes h.1 e l))

  all_brought_lowers : (b : ℕ) (code : List Insn) (tos : List ℕ) (f : A) (nodes : List (PlanNode A)) → AreUnder rank b nodes → rank f ≤ b + gain → rank f < most → Lowers b nodes (edges_brought d code tos f nodes)
  all_brought_lowers b code [] f nodes h e l = same_nodes b nodes h
  all_brought_lowers b code (to ∷ tos) f nodes h e l =
      let mid : List (PlanNode A) = edge_brought d code to f nodes in
      let one : Lowers b nodes mid = brought_lowers b code to f nodes h e l in
      then_lowers b nodes mid (edges_brought d code tos f mid) one (all_brought_lowers one.bound code tos f mid one.under (omega (arith, e, one.above)) l)

  -- the frames of one visit are bounded by what was there when it began
  acted_lowers : {R : Type 0} (start b : ℕ) (code : List Insn) (acts : List (Act A R)) (nodes mid : List (PlanNode A)) → start ≤ b → start + gain < most → AreUnder rank b nodes
      → AllByRecursion (BringsUpTo rank (start + gain)) acts → acted d code acts nodes ≡ Ok mid → Lowers b nodes mid
  acted_lowers start b code [] nodes mid s l h a e = let same : nodes ≡ mid = cc in subst (λ (ns : List (PlanNode A)). Lowers b nodes ns) same (same_nodes b nodes h)
  acted_lowers start b code (Break rule pc ∷ acts) nodes mid s l h a e = absurd (cc)
  acted_lowers start b code (Bring rule tos f ∷ acts) nodes mid s l h a e =
      let next : List (PlanNode A) = edges_brought d code tos f nodes in
      let small : rank f ≤ start + gain = a.0 in
      let one : Lowers b nodes next = all_brought_lowers b code tos f nodes h (omega (arith, small, s)) (omega (arith, small, l)) in
      then_lowers b nodes next mid one (acted_lowers start one.bound code acts next mid (omega (arith, s, one.above)) l one.under a.1 (unclashed rule (meeting_clash d code tos f nodes) (acted d code acts next) mid e).1)

  -- ---- the instruction that is visited

  -- it is there, and it waits no more
  record IsCleared (nodes : List (PlanNode A)) (from i : ℕ) : Type 0 where
    number : ℕ
    there : i ≡ from + number
    node : PlanNode A
    got : slice_get nodes number ≡ Some node
    under : (b : ℕ) → AreUnder rank b nodes → IsUnder rank b node.frame × AreUnder rank b (slice_set nodes number (record node { waits = false }))
    roomy : room gain (slice_set nodes number (record node { waits = false })) ≡ room gain nodes
    less : weights rank most (slice_set nodes number (record node { waits = false })) < weights rank most nodes

  next_clears : (nodes : List (PlanNode A)) (from i : ℕ) → first_waiting from nodes ≡ Some i → IsCleared nodes from i
  next_clears [] from i e = absurd (cc)
  next_clears (node ∷ nodes) from i e = by_test node.waits refl e (λ h. next_clears nodes (suc from) i h)
    where
      by_test : (t : Bool) → node.waits ≡ t → (if t then Some from else first_waiting (suc from) nodes) ≡ Some i → (first_waiting (suc from) nodes ≡ Some i → IsCleared nodes (suc from) i) → IsCleared (node ∷ nodes) from i
      by_test true w h more =
          let here : from ≡ i = cc in
          let less = subst (λ (b : Bool). weights rank most (record node { waits = false } ∷ nodes) < weight rank most node.frame b + weights rank most nodes) (sym w) (omega arith) in
          record { number = 0; there = omega (arith, here); node = node; got = refl; under = λ b u. (u.0, u); roomy = refl; less = less }
      by_test false w h more =
          let later : IsCleared nodes (suc from) i = more h in
          record {
            number = suc later.number;
            there = omega (arith, later.there);
            node = later.node;
            got = later.got;
            under = λ b u. let l = later.under b u.1 in (l.0, (u.0, l.1));
            roomy = ap (λ (n : ℕ). room_for gain node.frame + n) later.roomy;
            less = omega (arith, later.less);
          }

-- ---- the laws of one visit

others_under : {A : Type 0} (rank : A → ℕ) (b : ℕ) (insns : List Insn) → AreUnder rank b (map (λ (other : Insn). unreached) insns)
others_under rank b [] = tt
others_under rank b (insn ∷ insns) = (tt, others_under rank b insns)

first_under : {A : Type 0} (rank : A → ℕ) (f : A) (code : List Insn) → AreUnder rank (rank f) (nodes_for f code)
first_under rank f [] = tt
first_under rank f (insn ∷ insns) = (omega arith, others_under rank (rank f) insns)

pub first_kept : {A R : Type 0} (p : Plan A R) (k : Ranks p) → IsKept p k (plan_nodes p)
first_kept p k = record { bound = k.rank p.first; under = first_under k.rank p.first p.code; fits = omega arith }

record Visit {A R : Type 0} (p : Plan A R) (k : Ranks p) (nodes mid : List (PlanNode A)) : Type 0 where
  kept : IsKept p k mid
  less : work p k mid < work p k nodes

brings_more : {A R : Type 0} (rank : A → ℕ) (b c : ℕ) → b ≤ c → (act : Act A R) → BringsUpTo rank b act → BringsUpTo rank c act
brings_more rank b c e (Break rule pc) h = tt
brings_more rank b c e (Bring rule tos f) h = omega (arith, e, h)

acts_small : {A R : Type 0} (p : Plan A R) (k : Ranks p) (b i : ℕ) (frame : Option A) → IsUnder k.rank b frame → AllByRecursion (BringsUpTo k.rank (b + k.gain)) (acts_on p i frame)
acts_small p k b i None u = tt
acts_small p k b i (Some f) u = all_weaker (BringsUpTo k.rank (k.rank f + k.gain)) (BringsUpTo k.rank (b + k.gain)) (brings_more k.rank (k.rank f + k.gain) (b + k.gain) (omega (arith, u))) (p.acts i f) (k.gains i f)

one_visit : {A R : Type 0} (p : Plan A R) (k : Ranks p) (nodes mid : List (PlanNode A)) (i : ℕ) → IsKept p k nodes → next_waiting nodes ≡ Some i → plan_visited p i nodes ≡ Ok mid → Visit p k nodes mid
unfolding work
one_visit {A = A} p k nodes mid i h next e = from (next_clears p.meeting k.rank k.gain most k.equal k.falls nodes 0 i next)
  where
    most : ℕ
    most = suc (highest p k + k.gain)

    from : IsCleared p.meeting k.rank k.gain most k.equal k.falls nodes 0 i → Visit p k nodes mid
    from c = record { kept = record { bound = lowers.bound; under = lowers.under; fits = omega (arith, lowers.fits, c.roomy, h.fits) }; less = omega (arith, lowers.less, c.less) }
      where
        cleared : List (PlanNode A)
        cleared = slice_set nodes c.number (record c.node { waits = false })

        went : acted p.meeting p.code (acts_on p c.number c.node.frame) cleared ≡ Ok mid
        went = subst (λ (o : Option (PlanNode A)). visited_node p c.number o nodes ≡ Ok mid) c.got (subst (λ (j : ℕ). plan_visited p j nodes ≡ Ok mid) (omega (arith, c.there)) e)

        under : IsUnder k.rank h.bound c.node.frame × AreUnder k.rank h.bound cleared
        under = c.under h.bound h.under

        lowers : Lowers p.meeting k.rank k.gain most k.equal k.falls h.bound cleared mid
        lowers = acted_lowers p.meeting k.rank k.gain most k.equal k.falls h.bound h.bound p.code (acts_on p c.number c.node.frame) cleared mid (omega arith) (omega (arith, h.fits)) under.1
            (acts_small p k h.bound c.number c.node.frame under.0) went

pub visit_keeps : {A R : Type 0} (p : Plan A R) (k : Ranks p) (nodes mid : List (PlanNode A)) (i : ℕ) → IsKept p k nodes → next_waiting nodes ≡ Some i → plan_visited p i nodes ≡ Ok mid → IsKept p k mid
visit_keeps p k nodes mid i h next e = (one_visit p k nodes mid i h next e).kept

pub visit_works : {A R : Type 0} (p : Plan A R) (k : Ranks p) (nodes mid : List (PlanNode A)) (i : ℕ) → IsKept p k nodes → next_waiting nodes ≡ Some i → plan_visited p i nodes ≡ Ok mid → work p k mid < work p k nodes
visit_works p k nodes mid i h next e = (one_visit p k nodes mid i h next e).less

-- ---- all visits

-- how the visits from some nodes on end
data Ends {A R : Type 0} (p : Plan A R) (nodes : List (PlanNode A)) : Type 0 where
  Last : (visits : List ℕ) (last : List (PlanNode A)) (made : PlanVisits p nodes visits last) → Ends p nodes
  Broken : (i : ℕ) (visits : List ℕ) (fault : R × ℕ) (broken : PlanBreaks p nodes (i ∷ visits) fault) → Ends p nodes

then_ends : {A R : Type 0} (p : Plan A R) (nodes mid : List (PlanNode A)) (i : ℕ) → next_waiting nodes ≡ Some i → plan_visited p i nodes ≡ Ok mid → Ends p mid → Ends p nodes
then_ends p nodes mid i next e (Last visits last made) = Last (i ∷ visits) last (next, mid, e, made)
then_ends p nodes mid i next e (Broken j visits fault broken) = Broken i (j ∷ visits) fault (next, mid, e, broken)

ends_within : {A R : Type 0} (n : ℕ) (p : Plan A R) (k : Ranks p) (nodes : List (PlanNode A)) → IsKept p k nodes → work p k nodes < n → Ends p nodes
ends_within zero p k nodes h l = absurd (omega (arith, l))
ends_within {A = A} {R = R} (suc n) p k nodes h l = by_next (next_waiting nodes) refl (λ mid g s. ends_within n p k mid g s)
  where
    by_visit : (i : ℕ) (r : Result (List (PlanNode A)) (R × ℕ)) → next_waiting nodes ≡ Some i → plan_visited p i nodes ≡ r → ((mid : List (PlanNode A)) → IsKept p k mid → work p k mid < n → Ends p mid) → Ends p nodes
    by_visit i (Err fault) next e more = Broken i [] fault (next, e)
    by_visit i (Ok mid) next e more = then_ends p nodes mid i next e (more mid (visit_keeps p k nodes mid i h next e) (omega (arith, l, visit_works p k nodes mid i h next e)))

    by_next : (o : Option ℕ) → next_waiting nodes ≡ o → ((mid : List (PlanNode A)) → IsKept p k mid → work p k mid < n → Ends p mid) → Ends p nodes
    by_next None e more = Last [] nodes (e, refl)
    by_next (Some i) e more = by_visit i (plan_visited p i nodes) e refl more

-- every plan with ranks has an answer
pub framed_or_broken : {A R : Type 0} (p : Plan A R) → Ranks p → ((frames : List (Option A)) × HasFrames p frames) ⊎ ((rule : R) × (pc : ℕ) × IsBroken p rule pc)
framed_or_broken {A = A} {R = R} p k = by_end (ends_within (suc (work p k (plan_nodes p))) p k (plan_nodes p) (first_kept p k) (omega arith))
  where
    by_end : Ends p (plan_nodes p) → ((frames : List (Option A)) × HasFrames p frames) ⊎ ((rule : R) × (pc : ℕ) × IsBroken p rule pc)
    by_end (Last visits last made) = inl (map (λ (node : PlanNode A). node.frame) last, record { visits = visits; last = last; made = made; are = refl })
    by_end (Broken i visits fault broken) = inr (fault.0, fault.1, record { visits = i ∷ visits; broken = broken })
