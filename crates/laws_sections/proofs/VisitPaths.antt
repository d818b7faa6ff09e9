-- The course of the visits of any kind: under the last frames each instruction is sound, and what goes along the edges from
-- the start on holds of every instruction with a frame.
use Rattle.std.proofs.Common.{⊎_elim, ◌≡◌, ℕ, zero, suc, length, length-set, Bool, true, false, cond, List, [], ◌∷◌, map, Option, Some, None, Ok, ◌⊎◌, inl, inr, refl, sym, ap, ◌∙◌, subst, ◌==◌, slice_get, slice_set}
use Rattle.std.{specs.List.AllByRecursion, proofs.lemmas.{List.length-map, Option.same_Some}}
use Rattle.jvm_types.{specs.declared.code.Insn.Insn, proofs.EachAfter.all_weaker}
use Rattle.laws_programs.proofs.{LocalEdges.{unclashed as none_clashes}, LocalGoing.got_set}
use Rattle.checked_program.specs.Visits.{Act, Break, Bring, PlanNode, Plan, unreached, joined, edge_brought, edges_brought, meeting_clash, acted, acts_on, visited_node, plan_visited, first_waiting, next_waiting, nodes_for, plan_nodes, PlanVisits, HasFrames}
use Rattle.laws_sections.proofs.VisitedNodes.{IsFirstOf, Orders, IsBelow, AreRisen, frame_trans, risen_self, risen_length, risen_from, risen_to, LandsOn, IsActFine, Sound, sound_risen, unclashed, Does, does}

-- ---- a node is set

set_to : {B : Type 0} (xs : List B) (i j : ℕ) (x n a : B) → slice_get xs i ≡ Some n → slice_get xs j ≡ Some a → ((a ≡ n) × (slice_get (slice_set xs i x) j ≡ Some x)) ⊎ (slice_get (slice_set xs i x) j ≡ Some a)
set_to [] i j x n a e f = absurd (cc)
set_to (b ∷ xs) zero zero x n a e f = inl (cc, refl)
set_to (b ∷ xs) (suc i) (suc j) x n a e f = set_to xs i j x n a e f
set_to xs i j x n a e f = inr f

-- ---- none waits

pub rests : {A : Type 0} (k : ℕ) (nodes : List (PlanNode A)) (i : ℕ) (node : PlanNode A) → first_waiting k nodes ≡ None → slice_get nodes i ≡ Some node → node.waits ≡ false
rests k [] i node h e = absurd (cc)
rests k (a ∷ nodes) zero node h e = ap (λ n. n.waits) (sym (same_Some _ _ e)) ∙ (none_clashes a.waits k (first_waiting (suc k) nodes) h).0
rests k (a ∷ nodes) (suc i) node h e = rests (suc k) nodes i node (none_clashes a.waits k (first_waiting (suc k) nodes) h).1 e

module _ {A R : Type 0} (p : Plan A R) (Below : A → A → Type 0) (order : Orders p.meeting Below) where
  abbrev cleared : PlanNode A → PlanNode A
  cleared node = record node { waits = false }

  -- what is so of each node with a frame
  abbrev pub AreLive : (ℕ → A → Type 0) → List (PlanNode A) → Type 0
  AreLive L nodes = (j : ℕ) (b : PlanNode A) (g : A) → slice_get nodes j ≡ Some b → b.frame ≡ Some g → L j g

  -- under these nodes those that do not wait are sound
  abbrev pub IsGoing : List (PlanNode A) → Type 0
  IsGoing nodes = (i : ℕ) (node : PlanNode A) (f : A) → slice_get nodes i ≡ Some node → node.waits ≡ false → node.frame ≡ Some f → Sound p.meeting Below order p.code nodes (p.acts i f)

  -- ---- one visit

  -- soundness looks at frames alone
  lands_cleared : (nodes : List (PlanNode A)) (i : ℕ) (node : PlanNode A) (f : A) (to : ℕ) → slice_get nodes i ≡ Some node → LandsOn p.meeting Below order p.code nodes f to → LandsOn p.meeting Below order p.code (slice_set nodes i (cleared node)) f to
  lands_cleared nodes i node f to e l j b first k = ⊎_elim
      (λ (h : (j ≡ i) × (cleared node ≡ b)). subst (λ (n : PlanNode A). IsBelow p.meeting Below order (Some f) n.frame) h.1 (l j node first (ap (slice_get nodes) h.0 ∙ e)))
      (λ (h : slice_get nodes j ≡ Some b). l j b first h) (got_set nodes i j (cleared node) b k)

  act_cleared : (nodes : List (PlanNode A)) (i : ℕ) (node : PlanNode A) → slice_get nodes i ≡ Some node → (act : Act A R) → IsActFine p.meeting Below order p.code nodes act → IsActFine p.meeting Below order p.code (slice_set nodes i (cleared node)) act
  act_cleared nodes i node e (Break rule pc) s = s
  act_cleared nodes i node e (Bring rule tos f) s =
      all_weaker (LandsOn p.meeting Below order p.code nodes f) (LandsOn p.meeting Below order p.code (slice_set nodes i (cleared node)) f) (λ to l. lands_cleared nodes i node f to e l) tos s

  pub sound_cleared : (nodes : List (PlanNode A)) (i : ℕ) (node : PlanNode A) (acts : List (Act A R)) → slice_get nodes i ≡ Some node → Sound p.meeting Below order p.code nodes acts
      → Sound p.meeting Below order p.code (slice_set nodes i (cleared node)) acts
  sound_cleared nodes i node acts e s = all_weaker (IsActFine p.meeting Below order p.code nodes) (IsActFine p.meeting Below order p.code (slice_set nodes i (cleared node))) (act_cleared nodes i node e) acts s

  -- what the visit of a node does
  record IsVisit (i : ℕ) (node : PlanNode A) (nodes mid : List (PlanNode A)) : Type 0 where
    there : slice_get nodes i ≡ Some node
    risen : AreRisen p.meeting Below order (slice_set nodes i (cleared node)) mid
    sound : (f : A) → node.frame ≡ Some f → Sound p.meeting Below order p.code mid (p.acts i f)

  is_visit : (i : ℕ) (node : PlanNode A) (nodes mid : List (PlanNode A)) → slice_get nodes i ≡ Some node → acted p.meeting p.code (acts_on p i node.frame) (slice_set nodes i (cleared node)) ≡ Ok mid → IsVisit i node nodes mid
  is_visit i node nodes mid e made = by_frame node.frame refl made
    where
      by_frame : (o : Option A) → node.frame ≡ o → acted p.meeting p.code (acts_on p i o) (slice_set nodes i (cleared node)) ≡ Ok mid → IsVisit i node nodes mid
      by_frame None k made = record {
        there = e;
        risen =
            let same : slice_set nodes i (cleared node) ≡ mid = cc in
            subst (AreRisen p.meeting Below order (slice_set nodes i (cleared node))) same (risen_self p.meeting Below order (slice_set nodes i (cleared node)));
        sound = λ f h. let bad : None ≡ Some f = sym k ∙ h in absurd (cc);
      }
      by_frame (Some g) k made =
          let done : Does p.meeting Below order p.code (p.acts i g) (slice_set nodes i (cleared node)) mid = does p.meeting Below order p.code (p.acts i g) (slice_set nodes i (cleared node)) mid made in
          record { there = e; risen = done.risen; sound = λ f h. subst (λ (x : A). Sound p.meeting Below order p.code mid (p.acts i x)) (same_Some _ _ (sym k ∙ h)) done.sound }

  visit_goes : (i : ℕ) (node : PlanNode A) (nodes mid : List (PlanNode A)) → IsGoing nodes → IsVisit i node nodes mid → IsGoing mid
  visit_goes i node nodes mid going v j b f e w k =
      let a = risen_from p.meeting Below order (slice_set nodes i (cleared node)) mid j b v.risen e in
      ⊎_elim
      (λ (h : (j ≡ i) × (cleared node ≡ a.0)). subst (λ (n : ℕ). Sound p.meeting Below order p.code mid (p.acts n f)) (sym h.0) (v.sound f (ap (λ (n : PlanNode A). n.frame) h.1 ∙ (a.2.kept w).1 ∙ k)))
      (λ (h : slice_get nodes j ≡ Some a.0). sound_risen p.meeting Below order p.code (slice_set nodes i (cleared node)) mid (p.acts j f) v.risen
      (sound_cleared nodes i node (p.acts j f) v.there (going j a.0 f h (a.2.kept w).0 ((a.2.kept w).1 ∙ k))))
      (got_set nodes i j (cleared node) a.0 a.1)

  -- a visit is that of a node, or of none
  by_visit : (X : Type 0) (i : ℕ) (nodes mid : List (PlanNode A)) → plan_visited p i nodes ≡ Ok mid → ((node : PlanNode A) → IsVisit i node nodes mid → X) → (nodes ≡ mid → X) → X
  by_visit X i nodes mid made some none = by_node (slice_get nodes i) refl made
    where
      by_node : (o : Option (PlanNode A)) → slice_get nodes i ≡ o → visited_node p i o nodes ≡ Ok mid → X
      by_node None e made = none (cc)
      by_node (Some node) e made = some node (is_visit i node nodes mid e made)

  pub goes_on : (i : ℕ) (nodes mid : List (PlanNode A)) → IsGoing nodes → plan_visited p i nodes ≡ Ok mid → IsGoing mid
  goes_on i nodes mid going made = by_visit (IsGoing mid) i nodes mid made (λ node x. visit_goes i node nodes mid going x) (λ same. subst IsGoing same going)

  all_go : (is : List ℕ) (nodes last : List (PlanNode A)) → IsGoing nodes → PlanVisits p nodes is last → IsGoing last × (next_waiting last ≡ None)
  all_go [] nodes last going v = subst (λ (ns : List (PlanNode A)). IsGoing ns × (next_waiting ns ≡ None)) (sym v.1) (going, v.0)
  all_go (i ∷ is) nodes last going v = all_go is v.1 last (goes_on i nodes v.1 going v.2) v.3

  pub visits_length : (is : List ℕ) (nodes last : List (PlanNode A)) → PlanVisits p nodes is last → length last ≡ length nodes
  visits_length [] nodes last v = ap length v.1
  visits_length (i ∷ is) nodes last v =
      visits_length is v.1 last v.3 ∙ by_visit (length v.1 ≡ length nodes) i nodes v.1 v.2 (λ node x. sym (risen_length p.meeting Below order (slice_set nodes i (cleared node)) v.1 x.risen) ∙ length-set _ _ _) (λ same. sym (ap length same))

  -- ---- the start

  pub first_length : (code : List Insn) → length (nodes_for p.first code) ≡ length code
  first_length [] = refl
  first_length (insn ∷ code) = ap suc (length-map code _)

  none_framed : (code : List Insn) (i : ℕ) (node : PlanNode A) → slice_get (map (λ other. unreached) code) i ≡ Some node → node.frame ≡ None
  none_framed [] i node e = absurd (cc)
  none_framed (insn ∷ code) zero node e = sym (ap (λ (n : PlanNode A). n.frame) (same_Some _ _ e))
  none_framed (insn ∷ code) (suc i) node e = none_framed code i node e

  first_framed : (code : List Insn) (i : ℕ) (node : PlanNode A) (f : A) → slice_get (nodes_for p.first code) i ≡ Some node → node.frame ≡ Some f → (i ≡ 0) × (node.waits ≡ true) × (p.first ≡ f)
  first_framed [] i node f e k = absurd (cc)
  first_framed (insn ∷ code) zero node f e k = (refl, sym (ap (λ (n : PlanNode A). n.waits) (same_Some _ _ e)), same_Some _ _ (ap (λ (n : PlanNode A). n.frame) (same_Some _ _ e) ∙ k))
  first_framed (insn ∷ code) (suc i) node f e k = let bad : None ≡ Some f = sym (none_framed code i node e) ∙ k in absurd (cc)

  pub first_going : IsGoing (plan_nodes p)
  first_going i node f e w k = let bad : true ≡ false = sym (first_framed p.code i node f e k).1 ∙ w in absurd (cc)

  -- ---- under the last frames

  framed_at : (nodes : List (PlanNode A)) (i : ℕ) (f : A) → slice_get (map {B = Option A} (λ node. node.frame) nodes) i ≡ Some (Some f) → (node : PlanNode A) × (slice_get nodes i ≡ Some node) × (node.frame ≡ Some f)
  framed_at [] i f e = absurd (cc)
  framed_at (a ∷ nodes) zero f e = (a, refl, same_Some _ _ e)
  framed_at (a ∷ nodes) (suc i) f e = framed_at nodes i f e

  -- the last nodes are these, and all are sound
  pub record IsSettled (frames : List (Option A)) : Type 0 where
    pub last : List (PlanNode A)
    pub visits : List ℕ
    pub made : PlanVisits p (plan_nodes p) visits last
    pub framed : (i : ℕ) (f : A) → slice_get frames i ≡ Some (Some f) → (node : PlanNode A) × (slice_get last i ≡ Some node) × (node.frame ≡ Some f)
    pub frames_are : frames ≡ map (λ node. node.frame) last
    pub sound : (i : ℕ) (f : A) → slice_get frames i ≡ Some (Some f) → Sound p.meeting Below order p.code last (p.acts i f)

  pub settled : (frames : List (Option A)) → HasFrames p frames → IsSettled frames
  settled frames h =
      let ends = all_go h.visits (plan_nodes p) h.last first_going h.made in
      let at : (i : ℕ) (f : A) → slice_get frames i ≡ Some (Some f) → (node : PlanNode A) × (slice_get h.last i ≡ Some node) × (node.frame ≡ Some f) =
      λ i f e. framed_at h.last i f (ap (λ (fs : List (Option A)). slice_get fs i) (sym h.are) ∙ e) in
      record {
        last = h.last;
        visits = h.visits;
        made = h.made;
        framed = at;
        frames_are = h.are;
        sound = λ i f e. let n = at i f e in ends.0 i n.0 f n.1 (rests 0 h.last i n.0 ends.1 n.1) n.2;
      }

  at_framed : (nodes : List (PlanNode A)) (i : ℕ) (b : PlanNode A) (f : A) → slice_get nodes i ≡ Some b → IsBelow p.meeting Below order (Some f) b.frame → (g : A) × (slice_get (map {B = Option A} (λ node. node.frame) nodes) i ≡ Some (Some g))
  at_framed [] i b f e h = absurd (cc)
  at_framed (a ∷ nodes) zero b f e h = some_frame a.frame (subst (λ (n : PlanNode A). IsBelow p.meeting Below order (Some f) n.frame) (sym (same_Some _ _ e)) h)
    where
      some_frame : (o : Option A) → IsBelow p.meeting Below order (Some f) o → (g : A) × (Some o ≡ Some (Some g))
      some_frame None h = absurd h
      some_frame (Some g) h = (g, refl)
  at_framed (a ∷ nodes) (suc i) b f e h = at_framed nodes i b f e h

  -- ---- along the edges from the start

  -- what is so of two frames is so where they meet
  abbrev pub Meets : (ℕ → A → Type 0) → Type 0
  Meets L = (i : ℕ) (g f : A) → L i g → L i f → L i (p.meeting.meet g f)

  -- what is so of the frames that are brought, at the first instruction of each pc
  abbrev pub ActLeads : (ℕ → A → Type 0) → Act A R → Type 0
  ActLeads L (Break rule pc) = Unit {0}
  ActLeads L (Bring rule tos f) = AllByRecursion (λ to. (j : ℕ) → IsFirstOf p.code to j → L j f) tos

  abbrev pub ActsLead : (ℕ → A → Type 0) → List (Act A R) → Type 0
  ActsLead L acts = AllByRecursion (ActLeads L) acts

  brought_live : (L : ℕ → A → Type 0) → Meets L → (code : List Insn) (to : ℕ) (f : A) (nodes : List (PlanNode A)) → ((j : ℕ) → IsFirstOf code to j → L j f) → AreLive L nodes → AreLive L (edge_brought p.meeting code to f nodes)
  brought_live L meets (insn ∷ code) to f (node ∷ nodes) there all =
      by_test (insn.pc == to) refl (λ e. brought_live (λ i. L (suc i)) (λ i g f a b. meets (suc i) g f a b) code to f nodes (λ j first. there (suc j) (e, first)) (λ j b g k h. all (suc j) b g k h))
    where
      at_first : (b : PlanNode A) (g : A) → (insn.pc == to) ≡ true → (o : Option A) → node.frame ≡ o → Some (joined p.meeting node.waits o f) ≡ Some b → b.frame ≡ Some g → L 0 g
      at_first b g t None k e h = subst (L 0) (same_Some _ _ (ap (λ (n : PlanNode A). n.frame) (same_Some _ _ e) ∙ h)) (there 0 t)
      at_first b g t (Some x) k e h = subst (L 0) (same_Some _ _ (ap (λ (n : PlanNode A). n.frame) (same_Some _ _ e) ∙ h)) (meets 0 x f (all 0 node x refl k) (there 0 t))

      by_test : (t : Bool) → (insn.pc == to) ≡ t → ((insn.pc == to) ≡ false → AreLive (λ i. L (suc i)) (edge_brought p.meeting code to f nodes)) → AreLive L (cond t (joined p.meeting node.waits node.frame f ∷ nodes) (node ∷ edge_brought p.meeting code to f nodes))
      by_test true t more zero b g k h = at_first b g t node.frame refl k h
      by_test true t more (suc j) b g k h = all (suc j) b g k h
      by_test false t more zero b g k h = all 0 b g k h
      by_test false t more (suc j) b g k h = more t j b g k h
  brought_live L meets code to f nodes there all = all

  all_brought_live : (L : ℕ → A → Type 0) → Meets L → (tos : List ℕ) (f : A) (nodes : List (PlanNode A)) → AllByRecursion (λ to. (j : ℕ) → IsFirstOf p.code to j → L j f) tos → AreLive L nodes → AreLive L (edges_brought p.meeting p.code tos f nodes)
  all_brought_live L meets [] f nodes there all = all
  all_brought_live L meets (to ∷ tos) f nodes there all = all_brought_live L meets tos f (edge_brought p.meeting p.code to f nodes) there.1 (brought_live L meets p.code to f nodes there.0 all)

  acted_live : (L : ℕ → A → Type 0) → Meets L → (acts : List (Act A R)) (nodes mid : List (PlanNode A)) → ActsLead L acts → AreLive L nodes → acted p.meeting p.code acts nodes ≡ Ok mid → AreLive L mid
  acted_live L meets [] nodes mid lead all e = let same : nodes ≡ mid = cc in subst (AreLive L) same all
  acted_live L meets (Break rule pc ∷ acts) nodes mid lead all e = absurd (cc)
  acted_live L meets (Bring rule tos f ∷ acts) nodes mid lead all e =
      acted_live L meets acts (edges_brought p.meeting p.code tos f nodes) mid lead.1 (all_brought_live L meets tos f nodes lead.0 all)
      (unclashed rule (meeting_clash p.meeting p.code tos f nodes) (acted p.meeting p.code acts (edges_brought p.meeting p.code tos f nodes)) mid e).1

  cleared_live : (L : ℕ → A → Type 0) (nodes : List (PlanNode A)) (i : ℕ) (node : PlanNode A) → slice_get nodes i ≡ Some node → AreLive L nodes → AreLive L (slice_set nodes i (cleared node))
  cleared_live L nodes i node e all j b g k h = ⊎_elim
      (λ (x : (j ≡ i) × (cleared node ≡ b)). all j node g (ap (slice_get nodes) x.0 ∙ e) (ap (λ (n : PlanNode A). n.frame) x.1 ∙ h))
      (λ (x : slice_get nodes j ≡ Some b). all j b g x h) (got_set nodes i j (cleared node) b k)

  visited_live : (L : ℕ → A → Type 0) → Meets L → (i : ℕ) (nodes mid : List (PlanNode A)) → AreLive L nodes → ((node : PlanNode A) (f : A) → slice_get nodes i ≡ Some node → node.frame ≡ Some f → ActsLead L (p.acts i f)) → plan_visited p i nodes ≡ Ok mid → AreLive L mid
  visited_live L meets i nodes mid all lead made = by_node (slice_get nodes i) refl made
    where
      by_frame : (node : PlanNode A) → slice_get nodes i ≡ Some node → (o : Option A) → node.frame ≡ o → acted p.meeting p.code (acts_on p i o) (slice_set nodes i (cleared node)) ≡ Ok mid → AreLive L mid
      by_frame node e None k made = let same : slice_set nodes i (cleared node) ≡ mid = cc in subst (AreLive L) same (cleared_live L nodes i node e all)
      by_frame node e (Some f) k made = acted_live L meets (p.acts i f) (slice_set nodes i (cleared node)) mid (lead node f e k) (cleared_live L nodes i node e all) made

      by_node : (o : Option (PlanNode A)) → slice_get nodes i ≡ o → visited_node p i o nodes ≡ Ok mid → AreLive L mid
      by_node None e made = let same : nodes ≡ mid = cc in subst (AreLive L) same all
      by_node (Some node) e made = by_frame node e node.frame refl made

  abbrev pub HasFrame : ℕ → A → List (PlanNode A) → Type 0
  HasFrame j f nodes = (b : PlanNode A) × (slice_get nodes j ≡ Some b) × IsBelow p.meeting Below order (Some f) b.frame

  -- a node keeps a frame to the end, which only rises
  pub framed_on : (is : List ℕ) (nodes last : List (PlanNode A)) → PlanVisits p nodes is last → (j : ℕ) (f : A) → HasFrame j f nodes → HasFrame j f last
  framed_on [] nodes last v j f a = subst (HasFrame j f) (sym v.1) a
  framed_on (i ∷ is) nodes last v j f a = framed_on is v.1 last v.3 j f (by_visit (HasFrame j f v.1) i nodes v.1 v.2 (λ node x. onto node x) (λ same. subst (HasFrame j f) same a))
    where
      onto : (node : PlanNode A) → IsVisit i node nodes v.1 → HasFrame j f v.1
      onto node x = ⊎_elim
          (λ (h : (a.0 ≡ node) × (slice_get (slice_set nodes i (cleared node)) j ≡ Some (cleared node))). rise (cleared node) h.1 (subst (λ (n : PlanNode A). IsBelow p.meeting Below order (Some f) n.frame) h.0 a.2))
          (λ (h : slice_get (slice_set nodes i (cleared node)) j ≡ Some a.0). rise a.0 h a.2) (set_to nodes i j (cleared node) node a.0 x.there a.1)
        where
          rise : (c : PlanNode A) → slice_get (slice_set nodes i (cleared node)) j ≡ Some c → IsBelow p.meeting Below order (Some f) c.frame → HasFrame j f v.1
          rise c h l =
              let r = risen_to p.meeting Below order (slice_set nodes i (cleared node)) v.1 j c x.risen h in
              (r.0, r.1, frame_trans p.meeting Below order (Some f) c.frame r.0.frame l r.2)

  pub final_frame : (frames : List (Option A)) (s : IsSettled frames) (j : ℕ) (f : A) → HasFrame j f s.last → (g : A) × (slice_get frames j ≡ Some (Some g))
  final_frame frames s j f b =
      let g = at_framed s.last j b.0 f b.1 b.2 in
      (g.0, ap (λ (fs : List (Option A)). slice_get fs j) s.frames_are ∙ g.1)

  below_own : (f : A) (o : Option A) → o ≡ Some f → IsBelow p.meeting Below order (Some f) o
  below_own f o e = subst (IsBelow p.meeting Below order (Some f)) (sym e) (order.self f)

  -- what holds at the start, and goes along the edges of instructions that have frames in the end
  pub all_lead : (L : ℕ → A → Type 0) → Meets L → (is : List ℕ) (nodes last : List (PlanNode A)) → PlanVisits p nodes is last → AreLive L nodes → ((i : ℕ) (f : A) → L i f → HasFrame i f last → ActsLead L (p.acts i f)) → AreLive L last
  all_lead L meets [] nodes last v all step = subst (AreLive L) (sym v.1) all
  all_lead L meets (i ∷ is) nodes last v all step =
      all_lead L meets is v.1 last v.3 (visited_live L meets i nodes v.1 all (λ node f e k. step i f (all i node f e k) (framed_on (i ∷ is) nodes last v i f (node, e, below_own f node.frame k))) v.2) step

  pub first_live : (L : ℕ → A → Type 0) → L 0 p.first → AreLive L (plan_nodes p)
  first_live L q j b g e k =
      let is = first_framed p.code j b g e k in
      subst (λ (i : ℕ). L i g) (sym is.0) (subst (L 0) is.2 q)

  -- the first frame is below that of the first instruction
  first_below : (code : List Insn) (is : List ℕ) (last : List (PlanNode A)) (b : PlanNode A) → PlanVisits p (nodes_for p.first code) is last → slice_get last 0 ≡ Some b → IsBelow p.meeting Below order (Some p.first) b.frame
  first_below [] [] last b v e = absurd (let bad : None ≡ Some b = ap (λ (ns : List (PlanNode A)). slice_get ns 0) (sym v.1) ∙ e in cc)
  first_below [] (i ∷ is) last b v e = absurd (let bad : None ≡ Some i = v.0 in cc)
  first_below (insn ∷ code) is last b v e =
      let on = framed_on is (nodes_for p.first (insn ∷ code)) last v 0 p.first (record { frame = Some p.first; waits = true }, refl, order.self p.first) in
      subst (λ (n : PlanNode A). IsBelow p.meeting Below order (Some p.first) n.frame) (same_Some _ _ (sym on.1 ∙ e)) on.2

  pub starts_below : (is : List ℕ) (last : List (PlanNode A)) (b : PlanNode A) → PlanVisits p (plan_nodes p) is last → slice_get last 0 ≡ Some b → IsBelow p.meeting Below order (Some p.first) b.frame
  starts_below is last b v e = first_below p.code is last b v e
