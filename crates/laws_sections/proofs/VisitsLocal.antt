-- The local law of visits of any kind: under the last frames no rule is broken, and what an edge brings fits the frame at
-- its target. It asks that frames have an order in which a meeting goes up, and that edges lead to instructions.
use Rattle.std.proofs.Common.{◌≡◌, ℕ, zero, suc, Bool, true, false, cond, ◌||◌, List, [], ◌∷◌, map, length, Option, Some, None, refl, sym, ap, ◌∙◌, subst, arith, ◌==◌, slice_get, IsSomeAnd}
use Rattle.std.{specs.List.AllByRecursion, proofs.lemmas.{Bool.{cond_both, eq-eqb, eqb-true}, List.length-map}}
use Rattle.jvm_types.{specs.{CodeGrammar.is_start, declared.code.Insn.Insn}, proofs.EachAfter.all_weaker}
use Rattle.checked_program.specs.Visits.{Act, Break, Bring, PlanNode, Plan, plan_nodes, HasFrames, frame_at_pc, EdgeFits}
use Rattle.laws_sections.proofs.{TaggedPaths.first_there, VisitPaths.{AreLive, ActLeads, IsSettled, settled, visits_length, first_length, all_lead, first_live, starts_below}}
use Rattle.laws_sections.proofs.VisitedNodes.{IsFirstOf, Orders, IsBelow, LandsOn, Sound}

-- ---- what the law asks for

-- an edge leads to an instruction, and what it brings is what an instruction there may have
pub record Lands {A : Type 0} (L : ℕ → A → Type 0) (code : List Insn) (f : A) (to : ℕ) : Type 0 where
  pub starts : is_start code to ≡ true
  pub live : (j : ℕ) (insn : Insn) → slice_get code j ≡ Some insn → insn.pc ≡ to → L j f

abbrev pub ActLands : {A R : Type 0} → (ℕ → A → Type 0) → List Insn → Act A R → Type 0
ActLands L code (Break rule pc) = Unit {0}
ActLands L code (Bring rule tos f) = AllByRecursion (Lands L code f) tos

-- frames of which edges bring only such again, by the number of the instruction
pub record IsClosed {A R : Type 0} (p : Plan A R) (L : ℕ → A → Type 0) : Type 0 where
  pub first : L 0 p.first
  pub meets : (i : ℕ) (g f : A) → L i g → L i f → L i (p.meeting.meet g f)
  pub lands : (i : ℕ) (f : A) → L i f → AllByRecursion (ActLands L p.code) (p.acts i f)

-- ---- the law

abbrev pub IsActSound : {A R : Type 0} → (A → A → Type 0) → List Insn → List (Option A) → Act A R → Type 0
IsActSound below code frames (Break rule pc) = ⊥
IsActSound below code frames (Bring rule tos f) = AllByRecursion (EdgeFits below code frames f) tos

pub record IsLocal {A R : Type 0} (p : Plan A R) (Below : A → A → Type 0) (L : ℕ → A → Type 0) (frames : List (Option A)) : Type 0 where
  pub long : length frames ≡ length p.code
  pub entry : EdgeFits Below p.code frames p.first 0
  pub live : (i : ℕ) (f : A) → slice_get frames i ≡ Some (Some f) → L i f
  pub sound : (i : ℕ) (f : A) → slice_get frames i ≡ Some (Some f) → AllByRecursion (IsActSound Below p.code frames) (p.acts i f)

-- code that begins at pc 0
abbrev pub Begins : List Insn → Type 0
Begins code = (insn : Insn) × (rest : List Insn) × (code ≡ insn ∷ rest) × (insn.pc ≡ 0)

-- an edge that fits leads to an instruction with a frame that what it brings is at or below
pub record Landing {A : Type 0} (Below : A → A → Type 0) (code : List Insn) (frames : List (Option A)) (f : A) (to : ℕ) : Type 0 where
  pub number : ℕ
  pub insn : Insn
  pub frame : A
  pub there : slice_get code number ≡ Some insn
  pub starts : insn.pc ≡ to
  pub has : slice_get frames number ≡ Some (Some frame)
  pub fits : Below f frame

pub landing : {A : Type 0} (Below : A → A → Type 0) (code : List Insn) (frames : List (Option A)) (f : A) (to : ℕ) → EdgeFits Below code frames f to → Landing Below code frames f to
landing Below [] frames f to h = absurd h
landing Below (insn ∷ code) [] f to h = absurd h
landing {A = A} Below (insn ∷ code) (frame ∷ frames) f to h =
    cond_both (insn.pc == to) frame (frame_at_pc code frames to) (λ o. IsSomeAnd o (λ g. Below f g) → Landing Below (insn ∷ code) (frame ∷ frames) f to) (λ e. here frame refl (eqb-true insn.pc to e))
    (λ e h. let l = landing Below code frames f to h in record { number = suc l.number; insn = l.insn; frame = l.frame; there = l.there; starts = l.starts; has = l.has; fits = l.fits }) h
  where
    here : (o : Option A) → frame ≡ o → insn.pc ≡ to → IsSomeAnd o (λ g. Below f g) → Landing Below (insn ∷ code) (frame ∷ frames) f to
    here None e same h = absurd h
    here (Some g) e same h = record { number = 0; insn = insn; frame = g; there = refl; starts = same; has = ap Some e; fits = h }

-- ---- what lands on first instructions fits by pcs

abbrev pub frames_of : {A : Type 0} → List (PlanNode A) → List (Option A)
frames_of nodes = map (λ node. node.frame) nodes

module _ {A R : Type 0} (p : Plan A R) (Below : A → A → Type 0) (o : Orders p.meeting Below) where
  lands_fit : (code : List Insn) (nodes : List (PlanNode A)) (f : A) (to : ℕ) → is_start code to ≡ true → length nodes ≡ length code → LandsOn p.meeting Below o code nodes f to → EdgeFits Below code (frames_of nodes) f to
  lands_fit (insn ∷ code) (node ∷ nodes) f to s l h = by_test (insn.pc == to) refl s (λ t s. lands_fit code nodes f to s (omega (arith, l)) (λ j b first e. h (suc j) b (t, first) e))
    where
      by_test : (t : Bool) → (insn.pc == to) ≡ t → (t || is_start code to) ≡ true → ((insn.pc == to) ≡ false → is_start code to ≡ true → EdgeFits Below code (frames_of nodes) f to)
          → IsSomeAnd (cond t node.frame (frame_at_pc code (frames_of nodes) to)) (λ g. Below f g)
      by_test true t s more = h zero node t refl
      by_test false t s more = more t s
  lands_fit code nodes f to s l h = absurd (first_of (cc, omega (arith, l)))

  module _ (L : ℕ → A → Type 0) (closed : IsClosed p L) where
    edge_leads : (f : A) (to : ℕ) → Lands L p.code f to → (j : ℕ) → IsFirstOf p.code to j → L j f
    edge_leads f to h j first = let i = first_there p.code to j first in h.live j i.0 i.1 i.2

    act_leads : (act : Act A R) → ActLands L p.code act → ActLeads p Below o L act
    act_leads (Break rule pc) h = tt
    act_leads (Bring rule tos f) h = all_weaker (Lands L p.code f) (λ to. (j : ℕ) → IsFirstOf p.code to j → L j f) (edge_leads f) tos h

    edges_fit : (nodes : List (PlanNode A)) (f : A) (tos : List ℕ) → length nodes ≡ length p.code → AllByRecursion (Lands L p.code f) tos → AllByRecursion (LandsOn p.meeting Below o p.code nodes f) tos → AllByRecursion (EdgeFits Below p.code (frames_of nodes) f) tos
    edges_fit nodes f [] l h k = tt
    edges_fit nodes f (to ∷ tos) l h k = (lands_fit p.code nodes f to h.0.starts l k.0, edges_fit nodes f tos l h.1 k.1)

    acts_fit : (nodes : List (PlanNode A)) (acts : List (Act A R)) → length nodes ≡ length p.code → AllByRecursion (ActLands L p.code) acts → Sound p.meeting Below o p.code nodes acts → AllByRecursion (IsActSound Below p.code (frames_of nodes)) acts
    acts_fit nodes [] l h s = tt
    acts_fit nodes (Break rule pc ∷ acts) l h s = absurd s.0
    acts_fit nodes (Bring rule tos f ∷ acts) l h s = (edges_fit nodes f tos l h.0 s.0, acts_fit nodes acts l h.1 s.1)

    entry_fits : (code : List Insn) (nodes : List (PlanNode A)) → Begins code → length nodes ≡ length code → ((b : PlanNode A) → slice_get nodes 0 ≡ Some b → IsBelow p.meeting Below o (Some p.first) b.frame) → EdgeFits Below code (frames_of nodes) p.first 0
    entry_fits code nodes b l h = subst (λ (c : List Insn). EdgeFits Below c (frames_of nodes) p.first 0) (sym b.2) (at nodes (l ∙ ap length b.2) h)
      where
        at : (nodes : List (PlanNode A)) → length nodes ≡ suc (length b.1) → ((n : PlanNode A) → slice_get nodes 0 ≡ Some n → IsBelow p.meeting Below o (Some p.first) n.frame) → EdgeFits Below (b.0 ∷ b.1) (frames_of nodes) p.first 0
        at [] l h = absurd (omega (arith, l))
        at (node ∷ nodes) l h = rw (eq-eqb b.0.pc 0 b.3) (h node refl)

    pub local : Begins p.code → (frames : List (Option A)) → HasFrames p frames → IsLocal p Below L frames
    local b frames h =
        let s : IsSettled p Below o frames = settled p Below o frames h in
        let long : length s.last ≡ length p.code = visits_length p Below o s.visits (plan_nodes p) s.last s.made ∙ first_length p Below o p.code in
        let all : AreLive p Below o L s.last = all_lead p Below o L closed.meets s.visits (plan_nodes p) s.last s.made (first_live p Below o L closed.first) (λ i f q x. all_weaker (ActLands L p.code) (ActLeads p Below o L) act_leads (p.acts i f) (closed.lands i f q)) in
        let live : (i : ℕ) (f : A) → slice_get frames i ≡ Some (Some f) → L i f = λ i f e. let n = s.framed i f e in all i n.0 f n.1 n.2 in
        subst (λ (fs : List (Option A)). IsLocal p Below L fs) (sym s.frames_are) (record {
          long = length-map s.last _ ∙ long;
          entry = entry_fits p.code s.last b long (λ n e. starts_below p Below o s.visits s.last n s.made e);
          live = λ i f e. live i f (ap (λ (fs : List (Option A)). slice_get fs i) s.frames_are ∙ e);
          sound = λ i f e.
              let at = ap (λ (fs : List (Option A)). slice_get fs i) s.frames_are ∙ e in
              acts_fit s.last (p.acts i f) long (closed.lands i f (live i f at)) (s.sound i f at);
        })
