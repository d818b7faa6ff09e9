-- What holds of the first instruction of a method, and goes along its edges, holds of each that is reached, whatever its types.
use Rattle.std.{proofs.Common.{◌≡◌, ◌<◌, ℕ, zero, suc, length, true, List, [], ◌∷◌, Option, Some, None, refl, sym, ◌∙◌, subst, ◌==◌, slice_get, get_or}, specs.List.{AllByRecursion, list_any}}
use Rattle.std.proofs.lemmas.{Bool.{or_left, or_right, eq-eqb, eqb-true}, Option.{slice_get-get_or, slice_get_within}}
use Rattle.jvm_types.specs.{CodeTable.row, Numbers.has_number, Verifying.edges, declared.{code.Insn.Insn, op_row.OpRow.OpRow, program.{MethodInfo.MethodInfo, Program.Program, Row.Row, Target.Target}}}
use Rattle.jvm_types.specs.declared.refusal.SRule.{SRule}
use Rattle.checked_program.specs.{LockTags.{TagShape, IsShapeBelow}, Tagging.{tags_after, tags_at_handler, catchers, tag_acts, acts_at, tag_meeting, tag_plan, HasTagging}}
use Rattle.checked_program.specs.Visits.{Act, Plan, PlanNode, plan_nodes, HasFrames}
use Rattle.laws_sections.proofs.{TagActs.{to_handler, acts_kept, all_acts, AreKept}, TagOrder.tag_order, VisitedNodes.{Orders, IsFirstOf, LandsOn, IsActFine}}
use Rattle.laws_sections.proofs.VisitPaths.{AreLive, ActLeads, IsSettled, settled, final_frame, visits_length, first_length, first_live, all_lead, starts_below}

-- ---- lists of pcs, and of handler rows

pub each_number : (xs : List ℕ) (P R : ℕ → Type 0) → ((x : ℕ) → has_number xs x ≡ true → P x → R x) → AllByRecursion P xs → AllByRecursion R xs
each_number [] P R f h = tt
each_number (x ∷ xs) P R f h =
    (f x (or_left (x == x) (has_number xs x) (eq-eqb x x refl)) h.0, each_number xs P R (λ y there k. f y (or_right (x == y) (has_number xs y) there) k) h.1)

pub each_handler : (rows : List Row) (P R : Row → Type 0) → ((handler : Row) → list_any (λ (r : Row). r.handler == handler.handler) rows ≡ true → P handler → R handler) → AllByRecursion P rows → AllByRecursion R rows
each_handler [] P R f h = tt
each_handler (r ∷ rows) P R f h = (
  f r (or_left (r.handler == r.handler) (list_any (λ (o : Row). o.handler == r.handler) rows) (eq-eqb r.handler r.handler refl)) h.0,
  each_handler rows P R (λ handler there k. f handler (or_right (r.handler == handler.handler) (list_any (λ (o : Row). o.handler == handler.handler) rows) there) k) h.1,
)

-- the instruction of a pc
pub first_there : (code : List Insn) (to j : ℕ) → IsFirstOf code to j → (insn : Insn) × (slice_get code j ≡ Some insn) × (insn.pc ≡ to)
first_there [] to j first = absurd first
first_there (insn ∷ code) to zero first = (insn, refl, eqb-true insn.pc to first)
first_there (insn ∷ code) to (suc j) first = first_there code to j first.1

-- ---- visits of any kind: what an edge brings a frame to has one in the end

module _ {A R : Type 0} (plan : Plan A R) (Below : A → A → Type 0) (order : Orders plan.meeting Below) (frames : List (Option A)) (has : HasFrames plan frames) where
  pub all_settled : IsSettled plan Below order frames
  all_settled = settled plan Below order frames has

  node_there : (j : ℕ) (insn : Insn) → slice_get plan.code j ≡ Some insn → (node : PlanNode A) × (slice_get all_settled.last j ≡ Some node)
  node_there j insn e =
      let long : length all_settled.last ≡ length plan.code = visits_length plan Below order all_settled.visits (plan_nodes plan) all_settled.last all_settled.made ∙ first_length plan Below order plan.code in
      let none : PlanNode A = record { frame = None; waits = true } in
      (get_or all_settled.last j none, slice_get-get_or all_settled.last j none (subst (λ (n : ℕ). j < n) (sym long) (slice_get_within plan.code j insn e)))

  pub framed_there : (f : A) (to : ℕ) → LandsOn plan.meeting Below order plan.code all_settled.last f to → (j : ℕ) → IsFirstOf plan.code to j → (g : A) × (slice_get frames j ≡ Some (Some g))
  framed_there f to lands j first =
      let there = first_there plan.code to j first in
      let n = node_there j there.0 there.1 in
      final_frame plan Below order frames all_settled j f (n.0, n.1, lands j n.0 first n.1)

  -- so has the first instruction
  pub framed_first : (insn : Insn) → slice_get plan.code 0 ≡ Some insn → (g : A) × (slice_get frames 0 ≡ Some (Some g))
  framed_first insn e =
      let n = node_there 0 insn e in
      final_frame plan Below order frames all_settled 0 plan.first (n.0, n.1, starts_below plan Below order all_settled.visits all_settled.last n.0 all_settled.made n.1)

-- ---- the paths

module _ (p : Program) (m : MethodInfo) (frames : List (Option TagShape)) (tagged : HasTagging p m frames) where
  abbrev pub last_nodes : List (PlanNode TagShape)
  last_nodes = (all_settled (tag_plan p m) IsShapeBelow tag_order frames tagged).last

  pub tags_there : (f : TagShape) (to : ℕ) → LandsOn tag_meeting IsShapeBelow tag_order m.code last_nodes f to → (j : ℕ) → IsFirstOf m.code to j → (g : TagShape) × (slice_get frames j ≡ Some (Some g))
  tags_there = framed_there (tag_plan p m) IsShapeBelow tag_order frames tagged

  -- where the edges of a reached instruction lead
  pub kept_at : (i : ℕ) (insn : Insn) (target : Target) (f : TagShape) → slice_get m.code i ≡ Some insn → slice_get m.targets i ≡ Some target → slice_get frames i ≡ Some (Some f)
      → AreKept (IsActFine tag_meeting IsShapeBelow tag_order m.code last_nodes) m insn (row p m insn.pc target insn.op) f
  kept_at i insn target f c t e = acts_kept (IsActFine tag_meeting IsShapeBelow tag_order m.code last_nodes) m insn (row p m insn.pc target insn.op) f (λ rule pc none. none)
      (subst (λ (o : Option Insn). AllByRecursion (IsActFine tag_meeting IsShapeBelow tag_order m.code last_nodes) (acts_at p m o (Some target) f)) c
      (subst (λ (q : Option Target). AllByRecursion (IsActFine tag_meeting IsShapeBelow tag_order m.code last_nodes) (acts_at p m (slice_get m.code i) q f)) t ((all_settled (tag_plan p m) IsShapeBelow tag_order frames tagged).sound i f e)))

  -- an edge from one reached instruction to another
  pub record IsEdgeTo (i j : ℕ) (insn other : Insn) (target : Target) (f g : TagShape) : Type 0 where
    pub code : slice_get m.code i ≡ Some insn
    pub names : slice_get m.targets i ≡ Some target
    pub frame : slice_get frames i ≡ Some (Some f)
    pub to_code : slice_get m.code j ≡ Some other
    pub to_frame : slice_get frames j ≡ Some (Some g)

  module _ (Q : ℕ → Type 0) (start : Q 0)
      (onward : (i j : ℕ) (insn other : Insn) (target : Target) (f g : TagShape) → IsEdgeTo i j insn other target f g → has_number (edges insn) other.pc ≡ true → Q i → Q j)
      (caught : (i j : ℕ) (insn other : Insn) (target : Target) (f g : TagShape) → IsEdgeTo i j insn other target f g → list_any (λ handler. handler.handler == other.pc) (catchers m insn) ≡ true → Q i → Q j) where
    abbrev HasIt : ℕ → TagShape → Type 0
    HasIt i f = Q i

    abbrev Leads : Act TagShape SRule → Type 0
    Leads act = ActLeads (tag_plan p m) IsShapeBelow tag_order HasIt act

    insn_leads : (i : ℕ) (insn : Insn) (target : Target) (f g : TagShape) → slice_get m.code i ≡ Some insn → slice_get m.targets i ≡ Some target → slice_get frames i ≡ Some (Some g) → Q i
        → AllByRecursion Leads (tag_acts m insn (row p m insn.pc target insn.op) f)
    insn_leads i insn target f g c t e q = all_acts Leads m insn r f (λ rule pc. tt) on out
      where
        r : OpRow
        r = row p m insn.pc target insn.op

        kept : AreKept (IsActFine tag_meeting IsShapeBelow tag_order m.code last_nodes) m insn r g
        kept = kept_at i insn target g c t e

        on : AllByRecursion (λ to. (j : ℕ) → IsFirstOf m.code to j → Q j) (edges insn)
        on = each_number (edges insn) (LandsOn tag_meeting IsShapeBelow tag_order m.code last_nodes (tags_after insn r g)) (λ to. (j : ℕ) → IsFirstOf m.code to j → Q j)
            (λ to there lands j first.
            let o = first_there m.code to j first in
            let h = tags_there (tags_after insn r g) to lands j first in
            onward i j insn o.0 target g h.0 (record { code = c; names = t; frame = e; to_code = o.1; to_frame = h.1 }) (subst (λ (pc : ℕ). has_number (edges insn) pc ≡ true) (sym o.2) there) q)
            kept.onward

        out : AllByRecursion (λ handler. Leads (to_handler f handler)) (catchers m insn)
        out = each_handler (catchers m insn) (λ handler. IsActFine tag_meeting IsShapeBelow tag_order m.code last_nodes (to_handler g handler)) (λ handler. Leads (to_handler f handler))
            (λ handler there lands. (
              λ j first.
                  let o = first_there m.code handler.handler j first in
                  let h = tags_there (tags_at_handler g) handler.handler lands.0 j first in
                  caught i j insn o.0 target g h.0 (record { code = c; names = t; frame = e; to_code = o.1; to_frame = h.1 }) (subst (λ (pc : ℕ). list_any (λ (r : Row). r.handler == pc) (catchers m insn) ≡ true) (sym o.2) there) q,
              tt,
            ))
            kept.caught

    plan_leads : (i : ℕ) (f g : TagShape) → slice_get frames i ≡ Some (Some g) → Q i → AllByRecursion Leads ((tag_plan p m).acts i f)
    plan_leads i f g e q = by_both (slice_get m.code i) refl (slice_get m.targets i) refl
      where
        by_both : (o : Option Insn) → slice_get m.code i ≡ o → (k : Option Target) → slice_get m.targets i ≡ k → AllByRecursion Leads (acts_at p m o k f)
        by_both (Some insn) c (Some target) t = insn_leads i insn target f g c t e q
        by_both o c k t = tt

    pub all_reach : (i : ℕ) (f : TagShape) → slice_get frames i ≡ Some (Some f) → Q i
    all_reach i f e =
        let s : IsSettled (tag_plan p m) IsShapeBelow tag_order frames = all_settled (tag_plan p m) IsShapeBelow tag_order frames tagged in
        let all : AreLive (tag_plan p m) IsShapeBelow tag_order HasIt s.last =
        all_lead (tag_plan p m) IsShapeBelow tag_order HasIt (λ i g f a b. a) s.visits (plan_nodes (tag_plan p m)) s.last s.made
        (first_live (tag_plan p m) IsShapeBelow tag_order HasIt start)
        (λ i f q x. let g = final_frame (tag_plan p m) IsShapeBelow tag_order frames s i f x in plan_leads i f g.0 g.1 q) in
        let n = s.framed i f e in
        all i n.0 f n.1 n.2
