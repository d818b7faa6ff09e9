-- The frames of a colouring: an instruction has one where it is tagged; the first is that of the entry; and what goes along the
-- edges holds of all.
use Rattle.std.proofs.Common.{◌≡◌, ◌≤◌, ℕ, zero, suc, Bool, true, false, List, [], ◌∷◌, Option, Some, None, Result, Ok, refl, sym, ap, ◌∙◌, subst, arith, ◌||◌, ◌==◌, if◌then◌else◌, map, slice_get, slice_set}
use Rattle.std.{specs.List.{AllByRecursion, list_any}, proofs.lemmas.{Bool.{eqb-true, eq-eqb, ne_eqb}, Option.same_Some}}
use Rattle.jvm_types.{specs.{Numbers.has_number, Verifying.edges, declared.{code.Insn.Insn, program.{MethodInfo.MethodInfo, Program.Program, Row.Row, Target.Target}}}, proofs.{EachAfter.all_weaker, TypeOrder.pick}}
use Rattle.code_table.{specs.PcTables.Ascend, proofs.PcLaws.ascend_at}
use Rattle.checked_program.specs.{LockTags.{TagShape, IsShapeBelow}, TaggedCode.{Tagged, IsAt, row_of}, Tagging.{tag_meeting, tag_plan, tags_after, tags_at_handler, catchers, HasTagging}}
use Rattle.checked_program.specs.Visits.{Act, Break, Bring, PlanNode, joined, edge_brought, edges_brought, meeting_clash, unless_meeting_clash, acted, acts_on, visited_node, plan_visited, nodes_for, plan_nodes, PlanVisits, HasFrames}
use Rattle.laws_sections.proofs.{HeldTags.first_pc, TagActs.{to_handler, AreKept}, TagOrder.tag_order, TaggedPaths.{each_number, each_handler, framed_there, framed_first, all_settled, last_nodes, tags_there, kept_at, all_reach}}
use Rattle.laws_sections.proofs.{VisitPaths.{IsSettled, ActLeads, AreLive, all_lead, first_live}, VisitedNodes.{IsFirstOf, LandsOn, IsActFine}}
use Rattle.guard_analysis.specs.{ColourVisits.{colour_meeting, field_colours_after, goes_coloured, colours_at_handlers, colour_acts_at, colour_plan}, declared.colouring.{Colour.Colour, NoRule.NoRule}}
use Rattle.guard_analysis.{specs.declared.colouring.Colour.TheVariants.Plain, proofs.ColourFrames.{AnyColours, colour_order}}

-- ---- lists

at_number : (P : ℕ → Type 0) (xs : List ℕ) (y : ℕ) → AllByRecursion P xs → has_number xs y ≡ true → P y
at_number P xs y all there = pick {P = P y} xs y there (all_weaker P (λ x. x ≡ y → P y) (λ x h e. subst P e h) xs all)

at_row : (P : ℕ → Type 0) (rows : List Row) (pc : ℕ) → AllByRecursion (λ (handler : Row). P handler.handler) rows → list_any (λ (handler : Row). handler.handler == pc) rows ≡ true → P pc
at_row P [] pc all there = absurd (cc)
at_row P (row ∷ rows) pc all there = by_test (row.handler == pc) refl there (λ h. at_row P rows pc all.1 h)
  where
    by_test : (t : Bool) → (row.handler == pc) ≡ t → (t || list_any (λ (handler : Row). handler.handler == pc) rows) ≡ true → (list_any (λ (handler : Row). handler.handler == pc) rows ≡ true → P pc) → P pc
    by_test true e h more = subst P (eqb-true row.handler pc e) all.0
    by_test false e h more = more h

first_here : (low : ℕ) (code : List Insn) (j : ℕ) (insn : Insn) → Ascend low code → slice_get code j ≡ Some insn → IsFirstOf code insn.pc j
first_here low [] j insn up e = absurd (cc)
first_here low (x ∷ code) zero insn up e = eq-eqb x.pc insn.pc (ap (λ (y : Insn). y.pc) (same_Some x insn e))
first_here low (x ∷ code) (suc j) insn up e = let later : suc x.pc ≤ insn.pc = ascend_at (suc x.pc) code j insn up.1 e in (ne_eqb x.pc insn.pc (omega arith), first_here (suc x.pc) code j insn up.1 e)

-- ---- the acts of handlers

from_handlers : (P : Act (List Colour) NoRule → Type 0) (stack : List Colour) (rows : List Row) → AllByRecursion P (colours_at_handlers stack rows) → AllByRecursion (λ (handler : Row). P (goes_coloured (handler.handler ∷ []) stack)) rows
from_handlers P stack [] all = tt
from_handlers P stack (row ∷ rows) all = (all.0, from_handlers P stack rows all.1)

onto_handlers : (P : Act (List Colour) NoRule → Type 0) (stack : List Colour) (rows : List Row) → AllByRecursion (λ (handler : Row). P (goes_coloured (handler.handler ∷ []) stack)) rows → AllByRecursion P (colours_at_handlers stack rows)
onto_handlers P stack [] all = tt
onto_handlers P stack (row ∷ rows) all = (all.0, onto_handlers P stack rows all.1)

-- ---- the first frame stays

abbrev Nodes : Type 0
Nodes = List (PlanNode (List Colour))

abbrev first_frame : Nodes → Option (List Colour)
first_frame [] = None
first_frame (node ∷ nodes) = node.frame

joined_first : (waits : Bool) (o : Option (List Colour)) (f g : List Colour) → o ≡ Some g → (joined colour_meeting waits o f).frame ≡ Some g
joined_first waits None f g e = absurd (cc)
joined_first waits (Some h) f g e = e

edge_first : (code : List Insn) (to : ℕ) (f g : List Colour) (nodes : Nodes) → first_frame nodes ≡ Some g → first_frame (edge_brought colour_meeting code to f nodes) ≡ Some g
edge_first [] to f g nodes e = e
edge_first (insn ∷ code) to f g [] e = e
edge_first (insn ∷ code) to f g (node ∷ nodes) e = by_test (insn.pc == to)
  where
    by_test : (t : Bool) → first_frame (if t then joined colour_meeting node.waits node.frame f ∷ nodes else node ∷ edge_brought colour_meeting code to f nodes) ≡ Some g
    by_test true = joined_first node.waits node.frame f g e
    by_test false = e

edges_first : (code : List Insn) (tos : List ℕ) (f g : List Colour) (nodes : Nodes) → first_frame nodes ≡ Some g → first_frame (edges_brought colour_meeting code tos f nodes) ≡ Some g
edges_first code [] f g nodes e = e
edges_first code (to ∷ tos) f g nodes e = edges_first code tos f g (edge_brought colour_meeting code to f nodes) (edge_first code to f g nodes e)

acts_first : (code : List Insn) (acts : List (Act (List Colour) NoRule)) (g : List Colour) (nodes mid : Nodes) → first_frame nodes ≡ Some g → acted colour_meeting code acts nodes ≡ Ok mid → first_frame mid ≡ Some g
acts_first code [] g nodes mid e h = let same : nodes ≡ mid = cc in subst (λ (ns : Nodes). first_frame ns ≡ Some g) same e
acts_first code (Break rule pc ∷ acts) g nodes mid e h = absurd (cc)
acts_first code (Bring rule tos f ∷ acts) g nodes mid e h =
    let next : Nodes = edges_brought colour_meeting code tos f nodes in
    acts_first code acts g next mid (edges_first code tos f g nodes e) (unclashed (meeting_clash colour_meeting code tos f nodes) (acted colour_meeting code acts next) h)
  where
    unclashed : (o : Option ℕ) (more : Result Nodes (NoRule × ℕ)) → unless_meeting_clash rule o more ≡ Ok mid → more ≡ Ok mid
    unclashed (Some pc) more e = absurd (cc)
    unclashed None more e = e

module _ (p : Program) (m : MethodInfo) where
  cleared_first : (i : ℕ) (node : PlanNode (List Colour)) (g : List Colour) (nodes : Nodes) → slice_get nodes i ≡ Some node → first_frame nodes ≡ Some g → first_frame (slice_set nodes i (record node { waits = false })) ≡ Some g
  cleared_first i node g [] there e = e
  cleared_first zero node g (a ∷ nodes) there e = ap (λ (n : PlanNode (List Colour)). n.frame) (sym (same_Some a node there)) ∙ e
  cleared_first (suc i) node g (a ∷ nodes) there e = e

  visit_first : (i : ℕ) (g : List Colour) (nodes mid : Nodes) → first_frame nodes ≡ Some g → plan_visited (colour_plan p m) i nodes ≡ Ok mid → first_frame mid ≡ Some g
  visit_first i g nodes mid e made = by_node (slice_get nodes i) refl made
    where
      by_node : (o : Option (PlanNode (List Colour))) → slice_get nodes i ≡ o → visited_node (colour_plan p m) i o nodes ≡ Ok mid → first_frame mid ≡ Some g
      by_node None there h = let same : nodes ≡ mid = cc in subst (λ (ns : Nodes). first_frame ns ≡ Some g) same e
      by_node (Some node) there h = acts_first m.code (acts_on (colour_plan p m) i node.frame) g (slice_set nodes i (record node { waits = false })) mid (cleared_first i node g nodes there e) h

  visits_first : (is : List ℕ) (g : List Colour) (nodes last : Nodes) → first_frame nodes ≡ Some g → PlanVisits (colour_plan p m) nodes is last → first_frame last ≡ Some g
  visits_first [] g nodes last e v = subst (λ (ns : Nodes). first_frame ns ≡ Some g) (sym v.1) e
  visits_first (i ∷ is) g nodes last e v = visits_first is g v.1 last (visit_first i g nodes v.1 e v.2) v.3

  first_of_last : (last : Nodes) (cs : List Colour) → slice_get (map {B = Option (List Colour)} (λ node. node.frame) last) 0 ≡ Some (Some cs) → first_frame last ≡ Some cs
  first_of_last [] cs e = absurd (cc)
  first_of_last (node ∷ nodes) cs e = same_Some node.frame (Some cs) e

  starts_empty : (code : List Insn) (insn : Insn) → slice_get code 0 ≡ Some insn → first_frame (nodes_for {A = List Colour} [] code) ≡ Some []
  starts_empty [] insn e = absurd (cc)
  starts_empty (x ∷ code) insn e = refl

  pub first_stays : (frames : List (Option (List Colour))) (insn : Insn) (cs : List Colour) → HasFrames (colour_plan p m) frames → slice_get m.code 0 ≡ Some insn → slice_get frames 0 ≡ Some (Some cs) → cs ≡ []
  first_stays frames insn cs has there e =
      let last : first_frame has.last ≡ Some [] = visits_first has.visits [] (plan_nodes (colour_plan p m)) has.last (starts_empty m.code insn there) has.made in
      same_Some cs [] (sym (first_of_last has.last cs (ap (λ (fs : List (Option (List Colour))). slice_get fs 0) (sym has.are) ∙ e)) ∙ last)

-- ---- the paths

-- a method of a tagged program, with the frames of its colouring
pub record ColouredMethod : Type 0 where
  pub p : Program
  pub tags : Tagged
  pub mi : ℕ
  pub m : MethodInfo
  pub is : slice_get p.methods mi ≡ Some m
  pub shapes : List (Option TagShape)
  pub of_method : slice_get tags mi ≡ Some shapes
  pub tagged : HasTagging p m shapes
  pub up : Ascend 0 m.code
  pub frames : List (Option (List Colour))
  pub has : HasFrames (colour_plan p m) frames

module _ (method : ColouredMethod) where
  open method use {p, tags, mi, m, is, shapes, of_method, tagged, up, frames, has}

  at : (i : ℕ) (insn : Insn) (target : Target) (f : TagShape) → slice_get m.code i ≡ Some insn → slice_get m.targets i ≡ Some target → slice_get shapes i ≡ Some (Some f) → IsAt p tags mi i m insn target f
  at i insn target f c t e = record { in_program = is; in_code = c; names = t; frames = shapes; of_method = of_method; frame = e }

  pub shape_of : (i : ℕ) (insn : Insn) (target : Target) (f : TagShape) → IsAt p tags mi i m insn target f → slice_get shapes i ≡ Some (Some f)
  shape_of i insn target f a = ap (λ (l : List (Option TagShape)). slice_get l i) (sym (same_Some a.frames shapes (sym a.of_method ∙ of_method))) ∙ a.frame

  abbrev ends : IsSettled (colour_plan p m) AnyColours colour_order frames
  ends = all_settled (colour_plan p m) AnyColours colour_order frames has

  abbrev Lands : List Colour → ℕ → Type 0
  Lands cs to = LandsOn colour_meeting AnyColours colour_order m.code ends.last cs to

  abbrev IsFine : Act (List Colour) NoRule → Type 0
  IsFine act = IsActFine colour_meeting AnyColours colour_order m.code ends.last act

  record BringsOn (insn : Insn) (target : Target) (cs : List Colour) : Type 0 where
    onward : AllByRecursion (Lands (field_colours_after p insn target (row_of p m insn target) cs)) (edges insn)
    caught : AllByRecursion (λ (handler : Row). Lands (Plain ∷ []) handler.handler) (catchers m insn)

  brings_on : (i : ℕ) (insn : Insn) (target : Target) (cs : List Colour) → slice_get m.code i ≡ Some insn → slice_get m.targets i ≡ Some target → slice_get frames i ≡ Some (Some cs) → BringsOn insn target cs
  brings_on i insn target cs c t e =
      let all = subst (λ (o : Option Insn). AllByRecursion IsFine (colour_acts_at p m o (Some target) cs)) c
      (subst (λ (q : Option Target). AllByRecursion IsFine (colour_acts_at p m (slice_get m.code i) q cs)) t (ends.sound i cs e)) in
      record {
        onward = all.0;
        caught = all_weaker (λ (handler : Row). IsFine (goes_coloured (handler.handler ∷ []) (Plain ∷ []))) (λ (handler : Row). Lands (Plain ∷ []) handler.handler) (λ handler h. h.0) (catchers m insn)
            (from_handlers IsFine (Plain ∷ []) (catchers m insn) all.1);
      }

  there : (cs : List Colour) (j : ℕ) (other : Insn) → Lands cs other.pc → slice_get m.code j ≡ Some other → (g : List Colour) × (slice_get frames j ≡ Some (Some g))
  there cs j other lands e = framed_there (colour_plan p m) AnyColours colour_order frames has cs other.pc lands j (first_here 0 m.code j other up e)

  -- an instruction that is tagged has colours
  abbrev Framed : ℕ → Type 0
  Framed i = (insn : Insn) → slice_get m.code i ≡ Some insn → (cs : List Colour) × (slice_get frames i ≡ Some (Some cs))

  pub has_colours : (i : ℕ) (insn : Insn) (target : Target) (f : TagShape) → IsAt p tags mi i m insn target f → (cs : List Colour) × (slice_get frames i ≡ Some (Some cs))
  has_colours i insn target f a = all_reach p m shapes tagged Framed (λ x e. framed_first (colour_plan p m) AnyColours colour_order frames has x e)
      (λ i j a b t u v e goes q x k.
      let cs = q a e.code in
      there (field_colours_after p a t (row_of p m a t) cs.0) j b (at_number (Lands (field_colours_after p a t (row_of p m a t) cs.0)) (edges a) b.pc (brings_on i a t cs.0 e.code e.names cs.1).onward goes) e.to_code)
      (λ i j a b t u v e goes q x k.
      let cs = q a e.code in
      there (Plain ∷ []) j b (at_row (Lands (Plain ∷ [])) (catchers m a) b.pc (brings_on i a t cs.0 e.code e.names cs.1).caught goes) e.to_code)
      i f (shape_of i insn target f a) insn a.in_code

  module _ (Q : ℕ → List Colour → Type 0) (start : (insn : Insn) (target : Target) (f : TagShape) → IsAt p tags mi 0 m insn target f → Q 0 [])
      (onward : (i j : ℕ) (insn other : Insn) (target next : Target) (f g : TagShape) (cs : List Colour) → IsAt p tags mi i m insn target f → IsAt p tags mi j m other next g → has_number (edges insn) other.pc ≡ true
      → Q i cs → Q j (field_colours_after p insn target (row_of p m insn target) cs))
      (caught : (i j : ℕ) (insn other : Insn) (target next : Target) (f g : TagShape) (cs : List Colour) → IsAt p tags mi i m insn target f → IsAt p tags mi j m other next g → list_any (λ handler. handler.handler == other.pc) (catchers m insn) ≡ true
      → Q i cs → Q j (Plain ∷ [])) where
    -- an instruction that has colours is tagged
    pub record IsReached (i : ℕ) (insn : Insn) (target : Target) (cs : List Colour) : Type 0 where
      pub f : TagShape
      pub at : IsAt p tags mi i m insn target f
      pub so : Q i cs

    abbrev Holds : ℕ → List Colour → Type 0
    Holds i cs = (insn : Insn) (target : Target) → slice_get m.code i ≡ Some insn → slice_get m.targets i ≡ Some target → IsReached i insn target cs

    abbrev Leads : Act (List Colour) NoRule → Type 0
    Leads act = ActLeads (colour_plan p m) AnyColours colour_order Holds act

    begins : Holds 0 []
    begins insn target c t =
        let g = framed_first (tag_plan p m) IsShapeBelow tag_order shapes tagged insn c in
        let a : IsAt p tags mi 0 m insn target g.0 = at 0 insn target g.0 c t g.1 in
        record { f = g.0; at = a; so = start insn target g.0 a }

    insn_leads : (i : ℕ) (insn : Insn) (target : Target) (cs : List Colour) → slice_get m.code i ≡ Some insn → slice_get m.targets i ≡ Some target → Holds i cs → AllByRecursion Leads (colour_acts_at p m (Some insn) (Some target) cs)
    insn_leads i insn target cs c t holds = (on, onto_handlers Leads (Plain ∷ []) (catchers m insn) out)
      where
        here : IsReached i insn target cs
        here = holds insn target c t

        kept : AreKept (IsActFine tag_meeting IsShapeBelow tag_order m.code (last_nodes p m shapes tagged)) m insn (row_of p m insn target) here.f
        kept = kept_at p m shapes tagged i insn target here.f c t (shape_of i insn target here.f here.at)

        on : AllByRecursion (λ to. (j : ℕ) → IsFirstOf m.code to j → Holds j (field_colours_after p insn target (row_of p m insn target) cs)) (edges insn)
        on = each_number (edges insn) (LandsOn tag_meeting IsShapeBelow tag_order m.code (last_nodes p m shapes tagged) (tags_after insn (row_of p m insn target) here.f)) (λ to. (j : ℕ) → IsFirstOf m.code to j → Holds j (field_colours_after p insn target (row_of p m insn target) cs))
            (λ to goes lands j first other next k n.
            let g = tags_there p m shapes tagged (tags_after insn (row_of p m insn target) here.f) to lands j first in
            let a : IsAt p tags mi j m other next g.0 = at j other next g.0 k n g.1 in
            record { f = g.0; at = a; so = onward i j insn other target next here.f g.0 cs here.at a (subst (λ (pc : ℕ). has_number (edges insn) pc ≡ true) (sym (first_pc m.code to j other first k)) goes) here.so })
            kept.onward

        out : AllByRecursion (λ (handler : Row). Leads (goes_coloured (handler.handler ∷ []) (Plain ∷ []))) (catchers m insn)
        out = each_handler (catchers m insn) (λ handler. IsActFine tag_meeting IsShapeBelow tag_order m.code (last_nodes p m shapes tagged) (to_handler here.f handler)) (λ (handler : Row). Leads (goes_coloured (handler.handler ∷ []) (Plain ∷ [])))
            (λ handler goes lands. (
              λ j first other next k n.
                  let g = tags_there p m shapes tagged (tags_at_handler here.f) handler.handler lands.0 j first in
                  let a : IsAt p tags mi j m other next g.0 = at j other next g.0 k n g.1 in
                  record { f = g.0; at = a; so = caught i j insn other target next here.f g.0 cs here.at a (subst (λ (pc : ℕ). list_any (λ (r : Row). r.handler == pc) (catchers m insn) ≡ true) (sym (first_pc m.code handler.handler j other first k)) goes) here.so },
              tt,
            ))
            kept.caught

    all_leads : (i : ℕ) (cs : List Colour) → Holds i cs → AllByRecursion Leads ((colour_plan p m).acts i cs)
    all_leads i cs holds = by_both (slice_get m.code i) refl (slice_get m.targets i) refl
      where
        by_both : (o : Option Insn) → slice_get m.code i ≡ o → (q : Option Target) → slice_get m.targets i ≡ q → AllByRecursion Leads (colour_acts_at p m o q cs)
        by_both (Some insn) c (Some target) t = insn_leads i insn target cs c t holds
        by_both o c q t = tt

    pub colours_reached : (i : ℕ) (insn : Insn) (target : Target) (cs : List Colour) → slice_get m.code i ≡ Some insn → slice_get m.targets i ≡ Some target → slice_get frames i ≡ Some (Some cs) → IsReached i insn target cs
    colours_reached i insn target cs c t e =
        let all : AreLive (colour_plan p m) AnyColours colour_order Holds ends.last =
        all_lead (colour_plan p m) AnyColours colour_order Holds (λ i g f a b. a) ends.visits (plan_nodes (colour_plan p m)) ends.last ends.made (first_live (colour_plan p m) AnyColours colour_order Holds begins) (λ i f q x. all_leads i f q) in
        let n = ends.framed i cs e in
        all i n.0 cs n.1 n.2 insn target c t
