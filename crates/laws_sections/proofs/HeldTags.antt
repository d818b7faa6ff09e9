-- The held lists of a method that has a tagging: each edge brings the one at its target, and where every monitor is entered
-- on the object of a section, all held tags are of that object.
use Rattle.std.proofs.Common.{◌≡◌, ⊎_elim, ℕ, zero, suc, ◌+◌, ◌<◌, true, false, List, [], ◌∷◌, length, drop, Option, Some, refl, sym, ap, ◌∙◌, subst, arith, ◌==◌, slice_get, slice_index_or}
use Rattle.std.{specs.List.{AllByRecursion, list_any}, proofs.lemmas.Bool.{eq-eqb, eqb-true, or_cases}}
use Rattle.jvm_types.specs.{Numbers.has_number, Verifying.edges, declared.{code.{Insn.Insn, Op.Op}, op_row.OpRow.OpRow, program.{MethodInfo.MethodInfo, Program.Program, Row.Row, Target.Target}}}
use Rattle.jvm_types.{specs.declared.refusal.SRule.SRule, proofs.EachAfter.all_weaker}
use Rattle.checked_program.specs.{LockTags.{TagShape, IsShapeBelow, entry_tags}, Marks.is_own_object, TaggedCode.{Goes, onward, caught, row_of}, Visits.{Act, Break, Bring, PlanNode, plan_nodes}}
use Rattle.checked_program.specs.{Tagging.{tags_after, tags_by_op, tags_at_handler, catchers, acts_at, tag_meeting, tag_plan, HasTagging}, declared.{section.Mode.Mode, tag.Tag.Tag}}
use Rattle.checked_program.specs.declared.tag.Tag.TheVariants.{Untagged}
use Rattle.laws_sections.proofs.{TagActs.{to_handler, AreKept, acts_kept, all_acts}, TagOrder.tag_order, VisitedNodes.{IsFirstOf, IsBelow, LandsOn, IsActFine}}
use Rattle.laws_sections.proofs.VisitPaths.{AreLive, HasFrame, ActLeads, ActsLead, IsSettled, settled, all_lead, first_live, starts_below, final_frame}
use Rattle.jvm_types.specs.declared.code.Op.TheVariants as ops
use Rattle.jvm_types.specs.declared.stack_move.StackMove.TheVariants as moves

-- ---- the first instruction of a pc

pub first_pc : (code : List Insn) (pc j : ℕ) (insn : Insn) → IsFirstOf code pc j → slice_get code j ≡ Some insn → insn.pc ≡ pc
first_pc [] pc j insn f e = absurd f
first_pc (x ∷ code) pc zero insn f e = let same : x ≡ insn = cc in let here : x.pc ≡ pc = eqb-true x.pc pc f in ap (λ (y : Insn). y.pc) (sym same) ∙ here
first_pc (x ∷ code) pc (suc j) insn f e = first_pc code pc j insn f.1 e

pub one_first : (code : List Insn) (pc i j : ℕ) → IsFirstOf code pc i → IsFirstOf code pc j → i ≡ j
one_first [] pc i j f g = absurd f
one_first (x ∷ code) pc zero zero f g = refl
one_first (x ∷ code) pc zero (suc j) f g = absurd (let bad : true ≡ false = sym f ∙ g.0 in cc)
one_first (x ∷ code) pc (suc i) zero f g = absurd (let bad : true ≡ false = sym g ∙ f.0 in cc)
one_first (x ∷ code) pc (suc i) (suc j) f g = ap suc (one_first code pc i j f.1 g.1)

-- ---- held tags

-- but for so many outermost ones, all held tags are of the section's object
abbrev pub AreOwn : Mode → ℕ → List Tag → Type 0
AreOwn mode depth held = (k : ℕ) → k + depth < length held → is_own_object mode (slice_index_or held k Untagged) ≡ true

own_held : (mode : Mode) (depth pc : ℕ) (r : OpRow) (op : Op) (ts : List Tag) (f : TagShape) → (op ≡ ops.Monitorenter → is_own_object mode (slice_index_or ts 0 Untagged) ≡ true) → AreOwn mode depth f.held → AreOwn mode depth (tags_by_op pc r op ts f).held
own_held mode depth pc r (ops.Stack moves.Dup) (Untagged ∷ ts) f enters own = own
own_held mode depth pc r ops.Monitorenter (t ∷ ts) f enters own = at
  where
    at : AreOwn mode depth (t ∷ f.held)
    at zero l = enters refl
    at (suc k) l = own k (omega (arith, l))
own_held mode depth pc r ops.Monitorexit ts f enters own =
    elim f.held as (λ held. AreOwn mode depth held → AreOwn mode depth (drop 1 held)) [ [] ↦ λ own k l. absurd (omega (arith, l)) | t ∷ held ↦ λ own k l. own (suc k) (omega (arith, l)) ] own
own_held mode depth pc r op ts f enters own = own

pub own_along : (p : Program) (m : MethodInfo) (mode : Mode) (depth : ℕ) (insn other : Insn) (target : Target) (f h : TagShape) → (insn.op ≡ ops.Monitorenter → is_own_object mode (slice_index_or f.stack 0 Untagged) ≡ true)
    → Goes p m insn target f other h → AreOwn mode depth f.held → AreOwn mode depth h.held
own_along p m mode depth insn other target f h enters (onward o e) own = own_held mode depth insn.pc (row_of p m insn target) insn.op f.stack f enters own
own_along p m mode depth insn other target f h enters (caught o e) own = own

-- ---- under a tagging

module _ (p : Program) (m : MethodInfo) where
  abbrev pub TagLands : List (PlanNode TagShape) → TagShape → ℕ → Type 0
  TagLands nodes f to = LandsOn tag_meeting IsShapeBelow tag_order m.code nodes f to

  abbrev pub IsTagFine : List (PlanNode TagShape) → Act TagShape SRule → Type 0
  IsTagFine nodes act = IsActFine tag_meeting IsShapeBelow tag_order m.code nodes act

  module _ (frames : List (Option TagShape)) (tagging : HasTagging p m frames) where
    pub ends : IsSettled (tag_plan p m) IsShapeBelow tag_order frames
    ends = settled (tag_plan p m) IsShapeBelow tag_order frames tagging

    pub sound_at : (i : ℕ) (insn : Insn) (target : Target) (f : TagShape) → slice_get m.code i ≡ Some insn → slice_get m.targets i ≡ Some target → slice_get frames i ≡ Some (Some f) → AreKept (IsTagFine ends.last) m insn (row_of p m insn target) f
    sound_at i insn target f c t e =
        let all : AllByRecursion (IsTagFine ends.last) (acts_at p m (slice_get m.code i) (slice_get m.targets i) f) = ends.sound i f e in
        acts_kept (IsTagFine ends.last) m insn (row_of p m insn target) f (λ rule pc none. none)
        (subst (λ o. AllByRecursion (IsTagFine ends.last) (acts_at p m (Some insn) o f)) t (subst (λ o. AllByRecursion (IsTagFine ends.last) (acts_at p m o (slice_get m.targets i) f)) c all))

    -- the held list where a frame lands
    landed : (h g : TagShape) (pc j : ℕ) → TagLands ends.last h pc → IsFirstOf m.code pc j → slice_get frames j ≡ Some (Some g) → h.held ≡ g.held
    landed h g pc j lands first e =
        let b = ends.framed j g e in
        (subst (λ o. IsBelow tag_meeting IsShapeBelow tag_order (Some h) o) b.2 (lands j b.0 first b.1)).held

    -- ---- each instruction with a frame is the first of its pc

    abbrev IsFirst : ℕ → Type 0
    IsFirst j = (insn : Insn) → slice_get m.code j ≡ Some insn → IsFirstOf m.code insn.pc j

    edges_first : (tos : List ℕ) → AllByRecursion (λ to. (j : ℕ) → IsFirstOf m.code to j → IsFirst j) tos
    edges_first [] = tt
    edges_first (to ∷ tos) = ((λ j first insn e. subst (λ n. IsFirstOf m.code n j) (sym (first_pc m.code to j insn first e)) first), edges_first tos)

    acts_first : (acts : List (Act TagShape SRule)) → ActsLead (tag_plan p m) IsShapeBelow tag_order (λ j g. IsFirst j) acts
    acts_first [] = tt
    acts_first (Break rule pc ∷ acts) = (tt, acts_first acts)
    acts_first (Bring rule tos f ∷ acts) = (edges_first tos, acts_first acts)

    start_first : IsFirst 0
    start_first insn e = at m.code e
      where
        at : (code : List Insn) → slice_get code 0 ≡ Some insn → IsFirstOf code insn.pc 0
        at [] e = absurd (cc)
        at (x ∷ code) e = let same : x ≡ insn = cc in eq-eqb x.pc insn.pc (ap (λ (y : Insn). y.pc) same)

    pub framed_first : (j : ℕ) (insn : Insn) (g : TagShape) → slice_get m.code j ≡ Some insn → slice_get frames j ≡ Some (Some g) → IsFirstOf m.code insn.pc j
    framed_first j insn g c e =
        let all : AreLive (tag_plan p m) IsShapeBelow tag_order (λ j g. IsFirst j) ends.last =
        all_lead (tag_plan p m) IsShapeBelow tag_order (λ j g. IsFirst j) (λ i g f a b. a) ends.visits (plan_nodes (tag_plan p m)) ends.last ends.made (first_live (tag_plan p m) IsShapeBelow tag_order (λ j g. IsFirst j) start_first) (λ i f q h. acts_first ((tag_plan p m).acts i f)) in
        let b = ends.framed j g e in
        all j b.0 g b.1 b.2 insn c

    -- ---- an edge brings the held list of its target

    lands_at : (h : TagShape) (tos : List ℕ) (pc : ℕ) → AllByRecursion (TagLands ends.last h) tos → has_number tos pc ≡ true → TagLands ends.last h pc
    lands_at h [] pc all e = absurd (let bad : false ≡ true = e in cc)
    lands_at h (to ∷ tos) pc all e = ⊎_elim (λ (same : (to == pc) ≡ true). subst (TagLands ends.last h) (eqb-true to pc same) all.0)
        (λ (e : has_number tos pc ≡ true). lands_at h tos pc all.1 e) (or_cases (to == pc) (has_number tos pc) e)

    caught_at : (f : TagShape) (handlers : List Row) (pc : ℕ) → AllByRecursion (λ handler. IsTagFine ends.last (to_handler f handler)) handlers → list_any (λ handler. handler.handler == pc) handlers ≡ true → TagLands ends.last (tags_at_handler f) pc
    caught_at f [] pc all e = absurd (let bad : false ≡ true = e in cc)
    caught_at f (handler ∷ handlers) pc all e = ⊎_elim (λ (same : (handler.handler == pc) ≡ true). subst (TagLands ends.last (tags_at_handler f)) (eqb-true handler.handler pc same) all.0.0)
        (λ (e : list_any (λ (handler : Row). handler.handler == pc) handlers ≡ true). caught_at f handlers pc all.1 e)
        (or_cases (handler.handler == pc) (list_any (λ (handler : Row). handler.handler == pc) handlers) e)

    goes_lands : (insn other : Insn) (target : Target) (f h : TagShape) → AreKept (IsTagFine ends.last) m insn (row_of p m insn target) f → Goes p m insn target f other h → TagLands ends.last h other.pc
    goes_lands insn other target f h sound (onward o e) = lands_at (tags_after insn (row_of p m insn target) f) (edges insn) o.pc sound.onward e
    goes_lands insn other target f h sound (caught o e) = caught_at f (catchers m insn) o.pc sound.caught e

    pub held_kept : (i j : ℕ) (insn other : Insn) (target : Target) (f g h : TagShape) → slice_get m.code i ≡ Some insn → slice_get m.targets i ≡ Some target → slice_get frames i ≡ Some (Some f)
        → slice_get m.code j ≡ Some other → slice_get frames j ≡ Some (Some g) → Goes p m insn target f other h → h.held ≡ g.held
    held_kept i j insn other target f g h c t e d k goes = landed h g other.pc j (goes_lands insn other target f h (sound_at i insn target f c t e) goes) (framed_first j other g d k) k

    -- ---- where all monitors are entered on one object

    module _ (mode : Mode) (enters : (i : ℕ) (insn : Insn) (target : Target) (f : TagShape) → slice_get m.code i ≡ Some insn → slice_get m.targets i ≡ Some target → slice_get frames i ≡ Some (Some f)
        → insn.op ≡ ops.Monitorenter → is_own_object mode (slice_index_or f.stack 0 Untagged) ≡ true) where
      abbrev IsOwnAt : ℕ → Type 0
      IsOwnAt j = (g : TagShape) → slice_get frames j ≡ Some (Some g) → AreOwn mode 0 g.held

      landed_own : (h : TagShape) (pc : ℕ) → AreOwn mode 0 h.held → TagLands ends.last h pc → (j : ℕ) → IsFirstOf m.code pc j → IsOwnAt j
      landed_own h pc own lands j first g e = subst (AreOwn mode 0) (landed h g pc j lands first e) own

      edges_own : (h : TagShape) (tos : List ℕ) → AreOwn mode 0 h.held → AllByRecursion (TagLands ends.last h) tos → AllByRecursion (λ to. (j : ℕ) → IsFirstOf m.code to j → IsOwnAt j) tos
      edges_own h tos own all = all_weaker (TagLands ends.last h) (λ to. (j : ℕ) → IsFirstOf m.code to j → IsOwnAt j) (λ pc lands. landed_own h pc own lands) tos all

      -- what holds at each instruction, whatever its frame is in the course of the visits
      abbrev Leads : Act TagShape SRule → Type 0
      Leads act = ActLeads (tag_plan p m) IsShapeBelow tag_order (λ j g. IsOwnAt j) act

      handlers_own : (f g : TagShape) (handlers : List Row) → AreOwn mode 0 f.held → AllByRecursion (λ handler. IsTagFine ends.last (to_handler f handler)) handlers → AllByRecursion (λ handler. Leads (to_handler g handler)) handlers
      handlers_own f g handlers own all =
          all_weaker (λ handler. IsTagFine ends.last (to_handler f handler)) (λ handler. Leads (to_handler g handler)) (λ handler lands. (landed_own (tags_at_handler f) handler.handler own lands.0, tt)) handlers all

      start_own : IsOwnAt 0
      start_own g e =
          let b = ends.framed 0 g e in
          let below : IsBelow tag_meeting IsShapeBelow tag_order (Some (entry_tags m)) (Some g) =
          subst (λ o. IsBelow tag_meeting IsShapeBelow tag_order (Some (entry_tags m)) o) b.2 (starts_below (tag_plan p m) IsShapeBelow tag_order ends.visits ends.last b.0 ends.made b.1) in
          subst (AreOwn mode 0) (none g below) (λ k l. absurd (omega (arith, l)))
        where
          none : (g : TagShape) → IsShapeBelow (entry_tags m) g → [] ≡ g.held
          none g below = below.held

      acts_own : (i : ℕ) (h : TagShape) → IsOwnAt i → HasFrame (tag_plan p m) IsShapeBelow tag_order i h ends.last → AllByRecursion Leads ((tag_plan p m).acts i h)
      acts_own i h own framed = by_both (slice_get m.code i) refl (slice_get m.targets i) refl
        where
          by_both : (o : Option Insn) → slice_get m.code i ≡ o → (q : Option Target) → slice_get m.targets i ≡ q → AllByRecursion Leads (acts_at p m o q h)
          by_both (Some insn) c (Some target) t =
              let f = final_frame (tag_plan p m) IsShapeBelow tag_order frames ends i h framed in
              let sound = sound_at i insn target f.0 c t f.1 in
              let held = own_held mode 0 insn.pc (row_of p m insn target) insn.op f.0.stack f.0 (enters i insn target f.0 c t f.1) (own f.0 f.1) in
              all_acts Leads m insn (row_of p m insn target) h (λ rule pc. tt) (edges_own (tags_after insn (row_of p m insn target) f.0) (edges insn) held sound.onward) (handlers_own f.0 h (catchers m insn) (own f.0 f.1) sound.caught)
          by_both o c q t = tt

      pub all_own : (j : ℕ) (g : TagShape) → slice_get frames j ≡ Some (Some g) → AreOwn mode 0 g.held
      all_own j g e =
          let all : AreLive (tag_plan p m) IsShapeBelow tag_order (λ j g. IsOwnAt j) ends.last =
          all_lead (tag_plan p m) IsShapeBelow tag_order (λ j g. IsOwnAt j) (λ i g f a b. a) ends.visits (plan_nodes (tag_plan p m)) ends.last ends.made (first_live (tag_plan p m) IsShapeBelow tag_order (λ j g. IsOwnAt j) start_own) acts_own in
          let b = ends.framed j g e in
          all j b.0 g b.1 b.2 g e
