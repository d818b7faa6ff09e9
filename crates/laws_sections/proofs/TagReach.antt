-- Tagging reaches only what typing reaches; and what holds of the tags at pc 0, and along each edge, holds of all.
use Rattle.std.{proofs.Common.{◌≡◌, ℕ, true, List, Option, Some, refl, sym, ap, ◌∙◌, subst, slice_get}, specs.List.AllByRecursion}
use Rattle.jvm_types.specs.{CodeGrammar.is_start, CodeTable.row, Verifying.{edges, IsLaidOut}, declared.{code.Insn.Insn, op_row.OpRow.OpRow, program.{MethodInfo.MethodInfo, Program.Program}}}
use Rattle.jvm_types.{specs.declared.program.Target.Target, proofs.EachAfter.all_weaker}
use Rattle.laws_programs.proofs.{CodeOrder.one_number, LocalGoing.{begins, local_law}}
use Rattle.checked_program.specs.{LockTags.{TagShape, entry_tags, IsShapeBelow}, Tagging.{tags_after, tags_at_handler, catchers, acts_at, tag_plan, HasTagging, IsTagAssignment}, Visits.EdgeFits}
use Rattle.laws_sections.{specs.ReachLaws.TaggedIsTyped, proofs.{TagLocal.{acts_land, start_at, tag_local}, TagOrder.tag_order, VisitsLocal.{Lands, ActLands, landing, local}}}

-- ---- typing reaches what tagging reaches

pub tagged_typed : TaggedIsTyped
tagged_typed p m types frames laid typed tagged i f e = (tag_local p m types laid (local_law p m types laid typed) frames tagged).live i f e

pub one_there : (o : Option (Option TagShape)) (g h : TagShape) → o ≡ Some (Some g) → o ≡ Some (Some h) → g ≡ h
one_there o g h d e = cc

-- ---- along the edges of an assignment

record GoesAlong (p : Program) (m : MethodInfo) (frames : List (Option TagShape)) (P : TagShape → Type 0) : Type 0 where
  start : P (entry_tags m)
  falls : (f g : TagShape) → IsShapeBelow f g → P f → P g
  caught : (f : TagShape) → P f → P (tags_at_handler f)
  onward : (i : ℕ) (insn : Insn) (target : Target) (f : TagShape) → slice_get m.code i ≡ Some insn → slice_get m.targets i ≡ Some target → slice_get frames i ≡ Some (Some f) → P f → P (tags_after insn (row p m insn.pc target insn.op) f)

module _ (p : Program) (m : MethodInfo) (frames : List (Option TagShape)) (laid : IsLaidOut m) (law : IsTagAssignment p m frames) (P : TagShape → Type 0) (along : GoesAlong p m frames P) where
  open along use {start, falls, caught, onward}

  abbrev HasIt : ℕ → TagShape → Type 0
  HasIt i f = (g : TagShape) × (slice_get frames i ≡ Some (Some g)) × P g

  fit_lands : (f h : TagShape) (to : ℕ) → P f → EdgeFits IsShapeBelow m.code frames f to → Lands HasIt m.code h to
  fit_lands f h to k fits =
      let l = landing IsShapeBelow m.code frames f to fits in
      record {
        starts = subst (λ (pc : ℕ). is_start m.code pc ≡ true) l.starts (start_at m.code l.number l.insn l.there);
        live = λ j insn e at. (l.frame, ap (slice_get frames) (one_number m j l.number insn l.insn laid e l.there (at ∙ sym l.starts)) ∙ l.has, falls f l.frame l.fits k);
      }

  insn_lands : (i : ℕ) (insn : Insn) (target : Target) (f g : TagShape) → slice_get m.code i ≡ Some insn → slice_get m.targets i ≡ Some target → slice_get frames i ≡ Some (Some g) → P g
      → AllByRecursion (ActLands HasIt m.code) (acts_at p m (Some insn) (Some target) f)
  insn_lands i insn target f g c t e k =
      let r : OpRow = row p m insn.pc target insn.op in
      let sound = law.sound i insn target g c t e in
      acts_land HasIt m insn r f
      (all_weaker (EdgeFits IsShapeBelow m.code frames (tags_after insn r g)) (Lands HasIt m.code (tags_after insn r f)) (λ to h. fit_lands (tags_after insn r g) (tags_after insn r f) to (onward i insn target g c t e k) h) (edges insn) sound.edges_fit)
      (all_weaker (λ handler. EdgeFits IsShapeBelow m.code frames (tags_at_handler g) handler.handler) (λ handler. Lands HasIt m.code (tags_at_handler f) handler.handler)
      (λ handler h. fit_lands (tags_at_handler g) (tags_at_handler f) handler.handler (caught g k) h) (catchers m insn) sound.handlers_fit)

  plan_lands : (i : ℕ) (f : TagShape) → HasIt i f → AllByRecursion (ActLands HasIt m.code) ((tag_plan p m).acts i f)
  plan_lands i f has = by_both (slice_get m.code i) refl (slice_get m.targets i) refl
    where
      by_both : (o : Option Insn) → slice_get m.code i ≡ o → (q : Option Target) → slice_get m.targets i ≡ q → AllByRecursion (ActLands HasIt m.code) (acts_at p m o q f)
      by_both (Some insn) c (Some target) t = insn_lands i insn target f has.0 c t has.1 has.2
      by_both o c q t = tt

  first_has : HasIt 0 (entry_tags m)
  first_has =
      let l = landing IsShapeBelow m.code frames (entry_tags m) 0 law.entry in
      let b = begins m laid in
      (l.frame, ap (slice_get frames) (one_number m 0 l.number b.0 l.insn laid (ap (λ (code : List Insn). slice_get code 0) b.2) l.there (b.3 ∙ sym l.starts)) ∙ l.has, falls (entry_tags m) l.frame l.fits start)

  have_all : HasTagging p m frames → (i : ℕ) (f : TagShape) → slice_get frames i ≡ Some (Some f) → P f
  have_all tagged i f e =
      let has = (local (tag_plan p m) IsShapeBelow tag_order HasIt (record { first = first_has; meets = λ i g f a b. a; lands = plan_lands }) (begins m laid) frames tagged).live i f e in
      subst P (one_there (slice_get frames i) has.0 f has.1 e) has.2

pub all_have : (p : Program) (m : MethodInfo) (frames : List (Option TagShape)) → IsLaidOut m → IsTagAssignment p m frames → (P : TagShape → Type 0) → P (entry_tags m) → ((f g : TagShape) → IsShapeBelow f g → P f → P g) → ((f : TagShape) → P f → P (tags_at_handler f))
    → ((i : ℕ) (insn : Insn) (target : Target) (f : TagShape) → slice_get m.code i ≡ Some insn → slice_get m.targets i ≡ Some target → slice_get frames i ≡ Some (Some f) → P f → P (tags_after insn (row p m insn.pc target insn.op) f))
    → HasTagging p m frames → (i : ℕ) (f : TagShape) → slice_get frames i ≡ Some (Some f) → P f
all_have p m frames laid law P start falls caught onward = have_all p m frames laid law P (record { start = start; falls = falls; caught = caught; onward = onward })
