-- The local law of tags, from that of visits. Tagging reaches only what typing reaches; so its edges lead to instructions.
use Rattle.std.{proofs.Common.{◌≡◌, ℕ, zero, suc, true, List, [], ◌∷◌, Option, Some, refl, sym, ap, ◌∙◌, subst, ◌==◌, slice_get}, specs.List.AllByRecursion}
use Rattle.std.proofs.lemmas.Bool.{cond_both, or_left, or_right, eq-eqb}
use Rattle.jvm_types.specs.{CodeGrammar.is_start, CodeTable.{row, can_throw}, Types.{TypeFrame, entry_type_frame}, Verifying.{edges, covering, frame_after, frame_at_handler, IsLaidOut}}
use Rattle.jvm_types.{specs.declared.{code.Insn.Insn, op_row.OpRow.OpRow, program.{MethodInfo.MethodInfo, Program.Program, Row.Row, Target.Target}, refusal.SRule.SRule}, proofs.EachAfter.all_weaker}
use Rattle.laws_programs.proofs.{CodeOrder.one_number, EdgeTargets.lands, LocalGoing.{begins, local_law}}
use Rattle.checked_program.specs.{LockTags.{TagShape, entry_tags, IsShapeBelow}, TagLaws.TagLocalLaw}
use Rattle.checked_program.specs.{Tagging.{tags_after, catches_all, until_all, catchers, tags_at_handler, tag_acts, acts_at, tag_plan, HasTagging, IsTagSound}, Visits.{Act, EdgeFits}}
use Rattle.laws_sections.proofs.{TagActs.{to_handler, acts_kept, all_acts}, TagOrder.tag_order, VisitsLocal.{Lands, ActLands, IsClosed, IsActSound, IsLocal, local}}
use Rattle.jvm_types.specs.Verifying as types

-- ---- what is sound by acts is sound by rules

acts_sound : (m : MethodInfo) (insn : Insn) (r : OpRow) (frames : List (Option TagShape)) (f : TagShape) → AllByRecursion (IsActSound IsShapeBelow m.code frames) (tag_acts m insn r f) → IsTagSound m insn r frames f
acts_sound m insn r frames f h =
    let P : Act TagShape SRule → Type 0 = IsActSound IsShapeBelow m.code frames in
    let kept = acts_kept P m insn r f (λ rule pc none. none) h in
    record {
      enters = kept.enters;
      exits = kept.exits;
      leaves = kept.leaves;
      edges_fit = kept.onward;
      handlers_fit = all_weaker (λ handler. P (to_handler f handler)) (λ handler. EdgeFits IsShapeBelow m.code frames (tags_at_handler f) handler.handler) (λ handler k. k.0) (catchers m insn) kept.caught;
    }

-- ---- where its edges lead

pub acts_land : (L : ℕ → TagShape → Type 0) (m : MethodInfo) (insn : Insn) (r : OpRow) (f : TagShape) → AllByRecursion (Lands L m.code (tags_after insn r f)) (edges insn)
    → AllByRecursion (λ handler. Lands L m.code (tags_at_handler f) handler.handler) (catchers m insn) → AllByRecursion (ActLands L m.code) (tag_acts m insn r f)
acts_land L m insn r f onward caught =
    let P : Act TagShape SRule → Type 0 = ActLands L m.code in
    all_acts P m insn r f (λ rule pc. tt) onward (all_weaker (λ handler. Lands L m.code (tags_at_handler f) handler.handler) (λ handler. P (to_handler f handler)) (λ handler h. (h, tt)) (catchers m insn) caught)

pub start_at : (code : List Insn) (i : ℕ) (insn : Insn) → slice_get code i ≡ Some insn → is_start code insn.pc ≡ true
start_at [] i insn e = absurd (cc)
start_at (x ∷ code) zero insn e = let same : x ≡ insn = cc in or_left (x.pc == insn.pc) (is_start code insn.pc) (eq-eqb x.pc insn.pc (ap (λ (y : Insn). y.pc) same))
start_at (x ∷ code) (suc i) insn e = or_right (x.pc == insn.pc) (is_start code insn.pc) (start_at code i insn e)

-- ---- what typing reaches

module _ (p : Program) (m : MethodInfo) (frames : List (Option TypeFrame)) (laid : IsLaidOut m) (typing : types.IsAssignment p m frames) where
  -- the typing has a frame there
  abbrev IsTyped : ℕ → TagShape → Type 0
  IsTyped i f = (g : TypeFrame) × (slice_get frames i ≡ Some (Some g))

  typed_lands : (g : TypeFrame) (f : TagShape) (to : ℕ) → types.FrameFits m.code frames g to → Lands IsTyped m.code f to
  typed_lands g f to h =
      let l = lands m frames g to h in
      record {
        starts = subst (λ (pc : ℕ). is_start m.code pc ≡ true) l.starts (start_at m.code l.number l.insn l.there);
        live = λ j insn e k. (l.frame, ap (slice_get frames) (one_number m j l.number insn l.insn laid e l.there (k ∙ sym l.starts)) ∙ l.has);
      }

  rows_land : (g : TypeFrame) (f : TagShape) (rows : List Row) → AllByRecursion (λ handler. types.FrameFits m.code frames (frame_at_handler handler g) handler.handler) rows
      → AllByRecursion (λ handler. Lands IsTyped m.code (tags_at_handler f) handler.handler) (until_all rows)
  rows_land g f [] h = tt
  rows_land g f (handler ∷ rows) h =
      let one : Lands IsTyped m.code (tags_at_handler f) handler.handler = typed_lands (frame_at_handler handler g) (tags_at_handler f) handler.handler h.0 in
      cond_both (catches_all handler) (handler ∷ []) (handler ∷ until_all rows) (AllByRecursion (λ handler. Lands IsTyped m.code (tags_at_handler f) handler.handler))
      (λ e. (one, tt)) (λ e. (one, rows_land g f rows h.1))

  catchers_land : (insn : Insn) (g : TypeFrame) (f : TagShape) → AllByRecursion (λ handler. types.FrameFits m.code frames (frame_at_handler handler g) handler.handler) (covering m insn.pc)
      → AllByRecursion (λ handler. Lands IsTyped m.code (tags_at_handler f) handler.handler) (catchers m insn)
  catchers_land insn g f h =
      cond_both (can_throw insn.op) (until_all (covering m insn.pc)) [] (AllByRecursion (λ handler. Lands IsTyped m.code (tags_at_handler f) handler.handler))
      (λ e. rows_land g f (covering m insn.pc) h) (λ e. tt)

  insn_lands : (insn : Insn) (r : OpRow) (g : TypeFrame) (f : TagShape) → types.IsSound m insn r frames g → AllByRecursion (ActLands IsTyped m.code) (tag_acts m insn r f)
  insn_lands insn r g f s = acts_land IsTyped m insn r f
      (all_weaker (types.FrameFits m.code frames (frame_after m r g)) (Lands IsTyped m.code (tags_after insn r f)) (typed_lands (frame_after m r g) (tags_after insn r f)) (edges insn) s.edges_fit)
      (catchers_land insn g f s.handlers_fit)

  plan_lands : (i : ℕ) (f : TagShape) → IsTyped i f → AllByRecursion (ActLands IsTyped m.code) ((tag_plan p m).acts i f)
  plan_lands i f typed = by_both (slice_get m.code i) refl (slice_get m.targets i) refl
    where
      by_both : (o : Option Insn) → slice_get m.code i ≡ o → (q : Option Target) → slice_get m.targets i ≡ q → AllByRecursion (ActLands IsTyped m.code) (acts_at p m o q f)
      by_both (Some insn) c (Some target) t = insn_lands insn (row p m insn.pc target insn.op) typed.0 f (typing.sound i insn target typed.0 c t typed.1)
      by_both o c q t = tt

  first_typed : IsTyped 0 (entry_tags m)
  first_typed =
      let l = lands m frames (entry_type_frame m) 0 typing.entry in
      let b = begins m laid in
      (l.frame, ap (slice_get frames) (one_number m 0 l.number b.0 l.insn laid (ap (λ (code : List Insn). slice_get code 0) b.2) l.there (b.3 ∙ sym l.starts)) ∙ l.has)

  pub tag_closed : IsClosed (tag_plan p m) IsTyped
  tag_closed = record { first = first_typed; meets = λ i g f a b. a; lands = plan_lands }

  pub tag_local : (tags : List (Option TagShape)) → HasTagging p m tags → IsLocal (tag_plan p m) IsShapeBelow IsTyped tags
  tag_local tags h = local (tag_plan p m) IsShapeBelow tag_order IsTyped tag_closed (begins m laid) tags h

-- ---- the law

pub tag_local_law : TagLocalLaw
tag_local_law p m types frames laid typed tagged =
    let all = tag_local p m types laid (local_law p m types laid typed) frames tagged in
    record {
      long = all.long;
      entry = all.entry;
      sound = λ i insn target f c t e. acts_sound m insn (row p m insn.pc target insn.op) frames f
          (subst (λ (o : Option Insn). AllByRecursion (IsActSound IsShapeBelow m.code frames) (acts_at p m o (Some target) f)) c
          (subst (λ (q : Option Target). AllByRecursion (IsActSound IsShapeBelow m.code frames) (acts_at p m (slice_get m.code i) q f)) t (all.sound i f e)));
    }
