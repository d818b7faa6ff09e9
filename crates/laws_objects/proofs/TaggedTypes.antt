-- What holds of the types and the tags at pc 0 together, and along each edge, holds wherever tagging reaches: so there are as
-- many tags as types, and outside an `<init>` no value has the type of an uninitialised `this`.
use Rattle.std.proofs.Common.{◌≡◌, ℕ, suc, ◌+◌, ◌-◌, Bool, true, false, cond, List, [], ◌∷◌, ◌++◌, length, map, drop, replicate, Option, Some, None, refl, sym, ap, ◌∙◌, subst, arith, if◌then◌else◌, slice_get}
use Rattle.std.{specs.List.AllByRecursion, proofs.lemmas.List.{length-append, length-map, length-drop, length-set, length-replicate}}
use Rattle.jvm_types.specs.{CodeGrammar.is_start, CodeTable.{can_throw, row, is_init, type_of, value_of, stack_after, locals_after}, Members.is_static}
use Rattle.jvm_types.specs.{Types.{TypeFrame, frame_below, entry_type_frame, receiver_types}, Verifying.{edges, covering, started, after_start, frame_after, frame_at_handler, HasTyping, IsLaidOut}}
use Rattle.jvm_types.specs.declared.{code.{Insn.Insn, Op.Op}, op_row.{Given.Given, OpRow.OpRow}, program.{MethodInfo.MethodInfo, Program.Program, Row.Row, Target.Target}, typing.VType.VType}
use Rattle.jvm_types.{specs.declared.typing.VType.TheVariants.{Ref, This, Top}, proofs.{EachAfter.all_weaker, FrameOrder.{stack_below, locals_below, pairs_length}}}
use Rattle.laws_programs.proofs.{CodeOrder.one_number, EdgeTargets.lands, LocalGoing.{begins, local_law}, VisitsEnd.initialised_length}
use Rattle.checked_program.specs.LockTags.{TagShape, entry_tags, meet_tags, IsShapeBelow}
use Rattle.checked_program.specs.{Tagging.{moved_tags, tags_by_op, tags_after, catches_all, until_all, tags_at_handler, acts_at, tag_plan, tag_meeting, HasTagging}, declared.tag.Tag.Tag}
use Rattle.checked_program.specs.declared.tag.Tag.TheVariants.{Untagged, This as Own}
use Rattle.laws_sections.proofs.{TagLocal.{acts_land, start_at}, TagOrder.tag_order, VisitsLocal.{Lands, ActLands, IsClosed, local}}
use Rattle.laws_threads.proofs.Tests.{either_way}
use Rattle.jvm_types.specs.Verifying as types
use Rattle.jvm_types.specs.declared.code.Op.TheVariants as ops
use Rattle.jvm_types.specs.declared.stack_move.StackMove.TheVariants as moves

-- ---- any such fact

-- one that holds where a method begins, and goes on from types and tags to those behind
pub record GoesAlong (p : Program) (m : MethodInfo) (P : TypeFrame → TagShape → Type 0) : Type 0 where
  pub start : P (entry_type_frame m) (entry_tags m)
  pub rises : (g h : TypeFrame) (f : TagShape) → frame_below g h ≡ true → P g f → P h f
  pub meets : (g : TypeFrame) (f h : TagShape) → P g f → P g h → P g (tag_meeting.meet f h)
  pub onward : (insn : Insn) (target : Target) (g : TypeFrame) (f : TagShape) → P g f → P (frame_after m (row p m insn.pc target insn.op) g) (tags_after insn (row p m insn.pc target insn.op) f)
  pub caught : (handler : Row) (g : TypeFrame) (f : TagShape) → P g f → P (frame_at_handler handler g) (tags_at_handler f)

module _ (p : Program) (m : MethodInfo) (frames : List (Option TypeFrame)) (laid : IsLaidOut m) (typed : HasTyping p m frames) (P : TypeFrame → TagShape → Type 0) (along : GoesAlong p m P) where
  open along use {start, rises, meets, onward, caught}

  typing : types.IsAssignment p m frames
  typing = local_law p m frames laid typed

  abbrev pub HasIt : ℕ → TagShape → Type 0
  HasIt i f = (g : TypeFrame) × (slice_get frames i ≡ Some (Some g)) × P g f

  fit_lands : (g : TypeFrame) (f : TagShape) (to : ℕ) → P g f → types.FrameFits m.code frames g to → Lands HasIt m.code f to
  fit_lands g f to k h =
      let l = lands m frames g to h in
      record {
        starts = subst (λ (pc : ℕ). is_start m.code pc ≡ true) l.starts (start_at m.code l.number l.insn l.there);
        live = λ j insn e at. (l.frame, ap (slice_get frames) (one_number m j l.number insn l.insn laid e l.there (at ∙ sym l.starts)) ∙ l.has, rises g l.frame f l.fits k);
      }

  rows_land : (g : TypeFrame) (f : TagShape) (rows : List Row) → P g f → AllByRecursion (λ handler. types.FrameFits m.code frames (frame_at_handler handler g) handler.handler) rows
      → AllByRecursion (λ handler. Lands HasIt m.code (tags_at_handler f) handler.handler) (until_all rows)
  rows_land g f [] k h = tt
  rows_land g f (handler ∷ rows) k h =
      let one = fit_lands (frame_at_handler handler g) (tags_at_handler f) handler.handler (caught handler g f k) h.0 in
      either_way (λ (b : Bool). AllByRecursion (λ handler. Lands HasIt m.code (tags_at_handler f) handler.handler) (if b then handler ∷ [] else handler ∷ until_all rows)) (catches_all handler) (one, tt) (one, rows_land g f rows k h.1)

  plan_lands : (i : ℕ) (f : TagShape) → HasIt i f → AllByRecursion (ActLands HasIt m.code) ((tag_plan p m).acts i f)
  plan_lands i f has = by_both (slice_get m.code i) refl (slice_get m.targets i) refl
    where
      by_both : (o : Option Insn) → slice_get m.code i ≡ o → (q : Option Target) → slice_get m.targets i ≡ q → AllByRecursion (ActLands HasIt m.code) (acts_at p m o q f)
      by_both (Some insn) c (Some target) t =
          let g : TypeFrame = has.0 in
          let r : OpRow = row p m insn.pc target insn.op in
          let sound = typing.sound i insn target g c t has.1 in
          acts_land HasIt m insn r f
          (all_weaker (types.FrameFits m.code frames (frame_after m r g)) (Lands HasIt m.code (tags_after insn r f)) (λ to h. fit_lands (frame_after m r g) (tags_after insn r f) to (onward insn target g f has.2) h) (edges insn) sound.edges_fit)
          (either_way (λ (b : Bool). AllByRecursion (λ handler. Lands HasIt m.code (tags_at_handler f) handler.handler) (if b then until_all (covering m insn.pc) else [])) (can_throw insn.op)
          (rows_land g f (covering m insn.pc) has.2 sound.handlers_fit) tt)
      by_both o c q t = tt

  pub all_have : (tags : List (Option TagShape)) → HasTagging p m tags → (i : ℕ) (g : TypeFrame) (f : TagShape) → slice_get frames i ≡ Some (Some g) → slice_get tags i ≡ Some (Some f) → P g f
  all_have tags tagged i g f t e =
      let l = lands m frames (entry_type_frame m) 0 typing.entry in
      let b = begins m laid in
      let closed : IsClosed (tag_plan p m) HasIt = record {
        first = (l.frame, ap (slice_get frames) (one_number m 0 l.number b.0 l.insn laid (ap (λ (code : List Insn). slice_get code 0) b.2) l.there (b.3 ∙ sym l.starts)) ∙ l.has, rises (entry_type_frame m) l.frame (entry_tags m) l.fits start);
        meets = λ i g f a b. (let same : b.0 ≡ a.0 = cc (a.1, b.1) in (a.0, a.1, meets a.0 g f a.2 (subst (λ (x : TypeFrame). P x f) same b.2)));
        lands = plan_lands;
      } in
      let has = (local (tag_plan p m) IsShapeBelow tag_order HasIt closed b tags tagged).live i f e in
      let same : has.0 ≡ g = cc (has.1, t) in
      rw same at has.2

-- ---- there are as many tags as types

pub record AreAsMany (g : TypeFrame) (f : TagShape) : Type 0 where
  pub stack : length f.stack ≡ length g.stack
  pub locals : length f.locals ≡ length g.locals

meets_long : (ts us : List Tag) → length ts ≡ length us → length (meet_tags ts us) ≡ length ts
meets_long [] us e = refl
meets_long (t ∷ ts) [] e = absurd (omega (arith, e))
meets_long (t ∷ ts) (u ∷ us) e = ap suc (meets_long ts us (omega (arith, e)))

after_start_many : (o : Option (VType × ℕ)) (g : TypeFrame) (f : TagShape) → AreAsMany g f → AreAsMany (after_start o g) f
after_start_many None g f k = k
after_start_many (Some object) g f k = record { stack = k.stack ∙ sym (initialised_length object.0 object.1 g.stack); locals = k.locals ∙ sym (initialised_length object.0 object.1 g.locals) }

module _ {A B : Type 0} (a : A) (x : VType → A) (b : B) (y : VType → B) where
  stack_many : (r : OpRow) (s l : List A) (t k : List B) → length s ≡ length t → length (stack_after a x r s l) ≡ length (stack_after b y r t k)
  stack_many r s l t k e =
      length-append (map (value_of a x s l) r.gives) (drop (length r.takes) s) ∙ ap (λ (n : ℕ). n + length (drop (length r.takes) s)) (length-map r.gives (value_of a x s l))
      ∙ ap (λ (n : ℕ). length r.gives + n) (length-drop (length r.takes) s ∙ ap (λ (n : ℕ). n - length r.takes) e ∙ sym (length-drop (length r.takes) t))
      ∙ sym (length-append (map (value_of b y t k) r.gives) (drop (length r.takes) t) ∙ ap (λ (n : ℕ). n + length (drop (length r.takes) t)) (length-map r.gives (value_of b y t k)))

  locals_many : (w : Option (ℕ × Given)) (s l : List A) (t k : List B) → length l ≡ length k → length (locals_after a x w s l) ≡ length (locals_after b y w t k)
  locals_many None s l t k e = e
  locals_many (Some w) s l t k e = length-set l w.0 (value_of a x s l w.1) ∙ e ∙ sym (length-set k w.0 (value_of b y t k w.1))

moved_many : (r : OpRow) (g : TypeFrame) (f : TagShape) → AreAsMany g f → AreAsMany (record { stack = stack_after Top (λ t. t) r g.stack g.locals; locals = locals_after Top (λ t. t) r.writes g.stack g.locals; ready = g.ready }) (moved_tags r f)
moved_many r g f k = record {
  stack = stack_many Untagged (λ type. Untagged) Top (λ t. t) r f.stack f.locals g.stack g.locals k.stack;
  locals = locals_many Untagged (λ type. Untagged) Top (λ t. t) r.writes f.stack f.locals g.stack g.locals k.locals;
}

by_op_many : (p : Program) (m : MethodInfo) (pc : ℕ) (target : Target) (op : Op) (g : TypeFrame) (f : TagShape) → AreAsMany g f
    → AreAsMany (record { stack = stack_after Top (λ t. t) (row p m pc target op) g.stack g.locals; locals = locals_after Top (λ t. t) (row p m pc target op).writes g.stack g.locals; ready = g.ready }) (tags_by_op pc (row p m pc target op) op f.stack f)
by_op_many p m pc target (ops.Stack moves.Dup) g f k = by_tags f.stack refl
  where
    moved : AreAsMany (record { stack = stack_after Top (λ t. t) (row p m pc target (ops.Stack moves.Dup)) g.stack g.locals; locals = g.locals; ready = g.ready }) (moved_tags (row p m pc target (ops.Stack moves.Dup)) f)
    moved = moved_many (row p m pc target (ops.Stack moves.Dup)) g f k

    by_tags : (ts : List Tag) → f.stack ≡ ts → AreAsMany (record { stack = stack_after Top (λ t. t) (row p m pc target (ops.Stack moves.Dup)) g.stack g.locals; locals = g.locals; ready = g.ready }) (tags_by_op pc (row p m pc target (ops.Stack moves.Dup)) (ops.Stack moves.Dup) ts f)
    by_tags (Untagged ∷ ts) e = record {
      stack = ap (λ (n : ℕ). suc (suc n)) (length-map ts _) ∙ (let long : length g.stack ≡ suc (length ts) = sym k.stack ∙ ap (length {A = Tag}) e in ap (λ (n : ℕ). suc (suc n)) (omega (arith, long, length-drop 1 g.stack)));
      locals = length-map f.locals _ ∙ k.locals;
    }
    by_tags ts e = moved
by_op_many p m pc target ops.Monitorenter g f k =
    let moved = moved_many (row p m pc target ops.Monitorenter) g f k in
    elim f.stack as (λ (ts : List Tag). AreAsMany (record { stack = stack_after Top (λ t. t) (row p m pc target ops.Monitorenter) g.stack g.locals; locals = g.locals; ready = g.ready }) (tags_by_op pc (row p m pc target ops.Monitorenter) ops.Monitorenter ts f))
    [ [] ↦ moved | t ∷ ts ↦ record { stack = moved.stack; locals = moved.locals } ]
by_op_many p m pc target ops.Monitorexit g f k = let moved = moved_many (row p m pc target ops.Monitorexit) g f k in record { stack = moved.stack; locals = moved.locals }
by_op_many p m pc target op g f k = moved_many (row p m pc target op) g f k

entry_many : (m : MethodInfo) → length (entry_type_frame m).locals ≡ m.max_locals → AreAsMany (entry_type_frame m) (entry_tags m)
entry_many m fits = record { stack = refl; locals = by_flag (is_static m.flags) refl ∙ sym fits }
  where
    by_flag : (b : Bool) → is_static m.flags ≡ b → length (if b then replicate m.max_locals Untagged else Own ∷ replicate (m.max_locals - 1) Untagged) ≡ m.max_locals
    by_flag true e = length-replicate m.max_locals Untagged
    by_flag false e =
        let l = length-append (receiver_types m ++ map type_of m.args) (replicate (m.max_locals - length (receiver_types m ++ map type_of m.args)) Top) in
        let k = length-append (receiver_types m) (map type_of m.args) in
        let one : length (receiver_types m) ≡ 1 = ap (λ (b : Bool). length (cond b [] (cond (is_init m) This (Ref m.class) ∷ []))) e in
        ap suc (length-replicate (m.max_locals - 1) Untagged) ∙ omega (arith, l, k, one, fits)

-- where the arguments fit in the locals
pub tags_many : (p : Program) (m : MethodInfo) (frames : List (Option TypeFrame)) (tags : List (Option TagShape)) → IsLaidOut m → HasTyping p m frames → HasTagging p m tags → length (entry_type_frame m).locals ≡ m.max_locals
    → (i : ℕ) (g : TypeFrame) (f : TagShape) → slice_get frames i ≡ Some (Some g) → slice_get tags i ≡ Some (Some f) → AreAsMany g f
tags_many p m frames tags laid typed tagged fits =
    all_have p m frames laid typed AreAsMany (record {
      start = entry_many m fits;
      rises = λ g h f e k. record { stack = k.stack ∙ pairs_length g.stack h.stack (stack_below g h e); locals = k.locals ∙ pairs_length g.locals h.locals (locals_below g h e) };
      meets = λ g f h a b. record { stack = meets_long f.stack h.stack (a.stack ∙ sym b.stack) ∙ a.stack; locals = meets_long f.locals h.locals (a.locals ∙ sym b.locals) ∙ a.locals };
      onward = λ insn target g f k. let r : OpRow = row p m insn.pc target insn.op in after_start_many (started m.class r.takes g.stack) _ (tags_after insn r f)
          (by_op_many p m insn.pc target insn.op g f k);
      caught = λ handler g f k. record { stack = refl; locals = k.locals };
    }) tags tagged
