-- Where a frame lands it has what the edge brought; what holds at the instruction of a frame that stands.
use Rattle.std.proofs.Common.{◌≡◌, ℕ, Bool, true, false, List, Option, Some, refl, sym, subst, ◌∙◌, slice_get, map}
use Rattle.lists.proofs.TestLaws.{both_are_true}
use Rattle.jvm_types.specs.{CodeTable.is_init, Numbers.has_number, Types.TypeFrame, Verifying.edges, declared.{code.Insn.Insn, program.{MethodInfo.MethodInfo, Target.Target}}}
use Rattle.jvm_types.proofs.FrameOrder.{stack_below, locals_below}
use Rattle.laws_programs.proofs.{CodeOrder.{one_number, have_targets}, EdgeTargets.lands, EntryFrame.entry_fits_all}
use Rattle.checked_program.specs.{FrozenPlaces.{KeepsThis, KeepsInside}, LockTags.{TagShape, IsShapeBelow}, TaggedCode.{IsAt, onward, row_of}, Tagging.tags_after}
use Rattle.laws_sections.proofs.VisitsLocal.{landing}
use Rattle.machine_types.specs.{Construction.{puts_owned, builds, makes_frozen, SlotsAre, StackWith, Runs, IsFresh, ReceiverIs, SlotOf, IsNoStored, IsArraySlot, SlotsFrom}, Standing.{Standing, tags_of}, Threads.Frame}
use Rattle.machine_types.specs.Worlds.{Unstored, builder, IsFinished}
use Rattle.laws_threads.proofs.{FramePlaces.of_standing, MarkedMethods.{IsMethod, method_with}}
use Rattle.laws_objects.proofs.{ArraySlots.{edge_from, no_stored_along, array_along}, Buildings.{Design, Building, FrameIn}, NoThis.{HaveNoThis, no_this}, Slots.{slots_edge, with_edge}}
use Rattle.laws_objects.proofs.TaggedTypes.{AreAsMany, tags_many}
use Rattle.jvm_types.specs.Verifying as types
use Rattle.checked_program.specs.Visits as visits

module _ (design : Design) where
  open design use {c, marked, frozen, are, owning}

  -- ---- where a frame stands

  -- an `<init>` of a frozen class lets its object nowhere
  pub inside_at : (f : Frame) (k : Standing c f) → builds frozen k.method ≡ true → KeepsInside c.program (tags_of c) f.method k.method
  inside_at f k own = let parts = both_are_true (is_init k.method) (frozen k.method.class) own in are.those k.method.class parts.1 f.method k.method k.at.in_program refl parts.0

  -- outside an `<init>` there is no uninitialised `this`
  pub no_this_at : (f : Frame) (k : Standing c f) → is_init k.method ≡ false → HaveNoThis k.types
  no_this_at f k init = let m = of_standing c marked f k in no_this c.program k.method k.frames k.at.frames m.laid m.typed m.tagged init k.number k.types k.tags k.types_are k.at.frame

  -- ---- where it lands

  -- in an `<init>` of a frozen class no place with `this` is joined to one without
  abbrev pub IsJoined : (g : Frame) (m : MethodInfo) (brought : TagShape) → Type 0
  IsJoined g m brought = builds frozen m ≡ true → (j : ℕ) (other : Insn) (next : Target) (u : TagShape) → IsAt c.program (tags_of c) g.method j m other next u → other.pc ≡ g.pc → KeepsThis brought u

  pub joined_onward : (f g : Frame) (k : Standing c f) → g.method ≡ f.method → has_number (edges k.insn) g.pc ≡ true → IsJoined g k.method (tags_after k.insn (row_of c.program k.method k.insn k.target) k.tags)
  joined_onward f g k same edge own j other next u at starts =
      let there : IsAt c.program (tags_of c) f.method j k.method other next u = subst (λ (n : ℕ). IsAt c.program (tags_of c) n j k.method other next u) same at in
      (inside_at f k own).joined k.number j k.insn other k.target next k.tags u (tags_after k.insn (row_of c.program k.method k.insn k.target) k.tags) k.at there
      (onward other (subst (λ (pc : ℕ). has_number (edges k.insn) pc ≡ true) (sym starts) edge))

  -- whether it stores the array on its top next, and which arrays were stored, with what the edge brought
  pub record LandsWell (puts : Bool) (g : Frame) (m : MethodInfo) (after : TypeFrame) : Type 0 where
    pub put : (j : ℕ) (other : Insn) (next : Target) (u : TagShape) → IsAt c.program (tags_of c) g.method j m other next u → other.pc ≡ g.pc → puts_owned owning.owned other.op next ≡ puts
    pub arrays : (j : ℕ) (other : Insn) (next : Target) (u : TagShape) → IsAt c.program (tags_of c) g.method j m other next u → other.pc ≡ g.pc → SlotsFrom (IsArraySlot c owning.stores g j) 0 after.stack g.stack
    pub locals : SlotsFrom (λ place. IsNoStored owning.stores) 0 after.locals g.locals

module _ (building : Building) (h : ℕ) (null : IsFinished building.w building.next 0) where
  open building use {design, c, marked, frozen, owning, w, next, t}

  pub land : (puts : Bool) (g : Frame) (m : MethodInfo) (frames : List (Option TypeFrame)) (tags : List (Option TagShape)) (after : TypeFrame) (brought : TagShape) → slice_get c.program.methods g.method ≡ Some m
      → slice_get (map (λ t. t.frames) c.typings) g.method ≡ Some frames → slice_get (tags_of c) g.method ≡ Some tags → types.FrameFits m.code frames after g.pc → visits.EdgeFits IsShapeBelow m.code tags brought g.pc → IsJoined design g m brought
      → LandsWell design puts g m after → ReceiverIs w next t h (builds frozen m) g.receiver → StackWith (SlotOf frozen w next t h Runs m g.receiver) (λ v. w v ≡ Some (builder t h Unstored)) puts after.stack brought.stack g.stack → SlotsAre (SlotOf frozen w next t h Runs m g.receiver) after.locals brought.locals g.locals
      → FrameIn building h Runs g
  land puts g m frames tags after brought e ty u fits below joined well receiver stack locals =
      let of : IsMethod c.program m tags frames = method_with c marked g.method m tags frames e u ty in
      let l = lands m frames after g.pc fits in
      let n = landing IsShapeBelow m.code tags brought g.pc below in
      let same = one_number m n.number l.number n.insn l.insn of.laid n.there l.there (n.starts ∙ sym l.starts) in
      let target = have_targets c.program g.method l.number m l.insn marked.checked.program e l.there in
      let there : slice_get tags l.number ≡ Some (Some n.frame) = subst (λ i. slice_get tags i ≡ Some (Some n.frame)) same n.has in
      let at : IsAt c.program (tags_of c) g.method l.number m l.insn target.0 n.frame = record { in_program = e; in_code = l.there; names = target.1; frames = tags; of_method = u; frame = there } in
      let many : AreAsMany l.frame n.frame = tags_many c.program m frames tags of.laid of.typed of.tagged (entry_fits_all c.program m frames of.laid of.typed) l.number l.frame n.frame l.has there in
      record {
        stands = record {
          number = l.number;
          method = m;
          insn = l.insn;
          target = target.0;
          tags = n.frame;
          at = at;
          frames = frames;
          types_of_method = ty;
          types = l.frame;
          types_are = l.has;
          pc_is = l.starts;
        };
        receiver = receiver;
        stack = subst (λ (b : Bool). StackWith (SlotOf frozen w next t h Runs m g.receiver) (λ v. w v ≡ Some (builder t h Unstored)) b l.frame.stack n.frame.stack g.stack) (sym (well.put l.number l.insn target.0 n.frame at l.starts))
            (with_edge (IsFinished w next) null (IsFresh w t h Runs) (builds frozen m) (makes_frozen frozen m) g.receiver (λ v. w v ≡ Some (builder t h Unstored)) puts after.stack l.frame.stack brought.stack n.frame.stack g.stack (stack_below after l.frame l.fits) n.fits.stack many.stack
            (λ own. (joined own l.number l.insn target.0 n.frame at l.starts).stack) stack);
        locals = slots_edge (IsFinished w next) null (IsFresh w t h Runs) (builds frozen m) (makes_frozen frozen m) g.receiver after.locals l.frame.locals brought.locals n.frame.locals g.locals (locals_below after l.frame l.fits) n.fits.locals many.locals
            (λ own. (joined own l.number l.insn target.0 n.frame at l.starts).locals) locals;
        arrays = edge_from (IsArraySlot c owning.stores g l.number) (array_along c owning.stores g l.number) 0 after.stack l.frame.stack g.stack (stack_below after l.frame l.fits) (well.arrays l.number l.insn target.0 n.frame at l.starts);
        no_arrays = edge_from (λ place. IsNoStored owning.stores) (no_stored_along owning.stores) 0 after.locals l.frame.locals g.locals (locals_below after l.frame l.fits) well.locals;
      }
