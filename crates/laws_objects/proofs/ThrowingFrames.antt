-- Exceptions: a frame that throws, the frame below it, and a handler.
use Rattle.std.proofs.Common.{◌≡◌, ℕ, suc, Bool, true, false, ◌||◌, ◌&&◌, not, List, [], ◌∷◌, length, Some, refl, sym, ap, ◌∙◌, subst, arith, ◌==◌, slice_get, if◌then◌else◌}
use Rattle.std.{specs.List.{AllByRecursion, list_any}, proofs.lemmas.Bool.{or_parts, Decides.nat_tests}}
use Rattle.jvm_types.specs.{ClassTree.is_subclass, CodeTable.{can_throw, row}, Types.{is_new, is_uninitialised}}
use Rattle.jvm_types.specs.{Verifying.{some_operand, misuses, frame_at_handler, caught_class, covers, covering, is_return}, declared.{code.Insn.Insn, op_row.OpRow.OpRow, program.{Row.Row, Target.Target}, typing.VType.VType}}
use Rattle.laws_programs.proofs.{LocalEdges.second_false, LocalGoing.at_index, NewEdges.none_of}
use Rattle.checked_program.specs.{Colours.{ColourShape, is_coloured}, LockTags.{TagShape, IsShapeBelow}, OwnedArrays.IsOwnedAt, TaggedCode.{IsAt, caught}, Tagging.{until_all, catchers, tags_at_handler}}
use Rattle.checked_program.proofs.CheckedPlaces.{catchers_among}
use Rattle.machine_types.specs.Construction.{builds, makes_frozen, BuilderTurn, Runs, WaitsFor, Throws, IsFresh, SlotOf, IsNoStored, IsNoStoredLocal, SlotsFrom}
use Rattle.machine_types.specs.{Frames.handler_of, OwnedPlaces.{Stores, IsStoredNowhere}, Standing.{Standing, row_at, tags_of}, Threads.Frame, Worlds.IsFinished}
use Rattle.laws_threads.proofs.{Callers.handler_in, Landing.{rules_at, tag_rules_at}, Tests.either_way, Throws.any_at, TypedMoves.handler_found}
use Rattle.laws_objects.proofs.{ArraySlots.from_map, Buildings.{Building, FrameIn, BelowIn, FramesIn}, Landing.{inside_at, IsJoined, LandsWell, land}, PutPlaces.handler_plain}
use Rattle.laws_objects.proofs.Slots.{slots_map, slots_map_if, slot_if, slot_later, ref_slot}
use Rattle.jvm_types.specs.Verifying as types
use Rattle.jvm_types.specs.CodeTable as table
use Rattle.jvm_types.specs.declared.typing.VType.TheVariants as vtypes
use Rattle.checked_program.specs.Visits as visits

local_loosened : (stores : Stores) (turn : BuilderTurn) (u : VType) (v : ℕ) → IsNoStoredLocal stores turn u v → IsNoStoredLocal stores Throws u v
local_loosened stores turn (vtypes.New q) v h = tt
local_loosened stores Throws u v h = h
local_loosened stores turn u v h = h

-- whatever the frame was about to do, its stack says nothing more, nor do its slots with what a `new` made
module _ (building : Building) where
  open building use {frozen, owning, w, next, t}

  pub loosened : (h : ℕ) (turn : BuilderTurn) (f : Frame) → FrameIn building h turn f → FrameIn building h Throws f
  loosened h turn f k = record {
    stands = k.stands;
    receiver = k.receiver;
    stack = tt;
    locals = slots_map (SlotOf frozen w next t h turn k.stands.method f.receiver) (SlotOf frozen w next t h Throws k.stands.method f.receiver)
        (slot_later (IsFinished w next) (IsFinished w next) (IsFresh w t h turn) (IsFresh w t h Throws) (λ v o. o) (makes_frozen frozen k.stands.method) (λ q v y f. tt) (builds frozen k.stands.method) f.receiver)
        k.stands.types.locals k.stands.tags.locals f.locals k.locals;
    arrays = tt;
    no_arrays = from_map (λ place. IsNoStoredLocal owning.stores turn) (λ place. IsNoStoredLocal owning.stores Throws) (λ n u v a. local_loosened owning.stores turn u v a) 0 k.stands.types.locals f.locals k.no_arrays;
  }

  -- an instruction throws
  pub frames_throw : (turn : BuilderTurn) (fs : List Frame) → FramesIn building turn fs → FramesIn building Throws fs
  frames_throw turn [] k = tt
  frames_throw turn (f ∷ fs) k = (loosened (length fs) turn f k.0, k.1)

  -- an exception leaves the top frame, also one of an `<init>`: the world stays as it is
  pub frames_unwound : (f : Frame) (fs : List Frame) → BelowIn building f fs → FramesIn building Throws fs
  frames_unwound f [] k = tt
  frames_unwound f (g ∷ fs) k = (loosened (length fs) (WaitsFor f.receiver k.0.begun) g k.0.keeps, k.1)

-- ---- where a row covers no local has what a `new` made

found_covers : (pc class : ℕ) (rows : List Row) (r : Row) → handler_of pc class rows ≡ Some r → list_any (covers pc) rows ≡ true
found_covers pc class [] r e = absurd (cc)
found_covers pc class (q ∷ rows) r e =
    either_way (λ (a : Bool). (if a && (q.catch_class == 0 || is_subclass class q.catch_class) then Some q else handler_of pc class rows) ≡ Some r → (a || list_any (covers pc) rows) ≡ true) (covers pc q) (λ e. refl) (found_covers pc class rows r) e

-- where none has what a `new` made
locals_back : (stores : Stores) (n : ℕ) (us : List VType) (vs : List ℕ) → AllByRecursion (λ u. is_new u ≡ false) us → SlotsFrom (λ place. IsNoStoredLocal stores Throws) n us vs → SlotsFrom (λ place. IsNoStored stores) n us vs
locals_back stores n (u ∷ us) (v ∷ vs) all a = (back u all.0 a.0, locals_back stores (suc n) us vs all.1 a.1)
  where
    back : (u : VType) → is_new u ≡ false → IsNoStoredLocal stores Throws u v → IsNoStored stores u v
    back (vtypes.New q) e h = absurd (cc)
    back u e h = h
locals_back stores n us vs all a = tt

-- ---- a handler

module _ (building : Building) (h : ℕ) (null : IsFinished building.w building.next 0) where
  open building use {design, c, marked, frozen, owning, owns, w, next, t}

  no_new : (f : Frame) (k : Standing c f) (class : ℕ) (r : Row) → handler_of k.insn.pc class k.method.rows ≡ Some r → AllByRecursion (λ u. is_new u ≡ false) k.types.locals
  no_new f k class r e =
      let row : OpRow = row_at c f k in
      let s = some_operand (misuses k.method) row k.types in
      let a = list_any (λ to. Rattle.std.specs.Prelude.nat_le to k.insn.pc) (table.branches_to k.insn.op) && (list_any is_uninitialised k.types.stack || list_any is_uninitialised k.types.locals) in
      let b = list_any (covers k.insn.pc) k.method.rows && list_any is_new k.types.locals in
      let x = or_parts ((s || a) || b) (is_return k.insn.op && not k.types.ready) (rules_at c marked f k).rules.objects in
      let y = or_parts (s || a) b x.0 in
      none_of is_new k.types.locals (second_false (list_any (covers k.insn.pc) k.method.rows) (list_any is_new k.types.locals) y.1 (found_covers k.insn.pc class k.method.rows r e))

  pub handled : (f : Frame) (k : FrameIn building h Throws f) (x class : ℕ) (r : Row) → can_throw k.stands.insn.op ≡ true → IsFinished w next x → IsStoredNowhere owning.stores x → handler_of f.pc class k.stands.method.rows ≡ Some r
      → FrameIn building h Runs (record f { pc = r.handler; stack = x ∷ [] })
  handled f k x class r throws old clean e =
      let s = k.stands in
      let rules = rules_at c marked f s in
      let tags = tag_rules_at c marked f s in
      let here : handler_of s.insn.pc class s.method.rows ≡ Some r = subst (λ (pc : ℕ). handler_of pc class s.method.rows ≡ Some r) (sym s.pc_is) e in
      let found = handler_in (λ h. types.FrameFits s.method.code s.frames (frame_at_handler h s.types) h.handler) s.insn.pc class s.method.rows r rules.sound.handlers_fit here in
      let among = catchers_among s.method s.insn.pc class r (sym (handler_found s.insn.pc class s.method.rows) ∙ here) in
      let handlers : AllByRecursion (λ handler. visits.EdgeFits IsShapeBelow s.method.code s.at.frames (tags_at_handler s.tags) handler.handler) (until_all (covering s.method s.insn.pc)) =
      subst (λ b. AllByRecursion (λ handler. visits.EdgeFits IsShapeBelow s.method.code s.at.frames (tags_at_handler s.tags) handler.handler) (if b then until_all (covering s.method s.insn.pc) else [])) throws tags.handlers_fit in
      land building h null false (record f { pc = r.handler; stack = x ∷ [] }) s.method s.frames s.at.frames (frame_at_handler r s.types) (tags_at_handler s.tags) s.at.in_program s.types_of_method s.at.of_method
      found.0
      (at_index (λ (handler : Row). visits.EdgeFits IsShapeBelow s.method.code s.at.frames (tags_at_handler s.tags) handler.handler) (until_all (covering s.method s.insn.pc)) among.0 r handlers among.1)
      (joined among.0 among.1) (well among.0 among.1) k.receiver
      (ref_slot (IsFinished w next) null (IsFresh w t h Runs) (builds frozen s.method) (makes_frozen frozen s.method) f.receiver (builds frozen s.method) (caught_class r) x old, tt)
      (slots_map_if (λ u. is_new u ≡ false) (SlotOf frozen w next t h Throws s.method f.receiver) (SlotOf frozen w next t h Runs s.method f.receiver)
      (slot_if (IsFinished w next) (IsFinished w next) (IsFresh w t h Throws) (IsFresh w t h Runs)
      (λ u. is_new u ≡ false) (λ v o. o) (makes_frozen frozen s.method) (λ q v n. absurd (cc)) f.receiver (builds frozen s.method)) s.types.locals s.tags.locals f.locals (no_new f s class r here) k.locals)
    where
      caught_there : (i : ℕ) → slice_get (until_all (covering k.stands.method k.stands.insn.pc)) i ≡ Some r → (other : Insn) → other.pc ≡ r.handler → list_any (λ handler. handler.handler == other.pc) (catchers k.stands.method k.stands.insn) ≡ true
      caught_there i got other starts =
          let s = k.stands in
          let any : list_any (λ handler. handler.handler == other.pc) (until_all (covering s.method s.insn.pc)) ≡ true = any_at (λ handler. handler.handler == other.pc) (until_all (covering s.method s.insn.pc)) i r got (grind (arith, nat_tests, starts)) in
          subst (λ b. list_any (λ handler. handler.handler == other.pc) (if b then until_all (covering s.method s.insn.pc) else []) ≡ true) (sym throws) any

      joined : (i : ℕ) → slice_get (until_all (covering k.stands.method k.stands.insn.pc)) i ≡ Some r → IsJoined design (record f { pc = r.handler; stack = x ∷ [] }) k.stands.method (tags_at_handler k.stands.tags)
      joined i got own j other next u at starts =
          let s = k.stands in
          (inside_at design f s own).joined s.number j s.insn other s.target next s.tags u (tags_at_handler s.tags) s.at at (caught other (caught_there i got other starts))

      -- the exception has no colour
      well : (i : ℕ) → slice_get (until_all (covering k.stands.method k.stands.insn.pc)) i ≡ Some r → LandsWell design false (record f { pc = r.handler; stack = x ∷ [] }) k.stands.method (frame_at_handler r k.stands.types)
      well i got = record {
        put = λ j other next u at same. handler_plain c marked owning owns f.method j k.stands.method other next u at f.pc class r e same;
        arrays = λ j other next u at same. (record { owned = λ o word is. absurd (uncoloured j other next u at same o); other = λ none. clean }, tt);
        locals = locals_back owning.stores 0 k.stands.types.locals f.locals (no_new f k.stands class r (subst (λ (pc : ℕ). handler_of pc class k.stands.method.rows ≡ Some r) (sym k.stands.pc_is) e)) k.no_arrays;
      }
        where
          uncoloured : (j : ℕ) (other : Insn) (next : Target) (u : TagShape) → IsAt c.program (tags_of c) f.method j k.stands.method other next u → other.pc ≡ r.handler → IsOwnedAt c.program (tags_of c) f.method j 0 → ⊥
          uncoloured j other next u at same o =
              let s = k.stands in
              let brought = o.colouring.caught s.number j s.method s.insn other s.target next s.tags u s.at at (caught_there i got other same) in
              (let bad : true ≡ false = sym o.coloured ∙ ap (λ (shape : ColourShape). is_coloured shape.stack 0) brought in cc)
