-- A new array is stored in an owned field of its object: it is finished then, and no frame has it any more.
use Rattle.std.proofs.Common.{◌≡◌, ◌≢◌, ℕ, ◌+◌, inl, Bool, true, false, List, [], ◌∷◌, length, drop, Option, Some, None, refl, sym, ap, ◌∙◌, subst, arith, slice_index_or}
use Rattle.std.specs.List.{AllByRecursion}
use Rattle.jvm_types.specs.{CodeTable.{row, want_of, put_row, stack_after, locals_after}, Numbers.has_number, Types.TypeFrame, Verifying.{started, frame_after, edges}}
use Rattle.jvm_types.specs.declared.{class_numbers.TheConstants.INT_ARRAY_CLASS, code.Op.{Op, TheVariants.Putfield}, op_row.{Given.Given, OpRow.OpRow}, program.Kind.Kind, typing.VType.VType}
use Rattle.checked_program.specs.{Colours.is_read_of, OwnedArrays.IsOwnedArrayField, Tagging.{moved_tags, tags_by_op}, declared.tag.Tag.{Tag}}
use Rattle.machine_types.specs.{Construction.{puts_owned, builds, makes_frozen, SlotsAre, StackWith, Runs, IsFresh, SlotOf, IsNoStored, IsArraySlot, SlotsFrom}, Frames.{frame_on, went_on}}
use Rattle.machine_types.specs.{OwnedPlaces.{with_stored, IsStoredNowhere}, Standing.{Standing, row_at, tags_of}, Threads.Frame, Worlds.{Made, Begun, Unstored, Builder, builder, World, IsFinished}}
use Rattle.laws_threads.{specs.Allowed.OneOf, proofs.{Standings.top_here, TopEffects.number_in}}
use Rattle.laws_objects.proofs.{ArrayFrames.takes_clean, ArrayMoves.{GivenClean, WriteClean, SourceFine, stack_clean, each_source, dropped_at}}
use Rattle.laws_objects.proofs.ArraySlots.{from_drop, each_from, no_stored_along, array_along, stack_begun, locals_begun, IsStart}
use Rattle.laws_objects.proofs.{Buildings.{Building, FramesIn, Design, LawfulBuilding, in_world, with_stores, FrameIn, BelowIn, null}, BuiltEffects.StartsNone}
use Rattle.laws_objects.proofs.{CalledFrames.{below_moved, none_started}, KeptFrames.below_kept, Landing.LandsWell, Moves.{Steps, drops, given_stack, given_locals, lands_behind, receiver_without}}
use Rattle.laws_objects.proofs.{Operands.{WantOld, TakenOld, takes_any}, PutPlaces.{is_newarray, edge_plain}, RestoredFrames.{NewArray, receiver_apart, arrays_from, locals_from, below_on}}
use Rattle.laws_objects.proofs.{Slots.{slots_map, slots_drop, slots_long, slot_later}, WorldChanges.{none_some, without, without_gone, without_keeps, finished_without}}
use Rattle.jvm_types.specs.declared.program.Kind.TheVariants as kinds
use Rattle.jvm_types.specs.declared.program.Target.TheVariants as targets
use Rattle.jvm_types.specs.declared.typing.VType.TheVariants as types

-- what is on the top, and what lies below the two values that the instruction takes
split : (R : VType → Tag → ℕ → Type 0) (New : ℕ → Type 0) (us : List VType) (gs : List Tag) (vs : List ℕ) (array : ℕ) (rest : List ℕ) → StackWith R New true us gs vs → vs ≡ array ∷ rest → New array × SlotsAre R (drop 2 us) (drop 2 gs) (drop 2 vs)
split R New [] gs [] array rest h e = absurd (cc)
split R New [] [] (v ∷ vs) array rest h e = absurd h
split R New (u ∷ us) (g ∷ gs) (v ∷ vs) array rest h e = (let same : v ≡ array = cc in subst New same h.0, slots_drop R 1 us gs vs h.1)
split R New us gs vs array rest h e = absurd (assumption)

want_starts : (kind : Kind) → StartsNone (want_of kind)
want_starts kinds.Int = tt
want_starts kind = tt

-- the frame stands at a `putfield` of an owned field, with an array on the top
pub record PutsOwned (design : Design) (f : Frame) (stands : Standing design.c f) : Type 0 where
  pub fi : ℕ
  pub index : ℕ
  pub op_is : stands.insn.op ≡ Putfield index
  pub target_is : stands.target ≡ targets.Field fi
  pub owned : design.owning.owned fi ≡ true
  pub array : ℕ
  pub rest : List ℕ
  pub stack_is : f.stack ≡ array ∷ rest
  pub edge : OneOf (edges stands.insn) stands.insn.next

module _ (lawful : LawfulBuilding) (f : Frame) (fs : List Frame) (k : FrameIn lawful.building (length fs) Runs f) (b : BelowIn lawful.building f fs) (put : PutsOwned lawful.design f k.stands) (word : ℕ) where
  open lawful use {building, c, marked, frozen, owning, owns, w, next, t}
  open put use {fi, op_is, target_is, owned as is_owned, array, rest, stack_is, edge}

  field : IsOwnedArrayField c.program (tags_of c) fi
  field = owns.those fi is_owned

  abbrev pub new : Builder
  new = builder t (length fs) Unstored

  top : (w array ≡ Some new) × SlotsAre (SlotOf frozen w next t (length fs) Runs k.stands.method f.receiver) (drop 2 k.stands.types.stack) (drop 2 k.stands.tags.stack) (drop 2 f.stack)
  top = split (SlotOf frozen w next t (length fs) Runs k.stands.method f.receiver) (λ v. w v ≡ Some (builder t (length fs) Unstored)) k.stands.types.stack k.stands.tags.stack f.stack array rest
      (subst (λ (b : Bool). StackWith (SlotOf frozen w next t (length fs) Runs k.stands.method f.receiver) (λ v. w v ≡ Some (builder t (length fs) Unstored)) b k.stands.types.stack k.stands.tags.stack f.stack) ((λ i. puts_owned owning.owned (op_is i) (target_is i)) ∙ is_owned) k.stack) stack_is

  pub is_new : w array ≡ Some new
  is_new = top.0

  -- ---- its row

  row_is : row_at c f k.stands ≡ put_row (Some field.field)
  row_is = (λ i. row c.program k.stands.method k.stands.insn.pc (target_is i) (op_is i)) ∙ ap put_row field.is

  gives_none : (row_at c f k.stands).gives ≡ []
  gives_none = ap (λ (x : OpRow). x.gives) row_is

  writes_none : (row_at c f k.stands).writes ≡ None
  writes_none = ap (λ (x : OpRow). x.writes) row_is

  nothing : started k.stands.method.class (row_at c f k.stands).takes k.stands.types.stack ≡ None
  nothing = none_started k.stands.method.class (row_at c f k.stands).takes k.stands.types.stack (subst (λ (x : OpRow). AllByRecursion StartsNone x.takes) (sym row_is) (want_starts field.field.kind, (tt, tt)))

  below_two : SlotsAre (SlotOf frozen w next t (length fs) Runs k.stands.method f.receiver) (drop (length (row_at c f k.stands).takes) k.stands.types.stack) (drop (length (row_at c f k.stands).takes) k.stands.tags.stack) (drop (length (row_at c f k.stands).takes) f.stack)
  below_two = subst (λ (n : ℕ). SlotsAre (SlotOf frozen w next t (length fs) Runs k.stands.method f.receiver) (drop n k.stands.types.stack) (drop n k.stands.tags.stack) (drop n f.stack)) (sym (ap (λ (x : OpRow). length x.takes) row_is)) top.1

  -- ---- it was stored nowhere

  pub unstored : owning.stores array ≡ None
  unstored =
      let any : takes_any k.stands.insn.op ≡ false = ap takes_any op_is in
      let taken = takes_clean building (length fs) f k any in
      let kind : field.field.kind ≡ kinds.Ref INT_ARRAY_CLASS = field.array in
      let taken_row : TakenOld (IsStoredNowhere owning.stores) (put_row (Some field.field)).takes (array ∷ rest) = subst (TakenOld (IsStoredNowhere owning.stores) (put_row (Some field.field)).takes) stack_is (subst (λ (x : OpRow). TakenOld (IsStoredNowhere owning.stores) x.takes f.stack) row_is taken) in
      let first : WantOld (IsStoredNowhere owning.stores) (want_of field.field.kind) array = taken_row.0 in
      subst (λ (x : Kind). WantOld (IsStoredNowhere owning.stores) (want_of x) array) kind first

  pub zero_apart : 0 ≢ array
  zero_apart s = none_some (w array) new (subst (λ (x : ℕ). w x ≡ None) s (null lawful).1) is_new

  abbrev it : NewArray owning.stores
  it = record { array = array; word = word; unstored = unstored; zero_apart = zero_apart; k = builder t (length fs) Unstored; is_new = refl }

  abbrev pub behind : Building
  behind = with_stores building (with_stored owning.stores array word)

  -- ---- the world in that it is finished

  abbrev pub z : World
  z = without w (builder t (length fs) Unstored)

  slots_on : (us : List VType) (gs : List Tag) (vs : List ℕ) → SlotsAre (SlotOf frozen w next t (length fs) Runs k.stands.method f.receiver) us gs vs → SlotsAre (SlotOf frozen z next t (length fs) Runs k.stands.method f.receiver) us gs vs
  slots_on = slots_map (SlotOf frozen w next t (length fs) Runs k.stands.method f.receiver) (SlotOf frozen z next t (length fs) Runs k.stands.method f.receiver)
      (slot_later (IsFinished w next) (IsFinished z next) (IsFresh w t (length fs) Runs) (IsFresh z t (length fs) Runs) (finished_without w next new) (makes_frozen frozen k.stands.method)
      (λ q v young e. without_keeps w new v (builder t (length fs) (Made q)) e (λ s. (let i : Made q ≡ Unstored = ap (λ (x : Builder). x.item) s in cc))) (builds frozen k.stands.method) f.receiver)

  -- ---- the frame behind the instruction

  abbrev before : TypeFrame
  before = record { stack = stack_after types.Top (λ t. t) (row_at c f k.stands) k.stands.types.stack k.stands.types.locals; locals = locals_after types.Top (λ t. t) (row_at c f k.stands).writes k.stands.types.stack k.stands.types.locals; ready = k.stands.types.ready }

  by_row : tags_by_op k.stands.insn.pc (row_at c f k.stands) k.stands.insn.op k.stands.tags.stack k.stands.tags ≡ moved_tags (row_at c f k.stands) k.stands.tags
  by_row = ap (λ (op : Op). tags_by_op k.stands.insn.pc (row_at c f k.stands) op k.stands.tags.stack k.stands.tags) op_is

  apart : f.receiver ≢ array
  apart = receiver_apart building it is_new (length fs) (builds frozen k.stands.method) f.receiver k.receiver

  fresh_apart : (q v : ℕ) → w v ≡ Some (builder t (length fs) (Made q)) → v ≢ array
  fresh_apart q v e s = (let at : w array ≡ Some (builder t (length fs) (Made q)) = subst (λ (x : ℕ). w x ≡ Some (builder t (length fs) (Made q))) s e in let both : Some (builder t (length fs) (Made q)) ≡ Some (builder t (length fs) Unstored) = sym at ∙ is_new in let one : builder t (length fs) (Made q) ≡ builder t (length fs) Unstored = cc in let i : Made q ≡ Unstored = ap (λ (x : Builder). x.item) one in cc)

  -- the arrays below the two values
  arrays_below : SlotsFrom (IsArraySlot c (with_stored owning.stores array word) f k.stands.number) (length (row_at c f k.stands).takes) (drop (length (row_at c f k.stands).takes) k.stands.types.stack) (drop (length (row_at c f k.stands).takes) f.stack)
  arrays_below = arrays_from building it is_new (length fs) f k.stands.method apart k.stands.number Runs fresh_apart (length (row_at c f k.stands).takes)
      (drop (length (row_at c f k.stands).takes) k.stands.types.stack) (drop (length (row_at c f k.stands).takes) k.stands.tags.stack) (drop (length (row_at c f k.stands).takes) f.stack) below_two
      (from_drop (IsArraySlot c owning.stores f k.stands.number) (length (row_at c f k.stands).takes) 0 (length (row_at c f k.stands).takes) k.stands.types.stack f.stack (omega arith) k.arrays)

  edge_is : has_number (edges k.stands.insn) k.stands.insn.next ≡ true
  edge_is = number_in (edges k.stands.insn) k.stands.insn.next edge

  started_none : IsStart (started k.stands.method.class (row_at c f k.stands).takes k.stands.types.stack)
  started_none = subst IsStart (sym nothing) tt

  slot_there : (q : ℕ) → IsArraySlot c (with_stored owning.stores array word) f k.stands.number (length (row_at c f k.stands).takes + q) (slice_index_or k.stands.types.stack (length (row_at c f k.stands).takes + q) types.Top) (slice_index_or f.stack (length (row_at c f k.stands).takes + q) 0)
  slot_there q =
      let there = each_from (IsArraySlot c (with_stored owning.stores array word) f k.stands.number) (λ i. record { owned = λ o place is. inl refl; other = λ none. tt }) (length (row_at c f k.stands).takes) (drop (length (row_at c f k.stands).takes) k.stands.types.stack) (drop (length (row_at c f k.stands).takes) f.stack)
      (slots_long (SlotOf frozen w next t (length fs) Runs k.stands.method f.receiver) (drop (length (row_at c f k.stands).takes) k.stands.types.stack) (drop (length (row_at c f k.stands).takes) k.stands.tags.stack) (drop (length (row_at c f k.stands).takes) f.stack) below_two)
      arrays_below q (length (row_at c f k.stands).takes + q) refl in
      subst (λ (u : VType). IsArraySlot c (with_stored owning.stores array word) f k.stands.number (length (row_at c f k.stands).takes + q) u (slice_index_or f.stack (length (row_at c f k.stands).takes + q) 0)) (sym (dropped_at types.Top (length (row_at c f k.stands).takes) k.stands.types.stack q (length (row_at c f k.stands).takes + q) refl))
      (subst (IsArraySlot c (with_stored owning.stores array word) f k.stands.number (length (row_at c f k.stands).takes + q) (slice_index_or (drop (length (row_at c f k.stands).takes) k.stands.types.stack) q types.Top)) (sym (dropped_at 0 (length (row_at c f k.stands).takes) f.stack q (length (row_at c f k.stands).takes + q) refl)) there)

  well : LandsWell behind.design false (frame_on (row_at c f k.stands) k.stands.insn.next 0 f) k.stands.method (frame_after k.stands.method (row_at c f k.stands) k.stands.types)
  well = record {
    put = λ j other target u at same. edge_plain c marked behind.owning owns f.method j k.stands.method other target u at k.stands.number k.stands.insn k.stands.at.in_code (subst (λ (pc : ℕ). has_number (edges k.stands.insn) pc ≡ true) (sym same) edge_is) (ap is_newarray op_is);
    arrays = λ j other target u at same.
        stack_begun (IsArraySlot c behind.owning.stores (frame_on (row_at c f k.stands) k.stands.insn.next 0 f) j) (array_along c behind.owning.stores (frame_on (row_at c f k.stands) k.stands.insn.next 0 f) j) (started k.stands.method.class (row_at c f k.stands).takes k.stands.types.stack) started_none before 0 (frame_on (row_at c f k.stands) k.stands.insn.next 0 f).stack
        (stack_clean c marked behind.owning.stores f k.stands k.stands.types.stack k.stands.types.locals f.stack f.locals 0 k.stands.insn.next (drop (length (row_at c f k.stands).takes) f.stack)
        (frame_on (row_at c f k.stands) k.stands.insn.next 0 f).locals (λ q. dropped_at 0 (length (row_at c f k.stands).takes) f.stack q (length (row_at c f k.stands).takes + q) refl)
        (record {
          read = λ other reads place is. absurd (let bad : false ≡ true = sym (ap (λ (op : Op). is_read_of other op k.stands.target) op_is) ∙ reads.1 in cc);
          other = λ none. (subst (AllByRecursion (GivenClean behind.owning.stores 0)) (sym gives_none) tt, subst (WriteClean behind.owning.stores 0) (sym writes_none) tt);
          written = subst (WriteClean behind.owning.stores 0) (sym writes_none) tt;
        })
        j other target u at (subst (λ (pc : ℕ). has_number (edges k.stands.insn) pc ≡ true) (sym same) edge_is)
        (each_source (SourceFine c marked behind.owning.stores f k.stands k.stands.types.stack k.stands.types.locals f.stack f.locals 0) (length (row_at c f k.stands).takes) slot_there (row_at c f k.stands).gives
        (subst (AllByRecursion (SourceFine c marked behind.owning.stores f k.stands k.stands.types.stack k.stands.types.locals f.stack f.locals 0)) (sym gives_none) tt)));
    locals = locals_begun (λ place. IsNoStored behind.owning.stores) (no_stored_along behind.owning.stores) (started k.stands.method.class (row_at c f k.stands).takes k.stands.types.stack) started_none before 0 (frame_on (row_at c f k.stands) k.stands.insn.next 0 f).locals
        (subst (λ (o : Option (ℕ × Given)). SlotsFrom (λ place. IsNoStored behind.owning.stores) 0 (locals_after types.Top (λ t. t) o k.stands.types.stack k.stands.types.locals) (locals_after 0 (λ t. 0) o f.stack f.locals)) (sym writes_none)
        (locals_from building it is_new (length fs) f k.stands.method apart k.stands.number Runs fresh_apart 0 k.stands.types.locals k.stands.tags.locals f.locals k.locals k.no_arrays));
  }

  frame_stored : FrameIn (in_world behind z) (length fs) Runs (frame_on (row_at c f k.stands) k.stands.insn.next 0 f)
  frame_stored =
      lands_behind (in_world behind z) (length fs) (finished_without w next new 0 (null lawful)) f k.stands k.stands.insn.next (frame_on (row_at c f k.stands) k.stands.insn.next 0 f).stack (frame_on (row_at c f k.stands) k.stands.insn.next 0 f).locals put.edge false
      well (receiver_without w next t (length fs) new (λ s. (let i : Begun ≡ Unstored = ap (λ (x : Builder). x.item) s in cc)) (builds frozen k.stands.method) f.receiver k.receiver)
      (given_stack c f k.stands [] gives_none writes_none nothing by_row (SlotsAre (SlotOf frozen z next t (length fs) Runs k.stands.method f.receiver)) 0
      (slots_on (drop (length (row_at c f k.stands).takes) k.stands.types.stack) (drop (length (row_at c f k.stands).takes) k.stands.tags.stack) (drop (length (row_at c f k.stands).takes) f.stack) below_two))
      (given_locals c f k.stands [] gives_none writes_none nothing by_row (SlotsAre (SlotOf frozen z next t (length fs) Runs k.stands.method f.receiver)) 0 (slots_on k.stands.types.locals k.stands.tags.locals f.locals k.locals))

  -- ---- all frames

  pub stores_it : Steps w next t (λ z. FramesIn (in_world behind z) Runs (went_on c.program (top_here c f fs k.stands) 0))
  stores_it = drops w next t (builder t (length fs) Unstored) (λ z. FramesIn (in_world behind z) Runs (went_on c.program (top_here c f fs k.stands) 0)) refl (λ e. cc) (
    frame_stored,
    below_moved (in_world behind z) f k.stands.insn.next (frame_on (row_at c f k.stands) k.stands.insn.next 0 f).stack (frame_on (row_at c f k.stands) k.stands.insn.next 0 f).locals fs
        (below_kept behind z next (finished_without w next new) f fs (λ i less v x e. without_keeps w new v (builder t i x) e (λ s. (let same : i ≡ length fs = ap (λ (x : Builder). x.height) s in omega (arith, same, less))))
        (below_on building it is_new f fs (λ i less s. (let same : i ≡ length fs = ap (λ (x : Builder). x.height) s in omega (arith, same, less))) apart b)),
  )

  -- it is finished behind it
  pub later_finished : stores_it.later array ≡ None
  unfolding stores_it
  later_finished = without_gone w new array is_new
