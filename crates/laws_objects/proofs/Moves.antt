-- A frame that goes on behind its instruction. An `<init>` of a class that no file has, as that of Object, finishes its object.
use Rattle.std.proofs.Common.{◌++◌, length, map, drop, ◌≡◌, ◌≢◌, ℕ, ◌<◌, ◌⊎◌, inl, inr, Bool, true, false, not, List, [], ◌∷◌, Option, Some, None, refl, sym, ap, ◌∙◌, subst, arith, ◌==◌, if◌then◌else◌}
use Rattle.std.{specs.List.AllByRecursion, proofs.lemmas.Bool.{cases_Bool, or_parts, eqb-true, eqb-false}}
use Rattle.lists.proofs.TestLaws.{is_true}
use Rattle.jvm_types.specs.{CodeTable.{row, value_of, stack_after, locals_after}, Numbers.has_number, Types.{TypeFrame, same_type}}
use Rattle.jvm_types.specs.{Verifying.{suits, some_taken, some_read, new_class, is_class_of, started, initialised, after_start, frame_after, edges}, declared.{code.Op.Op, op_row.Given.Given}}
use Rattle.jvm_types.specs.declared.{op_row.{OpRow.OpRow, Want.{Want, TheVariants.ToStart}}, program.{MethodInfo.MethodInfo, Program.Program, Target.Target}, typing.VType.VType}
use Rattle.checked_program.specs.{LockTags.TagShape, MarkedProgram.{MarkedProgram, IsMarked}, Tagging.{moved_tags, tags_by_op, tags_after}, declared.tag.Tag.{Tag, TheVariants.{Untagged, At}}}
use Rattle.machine_types.specs.{Construction.{puts_owned, builds, makes_frozen, if_so, SlotByType, SlotIs, SlotsAre, StackWith, Runs, IsFresh, ReceiverIs, SlotOf}, Frames.frame_on}
use Rattle.machine_types.specs.{Lawful.within, Standing.{Standing, row_at}, Threads.Frame, Worlds.{Lost, Made, Begun, Unstored, Builder, builder, World, IsFinished, IsWorld, GoesOn}}
use Rattle.laws_threads.{specs.Allowed.OneOf, proofs.{FrameMoves.edge_fits, Landing.rules_at, TopEffects.number_in, Typing.edge_at}}
use Rattle.laws_objects.proofs.{ArraySlots.IsStart, Buildings.{Building, in_world, FrameIn}, KeptFrames.{KeepsUnder, plain_stack}, Landing.{LandsWell, land, joined_onward}}
use Rattle.laws_objects.proofs.Slots.{IsMade, IsWriteMade, stack_moves, local_moves, top_slot, slot_by, slots_started, slot_retag, slots_without, StartOk}
use Rattle.laws_objects.proofs.WorldChanges.{without, without_gone, without_keeps, finished_without, without_back, world_less, goes_without, goes_same, KeepsLost, lost_same, lost_without}
use Rattle.jvm_types.specs.declared.code.Op.TheVariants as ops
use Rattle.jvm_types.specs.declared.stack_move.StackMove.TheVariants as moves
use Rattle.jvm_types.specs.declared.typing.VType.TheVariants as types

-- ---- the object that is started

-- one that is finished as the world has it, or `this` of an `<init>` of a frozen class
abbrev pub StartsOld : (young : ℕ → Bool) → Option (VType × ℕ) → Type 0
StartsOld young None = Unit {0}
StartsOld young (Some (types.This, class)) = Unit {0}
StartsOld young (Some (types.New q, class)) = young q ≡ false
StartsOld young (Some (t, class)) = ⊥

-- one of a frozen class that a `new` of the frame made
pub record StartsYoung (m : MethodInfo) (young : ℕ → Bool) (o : Option (VType × ℕ)) : Type 0 where
  pub pc : ℕ
  pub class : ℕ
  pub is : o ≡ Some (types.New pc, class)
  pub young_is : young pc ≡ true
  pub of_class : is_class_of (new_class m.code m.targets pc) class ≡ true

abbrev pub Suit : MethodInfo → List Want → List VType → Type 0
Suit m wants ts = some_taken (λ want t. not (suits m want t)) wants ts ≡ false

pub suits_later : (m : MethodInfo) (want : Want) (t : VType) (wants : List Want) (ts : List VType) → Suit m (want ∷ wants) (t ∷ ts) → Suit m wants ts
suits_later m want t wants ts h = (or_parts (not (suits m want t)) (some_taken (λ want t. not (suits m want t)) wants ts) h).1

module _ (m : MethodInfo) (young : ℕ → Bool) where
  abbrev pub Starts : Option (VType × ℕ) → Type 0
  Starts o = StartsOld young o ⊎ StartsYoung m young o

  pub starts : (wants : List Want) (ts : List VType) → Suit m wants ts → Starts (started m.class wants ts)
  starts (ToStart class ∷ wants) (types.This ∷ ts) h = inl tt
  starts (ToStart class ∷ wants) (types.New q ∷ ts) h =
      let e = is_true (is_class_of (new_class m.code m.targets q) class) (or_parts (not (is_class_of (new_class m.code m.targets q) class)) (some_taken (λ want t. not (suits m want t)) wants ts) h).0 in
      elim (cases_Bool (young q)) [ inl y ↦ inr (record { pc = q; class = class; is = refl; young_is = y; of_class = e }) | inr y ↦ inl y ]
  starts (ToStart class ∷ wants) (t ∷ ts) h = absurd (cc)
  starts (want ∷ wants) (t ∷ ts) h = starts wants ts (suits_later m want t wants ts h)
  starts wants ts h = inl tt

pub is_start : (m : MethodInfo) (young : ℕ → Bool) (o : Option (VType × ℕ)) → Starts m young o → IsStart o
is_start m young (Some (types.This, class)) s = tt
is_start m young o (inl s) = assumption
is_start m young o (inr y) = subst IsStart (sym y.is) tt

pub suit_at : (c : MarkedProgram) (marked : IsMarked c) (f : Frame) (k : Standing c f) → Suit k.method (row_at c f k).takes k.types.stack
suit_at c marked f k =
    let r : OpRow = row_at c f k in
    (or_parts (some_taken (λ want t. not (suits k.method want t)) r.takes k.types.stack) (some_read (λ want t. not (suits k.method want t)) r.reads k.types.locals) (rules_at c marked f k).rules.types).0

-- ---- the tags behind an instruction

module _ (Old : ℕ → Type 0) (null : Old 0) (Fresh : ℕ → ℕ → Type 0) (own : Bool) (young : ℕ → Bool) (receiver : ℕ) where
  abbrev R : VType → Tag → ℕ → Type 0
  R = SlotIs Old Fresh own young receiver

  abbrev TagsFine : List VType → List VType → List ℕ → List ℕ → TagShape → Type 0
  TagsFine ts ls vs us f = SlotsAre R ts f.stack vs × SlotsAre R ls f.locals us

  dup_fine : (pc : ℕ) (ts ls : List VType) (s l held : List Tag) (vs us : List ℕ) → SlotsAre R ts (Untagged ∷ Untagged ∷ s) vs → SlotsAre R ls l us
      → TagsFine ts ls vs us (record { stack = At pc ∷ At pc ∷ Rattle.checked_program.specs.LockTags.without pc s; locals = Rattle.checked_program.specs.LockTags.without pc l; held = held })
  dup_fine pc (t ∷ u ∷ ts) ls s l held (v ∷ x ∷ vs) us h k = (
    (slot_retag Old null Fresh own young receiver own t Untagged (At pc) v (λ e. cc) (λ e. cc) h.0, (slot_retag Old null Fresh own young receiver own u Untagged (At pc) x (λ e. cc) (λ e. cc) h.1.0, slots_without Old null Fresh own young receiver pc ts s vs h.1.1)),
    slots_without Old null Fresh own young receiver pc ls l us k,
  )
  dup_fine pc (t ∷ []) ls s l held (v ∷ vs) us h k = absurd h.1
  dup_fine pc ts ls s l held vs us h k = absurd (assumption)

  module _ (p : Program) (m : MethodInfo) (pc : ℕ) (target : Target) where
    pub tags_fine : (op : Op) (s l held : List Tag) (ts ls : List VType) (vs us : List ℕ)
        → TagsFine ts ls vs us (moved_tags (row p m pc target op) (record { stack = s; locals = l; held = held })) → TagsFine ts ls vs us (tags_by_op pc (row p m pc target op) op s (record { stack = s; locals = l; held = held }))
    tags_fine (ops.Stack moves.Dup) (Untagged ∷ s) l held ts ls vs us h = dup_fine pc ts ls s l held vs us h.0 h.1
    tags_fine ops.Monitorenter (g ∷ s) l held ts ls vs us h = h
    tags_fine op s l held ts ls vs us h = h

  -- ---- by the row

  abbrev pub RowMakes : OpRow → (made : ℕ) → Type 0
  RowMakes r made = AllByRecursion (IsMade R made) r.gives × IsWriteMade R made r.writes

  -- ---- what is started, in the same world

  pub start_ok : (b : Bool) (o : VType) (class : ℕ) → StartsOld young (Some (o, class)) → StartOk Old null Fresh own young receiver b o
  start_ok true types.This class s = inl refl
  start_ok true (types.New q) class s = inr (λ v h. subst (λ (x : Bool). if_so x (Fresh q v) (Old v)) s h)
  start_ok false types.This class s = λ v h. h
  start_ok false (types.New q) class s = λ v h. subst (λ (x : Bool). if_so x (Fresh q v) (Old v)) s h
  start_ok b o class s = absurd s

  pub old_started : (o : Option (VType × ℕ)) → StartsOld young o → (g : TypeFrame) (f : TagShape) (vs us : List ℕ) → TagsFine g.stack g.locals vs us f → TagsFine (after_start o g).stack (after_start o g).locals vs us f
  old_started None s g f vs us h = h
  old_started (Some x) s g f vs us h = (
    slots_started Old null Fresh own young receiver x.0 x.1 g.stack f.stack vs (start_ok own x.0 x.1 s) h.0,
    slots_started Old null Fresh own young receiver x.0 x.1 g.locals f.locals us (start_ok own x.0 x.1 s) h.1,
  )

-- ---- what is started, in a world where it is finished

-- from slots in one world to slots in another, where those of the `new` at q are finished
module _ (Old More : ℕ → Type 0) (Fresh Later : ℕ → ℕ → Type 0) (young : ℕ → Bool) (q : ℕ) (old : (v : ℕ) → Old v → More v) (here : (v : ℕ) → young q ≡ true → Fresh q v → More v) (there : (r v : ℕ) → r ≢ q → young r ≡ true → Fresh r v → Later r v) where
  abbrev pub after_type : (class : ℕ) → VType → VType
  after_type class u = if same_type (types.New q) u then types.Ref class else u

  new_finished : (class r v : ℕ) (b : Bool) → (q == r) ≡ b → (y : Bool) → young r ≡ y → if_so y (Fresh r v) (Old v) → SlotByType More Later young (if b then types.Ref class else types.New r) v
  new_finished class r v true e true z f = let same : r ≡ q = sym (eqb-true q r e) in here v (sym (ap young same) ∙ z) (subst (λ (x : ℕ). Fresh x v) same f)
  new_finished class r v true e false z f = old v f
  new_finished class r v false e true z f = rw z (there r v (λ s. eqb-false q r e (sym s)) z f)
  new_finished class r v false e false z f = rw z (old v f)

  type_finished : (class : ℕ) (u : VType) (v : ℕ) → SlotByType Old Fresh young u v → SlotByType More Later young (after_type class u) v
  type_finished class (types.New r) v f = new_finished class r v (q == r) refl (young r) refl f
  type_finished class u v f = first_of (assumption, search old)

  pub slots_finished : (class receiver : ℕ) (own : Bool) (us : List VType) (gs : List Tag) (vs : List ℕ) → SlotsAre (SlotIs Old Fresh own young receiver) us gs vs → SlotsAre (SlotIs More Later own young receiver) (initialised (types.New q) class us) gs vs
  slots_finished class receiver own [] [] [] f = tt
  slots_finished class receiver own (u ∷ us) (g ∷ gs) (v ∷ vs) f = (
    slot_by Old More Fresh Later young receiver own u (after_type class u) g v (λ n. elim (same_type (types.New q) u) as (λ (b : Bool). (if b then types.Ref class else u) ≢ types.This)
        [ true ↦ λ e. cc | false ↦ n ])
        (type_finished class u v) f.0,
    slots_finished class receiver own us gs vs f.1,
  )
  slots_finished class receiver own us gs vs f = absurd f

-- a receiver that is no such object
pub receiver_without : (w : World) (next t h : ℕ) (b : Builder) → builder t h Begun ≢ b → (own : Bool) (a : ℕ) → ReceiverIs w next t h own a → ReceiverIs (without w b) next t h own a
receiver_without w next t h b other true a e = without_keeps w b a (builder t h Begun) e other
receiver_without w next t h b other false a e = finished_without w next b a e

-- ---- a frame goes on

-- in a world that the thread leaves
pub record Steps (w : World) (next t : ℕ) (P : World → Type 0) : Type 0 where
  pub later : World
  pub goes : GoesOn w later next next t 0
  pub world : (first : ℕ) → IsWorld w first next → IsWorld later first next
  pub lost : KeepsLost w later
  pub keeps : P later

pub stays : (w : World) (next t : ℕ) (P : World → Type 0) → P w → Steps w next t P
stays w next t P k = record { later = w; goes = goes_same w next next t (omega arith); world = λ first is. is; lost = lost_same w; keeps = k }

-- what stood with this builder of the thread is finished
abbrev pub drops : (w : World) (next t : ℕ) (b : Builder) (P : World → Type 0) → b.thread ≡ t → b.item ≢ Lost → P (without w b) → Steps w next t P
drops w next t b P mine other k = record { later = without w b; goes = goes_without w next t b mine; world = λ first is. world_less w (without w b) first next next is (omega arith) (without_back w b); lost = lost_without w b other; keeps = k }

pub steps_map : (w : World) (next t : ℕ) (P Q : World → Type 0) → ((v : World) → GoesOn w v next next t 0 → P v → Q v) → Steps w next t P → Steps w next t Q
steps_map w next t P Q f k = record { later = k.later; goes = k.goes; world = k.world; lost = k.lost; keeps = f k.later k.goes k.keeps }

-- it lands behind its instruction, where its slots are of the types and tags there
module _ (building : Building) (h : ℕ) (null : IsFinished building.w building.next 0) (f : Frame) (s : Standing building.c f) (to : ℕ) (stack locals : List ℕ) (edge : OneOf (edges s.insn) to) where
  open building use {design, c, marked, frozen, w, next, t}

  abbrev g : Frame
  g = record f { pc = to; stack = stack; locals = locals }

  abbrev a : TypeFrame
  a = frame_after s.method (row_at c f s) s.types

  pub lands_behind : (puts : Bool) → LandsWell design puts (record f { pc = to; stack = stack; locals = locals }) s.method (frame_after s.method (row_at c f s) s.types) → ReceiverIs w next t h (builds frozen s.method) f.receiver
      → StackWith (SlotOf frozen w next t h Runs s.method f.receiver) (λ v. w v ≡ Some (builder t h Unstored)) puts (frame_after s.method (row_at c f s) s.types).stack (tags_after s.insn (row_at c f s) s.tags).stack stack
      → SlotsAre (SlotOf frozen w next t h Runs s.method f.receiver) (frame_after s.method (row_at c f s) s.types).locals (tags_after s.insn (row_at c f s) s.tags).locals locals → FrameIn building h Runs (record f { pc = to; stack = stack; locals = locals })
  lands_behind puts well receiver stands kept =
      let edge_is : has_number (edges s.insn) to ≡ true = number_in (edges s.insn) to edge in
      land building h null puts g s.method s.frames s.at.frames a (tags_after s.insn (row_at c f s) s.tags) s.at.in_program s.types_of_method s.at.of_method
      (edge_at s.method (within c.program) s.method.code s.frames a (edges s.insn) to (rules_at c marked f s).sound.edges_fit edge) (edge_fits c marked f s to edge_is) (joined_onward design f g s refl edge_is) well receiver stands kept

-- behind an instruction whose row gives these values, writes no local and starts nothing
module _ (c : MarkedProgram) (f : Frame) (k : Standing c f) (xs : List Given) (gives : (row_at c f k).gives ≡ xs) (writes : (row_at c f k).writes ≡ None) (nothing : started k.method.class (row_at c f k).takes k.types.stack ≡ None)
    (by_row : tags_by_op k.insn.pc (row_at c f k) k.insn.op k.tags.stack k.tags ≡ moved_tags (row_at c f k) k.tags) where
  abbrev before : TypeFrame
  before = record { stack = stack_after types.Top (λ t. t) (row_at c f k) k.types.stack k.types.locals; locals = locals_after types.Top (λ t. t) (row_at c f k).writes k.types.stack k.types.locals; ready = k.types.ready }

  after_is : frame_after k.method (row_at c f k) k.types ≡ before
  after_is = ap (λ o. after_start o before) nothing

  pub given_stack : (P : List VType → List Tag → List ℕ → Type 0) (made : ℕ) → P (map (value_of types.Top (λ t. t) k.types.stack k.types.locals) xs ++ drop (length (row_at c f k).takes) k.types.stack) (map (value_of Untagged (λ t. Untagged) k.tags.stack k.tags.locals) xs ++ drop (length (row_at c f k).takes) k.tags.stack)
      (map (value_of 0 (λ t. made) f.stack f.locals) xs ++ drop (length (row_at c f k).takes) f.stack)
      → P (frame_after k.method (row_at c f k) k.types).stack (tags_after k.insn (row_at c f k) k.tags).stack (stack_after 0 (λ t. made) (row_at c f k) f.stack f.locals)
  given_stack P made h =
      rw (after_is, by_row) (subst (λ (ys : List Given). P (map (value_of types.Top (λ t. t) k.types.stack k.types.locals) ys ++ drop (length (row_at c f k).takes) k.types.stack) (map (value_of Untagged (λ t. Untagged) k.tags.stack k.tags.locals) ys ++ drop (length (row_at c f k).takes) k.tags.stack)
      (map (value_of 0 (λ t. made) f.stack f.locals) ys ++ drop (length (row_at c f k).takes) f.stack)) (sym gives) h)

  pub given_locals : (P : List VType → List Tag → List ℕ → Type 0) (made : ℕ) → P k.types.locals k.tags.locals f.locals
      → P (frame_after k.method (row_at c f k) k.types).locals (tags_after k.insn (row_at c f k) k.tags).locals (locals_after 0 (λ t. made) (row_at c f k).writes f.stack f.locals)
  given_locals P made h =
      rw (after_is, by_row) (subst (λ (o : Option (ℕ × Given)). P (locals_after types.Top (λ t. t) o k.types.stack k.types.locals) (locals_after Untagged (λ t. Untagged) o k.tags.stack k.tags.locals) (locals_after 0 (λ t. made) o f.stack f.locals)) (sym writes) h)

module _ (building : Building) (h : ℕ) (null : IsFinished building.w building.next 0) (inside : (v : ℕ) (b : Builder) → building.w v ≡ Some b → v < building.next) where
  open building use {design, c, marked, frozen, owning, w, next, t}

  module _ (f : Frame) (k : FrameIn building h Runs f) (to made : ℕ) (edge : OneOf (edges k.stands.insn) to) (plain : puts_owned owning.owned k.stands.insn.op k.stands.target ≡ false)
      (well : LandsWell design false (frame_on (row_at c f k.stands) to made f) k.stands.method (frame_after k.stands.method (row_at c f k.stands) k.stands.types)) where
    abbrev m : MethodInfo
    m = k.stands.method

    abbrev r : OpRow
    r = row_at c f k.stands

    abbrev Row : Type 0
    Row = RowMakes (IsFinished w next) null (IsFresh w t h Runs) (builds frozen k.stands.method) (makes_frozen frozen k.stands.method) f.receiver (row_at c f k.stands) made

    moved : Row → SlotsAre (SlotOf frozen w next t h Runs m f.receiver) (stack_after types.Top (λ t. t) r k.stands.types.stack k.stands.types.locals) (moved_tags r k.stands.tags).stack (frame_on r to made f).stack
        × SlotsAre (SlotOf frozen w next t h Runs m f.receiver) (locals_after types.Top (λ t. t) r.writes k.stands.types.stack k.stands.types.locals) (moved_tags r k.stands.tags).locals (frame_on r to made f).locals
    moved makes =
        let R : VType → Tag → ℕ → Type 0 = SlotOf frozen w next t h Runs m f.receiver in
        let top = top_slot (IsFinished w next) null (IsFresh w t h Runs) (builds frozen m) (makes_frozen frozen m) f.receiver (builds frozen m) in (
          stack_moves R top made k.stands.types.stack k.stands.types.locals k.stands.tags.stack k.stands.tags.locals f.stack f.locals (plain_stack building h f k plain) k.locals r makes.0,
          local_moves R top made k.stands.types.stack k.stands.types.locals k.stands.tags.stack k.stands.tags.locals f.stack f.locals (plain_stack building h f k plain) k.locals r.writes makes.1,
        )

    -- in a world where the slots are of the types behind the instruction
    landed : (z : World) → IsFinished z next 0 → ReceiverIs z next t h (builds frozen m) f.receiver
        → SlotsAre (SlotOf frozen z next t h Runs m f.receiver) (frame_after m r k.stands.types).stack (moved_tags r k.stands.tags).stack (frame_on r to made f).stack
        → SlotsAre (SlotOf frozen z next t h Runs m f.receiver) (frame_after m r k.stands.types).locals (moved_tags r k.stands.tags).locals (frame_on r to made f).locals
        → FrameIn (in_world building z) h Runs (frame_on r to made f)
    landed z none receiver stack locals =
        let fine = tags_fine (IsFinished z next) none (IsFresh z t h Runs) (builds frozen m) (makes_frozen frozen m) f.receiver c.program m k.stands.insn.pc k.stands.target k.stands.insn.op k.stands.tags.stack k.stands.tags.locals k.stands.tags.held
        (frame_after m r k.stands.types).stack (frame_after m r k.stands.types).locals (frame_on r to made f).stack (frame_on r to made f).locals (stack, locals) in
        lands_behind (in_world building z) h none f k.stands to (frame_on r to made f).stack (frame_on r to made f).locals edge false well receiver fine.0 fine.1

    pub goes_old : Row → StartsOld (makes_frozen frozen m) (started m.class r.takes k.stands.types.stack) → FrameIn building h Runs (frame_on r to made f)
    goes_old makes old =
        let s = moved makes in
        let after = old_started (IsFinished w next) null (IsFresh w t h Runs) (builds frozen m) (makes_frozen frozen m) f.receiver (started m.class r.takes k.stands.types.stack) old
        (record { stack = stack_after types.Top (λ t. t) r k.stands.types.stack k.stands.types.locals; locals = locals_after types.Top (λ t. t) r.writes k.stands.types.stack k.stands.types.locals; ready = k.stands.types.ready })
        (moved_tags r k.stands.tags) (frame_on r to made f).stack (frame_on r to made f).locals s in
        landed w null k.receiver after.0 after.1

    module _ (y : StartsYoung m (makes_frozen frozen m) (started m.class r.takes k.stands.types.stack)) where
      abbrev gone : Builder
      gone = builder t h (Made y.pc)

      abbrev z : World
      z = without w (builder t h (Made y.pc))

      finish : (us : List VType) (gs : List Tag) (vs : List ℕ) → SlotsAre (SlotOf frozen w next t h Runs m f.receiver) us gs vs → SlotsAre (SlotOf frozen z next t h Runs m f.receiver) (initialised (types.New y.pc) y.class us) gs vs
      finish us gs vs s = slots_finished (IsFinished w next) (IsFinished z next) (IsFresh w t h Runs) (IsFresh z t h Runs) (makes_frozen frozen m) y.pc (finished_without w next gone)
          (λ v young e. (inside v gone e, without_gone w gone v e))
          (λ r v n young e. without_keeps w gone v (builder t h (Made r)) e (λ s. n (let i : Made r ≡ Made y.pc = ap (λ (b : Builder). b.item) s in cc)))
          y.class f.receiver (builds frozen m) us gs vs s

      goes_young : Row → FrameIn (in_world building z) h Runs (frame_on r to made f)
      goes_young makes =
          let s = moved makes in
          let after : (a : TypeFrame) × (a ≡ frame_after m r k.stands.types) × SlotsAre (SlotOf frozen z next t h Runs m f.receiver) a.stack (moved_tags r k.stands.tags).stack (frame_on r to made f).stack × SlotsAre (SlotOf frozen z next t h Runs m f.receiver) a.locals (moved_tags r k.stands.tags).locals (frame_on r to made f).locals = (
            after_start (Some (types.New y.pc, y.class)) (record { stack = stack_after types.Top (λ t. t) r k.stands.types.stack k.stands.types.locals; locals = locals_after types.Top (λ t. t) r.writes k.stands.types.stack k.stands.types.locals; ready = k.stands.types.ready }),
            ap (λ o. after_start o (record { stack = stack_after types.Top (λ t. t) r k.stands.types.stack k.stands.types.locals; locals = locals_after types.Top (λ t. t) r.writes k.stands.types.stack k.stands.types.locals; ready = k.stands.types.ready })) (sym y.is),
            finish _ _ _ s.0,
            finish _ _ _ s.1,
          ) in
          landed z (finished_without w next gone 0 null) (receiver_without w next t h gone (λ s. (let i : Begun ≡ Made y.pc = ap (λ (b : Builder). b.item) s in cc)) (builds frozen m) f.receiver k.receiver)
          (subst (λ (a : TypeFrame). SlotsAre (SlotOf frozen z next t h Runs m f.receiver) a.stack (moved_tags r k.stands.tags).stack (frame_on r to made f).stack) after.1 after.2)
          (subst (λ (a : TypeFrame). SlotsAre (SlotOf frozen z next t h Runs m f.receiver) a.locals (moved_tags r k.stands.tags).locals (frame_on r to made f).locals) after.1 after.3)

    pub goes : Row → Steps w next t (λ z. FrameIn (in_world building z) h Runs (frame_on r to made f) × KeepsUnder w z t h)
    goes makes = by_start (starts m (makes_frozen frozen m) r.takes k.stands.types.stack (suit_at c marked f k.stands))
      where
        by_start : Starts m (makes_frozen frozen m) (started m.class r.takes k.stands.types.stack) → Steps w next t (λ z. FrameIn (in_world building z) h Runs (frame_on r to made f) × KeepsUnder w z t h)
        by_start (inl old) = stays w next t (λ z. FrameIn (in_world building z) h Runs (frame_on r to made f) × KeepsUnder w z t h) (goes_old makes old, λ i l v x e. e)
        by_start (inr y) = drops w next t (builder t h (Made y.pc)) (λ z. FrameIn (in_world building z) h Runs (frame_on r to made f) × KeepsUnder w z t h) refl (λ e. cc)
            (goes_young y makes, λ i l v x e. without_keeps w (builder t h (Made y.pc)) v (builder t i x) e (λ s. (let same : i ≡ h = ap (λ (b : Builder). b.height) s in omega (arith, same, l))))
