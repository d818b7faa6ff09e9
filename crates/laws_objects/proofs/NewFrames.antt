-- A new object: its frame lacks it until its header is stored, and then has it.
use Rattle.std.proofs.Common.{◌≡◌, ◌≢◌, ℕ, ◌<◌, ◌⊎◌, inl, inr, Bool, true, false, List, [], ◌∷◌, ◌++◌, length, map, drop, Option, Some, None, refl, sym, ap, ◌∙◌, subst, arith, option_map}
use Rattle.std.specs.List.{AllByRecursion}
use Rattle.std.proofs.lemmas.Bool.{cases_Bool, eq-eqb}
use Rattle.lists.proofs.ListLaws.{same_some}
use Rattle.jvm_types.specs.{ProgramInvariant.words_of, CodeTable.{row, value_of, locals_after}, Verifying.{started, frame_after, edges}, declared.{code.{Insn.Insn, Op.Op}, op_row.Given.{Given, TheVariants.Fresh as Anew}, program.Target.Target, typing.VType.VType}}
use Rattle.laws_programs.{specs.NewLaws.{IsNewBefore, AreBehind}, proofs.RowsKeep.{IsFine, row_fine}}
use Rattle.checked_program.specs.{LockTags.TagShape, MarkedProgram.MarkedProgram, TaggedCode.IsAt, Tagging.{moved_tags, tags_by_op}, declared.tag.Tag.{Tag, TheVariants.Untagged}}
use Rattle.machine_types.specs.Construction.{puts_owned, builds, makes_frozen, if_so, SlotByType, SlotsAre, StackWith, Runs, IsFresh, ReceiverIs, SlotOf, IsNoStored, made_world}
use Rattle.machine_types.specs.{Frames.{frame_on, making, pushed}, Standing.{Standing, row_at, tags_of}, Threads.Frame}
use Rattle.machine_types.specs.Worlds.{Item, Header, Made, Begun, Unstored, Builder, builder, World, IsFinished, IsWorld, with_builder}
use Rattle.laws_threads.{specs.Allowed.{OneOf, MadeAs}, proofs.{Landing.rules_at, Standings.top_here, TopEffects.number_in}}
use Rattle.laws_objects.proofs.{ArrayFrames.{goes_well, goes_plain}, ArrayMoves.{GivenClean, WriteClean, IsMadeWell}, Buildings.{LawfulBuilding, in_later, FrameIn, BelowIn, FramesIn, MadeIn, null}}
use Rattle.laws_objects.proofs.{BuiltEffects.StartsNone, CalledFrames.{below_moved, none_started}, EffectOps.{is_putfield, stores_none}, KeptFrames.{below_kept, plain_stack}, Landing.LandsWell}
use Rattle.laws_objects.proofs.{Moves.{StartsOld, lands_behind, goes_old, given_stack, given_locals}, Operands.{is_getfield, no_read}, PutPlaces.{is_newarray, newarray_is, next_puts}}
use Rattle.laws_objects.proofs.Slots.{slot_if, slots_map_if, slots_drop, IsMade, IsWriteMade, made_slot}
use Rattle.laws_objects.proofs.WorldChanges.{none_from, none_some, given_here, given_keeps, given_none, finished_there, world_given, world_finished}
use Rattle.jvm_types.specs.declared.code.Op.TheVariants as ops
use Rattle.jvm_types.specs.declared.typing.VType.TheVariants as types

-- ---- memory is taken: the object is the next free word

-- what it is once its header is stored: what the `new` at a pc made, or an array that is stored next
abbrev pub IsNewItem : (pc : ℕ) → Option Item → Type 0
IsNewItem pc item = (x : Item) → item ≡ Some x → (x ≡ Made pc) ⊎ (x ≡ Unstored)

module _ (lawful : LawfulBuilding) (more h : ℕ) (grows : lawful.next < more) (pc : ℕ) (item : Option Item) (sort : IsNewItem pc item) where
  open lawful use {building, design, c, frozen, owning, w, next, t, is_world}

  abbrev pub header_world : World
  header_world = with_builder w next (builder t h Header)

  -- the world once the header is stored
  abbrev pub stored_world : World
  stored_world = made_world (with_builder w next (builder t h Header)) next t h item

  not_new : (v : ℕ) (k : Builder) → w v ≡ Some k → v ≢ next
  not_new v k e s = none_some (w next) k (none_from (w next) (λ b e. (let l = (is_world.inside next b e).1 in omega (arith, l)))) (subst (λ (x : ℕ). w x ≡ Some k) s e)

  keeps : (v i : ℕ) (x : Item) → w v ≡ Some (builder t i x) → builder t i x ≢ builder t h Header → (o : Option Item) → ((y : Item) → o ≡ Some y → builder t i x ≢ builder t h y) → made_world header_world next t h o v ≡ Some (builder t i x)
  keeps v i x e n (Some y) m = given_keeps header_world next (builder t h y) v (builder t i x) (given_keeps w next (builder t h Header) v (builder t i x) e (not_new v (builder t i x) e) n) (not_new v (builder t i x) e) (m y refl)
  keeps v i x e n None m = finished_there header_world next v (not_new v (builder t i x) e) ∙ given_keeps w next (builder t h Header) v (builder t i x) e (not_new v (builder t i x) e) n

  stays_none : (o : Option Item) (v : ℕ) → w v ≡ None → v ≢ next → made_world header_world next t h o v ≡ None
  stays_none (Some y) v e n = given_none header_world next (builder t h y) v (given_none w next (builder t h Header) v e n) n
  stays_none None v e n = finished_there header_world next v n ∙ given_none w next (builder t h Header) v e n

  old_made : (v : ℕ) → IsFinished w next v → IsFinished stored_world more v
  old_made v o = ((let l = o.0 in omega (arith, l, grows)), stays_none item v o.1 (λ e. (let l = o.0 in omega (arith, l, e))))

  -- another item than the new one
  apart_from : (x : Item) → x ≢ Made pc → x ≢ Unstored → (y : Item) → item ≡ Some y → builder t h x ≢ builder t h y
  apart_from x n m y e s = let same : x ≡ y = ap (λ (b : Builder). b.item) s in elim (sort y e) [ inl is ↦ n (same ∙ is) | inr is ↦ m (same ∙ is) ]

  receiver_made : (own : Bool) (b : ℕ) → ReceiverIs w next t h own b → ReceiverIs stored_world more t h own b
  receiver_made true b e = keeps b h Begun e (λ s. (let i : Begun ≡ Header = ap (λ (b : Builder). b.item) s in cc)) item (apart_from Begun (λ s. cc) (λ s. cc))
  receiver_made false b e = old_made b e

  -- the frame before the instruction stands in that world too: a stale object of this `new` is in no slot
  module _ (f : Frame) (k : FrameIn building h Runs f) (behind : AreBehind pc k.stands.types) (plain : puts_owned owning.owned k.stands.insn.op k.stands.target ≡ false) where
    moved : (us : List VType) (gs : List Tag) (vs : List ℕ) → AllByRecursion (IsNewBefore pc) us → SlotsAre (SlotOf frozen w next t h Runs k.stands.method f.receiver) us gs vs → SlotsAre (SlotOf frozen stored_world more t h Runs k.stands.method f.receiver) us gs vs
    moved = slots_map_if (IsNewBefore pc) (SlotOf frozen w next t h Runs k.stands.method f.receiver) (SlotOf frozen stored_world more t h Runs k.stands.method f.receiver)
        (slot_if (IsFinished w next) (IsFinished stored_world more) (IsFresh w t h Runs) (IsFresh stored_world t h Runs) (IsNewBefore pc) old_made (makes_frozen frozen k.stands.method)
        (λ q v l young e. keeps v h (Made q) e (λ s. (let i : Made q ≡ Header = ap (λ (b : Builder). b.item) s in cc)) item (apart_from (Made q) (λ s. (let j : q ≡ pc = cc in omega (arith, j, l))) (λ s. cc))) f.receiver (builds frozen k.stands.method))

    stack_renewed : SlotsAre (SlotOf frozen stored_world more t h Runs k.stands.method f.receiver) k.stands.types.stack k.stands.tags.stack f.stack
    stack_renewed = moved k.stands.types.stack k.stands.tags.stack f.stack behind.stack (plain_stack building h f k plain)

    locals_renewed : SlotsAre (SlotOf frozen stored_world more t h Runs k.stands.method f.receiver) k.stands.types.locals k.stands.tags.locals f.locals
    locals_renewed = moved k.stands.types.locals k.stands.tags.locals f.locals behind.locals k.locals

    frame_renewed : FrameIn (in_later building stored_world more) h Runs f
    frame_renewed = record {
      stands = k.stands;
      receiver = receiver_made (builds frozen k.stands.method) f.receiver k.receiver;
      stack = subst (λ (b : Bool). StackWith (SlotOf frozen stored_world more t h Runs k.stands.method f.receiver) (λ v. stored_world v ≡ Some (builder t h Unstored)) b k.stands.types.stack k.stands.tags.stack f.stack) (sym plain) stack_renewed;
      locals = locals_renewed;
      arrays = k.arrays;
      no_arrays = k.no_arrays;
    }

  here : (o : Option Item) → made_world header_world next t h o next ≡ option_map (builder t h) o
  here (Some y) = given_here header_world next (builder t h y)
  here None = rw (eq-eqb next next refl) refl

  inside_made : (o : Option Item) (v : ℕ) (b : Builder) → made_world header_world next t h o v ≡ Some b → v < more
  inside_made o v b e = ((stored o).inside v b e).1
    where
      header : IsWorld header_world (words_of c.program) more
      header = world_given w (words_of c.program) next more next (builder t h Header) is_world (omega (arith, grows)) is_world.room grows

      stored : (o : Option Item) → IsWorld (made_world header_world next t h o) (words_of c.program) more
      stored (Some y) = world_given header_world (words_of c.program) more more next (builder t h y) header (omega arith) is_world.room grows
      stored None = world_finished header_world (words_of c.program) more more next header (omega arith)

  -- ---- the frame with the object pushed

  module _ (f : Frame) (k : FrameIn building h Runs f) (type : VType) (edge : OneOf (edges k.stands.insn) k.stands.insn.next) (behind : AreBehind pc k.stands.types) (gives : (row_at c f k.stands).gives ≡ Anew type ∷ []) (writes : (row_at c f k.stands).writes ≡ None)
      (none : AllByRecursion StartsNone (row_at c f k.stands).takes) (plain : puts_owned owning.owned k.stands.insn.op k.stands.target ≡ false) where
    same : frame_on (row_at c f k.stands) k.stands.insn.next next f ≡ record f { pc = k.stands.insn.next; stack = next ∷ drop (length (row_at c f k.stands).takes) f.stack }
    same = λ i. record f {
      pc = k.stands.insn.next;
      stack = map (value_of 0 (λ t. next) f.stack f.locals) (gives i) ++ drop (length (row_at c f k.stands).takes) f.stack;
      locals = locals_after 0 (λ t. next) (writes i) f.stack f.locals;
    }

    nothing : started k.stands.method.class (row_at c f k.stands).takes k.stands.types.stack ≡ None
    nothing = none_started k.stands.method.class (row_at c f k.stands).takes k.stands.types.stack none

    pub made_pushed : LandsWell design false (frame_on (row_at c f k.stands) k.stands.insn.next next f) k.stands.method (frame_after k.stands.method (row_at c f k.stands) k.stands.types)
        → type ≢ types.This → SlotByType (IsFinished stored_world more) (IsFresh stored_world t h Runs) (makes_frozen frozen k.stands.method) type next
        → FrameIn (in_later building stored_world more) h Runs (record f { pc = k.stands.insn.next; stack = next ∷ drop (length (row_at c f k.stands).takes) f.stack })
    unfolding frame_renewed
    made_pushed well other slot =
        subst (λ (g : Frame). FrameIn (in_later building stored_world more) h Runs g) same
        (goes_old (in_later building stored_world more) h (old_made 0 (null lawful)) (inside_made item) f (frame_renewed f k behind plain) k.stands.insn.next next edge plain well (
          subst (λ (xs : List Given). AllByRecursion (IsMade (SlotOf frozen stored_world more t h Runs k.stands.method f.receiver) next) xs) (sym gives) (made_slot (IsFinished stored_world more) (old_made 0 (null lawful)) (IsFresh stored_world t h Runs) (builds frozen k.stands.method) (makes_frozen frozen k.stands.method) f.receiver (builds frozen k.stands.method) type next other slot, tt),
          subst (λ (o : Option (ℕ × Given)). IsWriteMade (SlotOf frozen stored_world more t h Runs k.stands.method f.receiver) next o) (sym writes) tt,
        )
        (subst (StartsOld (makes_frozen frozen k.stands.method)) (sym nothing) tt))

    -- an array that is stored next
    module _ (is_array : k.stands.insn.op ≡ ops.Newarray) where
      pub made_unstored : LandsWell design true (frame_on (row_at c f k.stands) k.stands.insn.next next f) k.stands.method (frame_after k.stands.method (row_at c f k.stands) k.stands.types)
          → stored_world next ≡ Some (builder t h Unstored) → FrameIn (in_later building stored_world more) h Runs (record f { pc = k.stands.insn.next; stack = next ∷ drop (length (row_at c f k.stands).takes) f.stack })
      made_unstored well is =
          let n : ℕ = length (row_at c f k.stands).takes in
          let by_row : tags_by_op k.stands.insn.pc (row_at c f k.stands) k.stands.insn.op k.stands.tags.stack k.stands.tags ≡ moved_tags (row_at c f k.stands) k.stands.tags
          = ap (λ (op : Op). tags_by_op k.stands.insn.pc (row_at c f k.stands) op k.stands.tags.stack k.stands.tags) is_array in
          let stack : StackWith (SlotOf frozen stored_world more t h Runs k.stands.method f.receiver) (λ v. stored_world v ≡ Some (builder t h Unstored)) true (type ∷ drop n k.stands.types.stack) (Untagged ∷ drop n k.stands.tags.stack) (next ∷ drop n f.stack)
          = (is, slots_drop (SlotOf frozen stored_world more t h Runs k.stands.method f.receiver) n k.stands.types.stack k.stands.tags.stack f.stack (stack_renewed f k behind plain)) in
          subst (λ (g : Frame). FrameIn (in_later building stored_world more) h Runs g) same
          (lands_behind (in_later building stored_world more) h (old_made 0 (null lawful)) f k.stands k.stands.insn.next (frame_on (row_at c f k.stands) k.stands.insn.next next f).stack (frame_on (row_at c f k.stands) k.stands.insn.next next f).locals edge true
          well (receiver_made (builds frozen k.stands.method) f.receiver k.receiver)
          (given_stack c f k.stands (Anew type ∷ []) gives writes nothing by_row (StackWith (SlotOf frozen stored_world more t h Runs k.stands.method f.receiver) (λ v. stored_world v ≡ Some (builder t h Unstored)) true) next stack)
          (given_locals c f k.stands (Anew type ∷ []) gives writes nothing by_row (SlotsAre (SlotOf frozen stored_world more t h Runs k.stands.method f.receiver)) next (locals_renewed f k behind plain)))

-- ---- in a frame

abbrev HasPc : (pc : ℕ) → VType → Type 0
HasPc pc u = (q : ℕ) → u ≡ types.New q → q ≡ pc

no_pc : (pc : ℕ) → HasPc pc types.Top
no_pc pc q e = absurd (cc)

-- a `new` gives its own pc
type_pc : (c : MarkedProgram) (f : Frame) (k : Standing c f) (q : ℕ) → (row_at c f k).gives ≡ Anew (types.New q) ∷ [] → q ≡ k.insn.pc
type_pc c f k q e =
    let fine = row_fine (HasPc k.insn.pc) (no_pc k.insn.pc) (λ n e. absurd (cc)) (λ n e. absurd (cc)) (λ class n e. absurd (cc)) c.program k.method k.insn.pc (λ n e. cc) k.target k.insn.op in
    let all : AllByRecursion (IsFine (HasPc k.insn.pc) (no_pc k.insn.pc)) (Anew (types.New q) ∷ []) = subst (AllByRecursion (IsFine (HasPc k.insn.pc) (no_pc k.insn.pc))) e fine.0 in
    all.0 q refl

module _ (lawful : LawfulBuilding) (more : ℕ) (grows : lawful.next < more) (f : Frame) (fs : List Frame) (k : FrameIn lawful.building (length fs) Runs f) (b : BelowIn lawful.building f fs) where
  open lawful use {building, design, c, marked, frozen, owning, owns, w, next, t, fine}

  -- the frames once the header is stored
  made_frames : (pc : ℕ) (item : Option Item) (sort : IsNewItem pc item)
      → FrameIn (in_later building (stored_world lawful more (length fs) grows pc item sort) more) (length fs) Runs (record f { pc = k.stands.insn.next; stack = next ∷ drop (length (row_at c f k.stands).takes) f.stack })
      → FramesIn (in_later building (stored_world lawful more (length fs) grows pc item sort) more) Runs (pushed next (making c.program (top_here c f fs k.stands)))
  made_frames pc item sort top = (
    top,
    below_moved (in_later building (stored_world lawful more (length fs) grows pc item sort) more) f k.stands.insn.next (next ∷ drop (length (row_at c f k.stands).takes) f.stack) f.locals fs
        (below_kept building (stored_world lawful more (length fs) grows pc item sort) more (old_made lawful more (length fs) grows pc item sort) f fs
        (λ i less v x e. keeps lawful more (length fs) grows pc item sort v i x e (λ s. (let z : i ≡ length fs = ap (λ (b : Builder). b.height) s in omega (arith, z, less))) item (λ y is s. (let z : i ≡ length fs = ap (λ (b : Builder). b.height) s in omega (arith, z, less)))) b),
  )

  -- what is made is new, and was stored nowhere
  made_well : (type : VType) → is_getfield k.stands.insn.op ≡ false → (row_at c f k.stands).gives ≡ Anew type ∷ [] → (row_at c f k.stands).writes ≡ None
      → IsMadeWell c marked owning.stores f k.stands next
  made_well type op gives writes = record { read = λ fi reads word is. absurd (no_read fi k.stands.insn.op k.stands.target op reads.1); other = λ none. (subst (AllByRecursion (GivenClean owning.stores next)) (sym gives) (new type, tt), written); written = written }
    where
      new : (type : VType) → IsNoStored owning.stores type next
      new types.Int = tt
      new types.Top = tt
      new type = fine.fresh next (omega arith)

      written : WriteClean owning.stores next (row_at c f k.stands).writes
      written = subst (WriteClean owning.stores next) (sym writes) tt

  -- by what follows
  module _ (type : VType) (edge : OneOf (edges k.stands.insn) k.stands.insn.next) (gives : (row_at c f k.stands).gives ≡ Anew type ∷ []) (writes : (row_at c f k.stands).writes ≡ None) (none : AllByRecursion StartsNone (row_at c f k.stands).takes)
      (get : is_getfield k.stands.insn.op ≡ false) (put : is_putfield k.stands.insn.op ≡ false) where
    plain : puts_owned owning.owned k.stands.insn.op k.stands.target ≡ false
    plain = stores_none owning.owned k.stands.insn.op k.stands.target put

    pub usual_well : is_newarray k.stands.insn.op ≡ false → LandsWell design false (frame_on (row_at c f k.stands) k.stands.insn.next next f) k.stands.method (frame_after k.stands.method (row_at c f k.stands) k.stands.types)
    usual_well op = goes_plain building (length fs) f k k.stands.insn.next next (number_in (edges k.stands.insn) k.stands.insn.next edge) (made_well type get gives writes) op

    makes_as : (pc : ℕ) (item : Option Item) (sort : IsNewItem pc item) → AreBehind pc k.stands.types
        → LandsWell design false (frame_on (row_at c f k.stands) k.stands.insn.next next f) k.stands.method (frame_after k.stands.method (row_at c f k.stands) k.stands.types)
        → type ≢ types.This
        → SlotByType (IsFinished (stored_world lawful more (length fs) grows pc item sort) more) (IsFresh (stored_world lawful more (length fs) grows pc item sort) t (length fs) Runs) (makes_frozen frozen k.stands.method) type next
        → MadeIn (in_later building (with_builder w next (builder t (length fs) Header)) more) next (length fs) (making c.program (top_here c f fs k.stands))
    makes_as pc item sort behind well other slot = record {
      item = item;
      not_begun = λ e. elim (sort Begun e) [ inl same ↦ cc | inr same ↦ cc ];
      now = given_here w next (builder t (length fs) Header);
      keep = made_frames pc item sort (made_pushed lawful more (length fs) grows pc item sort f k type edge behind gives writes none plain well other slot);
    }

    makes_unstored : (is_array : k.stands.insn.op ≡ ops.Newarray)
        → LandsWell design true (frame_on (row_at c f k.stands) k.stands.insn.next next f) k.stands.method (frame_after k.stands.method (row_at c f k.stands) k.stands.types)
        → MadeIn (in_later building (with_builder w next (builder t (length fs) Header)) more) next (length fs) (making c.program (top_here c f fs k.stands))
    makes_unstored is_array well =
        let sort : IsNewItem k.stands.insn.pc (Some Unstored) = λ x e. inr (sym (same_some e)) in
        record {
          item = Some Unstored;
          not_begun = λ e. cc;
          now = given_here w next (builder t (length fs) Header);
          keep = made_frames k.stands.insn.pc (Some Unstored) sort
              (made_unstored lawful more (length fs) grows k.stands.insn.pc (Some Unstored) sort f k type edge (rules_at c marked f k.stands).behind gives writes none plain is_array well
              (here lawful more (length fs) grows k.stands.insn.pc (Some Unstored) sort (Some Unstored)));
        }

  no_item : (pc : ℕ) → IsNewItem pc None
  no_item pc x e = absurd (cc)

  abbrev item_of : (pc : ℕ) → Bool → Option Item
  item_of q true = Some (Made q)
  item_of q false = None

  sort_of : (q : ℕ) (y : Bool) → IsNewItem q (item_of q y)
  sort_of q true x e = inl (let same : Made q ≡ x = cc in sym same)
  sort_of q false x e = absurd (cc)

  pub makes_it : (type : VType) (word size : ℕ) → OneOf (edges k.stands.insn) k.stands.insn.next → (row_at c f k.stands).gives ≡ Anew type ∷ [] → (row_at c f k.stands).writes ≡ None → MadeAs c.program k.stands.method type word size
      → AllByRecursion StartsNone (row_at c f k.stands).takes → (is_getfield k.stands.insn.op ≡ false) × (is_putfield k.stands.insn.op ≡ false) → MadeIn (in_later building (with_builder w next (builder t (length fs) Header)) more) next (length fs) (making c.program (top_here c f fs k.stands))
  makes_it (types.New q) word size edge gives writes sort none op =
      let behind : AreBehind q k.stands.types = subst (λ (pc : ℕ). AreBehind pc k.stands.types) (sym (type_pc c f k.stands q gives)) (rules_at c marked f k.stands).behind in
      makes_as (types.New q) edge gives writes none op.0 op.1 q (item_of q (makes_frozen frozen k.stands.method q)) (sort_of q (makes_frozen frozen k.stands.method q)) behind
      (usual_well (types.New q) edge gives writes none op.0 op.1 (no_array k.stands.insn.op gives)) (λ s. cc) (slot (makes_frozen frozen k.stands.method q) refl)
    where
      no_array : (x : Op) → (row c.program k.stands.method k.stands.insn.pc k.stands.target x).gives ≡ Anew (types.New q) ∷ [] → is_newarray x ≡ false
      no_array ops.Newarray e = absurd (cc)
      no_array x e = refl

      slot : (y : Bool) → makes_frozen frozen k.stands.method q ≡ y
          → if_so (makes_frozen frozen k.stands.method q) (stored_world lawful more (length fs) grows q (item_of q y) (sort_of q y) next ≡ Some (builder t (length fs) (Made q))) (IsFinished (stored_world lawful more (length fs) grows q (item_of q y) (sort_of q y)) more next)
      slot true e = rw e (here lawful more (length fs) grows q (item_of q true) (sort_of q true) (Some (Made q)))
      slot false e = rw e (grows, here lawful more (length fs) grows q (item_of q false) (sort_of q false) None)
  makes_it (types.Ref class) word size edge gives writes sort none op = elim (cases_Bool (is_newarray k.stands.insn.op)) [
    | inl e ↦
        let after = next_puts c marked owning owns f.method k.stands.number k.stands.method k.stands.insn k.stands.at.in_program k.stands.at.in_code in
        by_puts e after.0 after.1
    | inr e ↦ finished_one (usual_well (types.Ref class) edge gives writes none op.0 op.1 e)
  ]
    where
      finished_one : LandsWell design false (frame_on (row_at c f k.stands) k.stands.insn.next next f) k.stands.method (frame_after k.stands.method (row_at c f k.stands) k.stands.types)
          → MadeIn (in_later building (with_builder w next (builder t (length fs) Header)) more) next (length fs) (making c.program (top_here c f fs k.stands))
      finished_one well = makes_as (types.Ref class) edge gives writes none op.0 op.1 k.stands.insn.pc None (no_item k.stands.insn.pc) (rules_at c marked f k.stands).behind well (λ s. cc)
          (grows, here lawful more (length fs) grows k.stands.insn.pc None (no_item k.stands.insn.pc) None)

      by_puts : is_newarray k.stands.insn.op ≡ true → (puts : Bool) → ((j : ℕ) (other : Insn) (target : Target) (u : TagShape) → IsAt c.program (tags_of c) f.method j k.stands.method other target u → other.pc ≡ k.stands.insn.next → puts_owned owning.owned other.op target ≡ puts)
          → MadeIn (in_later building (with_builder w next (builder t (length fs) Header)) more) next (length fs) (making c.program (top_here c f fs k.stands))
      by_puts e true put = makes_unstored (types.Ref class) edge gives writes none op.0 op.1 (newarray_is k.stands.insn.op e)
          (goes_well building (length fs) f k k.stands.insn.next next (number_in (edges k.stands.insn) k.stands.insn.next edge) (made_well (types.Ref class) op.0 gives writes) true put)
      by_puts e false put = finished_one (goes_well building (length fs) f k k.stands.insn.next next (number_in (edges k.stands.insn) k.stands.insn.next edge) (made_well (types.Ref class) op.0 gives writes) false put)
  makes_it type word size edge gives writes sort none op = absurd sort
