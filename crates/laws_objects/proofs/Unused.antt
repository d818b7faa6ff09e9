-- What is lost, or built by another thread, is in no slot of a thread that an instruction may use, and in no place.
use Rattle.std.{proofs.Common.{◌≡◌, ◌≢◌, inl, inr, ℕ, Bool, true, false, List, [], ◌∷◌, length, Some, None, refl, sym, ◌∙◌, subst, arith}, specs.List.AllZip}
use Rattle.jvm_types.specs.{ProgramInvariant.words_of, Types.TypeFrame, declared.{program.Kind.{Kind, TheVariants.Ref}, typing.VType.{VType, TheVariants.{Int, New, Null}}}}
use Rattle.checked_program.specs.{MarkedProgram.{MarkedProgram, IsMarked}, declared.tag.Tag.{Tag}}
use Rattle.machine_types.specs.Construction.{Owning, puts_owned, if_so, builds, makes_frozen, StackWith, SlotByType, OwnSlot, SlotIs, SlotsAre, Runs, IsFresh, ReceiverIs, FrameKeeps, KindKeeps, PlacesKeep}
use Rattle.machine_types.specs.{PlainMemory.Object, Standing.Standing, Structure.IsAs, Threads.{Frame, Thread}}
use Rattle.machine_types.specs.{Worlds.{Item, Lost, Made, Begun, Unstored, Builder, builder, World, IsFinished, IsWorld}, declared.phase.Phase.{Phase, TheVariants.Run}}
use Rattle.laws_threads.proofs.{FramePlaces.one_standing_law, Tests.either_way}
use Rattle.laws_objects.{specs.UnfinishedObjects.{IsOther, UsesNot, KindHasNot, PlacesHaveNot}, proofs.Buildings.{Building, in_world, FramesIn, PhaseIn, ThreadIn, first_finished}}
use Rattle.laws_objects.proofs.{Slots.{not_this, plainly}, WorldChanges.none_some}

-- the thread doesn't build it, as it sees the world, and it is not finished
pub record IsStrange (now : World) (t v : ℕ) : Type 0 where
  pub built : Builder
  pub is : now v ≡ Some built
  pub other : (h : ℕ) (x : Item) → x ≢ Lost → built ≢ builder t h x

module _ (now : World) (next t v : ℕ) (strange : IsStrange now t v) (null : IsFinished now next 0) where
  not_finished : (word : ℕ) → IsFinished now next word → word ≢ v
  not_finished word o e = none_some (now v) strange.built (subst (λ (u : ℕ). now u ≡ None) e o.1) strange.is

  not_built : (h word : ℕ) (x : Item) → x ≢ Lost → now word ≡ Some (builder t h x) → word ≢ v
  not_built h word x n e s =
      let here : now v ≡ Some (builder t h x) = subst (λ (u : ℕ). now u ≡ Some (builder t h x)) s e in
      let there : now v ≡ Some strange.built = strange.is in
      strange.other h x n cc

  -- ---- slots

  other_so : (u : VType) (word : ℕ) → word ≢ v → IsOther v u word
  other_so Int word n = tt
  other_so u word n = assumption

  module _ (h : ℕ) (own : Bool) (young : ℕ → Bool) (receiver : ℕ) (receives : ReceiverIs now next t h own receiver) where
    type_other : (u : VType) (word : ℕ) → SlotByType (IsFinished now next) (IsFresh now t h Runs) young u word → IsOther v u word
    type_other Null word s = λ e. not_finished 0 null (sym s ∙ e)
    type_other (New pc) word s =
        either_way (λ (y : Bool). if_so y (now word ≡ Some (builder t h (Made pc))) (IsFinished now next word) → word ≢ v) (young pc) (not_built h word (Made pc) (λ s. cc)) (not_finished word) s
    type_other u word s = first_of (assumption, search not_finished)

    slot_other : (b : Bool) → own ≡ b → (u : VType) (g : Tag) (word : ℕ) → SlotIs (IsFinished now next) (IsFresh now t h Runs) b young receiver u g word → IsOther v u word
    slot_other true ours u g word s = elim (not_this g) [
      | inl e ↦ let mine : now receiver ≡ Some (builder t h Begun) = subst (λ (b : Bool). ReceiverIs now next t h b receiver) ours receives in
          let same : word ≡ receiver = subst (λ (x : Tag). OwnSlot (IsFinished now next) (IsFresh now t h Runs) young receiver u x word) e s in
          other_so u word (λ e. not_built h receiver Begun (λ z. cc) mine (sym same ∙ e))
      | inr n ↦ type_other u word (plainly (IsFinished now next) (IsFresh now t h Runs) young receiver u g word n s).1
    ]
    slot_other false e u g word s = type_other u word s

    slots_other : (us : List VType) (gs : List Tag) (words : List ℕ) → SlotsAre (SlotIs (IsFinished now next) (IsFresh now t h Runs) own young receiver) us gs words → AllZip (IsOther v) us words
    slots_other [] [] [] s = tt
    slots_other (u ∷ us) (g ∷ gs) (word ∷ words) s = (slot_other own refl u g word s.0, slots_other us gs words s.1)
    slots_other us gs words s = absurd s

    -- the frame's own new array is on the top
    stack_other : (puts : Bool) (us : List VType) (gs : List Tag) (words : List ℕ)
        → StackWith (SlotIs (IsFinished now next) (IsFresh now t h Runs) own young receiver) (λ word. now word ≡ Some (builder t h Unstored)) puts us gs words → AllZip (IsOther v) us words
    stack_other true (u ∷ us) (g ∷ gs) (word ∷ words) s = (other_so u word (not_built h word Unstored (λ e. cc) s.0), slots_other us gs words s.1)
    stack_other puts us gs words s = slots_other us gs words s

  -- ---- a frame, wherever it is said to stand

  frame_other : (c : MarkedProgram) (marked : IsMarked c) (frozen : ℕ → Bool) (owning : Owning) (h : ℕ) (f : Frame) → FrameKeeps c frozen owning now next t h Runs f → (k : Standing c f) → AllZip (IsOther v) k.types.stack f.stack × AllZip (IsOther v) k.types.locals f.locals
  frame_other c marked frozen owning h f kept k =
      let same = (one_standing_law c f kept.stands k marked).types in
      let slots = slots_other h (builds frozen kept.stands.method) (makes_frozen frozen kept.stands.method) f.receiver kept.receiver in (
        subst (λ (u : TypeFrame). AllZip (IsOther v) u.stack f.stack) same
            (stack_other h (builds frozen kept.stands.method) (makes_frozen frozen kept.stands.method) f.receiver kept.receiver (puts_owned owning.owned kept.stands.insn.op kept.stands.target) kept.stands.types.stack kept.stands.tags.stack f.stack kept.stack),
        subst (λ (u : TypeFrame). AllZip (IsOther v) u.locals f.locals) same (slots kept.stands.types.locals kept.stands.tags.locals f.locals kept.locals),
      )

-- ---- a thread

module _ (building : Building) where
  open building use {c, marked, frozen, owning, w, next, t}

  pub uses_not : (v : ℕ) (was : Phase) (x : Thread) (k : ThreadIn building was x) → IsWorld w (words_of c.program) next → IsAs x.phase was → IsStrange k.now t v → UsesNot c v x
  uses_not v was x k world is_as strange run f below frames stands =
      let is_run : was ≡ Run = subst (λ (p : Phase). IsAs p was) run is_as in
      let seen : Building = in_world building k.now in
      let kept : FramesIn seen Runs x.frames = subst (λ (p : Phase). PhaseIn seen p x.frames) is_run k.frames in
      let top : FramesIn seen Runs (f ∷ below) = subst (FramesIn seen Runs) frames kept in
      frame_other k.now next t v strange (first_finished k.now (words_of c.program) next 0 (k.now_world world) (omega arith)) c marked frozen owning (length below) f top.0 stands

-- ---- places

kind_has_not : (w : World) (next v : ℕ) (b : Builder) → w v ≡ Some b → (kind : Kind) (word : ℕ) → KindKeeps w next kind word → KindHasNot v kind word
kind_has_not w next v b e (Ref class) word k = λ s. none_some (w v) b (subst (λ (u : ℕ). w u ≡ None) s k.1) e
kind_has_not w next v b e kind word k = tt

pub places_have_not : (c : MarkedProgram) (owning : Owning) (w : World) (next v : ℕ) (objects : List Object) (words : List ℕ) (b : Builder) → w v ≡ Some b → PlacesKeep c owning w next objects words → PlacesHaveNot c v objects words
places_have_not c owning w next v objects words b e k = record {
  fields = λ o number f here there own same. kind_has_not w next v b e f.kind _ (k.fields o number f here there own same);
  statics = λ number f there static. kind_has_not w next v b e f.kind _ (k.statics number f there static);
}
