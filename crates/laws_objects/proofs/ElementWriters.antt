-- An event that changes an element of an array that an object owns is an `iastore` of a method that runs on the object.
use Rattle.std.proofs.Common.{◌≡◌, ◌⊎◌, inl, inr, ℕ, Bool, true, false, not, List, [], ◌∷◌, length, Some, None, refl, sym, ap, ◌∙◌, subst, arith, ⊎_elim, ◌||◌, Contains, slice_index}
use Rattle.std.{specs.List.AllZip, proofs.lemmas.Bool.{cases_Bool, or_parts}}
use Rattle.lists.proofs.{ListLaws.same_some, TestLaws.is_true}
use Rattle.jvm_types.specs.{CodeTable.row, Members.is_static, ProgramInvariant.IsProgram, Types.{TypeFrame, is_below}, Verifying.{suits, some_taken, some_read, mistypes}, declared.{class_numbers.TheConstants.INT_ARRAY_CLASS, code.{Insn.Insn, Op.Op}}}
use Rattle.jvm_types.specs.declared.{op_row.Want.Want, program.{FieldInfo.FieldInfo, MethodInfo.MethodInfo, Program.Program, Target.Target}, typing.VType.VType}
use Rattle.checked_program.specs.{MarkedProgram.MarkedProgram, OwnedArrays.{IsOwnedArrayField, IsOwnedAt}, SectionLaws.OwnedIsDecided}
use Rattle.machine_types.specs.{Accesses.words_after, Construction.{IsArraySlot, IsNoStored, Runs, SlotsFrom}, Events.wanted, OwnedPlaces.{Stores, IsElementOf}, PlainMemory.Object}
use Rattle.machine_types.specs.{Standing.{Standing, tags_of}, Structure.{IsAs, TopIs, is_element_op}, Threads.{Frame, Thread}}
use Rattle.machine_types.specs.{Typed.{FramesHold, Holds, HasClass, HasElementIn, HasElementOn, ElementStands, IsElementOn}, Words.{value_word, variable_word}, declared.effect.Variable.Variable}
use Rattle.machine_types.specs.declared.phase.Phase.{Phase, TheVariants.Element}
use Rattle.laws_threads.{specs.Allowed.IsNamedField, proofs.{FramePlaces.one_standing, Landing.rules_at, Standings.{are_tagged, one_insn}}}
use Rattle.laws_states.{specs.Sites.{ValueOf, StaticAt, IsThere}, proofs.{Lists.contained_got, Movers.HeapState, Places.same_object}}
use Rattle.laws_objects.proofs.{Buildings.{Building, in_world, FrameIn, FramesIn, PhaseIn, ThreadIn, building_in}, ColouredFrames.{coloured_class, coloured_instance}}
use Rattle.laws_objects.proofs.PlaceWriters.{BuiltEvent, place_event, TopWrites, has_field, holder_of, place_changer, instance_word, static_word}
use Rattle.jvm_types.specs.declared.code.Op.TheVariants as ops
use Rattle.jvm_types.specs.declared.typing.VType.TheVariants as types

-- ---- the array below the index and the value

-- of three values on top of a stack the lowest one, with its type
record Third (On : (place : ℕ) → VType → (v : ℕ) → Type 0) (ts : List VType) (v : ℕ) : Type 0 where
  first : VType
  second : VType
  type : VType
  more : List VType
  are : ts ≡ first ∷ second ∷ type ∷ more
  on : On 2 type v

third : (Is : VType → (v : ℕ) → Type 0) (On : (place : ℕ) → VType → (v : ℕ) → Type 0)
    (ts : List VType) (u i a : ℕ) (rest : List ℕ) → AllZip Is ts (u ∷ i ∷ a ∷ rest)
    → SlotsFrom On 0 ts (u ∷ i ∷ a ∷ rest) → Third On ts a
third Is On (first ∷ second ∷ type ∷ more) u i a rest zip on =
    record { first = first; second = second; type = type; more = more; are = refl; on = on.1.1.0 }
third Is On (first ∷ second ∷ []) u i a rest zip on = absurd zip.1.1
third Is On (first ∷ []) u i a rest zip on = absurd zip.1
third Is On [] u i a rest zip on = absurd zip

-- it has the type of an array, or none
type_suits : (p : Program) (m : MethodInfo) (pc : ℕ) (target : Target) (g : TypeFrame)
    (first second type : VType) (more : List VType) → g.stack ≡ first ∷ second ∷ type ∷ more
    → mistypes m (row p m pc target ops.Iastore) g ≡ false
    → is_below type (types.Ref INT_ARRAY_CLASS) ≡ true
type_suits p m pc target g first second type more stack suit =
    let wants = (row p m pc target ops.Iastore).takes in
    let fault : (Want → VType → Bool) = λ want t. not (suits m want t) in
    let takes : some_taken fault wants g.stack ≡ false =
    (or_parts (some_taken fault wants g.stack)
    (some_read fault (row p m pc target ops.Iastore).reads g.locals) suit).0 in
    let all : some_taken fault wants (first ∷ second ∷ type ∷ more) ≡ false =
    subst (λ (ts : List VType). some_taken fault wants ts ≡ false) stack takes in
    let last : (not (is_below first types.Int) ||
    (not (is_below second types.Int) || (not
    (is_below type (types.Ref INT_ARRAY_CLASS)) || false))) ≡ false = all in
    is_true (is_below type (types.Ref INT_ARRAY_CLASS))
    (or_parts (not (is_below type (types.Ref INT_ARRAY_CLASS))) false
    (or_parts (not (is_below second types.Int))
    (not (is_below type (types.Ref INT_ARRAY_CLASS)) || false)
    (or_parts (not (is_below first types.Int))
    (not (is_below second types.Int) || (not
    (is_below type (types.Ref INT_ARRAY_CLASS)) || false)) last).1).1).0

-- so it was stored nowhere where its slot has no colour
not_stored : (stores : Stores) (type : VType) (v word : ℕ)
    → is_below type (types.Ref INT_ARRAY_CLASS) ≡ true → IsNoStored stores type v
    → stores v ≡ Some word → ⊥
not_stored stores types.Int v word below none e = let bad : false ≡ true = below in cc
not_stored stores types.Top v word below none e = let bad : false ≡ true = below in cc
not_stored stores type v word below none e = let bad : Some word ≡ None = sym e ∙ none in cc

iastore_is : (v : ℕ) (op : Op) → is_element_op (Some v) op ≡ true → op ≡ ops.Iastore
iastore_is v ops.Iastore e = refl
iastore_is v op e = absurd (let bad : false ≡ true = e in cc)

-- ---- a frame that stores an element of an array that the object owns

pub record ElementWriter (c : MarkedProgram) (o : Object) (f : Frame) : Type 0 where
  pub stands : Standing c f
  pub is : stands.insn.op ≡ ops.Iastore
  pub owned : IsOwnedAt c.program (tags_of c) f.method stands.number 2
  pub receiver : f.receiver ≡ o.reference
  pub instance : is_static stands.method.flags ≡ false
  pub of_class : stands.method.class ≡ o.class

pub record StoresElement (c : MarkedProgram) (o : Object) (word : ℕ) (x : Thread) : Type 0 where
  pub value : ℕ
  pub stores : x.phase ≡ Element word (Some value)
  pub top : TopWrites (ElementWriter c o) x.frames

module _ (decided : OwnedIsDecided) (event : BuiltEvent) (fi word : ℕ) (o : Object) (here : Contains event.objects o) (owned : IsOwnedArrayField event.c.program (tags_of event.c) fi) (e : IsElementOf event.c event.owning.stores event.objects fi o word) where
  open event use {state, c, marked, owning as own, was, objects, s, con as built, t, x, there}
  open event.state.facts use {heap}
  open event.sites use {differ}

  abbrev heap_state : HeapState
  heap_state = (place_event event).mover.state

  program : IsProgram c.program
  program = marked.checked.program

  is_there : IsThere c.program objects s (ValueOf e.array.reference e.index)
  is_there = (e.array, e.there, refl, e.inside)

  array_class : e.array.class ≡ INT_ARRAY_CLASS
  array_class =
      let k = built.places.stored e.array.reference e.field_word e.stored in
      ap (λ (b : Object). b.class) (same_object c.program objects _ heap.apart e.array k.0 e.there
      k.1 (sym k.2)) ∙ k.3

  -- ---- a field is no element of it

  no_field : (target : Target) (v : Variable) (f : FieldInfo)
      → IsNamedField c.program (HasClass objects) target v f
      → variable_word v ≡ value_word e.array.reference e.index → ⊥
  no_field target v f at same = elim (cases_Bool (is_static f.flags)) [
    | inl flag ↦
        let k = heap.apart.there at.number f at.there flag in
        let site : StaticAt f.index ≡ ValueOf e.array.reference e.index =
        differ c objects s (StaticAt f.index) (ValueOf e.array.reference e.index) marked heap
        (k.0, k.1, k.2) is_there (sym (static_word c objects target v f at flag) ∙ same) in
        cc
    | inr flag ↦
        let from = holder_of heap_state at.number f at.reference at.there flag (at.holder flag) in
        let site : ValueOf at.reference f.index ≡ ValueOf e.array.reference e.index =
        differ c objects s (ValueOf at.reference f.index) (ValueOf e.array.reference e.index)
        marked heap from.there is_there (sym (instance_word c objects target v f at flag) ∙ same) in
        let reference : at.reference ≡ e.array.reference = cc in
        let one : from.object ≡ e.array = same_object c.program objects _ heap.apart from.object
        e.array from.known e.there (from.is ∙ reference) in
        let file = (program.fields at.number f at.there).class.0 in
        omega (arith, file, from.of_class, ap (λ (b : Object). b.class) one, array_class)
  ]

  -- ---- the frame that stores

  keeps : ThreadIn (building_in state t) (was t) x
  keeps = built.each t x there

  abbrev seen : Building
  seen = in_world (building_in state t) keeps.now

  module _ (f : Frame) (fs : List Frame) (kept : FrameIn seen (length fs) Runs f) (holds : FramesHold c (HasClass objects) (f ∷ fs)) (v : ℕ) (top : TopIs c (is_element_op (Some v)) (f ∷ fs)) where
    module _ (n u i a : ℕ) (rest : List ℕ) (stack : f.stack ≡ u ∷ i ∷ a ∷ rest) (has : HasElementOn objects (Some v) (u ∷ i ∷ a ∷ rest)) (on : IsElementOn n (Some v) (u ∷ i ∷ a ∷ rest)) (same : n ≡ value_word e.array.reference e.index) where
      reference : a ≡ e.array.reference
      reference =
          let site : ValueOf a i ≡ ValueOf e.array.reference e.index =
          differ c objects s (ValueOf a i) (ValueOf e.array.reference e.index) marked heap
          (has.object, has.there, has.is, has.below) is_there (sym on.0 ∙ same) in
          cc

      stored : own.stores a ≡ Some e.field_word
      stored = ap own.stores reference ∙ e.stored

      op : kept.stands.insn.op ≡ ops.Iastore
      op = iastore_is v kept.stands.insn.op (ap (λ (insn : Insn). is_element_op (Some v) insn.op)
          (one_insn c marked f kept.stands top.0) ∙ top.1)

      slot : Third (IsArraySlot c own.stores f kept.stands.number) kept.stands.types.stack a
      slot = third (Holds holds.0.stands.method (HasClass objects))
          (IsArraySlot c own.stores f kept.stands.number) kept.stands.types.stack u i a rest
          (subst (λ (vs : List ℕ). AllZip (Holds holds.0.stands.method (HasClass objects))
          kept.stands.types.stack vs) stack
          (subst (λ (g : TypeFrame). AllZip (Holds holds.0.stands.method (HasClass objects)) g.stack
          f.stack) (one_standing c marked f holds.0.stands kept.stands).types holds.0.stack))
          (subst (λ (vs : List ℕ). SlotsFrom (IsArraySlot c own.stores f kept.stands.number) 0
          kept.stands.types.stack vs) stack kept.arrays)

      below : is_below slot.type (types.Ref INT_ARRAY_CLASS) ≡ true
      below = type_suits c.program kept.stands.method kept.stands.insn.pc kept.stands.target
          kept.stands.types slot.first slot.second slot.type slot.more slot.are
          (subst (λ (q : Op). mistypes kept.stands.method
          (row c.program kept.stands.method kept.stands.insn.pc kept.stands.target q)
          kept.stands.types ≡ false) op (rules_at c marked f kept.stands).rules.types)

      coloured : IsOwnedAt c.program (tags_of c) f.method kept.stands.number 2
      coloured = ⊎_elim (λ q. q)
          (λ none. absurd (not_stored own.stores slot.type a e.field_word below
          (slot.on.other none) stored))
          (decided c.program (tags_of c) marked.marks.uses f.method kept.stands.number 2
          kept.stands.method kept.stands.insn kept.stands.target kept.stands.tags program
          (are_tagged c marked) marked.marks.are_uses kept.stands.at)

      same_word : value_word f.receiver coloured.owned.field.index ≡ e.field_word
      same_word = elim (slot.on.owned coloured (value_word f.receiver coloured.owned.field.index)
          (record { field = coloured.owned.field; is = coloured.owned.is; place = refl })) [
            | inl null ↦ absurd (let begins = heap.apart.begin e.there.0 e.array (contained_got objects e.array e.there) in omega (arith, null, reference, begins))
            | inr is ↦ same_some (sym is ∙ stored)
          ]

      instance : is_static kept.stands.method.flags ≡ false
      instance = coloured_instance c marked f kept.stands 2 coloured

      -- the object that the method runs on
      on_object : HasClass objects kept.stands.method.class f.receiver
      on_object =
          let one : holds.0.stands.method ≡ kept.stands.method =
          (one_standing c marked f holds.0.stands kept.stands).method in
          subst (λ (m : MethodInfo). is_static m.flags ≡ false → HasClass objects m.class f.receiver)
          one holds.0.receiver instance

      receiver : f.receiver ≡ o.reference
      receiver =
          let r = on_object in
          let field : e.is_field.field ≡ owned.field = same_some (sym e.is_field.is ∙ owned.is) in
          let first : f.receiver ≡ r.0.reference = sym r.2 in
          let its : IsThere c.program objects s (ValueOf f.receiver coloured.owned.field.index) = (
            r.0,
            r.1,
            r.2,
            has_field heap_state r.0 coloured.fi coloured.owned.field
                r.1 coloured.owned.is coloured.owned.instance (r.3 ∙ (coloured_class c marked f kept.stands 2 coloured)),
          ) in
          let other : IsThere c.program objects s (ValueOf o.reference e.is_field.field.index)
          = (
            o,
            here,
            refl,
            has_field heap_state o fi e.is_field.field here e.is_field.is
                (subst (λ (g : FieldInfo). is_static g.flags ≡ false) (sym field) owned.instance)
                e.of_class,
          ) in
          let site : ValueOf f.receiver coloured.owned.field.index ≡ ValueOf o.reference
          e.is_field.field.index
          = differ c objects s (ValueOf f.receiver coloured.owned.field.index)
          (ValueOf o.reference e.is_field.field.index) marked heap its other
          (same_word ∙ e.is_field.place) in
          cc

      of_class : kept.stands.method.class ≡ o.class
      of_class = let r = on_object in sym r.3 ∙ ap (λ (b : Object). b.class)
          (same_object c.program objects _ heap.apart r.0 o r.1 here (r.2 ∙ receiver))

      writer : ElementWriter c o f
      writer = record {
        stands = kept.stands;
        is = op;
        owned = coloured;
        receiver = receiver;
        instance = instance;
        of_class = of_class;
      }

    by_stack : (n : ℕ) (stack : List ℕ) → f.stack ≡ stack → HasElementOn objects (Some v) stack → IsElementOn n (Some v) stack → n ≡ value_word e.array.reference e.index → ElementWriter c o f
    by_stack n (u ∷ i ∷ a ∷ rest) stack has on same = writer n u i a rest stack has on same
    by_stack n vs stack has on same = absurd on

  by_frames : (fs : List Frame) (n v : ℕ) → FramesIn seen Runs fs → FramesHold c (HasClass objects) fs → TopIs c (is_element_op (Some v)) fs → HasElementIn objects (Some v) fs → ElementStands n (Some v) fs
      → n ≡ value_word e.array.reference e.index → TopWrites (ElementWriter c o) fs
  by_frames [] n v keep holds top has on same = top
  by_frames (f ∷ fs) n v keep holds top has on same = by_stack f fs keep.0 holds v top n f.stack refl has on same

  stores : (n v : ℕ) → x.phase ≡ Element n (Some v) → FramesHold c (HasClass objects) x.frames → TopIs c (is_element_op (Some v)) x.frames → HasElementIn objects (Some v) x.frames → ElementStands n (Some v) x.frames
      → n ≡ value_word e.array.reference e.index → StoresElement c o word x
  stores n v q holds top has on same = record { value = v; stores = q ∙ ap (λ (m : ℕ). Element m (Some v)) (same ∙ sym e.place); top = by_frames x.frames n v frames holds top has on same }
    where
      frames : FramesIn seen Runs x.frames
      frames = subst (λ (phase : Phase). PhaseIn seen phase x.frames) (subst (λ (phase : Phase). IsAs phase (was t)) q (place_event event).structured.is_as) keeps.frames

  -- the word is as it was, or the thread stores it
  pub element_writer : (slice_index (words_after s.words (wanted c x x.phase)) word ≡ slice_index s.words word) ⊎ StoresElement c o word x
  element_writer = subst (λ (n : ℕ). (slice_index (words_after s.words (wanted c x x.phase)) n ≡ slice_index s.words n) ⊎ StoresElement c o word x) (sym e.place)
      (elim (place_changer (place_event event) (ValueOf e.array.reference e.index) tt is_there (λ f. ⊥) (StoresElement c o word x) (λ f k v n is g at same. no_field k.target v g at same) stores) [
        | inl still ↦ inl still
        | inr (inl writer) ↦ absurd (never x.frames writer.top)
        | inr (inr stored) ↦ inr stored
      ])
    where
      never : (fs : List Frame) → TopWrites (λ f. ⊥) fs → ⊥
      never [] k = k
      never (f ∷ fs) k = k
