-- Where a thread reads inside an attempt, the place stays as long as the monitor of the section is free.
use Rattle.std.proofs.Common.{◌≡◌, ◌⊎◌, inl, inr, ℕ, ◌<◌, Bool, true, false, not, List, [], ◌∷◌, length, Option, Some, None, refl, sym, ap, ◌∙◌, subst, arith, ◌==◌, slice_get, slice_index, if◌then◌else◌}
use Rattle.std.proofs.lemmas.Bool.{cases_Bool, or_parts, Decides.nat_tests}
use Rattle.lists.proofs.{ListLaws.same_some, TestLaws.is_true}
use Rattle.jvm_types.specs.{ClassNames.file_of_class, CodeTable.get_row, Members.is_static, ProgramInvariant.site_in, Types.{TypeFrame, is_below}, Verifying.{suits, some_taken, some_read, mistypes}}
use Rattle.jvm_types.specs.declared.{code.{Insn.Insn, Op.{Op, TheVariants.{Getfield, Iaload}}}, fixed_words.TheConstants.NEXT_FREE_WORD, op_row.OpRow.OpRow}
use Rattle.jvm_types.specs.declared.{outcome.Thrown.TheVariants.NullPointerException, program.{FieldInfo.FieldInfo, MethodInfo.MethodInfo, Program.Program, Target.Target}, typing.VType.VType}
use Rattle.laws_programs.{specs.TargetLaws.HasRow, proofs.ClassTreeLaws.files_alone}
use Rattle.checked_program.specs.{FrozenPlaces.{IsFrozenStatic, IsGuardedStatic}, LockTags.TagShape, MarkedProgram.{MarkedProgram, IsMarked}, OwnedArrays.IsOwnedAt, SectionLaws.ReadsOnly, declared.section.Mode.Mode}
use Rattle.checked_program.specs.declared.{section.Mode.TheVariants.OnThis, tag.Tag.Tag}
use Rattle.machine_types.specs.{Attempts.{IsFieldAt, Stays}, Construction.{FramesKeep, IsArraySlot, Owning, ReceiverIs, Runs, SlotOf, SlotsAre, SlotsFrom, StackWith, IsFresh, ThreadKeeps, builds, makes_frozen, puts_owned}}
use Rattle.machine_types.specs.{Effects.{gets, effect, variable_of}, Frames.{Top, top_of, effect_at, top_row}, OwnedPlaces.{Stores, IsStoredAt}, PlainMemory.Object, Standing.{Standing, Whole, tags_of}}
use Rattle.machine_types.specs.{Structure.{Stands, AttemptStands, TopIs, frames_inside, is_element_op}, Threads.{Frame, Attempt}, Typed.{ElementStands, FramesHold, HasClass, HasElement, HasElementIn, HasElementOn, IsElementOn}, Words.{class_object, header_word, value_word, variable_word}}
use Rattle.machine_types.specs.{Worlds.{Begun, Unstored, World, IsFinished, IsOwnOrFinished, builder}, declared.effect.{Effect.TheVariants.{Reads, Throws}, Variable.{Variable, TheVariants.{Instance, Static}}}}
use Rattle.machine_types.specs.declared.{lock.Held.Held}
use Rattle.laws_threads.{specs.InsideEffects.{IsStayingStatic, MayRead, TakesOwned}, proofs.{FramePlaces.one_standing, Inside.{runs_inside, not_finished, top_shows, stack_this}, Landing.{rules_at, stand_top}}}
use Rattle.laws_threads.proofs.{SectionFrames.{on_object, reads, row_stands}, Standings.{one_insn, top_here, top_at_standing}}
use Rattle.laws_states.{proofs.Lists.contained_got}
use Rattle.laws_objects.proofs.ColouredFrames.{coloured_class, coloured_instance}
use Rattle.laws_refinement.{specs.ElidedSteps.next_free, proofs.{Attempting.Trying, ReadPlaces.{MayStay, GetsField, gets_field, IsOwnIn, own_in_all, of_object, slot}}}
use Rattle.jvm_types.specs.declared.program.Target.TheVariants as targets
use Rattle.jvm_types.specs.declared.typing.VType.TheVariants as types
use Rattle.machine_types.specs.Attempts as attempts
use Rattle.machine_types.specs.declared.phase.Phase.TheVariants as phases
use Rattle.laws_threads.specs.Allowed as allowed

-- ---- what the marks say of the instruction at which the top frame stands

-- in a section with the monitor m, whose own frame has the receiver o
pub record TopReads (c : MarkedProgram) (m : ℕ) (at : Top) : Type 0 where
  pub row : HasRow c.program (site_in at.method) at.insn.pc at.target at.insn.op (top_row c.program at)
  pub mode : Mode
  pub o : ℕ
  pub on : mode ≡ OnThis → o ≡ m
  pub number : ℕ
  pub only : ReadsOnly c.program (tags_of c) mode o at.frame.method number at.insn.op at.target at.frame.stack

pub top_reads : (c : MarkedProgram) (fs : List Frame) (held : List Held) (a : Attempt) (at : Top) → IsMarked c → AttemptStands c phases.Run fs held a → Stands c phases.Run fs held (Some a) → top_of c.program fs ≡ Some at → TopReads c a.monitor at
top_reads c [] held a at marked k s e = absurd (cc)
top_reads c (f ∷ below) held a at marked k s e =
    let r = runs_inside c phases.Run f below held a k (not_finished a (frames_inside a (f ∷ below))) in
    let shows = top_shows c marked Whole f below s.shown s.show in
    let l = r.stands in
    let one : TopReads c a.monitor (top_here c f below l) = record {
      row = row_stands c marked f.method l.number l.method l.insn l.target l.tags l.at;
      mode = r.mode;
      o = a.entry.receiver;
      on = on_object c marked a k.monitor f (frames_inside a below) r;
      number = l.number;
      only = reads c marked a k.uses k.are_uses k.marked f (frames_inside a below) r f.stack (stack_this c marked f r.stands shows.0 shows.1);
    } in
    subst (λ (top : Top). TopReads c a.monitor top) (top_at_standing c marked f below l at e) one

-- ---- what is known of its operands

pub record TopSlots (c : MarkedProgram) (frozen : ℕ → Bool) (own : Owning) (now : World) (next t : ℕ) (at : Top) : Type 0 where
  pub height : ℕ
  pub types : TypeFrame
  pub tags : TagShape
  pub receiver : ReceiverIs now next t height (builds frozen at.method) at.frame.receiver
  pub stack : StackWith (SlotOf frozen now next t height Runs at.method at.frame.receiver) (λ v. now v ≡ Some (builder t height Unstored))
      (puts_owned own.owned at.insn.op at.target) types.stack tags.stack at.frame.stack
  pub suit : mistypes at.method (top_row c.program at) types ≡ false

pub top_slots : (c : MarkedProgram) (frozen : ℕ → Bool) (own : Owning) (now : World) (next t : ℕ) (fs : List Frame) (at : Top) → IsMarked c → FramesKeep c frozen own now next t Runs fs → top_of c.program fs ≡ Some at → TopSlots c frozen own now next t at
top_slots c frozen own now next t [] at marked k e = absurd (cc)
top_slots c frozen own now next t (f ∷ below) at marked k e =
    let l = k.0.stands in
    let one : TopSlots c frozen own now next t (top_here c f below l) = record { height = length below; types = l.types; tags = l.tags; receiver = k.0.receiver; stack = k.0.stack; suit = (rules_at c marked f l).rules.types } in
    subst (λ (top : Top). TopSlots c frozen own now next t top) (same_some (sym (stand_top c marked f below l) ∙ e)) one

-- ---- the slot on top of the stack

record FirstSlot (Is : VType → Tag → (v : ℕ) → Type 0) (ts : List VType) (v : ℕ) : Type 0 where
  pub type : VType
  pub tag : Tag
  pub more : List VType
  pub first : ts ≡ type ∷ more
  pub is : Is type tag v

first_slot : (Is : VType → Tag → (v : ℕ) → Type 0) (ts : List VType) (tags : List Tag) (v : ℕ) (vs : List ℕ) → SlotsAre Is ts tags (v ∷ vs) → FirstSlot Is ts v
first_slot Is (type ∷ ts) (tag ∷ tags) v vs h = record { type = type; tag = tag; more = ts; first = refl; is = h.0 }
first_slot Is [] [] v vs h = absurd h
first_slot Is ts tags v vs h = absurd h

-- the object of a field is an object on the stack
top_suits : (m : MethodInfo) (r : OpRow) (field : FieldInfo) (g : TypeFrame) (type : VType) (more : List VType) → r ≡ get_row (Some field) → g.stack ≡ type ∷ more → mistypes m r g ≡ false → is_below type (types.Ref field.class) ≡ true
top_suits m r field g type more row first suit =
    let takes : some_taken (λ want t. not (suits m want t)) r.takes g.stack ≡ false = (or_parts (some_taken (λ want t. not (suits m want t)) r.takes g.stack) (some_read (λ want t. not (suits m want t)) r.reads g.locals) suit).0 in
    let one : some_taken (λ want t. not (suits m want t)) (get_row (Some field)).takes (type ∷ more) ≡ false
    = subst (λ (ts : List VType). some_taken (λ want t. not (suits m want t)) (get_row (Some field)).takes ts ≡ false) first (subst (λ (o : OpRow). some_taken (λ want t. not (suits m want t)) o.takes g.stack ≡ false) row takes) in
    is_true (is_below type (types.Ref field.class)) (or_parts (not (is_below type (types.Ref field.class))) false one).0

-- ---- the array below the index

-- the slot that it is in, and the object that the method runs on
pub record TopArray (c : MarkedProgram) (stores : Stores) (objects : List Object) (word : ℕ)
    (at : Top) : Type 0 where
  pub array : ℕ
  pub index : ℕ
  pub word_is : word ≡ value_word array index
  pub element : HasElement objects array index
  pub stands : Standing c at.frame
  pub type : VType
  pub slot : IsArraySlot c stores at.frame stands.number 1 type array
  pub on : is_static stands.method.flags ≡ false → HasClass objects stands.method.class at.frame.receiver

second : (Is : VType → Tag → (v : ℕ) → Type 0) (On : (place : ℕ) → VType → (v : ℕ) → Type 0) (ts : List VType) (gs : List Tag) (i a : ℕ) (rest : List ℕ) → SlotsAre Is ts gs (i ∷ a ∷ rest)
    → SlotsFrom On 0 ts (i ∷ a ∷ rest) → (type : VType) × On 1 type a
second Is On (first ∷ type ∷ ts) (g ∷ h ∷ gs) i a rest are on = (type, on.1.0)
second Is On (first ∷ []) (g ∷ []) i a rest are on = absurd are.1
second Is On [] [] i a rest are on = absurd are
second Is On ts gs i a rest are on = absurd (assumption)

element_reads : (op : Op) → is_element_op None op ≡ true → op ≡ Iaload
element_reads Iaload e = refl
element_reads op e = absurd (let bad : false ≡ true = e in cc)

module _ (c : MarkedProgram) (frozen : ℕ → Bool) (own : Owning) (now : World) (next t : ℕ)
    (objects : List Object) (word : ℕ) (marked : IsMarked c) where
  by_stack : (f : Frame) (below : List Frame) (stack : List ℕ) → f.stack ≡ stack → FramesKeep c frozen own now next t Runs (f ∷ below)
      → FramesHold c (HasClass objects) (f ∷ below) → TopIs c (is_element_op None) (f ∷ below) → HasElementOn objects None stack → IsElementOn word None stack
      → (l : Standing c f) → TopArray c own.stores objects word (top_here c f below l)
  by_stack f below (i ∷ a ∷ rest) is keep holds top has on l =
      let k = keep.0.stands in
      let op : k.insn.op ≡ Iaload = element_reads k.insn.op (ap (λ (insn : Insn). is_element_op None insn.op) (one_insn c marked f k top.0) ∙ top.1) in
      let are : SlotsAre (SlotOf frozen now next t (length below) Runs k.method f.receiver)
      k.types.stack k.tags.stack f.stack = subst (λ (q : Op). StackWith (SlotOf frozen now next t (length below) Runs k.method f.receiver) (λ v. now v ≡ Some (builder t (length below) Unstored))
      (puts_owned own.owned q k.target) k.types.stack k.tags.stack f.stack) op keep.0.stack in
      let slot = second (SlotOf frozen now next t (length below) Runs k.method f.receiver) (IsArraySlot c own.stores f k.number) k.types.stack k.tags.stack i a rest
      (subst (λ (vs : List ℕ). SlotsAre (SlotOf frozen now next t (length below) Runs k.method f.receiver) k.types.stack k.tags.stack vs) is are)
      (subst (λ (vs : List ℕ). SlotsFrom (IsArraySlot c own.stores f k.number) 0 k.types.stack vs)
      is keep.0.arrays) in
      record {
        array = a;
        index = i;
        word_is = on;
        element = has;
        stands = k;
        type = slot.0;
        slot = slot.1;
        on = subst (λ (m : MethodInfo). is_static m.flags ≡ false → HasClass objects m.class f.receiver) (one_standing c marked f holds.0.stands k).method holds.0.receiver;
      }
  by_stack f below stack is keep holds top has on l = absurd on

  pub top_array : (fs : List Frame) (at : Top) → FramesKeep c frozen own now next t Runs fs → FramesHold c (HasClass objects) fs → TopIs c (is_element_op None) fs
      → HasElementIn objects None fs → ElementStands word None fs → top_of c.program fs ≡ Some at → TopArray c own.stores objects word at
  top_array [] at keep holds top has on e = absurd top
  top_array (f ∷ below) at keep holds top has on e = subst (λ (q : Top). TopArray c own.stores objects word q) (same_some (sym (stand_top c marked f below keep.0.stands) ∙ e))
      (by_stack f below f.stack refl keep holds top has on keep.0.stands)

-- ---- the object that is read

pub record ReadObject (p : Program) (field : FieldInfo) (stack : List ℕ) (v : Variable) : Type 0 where
  pub value : ℕ
  pub rest : List ℕ
  pub top : stack ≡ value ∷ rest
  pub some : 0 < value
  pub variable : v ≡ variable_of field value

read_by_gets : (p : Program) (field : FieldInfo) (stack : List ℕ) (v : Variable) → gets (Some field) stack ≡ Reads v → ReadObject p field stack v
read_by_gets p field [] v e = absurd (cc)
read_by_gets p field (value ∷ rest) v e = (elim (value == 0) as (λ (b : Bool). (value == 0) ≡ b → (if b then Throws NullPointerException else Reads (variable_of field value)) ≡ Reads v → ReadObject p field (value ∷ rest) v)
    [ true ↦ λ g f. absurd (cc) | false ↦ λ g f. record { value = value; rest = rest; top = refl; some = grind (arith, nat_tests, g); variable = cc } ]) refl e

read_object : (p : Program) (at : Top) (number i : ℕ) (field : FieldInfo) (v : Variable) → at.target ≡ targets.Field number → at.insn.op ≡ Getfield i → slice_get p.fields number ≡ Some field → effect_at p at ≡ Reads v → ReadObject p field at.frame.stack v
read_object p at number i field v target op is e =
    let named : effect p at.insn.next (targets.Field number) (Getfield i) at.frame.locals at.frame.stack ≡ Reads v
    = subst (λ (q : Op). effect p at.insn.next (targets.Field number) q at.frame.locals at.frame.stack ≡ Reads v) op (subst (λ (q : Target). effect p at.insn.next q at.insn.op at.frame.locals at.frame.stack ≡ Reads v) target e) in
    read_by_gets p field at.frame.stack v (subst (λ (o : Option FieldInfo). gets o at.frame.stack ≡ Reads v) is named)

instance_of : (field : FieldInfo) (reference : ℕ) → is_static field.flags ≡ false → variable_of field reference ≡ Instance reference field.index
instance_of field reference e = ap (λ (b : Bool). if b then Static field.index else Instance reference field.index) e

-- ---- of a thread in an attempt, whose instruction begins

module _ (trying : Trying) (frames_keep : FramesKeep trying.c trying.frozen trying.owning (trying.con.each trying.t trying.x trying.here).now (next_free trying.s) trying.t Runs trying.x.frames)
    (at : Top) (at_top : top_of trying.c.program trying.x.frames ≡ Some at) where
  open trying use {c, marked, frozen, owning as own, w, was, objects, s, con as built, facts, t, x, here, a}

  abbrev next : ℕ
  next = slice_index s.words NEXT_FREE_WORD

  abbrev keeps : ThreadKeeps c frozen own w next t (was t) x
  keeps = built.each t x here

  slots : TopSlots c frozen own keeps.now next t at
  slots = top_slots c frozen own keeps.now next t x.frames at marked frames_keep at_top

  receiver_known : (own : Bool) → ReceiverIs keeps.now next t slots.height own at.frame.receiver → (at.frame.receiver < next) × IsOwnIn keeps.now t at.frame.receiver
  receiver_known true e = let inside = (keeps.now_world built.world).inside at.frame.receiver (builder t slots.height Begun) e in (inside.1, inr (builder t slots.height Begun, e, refl))
  receiver_known false e = (e.0, inl e.1)

  known : (v : ℕ) → (v ≡ at.frame.receiver) ⊎ IsFinished keeps.now next v → IsOwnOrFinished w next t v
  known v (inl e) = subst (IsOwnOrFinished w next t) (sym e) (let k = receiver_known (builds frozen at.method) slots.receiver in own_in_all keeps.now w t x.attempt next at.frame.receiver keeps.now_is k.0 k.1)
  known v (inr k) = own_in_all keeps.now w t x.attempt next v keeps.now_is k.0 (inl k.1)

  -- the object on top of the stack, where a field of it is read
  top_known : (field : FieldInfo) (v : ℕ) (rest : List ℕ) → puts_owned own.owned at.insn.op at.target ≡ false → top_row c.program at ≡ get_row (Some field) → at.frame.stack ≡ v ∷ rest → 0 < v → IsOwnOrFinished w next t v
  top_known field v rest puts row top some =
      let first = first_slot (SlotOf frozen keeps.now next t slots.height Runs at.method at.frame.receiver) slots.types.stack slots.tags.stack v rest
      (subst (λ (vs : List ℕ). SlotsAre (SlotOf frozen keeps.now next t slots.height Runs at.method at.frame.receiver) slots.types.stack slots.tags.stack vs) top
      (subst (λ (b : Bool). StackWith (SlotOf frozen keeps.now next t slots.height Runs at.method at.frame.receiver)
      (λ v. keeps.now v ≡ Some (builder t slots.height Unstored)) b slots.types.stack slots.tags.stack at.frame.stack) puts slots.stack)) in
      let below = top_suits at.method (top_row c.program at) field slots.types first.type first.more row first.first slots.suit in
      known v (slot (IsFinished keeps.now next) (IsFresh keeps.now t slots.height Runs) (makes_frozen frozen at.method) at.frame.receiver v some (builds frozen at.method) first.type first.tag (of_object first.type field.class below) first.is)

  -- a static field
  static_stays : (word : ℕ) → IsStayingStatic c a.monitor word → Stays c own.stores objects w next t a.monitor word
  static_stays word k = by_stay k.stays
    where
      at_word : (f : FieldInfo) → slice_get c.program.fields k.number ≡ Some f → word ≡ f.index
      at_word f is = sym k.place ∙ ap (λ (g : FieldInfo). g.index) (same_some (sym k.is ∙ is))

      by_stay : IsFrozenStatic c.program k.number ⊎ (IsGuardedStatic c.program (tags_of c) k.number × (class_object c.program (file_of_class k.field.class) ≡ a.monitor)) → Stays c own.stores objects w next t a.monitor word
      by_stay (inl h) = attempts.frozen_static k.number h (at_word h.field h.is)
      by_stay (inr (h, on)) = attempts.guarded_static k.number h (ap (λ (g : FieldInfo). class_object c.program (file_of_class g.class)) (same_some (sym h.is ∙ k.is)) ∙ on) (at_word h.field h.is)

  -- the variable that is read
  module _ (v : Variable) (f : FieldInfo) (marks : TopReads c a.monitor at) (e : effect_at c.program at ≡ Reads v) (may : MayRead c a.monitor v) (named : allowed.IsNamedField c.program (HasClass objects) at.target v f) where
    -- a field of an object
    module _ (instance : is_static f.flags ≡ false) where
      abbrev names : GetsField c.program (tags_of c) marks.mode marks.o named.number at.insn.op (top_row c.program at) at.frame.stack
      names = gets_field c.program (tags_of c) (site_in at.method) at.insn.pc marks.mode marks.o at.frame.method marks.number named.number f at.insn.op (top_row c.program at) at.frame.stack named.there instance
          (subst (λ (target : Target). HasRow c.program (site_in at.method) at.insn.pc target at.insn.op (top_row c.program at)) named.named marks.row)
          (subst (λ (target : Target). ReadsOnly c.program (tags_of c) marks.mode marks.o at.frame.method marks.number at.insn.op target at.frame.stack) named.named marks.only)

      abbrev read : ReadObject c.program names.field at.frame.stack v
      read = read_object c.program at named.number names.constant names.field v named.named names.gets names.is e

      is_variable : v ≡ Instance read.value names.field.index
      is_variable = read.variable ∙ instance_of names.field read.value names.instance

      holder : allowed.IsOf (HasClass objects) f.class named.reference
      holder = named.holder instance

      abbrev object : Object
      object = holder.2.0

      is_object : object.reference ≡ read.value
      is_object =
          let same : Instance named.reference f.index ≡ Instance read.value names.field.index = sym (instance_of f named.reference instance) ∙ sym named.variable ∙ is_variable in
          let named_one : object.reference ≡ named.reference = holder.2.2 in
          cc

      of_class : object.class ≡ names.field.class
      of_class = holder.2.3 ∙ files_alone holder.1 f.class (marked.checked.program.fields named.number f named.there).class.0 holder.3 ∙ ap (λ (g : FieldInfo). g.class)
          (same_some (sym named.there ∙ names.is))

      field_at : IsFieldAt c objects w next t named.number (variable_word v) object
      field_at = record {
        there = holder.2.1;
        field = names.field;
        is = names.is;
        of_class = of_class;
        known = subst (IsOwnOrFinished w next t) (sym is_object) (top_known names.field read.value read.rest (ap (λ (op : Op). puts_owned own.owned op at.target) names.gets) names.row read.top read.some);
        place = ap (λ (u : Variable). variable_word u) is_variable ∙ ap (λ (r : ℕ). value_word r names.field.index) (sym is_object);
      }

      by_stay : MayStay c.program (tags_of c) marks.mode named.number (slice_index at.frame.stack 0) marks.o → Stays c own.stores objects w next t a.monitor (variable_word v)
      by_stay (inl k) = attempts.frozen named.number object k field_at
      by_stay (inr k) = attempts.guarded named.number object k.0 (is_object ∙ sym (ap (λ (vs : List ℕ). slice_index vs 0) read.top) ∙ k.2 ∙ marks.on k.1) field_at

    pub variable_stays : Stays c own.stores objects w next t a.monitor (variable_word v)
    variable_stays = elim (cases_Bool (is_static f.flags)) [
      | inl sort ↦
          let static : v ≡ Static f.index = named.variable ∙ ap (λ (b : Bool). if b then Static f.index else Instance named.reference f.index) sort in
          subst (λ (u : Variable). Stays c own.stores objects w next t a.monitor (variable_word u)) (sym static) (static_stays f.index (subst (MayRead c a.monitor) static may))
      | inr sort ↦ by_stay sort (names sort).stays
    ]

  -- the header of an object
  pub header_stays : (class v : ℕ) → allowed.IsOf (HasClass objects) class v → Stays c own.stores objects w next t a.monitor (header_word v)
  header_stays class v k = attempts.header k.2.0 k.2.1 (ap header_word (sym k.2.2))

  -- an element of an array that the monitor's object owns
  pub element_stays : (word : ℕ) → TopArray c own.stores objects word at → TakesOwned c a.monitor at → Stays c own.stores objects w next t a.monitor word
  element_stays word k o = attempts.element coloured.fi object.0 coloured.owned object.1 (object.2 ∙ o.receiver) (record {
    field_word = field_word;
    is_field = record { field = coloured.owned.field; is = coloured.owned.is; place = refl };
    of_class = object.3 ∙ coloured_class c marked at.frame k.stands 1 coloured;
    array = k.element.object;
    there = k.element.there;
    stored = ap own.stores k.element.is ∙ stored (k.slot.owned coloured field_word (record {
      field = coloured.owned.field;
      is = coloured.owned.is;
      place = ap (λ (r : ℕ). value_word r coloured.owned.field.index) object.2;
    }));
    index = k.index;
    inside = k.element.below;
    place = k.word_is ∙ ap (λ (r : ℕ). value_word r k.index) (sym k.element.is);
  })
    where
      coloured : IsOwnedAt c.program (tags_of c) at.frame.method k.stands.number 1
      coloured = subst (λ (number : ℕ). IsOwnedAt c.program (tags_of c) at.frame.method number 1) (one_standing c marked at.frame o.stands k.stands).number o.owned

      object : HasClass objects k.stands.method.class at.frame.receiver
      object = k.on (coloured_instance c marked at.frame k.stands 1 coloured)

      field_word : ℕ
      field_word = value_word object.0.reference coloured.owned.field.index

      some : 0 < k.array
      some = let begins = facts.heap.apart.begin k.element.there.0 k.element.object (contained_got objects k.element.object k.element.there) in omega (arith, begins, k.element.is)

      stored : IsStoredAt own.stores field_word k.array → own.stores k.array ≡ Some field_word
      stored (inl null) = absurd (omega (arith, some, null))
      stored (inr is) = is
