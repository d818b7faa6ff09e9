-- What an event changes of guarded fields, of elements of owned arrays, of final fields of frozen classes, and of static fields
-- that are guarded or final.
use Rattle.std.proofs.Common.{◌≡◌, ◌⊎◌, inl, inr, ℕ, true, false, List, [], ◌∷◌, Option, Some, None, sym, ap, ◌∙◌, subst, Contains, slice_get, slice_index}
use Rattle.lists.proofs.ListLaws.{same_some}
use Rattle.jvm_types.specs.{ClassNames.file_of_class, CodeTable.is_init, Members.is_static, declared.program.FieldInfo.FieldInfo}
use Rattle.checked_program.specs.{FrozenPlaces.{IsFrozenField, IsFrozenStatic, IsGuardedField, IsGuardedStatic}, MarkedProgram.{MarkedProgram, IsMarked}}
use Rattle.checked_program.specs.SectionLaws.{HasThis, ElementWriteLaw, FinalLaw, FinalStaticLaw, OwnedIsDecided, StaticWriteLaw, WriteLaw}
use Rattle.machine_types.specs.{Accesses.words_after, Core.{event, event_of}, Events.wanted, Guards.{MakesObject, IsOfClassInit, MakesClass, HoldsMonitor, ChangesWord, Changes, KeepsGuards}}
use Rattle.machine_types.specs.{HeldMonitors.held_at, PlainMemory.Object, Standing.tags_of, Structure.{HasFrame, IsAs, IsStructured, Stands, TopIs, is_element_op}, Threads.{Attempt, Frame, Thread}}
use Rattle.machine_types.specs.{Words.{class_object, value_word}, declared.{lock.Held.Held, phase.Phase.{Phase, TheVariants.{Element, Run}}}}
use Rattle.laws_threads.proofs.{Inside.stack_this, Standings.are_tagged}
use Rattle.laws_states.{specs.PartsLaws.ClassInitsRunAlone, proofs.Movers.KnownSites}
use Rattle.laws_objects.{specs.GuardLaws.EventsKeepGuards, proofs.{ElementWriters.{ElementWriter, StoresElement, element_writer}, FieldWriters.{Writer, field_writer}}}
use Rattle.laws_objects.proofs.{PlaceWriters.{BuiltEvent, place_event, TopWrites, IsWriter}, ShownMonitors.{holds_receiver, holds_class}, StaticWriters.{StaticWriter, static_writer}}

abbrev IsHeld : (m : ℕ) → List Held → Type 0
IsHeld m held = (h : Held) × (held_at held m ≡ Some h)

-- ---- a frame that writes a field

module _ (c : MarkedProgram) (marked : IsMarked c) (fi reference : ℕ) (f : Frame) (fs : List Frame) (held : List Held) (stands : Stands c Run (f ∷ fs) held None) (k : Writer c fi reference f) where
  on_this : HasThis f.receiver k.stands.tags.stack f.stack
  on_this = stack_this c marked f k.stands stands.show.0 stands.show.3

  makes : slice_index f.stack 1 ≡ f.receiver → is_init k.stands.method ≡ true → MakesObject c reference (f ∷ fs)
  makes this init = (k.stands.method, k.stands.at.in_program, init, sym this ∙ k.on)

  pub guarded_top : WriteLaw → IsGuardedField c.program (tags_of c) fi → IsHeld reference held ⊎ MakesObject c reference (f ∷ fs)
  guarded_top law g =
      let written = law c.program (tags_of c) fi f.method k.stands.number k.index f.receiver k.stands.method k.stands.insn k.stands.target k.stands.tags f.stack g k.stands.at k.is k.names on_this in
      elim written.1 [
        | inl init ↦ inr (makes written.0 init)
        | inr shows ↦ inl (subst (λ (m : ℕ). IsHeld m held) (sym written.0 ∙ k.on) (holds_receiver c marked f fs held k.stands stands shows))
      ]

  pub frozen_top : FinalLaw → IsFrozenField c.program (tags_of c) fi → MakesObject c reference (f ∷ fs)
  frozen_top law g =
      let written = law c.program (tags_of c) fi f.method k.stands.number k.index f.receiver k.stands.method k.stands.insn k.stands.target k.stands.tags f.stack marked.checked.program g k.stands.at k.is k.names on_this in
      makes written.1 written.0

-- ---- a frame that stores an element of an array that the object owns

module _ (c : MarkedProgram) (marked : IsMarked c) (o : Object) (f : Frame) (fs : List Frame)
    (held : List Held) (stands : Stands c Run (f ∷ fs) held None)
    (k : ElementWriter c o f) where
  pub element_top : ElementWriteLaw → IsHeld o.reference held ⊎ MakesObject c o.reference (f ∷ fs)
  element_top law = elim (law c.program (tags_of c) f.method k.stands.number k.stands.method
      k.stands.insn k.stands.target k.stands.tags marked.checked.program
      (are_tagged c marked) k.stands.at k.is k.owned) [
        | inl init ↦ inr (k.stands.method, k.stands.at.in_program, init, k.receiver)
        | inr shows ↦ inl (subst (λ (m : ℕ). IsHeld m held) k.receiver
            (holds_receiver c marked f fs held k.stands stands shows))
      ]

-- ---- a frame that writes a static field

abbrev class_monitor : MarkedProgram → FieldInfo → ℕ
class_monitor c field = class_object c.program (file_of_class field.class)

module _ (c : MarkedProgram) (marked : IsMarked c) (fi : ℕ) (f : Frame) (fs : List Frame) (held : List Held) (stands : Stands c Run (f ∷ fs) held None) (k : StaticWriter c fi f) where
  pub guarded_static_top : StaticWriteLaw → (g : IsGuardedStatic c.program (tags_of c) fi) → IsHeld (class_monitor c g.field) held ⊎ IsOfClassInit c g.field.class (f ∷ fs)
  guarded_static_top law g =
      let written = law c.program (tags_of c) fi f.method k.stands.number k.index k.stands.method k.stands.insn k.stands.target k.stands.tags g k.stands.at k.is k.names in
      elim written.1 [
        | inl init ↦ inr (k.stands.method, k.stands.at.in_program, init, written.0)
        | inr locks ↦ inl (subst (λ (class : ℕ). IsHeld (class_object c.program (file_of_class class)) held) written.0 (holds_class c marked f fs held k.stands stands locks))
      ]

  pub final_static_top : FinalStaticLaw → (g : IsFrozenStatic c.program fi) → IsOfClassInit c g.field.class (f ∷ fs)
  final_static_top law g =
      let written = law c.program (tags_of c) fi f.method k.stands.number k.index k.stands.method k.stands.insn k.stands.target k.stands.tags g marked.checked.program k.stands.at k.is k.names in
      (k.stands.method, k.stands.at.in_program, written.1, written.0)

-- ---- the thread whose top frame it is

by_top : (c : MarkedProgram) (held : List Held) (IsSuch : Frame → Type 0) (P : List Frame → Type 0) → ((f : Frame) (fs : List Frame) → Stands c Run (f ∷ fs) held None → IsSuch f → P (f ∷ fs))
    → (fs : List Frame) → Stands c Run fs held None → TopWrites IsSuch fs → P fs
by_top c held IsSuch P each [] stands k = absurd k
by_top c held IsSuch P each (f ∷ fs) stands k = each f fs stands k

module _ (c : MarkedProgram) (was : Phase) (x : Thread) (structured : IsStructured c was x) (outside : x.attempt ≡ None) (IsSuch : Frame → Type 0) (k : IsWriter IsSuch x) where
  pub by_writer : (P : List Frame → Type 0) → ((f : Frame) (fs : List Frame) → Stands c Run (f ∷ fs) x.held None → IsSuch f → P (f ∷ fs)) → P x.frames
  by_writer P each =
      let is_run : was ≡ Run = subst (λ (phase : Phase). IsAs phase was) k.runs structured.is_as in
      by_top c x.held IsSuch P each x.frames (subst (λ (a : Option Attempt). Stands c Run x.frames x.held a) outside
      (subst (λ (phase : Phase). Stands c phase x.frames x.held x.attempt) is_run structured.stands)) k.top

-- ---- the thread that stores an element

module _ (c : MarkedProgram) (was : Phase) (x : Thread) (structured : IsStructured c was x)
    (outside : x.attempt ≡ None) (o : Object) (word : ℕ) (k : StoresElement c o word x) where
  -- it stands as before its instruction
  stands_before : Stands c Run x.frames x.held None
  stands_before =
      let counted : was ≡ Element word (Some k.value) = subst (λ (phase : Phase). IsAs phase was) k.stores structured.is_as in
      let stands : Stands c (Element word (Some k.value)) x.frames x.held None = subst (λ (a : Option Attempt). Stands c (Element word (Some k.value)) x.frames x.held a) outside
      (subst (λ (phase : Phase). Stands c phase x.frames x.held x.attempt) counted structured.stands) in
      record { shown = stands.shown; show = stands.show; depths = stands.depths; once = stands.once; phase_shows = has_frame x.frames stands.phase_shows }
    where
      has_frame : (fs : List Frame) → TopIs c (is_element_op (Some k.value)) fs → HasFrame fs
      has_frame [] top = top
      has_frame (f ∷ fs) top = tt

  pub element_stored : IsMarked c → ElementWriteLaw
      → HoldsMonitor o.reference x ⊎ MakesObject c o.reference x.frames
  element_stored marked law = by_top c x.held (ElementWriter c o)
      (λ fs. IsHeld o.reference x.held ⊎ MakesObject c o.reference fs)
      (λ f fs stands top. element_top c marked o f fs x.held stands top law)
      x.frames stands_before k.top

-- ---- the law

pub record GuardLaws : Type 0 where
  pub write : WriteLaw
  pub element_write : ElementWriteLaw
  pub decided : OwnedIsDecided
  pub static_write : StaticWriteLaw
  pub final : FinalLaw
  pub static_final : FinalStaticLaw
  pub sites : KnownSites
  pub alone : ClassInitsRunAlone

-- its instruction begins outside attempts
module _ (laws : GuardLaws) (turn : BuiltEvent) (outside : turn.x.attempt ≡ None) where
  open laws use {write, element_write, decided, static_write, final, static_final, alone}
  open turn use {c, cfg, marked, owning as own, was, objects, s, facts, t, x, there}

  abbrev structured : IsStructured c (was t) x
  structured = facts.structure t x there

  words : (event c s t).words ≡ words_after s.words (wanted c x x.phase)
  words = ap (λ (o : Option Thread). (event_of c s t o).words) there

  -- who changes a word of a place writes it
  changer : (IsSuch : Frame → Type 0) (word : ℕ) → ChangesWord word s (event c s t) → (slice_index (words_after s.words (wanted c x x.phase)) word ≡ slice_index s.words word) ⊎ IsWriter IsSuch x → IsWriter IsSuch x
  changer IsSuch word changes (inl e) = absurd (changes (ap (λ (ws : List ℕ). slice_index ws word) words ∙ e))
  changer IsSuch word changes (inr writer) = writer

  writer : (fi : ℕ) (o : Object) → Contains objects o → Changes fi c o s (event c s t) → (field : FieldInfo) → slice_get c.program.fields fi ≡ Some field → is_static field.flags ≡ false → IsWriter (Writer c fi o.reference) x
  writer fi o here k field is instance =
      let instance_too : is_static k.field.flags ≡ false = subst (λ (f : FieldInfo). is_static f.flags ≡ false) (same_some (sym is ∙ k.is)) instance in
      changer (Writer c fi o.reference) (value_word o.reference k.field.index) k.changes (field_writer (place_event turn) fi k.field k.is instance_too o here k.of_class)

  on_class : (fi : ℕ) (field : FieldInfo) → slice_get c.program.fields fi ≡ Some field → is_static field.flags ≡ true → ChangesWord field.index s (event c s t) → IsWriter (StaticWriter c fi) x
  on_class fi field is static changes = changer (StaticWriter c fi) field.index changes (static_writer (place_event turn) fi field is static)

  makes_class : (fi class : ℕ) → IsWriter (StaticWriter c fi) x → IsOfClassInit c class x.frames → MakesClass c class s x
  makes_class fi class k init = alone c cfg s t class x facts.threads facts.class_inits there k.runs init

  guards_kept : KeepsGuards c own.stores objects s (event c s t) x
  guards_kept = record {
    guarded = λ fi o here g k.
        by_writer c (was t) x structured outside (Writer c fi o.reference) (writer fi o here k g.field g.is g.instance) (λ fs. IsHeld o.reference x.held ⊎ MakesObject c o.reference fs)
        (λ f fs stands k. guarded_top c marked fi o.reference f fs x.held stands k write g);
    elements = λ fi word o here g e changes. elim (element_writer decided turn fi word o here g e) [
      | inl still ↦ absurd (changes (ap (λ (ws : List ℕ). slice_index ws word) words ∙ still))
      | inr k ↦ element_stored c (was t) x structured outside o word k marked element_write
    ];
    statics = λ fi g changes. let k = on_class fi g.field g.is g.static changes in
        elim (by_writer c (was t) x structured outside (StaticWriter c fi) k (λ fs. IsHeld (class_monitor c g.field) x.held ⊎ IsOfClassInit c g.field.class fs)
        (λ f fs stands k. guarded_static_top c marked fi f fs x.held stands k static_write g)) [ inl holds ↦ inl holds | inr init ↦ inr (makes_class fi g.field.class k init) ];
    frozen = λ fi o here g k.
        by_writer c (was t) x structured outside (Writer c fi o.reference) (writer fi o here k g.field g.is g.instance) (MakesObject c o.reference) (λ f fs stands k. frozen_top c marked fi o.reference f fs x.held stands k final g);
    frozen_statics = λ fi g changes. let k = on_class fi g.field g.is g.static changes in
        makes_class fi g.field.class k (by_writer c (was t) x structured outside (StaticWriter c fi) k (IsOfClassInit c g.field.class) (λ f fs stands k. final_static_top c marked fi f fs x.held stands k static_final g));
  }

pub events_keep_guards : GuardLaws → EventsKeepGuards
events_keep_guards laws c cfg objects was frozen own w s t x marked width facts built there outside = guards_kept laws (record {
  sites = laws.sites;
  state = record { constructed = record { c = c; frozen = frozen; owning = own; w = w; was = was; objects = objects; s = s; con = built }; cfg = cfg; marked = marked; facts = facts };
  t = t;
  x = x;
  there = there;
}) outside
