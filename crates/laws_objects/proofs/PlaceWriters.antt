-- An event that changes the word of a place is an instruction that writes this place.
use Rattle.std.proofs.Common.{◌≡◌, ◌⊎◌, inl, inr, ℕ, ◌<◌, Bool, true, if◌then◌else◌, List, [], ◌∷◌, false, length, Option, Some, None, refl, sym, ap, ◌∙◌, subst, arith, Contains, slice_get, slice_index}
use Rattle.lists.proofs.ListLaws.{same_some}
use Rattle.jvm_types.specs.{Members.is_static, ProgramInvariant.{IsTargetOf, instances_among, site_in}, declared.program.{FieldInfo.FieldInfo, Target.{Target, TheVariants.Field}}}
use Rattle.laws_programs.proofs.{ClassTreeLaws.files_alone, CodeOrder.have_targets, FieldOrder.instances_inside}
use Rattle.checked_program.specs.{MarkedProgram.{MarkedProgram, IsMarked}, TaggedCode.row_of}
use Rattle.machine_types.specs.{Accesses.{accessed, left_by, words_after}, Effects.effect, Events.wanted}
use Rattle.machine_types.specs.{FoundWords.{Content, IntPlace, ReferencePlace, effect_content, run_content, leave_content, content_at}, Frames.{Top, top_of, effect_at}}
use Rattle.machine_types.specs.{Instructions.{effect_wants, run_wants}, Monitors.{Claim, Has, claim}, PlainMemory.Object, Standing.Standing, Structure.{IsAs, IsStructured, Stands, TopIs, is_element_op}}
use Rattle.machine_types.specs.{Threads.{Frame, Thread}, Typed.{FramesHold, HasClass, HasElementIn, ElementStands, PhaseHolds}, Words.{value_word, variable_word}, declared.access.Access.Access}
use Rattle.machine_types.specs.declared.{access.Access.TheVariants.Store, effect.{Effect.{Effect, TheVariants.{Reads, Writes}}, Variable.{Variable, TheVariants.{Instance, Static}}}, lock.Kept.Kept}
use Rattle.machine_types.specs.declared.{lock.Kept.TheVariants.{Fat, Flat}, phase.Phase.{Phase, TheVariants.{Element, Leave, Run}}}
use Rattle.laws_threads.{specs.Allowed.{IsOf, IsNamedField, Allowed}, proofs.{Landing.stand_top, Standings.top_here, TopEffects.allowed_here}}
use Rattle.laws_states.{specs.Sites.{Site, ValueOf, StaticAt, site_word, IsThere, Suits}, proofs.Accesses.out_there}
use Rattle.laws_states.proofs.{EventWords.{word_at}, LeftStands.loaded, Lists.contained_got, Movers.{HeapState, HeapMover, KnownSites, heap_mover}}
use Rattle.laws_objects.proofs.Buildings.{BuiltState}

-- ---- places: fields, elements and static fields

abbrev pub IsPlace : Site → Type 0
IsPlace (ValueOf reference index) = Unit {0}
IsPlace (StaticAt word) = Unit {0}
IsPlace site = ⊥

abbrev pub IsOfPlace : Content → Type 0
IsOfPlace IntPlace = Unit {0}
IsOfPlace ReferencePlace = Unit {0}
IsOfPlace content = ⊥

pub place_suits : (content : Content) (place : Site) → IsPlace place → Suits content place → IsOfPlace content
place_suits IntPlace place is suits = tt
place_suits ReferencePlace place is suits = tt
place_suits content (ValueOf reference index) is suits = absurd suits
place_suits content place is suits = absurd (assumption)

-- a monitor is left at none
pub leave_of_none : (claimed : Claim) → IsOfPlace (leave_content claimed) → ⊥
leave_of_none (Has h) is = (elim h.kept as (λ (k : Kept). IsOfPlace (leave_content (Has (record h { kept = k }))) → ⊥) [ Flat count ↦ λ is. is | Fat r ↦ λ is. is ]) is
leave_of_none claimed is = is

-- ---- the field that an instruction names

pub names_field : (c : MarkedProgram) (f : Frame) (k : Standing c f) (number : ℕ) → IsMarked c → k.target ≡ Field number → IsTargetOf c.program (site_in k.method) k.insn.op (Field number)
names_field c f k number marked named =
    let found = have_targets c.program f.method k.number k.method k.insn marked.checked.program k.at.in_program k.at.in_code in
    let target : found.0 ≡ k.target = same_some (sym found.1 ∙ k.at.names) in
    subst (IsTargetOf c.program (site_in k.method) k.insn.op) (target ∙ named) found.2

-- ---- the word of a field that an instruction names

module _ (c : MarkedProgram) (objects : List Object) (target : Target) (v : Variable) (f : FieldInfo) (named : IsNamedField c.program (HasClass objects) target v f) where
  pub instance_word : is_static f.flags ≡ false → variable_word v ≡ value_word named.reference f.index
  instance_word static = ap variable_word named.variable ∙ ap (λ (b : Bool). variable_word (if b then Static f.index else Instance named.reference f.index)) static

  pub static_word : is_static f.flags ≡ true → variable_word v ≡ f.index
  static_word static = ap variable_word named.variable ∙ ap (λ (b : Bool). variable_word (if b then Static f.index else Instance named.reference f.index)) static

-- ---- the place of an instance field

module _ (state : HeapState) where
  open state use {c, marked, objects, s, facts as heap}

  pub has_field : (e : Object) (number : ℕ) (f : FieldInfo) → Contains objects e → slice_get c.program.fields number ≡ Some f → is_static f.flags ≡ false → e.class ≡ f.class → f.index < length e.values
  has_field e number f k g flag same =
      let from = (marked.checked.program.fields number f g).class.0 in
      let sized = heap.apart.sized k.0 e (contained_got objects e k) (λ array. absurd (omega (arith, array, same, from))) in
      subst (λ n. f.index < n) (sym sized) (subst (λ class. f.index < instances_among class c.program.fields) (sym same) (instances_inside c.program number f marked.checked.program g flag))

  -- the object whose field an instruction names
  pub record Holder (f : FieldInfo) (reference : ℕ) : Type 0 where
    pub object : Object
    pub known : Contains objects object
    pub is : object.reference ≡ reference
    pub of_class : object.class ≡ f.class
    pub there : IsThere c.program objects s (ValueOf reference f.index)

  pub holder_of : (number : ℕ) (f : FieldInfo) (reference : ℕ) → slice_get c.program.fields number ≡ Some f → is_static f.flags ≡ false → IsOf (HasClass objects) f.class reference → Holder f reference
  holder_of number f reference there flag holder =
      let from = (marked.checked.program.fields number f there).class.0 in
      let object = holder.2.0 in
      let known : Contains objects object = holder.2.1 in
      let class : object.class ≡ f.class = holder.2.3 ∙ files_alone holder.1 f.class from holder.3 in
      record { object = object; known = known; is = holder.2.2; of_class = class; there = (object, known, holder.2.2, has_field object number f known there flag class) }

-- ---- who writes a place: a thread that begins the instruction of such a frame

abbrev pub TopWrites : (Frame → Type 0) → List Frame → Type 0
TopWrites IsSuch [] = ⊥
TopWrites IsSuch (f ∷ fs) = IsSuch f

pub record IsWriter (IsSuch : Frame → Type 0) (x : Thread) : Type 0 where
  pub runs : x.phase ≡ Run
  pub top : TopWrites IsSuch x.frames

-- ---- an event, and what is known of sites

pub record PlaceEvent : Type 0 where
  pub sites : KnownSites
  pub mover : HeapMover
  pub was : Phase
  pub structured : IsStructured mover.state.c was mover.x

-- the same in a state that construction holds of
pub record BuiltEvent : Type 0 where
  pub sites : KnownSites
  pub state : BuiltState
  pub open state use *
  pub t : ℕ
  pub x : Thread
  pub there : slice_get s.threads t ≡ Some x

abbrev pub place_event : BuiltEvent → PlaceEvent
place_event e = record {
  sites = e.sites;
  mover = heap_mover e.c e.marked e.objects e.s e.facts.heap e.t e.x e.there (e.facts.threads.lawful e.t e.x e.there);
  was = e.was e.t;
  structured = e.facts.structure e.t e.x e.there;
}

module _ (event : PlaceEvent) where
  open event use {sites, mover, was, structured}
  open event.mover use {t, x, there}
  open event.mover.state use {c, marked, objects, s, facts as heap}

  -- a frame that writes the word of the place is such a one
  abbrev pub Write : Site → (Frame → Type 0) → Type 0
  Write place IsSuch =
      (f : Frame) (k : Standing c f) (v : Variable) (n : ℕ) (e : effect c.program k.insn.next k.target k.insn.op f.locals f.stack ≡ Writes v n) (g : FieldInfo) → IsNamedField c.program (HasClass objects) k.target v g
      → variable_word v ≡ site_word place → IsSuch f

  -- or one that stores an element, which gives Stored
  module _ (place : Site) (is_place : IsPlace place) (is_there : IsThere c.program objects s place) (IsSuch : Frame → Type 0) (Stored : Type 0) (writes : Write place IsSuch)
      (stores : (w v : ℕ) → x.phase ≡ Element w (Some v) → FramesHold c (HasClass objects) x.frames → TopIs c (is_element_op (Some v)) x.frames → HasElementIn objects (Some v) x.frames → ElementStands w (Some v) x.frames → w ≡ site_word place → Stored) where
    -- ---- an instruction

    module _ (access : Access) (got : ℕ) (word : accessed access ≡ site_word place) where
      run_writes : (fs : List Frame) → FramesHold c (HasClass objects) fs → run_wants c.program x (top_of c.program fs) ≡ Some access → IsOfPlace (run_content c.program (top_of c.program fs))
          → (left_by access got ≡ got) ⊎ TopWrites IsSuch fs
      run_writes [] h w is = absurd is
      run_writes (f ∷ fs) h w is =
          let k = h.0.stands in
          let top : top_of c.program (f ∷ fs) ≡ Some (top_here c f fs k) = stand_top c marked f fs k in
          let out = out_there c marked objects s heap in
          by_effect k (effect_at c.program (top_here c f fs k)) refl (allowed_here c marked (HasClass objects) out f h.0) (ap (run_wants c.program x) (sym top) ∙ w) (subst (λ (at : Option Top). IsOfPlace (run_content c.program at)) top is)
        where
          by_effect : (k : Standing c f) (e : Effect) → effect_at c.program (top_here c f fs k) ≡ e → Allowed c.program k.method (HasClass objects) k.insn k.target (row_of c.program k.method k.insn k.target) f.stack e
              → effect_wants x f.pc e ≡ Some access → IsOfPlace (effect_content c.program k.target e) → (left_by access got ≡ got) ⊎ TopWrites IsSuch (f ∷ fs)
          by_effect k (Reads v) e a w is = inl (loaded (λ n. n ≡ got) access got refl _ w)
          by_effect k (Writes v n) e a w is =
              let same : Store (variable_word v) n ≡ access = same_some w in
              inr (writes f k v n e a.1 a.2 (ap accessed same ∙ word))
          by_effect k e e' a w is = absurd is

      -- ---- all phases

      phase_writes : (phase : Phase) → x.phase ≡ phase → wanted c x phase ≡ Some access → IsOfPlace (content_at c x phase) → PhaseHolds c (HasClass objects) phase x.frames
          → ((w v : ℕ) → phase ≡ Element w (Some v) → TopIs c (is_element_op (Some v)) x.frames) → (left_by access got ≡ got) ⊎ IsWriter IsSuch x ⊎ Stored
      phase_writes Run e w is h top = elim (run_writes x.frames h w is) [ inl same ↦ inl same | inr k ↦ inr (inl (record { runs = e; top = k })) ]
      phase_writes (Element n None) e w is h top = inl (loaded (λ n. n ≡ got) access got refl n w)
      phase_writes (Element n (Some v)) e w is h top =
          let same : Store n v ≡ access = same_some w in
          inr (inr (stores n v e h.1 (top n v refl) (heap.typed.elements t x n (Some v) there e) h.0 (ap accessed same ∙ word)))
      phase_writes (Leave m after) e w is h top = absurd (leave_of_none (claim x m) is)
      phase_writes phase e w is h top = absurd is

    -- ---- the word is as it was, or the thread writes the place

    abbrev pub Stays : Type 0
    Stays = slice_index (words_after s.words (wanted c x x.phase)) (site_word place) ≡ slice_index s.words (site_word place)

    at_element : (w v : ℕ) → x.phase ≡ Element w (Some v) → TopIs c (is_element_op (Some v)) x.frames
    at_element w v e =
        let counted : was ≡ Element w (Some v) = subst (λ (phase : Phase). IsAs phase was) e structured.is_as in
        (subst (λ (phase : Phase). Stands c phase x.frames x.held x.attempt) counted structured.stands).phase_shows

    pub place_changer : Stays ⊎ IsWriter IsSuch x ⊎ Stored
    place_changer = elim (word_at mover sites place is_there) [
      | inl e ↦ inl e
      | inr k ↦ elim (phase_writes k.access (slice_index s.words (site_word place)) k.word x.phase refl k.wants (place_suits (content_at c x x.phase) place is_place k.suits) (heap.typed.threads t x there).phase at_element)
          [ inl e ↦ inl (k.left ∙ e) | inr wrote ↦ inr wrote ]
    ]

  -- of a place that is no element
  module _ (place : Site) (is_place : IsPlace place) (is_there : IsThere c.program objects s place) (IsSuch : Frame → Type 0) (writes : Write place IsSuch)
      (no_element : (fs : List Frame) (w v : ℕ) → FramesHold c (HasClass objects) fs → TopIs c (is_element_op (Some v)) fs → HasElementIn objects (Some v) fs → ElementStands w (Some v) fs → w ≡ site_word place → ⊥) where
    pub place_writer : (slice_index (words_after s.words (wanted c x x.phase)) (site_word place) ≡ slice_index s.words (site_word place)) ⊎ IsWriter IsSuch x
    place_writer = elim (place_changer place is_place is_there IsSuch ⊥ writes (λ w v e. no_element x.frames w v)) [ inl e ↦ inl e | inr (inl writer) ↦ inr writer | inr (inr none) ↦ absurd none ]
