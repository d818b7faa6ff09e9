-- The types of places, site by site.
use Rattle.std.proofs.Common.{◌≡◌, inl, inr, ℕ, ◌<◌, ◌≤◌, ◌^◌, true, false, List, length, Some, refl, sym, ap, subst, ◌∙◌, arith, Contains, slice_get, slice_index}
use Rattle.lists.proofs.ListLaws.{same_some}
use Rattle.jvm_types.specs.{Members.is_static, ProgramInvariant.{IsProgram, instances_among}, declared.{class_numbers.TheConstants.INT_ARRAY_CLASS, fixed_words.TheConstants.NEXT_FREE_WORD}}
use Rattle.jvm_types.specs.declared.program.{FieldInfo.FieldInfo, Program.Program}
use Rattle.laws_programs.proofs.FieldOrder.{instances_inside, one_instance_field, one_static_field}
use Rattle.machine_types.specs.{Core.Core, ObjectsApart.{LieApart}, PlainMemory.{Object, header_of, start_statics}, Typed.{KindHolds, HasClass, PlacesHold}, Words.{header_word, value_word}}
use Rattle.laws_states.{specs.Sites.{Site, Counter, HeaderOf, ValueOf, StaticAt, site_word, IsThere}, proofs.Lists.{contained_got, same_or_not}}

-- ---- what a word has to be where it stands

-- an object that is there has it as a field of its class or as an element
pub record IsValue (p : Program) (objects : List Object) (reference index v : ℕ) : Type 0 where
  pub field : (o : Object) (number : ℕ) (f : FieldInfo) → Contains objects o → o.reference ≡ reference → slice_get p.fields number ≡ Some f → is_static f.flags ≡ false → o.class ≡ f.class → f.index ≡ index
      → KindHolds (HasClass objects) f.kind v
  pub element : (o : Object) → Contains objects o → o.reference ≡ reference → o.class ≡ INT_ARRAY_CLASS → index < length o.values → v < 2 ^ 32

abbrev pub IsStaticValue : Program → List Object → (word v : ℕ) → Type 0
IsStaticValue p objects word v = (number : ℕ) (f : FieldInfo) → slice_get p.fields number ≡ Some f → is_static f.flags ≡ true → f.index ≡ word → KindHolds (HasClass objects) f.kind v

-- least: the next free word never falls
abbrev pub SiteHolds : Program → List Object → (least : ℕ) → Site → (v : ℕ) → Type 0
SiteHolds p objects least (Counter word) v = word ≡ NEXT_FREE_WORD → least ≤ v
SiteHolds p objects least (HeaderOf reference) v = (o : Object) → Contains objects o → o.reference ≡ reference → v ≡ header_of o
SiteHolds p objects least (ValueOf reference index) v = IsValue p objects reference index v
SiteHolds p objects least (StaticAt word) v = IsStaticValue p objects word v
SiteHolds p objects least site v = Unit {0}

-- ---- one object at each reference

pub same_object : (p : Program) (objects : List Object) (next : ℕ) → LieApart p objects (start_statics p) next → (o e : Object) → Contains objects o → Contains objects e → o.reference ≡ e.reference → o ≡ e
same_object p objects next apart o e k l same = elim (same_or_not k.0 l.0) [
  | inl i ↦ same_some (sym (contained_got objects o k) ∙ (ap (slice_get objects) i ∙ contained_got objects e l))
  | inr n ↦ elim (apart.beside k.0 l.0 o e (contained_got objects o k) (contained_got objects e l) n)
      [ inl h ↦ absurd (omega (arith, h, same)) | inr h ↦ absurd (omega (arith, h, same)) ]
]

-- ---- places are typed just where each site is

module _ (p : Program) (is_program : IsProgram p) (objects : List Object) (words : List ℕ) where
  pub site_typed : (site : Site) → PlacesHold p objects words → SiteHolds p objects (slice_index words NEXT_FREE_WORD) site (slice_index words (site_word site))
  site_typed (Counter word) places = λ e. omega (arith, ap (slice_index words) e)
  site_typed (HeaderOf reference) places = λ o k e. sym (ap (λ a. slice_index words (header_word a)) e) ∙ places.headers o k
  site_typed (ValueOf reference index) places = record {
    field = λ o number f k e g s class i. subst (λ (v : ℕ). KindHolds (HasClass objects) f.kind v) (ap (λ a. slice_index words (value_word a f.index)) e ∙ ap (λ j. slice_index words (value_word reference j)) i) (places.fields o number f k g s class);
    element = λ o k e class below. subst (λ (v : ℕ). v < 2 ^ 32) (ap (λ a. slice_index words (value_word a index)) e) (places.elements o index k class below);
  }
  site_typed (StaticAt word) places = λ number f g s e. subst (λ (v : ℕ). KindHolds (HasClass objects) f.kind v) (ap (slice_index words) e) (places.statics number f g s)
  site_typed site places = tt

  module _ (s : Core) (next least : ℕ) (apart : LieApart p objects (start_statics p) next) (each : (site : Site) → IsThere p objects s site → SiteHolds p objects least site (slice_index words (site_word site))) where
    field_there : (o : Object) (number : ℕ) (f : FieldInfo) → Contains objects o → slice_get p.fields number ≡ Some f → is_static f.flags ≡ false → o.class ≡ f.class → f.index < length o.values
    field_there o number f k g s same =
        let sized = apart.sized k.0 o (contained_got objects o k) (λ array. absurd (omega (arith, array, same, ((is_program.fields number f g).class.0)))) in
        subst (λ n. f.index < n) (sym sized) (subst (λ class. f.index < instances_among class p.fields) (sym same) (instances_inside p number f is_program g s))

    pub places_typed : PlacesHold p objects words
    places_typed = record {
      headers = λ o k. each (HeaderOf o.reference) (o, k, refl) o k refl;
      fields = λ o number f k g s same. (each (ValueOf o.reference f.index) (o, k, refl, field_there o number f k g s same)).field o number f k refl g s same refl;
      elements = λ o i k class below. (each (ValueOf o.reference i) (o, k, refl, below)).element o k refl class below;
      statics = λ number f g s. let v = apart.there number f g s in each (StaticAt f.index) (v.0, v.1, v.2) number f g s refl;
    }

-- ---- a field that is stored

module _ (p : Program) (is_program : IsProgram p) (objects : List Object) (next : ℕ) (apart : LieApart p objects (start_statics p) next) (number : ℕ) (f : FieldInfo) (there : slice_get p.fields number ≡ Some f) where
  same_field : (other : ℕ) (g : FieldInfo) → slice_get p.fields other ≡ Some g → other ≡ number → g ≡ f
  same_field other g e same = same_some (sym e ∙ (ap (slice_get p.fields) same ∙ there))

  pub static_stored : (v : ℕ) → is_static f.flags ≡ true → KindHolds (HasClass objects) f.kind v → IsStaticValue p objects f.index v
  static_stored v s h other g e static index =
      subst (λ (x : FieldInfo). KindHolds (HasClass objects) x.kind v) (sym (same_field other g e (one_static_field p other number g f is_program e there static s index))) h

  pub field_stored : (o : Object) (v : ℕ) → Contains objects o → o.class ≡ f.class → is_static f.flags ≡ false → KindHolds (HasClass objects) f.kind v → IsValue p objects o.reference f.index v
  field_stored o v k class s h = record {
    field = λ e other g l same there_too instance of_class index.
        let classes : g.class ≡ f.class = sym of_class ∙ (ap (λ (x : Object). x.class) (same_object p objects next apart e o l k same) ∙ class) in
        let field = same_field other g there_too (one_instance_field p other number g f is_program there_too there classes instance s index) in
        subst (λ (x : FieldInfo). KindHolds (HasClass objects) x.kind v) (sym field) h;
    element = λ e l same array below.
        absurd (omega (arith, ((is_program.fields number f there).class.0), class, array, ap (λ (x : Object). x.class) (same_object p objects next apart e o l k same)));
  }

-- ---- an element that is stored

pub element_stored : (p : Program) → IsProgram p → (objects : List Object) (next : ℕ) → LieApart p objects (start_statics p) next → (o : Object) (i v : ℕ) → Contains objects o → o.class ≡ INT_ARRAY_CLASS → v < 2 ^ 32
    → IsValue p objects o.reference i v
element_stored p is_program objects next apart o i v k class h = record {
  field = λ e other g l same there instance of_class index.
      absurd (omega (arith, ((is_program.fields other g there).class.0), of_class, class, ap (λ (x : Object). x.class) (same_object p objects next apart e o l k same)));
  element = λ e l same array below. h;
}
