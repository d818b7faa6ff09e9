-- An event that changes a private or final field of an object is an instruction of a method of the object's class.
use Rattle.std.proofs.Common.{◌≡◌, ◌⊎◌, inl, inr, ℕ, Bool, true, false, not, ◌&&◌, ◌==◌, List, [], ◌∷◌, Option, Some, None, refl, subst, Contains, IsSomeAnd, slice_get, slice_index}
use Rattle.std.proofs.lemmas.Bool.{and_parts, Decides.Decides-eqb}
use Rattle.jvm_types.specs.{Members.{is_final, is_private, is_static, is_hidden, is_other_sort, first_rule, field_rule, initializes, is_init_name}, ProgramInvariant.{IsTargetOf, site_in}}
use Rattle.jvm_types.specs.declared.{code.Op.Op, program.{FieldInfo.FieldInfo, MethodInfo.MethodInfo, Program.Program, Target.TheVariants.Field}, refusal.LRule.TheVariants.{L2, L3, L7}}
use Rattle.machine_types.specs.{Accesses.words_after, Events.wanted, PlainMemory.Object, Threads.Frame, Words.value_word}
use Rattle.laws_objects.proofs.{FieldWriters.{Writer, field_writer as writer_of}, PlaceWriters.{BuiltEvent, TopWrites, names_field, place_event}}
use Rattle.laws_sections.proofs.FieldWrites.{in_init}

-- ---- a private field, and a final one, is written by a method of its own class alone

both_not : (a b c : Bool) → first_rule ((a, L2) ∷ (b, L3) ∷ (c, L7) ∷ []) ≡ None → (b ≡ false) × (c ≡ false)
both_not false false false e = (refl, refl)
both_not a b c e = absurd (cc)

module _ (m : MethodInfo) (class flags : ℕ) (rule : field_rule false true (site_in m) class flags ≡ None) where
  none : (is_hidden (site_in m) class flags ≡ false) × ((is_final flags && not (initializes (site_in m) false class)) ≡ false)
  none = both_not (is_other_sort false flags) (is_hidden (site_in m) class flags) (is_final flags && not (initializes (site_in m) false class)) rule

  by_rule : (is_private flags ≡ true) ⊎ (is_final flags ≡ true) → class ≡ m.class
  by_rule (inl private) = (Decides-eqb class m.class).0 (in_init (is_private flags) (class == m.class) none.0 private)
  by_rule (inr final) = (Decides-eqb class m.class).0 (and_parts (class == m.class) (is_init_name m.name) (in_init (is_final flags) (initializes (site_in m) false class) none.1 final)).0

-- the method m writes the field
class_of_writer : (p : Program) (m : MethodInfo) (fi : ℕ) (field : FieldInfo) → slice_get p.fields fi ≡ Some field → IsSomeAnd (slice_get p.fields fi) (λ f. field_rule false true (site_in m) f.class f.flags ≡ None)
    → (is_private field.flags ≡ true) ⊎ (is_final field.flags ≡ true) → field.class ≡ m.class
class_of_writer p m fi field is rule restricted = by_rule m field.class field.flags (subst (λ (o : Option FieldInfo). IsSomeAnd o (λ f. field_rule false true (site_in m) f.class f.flags ≡ None)) is rule) restricted

-- ---- by an event

-- the top frame is that of a method of the class
abbrev pub TopIsOf : Program → (class : ℕ) → List Frame → Type 0
TopIsOf p class [] = ⊥
TopIsOf p class (f ∷ fs) = (m : MethodInfo) × (slice_get p.methods f.method ≡ Some m) × (class ≡ m.class)

module _ (its : BuiltEvent) (fi : ℕ) (field : FieldInfo) (is : slice_get its.c.program.fields fi ≡ Some field) (restricted : (is_private field.flags ≡ true) ⊎ (is_final field.flags ≡ true)) where
  open its use {c, marked, objects, s, x}

  top_of_class : (reference : ℕ) (fs : List Frame) → TopWrites (Writer c fi reference) fs → TopIsOf c.program field.class fs
  top_of_class reference [] writer = writer
  top_of_class reference (f ∷ fs) writer =
      let k = writer.stands in
      let rule = subst (λ (op : Op). IsTargetOf c.program (site_in k.method) op (Field fi)) writer.is (names_field c f k fi marked writer.names) in
      (k.method, k.at.in_program, class_of_writer c.program k.method fi field is rule restricted)

  -- the word is as it was, or a method of the field's class runs
  pub field_writer : (o : Object) → is_static field.flags ≡ false → Contains objects o → o.class ≡ field.class
      → (slice_index (words_after s.words (wanted c x x.phase)) (value_word o.reference field.index) ≡ slice_index s.words (value_word o.reference field.index)) ⊎ TopIsOf c.program field.class x.frames
  field_writer o instance here of_class = elim (writer_of (place_event its) fi field is instance o here of_class) [ inl same ↦ inl same | inr k ↦ inr (top_of_class o.reference x.frames k.top) ]
