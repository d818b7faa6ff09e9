-- What a machine that lays out the words of fields may rely on.
use Rattle.std.specs.Prelude.{◌≡◌, ℕ, ◌<◌, ◌≤◌, true, false, slice_get, Some}
use Rattle.jvm_types.specs.Members.{is_static}
use Rattle.jvm_types.specs.declared.fixed_words.TheConstants.{FIRST_CLASS_WORD}
use Rattle.jvm_types.specs.ProgramInvariant.{IsProgram, words_of, instances_among}
use Rattle.jvm_types.specs.declared.program.FieldInfo.{FieldInfo}
use Rattle.jvm_types.specs.declared.program.Program.{Program}

-- the word of a static field is one of those that the program has from the start on
abbrev pub StaticsLieInside : Type 0
StaticsLieInside =
    (p : Program) (number : ℕ) (f : FieldInfo) → IsProgram p → slice_get p.fields number ≡ Some f
    → is_static f.flags ≡ true → (FIRST_CLASS_WORD ≤ f.index) × (f.index < words_of p)

-- the place of an instance field is below the number of fields that an object of its class has
abbrev pub InstancesLieInside : Type 0
InstancesLieInside =
    (p : Program) (number : ℕ) (f : FieldInfo) → IsProgram p → slice_get p.fields number ≡ Some f
    → is_static f.flags ≡ false → f.index < instances_among f.class p.fields

-- a later static field has a later word
abbrev pub StaticsAreApart : Type 0
StaticsAreApart =
    (p : Program) (i j : ℕ) (f g : FieldInfo) → IsProgram p → slice_get p.fields i ≡ Some f
    → slice_get p.fields j ≡ Some g → i < j → is_static f.flags ≡ true → is_static g.flags ≡ true
    → f.index < g.index

-- a later instance field of the same class has a later place
abbrev pub InstancesAreApart : Type 0
InstancesAreApart =
    (p : Program) (i j : ℕ) (f g : FieldInfo) → IsProgram p → slice_get p.fields i ≡ Some f
    → slice_get p.fields j ≡ Some g → i < j → f.class ≡ g.class → is_static f.flags ≡ false
    → is_static g.flags ≡ false → f.index < g.index

-- so one word has one static field, and one place of a class's objects has one field
abbrev pub OneStatic : Type 0
OneStatic =
    (p : Program) (i j : ℕ) (f g : FieldInfo) → IsProgram p → slice_get p.fields i ≡ Some f
    → slice_get p.fields j ≡ Some g → is_static f.flags ≡ true → is_static g.flags ≡ true
    → f.index ≡ g.index → i ≡ j

abbrev pub OneInstance : Type 0
OneInstance =
    (p : Program) (i j : ℕ) (f g : FieldInfo) → IsProgram p → slice_get p.fields i ≡ Some f
    → slice_get p.fields j ≡ Some g → f.class ≡ g.class → is_static f.flags ≡ false
    → is_static g.flags ≡ false → f.index ≡ g.index → i ≡ j
