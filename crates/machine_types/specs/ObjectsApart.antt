-- Objects and static fields lie apart: no place belongs to two of them, and all lie below the
-- number for the next reference, inside the heap; and all places that the program's fields name are
-- there.
use Rattle.std.specs.Prelude.{◌≡◌, ◌≢◌, ◌<◌, ◌≤◌, ◌⊎◌, ℕ, true, List, length, Contains, slice_get}
use Rattle.std.specs.Prelude.{Some}
use Rattle.jvm_types.specs.declared.class_numbers.TheConstants.{INT_ARRAY_CLASS}
use Rattle.jvm_types.specs.Members.{is_static}
use Rattle.jvm_types.specs.ProgramInvariant.{instances_among}
use Rattle.jvm_types.specs.declared.program.FieldInfo.{FieldInfo}
use Rattle.jvm_types.specs.declared.program.Program.{Program}
use Rattle.machine_types.specs.PlainMemory.{Object, StaticValue, object_end}
use Rattle.jvm_types.specs.declared.fixed_words.TheConstants.{FIRST_READY_WORD}

-- one ends before the other begins
abbrev pub IsBeside : Object → Object → Type 0
IsBeside o e = (object_end o ≤ e.reference) ⊎ (object_end e ≤ o.reference)

abbrev pub IsOutside : Object → (x : ℕ) → Type 0
IsOutside o x = (x < o.reference) ⊎ (object_end o ≤ x)

-- of some objects and static fields, with the number for the next reference
pub record LieApart (p : Program) (objects : List Object) (statics : List StaticValue) (next : ℕ)
    : Type 0 where
  pub beside : (i j : ℕ) (o e : Object) → slice_get objects i ≡ Some o
      → slice_get objects j ≡ Some e → i ≢ j → IsBeside o e
  pub differ : (i j : ℕ) (s r : StaticValue) → slice_get statics i ≡ Some s
      → slice_get statics j ≡ Some r → i ≢ j → s.word ≢ r.word
  pub mixed : (i j : ℕ) (o : Object) (s : StaticValue) → slice_get objects i ≡ Some o
      → slice_get statics j ≡ Some s → IsOutside o s.word
  -- behind the monitor records
  pub begin : (i : ℕ) (o : Object) → slice_get objects i ≡ Some o → FIRST_READY_WORD ≤ o.reference
  pub below : (i : ℕ) (o : Object) → slice_get objects i ≡ Some o → object_end o ≤ next
  pub inside : (i : ℕ) (o : Object) → slice_get objects i ≡ Some o → object_end o ≤ p.heap
  -- an object has a value for each field of its class
  pub sized : (i : ℕ) (o : Object) → slice_get objects i ≡ Some o → o.class ≢ INT_ARRAY_CLASS
      → length o.values ≡ instances_among o.class p.fields
  pub statics_begin : (j : ℕ) (s : StaticValue) → slice_get statics j ≡ Some s
      → FIRST_READY_WORD ≤ s.word
  pub statics_below : (j : ℕ) (s : StaticValue) → slice_get statics j ≡ Some s
      → (s.word < next) × (s.word < p.heap)
  -- and each static field is there
  pub there : (number : ℕ) (f : FieldInfo) → slice_get p.fields number ≡ Some f
      → is_static f.flags ≡ true → (s : StaticValue) × Contains statics s × (s.word ≡ f.index)
