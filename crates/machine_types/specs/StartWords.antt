-- The words at the start of a run.
use Rattle.std.specs.Prelude.{ℕ, ◌-◌, ◌*◌, ◌==◌, ◌&&◌, List, [], ◌∷◌, ◌++◌, map, length, filter}
use Rattle.std.specs.Prelude.{flat_map, replicate}
use Rattle.std.specs.List.{range_with_len}
use Rattle.jvm_types.specs.ClassNames.{file_class}
use Rattle.jvm_types.specs.Members.{is_static}
use Rattle.jvm_types.specs.ProgramInvariant.{words_of}
use Rattle.jvm_types.specs.declared.program.FieldInfo.{FieldInfo}
use Rattle.jvm_types.specs.declared.program.Program.{Program}
use Rattle.machine_types.specs.Ints.{word_of}
use Rattle.machine_types.specs.LockWords.{word_of_lock, Free}
use Rattle.machine_types.specs.ReadyObjects.{ready_classes}
use Rattle.machine_types.specs.Words.{header}
use Rattle.jvm_types.specs.declared.fixed_words.TheConstants.{MONITOR_RECORDS}
use Rattle.jvm_types.specs.declared.class_numbers.TheConstants.{CLASS_ITSELF}

-- an object without fields, whose lock is free
abbrev pub object_words : (class : ℕ) → List ℕ
object_words class = word_of_lock (Free 0) ∷ header class 0 ∷ []

abbrev pub statics_of : List FieldInfo → (class : ℕ) → List FieldInfo
statics_of fields class = filter (λ f. (f.class == class) && is_static f.flags) fields

-- the class itself as an object, and its static fields in order
abbrev pub class_words : List FieldInfo → (class : ℕ) → List ℕ
class_words fields class =
    object_words CLASS_ITSELF ++ map (λ f. word_of f.start) (statics_of fields class)

-- the classes of the files
abbrev pub classes_of : Program → List ℕ
classes_of p = range_with_len (file_class 0) (length p.names)

-- null's word, the first free word, ticket and record, the monitor records, the ready objects, the
-- classes; the rest is 0
abbrev pub start_words : Program → List ℕ
start_words p = 0 ∷ words_of p ∷ 0 ∷ 0 ∷ replicate (2 * MONITOR_RECORDS) 0
    ++ flat_map object_words ready_classes
    ++ flat_map (class_words p.fields) (classes_of p)
    ++ replicate (p.heap - words_of p) 0
