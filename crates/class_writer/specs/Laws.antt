-- Reading and writing undo each other.
use Rattle.std.specs.Prelude.{◌≡◌, ◌⊎◌, ℕ, List, Result, Ok, Err}
use Rattle.std.specs.List.{AllByRecursion}
use Rattle.jvm_types.specs.ClassGrammar.{IsByte}
use Rattle.jvm_types.specs.ReadingClass.{read_class}
use Rattle.jvm_types.specs.declared.class_file.ClassFile.{ClassFile}
use Rattle.class_writer.specs.declared.error.WriteError.{WriteError}
use Rattle.class_writer.specs.declared.error.WriteError.TheVariants.{Memory}
use Rattle.class_writer.specs.Writing.{Answers}

-- reading the bytes that were written gives the class again
abbrev pub ReadsWhatWasWritten : Type 0
ReadsWhatWasWritten =
    (bytes : List ℕ) (c : ClassFile) → Answers c (Ok bytes) → read_class bytes ≡ Ok c

-- writing a class that was read gives its bytes again, unless memory runs out
abbrev pub WritesWhatWasRead : Type 0
WritesWhatWasRead =
    (bytes : List ℕ) (c : ClassFile) (answer : Result (List ℕ) WriteError)
    → AllByRecursion IsByte bytes → read_class bytes ≡ Ok c → Answers c answer
    → (answer ≡ Ok bytes) ⊎ (answer ≡ Err Memory)
