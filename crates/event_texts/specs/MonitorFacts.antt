-- A monitor as a fact: that of a class by the name of the class (JVMS 2.11.10), any other one by
-- the number of its object.
use Rattle.std.specs.Prelude.{◌≡◌, ◌<◌, ℕ, ◌==◌, List, [], ◌∷◌, length, Option, Some, None}
use Rattle.std.specs.List.{find, range_with_len}
use Rattle.jvm_types.specs.ClassNames.{file_class}
use Rattle.jvm_types.specs.declared.program.Program.{Program}
use Rattle.machine_types.specs.Words.{class_object}
use Rattle.run_texts.specs.MarksText.{class_text}
use Rattle.tellings.specs.declared.facts.Fact.{Fact}
use Rattle.tellings.specs.declared.facts.Fact.TheVariants.{Count, Text}
use Rattle.tellings.specs.declared.keys.Key.{Key}
use Rattle.tellings.specs.declared.keys.Key.TheVariants as keys

-- the number of the file whose class a reference stands for
abbrev pub file_of_object : Program → (m : ℕ) → Option ℕ
file_of_object p m = find (λ file. class_object p file == m) (range_with_len 0 (length p.names))

abbrev pub monitor_told : (names : List (List ℕ)) → (m : ℕ) → (file : Option ℕ) → Fact
monitor_told names m None = Count keys.Monitor m
monitor_told names m (Some file) = Text keys.MonitorClass (class_text names (file_class file))

abbrev pub monitor_fact : Program → (m : ℕ) → Fact
monitor_fact p m = monitor_told p.names m (file_of_object p m)

-- behind words
unfoldable pub on_monitor : Key → (words : List ℕ) → Program → (m : ℕ) → List Fact
on_monitor key words p m = Text key words ∷ monitor_fact p m ∷ []

-- of any program: that of the class of each of its files by that name
abbrev pub ClassesAreTold : Type 0
ClassesAreTold =
    (p : Program) (file : ℕ) → file < length p.names
    → monitor_fact p (class_object p file)
    ≡ Text keys.MonitorClass (class_text p.names (file_class file))
