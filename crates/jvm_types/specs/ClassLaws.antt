-- The laws of the class grammar.
use Rattle.std.specs.Prelude.{◌≡◌, ◌↔◌, ℕ, ◌≤◌, List, length, None, Ok, Err}
use Rattle.std.specs.List.{AllByRecursion}
use Rattle.jvm_types.specs.declared.class_file.ClassFile.{ClassFile}
use Rattle.jvm_types.specs.ClassGrammar.{IsByte, IsClass, Spells}
use Rattle.jvm_types.specs.Counts.{ClassCountsFit}
use Rattle.jvm_types.specs.ReadingSteps.{Fault}
use Rattle.jvm_types.specs.ReadingClass.{read_class, class_fault}

-- no class has two spellings
abbrev pub HasAtMostOneSpelling : Type 0
HasAtMostOneSpelling = (a b : List ℕ) (c : ClassFile) → Spells a c → Spells b c → a ≡ b

-- no bytes spell two classes
abbrev pub SpellsAtMostOneClass : Type 0
SpellsAtMostOneClass = (bytes : List ℕ) (c d : ClassFile) → Spells bytes c → Spells bytes d → c ≡ d

-- bytes spell a class exactly where there is no fault
abbrev pub IsSpelledOrFaulty : Type 0
IsSpelledOrFaulty =
    (bytes : List ℕ) → AllByRecursion IsByte bytes
    → (class_fault bytes ≡ None) ↔ ((c : ClassFile) × Spells bytes c)

-- reading gives a class exactly where the bytes spell that class
abbrev pub ReadsWhatIsSpelled : Type 0
ReadsWhatIsSpelled =
    (bytes : List ℕ) (c : ClassFile) → AllByRecursion IsByte bytes
    → (read_class bytes ≡ Ok c) ↔ Spells bytes c

-- every class of the grammar has lengths that fit their fields
abbrev pub ClassesFit : Type 0
ClassesFit = (c : ClassFile) → IsClass c → ClassCountsFit c

-- a fault has its place in the bytes or at their end, so its offset is what stands before that
-- place
abbrev pub FaultsLieInside : Type 0
FaultsLieInside =
    (bytes : List ℕ) (f : Fault) → AllByRecursion IsByte bytes → read_class bytes ≡ Err f
    → f.left ≤ length bytes
