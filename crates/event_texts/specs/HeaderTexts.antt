-- What stands in a header, as text: the class of an object, or of an array how many elements it
-- has.
use Rattle.std.specs.Prelude.{ℕ, ◌==◌, nat_lt, List, ◌++◌, codes, Option, Some, None}
use Rattle.std.specs.Prelude.{if◌then◌else◌}
use Rattle.std.specs.Fmt.{decimal}
use Rattle.jvm_types.specs.declared.class_numbers.TheConstants.{OBJECT_CLASS, INT_ARRAY_CLASS}
use Rattle.jvm_types.specs.declared.class_numbers.TheConstants.{PRINT_STREAM_CLASS, CLASS_ITSELF}
use Rattle.jvm_types.specs.declared.class_numbers.TheConstants.{FIRST_FILE_CLASS}
use Rattle.jvm_types.specs.declared.outcome.Thrown.{Thrown}
use Rattle.jvm_types.specs.declared.program.Program.{Program}
use Rattle.machine_types.specs.ReadyObjects.{thrown_of}
use Rattle.machine_types.specs.Words.{header_class, header_length}
use Rattle.run_texts.specs.MarksText.{class_text}
use Rattle.run_texts.specs.Report.{thrown_name}

-- a class that is neither that of a file nor a throwable; there is none before a header is stored
abbrev pub other_class_text : (class : ℕ) → List ℕ
other_class_text class =
    if class == OBJECT_CLASS then codes "java/lang/Object"
    else if class == PRINT_STREAM_CLASS then codes "java/io/PrintStream"
    else if class == CLASS_ITSELF then codes "java/lang/Class" else codes "none"

abbrev pub built_in_text : Option Thrown → (class : ℕ) → List ℕ
built_in_text (Some x) class = thrown_name x
built_in_text None class = other_class_text class

abbrev pub class_told : Program → (class : ℕ) → List ℕ
class_told p class =
    if nat_lt class FIRST_FILE_CLASS then built_in_text (thrown_of class) class
    else class_text p.names class

abbrev pub array_text : (length : ℕ) → List ℕ
array_text length = codes "int[" ++ decimal length ++ codes "]"

abbrev pub header_text : Program → (word : ℕ) → List ℕ
header_text p word =
    if header_class word == INT_ARRAY_CLASS then array_text (header_length word)
    else class_told p (header_class word)
