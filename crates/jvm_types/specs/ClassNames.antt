-- The classes of a program by their names (JVMS 4.2, 4.4.1): which names there are, and the number
-- that each class has.
use Rattle.std.specs.Prelude.{ℕ, bytes_eq, ◌+◌, ◌-◌, nat_lt, nat_le, ◌==◌, Bool, ◌&&◌, ◌||◌, not}
use Rattle.std.specs.Prelude.{List, [], ◌∷◌, map, Option, Some, slice_get, codes, if◌then◌else◌}
use Rattle.std.specs.Option.{option_or}
use Rattle.std.specs.List.{list_any, position_from}
use Rattle.jvm_types.specs.declared.class_file.Constant.{Constant}
use Rattle.jvm_types.specs.declared.class_file.Constant.TheVariants.{Utf8, Class}
use Rattle.jvm_types.specs.declared.class_file.ClassFile.{ClassFile}
use Rattle.jvm_types.specs.declared.class_numbers.TheConstants.{SYSTEM_CLASS, CLASS_ITSELF}
use Rattle.jvm_types.specs.declared.class_numbers.TheConstants.{FIRST_FILE_CLASS, OBJECT_CLASS}
use Rattle.jvm_types.specs.declared.class_numbers.TheConstants.{THROWABLE_CLASS}

-- ---- texts, which are compared byte by byte

-- the text of an entry of the pool (JVMS 4.4.7), and no bytes where it has none
abbrev pub entry_text : Option Constant → List ℕ
entry_text (Some (Utf8 text)) = text
entry_text entry = []

abbrev pub text_at : List Constant → ℕ → List ℕ
text_at pool i = entry_text (slice_get pool i)

-- the name of the class that an entry of the pool names (JVMS 4.4.1)
abbrev pub class_text_of : List Constant → Option Constant → List ℕ
class_text_of pool (Some (Class name)) = text_at pool name
class_text_of pool entry = []

abbrev pub class_text_at : List Constant → ℕ → List ℕ
class_text_at pool i = class_text_of pool (slice_get pool i)

-- the own name of a class file (JVMS 4.1)
abbrev pub class_name : ClassFile → List ℕ
class_name c = class_text_at c.constants c.this_class

-- the names of a program's classes, in order of its files
abbrev pub class_names : List ClassFile → List (List ℕ)
class_names files = map class_name files

-- ---- numbers

-- The built-in classes with a number, from 1 on. This machine has these and System, where the
-- standard's platform has many.
abbrev pub numbered_names : List (List ℕ)
numbered_names =
    codes "java/lang/Object" ∷ codes "[I" ∷ codes "java/io/PrintStream"
    ∷ codes "java/lang/Throwable" ∷ codes "java/lang/Exception" ∷ codes "java/lang/Error"
    ∷ codes "java/lang/RuntimeException" ∷ codes "java/lang/InterruptedException"
    ∷ codes "java/lang/ArithmeticException" ∷ codes "java/lang/NullPointerException"
    ∷ codes "java/lang/ArrayIndexOutOfBoundsException"
    ∷ codes "java/lang/NegativeArraySizeException"
    ∷ codes "java/lang/IllegalMonitorStateException" ∷ codes "java/lang/OutOfMemoryError"
    ∷ codes "java/lang/StackOverflowError" ∷ []

-- the class that has no objects, and so no number
abbrev pub system_name : List ℕ
system_name = codes "java/lang/System"

-- the class of a file, by the number of the file from 0
abbrev pub file_class : ℕ → ℕ
file_class file = FIRST_FILE_CLASS + file

-- the file of such a class
abbrev pub file_of_class : ℕ → ℕ
file_of_class class = class - FIRST_FILE_CLASS

-- the number of a class by its name, among the built-in classes and those of the files
abbrev pub class_number : List (List ℕ) → List ℕ → Option ℕ
class_number names text =
    option_or (position_from (bytes_eq text) 1 numbered_names)
    (position_from (bytes_eq text) (file_class 0) names)

abbrev pub named_class : List (List ℕ) → List ℕ → Option ℕ
named_class names text =
    if bytes_eq text system_name then Some SYSTEM_CLASS else class_number names text

-- the names that no file may take: those of the built-in classes, and that of the array class
abbrev pub is_built_in_name : List ℕ → Bool
is_built_in_name text = list_any (bytes_eq text) (system_name ∷ numbered_names)

-- ---- which classes there are

-- Throwable and the classes below it
abbrev pub is_throwable : ℕ → Bool
is_throwable class = nat_le THROWABLE_CLASS class && nat_lt class CLASS_ITSELF

-- the built-in classes that have an `<init>()V`
abbrev pub has_built_in_init : ℕ → Bool
has_built_in_init class = class == OBJECT_CLASS || is_throwable class

-- a class that a `new` may name: one of the program, Object or a throwable (JVMS 6.5, `new`; there
-- every class that is neither an interface nor abstract, while here PrintStream cannot be made)
abbrev pub can_be_made : ℕ → Bool
can_be_made class = has_built_in_init class || nat_le (file_class 0) class

-- a class that has objects, in a program of so many files
abbrev pub is_class : ℕ → ℕ → Bool
is_class files class =
    nat_lt 0 class && nat_lt class (file_class files) && not (class == CLASS_ITSELF)
