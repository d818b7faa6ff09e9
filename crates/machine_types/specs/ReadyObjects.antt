-- The objects that are there from the start on: one of each class that the machine throws by
-- itself, and `System.out`.
use Rattle.std.specs.Prelude.{ℕ, ◌+◌, ◌-◌, ◌*◌, nat_lt, List, [], ◌∷◌, ◌++◌, map, Option, None}
use Rattle.std.specs.Prelude.{slice_get, if◌then◌else◌}
use Rattle.jvm_types.specs.declared.class_numbers.TheConstants.{PRINT_STREAM_CLASS, THROWABLE_CLASS}
use Rattle.jvm_types.specs.declared.fixed_words.TheConstants.{FIRST_READY_WORD, OBJECT_HEAD_WORDS}
use Rattle.jvm_types.specs.declared.fixed_words.TheConstants.{READY_OBJECTS}
use Rattle.jvm_types.specs.declared.outcome.Thrown.{Thrown}
use Rattle.jvm_types.specs.declared.outcome.Thrown.TheVariants.{Throwable, Exception, Error}
use Rattle.jvm_types.specs.declared.outcome.Thrown.TheVariants.{RuntimeException}
use Rattle.jvm_types.specs.declared.outcome.Thrown.TheVariants.{InterruptedException}
use Rattle.jvm_types.specs.declared.outcome.Thrown.TheVariants.{ArithmeticException}
use Rattle.jvm_types.specs.declared.outcome.Thrown.TheVariants.{NullPointerException}
use Rattle.jvm_types.specs.declared.outcome.Thrown.TheVariants.{ArrayIndexOutOfBoundsException}
use Rattle.jvm_types.specs.declared.outcome.Thrown.TheVariants.{NegativeArraySizeException}
use Rattle.jvm_types.specs.declared.outcome.Thrown.TheVariants.{IllegalMonitorStateException}
use Rattle.jvm_types.specs.declared.outcome.Thrown.TheVariants.{OutOfMemoryError}
use Rattle.jvm_types.specs.declared.outcome.Thrown.TheVariants.{StackOverflowError}

-- ---- throwables by the numbers of their classes

abbrev pub class_of : Thrown → ℕ
class_of Throwable = THROWABLE_CLASS
class_of Exception = THROWABLE_CLASS + 1
class_of Error = THROWABLE_CLASS + 2
class_of RuntimeException = THROWABLE_CLASS + 3
class_of InterruptedException = THROWABLE_CLASS + 4
class_of ArithmeticException = THROWABLE_CLASS + 5
class_of NullPointerException = THROWABLE_CLASS + 6
class_of ArrayIndexOutOfBoundsException = THROWABLE_CLASS + 7
class_of NegativeArraySizeException = THROWABLE_CLASS + 8
class_of IllegalMonitorStateException = THROWABLE_CLASS + 9
class_of OutOfMemoryError = THROWABLE_CLASS + 10
class_of StackOverflowError = THROWABLE_CLASS + 11

-- those that the machine throws by itself
abbrev pub thrown_by_machine : List Thrown
thrown_by_machine =
    ArithmeticException ∷ NullPointerException ∷ ArrayIndexOutOfBoundsException
    ∷ NegativeArraySizeException ∷ IllegalMonitorStateException ∷ OutOfMemoryError
    ∷ StackOverflowError ∷ []

abbrev pub throwables : List Thrown
throwables =
    Throwable ∷ Exception ∷ Error ∷ RuntimeException ∷ InterruptedException ∷ thrown_by_machine

-- None: the class of no throwable
abbrev pub thrown_of : ℕ → Option Thrown
thrown_of class =
    if nat_lt class THROWABLE_CLASS then None else slice_get throwables (class - THROWABLE_CLASS)

-- ---- the objects, of two words each

abbrev pub ready_classes : List ℕ
ready_classes = map class_of thrown_by_machine ++ PRINT_STREAM_CLASS ∷ []

-- the object that the machine throws
abbrev pub ready : Thrown → ℕ
ready x = FIRST_READY_WORD + OBJECT_HEAD_WORDS * (class_of x - class_of ArithmeticException)

-- `System.out`, the last one
abbrev pub out_object : ℕ
out_object = FIRST_READY_WORD + OBJECT_HEAD_WORDS * (READY_OBJECTS - 1)
