-- What a step of the reader answers, in terms of what reading gives.
use Rattle.std.specs.Prelude.{◌≡◌, ℕ, ◌+◌, ◌*◌, ◌^◌, ◌<◌, Bool, true, false, List, Some, Result, Ok}
use Rattle.std.specs.Prelude.{Err}
use Rattle.jvm_types.specs.declared.class_file.Attr.{Attr}
use Rattle.jvm_types.specs.declared.class_file.MemberAttr.{MemberAttr}
use Rattle.jvm_types.specs.declared.class_file.MemberAttr.TheVariants as member_attrs
use Rattle.jvm_types.specs.declared.class_file.Constant.{Constant}
use Rattle.jvm_types.specs.declared.class_file.Constant.TheVariants.{Gap}
use Rattle.jvm_types.specs.ReadingSteps.{Fault, fault, ◌>>=◌, u2_at, u4_at, fault_moved}
use Rattle.jvm_types.specs.declared.index_kind.IndexKind.TheVariants as kinds
use Rattle.jvm_types.specs.ReadingPool.{index_at, constant_at}
use Rattle.jvm_types.specs.ReadingClass.{class_fault}
use Rattle.class_reader.specs.declared.items.Stop.{Stop}
use Rattle.class_reader.specs.declared.items.Stop.TheVariants as stops
use Rattle.class_reader.specs.declared.read_error.ReadError.{ReadError}
use Rattle.class_reader.specs.declared.read_error.ReadError.TheVariants as errors

-- want of memory is a free answer
abbrev pub Fails : {Y : Type 0} → Stop → Result Y Fault → Type 0
Fails stops.Memory read = Unit {0}
Fails (stops.At rule left) read = read ≡ fault rule left

-- what a step returned, seen by view, is what reading gives, unless memory ran out
abbrev pub Gives : {X Y : Type 0} → (X → Y) → Result X Stop → Result Y Fault → Type 0
Gives view (Ok x) read = read ≡ Ok (view x)
Gives view (Err e) read = Fails e read

-- two numbers of two bytes, and one of eight
abbrev pub pair_at : List ℕ → Result ((ℕ × ℕ) × List ℕ) Fault
pair_at bytes = do
  a ← u2_at bytes
  b ← u2_at a.1
  Ok ((a.0, b.0), b.1)

abbrev pub long_at : List ℕ → Result (ℕ × List ℕ) Fault
long_at bytes = do
  high ← u4_at bytes
  low ← u4_at high.1
  Ok (high.0 * 4294967296 + low.0, low.1)

-- what stands at an index of the pool: a gap where one is due
abbrev pub entry_at : Bool → List ℕ → Result (Constant × List ℕ) Fault
entry_at true bytes = Ok (Gap, bytes)
entry_at false bytes = constant_at bytes

-- a fault of a body that was cut out, as one of the file
abbrev pub moved_stop : ℕ → ℕ → Stop → Stop
moved_stop at_length behind stops.Memory = stops.Memory
moved_stop at_length behind (stops.At rule left) =
    stops.At (fault_moved rule left at_length behind).rule
    (fault_moved rule left at_length behind).left

-- memory ran out, or this is the first condition that stands
abbrev pub IsFirstFault : List ℕ → ReadError → Type 0
IsFirstFault bytes errors.Memory = Unit {0}
IsFirstFault bytes (errors.Refused rule at) = class_fault bytes ≡ Some (rule, at)

-- an attribute of this name and body
abbrev pub attr_of : ℕ → List ℕ → Attr
attr_of name body = record { name = name; body = body }

-- a place in a body that is cut out has its place in the file
abbrev pub HasPlaceInFile : ℕ → Stop → Type 0
HasPlaceInFile behind stops.Memory = Unit {0}
HasPlaceInFile behind (stops.At rule left) = left + behind < 2 ^ 64

-- a Code
abbrev pub is_code : MemberAttr → Bool
is_code (member_attrs.Code c) = true
is_code attr = false

-- the index of a class
abbrev pub class_index_at : List Constant → List ℕ → Result (ℕ × List ℕ) Fault
class_index_at pool bytes = index_at kinds.Class pool bytes

-- memory ran out
abbrev pub IsMemory : ReadError → Type 0
IsMemory errors.Memory = Unit {0}
IsMemory (errors.Refused rule at) = ⊥
