-- What the instruction of a verified method may do, by the values that its frame holds (JVMS
-- 4.10.2.2, 6.5). What it means that an object of a class stands at a word is a parameter.
use Rattle.std.specs.Prelude.{◌≡◌, ℕ, ◌⊎◌, ◌<◌, ◌≤◌, ◌^◌, true, false, List, [], ◌∷◌, length}
use Rattle.std.specs.Prelude.{Option, Some, None, slice_get}
use Rattle.std.specs.List.{AllByRecursion}
use Rattle.jvm_types.specs.ClassTree.{is_subclass}
use Rattle.jvm_types.specs.CodeTable.{can_throw}
use Rattle.jvm_types.specs.Members.{is_static}
use Rattle.jvm_types.specs.ProgramInvariant.{IsClassOf}
use Rattle.jvm_types.specs.Verifying.{new_class, edges, is_return}
use Rattle.jvm_types.specs.declared.class_numbers.TheConstants.{OBJECT_CLASS, INT_ARRAY_CLASS}
use Rattle.jvm_types.specs.declared.class_numbers.TheConstants.{THROWABLE_CLASS}
use Rattle.jvm_types.specs.declared.code.Insn.{Insn}
use Rattle.jvm_types.specs.declared.op_row.Given.{Given}
use Rattle.jvm_types.specs.declared.op_row.Given.TheVariants.{Fresh}
use Rattle.jvm_types.specs.declared.op_row.OpRow.{OpRow}
use Rattle.jvm_types.specs.declared.op_row.Want.{Want}
use Rattle.jvm_types.specs.declared.op_row.Want.TheVariants.{AnyValue, AnInt, AnObject}
use Rattle.jvm_types.specs.declared.op_row.Want.TheVariants.{AnyReference, AHolder, ToStart}
use Rattle.jvm_types.specs.declared.outcome.Thrown.{Thrown}
use Rattle.jvm_types.specs.declared.outcome.Thrown.TheVariants as thrown
use Rattle.jvm_types.specs.declared.program.FieldInfo.{FieldInfo}
use Rattle.jvm_types.specs.declared.program.MethodInfo.{MethodInfo}
use Rattle.jvm_types.specs.declared.program.Program.{Program}
use Rattle.jvm_types.specs.declared.program.Target.{Target}
use Rattle.jvm_types.specs.declared.program.Target.TheVariants.{Field, Method}
use Rattle.jvm_types.specs.declared.typing.VType.{VType}
use Rattle.jvm_types.specs.declared.typing.VType.TheVariants.{Ref, New}
use Rattle.machine_types.specs.declared.effect.Variable.{Variable}
use Rattle.machine_types.specs.declared.effect.Effect.{Effect}
use Rattle.machine_types.specs.declared.effect.Effect.TheVariants.{Goes, Throws, Reads, Writes}
use Rattle.machine_types.specs.declared.effect.Effect.TheVariants.{Indexes, Measures, Raises, Makes}
use Rattle.machine_types.specs.declared.effect.Effect.TheVariants.{Prints, Calls, Returns, Enters}
use Rattle.machine_types.specs.declared.effect.Effect.TheVariants.{Leaves, Waits, Notifies}
use Rattle.machine_types.specs.declared.effect.Effect.TheVariants.{NotifiesAll, Stuck}
use Rattle.machine_types.specs.Effects.{variable_of}
use Rattle.machine_types.specs.Ints.{low}
use Rattle.machine_types.specs.Typed.{Classes, IsNullOr, Holds, KindHolds, IsElementOn}
use Rattle.machine_types.specs.Words.{header, object_size, array_size, value_word}

-- an object of the class or of one below it, and not null
abbrev pub IsOf : Classes → (class v : ℕ) → Type 0
IsOf is class v = (0 < v) × (d : ℕ) × (is d v) × (is_subclass d class ≡ true)

-- ---- what a row asks of values, and what it gives

abbrev pub WantHolds : MethodInfo → Classes → Want → (v : ℕ) → Type 0
WantHolds m is AnyValue v = Unit {0}
WantHolds m is AnInt v = v < 2 ^ 32
WantHolds m is (AnObject class) v = IsNullOr is class v
WantHolds m is AnyReference v = Unit {0}
WantHolds m is (AHolder class) v = IsNullOr is class v
WantHolds m is (ToStart class) v = (is class v) ⊎ (class ≡ OBJECT_CLASS)

-- the values on top are what the row takes
abbrev pub TakenHold : MethodInfo → Classes → List Want → (stack : List ℕ) → Type 0
TakenHold m is [] s = Unit {0}
TakenHold m is (want ∷ wants) (v ∷ s) = WantHolds m is want v × TakenHold m is wants s
TakenHold m is (want ∷ wants) [] = ⊥

-- the local that a row reads or writes is there
abbrev pub HasLocal : {A : Type 0} → Option (ℕ × A) → (locals : List ℕ) → Type 0
HasLocal None l = Unit {0}
HasLocal (Some local) l = local.0 < length l

abbrev pub GivenHolds : MethodInfo → Classes → (made : ℕ) → Given → Type 0
GivenHolds m is made (Fresh type) = Holds m is type made
GivenHolds m is made given = Unit {0}

abbrev pub WriteHolds : MethodInfo → Classes → (made : ℕ) → Option (ℕ × Given) → Type 0
WriteHolds m is made None = Unit {0}
WriteHolds m is made (Some write) = GivenHolds m is made write.1

-- a value of its own is of the type that the row says
abbrev pub HasRowTypes : MethodInfo → Classes → OpRow → (made : ℕ) → Type 0
HasRowTypes m is r made =
    AllByRecursion (GivenHolds m is made) r.gives × WriteHolds m is made r.writes

-- ---- what an effect may be

abbrev pub OneOf : List ℕ → ℕ → Type 0
OneOf [] x = ⊥
OneOf (y ∷ ys) x = (x ≡ y) ⊎ OneOf ys x

-- it goes on behind the instruction
abbrev pub HasEdgeToNext : Insn → Type 0
HasEdgeToNext insn = OneOf (edges insn) insn.next

-- the field that the target names; an instance one is of an object of its class
pub record IsNamedField (p : Program) (is : Classes) (target : Target) (v : Variable)
    (f : FieldInfo) : Type 0 where
  pub number : ℕ
  pub named : target ≡ Field number
  pub there : slice_get p.fields number ≡ Some f
  pub reference : ℕ
  pub variable : v ≡ variable_of f reference
  pub holder : is_static f.flags ≡ false → IsOf is f.class reference

abbrev pub StoredHolds : Option ℕ → Type 0
StoredHolds None = Unit {0}
StoredHolds (Some v) = v < 2 ^ 32

-- the type that a new object or array has where it is made, by its header and its size
abbrev pub MadeAs : Program → MethodInfo → VType → (word size : ℕ) → Type 0
MadeAs p m (New pc) word size =
    (class : ℕ) × (new_class m.code m.targets pc ≡ Some class) × IsClassOf p class
    × (word ≡ header class 0) × (size ≡ object_size p class)
MadeAs p m (Ref class) word size =
    (class ≡ INT_ARRAY_CLASS) × (count : ℕ) × (count ≤ p.heap)
    × (word ≡ header INT_ARRAY_CLASS count) × (size ≡ array_size count)
MadeAs p m type word size = ⊥

-- what the machine throws by itself
abbrev pub IsByMachine : Thrown → Type 0
IsByMachine thrown.Throwable = ⊥
IsByMachine thrown.Exception = ⊥
IsByMachine thrown.Error = ⊥
IsByMachine thrown.RuntimeException = ⊥
IsByMachine thrown.InterruptedException = ⊥
IsByMachine x = Unit {0}

-- of the instruction of a method, with its target, its row and the stack that it stands on
abbrev pub Allowed : Program → MethodInfo → Classes → Insn → Target → OpRow → (stack : List ℕ)
    → Effect → Type 0
Allowed p m is insn target r s (Goes to made) = OneOf (edges insn) to × HasRowTypes m is r made
Allowed p m is insn target r s (Throws x) = (can_throw insn.op ≡ true) × IsByMachine x
Allowed p m is insn target r s (Reads v) =
    HasEdgeToNext insn × (f : FieldInfo) × IsNamedField p is target v f
    × ((got : ℕ) → KindHolds is f.kind got → HasRowTypes m is r got)
Allowed p m is insn target r s (Writes v word) =
    HasEdgeToNext insn × (f : FieldInfo) × IsNamedField p is target v f × KindHolds is f.kind word
    × HasRowTypes m is r 0
Allowed p m is insn target r s (Indexes a i stored) =
    HasEdgeToNext insn × IsOf is INT_ARRAY_CLASS a × IsElementOn (value_word a (low i)) stored s
    × StoredHolds stored × ((got : ℕ) → got < 2 ^ 32 → HasRowTypes m is r got)
Allowed p m is insn target r s (Measures a) =
    HasEdgeToNext insn × IsOf is INT_ARRAY_CLASS a
    × ((got : ℕ) → got < 2 ^ 32 → HasRowTypes m is r got)
Allowed p m is insn target r s (Raises x) = (can_throw insn.op ≡ true) × IsOf is THROWABLE_CLASS x
Allowed p m is insn target r s (Makes word size) =
    HasEdgeToNext insn × (type : VType) × (r.gives ≡ Fresh type ∷ []) × (r.writes ≡ None)
    × MadeAs p m type word size
Allowed p m is insn target r s (Prints n) = HasEdgeToNext insn × (n < 2 ^ 32) × HasRowTypes m is r 0
Allowed p m is insn target r s (Calls number) =
    (called : MethodInfo) × (target ≡ Method number) × (slice_get p.methods number ≡ Some called)
Allowed p m is insn target r s Returns = is_return insn.op ≡ true
Allowed p m is insn target r s (Enters a) =
    HasEdgeToNext insn × (IsOf is OBJECT_CLASS a) × HasRowTypes m is r 0
Allowed p m is insn target r s (Leaves a) =
    HasEdgeToNext insn × (IsNullOr is OBJECT_CLASS a) × HasRowTypes m is r 0
Allowed p m is insn target r s (Waits a) =
    HasEdgeToNext insn × (IsOf is OBJECT_CLASS a) × HasRowTypes m is r 0
Allowed p m is insn target r s (Notifies a) =
    HasEdgeToNext insn × (IsOf is OBJECT_CLASS a) × HasRowTypes m is r 0
Allowed p m is insn target r s (NotifiesAll a) =
    HasEdgeToNext insn × (IsOf is OBJECT_CLASS a) × HasRowTypes m is r 0
Allowed p m is insn target r s Stuck = ⊥
