-- What an instruction may do inside an attempt: it writes nothing, reads no place but those that
-- stay while the monitor of the section is free, and enters and leaves no monitor but that one.
use Rattle.std.specs.Prelude.{◌≡◌, ℕ, ◌⊎◌, true, List, Some, None, slice_get}
use Rattle.jvm_types.specs.ClassNames.{file_of_class}
use Rattle.jvm_types.specs.Members.{is_static, is_synchronized}
use Rattle.jvm_types.specs.declared.program.FieldInfo.{FieldInfo}
use Rattle.jvm_types.specs.declared.program.MethodInfo.{MethodInfo}
use Rattle.checked_program.specs.FrozenPlaces.{IsFrozenField, IsFrozenStatic, IsGuardedField}
use Rattle.checked_program.specs.FrozenPlaces.{IsGuardedStatic}
use Rattle.checked_program.specs.OwnedArrays.{IsOwnedAt}
use Rattle.checked_program.specs.MarkedProgram.{MarkedProgram, IsMarked}
use Rattle.machine_types.specs.Frames.{Top, top_of, effect_at, entry_frame, arguments_of}
use Rattle.machine_types.specs.Frames.{monitor_of}
use Rattle.machine_types.specs.Standing.{Standing, tags_of}
use Rattle.machine_types.specs.Words.{class_object}
use Rattle.machine_types.specs.Structure.{Stands, AttemptStands}
use Rattle.machine_types.specs.Threads.{Frame, Attempt}
use Rattle.machine_types.specs.declared.effect.Variable.{Variable}
use Rattle.machine_types.specs.declared.effect.Variable.TheVariants.{Instance, Static}
use Rattle.machine_types.specs.declared.effect.Effect.{Effect}
use Rattle.machine_types.specs.declared.effect.Effect.TheVariants.{Reads, Writes, Indexes, Makes}
use Rattle.machine_types.specs.declared.effect.Effect.TheVariants.{Prints, Calls, Returns, Enters}
use Rattle.machine_types.specs.declared.effect.Effect.TheVariants.{Leaves, Waits, Notifies}
use Rattle.machine_types.specs.declared.effect.Effect.TheVariants.{NotifiesAll}
use Rattle.machine_types.specs.declared.lock.Held.{Held}
use Rattle.machine_types.specs.declared.phase.Phase.TheVariants as phases

-- a frozen field, or a guarded one of the object m
pub record IsStayingField (c : MarkedProgram) (m reference index : ℕ) : Type 0 where
  pub number : ℕ
  pub field : FieldInfo
  pub is : slice_get c.program.fields number ≡ Some field
  pub place : field.index ≡ index
  pub stays : IsFrozenField c.program (tags_of c) number
      ⊎ (IsGuardedField c.program (tags_of c) number × (reference ≡ m))

-- a final static field, or a guarded one of the class whose monitor is m
pub record IsStayingStatic (c : MarkedProgram) (m word : ℕ) : Type 0 where
  pub number : ℕ
  pub field : FieldInfo
  pub is : slice_get c.program.fields number ≡ Some field
  pub static : is_static field.flags ≡ true
  pub place : field.index ≡ word
  pub stays : IsFrozenStatic c.program number
      ⊎ (IsGuardedStatic c.program (tags_of c) number
      × (class_object c.program (file_of_class field.class) ≡ m))

abbrev pub MayRead : MarkedProgram → (m : ℕ) → Variable → Type 0
MayRead c m (Instance reference index) = IsStayingField c m reference index
MayRead c m (Static word) = IsStayingStatic c m word

-- the array that the instruction takes is one that the receiver, which is m, has in an owned field
pub record TakesOwned (c : MarkedProgram) (m : ℕ) (at : Top) : Type 0 where
  pub stands : Standing c at.frame
  pub owned : IsOwnedAt c.program (tags_of c) at.frame.method stands.number 1
  pub receiver : at.frame.receiver ≡ m

-- a synchronized method that is called, or that returns, has the monitor m (JVMS 2.11.10)
abbrev pub MayDo : MarkedProgram → (m : ℕ) → Top → Effect → Type 0
MayDo c m at (Reads v) = MayRead c m v
MayDo c m at (Writes v word) = ⊥
MayDo c m at (Indexes array index None) = TakesOwned c m at
MayDo c m at (Indexes array index (Some v)) = ⊥
MayDo c m at (Makes word size) = ⊥
MayDo c m at (Prints n) = ⊥
MayDo c m at (Calls number) =
    (called : MethodInfo) → slice_get c.program.methods number ≡ Some called
    → is_synchronized called.flags ≡ true
    → monitor_of c.program called (entry_frame number called (arguments_of c.program at)) ≡ m
MayDo c m at Returns =
    is_synchronized at.method.flags ≡ true → monitor_of c.program at.method at.frame ≡ m
MayDo c m at (Enters n) = n ≡ m
MayDo c m at (Leaves n) = n ≡ m
MayDo c m at (Waits n) = ⊥
MayDo c m at (Notifies n) = ⊥
MayDo c m at (NotifiesAll n) = ⊥
MayDo c m at e = Unit {0}

abbrev pub InsideMayDo : Type 0
InsideMayDo =
    (c : MarkedProgram) (fs : List Frame) (held : List Held) (a : Attempt) (at : Top) → IsMarked c
    → AttemptStands c phases.Run fs held a → Stands c phases.Run fs held (Some a)
    → top_of c.program fs ≡ Some at → MayDo c a.monitor at (effect_at c.program at)
