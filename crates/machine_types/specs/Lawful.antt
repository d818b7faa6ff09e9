-- When the state of a thread is lawful by itself: its monitors, phase and attempt are those that
-- its frames show, its values have the types of verification as far as a thread alone can tell, and
-- its numbers and roots are within their bounds.
use Rattle.std.specs.Prelude.{◌<◌, ℕ, IfSome}
use Rattle.std.specs.List.{AllByRecursion}
use Rattle.jvm_types.specs.declared.program.Program.{Program}
use Rattle.checked_program.specs.MarkedProgram.{MarkedProgram}
use Rattle.machine_types.specs.Bounds.{IsBounded, IsRooted}
use Rattle.machine_types.specs.Structure.{IsStructured}
use Rattle.machine_types.specs.Threads.{Thread}
use Rattle.machine_types.specs.Typed.{Classes, ThreadHolds}
use Rattle.machine_types.specs.declared.phase.Phase.{Phase}
use Rattle.machine_types.specs.declared.phase.Phase.TheVariants.{Made}

-- of a reference a thread alone can tell that it is a word of the heap, and not which object stands
-- there
abbrev pub within : Program → Classes
within p class v = v < p.heap

abbrev pub NewFits : Phase → (heap : ℕ) → Type 0
NewFits (Made a word) heap = a < heap
NewFits phase heap = Unit {0}

pub record IsTypedWithin (c : MarkedProgram) (s : Thread) : Type 0 where
  pub values : ThreadHolds c (within c.program) s
  pub new : NewFits s.phase c.program.heap
  -- of static methods too, where it is 0
  pub receivers : AllByRecursion (λ f. f.receiver < c.program.heap) s.frames
  pub entry : IfSome s.attempt (λ a. a.entry.receiver < c.program.heap)

pub record IsLawful (c : MarkedProgram) (s : Thread) : Type 0 where
  -- the phase that counts, also where a limit has ended the thread
  pub was : Phase
  pub structured : IsStructured c was s
  pub typed : IsTypedWithin c s
  pub bounded : IsBounded c.program s
  pub rooted : IsRooted c.program s
