-- The memory of the plain machine as one value.
use Rattle.std.specs.Prelude.{ℕ, List}
use Rattle.jvm_types.specs.ProgramInvariant.{words_of}
use Rattle.jvm_types.specs.declared.program.Program.{Program}
use Rattle.machine_types.specs.PlainMemory.{Object, StaticValue, start_objects, start_statics}

pub record Memory : Type 0 where
  pub objects : List Object
  pub statics : List StaticValue
  -- the number for the next reference
  pub next : ℕ

abbrev pub start_memory : Program → Memory
start_memory p = record { objects = start_objects p; statics = start_statics p; next = words_of p }
