-- The class that the target of an instruction names, by the number of the instruction.
use Rattle.std.specs.Prelude.{ℕ, List, Option, Some, None, slice_get}
use Rattle.jvm_types.specs.declared.program.Target.{Target}
use Rattle.jvm_types.specs.declared.program.Target.TheVariants.{Class}

abbrev pub class_named : Option Target → Option ℕ
class_named (Some (Class class)) = Some class
class_named target = None

abbrev pub class_at_target : List Target → Option ℕ → Option ℕ
class_at_target targets None = None
class_at_target targets (Some i) = class_named (slice_get targets i)
