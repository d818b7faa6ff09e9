-- The law of linking.
use Rattle.std.specs.Prelude.{ℕ, List}
use Rattle.jvm_types.specs.LinkFaults.{IsLinked}
use Rattle.jvm_types.specs.Linkable.{IsLinkable}
use Rattle.jvm_types.specs.ProgramInvariant.{IsProgram}
use Rattle.jvm_types.specs.declared.class_file.ClassFile.{ClassFile}
use Rattle.jvm_types.specs.declared.code.Insn.{Insn}
use Rattle.jvm_types.specs.declared.program.Program.{Program}

-- what files are linked to keeps the invariant of a program
abbrev pub LinksToProgram : Type 0
LinksToProgram =
    (files : List ClassFile) (code : List (List Insn)) (heap workers : ℕ) (program : Program)
    → IsLinkable files code heap workers → IsLinked files code heap workers program
    → IsProgram program
