-- A program that was checked: it is linked, and each of its methods has a typing.
use Rattle.std.specs.Prelude.{List}
use Rattle.std.specs.List.{AllZip}
use Rattle.jvm_types.specs.ProgramInvariant.{IsProgram}
use Rattle.jvm_types.specs.Verifying.{IsTypingOf}
use Rattle.jvm_types.specs.declared.program.Program.{Program}
use Rattle.jvm_types.specs.declared.program.MethodInfo.{MethodInfo}
use Rattle.jvm_types.specs.declared.typing.Typing.{Typing}

pub record CheckedProgram : Type 0 where
  pub program : Program
  pub typings : List Typing

-- of each method its typing, in the order of the methods
abbrev pub AreTypings : Program → List MethodInfo → List Typing → Type 0
AreTypings p ms ts = AllZip (IsTypingOf p) ms ts

pub record IsChecked (c : CheckedProgram) : Type 0 where
  pub program : IsProgram c.program
  pub typings : AreTypings c.program c.program.methods c.typings
