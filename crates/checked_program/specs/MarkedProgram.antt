-- A program with all that its checks found: it is linked, and each of its methods has a typing and
-- lock tags, each section a mark.
use Rattle.std.specs.Prelude.{List}
use Rattle.std.specs.List.{AllZip}
use Rattle.jvm_types.specs.declared.program.MethodInfo.{MethodInfo}
use Rattle.jvm_types.specs.declared.program.Program.{Program}
use Rattle.jvm_types.specs.declared.typing.Typing.{Typing}
use Rattle.checked_program.specs.CheckedProgram.{CheckedProgram, IsChecked}
use Rattle.checked_program.specs.Tagging.{IsTaggingOf}
use Rattle.checked_program.specs.TaggedCode.{tagged_by}
use Rattle.checked_program.specs.Marks.{AreMarks}
use Rattle.checked_program.specs.declared.tag.Tags.{Tags}
use Rattle.checked_program.specs.declared.section.SectionMark.{SectionMark}

pub record MarkedProgram : Type 0 where
  pub program : Program
  pub typings : List Typing
  pub tags : List Tags
  pub marks : List SectionMark

abbrev pub checked_part : MarkedProgram → CheckedProgram
checked_part c = record { program = c.program; typings = c.typings }

-- of each method its tagging, in the order of the methods
abbrev pub AreTaggings : Program → List MethodInfo → List Tags → Type 0
AreTaggings p ms ts = AllZip (IsTaggingOf p) ms ts

pub record IsMarked (c : MarkedProgram) : Type 0 where
  pub checked : IsChecked (checked_part c)
  pub tags : AreTaggings c.program c.program.methods c.tags
  pub marks : AreMarks c.program (tagged_by c.tags) c.marks
