-- A program and its tags determine what sections may read, and the marks of all sections.
use Rattle.std.specs.Prelude.{◌≡◌, List}
use Rattle.jvm_types.specs.declared.program.Program.{Program}
use Rattle.checked_program.specs.TaggedCode.{Tagged}
use Rattle.checked_program.specs.OwnedArrays.{AreUses}
use Rattle.checked_program.specs.Marks.{AreMarks}
use Rattle.checked_program.specs.declared.section.SectionMark.{SectionMark}
use Rattle.checked_program.specs.declared.section.Uses.{Uses}

abbrev pub OneUse : Type 0
OneUse =
    (p : Program) (tags : Tagged) (uses others : Uses) → AreUses p tags uses → AreUses p tags others
    → uses ≡ others

abbrev pub OneMark : Type 0
OneMark =
    (p : Program) (tags : Tagged) (marks others : List SectionMark) → AreMarks p tags marks
    → AreMarks p tags others → marks ≡ others
