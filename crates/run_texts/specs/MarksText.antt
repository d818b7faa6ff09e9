-- The marks of a program as text: a line for each section, with its method, where it begins, and
-- its mark.
use Rattle.std.specs.Prelude.{ℕ, ◌-◌, List, [], ◌++◌, codes, Option, Some, None, slice_get}
use Rattle.std.specs.List.{flat_map}
use Rattle.std.specs.Fmt.{decimal}
use Rattle.jvm_types.specs.declared.class_numbers.TheConstants.{FIRST_FILE_CLASS}
use Rattle.jvm_types.specs.declared.program.MethodInfo.{MethodInfo}
use Rattle.jvm_types.specs.declared.program.Program.{Program}
use Rattle.checked_program.specs.declared.section.SectionMark.{SectionMark}
use Rattle.checked_program.specs.declared.section.Spot.{Spot}
use Rattle.checked_program.specs.declared.section.Spot.TheVariants.{Method, Block}
use Rattle.run_texts.specs.Report.{line}

-- a synchronized method's own section, or the block that begins at a pc
abbrev pub spot_text : Spot → List ℕ
spot_text Method = codes "method"
spot_text (Block pc) = codes "block " ++ decimal pc

abbrev pub text_or_none : Option (List ℕ) → List ℕ
text_or_none None = []
text_or_none (Some text) = text

-- the name of a class of the files, by the number of the class
abbrev pub class_text : List (List ℕ) → ℕ → List ℕ
class_text names class = text_or_none (slice_get names (class - FIRST_FILE_CLASS))

-- class, name and descriptor of a method
abbrev pub method_words : List (List ℕ) → Option MethodInfo → List ℕ
method_words names None = []
method_words names (Some m) = class_text names m.class ++ codes "." ++ m.name ++ m.descriptor

abbrev pub mark_words : SectionMark → List ℕ
mark_words s = line (codes " " ++ spot_text s.spot ++ codes " M" ++ decimal s.mark)

abbrev pub mark_line : Program → SectionMark → List ℕ
mark_line p s = method_words p.names (slice_get p.methods s.method) ++ mark_words s

abbrev pub marks_text : Program → List SectionMark → List ℕ
marks_text p marks = flat_map (mark_line p) marks
