-- The names of lines, but for those of instructions.
use Rattle.std.specs.Prelude.{ℕ, List, [], ◌∷◌, codes, bytes_eq, Option, Some, None, if◌then◌else◌}
use Rattle.asm_text.specs.declared.line_names.LineName.{LineName}
use Rattle.asm_text.specs.declared.line_names.LineName.TheVariants.{File, Utf8, Integer, Float}
use Rattle.asm_text.specs.declared.line_names.LineName.TheVariants.{Long, Double, Gap, Class, Text}
use Rattle.asm_text.specs.declared.line_names.LineName.TheVariants.{Field, Method, InterfaceMethod}
use Rattle.asm_text.specs.declared.line_names.LineName.TheVariants.{NameAndType, Interface}
use Rattle.asm_text.specs.declared.line_names.LineName.TheVariants.{FieldHead, MethodHead}
use Rattle.asm_text.specs.declared.line_names.LineName.TheVariants.{Attribute, InitialValue, Code}
use Rattle.asm_text.specs.declared.line_names.LineName.TheVariants.{CodeBytes, Row, End}
use Rattle.asm_text.specs.declared.line_names.TheConstants.{LINE_NAMES}

abbrev pub line_name : LineName → List ℕ
line_name File = codes "file"
line_name Utf8 = codes "utf8"
line_name Integer = codes "integer"
line_name Float = codes "float"
line_name Long = codes "long"
line_name Double = codes "double"
line_name Gap = codes "gap"
line_name Class = codes "class"
line_name Text = codes "string"
line_name Field = codes "field"
line_name Method = codes "method"
line_name InterfaceMethod = codes "imethod"
line_name NameAndType = codes "nametype"
line_name Interface = codes "interface"
line_name FieldHead = codes "fmember"
line_name MethodHead = codes "mmember"
line_name Attribute = codes "attr"
line_name InitialValue = codes "value"
line_name Code = codes "code"
line_name CodeBytes = codes "bytes"
line_name Row = codes "row"
line_name End = codes "end"

-- the first of these with this name
abbrev pub name_among : List LineName → List ℕ → Option LineName
name_among [] text = None
name_among (name ∷ names) text =
    if bytes_eq (line_name name) text then Some name else name_among names text

abbrev pub line_name_of : List ℕ → Option LineName
line_name_of text = name_among LINE_NAMES text
