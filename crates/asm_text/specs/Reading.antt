-- What a line says, whatever it is.
use Rattle.std.specs.Prelude.{◌≡◌, ℕ, ℤ, Bool, true, false, List, Option, Some, None}
use Rattle.jvm_types.specs.declared.class_file.Constant.TheVariants as constants
use Rattle.mnemonics.specs.Mnemonics.{opcode_of}
use Rattle.asm_text.specs.Lines.{line_text}
use Rattle.asm_text.specs.Words.{words, word_at, u2_word, u4_word, u8_word, s4_word, hex_word}
use Rattle.asm_text.specs.Words.{operand_words}
use Rattle.asm_text.specs.LineNames.{line_name_of}
use Rattle.asm_text.specs.Operands.{shape_at, operands_fit}
use Rattle.asm_text.specs.Items.{item_line, ItemFits}
use Rattle.asm_text.specs.declared.line_names.LineName.{LineName}
use Rattle.asm_text.specs.declared.line_names.LineName.TheVariants.{File, Utf8, Integer, Float}
use Rattle.asm_text.specs.declared.line_names.LineName.TheVariants.{Long, Double, Gap, Class, Text}
use Rattle.asm_text.specs.declared.line_names.LineName.TheVariants.{Field, Method, InterfaceMethod}
use Rattle.asm_text.specs.declared.line_names.LineName.TheVariants.{NameAndType, Interface}
use Rattle.asm_text.specs.declared.line_names.LineName.TheVariants.{FieldHead, MethodHead}
use Rattle.asm_text.specs.declared.line_names.LineName.TheVariants.{Attribute, InitialValue, Code}
use Rattle.asm_text.specs.declared.line_names.LineName.TheVariants.{CodeBytes, Row, End}
use Rattle.asm_text.specs.declared.items.MemberKind.TheVariants as kinds
use Rattle.asm_text.specs.declared.items.Item.{Item}
use Rattle.asm_text.specs.declared.items.Item.TheVariants as items
use Rattle.asm_text.specs.declared.shapes.Shape.{Shape}

-- what these words say, the first of which is this name
abbrev pub named_item : LineName → List (List ℕ) → Item
named_item File ws =
    items.FileHead (u2_word ws 1) (u2_word ws 2) (u2_word ws 3) (u2_word ws 4) (u2_word ws 5)
named_item Utf8 ws = items.Entry (constants.Utf8 (hex_word ws 1))
named_item Integer ws = items.Entry (constants.Integer (s4_word ws 1))
named_item Float ws = items.Entry (constants.Float (u4_word ws 1))
named_item Long ws = items.Entry (constants.Long (u8_word ws 1))
named_item Double ws = items.Entry (constants.Double (u8_word ws 1))
named_item Gap ws = items.Entry constants.Gap
named_item Class ws = items.Entry (constants.Class (u2_word ws 1))
named_item Text ws = items.Entry (constants.Text (u2_word ws 1))
named_item Field ws = items.Entry (constants.Field (u2_word ws 1) (u2_word ws 2))
named_item Method ws = items.Entry (constants.Method (u2_word ws 1) (u2_word ws 2))
named_item InterfaceMethod ws =
    items.Entry (constants.InterfaceMethod (u2_word ws 1) (u2_word ws 2))
named_item NameAndType ws = items.Entry (constants.NameAndType (u2_word ws 1) (u2_word ws 2))
named_item Interface ws = items.Interface (u2_word ws 1)
named_item FieldHead ws = items.MemberHead kinds.Field (u2_word ws 1) (u2_word ws 2) (u2_word ws 3)
named_item MethodHead ws =
    items.MemberHead kinds.Method (u2_word ws 1) (u2_word ws 2) (u2_word ws 3)
named_item Attribute ws = items.Attribute (record { name = u2_word ws 1; body = hex_word ws 2 })
named_item InitialValue ws = items.InitialValue (u2_word ws 1) (u2_word ws 2)
named_item Code ws = items.CodeHead (u2_word ws 1) (u2_word ws 2) (u2_word ws 3)
named_item CodeBytes ws = items.CodeBytes (hex_word ws 1)
named_item Row ws =
    items.Row (record {
      start = u2_word ws 1;
      «end» = u2_word ws 2;
      handler = u2_word ws 3;
      catch_type = u2_word ws 4;
    })
named_item End ws = items.End

-- what a line says whose first word is the name of lines, or a mnemonic; the end where it is
-- neither
abbrev pub item_by : Option LineName → Option ℕ → List (List ℕ) → Item
item_by (Some name) opcode ws = named_item name ws
item_by None (Some opcode) ws = items.Instruction opcode (operand_words ws)
item_by None None ws = items.End

abbrev pub item_in : List (List ℕ) → Item
item_in ws = item_by (line_name_of (word_at ws 0)) (opcode_of (word_at ws 0)) ws

abbrev pub rough_item : List ℕ → Item
rough_item line = item_in (words line)

-- the operands of an instruction are in their fields
abbrev pub shape_fits : Option Shape → List ℤ → Bool
shape_fits None operands = false
shape_fits (Some shape) operands = operands_fit shape operands

abbrev pub insn_fits : Item → Bool
insn_fits (items.Instruction opcode operands) = shape_fits (shape_at opcode) operands
insn_fits item = true

-- what a line with its newline says, or None where it has no form
abbrev pub IsLineRead : List ℕ → Option Item → Type 0
IsLineRead line (Some item) = ItemFits item × (line ≡ line_text (item_line item))
IsLineRead line None = (item : Item) → ItemFits item → line ≡ line_text (item_line item) → ⊥
