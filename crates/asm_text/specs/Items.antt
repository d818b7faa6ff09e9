-- What the lines of a listing say, the lines that say it, and the fields of their numbers.
use Rattle.std.specs.Prelude.{◌≡◌, ℕ, ◌<◌, ◌^◌, true, IsSomeAnd, FitsSigned, List, [], ◌∷◌, map}
use Rattle.std.specs.Prelude.{codes}
use Rattle.std.specs.List.{AllByRecursion}
use Rattle.std.specs.Int.{w32}
use Rattle.jvm_types.specs.ClassGrammar.{IsByte}
use Rattle.jvm_types.specs.declared.class_file.Constant.{Constant}
use Rattle.jvm_types.specs.declared.class_file.Constant.TheVariants.{Gap, Utf8, Integer, Float}
use Rattle.jvm_types.specs.declared.class_file.Constant.TheVariants.{Long, Double, Class, Text}
use Rattle.jvm_types.specs.declared.class_file.Constant.TheVariants.{Field, Method, InterfaceMethod}
use Rattle.jvm_types.specs.declared.class_file.Constant.TheVariants.{NameAndType}
use Rattle.mnemonics.specs.Mnemonics.{mnemonic}
use Rattle.asm_text.specs.Lines.{Number, Signed, Line, text_of}
use Rattle.asm_text.specs.CodeLines.{name_or_empty, bytes_line}
use Rattle.asm_text.specs.Operands.{shape_at, operands_fit}
use Rattle.asm_text.specs.ClassLines.{constant_line, head_line, interface_line, attr_line, row_line}
use Rattle.asm_text.specs.ClassLines.{end_line, constant_value_line}
use Rattle.asm_text.specs.declared.items.MemberKind.{MemberKind}
use Rattle.asm_text.specs.declared.items.MemberKind.TheVariants as kinds
use Rattle.asm_text.specs.declared.items.Item.{Item}
use Rattle.asm_text.specs.declared.items.Item.TheVariants.{FileHead, Entry, Interface, MemberHead}
use Rattle.asm_text.specs.declared.items.Item.TheVariants.{Attribute, InitialValue, CodeHead}
use Rattle.asm_text.specs.declared.items.Item.TheVariants.{CodeBytes, Instruction, Row, End}

-- ---- lines

abbrev pub member_keyword : MemberKind → List ℕ
member_keyword kinds.Field = codes "fmember"
member_keyword kinds.Method = codes "mmember"

-- the line that says this
abbrev pub item_line : Item → Line
item_line (FileHead minor major flags class super) = head_line minor major flags class super
item_line (Entry c) = constant_line c
item_line (Interface class) = interface_line class
item_line (MemberHead kind flags name descriptor) =
    record
    { name = member_keyword kind; values = Number flags ∷ Number name ∷ Number descriptor ∷ [] }
item_line (Attribute a) = attr_line a
item_line (InitialValue name constant) = constant_value_line name constant
item_line (CodeHead name stack locals) =
    record { name = codes "code"; values = Number name ∷ Number stack ∷ Number locals ∷ [] }
item_line (CodeBytes bytes) = bytes_line bytes
item_line (Instruction opcode operands) =
    record { name = name_or_empty (mnemonic opcode); values = map Signed operands }
item_line (Row h) = row_line h
item_line End = end_line

-- the text of lines
abbrev pub items_text : List Item → List ℕ
items_text items = text_of (map item_line items)

-- ---- fields

abbrev pub ConstantFits : Constant → Type 0
ConstantFits Gap = Unit {0}
ConstantFits (Utf8 text) = AllByRecursion IsByte text
ConstantFits (Integer n) = FitsSigned w32 n
ConstantFits (Float n) = n < 2 ^ 32
ConstantFits (Long n) = n < 2 ^ 64
ConstantFits (Double n) = n < 2 ^ 64
ConstantFits (Class name) = name < 2 ^ 16
ConstantFits (Text string) = string < 2 ^ 16
ConstantFits (Field class member) = (class < 2 ^ 16) × (member < 2 ^ 16)
ConstantFits (Method class member) = (class < 2 ^ 16) × (member < 2 ^ 16)
ConstantFits (InterfaceMethod class member) = (class < 2 ^ 16) × (member < 2 ^ 16)
ConstantFits (NameAndType name descriptor) = (name < 2 ^ 16) × (descriptor < 2 ^ 16)

-- each number is in its field
abbrev pub ItemFits : Item → Type 0
ItemFits (FileHead minor major flags class super) =
    (minor < 2 ^ 16) × (major < 2 ^ 16) × (flags < 2 ^ 16) × (class < 2 ^ 16) × (super < 2 ^ 16)
ItemFits (Entry c) = ConstantFits c
ItemFits (Interface class) = class < 2 ^ 16
ItemFits (MemberHead kind flags name descriptor) =
    (flags < 2 ^ 16) × (name < 2 ^ 16) × (descriptor < 2 ^ 16)
ItemFits (Attribute a) = (a.name < 2 ^ 16) × AllByRecursion IsByte a.body
ItemFits (InitialValue name constant) = (name < 2 ^ 16) × (constant < 2 ^ 16)
ItemFits (CodeHead name stack locals) = (name < 2 ^ 16) × (stack < 2 ^ 16) × (locals < 2 ^ 16)
ItemFits (CodeBytes bytes) = AllByRecursion IsByte bytes
ItemFits (Instruction opcode operands) =
    (opcode < 2 ^ 8) × IsSomeAnd (shape_at opcode) (λ shape. operands_fit shape operands ≡ true)
ItemFits (Row h) =
    (h.start < 2 ^ 16) × (h.end < 2 ^ 16) × (h.handler < 2 ^ 16) × (h.catch_type < 2 ^ 16)
ItemFits End = Unit {0}
