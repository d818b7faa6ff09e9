-- The names of what a place is of, in the class that the file spells.
use Rattle.std.specs.Prelude.{ℕ, ◌==◌, nat_le, Bool, ◌&&◌, ◌||◌, not, List, [], ◌∷◌, ◌++◌, drop}
use Rattle.std.specs.Prelude.{codes, slice_get, Option, Some, None, is_none, if◌then◌else◌}
use Rattle.std.specs.List.{find}
use Rattle.std.specs.Fmt.{decimal, signed_decimal}
use Rattle.jvm_types.specs.ClassNames.{class_name, class_number, class_text_at, text_at}
use Rattle.jvm_types.specs.Descriptors.{method_signature}
use Rattle.jvm_types.specs.Linked.{code_of}
use Rattle.jvm_types.specs.declared.class_file.ClassFile.{ClassFile}
use Rattle.jvm_types.specs.declared.class_file.Code.{Code}
use Rattle.jvm_types.specs.declared.class_file.Constant.{Constant}
use Rattle.jvm_types.specs.declared.class_file.Constant.TheVariants as constants
use Rattle.jvm_types.specs.declared.class_file.Handler.{Handler}
use Rattle.jvm_types.specs.declared.class_file.Member.{Member}
use Rattle.source_lines.specs.SourceLines.{first_index, latest_among, source_name}
use Rattle.source_lines.specs.declared.line_starts.LineStart.{LineStart}
use Rattle.mnemonics.specs.Mnemonics.{mnemonic}
use Rattle.tellings.specs.declared.facts.Fact.{Fact}
use Rattle.tellings.specs.declared.facts.Fact.TheVariants.{Text, Count}
use Rattle.tellings.specs.declared.keys.Key.TheVariants as keys
use Rattle.refusal_places.specs.declared.spots.Spot.{Spot}
use Rattle.refusal_places.specs.declared.spots.Spot.TheVariants.{Offset, Whole, Field, Method, Row}
use Rattle.refusal_places.specs.declared.spots.Spot.TheVariants.{Instruction, Use}

-- ---- constants

-- name and descriptor, with a text between them
abbrev pub pair_words : List Constant → (between : List ℕ) → Option Constant → List ℕ
pair_words pool between (Some (constants.NameAndType name descriptor)) =
    text_at pool name ++ between ++ text_at pool descriptor
pair_words pool between entry = []

-- a member of a class: `CLASS.NAME DESCRIPTOR` of a field, `CLASS.NAMEDESCRIPTOR` of a method
abbrev pub member_words : List Constant → (between : List ℕ) → (class member : ℕ) → List ℕ
member_words pool between class member =
    class_text_at pool class ++ codes "." ++ pair_words pool between (slice_get pool member)

-- what an entry of the pool stands for (JVMS 4.4)
unfoldable pub constant_words : List Constant → Constant → List ℕ
constant_words pool constants.Gap = codes "no constant"
constant_words pool (constants.Utf8 text) = codes "a text"
constant_words pool (constants.Integer n) = signed_decimal n
constant_words pool (constants.Float n) = codes "a float"
constant_words pool (constants.Long n) = codes "a long"
constant_words pool (constants.Double n) = codes "a double"
constant_words pool (constants.Class name) = text_at pool name
constant_words pool (constants.Text string) = codes "a string"
constant_words pool (constants.Field class member) = member_words pool (codes " ") class member
constant_words pool (constants.Method class member) = member_words pool [] class member
constant_words pool (constants.InterfaceMethod class member) = member_words pool [] class member
constant_words pool (constants.NameAndType name descriptor) =
    text_at pool name ++ codes " " ++ text_at pool descriptor

abbrev pub constant_facts : List Constant → Option Constant → List Fact
constant_facts pool None = []
constant_facts pool (Some entry) = Text keys.Constant (constant_words pool entry) ∷ []

-- ---- instructions

-- whether the two bytes behind an opcode are an index of the pool (JVMS 6.5), also of instructions
-- that this machine does not have: `ldc_w`, `ldc2_w`; `getstatic` to `new`; `anewarray`;
-- `checkcast` and `instanceof`; `multianewarray`
abbrev pub has_index : ℕ → Bool
has_index opcode =
    (nat_le 0x13 opcode && nat_le opcode 0x14) || (nat_le 0xb2 opcode && nat_le opcode 0xbb)
    || (opcode == 0xbd) || (nat_le 0xc0 opcode && nat_le opcode 0xc1) || (opcode == 0xc5)

abbrev pub first_byte : List ℕ → Option ℕ
first_byte [] = None
first_byte (b ∷ rest) = Some b

-- the index that an instruction has; that of `ldc` is one byte
abbrev pub index_in : (opcode : ℕ) → List ℕ → Option ℕ
index_in opcode rest =
    if opcode == 0x12 then first_byte rest else if has_index opcode then first_index rest else None

-- the mnemonic of an instruction, or its opcode where the standard has none for it
abbrev pub words_or_opcode : ℕ → Option (List ℕ) → List ℕ
words_or_opcode opcode (Some name) = name
words_or_opcode opcode None = codes "opcode " ++ decimal opcode

abbrev pub pool_entry_at : List Constant → Option ℕ → Option Constant
pool_entry_at pool None = None
pool_entry_at pool (Some i) = slice_get pool i

-- the instruction at the front of the bytes of a code
unfoldable pub instruction_facts : List Constant → List ℕ → List Fact
instruction_facts pool [] = []
instruction_facts pool (opcode ∷ rest) =
    Text keys.InstructionOf (words_or_opcode opcode (mnemonic opcode))
    ∷ constant_facts pool (pool_entry_at pool (index_in opcode rest))

-- ---- methods and their code

abbrev pub line_facts : Option LineStart → List Fact
line_facts None = []
line_facts (Some start) = Count keys.Line start.line ∷ []

-- a pc: the instruction there, and the line of the source that it comes from
abbrev pub pc_facts : List Constant → ℕ → Code → List Fact
pc_facts pool pc code =
    Count keys.PcOf pc ∷ instruction_facts pool (drop pc code.bytes)
    ++ line_facts (latest_among pool pc None code.attrs)

-- the class that a handler row catches, where it doesn't catch all
abbrev pub catch_facts : List Constant → Handler → List Fact
catch_facts pool row =
    if row.catch_type == 0 then [] else Text keys.Catch (class_text_at pool row.catch_type) ∷ []

-- a handler row begins at a pc, and its class is none of a program whose classes have these names
abbrev pub catches_unknown : List (List ℕ) → List Constant → ℕ → Handler → Bool
catches_unknown names pool pc row =
    (row.start == pc) && not (row.catch_type == 0)
    && is_none (class_number names (class_text_at pool row.catch_type))

-- the class of the first such row
abbrev pub unknown_facts : List Constant → Option Handler → List Fact
unknown_facts pool None = []
unknown_facts pool (Some row) = Text keys.Catch (class_text_at pool row.catch_type) ∷ []

-- a handler row: its number, the pcs from which and to which it covers, and that of its handler
abbrev pub row_facts : List Constant → ℕ → Option Handler → List Fact
row_facts pool number None = []
row_facts pool number (Some row) =
    Count keys.RowOf number ∷ Count keys.From row.start ∷ Count keys.To row.end
    ∷ Count keys.Handler row.handler ∷ catch_facts pool row

abbrev pub method_fact : List Constant → Member → Fact
method_fact pool m = Text keys.MethodOf (text_at pool m.name ++ text_at pool m.descriptor)

abbrev pub field_fact : List Constant → Member → Fact
field_fact pool m = Text keys.FieldOf (text_at pool m.name ++ codes " " ++ text_at pool m.descriptor)

-- ---- what a place is of, where the class has it

abbrev pub at_field : List Constant → Option Member → List Fact
at_field pool None = []
at_field pool (Some m) = field_fact pool m ∷ []

abbrev pub at_method : List Constant → Option Member → List Fact
at_method pool None = []
at_method pool (Some m) = method_fact pool m ∷ []

abbrev pub at_row : List Constant → ℕ → Option Member → List Fact
at_row pool number None = []
at_row pool number (Some m) =
    method_fact pool m ∷ row_facts pool number (slice_get (code_of m.attrs).rows number)

abbrev pub at_instruction : List Constant → ℕ → Option Member → List Fact
at_instruction pool pc None = []
at_instruction pool pc (Some m) = method_fact pool m ∷ pc_facts pool pc (code_of m.attrs)

-- the descriptor of a method has a type that is none of such a program
abbrev pub has_wrong_descriptor : List (List ℕ) → List Constant → Member → Bool
has_wrong_descriptor names pool m = is_none (method_signature names (text_at pool m.descriptor))

-- What is not there stands in the descriptor, whose place is 0 and which is looked at first, or an
-- instruction uses it, or a handler row that begins at the place.
abbrev pub use_facts : List (List ℕ) → List Constant → ℕ → Member → List Fact
use_facts names pool pc m =
    if (pc == 0) && has_wrong_descriptor names pool m then []
    else pc_facts pool pc (code_of m.attrs)
    ++ unknown_facts pool (find (catches_unknown names pool pc) (code_of m.attrs).rows)

abbrev pub at_use : List (List ℕ) → List Constant → ℕ → Option Member → List Fact
at_use names pool pc None = []
at_use names pool pc (Some m) = method_fact pool m ∷ use_facts names pool pc m

-- in a program whose classes have these names
abbrev pub spot_facts : List (List ℕ) → ClassFile → Spot → List Fact
spot_facts names c (Offset at) = Count keys.Offset at ∷ []
spot_facts names c Whole = []
spot_facts names c (Field number) = at_field c.constants (slice_get c.fields number)
spot_facts names c (Method method) = at_method c.constants (slice_get c.methods method)
spot_facts names c (Row method number) = at_row c.constants number (slice_get c.methods method)
spot_facts names c (Instruction method pc) =
    at_instruction c.constants pc (slice_get c.methods method)
spot_facts names c (Use method pc) = at_use names c.constants pc (slice_get c.methods method)

abbrev pub source_facts : Option (List ℕ) → List Fact
source_facts None = []
source_facts (Some name) = Text keys.Source name ∷ []

-- the class, the name of its source where it has that, and what the place is of
abbrev pub class_facts : List (List ℕ) → ClassFile → Spot → List Fact
class_facts names c s =
    Text keys.ClassOf (class_name c) ∷ source_facts (source_name c.constants c.attrs)
    ++ spot_facts names c s
