-- Places of a program, fact by fact: the class, the method, a pc of it and the mnemonic of the
-- instruction that begins there, and the line of the source that it comes from.
use Rattle.std.specs.Prelude.{ℕ, List, [], ◌∷◌, ◌++◌, Option, Some, None, slice_get}
use Rattle.jvm_types.specs.CodeTable.{opcode}
use Rattle.jvm_types.specs.declared.code.Insn.{Insn}
use Rattle.jvm_types.specs.declared.code.Op.{Op}
use Rattle.jvm_types.specs.declared.program.MethodInfo.{MethodInfo}
use Rattle.jvm_types.specs.declared.program.Program.{Program}
use Rattle.code_table.specs.PcTables.{number_at}
use Rattle.mnemonics.specs.Mnemonics.{mnemonic}
use Rattle.source_lines.specs.Sources.{line_at, source_at}
use Rattle.source_lines.specs.declared.sources.Sources.{Sources}
use Rattle.run_texts.specs.MarksText.{class_text, text_or_none}
use Rattle.tellings.specs.declared.facts.Fact.{Fact}
use Rattle.tellings.specs.declared.facts.Fact.TheVariants.{Count, Text}
use Rattle.tellings.specs.declared.keys.Key.TheVariants as keys

-- the class and the name of a method
abbrev pub method_facts : List (List ℕ) → Option MethodInfo → List Fact
method_facts names None = []
method_facts names (Some m) =
    Text keys.Class (class_text names m.class) ∷ Text keys.Method (m.name ++ m.descriptor) ∷ []

-- the mnemonic of an instruction
abbrev pub op_name : Op → List ℕ
op_name op = text_or_none (mnemonic (opcode op))

abbrev pub insn_facts : Option Insn → List Fact
insn_facts None = []
insn_facts (Some insn) = Text keys.Instruction (op_name insn.op) ∷ []

abbrev pub pc_insn_facts : (pc : ℕ) → Option Insn → List Fact
pc_insn_facts pc insn = Count keys.Pc pc ∷ insn_facts insn

-- the instruction at a pc, by its number
abbrev pub insn_of_number : MethodInfo → Option ℕ → Option Insn
insn_of_number m None = None
insn_of_number m (Some i) = slice_get m.code i

abbrev pub insn_at : Option MethodInfo → ℕ → Option Insn
insn_at None pc = None
insn_at (Some m) pc = insn_of_number m (number_at m.code pc)

-- the file of the source, and the line there, where the class has them (JVMS 4.7.7, 4.7.8)
abbrev pub source_line_facts : (file : Option (List ℕ)) → (line : Option ℕ) → List Fact
source_line_facts (Some file) (Some line) =
    Text keys.SourceOfLine file ∷ Count keys.LineOfSource line ∷ []
source_line_facts (Some file) None = Text keys.SourceAlone file ∷ []
source_line_facts None (Some line) = Count keys.LineAlone line ∷ []
source_line_facts None None = []

abbrev pub source_facts_at : Sources → (method pc : ℕ) → List Fact
source_facts_at s method pc = source_line_facts (source_at s method) (line_at s method pc)

abbrev pub place_facts : Program → Sources → (method pc : ℕ) → List Fact
place_facts p s method pc =
    method_facts p.names (slice_get p.methods method)
    ++ pc_insn_facts pc (insn_at (slice_get p.methods method) pc) ++ source_facts_at s method pc
