-- The source of each method of some classes, in the order in which a linked program has the
-- methods: that of the files, and in each that of its methods.
use Rattle.std.specs.Prelude.{◌≡◌, ℕ, ◌<◌, List, [], ◌∷◌, ◌++◌, length, map, Option, Some, None}
use Rattle.std.specs.Prelude.{slice_get}
use Rattle.std.specs.Option.{unwrap_or}
use Rattle.jvm_types.specs.LinkFaults.{IsLinked}
use Rattle.jvm_types.specs.Linked.{code_of}
use Rattle.jvm_types.specs.Members.{Declared, class_of_declared, declared_methods, descriptor_of}
use Rattle.jvm_types.specs.Members.{name_of}
use Rattle.jvm_types.specs.declared.class_file.ClassFile.{ClassFile}
use Rattle.jvm_types.specs.declared.class_file.Constant.{Constant}
use Rattle.jvm_types.specs.declared.class_file.Member.{Member}
use Rattle.jvm_types.specs.declared.code.Insn.{Insn}
use Rattle.jvm_types.specs.declared.program.MethodInfo.{MethodInfo}
use Rattle.jvm_types.specs.declared.program.Program.{Program}
use Rattle.source_lines.specs.LineTables.{line_number, lines_of}
use Rattle.source_lines.specs.SourceLines.{latest_among, source_name}
use Rattle.source_lines.specs.declared.sources.MethodLines.{MethodLines}
use Rattle.source_lines.specs.declared.sources.Sources.{Sources}

-- the name of the source of a class, where it has that (JVMS 4.7.7)
abbrev pub class_source : ClassFile → Option (List ℕ)
class_source c = source_name c.constants c.attrs

abbrev pub method_lines : (file : ℕ) → List Constant → Member → MethodLines
method_lines file pool m = record { file = file; lines = lines_of pool (code_of m.attrs) }

abbrev pub declared_lines : Declared → MethodLines
declared_lines d = method_lines d.file d.pool d.member

abbrev pub sources_of : List ClassFile → Sources
sources_of classes = record {
  files = map class_source classes;
  methods = map declared_lines (declared_methods classes);
}

-- with one class more, whose file is the next one
abbrev pub with_class : Sources → ClassFile → Sources
with_class s c = record {
  files = s.files ++ class_source c ∷ [];
  methods = s.methods ++ map (method_lines (length s.files) c.constants) c.methods;
}

-- ---- what they tell of a method, by its number

abbrev pub file_among : List (Option (List ℕ)) → Option MethodLines → Option (List ℕ)
file_among files None = None
file_among files (Some m) = unwrap_or (slice_get files m.file) None

-- the name of its source
abbrev pub source_at : Sources → (method : ℕ) → Option (List ℕ)
source_at s method = file_among s.files (slice_get s.methods method)

abbrev pub line_among : Option MethodLines → (pc : ℕ) → Option ℕ
line_among None pc = None
line_among (Some m) pc = unwrap_or (slice_get m.lines pc) None

-- the line of a pc of it
abbrev pub line_at : Sources → (method pc : ℕ) → Option ℕ
line_at s method pc = line_among (slice_get s.methods method) pc

-- ---- the methods of a program

-- A method of the program is that of a class: what is told of it is the source of this class, and
-- at each pc of its code the line of the start that this class has for it.
pub record IsToldOf (classes : List ClassFile) (number : ℕ) (m : MethodInfo) (d : Declared)
    : Type 0 where
  pub declared : slice_get (declared_methods classes) number ≡ Some d
  pub class : m.class ≡ class_of_declared d
  pub name : m.name ≡ name_of d
  pub descriptor : m.descriptor ≡ descriptor_of d
  pub source : (c : ClassFile) → slice_get classes d.file ≡ Some c
      → source_at (sources_of classes) number ≡ class_source c
  pub lines : (pc : ℕ) → pc < length (code_of d.member.attrs).bytes
      → line_at (sources_of classes) number pc
      ≡ line_number (latest_among d.pool pc None (code_of d.member.attrs).attrs)

-- of all files that are linked to a program
abbrev pub SourcesAreInOrder : Type 0
SourcesAreInOrder =
    (classes : List ClassFile) (code : List (List Insn)) (heap workers : ℕ) (p : Program)
    → IsLinked classes code heap workers p
    → (number : ℕ) (m : MethodInfo) → slice_get p.methods number ≡ Some m
    → (d : Declared) × IsToldOf classes number m d
