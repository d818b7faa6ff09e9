-- What linking asks of its caller.
use Rattle.std.specs.Prelude.{ℕ, ◌<◌, ◌≤◌, List, length}
use Rattle.std.specs.List.{AllByRecursion, AllZip}
use Rattle.jvm_types.specs.ClassGrammar.{IsClass}
use Rattle.jvm_types.specs.CodeGrammar.{IsCode}
use Rattle.jvm_types.specs.Members.{Declared, declared_methods}
use Rattle.jvm_types.specs.Linked.{code_of}
use Rattle.jvm_types.specs.declared.limits.TheConstants.{LEAST_HEAP, MOST_FILES, MOST_HEAP}
use Rattle.jvm_types.specs.declared.limits.TheConstants.{MOST_WORKERS}
use Rattle.jvm_types.specs.declared.class_file.ClassFile.{ClassFile}
use Rattle.jvm_types.specs.declared.code.Insn.{Insn}

-- the instructions are those of a method's code
abbrev pub IsDecoded : Declared → List Insn → Type 0
IsDecoded d insns = IsCode (code_of d.member.attrs).bytes (code_of d.member.attrs).rows insns

-- From 1 to 64 class files that some bytes spell, the instructions of all their methods in order,
-- and numbers inside the limits of the machine.
pub record IsLinkable (files : List ClassFile) (code : List (List Insn)) (heap workers : ℕ)
    : Type 0 where
  pub some_file : 0 < length files
  pub few_files : length files ≤ MOST_FILES
  pub classes : AllByRecursion IsClass files
  pub decoded : AllZip IsDecoded (declared_methods files) code
  pub few_workers : workers ≤ MOST_WORKERS
  pub heap_from : LEAST_HEAP ≤ heap
  pub heap_to : heap ≤ MOST_HEAP
