-- Why files were not linked, and what the parts of linking ask and answer.
use Rattle.std.specs.Prelude.{◌≡◌, ℕ, ◌+◌, ◌*◌, List, ◌++◌, length, map, drop, Option, Some, None}
use Rattle.std.specs.declared.result.Result.{Result}
use Rattle.std.specs.declared.result.Result.TheVariants.{Ok, Err}
use Rattle.std.specs.List.{zip}
use Rattle.jvm_types.specs.Members.{Declared}
use Rattle.jvm_types.specs.Targets.{Scope}
use Rattle.jvm_types.specs.Linked.{linked_methods}
use Rattle.jvm_types.specs.LinkFaults.{LinkFault, first_fault, uses_fault}
use Rattle.jvm_types.specs.declared.class_file.Member.{Member as ClassMember}
use Rattle.jvm_types.specs.declared.code.Insn.{Insn}
use Rattle.jvm_types.specs.declared.program.MethodInfo.{MethodInfo}
use Rattle.link_scope.specs.Scoping.{FileOf}
use Rattle.linker.specs.declared.error.LinkError.{LinkError}
use Rattle.linker.specs.declared.error.LinkError.TheVariants.{Memory, Refused}

-- memory ran out, or this is the first refusal
abbrev pub IsLinkErrorOf : Option LinkFault → LinkError → Type 0
IsLinkErrorOf fault Memory = Unit {0}
IsLinkErrorOf fault (Refused rule place) = fault ≡ Some (rule, place)

-- what is made where nothing refuses it; or what refuses it
abbrev pub IsMadeOrRefused : {A : Type 0} → Option LinkFault → A → Result A LinkFault → Type 0
IsMadeOrRefused fault made (Ok x) = (fault ≡ None) × (x ≡ made)
IsMadeOrRefused fault made (Err e) = fault ≡ Some e

-- the same, but where memory ran out
abbrev pub Links : {A : Type 0} → Option LinkFault → A → Result A LinkError → Type 0
Links fault made (Ok x) = (fault ≡ None) × (x ≡ made)
Links fault made (Err e) = IsLinkErrorOf fault e

-- ---- methods

-- a method of a file, with its number in its class
abbrev pub method_of : FileOf → (number : ℕ) → ClassMember → Declared
method_of f number m =
    record { file = f.number; place = number; pool = f.class.constants; member = m }

-- the first refusal of what some methods use, whose instructions are the first of a list
abbrev pub use_faults : Scope → List Declared → List (List Insn) → Option LinkFault
use_faults s methods code = first_fault (map (uses_fault s) (zip methods code))

-- nothing refuses some methods, which stand behind those before them, with the first instructions
-- of a list; the rest are left
pub record AreLinked (s : Scope) (methods : List Declared) (code left : List (List Insn))
    (old new : List MethodInfo) : Type 0 where
  pub unrefused : use_faults s methods code ≡ None
  pub rest : left ≡ drop (length methods) code
  pub added : new ≡ old ++ linked_methods s (zip methods code)

-- the bytes that a method has of its name, its descriptor and the types of its arguments
abbrev pub copied_bytes : MethodInfo → ℕ
copied_bytes m = length m.name + length m.descriptor + 4 * length m.args
