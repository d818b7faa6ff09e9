-- Where instructions stand: the number of the one that begins at a pc.
use Rattle.std.specs.Prelude.{◌≡◌, ◌≤◌, ℕ, suc, ◌==◌, if◌then◌else◌, List, [], ◌∷◌, Option, Some}
use Rattle.std.specs.Prelude.{None, slice_index_or}
use Rattle.std.specs.Option.{option_map}
use Rattle.jvm_types.specs.Verifying.{IsLaidOut}
use Rattle.jvm_types.specs.declared.code.Insn.{Insn}
use Rattle.jvm_types.specs.declared.program.MethodInfo.{MethodInfo}

abbrev pub number_at : List Insn → ℕ → Option ℕ
number_at [] pc = None
number_at (insn ∷ insns) pc = if insn.pc == pc then Some 0 else option_map suc (number_at insns pc)

-- the pcs of the instructions ascend, from one on
abbrev pub Ascend : ℕ → List Insn → Type 0
Ascend low [] = Unit {0}
Ascend low (insn ∷ insns) = (low ≤ insn.pc) × Ascend (suc insn.pc) insns

-- a table has for each pc the number of the instruction that begins there
abbrev pub IsPcTable : List Insn → List (Option ℕ) → Type 0
IsPcTable code numbers = (pc : ℕ) → slice_index_or numbers pc None ≡ number_at code pc

-- a method whose code is laid out, and so ascends, and the table of its code
pub record IsIndexed (m : MethodInfo) (numbers : List (Option ℕ)) : Type 0 where
  pub laid : IsLaidOut m
  pub ascend : Ascend 0 m.code
  pub table : IsPcTable m.code numbers
