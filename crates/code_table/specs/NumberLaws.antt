-- What the number of the instruction at a pc is.
use Rattle.std.specs.Prelude.{◌≡◌, ◌↔◌, ℕ, Some, IsSomeAnd, slice_get}
use Rattle.jvm_types.specs.Verifying.{IsLaidOut}
use Rattle.jvm_types.specs.declared.program.MethodInfo.{MethodInfo}
use Rattle.code_table.specs.PcTables.{number_at}

-- it is i exactly where instruction i has that pc
abbrev pub NumbersAreExact : Type 0
NumbersAreExact =
    (m : MethodInfo) (pc i : ℕ) → IsLaidOut m
    → (number_at m.code pc ≡ Some i) ↔ IsSomeAnd (slice_get m.code i) (λ insn. insn.pc ≡ pc)
