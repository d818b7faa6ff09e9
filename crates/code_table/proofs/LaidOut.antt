-- A code that is laid out has pcs that ascend.
use Rattle.std.proofs.Common.{ℕ, suc, ◌<◌, ◌≤◌, List, [], ◌∷◌, length, ap, arith}
use Rattle.jvm_types.specs.{CodeGrammar.{SpellsInsns, SpellsOp}, Verifying.IsLaidOut, declared.{code.Insn.Insn, program.MethodInfo.MethodInfo}}
use Rattle.code_table.specs.PcTables.{Ascend}

front_some : (pc : ℕ) (insn : Insn) (front : List ℕ) → SpellsOp pc insn.op front → 0 < length front
front_some pc insn front s = omega (arith, ap length s.is)

spelled_ascend : (low pc : ℕ) (insns : List Insn) (bytes : List ℕ) → low ≤ pc → SpellsInsns pc insns bytes → Ascend low insns
spelled_ascend low pc [] bytes h s = tt
spelled_ascend low pc (insn ∷ insns) bytes h (front, rest, e, at, next, op, more) =
    (omega (arith, h, at), spelled_ascend (suc insn.pc) insn.next insns rest (omega (arith, at, next, front_some pc insn front op)) more)

pub ascend : (m : MethodInfo) → IsLaidOut m → Ascend 0 m.code
ascend m laid = spelled_ascend 0 0 m.code laid.bytes (omega arith) laid.code.spelled
