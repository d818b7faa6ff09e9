-- Where an exception goes to no handler.
use Rattle.std.{proofs.Common.{◌≡◌, Bool, true, false, [], refl, ap, ◌&&◌, if◌then◌else◌}, specs.List.list_any}
use Rattle.jvm_types.specs.{CodeTable.can_throw, Verifying.{covers, covering}, declared.{code.Insn.Insn, program.MethodInfo.MethodInfo}}
use Rattle.handler_rows.proofs.PickedRows.{uncovered}
use Rattle.checked_program.specs.Tagging.{until_all, catchers}

pub no_catchers : (m : MethodInfo) (insn : Insn) → (can_throw insn.op && list_any (covers insn.pc) m.rows) ≡ false → catchers m insn ≡ []
no_catchers m insn e = by_tests (can_throw insn.op) (list_any (covers insn.pc) m.rows) refl e
  where
    by_tests : (t s : Bool) → list_any (covers insn.pc) m.rows ≡ s → (t && s) ≡ false → (if t then until_all (covering m insn.pc) else []) ≡ []
    by_tests false s x e = refl
    by_tests true true x e = absurd (cc)
    by_tests true false x e = ap until_all (uncovered insn.pc m.rows x)
