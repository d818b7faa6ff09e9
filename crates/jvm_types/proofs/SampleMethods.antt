-- Small methods, of which plays and tests speak.
use Rattle.std.proofs.Common.{ℕ, List, [], None, codes}
use Rattle.jvm_types.specs.declared.{code.{Insn.Insn, Op.Op}, program.{MethodInfo.MethodInfo, Row.Row, Target.Target}}

abbrev pub insn : ℕ → ℕ → Op → Insn
insn pc next op = record { pc = pc; next = next; op = op }

-- a method of class 17 without arguments and result
abbrev pub method : ℕ → List ℕ → ℕ → ℕ → List Insn → List Target → List Row → MethodInfo
method flags name max_stack max_locals code named rows = record {
  class = 17;
  flags = flags;
  name = name;
  descriptor = codes "()V";
  args = [];
  result = None;
  max_stack = max_stack;
  max_locals = max_locals;
  code = code;
  targets = named;
  rows = rows;
}
