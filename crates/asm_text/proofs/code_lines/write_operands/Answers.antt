use Rattle.std.proofs.Common.{◌≡◌, ◌++◌, refl, sym, append-nil, string_bytes}
use Rattle.jvm_types.specs.declared.code.Op.{Op}
use Rattle.asm_text.specs.{CodeLines.operands, Lines.values_text}
use Rattle.asm_text.proofs.code_lines.write_operands.Goals as goal
use Rattle.jvm_types.specs.declared.code.Op.TheVariants as ops

pub returns-in_default : goal.returns-in_default
returns-in_default c = by_op c.args.op.now refl
  where
    by_op : (op : Op) → c.args.op.now ≡ op → string_bytes c.args.text.now ≡ string_bytes c.args.text.now ++ values_text (operands op)
    by_op (ops.Bipush x) e = absurd (c.in_default.not-Bipush x e)
    by_op (ops.Sipush x) e = absurd (c.in_default.not-Sipush x e)
    by_op (ops.Ldc x) e = absurd (c.in_default.not-Ldc x e)
    by_op (ops.LdcW x) e = absurd (c.in_default.not-LdcW x e)
    by_op (ops.Iload x) e = absurd (c.in_default.not-Iload x e)
    by_op (ops.Aload x) e = absurd (c.in_default.not-Aload x e)
    by_op (ops.Istore x) e = absurd (c.in_default.not-Istore x e)
    by_op (ops.Astore x) e = absurd (c.in_default.not-Astore x e)
    by_op (ops.IfAcmpeq x) e = absurd (c.in_default.not-IfAcmpeq x e)
    by_op (ops.IfAcmpne x) e = absurd (c.in_default.not-IfAcmpne x e)
    by_op (ops.Ifnull x) e = absurd (c.in_default.not-Ifnull x e)
    by_op (ops.Ifnonnull x) e = absurd (c.in_default.not-Ifnonnull x e)
    by_op (ops.Goto x) e = absurd (c.in_default.not-Goto x e)
    by_op (ops.GotoW x) e = absurd (c.in_default.not-GotoW x e)
    by_op (ops.Getstatic x) e = absurd (c.in_default.not-Getstatic x e)
    by_op (ops.Putstatic x) e = absurd (c.in_default.not-Putstatic x e)
    by_op (ops.Getfield x) e = absurd (c.in_default.not-Getfield x e)
    by_op (ops.Putfield x) e = absurd (c.in_default.not-Putfield x e)
    by_op (ops.Invokevirtual x) e = absurd (c.in_default.not-Invokevirtual x e)
    by_op (ops.Invokespecial x) e = absurd (c.in_default.not-Invokespecial x e)
    by_op (ops.Invokestatic x) e = absurd (c.in_default.not-Invokestatic x e)
    by_op (ops.New x) e = absurd (c.in_default.not-New x e)
    by_op (ops.Iinc x y) e = absurd (c.in_default.not-Iinc x y e)
    by_op (ops.If x y) e = absurd (c.in_default.not-If x y e)
    by_op (ops.IfIcmp x y) e = absurd (c.in_default.not-IfIcmp x y e)
    by_op (ops.Lookupswitch x y) e = absurd (c.in_default.not-Lookupswitch x y e)
    by_op (ops.Tableswitch x y z) e = absurd (c.in_default.not-Tableswitch x y z e)
    by_op ops.Newarray e = absurd (c.in_default.not-Newarray e)
    by_op op e = sym (append-nil _)
