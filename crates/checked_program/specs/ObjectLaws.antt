-- The law of objects that are not finished yet: what an `<init>` of a frozen class does with
-- `this`. Where the types of what a `new` made may stand is a law of typings (`new_is_behind`).
use Rattle.std.specs.Prelude.{◌≡◌, ◌≢◌, ◌<◌, ◌≤◌, ℕ, true, List, slice_get, slice_index_or}
use Rattle.jvm_types.specs.CodeTable.{is_init}
use Rattle.jvm_types.specs.ProgramInvariant.{IsProgram}
use Rattle.jvm_types.specs.declared.code.Insn.{Insn}
use Rattle.jvm_types.specs.declared.code.Op.{Op}
use Rattle.jvm_types.specs.declared.code.Op.TheVariants as ops
use Rattle.jvm_types.specs.declared.program.Target.{Target}
use Rattle.jvm_types.specs.declared.program.Target.TheVariants as targets
use Rattle.jvm_types.specs.declared.program.MethodInfo.{MethodInfo}
use Rattle.jvm_types.specs.declared.program.Program.{Program}
use Rattle.checked_program.specs.LockTags.{TagShape}
use Rattle.checked_program.specs.TaggedCode.{Tagged, IsAt}
use Rattle.checked_program.specs.FrozenPlaces.{IsFrozenClass}
use Rattle.checked_program.specs.Marks.{args_of}
use Rattle.checked_program.specs.declared.tag.Tag.{Tag}
use Rattle.checked_program.specs.declared.tag.Tag.TheVariants.{Untagged, This}

abbrev pub IsNotThis : List Tag → ℕ → Type 0
IsNotThis stack k = slice_index_or stack k Untagged ≢ This

-- an instruction puts `this` in no place and no local, gives it to no method and no caller, throws
-- it not, locks it not, and compares it with no other value
abbrev pub HidesThis : Program → Op → Target → List Tag → Type 0
HidesThis p (ops.Putfield i) target stack = IsNotThis stack 0
HidesThis p (ops.Putstatic i) target stack = IsNotThis stack 0
HidesThis p (ops.Astore i) target stack = IsNotThis stack 0
HidesThis p (ops.Invokevirtual i) (targets.Method u) stack =
    (k : ℕ) → k ≤ args_of (slice_get p.methods u) → IsNotThis stack k
HidesThis p (ops.Invokevirtual i) target stack = IsNotThis stack 0
HidesThis p (ops.Invokespecial i) (targets.Method u) stack =
    (k : ℕ) → k ≤ args_of (slice_get p.methods u) → IsNotThis stack k
HidesThis p (ops.Invokestatic i) (targets.Method u) stack =
    (k : ℕ) → k < args_of (slice_get p.methods u) → IsNotThis stack k
HidesThis p ops.Areturn target stack = IsNotThis stack 0
HidesThis p ops.Athrow target stack = IsNotThis stack 0
HidesThis p ops.Monitorenter target stack = IsNotThis stack 0
HidesThis p ops.Monitorexit target stack = IsNotThis stack 0
HidesThis p (ops.IfAcmpeq to) target stack = IsNotThis stack 0 × IsNotThis stack 1
HidesThis p (ops.IfAcmpne to) target stack = IsNotThis stack 0 × IsNotThis stack 1
HidesThis p op target stack = Unit {0}

-- in an `<init>` of a frozen class every instruction does so
abbrev pub FrozenLaw : Type 0
FrozenLaw =
    (p : Program) (tags : Tagged) (mi i : ℕ) (m : MethodInfo) (insn : Insn) (target : Target)
    (f : TagShape) → IsProgram p → IsAt p tags mi i m insn target f → is_init m ≡ true
    → IsFrozenClass p tags m.class → HidesThis p insn.op target f.stack
