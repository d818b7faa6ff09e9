-- Laws of the instructions that tagging reaches, with the tags there.
use Rattle.std.specs.Prelude.{◌≡◌, ℕ, Bool, false, List, Option, Some, slice_get}
use Rattle.std.specs.List.{list_any}
use Rattle.jvm_types.specs.Types.{TypeFrame}
use Rattle.jvm_types.specs.Verifying.{HasTyping, IsLaidOut}
use Rattle.jvm_types.specs.declared.code.Insn.{Insn}
use Rattle.jvm_types.specs.declared.program.MethodInfo.{MethodInfo}
use Rattle.jvm_types.specs.declared.program.Program.{Program}
use Rattle.checked_program.specs.LockTags.{TagShape, same_tag}
use Rattle.checked_program.specs.Tagging.{HasTagging}
use Rattle.checked_program.specs.declared.tag.Tag.{Tag}
use Rattle.checked_program.specs.declared.tag.Tag.TheVariants.{At}

-- typing reaches it too
abbrev pub TaggedIsTyped : Type 0
TaggedIsTyped =
    (p : Program) (m : MethodInfo) (types : List (Option TypeFrame))
    (frames : List (Option TagShape)) → IsLaidOut m → HasTyping p m types
    → HasTagging p m frames → (i : ℕ) (f : TagShape) → slice_get frames i ≡ Some (Some f)
    → (g : TypeFrame) × (slice_get types i ≡ Some (Some g))

-- whether a method has entered the monitor of the value of a tag, and not left it
abbrev pub is_held : Tag → List Tag → Bool
is_held t held = list_any (same_tag t) held

-- No instruction holds the tag that a `dup` there would make, since all ways to it have one held
-- list. So a `dup` makes no tag again that is held, and tagging needs no rule against that.
abbrev pub OwnTagIsFree : Type 0
OwnTagIsFree =
    (p : Program) (m : MethodInfo) (types : List (Option TypeFrame))
    (frames : List (Option TagShape)) → IsLaidOut m → HasTyping p m types
    → HasTagging p m frames → (i : ℕ) (insn : Insn) (f : TagShape)
    → slice_get m.code i ≡ Some insn → slice_get frames i ≡ Some (Some f)
    → is_held (At insn.pc) f.held ≡ false
