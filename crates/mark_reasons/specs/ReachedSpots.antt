-- Whether some path reaches a section, by its code.
use Rattle.std.specs.Prelude.{◌≡◌, ℕ, Bool, true, false, ◌&&◌, ◌==◌, List, length, Option, Some}
use Rattle.std.specs.Prelude.{None, slice_get}
use Rattle.jvm_types.specs.declared.code.Insn.{Insn}
use Rattle.jvm_types.specs.declared.code.Op.{Op}
use Rattle.jvm_types.specs.declared.code.Op.TheVariants as ops
use Rattle.jvm_types.specs.declared.program.MethodInfo.{MethodInfo}
use Rattle.jvm_types.specs.declared.program.Program.{Program}
use Rattle.checked_program.specs.LockTags.{TagShape}
use Rattle.checked_program.specs.TaggedCode.{Tagged}
use Rattle.checked_program.specs.declared.section.Spot.{Spot}
use Rattle.checked_program.specs.declared.tag.Tags.{Tags}
use Rattle.mark_reasons.specs.Firsts.{IsFirst}
use Rattle.mark_reasons.specs.OwnFlags.{is_reached}
use Rattle.mark_reasons.specs.Reasons.{IsSpotReached}

abbrev pub is_monitorenter : Op → Bool
is_monitorenter ops.Monitorenter = true
is_monitorenter op = false

abbrev pub begins_at : Option Insn → (pc : ℕ) → Bool
begins_at None pc = false
begins_at (Some insn) pc = is_monitorenter insn.op && (insn.pc == pc)

-- the block of a pc begins at a reached instruction
abbrev pub block_begins : MethodInfo → List (Option TagShape) → (pc i : ℕ) → Bool
block_begins m frames pc i = begins_at (slice_get m.code i) pc && is_reached m frames i

-- the first such instruction of a method with its tags
abbrev pub IsFirstBegin : ℕ → Option MethodInfo → Option Tags → Option ℕ → Type 0
IsFirstBegin pc (Some m) (Some t) found = IsFirst (block_begins m t.frames pc) (length m.code) found
IsFirstBegin pc m t found = found ≡ None

abbrev pub TellsReached : Program → Tagged → ℕ → Spot → Bool → Type 0
TellsReached p tags mi spot true = IsSpotReached p tags mi spot
TellsReached p tags mi spot false = IsSpotReached p tags mi spot → ⊥
