-- The synchronized sections of a program, and the instructions that are a section's own.
use Rattle.std.specs.Prelude.{◌≡◌, ◌<◌, ℕ, suc, List, [], ◌∷◌, ◌++◌, length, map, Option, Some}
use Rattle.std.specs.Prelude.{None, slice_get, if◌then◌else◌}
use Rattle.std.specs.List.{filter_map}
use Rattle.jvm_types.specs.Members.{is_static, is_synchronized}
use Rattle.jvm_types.specs.declared.code.Insn.{Insn}
use Rattle.jvm_types.specs.declared.code.Op.{Op}
use Rattle.jvm_types.specs.declared.code.Op.TheVariants as ops
use Rattle.jvm_types.specs.declared.program.Target.{Target}
use Rattle.jvm_types.specs.declared.program.MethodInfo.{MethodInfo}
use Rattle.jvm_types.specs.declared.program.Program.{Program}
use Rattle.checked_program.specs.LockTags.{TagShape}
use Rattle.checked_program.specs.TaggedCode.{Tagged, IsAt, IsInstructionReached, IsReachedEdge}
use Rattle.checked_program.specs.declared.section.Spot.{Spot}
use Rattle.checked_program.specs.declared.section.Spot.TheVariants.{Method, Block}
use Rattle.checked_program.specs.declared.section.Mode.{Mode}
use Rattle.checked_program.specs.declared.section.Mode.TheVariants.{OnThis, OnClass}

-- ---- all sections

pub record Section : Type 0 where
  pub method : ℕ
  pub spot : Spot

abbrev pub block_at : ℕ → Op → Option Spot
block_at pc ops.Monitorenter = Some (Block pc)
block_at pc op = None

-- a synchronized method's own section, then its blocks by pc; a block begins at each
-- `monitorenter`, reached or not
abbrev pub spots_of : MethodInfo → List Spot
spots_of m =
    (if is_synchronized m.flags then Method ∷ [] else [])
    ++ filter_map (λ insn. block_at insn.pc insn.op) m.code

-- of the methods from a number on
abbrev pub sections_from : ℕ → List MethodInfo → List Section
sections_from mi [] = []
sections_from mi (m ∷ ms) =
    map (λ spot. record { method = mi; spot = spot }) (spots_of m) ++ sections_from (suc mi) ms

abbrev pub sections : Program → List Section
sections p = sections_from 0 p.methods

-- a block is on `this`, where it may run without its lock at all; a synchronized method's section
-- on `this` or on its class
abbrev pub mode_of_method : Option MethodInfo → Mode
mode_of_method None = OnThis
mode_of_method (Some m) = if is_static m.flags then OnClass m.class else OnThis

abbrev pub mode_of_spot : Option MethodInfo → Spot → Mode
mode_of_spot m Method = mode_of_method m
mode_of_spot m (Block pc) = OnThis

abbrev pub section_mode : Program → Section → Mode
section_mode p s = mode_of_spot (slice_get p.methods s.method) s.spot

-- ---- own instructions

-- a reached instruction with more held tags than this
pub record IsDeep (p : Program) (tags : Tagged) (mi depth i : ℕ) : Type 0 where
  pub m : MethodInfo
  pub insn : Insn
  pub target : Target
  pub f : TagShape
  pub at : IsAt p tags mi i m insn target f
  pub deep : depth < length f.held

-- from one instruction to another by edges, over these, and all are that deep
abbrev pub StaysDeep : Program → Tagged → (mi depth i : ℕ) → List ℕ → ℕ → Type 0
StaysDeep p tags mi depth i [] j = (i ≡ j) × IsDeep p tags mi depth i
StaysDeep p tags mi depth i (k ∷ ks) j =
    (IsDeep p tags mi depth i) × (IsReachedEdge p tags mi i k) × StaysDeep p tags mi depth k ks j

-- the block that begins at a pc: its `monitorenter`, by its number
pub record BeginsAt (p : Program) (tags : Tagged) (mi pc enter : ℕ) (f : TagShape) : Type 0 where
  pub m : MethodInfo
  pub insn : Insn
  pub target : Target
  pub at : IsAt p tags mi enter m insn target f
  pub pc_is : insn.pc ≡ pc
  pub enters : insn.op ≡ ops.Monitorenter

-- an instruction that is reached from the start of a block with its entry on the held list
pub record IsInBlock (p : Program) (tags : Tagged) (mi pc i : ℕ) : Type 0 where
  pub enter : ℕ
  pub f : TagShape
  pub begins : BeginsAt p tags mi pc enter f
  pub first : ℕ
  pub edge : IsReachedEdge p tags mi enter first
  pub over : List ℕ
  pub stays : StaysDeep p tags mi (length f.held) first over i

-- the instruction i of its method is a section's own
abbrev pub IsOwn : Program → Tagged → ℕ → Spot → ℕ → Type 0
IsOwn p tags mi Method i = IsInstructionReached p tags mi i
IsOwn p tags mi (Block pc) i = IsInBlock p tags mi pc i
