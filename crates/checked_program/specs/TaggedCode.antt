-- The instructions of a program with their tags, and the edges between them.
use Rattle.std.specs.Prelude.{◌≡◌, ℕ, true, ◌==◌, List, map, Option, Some, slice_get}
use Rattle.std.specs.List.{list_any}
use Rattle.jvm_types.specs.Numbers.{has_number}
use Rattle.jvm_types.specs.CodeTable.{row}
use Rattle.jvm_types.specs.declared.op_row.OpRow.{OpRow}
use Rattle.jvm_types.specs.Verifying.{edges}
use Rattle.jvm_types.specs.declared.code.Insn.{Insn}
use Rattle.jvm_types.specs.declared.program.Target.{Target}
use Rattle.jvm_types.specs.declared.program.MethodInfo.{MethodInfo}
use Rattle.jvm_types.specs.declared.program.Program.{Program}
use Rattle.checked_program.specs.LockTags.{TagShape}
use Rattle.checked_program.specs.Tagging.{tags_after, catchers, tags_at_handler}
use Rattle.checked_program.specs.declared.tag.Tags.{Tags}

-- the frames of tags of all methods, in order
abbrev pub Tagged : Type 0
Tagged = List (List (Option TagShape))

abbrev pub tagged_by : List Tags → Tagged
tagged_by tags = map (λ (t : Tags). t.frames) tags

-- the instruction i of the method mi is reached, with what its constant names and its tags
pub record IsAt (p : Program) (tags : Tagged) (mi i : ℕ) (m : MethodInfo) (insn : Insn)
    (target : Target) (f : TagShape) : Type 0 where
  pub in_program : slice_get p.methods mi ≡ Some m
  pub in_code : slice_get m.code i ≡ Some insn
  pub names : slice_get m.targets i ≡ Some target
  pub frames : List (Option TagShape)
  pub of_method : slice_get tags mi ≡ Some frames
  pub frame : slice_get frames i ≡ Some (Some f)

-- some such instruction
pub record IsInstructionReached (p : Program) (tags : Tagged) (mi i : ℕ) : Type 0 where
  pub m : MethodInfo
  pub insn : Insn
  pub target : Target
  pub f : TagShape
  pub at : IsAt p tags mi i m insn target f

abbrev pub row_of : Program → MethodInfo → Insn → Target → OpRow
row_of p m insn target = row p m insn.pc target insn.op

-- an edge to another instruction, with the tags that it brings
pub data Goes (p : Program) (m : MethodInfo) (insn : Insn) (target : Target) (f : TagShape) : Insn
    → TagShape → Type 0 where
  onward : (other : Insn) → has_number (edges insn) other.pc ≡ true
      → Goes p m insn target f other (tags_after insn (row_of p m insn target) f)
  caught : (other : Insn)
      → list_any (λ handler. handler.handler == other.pc) (catchers m insn) ≡ true
      → Goes p m insn target f other (tags_at_handler f)

-- an edge of the method mi from the instruction i to the instruction j, both reached
pub record IsReachedEdge (p : Program) (tags : Tagged) (mi i j : ℕ) : Type 0 where
  pub m : MethodInfo
  pub insn : Insn
  pub target : Target
  pub f : TagShape
  pub from : IsAt p tags mi i m insn target f
  pub other : Insn
  pub next : Target
  pub g : TagShape
  pub to : IsAt p tags mi j m other next g
  pub h : TagShape
  pub goes : Goes p m insn target f other h
