-- Where a frame stands: at a reached instruction of its method, with the types and the lock tags
-- that it has there.
use Rattle.std.specs.Prelude.{◌≡◌, ℕ, List, map, Option, Some, slice_get}
use Rattle.jvm_types.specs.declared.op_row.OpRow.{OpRow}
use Rattle.jvm_types.specs.Types.{TypeFrame}
use Rattle.jvm_types.specs.declared.code.Insn.{Insn}
use Rattle.jvm_types.specs.declared.program.Target.{Target}
use Rattle.jvm_types.specs.declared.program.MethodInfo.{MethodInfo}
use Rattle.checked_program.specs.LockTags.{TagShape}
use Rattle.checked_program.specs.TaggedCode.{Tagged, tagged_by, IsAt, row_of}
use Rattle.checked_program.specs.MarkedProgram.{MarkedProgram}
use Rattle.checked_program.specs.Marks.{called_method}
use Rattle.machine_types.specs.Threads.{Frame}

abbrev pub tags_of : MarkedProgram → Tagged
tags_of c = tagged_by c.tags

-- one number gives the instruction, what its constant names, its tags and its types
pub record Standing (c : MarkedProgram) (f : Frame) : Type 0 where
  pub number : ℕ
  pub method : MethodInfo
  pub insn : Insn
  pub target : Target
  pub tags : TagShape
  pub at : IsAt c.program (tags_of c) f.method number method insn target tags
  pub frames : List (Option TypeFrame)
  pub types_of_method : slice_get (map (λ t. t.frames) c.typings) f.method ≡ Some frames
  pub types : TypeFrame
  pub types_are : slice_get frames number ≡ Some (Some types)
  pub pc_is : insn.pc ≡ f.pc

abbrev pub row_at : (c : MarkedProgram) → (f : Frame) → Standing c f → OpRow
row_at c f k = row_of c.program k.method k.insn k.target

-- it stands at a call of a method
abbrev pub CallsMethod : (c : MarkedProgram) → (f : Frame) → Standing c f → (callee : ℕ) → Type 0
CallsMethod c f k callee = called_method k.insn.op k.target ≡ Some callee

-- ---- what a frame has of its operands: all; all but one that is still to be pushed; all but so
-- many that its call has taken; or what an exception leaves, of which no instruction takes any

pub data Operands : Type 0 where
  Whole : Operands
  Lacking : Operands
  Taken : (count : ℕ) → Operands
  Thrown : Operands
