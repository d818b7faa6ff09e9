-- A frame that is written out stands where computing finds it.
use Rattle.std.proofs.Common.{◌≡◌, ℕ, List, map, Option, Some, slice_get}
use Rattle.jvm_types.specs.{Types.TypeFrame, declared.{code.Insn.Insn, program.{MethodInfo.MethodInfo, Target.Target}}}
use Rattle.checked_program.specs.{LockTags.TagShape, MarkedProgram.MarkedProgram}
use Rattle.machine_types.specs.{Standing.{Standing, tags_of}, Threads.Frame}

-- at the instruction with a number
abbrev pub standing : (c : MarkedProgram) (f : Frame) (number : ℕ) {method : MethodInfo} {insn : Insn} {target : Target} {tags : TagShape} {shapes : List (Option TagShape)} {frames : List (Option TypeFrame)} {types : TypeFrame}
    → slice_get c.program.methods f.method ≡ Some method → slice_get method.code number ≡ Some insn → slice_get method.targets number ≡ Some target
    → slice_get (tags_of c) f.method ≡ Some shapes → slice_get shapes number ≡ Some (Some tags)
    → slice_get (map (λ t. t.frames) c.typings) f.method ≡ Some frames → slice_get frames number ≡ Some (Some types) → insn.pc ≡ f.pc → Standing c f
standing c f number {method} {insn} {target} {tags} {shapes} {frames} {types} in_program in_code names of_method frame types_of_method types_are pc_is = record {
  number = number;
  method = method;
  insn = insn;
  target = target;
  tags = tags;
  at = record { in_program = in_program; in_code = in_code; names = names; frames = shapes; of_method = of_method; frame = frame };
  frames = frames;
  types_of_method = types_of_method;
  types = types;
  types_are = types_are;
  pc_is = pc_is;
}
