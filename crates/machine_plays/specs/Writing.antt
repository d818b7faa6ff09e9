-- Short ways to write a program, settings, and what a run comes to.
use Rattle.std.specs.Prelude.{ℕ, ℤ, pos, true, List, [], ◌∷◌, Option, map, replicate}
use Rattle.jvm_types.specs.declared.code.Insn.{Insn}
use Rattle.jvm_types.specs.declared.code.Op.{Op}
use Rattle.jvm_types.specs.declared.outcome.End.{End}
use Rattle.jvm_types.specs.declared.outcome.Print.{Print}
use Rattle.jvm_types.specs.declared.outcome.ThreadReport.{ThreadReport}
use Rattle.jvm_types.specs.declared.program.Kind.{Kind}
use Rattle.jvm_types.specs.declared.program.FieldInfo.{FieldInfo}
use Rattle.jvm_types.specs.declared.program.Row.{Row}
use Rattle.jvm_types.specs.declared.program.Target.{Target}
use Rattle.jvm_types.specs.declared.program.Target.TheVariants as targets
use Rattle.jvm_types.specs.declared.program.MethodInfo.{MethodInfo}
use Rattle.machine_types.specs.PlainState.{Printed}
use Rattle.checked_program.specs.MarkedProgram.{MarkedProgram}
use Rattle.machine_types.specs.declared.config.Config.{Config}
use Rattle.checked_program.specs.declared.section.Spot.{Spot}
use Rattle.checked_program.specs.declared.section.SectionMark.{SectionMark}

-- ---- code

-- an instruction with what its constant names
pub record InstructionLine : Type 0 where
  pub insn : Insn
  pub target : Target

abbrev pub line_to : (pc next : ℕ) → Op → Target → InstructionLine
line_to pc next op target =
    record { insn = record { pc = pc; next = next; op = op }; target = target }

abbrev pub plain_line : (pc next : ℕ) → Op → InstructionLine
plain_line pc next op = line_to pc next op targets.Nothing

abbrev pub handler_row : (start last handler class : ℕ) → Row
handler_row start last handler class =
    record { start = start; «end» = last; handler = handler; catch_class = class }

-- ---- programs of one class, which has the number 17, with 4,096 heap words

abbrev pub play_method : (flags : ℕ) → (name descriptor : List ℕ) → List Kind → Option Kind
    → (max_stack max_locals : ℕ) → List InstructionLine → List Row → MethodInfo
play_method flags name descriptor args result max_stack max_locals lines rows = record {
  class = 17;
  flags = flags;
  name = name;
  descriptor = descriptor;
  args = args;
  result = result;
  max_stack = max_stack;
  max_locals = max_locals;
  code = map (λ l. l.insn) lines;
  targets = map (λ l. l.target) lines;
  rows = rows;
}

abbrev pub private_field : Kind → (index : ℕ) → FieldInfo
private_field kind index =
    record { class = 17; flags = 2; kind = kind; index = index; start = pos 0 }

abbrev pub static_field : Kind → (word : ℕ) → FieldInfo
static_field kind word = record { class = 17; flags = 8; kind = kind; index = word; start = pos 0 }

abbrev pub mark : (method : ℕ) → Spot → (n : ℕ) → SectionMark
mark method spot n = record { method = method; spot = spot; mark = n }

abbrev pub loaded : (name : List ℕ) → (workers : ℕ) → List FieldInfo → List MethodInfo
    → List SectionMark → MarkedProgram
loaded name workers fields methods marks = record {
  program =
      record
      { names = name ∷ []; heap = 4096; workers = workers; fields = fields; methods = methods };
  typings = [];
  tags = [];
  marks = marks;
}

-- ---- settings and orders

abbrev pub usual : Config
usual =
    record
    { steps = 10000000; turns = 4294967295; prints = 65536; elide = true; range = 4294967295 }

abbrev pub thread_turns : (n t : ℕ) → List ℕ
thread_turns n t = replicate n t

-- ---- what a run comes to

abbrev pub report : End → List Print → (instructions elided failed locked inflated : ℕ)
    → ThreadReport
report e prints instructions elided failed locked inflated = record {
  «end» = e;
  prints = prints;
  counts =
      record {
        instructions = instructions;
        elided = elided;
        failed = failed;
        locked = locked;
        inflated = inflated;
      };
}

abbrev pub print_of : (ticket : ℕ) → (value : ℤ) → Print
print_of ticket value = record { ticket = ticket; value = value }

abbrev pub printed_by : (thread : ℕ) → (value : ℤ) → Printed
printed_by thread value = record { thread = thread; value = value }
