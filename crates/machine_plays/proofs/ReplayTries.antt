-- What is due of an attempt, replayed: a synchronized method calls a block on its own monitor; and one reads an element of an
-- array of its object.
use Rattle.std.proofs.Common.{◌≡◌, ℕ, pos, true, List, [], ◌∷◌, Option, Some, None, refl, codes, ◌==◌, if◌then◌else◌}
use Rattle.jvm_types.specs.declared.{class_numbers.TheConstants.INT_ARRAY_CLASS, outcome.Thrown.TheVariants.ArrayIndexOutOfBoundsException, program.{FieldInfo.FieldInfo, MethodInfo.MethodInfo}}
use Rattle.checked_program.{specs.MarkedProgram.MarkedProgram, proofs.TriedPrograms.{method, op, names, program, many}}
use Rattle.machine_types.specs.{ReadyObjects.ready, Replay.{Alone, replayed, at_entry, at_present}, Threads.{Attempt, Frame, Thread, fresh}, Words.header}
use Rattle.machine_types.specs.declared.{config.Config.Config, plain.Act.{Act, TheVariants.{Do, Enter, Exit}}}
use Rattle.machine_plays.proofs.InSections.{marked, sum_frame, twice_frame, attempt}
use Rattle.jvm_types.specs.declared.code.Op.TheVariants as ops
use Rattle.jvm_types.specs.declared.program.Kind.TheVariants as kinds
use Rattle.jvm_types.specs.declared.program.Target.TheVariants as targets
use Rattle.machine_types.specs.declared.phase.Phase.TheVariants as phases

abbrev cfg : Config
cfg = record { steps = 1000; turns = 1000; prints = 10; elide = true; range = 100 }

abbrev tries : Thread
tries = record (fresh marked cfg 1 phases.Run []) { frames = sum_frame ∷ twice_frame ∷ []; attempt = Some attempt }

-- two instructions of `twice`, four of `sum`, and the entry of its block
abbrev due : List Act
due = Do ∷ Do ∷ Do ∷ Do ∷ Do ∷ Do ∷ Enter ∷ []

leads : replayed many 3000 (λ x. Some 0) due (at_entry tries attempt []) ≡ Some (at_present tries attempt phases.Run 6 [])
leads = refl

-- the section's own exit is none of what is due
abbrev behind_sum : List Act
behind_sum = Do ∷ Do ∷ Do ∷ Do ∷ Do ∷ Do ∷ Enter ∷ Do ∷ Do ∷ Do ∷ Do ∷ Do ∷ Do ∷ Do ∷ Exit ∷ []

abbrev depth_of : Option Alone → Option ℕ
depth_of None = None
depth_of (Some x) = Some x.depth

leaves_sum : depth_of (replayed many 3000 (λ x. Some 7) behind_sum (at_entry tries attempt [])) ≡ Some 1
leaves_sum = refl

-- on another monitor nothing of it is
on_another : replayed many 3001 (λ x. Some 0) due (at_entry tries attempt []) ≡ None
on_another = refl

-- where a place that is read is not there, nothing of it is
reads_nothing : replayed many 3000 (λ x. None) behind_sum (at_entry tries attempt []) ≡ None
reads_nothing = refl

-- ---- an element: its header is read in one event, and it in the next

abbrev array_field : FieldInfo
array_field = record { class = 17; flags = 2; kind = kinds.Ref INT_ARRAY_CLASS; index = 0; start = pos 0 }

abbrev get : MethodInfo
get = method 32 (codes "get") (kinds.Int ∷ []) (Some kinds.Int) 2 2
    (op 0 1 (ops.Aload 0) ∷ names 1 4 (ops.Getfield 22) (targets.Field 0) ∷ op 4 5 (ops.Iload 1) ∷ op 5 6 ops.Iaload ∷ op 6 7 ops.Ireturn ∷ []) []

abbrev holder : MarkedProgram
holder = record { program = program (array_field ∷ []) (get ∷ []); typings = []; tags = []; marks = [] }

-- the array at 3010 has two elements, of which the second is there
abbrev memory : ℕ → Option ℕ
memory x = if x == 3002 then Some 3010 else if x == 3011 then Some (header INT_ARRAY_CLASS 2) else if x == 3013 then Some 8 else None

-- it gets the element with an index
abbrev get_frame : (index pc : ℕ) → List ℕ → Frame
get_frame index pc stack = record { method = 0; pc = pc; receiver = 3000; locals = 3000 ∷ index ∷ []; stack = stack }

abbrev tried : ℕ → Attempt
tried index = record { monitor = 3000; noted = 0; base = 0; number = 1; inner = 0; entry = get_frame index 0 [] }

abbrev getting : (index pc : ℕ) → List ℕ → Thread
getting index pc stack = record (fresh holder cfg 1 phases.Run []) { frames = get_frame index pc stack ∷ []; attempt = Some (tried index) }

abbrev gets : (index : ℕ) → List Act → Option Alone
gets index due = replayed holder.program 3000 memory due (at_entry (getting index 0 []) (tried index) [])

-- with the header read, the instruction is begun and not due
at_element : gets 1 (Do ∷ Do ∷ Do ∷ []) ≡ Some (at_present (getting 1 5 (1 ∷ 3010 ∷ [])) (tried 1) (phases.Element 3013 None) 4 [])
at_element = refl

has_element : gets 1 (Do ∷ Do ∷ Do ∷ Do ∷ []) ≡ Some (at_present (getting 1 6 (8 ∷ [])) (tried 1) phases.Run 4 [])
has_element = refl

-- the first element is none of the places that are there
not_there : gets 0 (Do ∷ Do ∷ Do ∷ Do ∷ []) ≡ None
not_there = refl

-- there is no third one
past_end : gets 2 (Do ∷ Do ∷ Do ∷ Do ∷ []) ≡ Some (at_present (getting 2 5 (2 ∷ 3010 ∷ [])) (tried 2) (phases.Throw (ready ArrayIndexOutOfBoundsException) ArrayIndexOutOfBoundsException) 4 [])
past_end = refl
