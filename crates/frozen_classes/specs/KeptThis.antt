-- Whether an `<init>` keeps `this` inside, tested instruction by instruction.
use Rattle.std.specs.Prelude.{◌+◌, ◌-◌, ℕ, zero, suc, Bool, true, false, not, ◌&&◌, ◌||◌, ◌==◌}
use Rattle.std.specs.Prelude.{nat_lt, nat_le, if◌then◌else◌, List, [], ◌∷◌, ◌++◌, length, replicate}
use Rattle.std.specs.Prelude.{Option, Some, None, slice_get, slice_set, slice_index_or}
use Rattle.std.specs.List.{list_all}
use Rattle.jvm_types.specs.CodeTable.{row, can_throw, is_init}
use Rattle.jvm_types.specs.ClassNames.{file_class}
use Rattle.jvm_types.specs.Members.{is_static}
use Rattle.jvm_types.specs.Verifying.{edges, covers}
use Rattle.jvm_types.specs.declared.op_row.OpRow.{OpRow}
use Rattle.jvm_types.specs.declared.op_row.Given.{Given}
use Rattle.jvm_types.specs.declared.op_row.Given.TheVariants.{Fresh, Taken, Local}
use Rattle.jvm_types.specs.declared.code.Insn.{Insn}
use Rattle.jvm_types.specs.declared.code.Op.{Op}
use Rattle.jvm_types.specs.declared.code.Op.TheVariants as ops
use Rattle.jvm_types.specs.declared.program.Row.{Row}
use Rattle.jvm_types.specs.declared.program.Target.{Target}
use Rattle.jvm_types.specs.declared.program.Target.TheVariants as targets
use Rattle.jvm_types.specs.declared.program.MethodInfo.{MethodInfo}
use Rattle.jvm_types.specs.declared.program.Program.{Program}
use Rattle.code_table.specs.PcTables.{number_at}
use Rattle.checked_program.specs.LockTags.{TagShape, is_this}
use Rattle.checked_program.specs.Tagging.{catches_all}
use Rattle.checked_program.specs.FrozenPlaces.{may_take, is_final_of}
use Rattle.checked_program.specs.declared.tag.Tag.{Tag}
use Rattle.checked_program.specs.declared.tag.Tag.TheVariants.{Untagged}
use Rattle.checked_program.specs.declared.tag.Tags.{Tags}
use Rattle.frozen_classes.specs.declared.places.Places.{Places}

-- each of the first numbers passes a test
abbrev pub all_before : (ℕ → Bool) → ℕ → Bool
all_before q zero = true
all_before q (suc k) = all_before q k && q k

-- ---- places with `this`

abbrev pub this_at : List Tag → ℕ → Bool
this_at ts k = is_this (slice_index_or ts k Untagged)

abbrev pub given_this : TagShape → Given → Bool
given_this f (Fresh type) = false
given_this f (Taken place) = this_at f.stack place
given_this f (Local i) = this_at f.locals i

abbrev pub some_given_this : TagShape → Option Given → Bool
some_given_this f None = false
some_given_this f (Some given) = given_this f given

-- a place of the stack, or a local, has `this` after an instruction
abbrev pub stack_this_after : OpRow → TagShape → ℕ → Bool
stack_this_after r f k =
    if nat_lt k (length r.gives) then some_given_this f (slice_get r.gives k)
    else this_at f.stack (length r.takes + (k - length r.gives))

abbrev pub local_this_after : Option (ℕ × Given) → TagShape → ℕ → Bool
local_this_after None f k = this_at f.locals k
local_this_after (Some write) f k =
    if (k == write.0) && nat_lt k (length f.locals) then given_this f write.1
    else this_at f.locals k

-- some numbers, and behind them one more where that passes a test
abbrev pub with_number : List ℕ → ℕ → Bool → List ℕ
with_number ks k passes = if passes then ks ++ k ∷ [] else ks

-- those of the first numbers that pass a test
abbrev pub numbers_where : (ℕ → Bool) → ℕ → List ℕ
numbers_where q zero = []
numbers_where q (suc k) = with_number (numbers_where q k) k (q k)

-- the places that have `this` after an instruction
abbrev pub places_after : OpRow → TagShape → Places
places_after r f =
    record {
      stack = numbers_where (stack_this_after r f) (length r.gives + length f.stack);
      locals = numbers_where (local_this_after r.writes f) (length f.locals);
    }

-- and those that have it where an exception of it is caught
abbrev pub places_caught : TagShape → Places
places_caught f =
    record { stack = []; locals = numbers_where (λ k. this_at f.locals k) (length f.locals) }

-- some places have `this` there too
abbrev pub keeps_places : Places → TagShape → Bool
keeps_places places g =
    list_all (λ k. this_at g.stack k) places.stack
    && list_all (λ k. this_at g.locals k) places.locals

-- ---- the edges of one instruction

abbrev pub reached_frame : Option Insn → Option Target → Option (Option TagShape) → Option TagShape
reached_frame (Some insn) (Some target) (Some f) = f
reached_frame insn target f = None

abbrev pub reached_frame_at : MethodInfo → List (Option TagShape) → ℕ → Option TagShape
reached_frame_at m frames j =
    reached_frame (slice_get m.code j) (slice_get m.targets j) (slice_get frames j)

-- with a test of what stands at the target, where that is reached
abbrev pub passes_test : (TagShape → Bool) → Option TagShape → Bool
passes_test test None = true
passes_test test (Some g) = test g

abbrev pub passes_at : MethodInfo → List (Option TagShape) → (TagShape → Bool) → Option ℕ → Bool
passes_at m frames test None = true
passes_at m frames test (Some j) = passes_test test (reached_frame_at m frames j)

abbrev pub joins_all : MethodInfo → List (Option TagShape) → Places → List ℕ → Bool
joins_all m frames places [] = true
joins_all m frames places (pc ∷ pcs) =
    passes_at m frames (keeps_places places) (number_at m.code pc)
    && joins_all m frames places pcs

-- of handler rows those that cover a pc, up to the first that catches all
abbrev pub catches_well : MethodInfo → List (Option TagShape) → Places → ℕ → List Row → Bool
catches_well m frames places pc [] = true
catches_well m frames places pc (handler ∷ handlers) =
    if covers pc handler
    then passes_at m frames (keeps_places places) (number_at m.code handler.handler)
    && (catches_all handler || catches_well m frames places pc handlers)
    else catches_well m frames places pc handlers

abbrev pub caught_well : MethodInfo → List (Option TagShape) → TagShape → Insn → Bool
caught_well m frames f insn =
    if can_throw insn.op then catches_well m frames (places_caught f) insn.pc m.rows else true

-- ---- one instruction

abbrev pub takes_well : Program → ℕ → Op → Target → TagShape → ℕ → Bool
takes_well p c op target f n =
    all_before (λ k. not (this_at f.stack k) || may_take p c op target k) n

abbrev pub puts_well : Program → ℕ → Op → Target → TagShape → Bool
puts_well p c (ops.Putfield i) (targets.Field fi) f =
    not (is_final_of c (slice_get p.fields fi)) || this_at f.stack 1
puts_well p c op target f = true

abbrev pub keeps_here : Program → MethodInfo → List (Option TagShape) → Insn → Target → OpRow
    → TagShape → Bool
keeps_here p m frames insn target r f =
    takes_well p m.class insn.op target f (length r.takes)
    && (puts_well p m.class insn.op target f
    && (joins_all m frames (places_after r f) (edges insn) && caught_well m frames f insn))

abbrev pub keeps_at : Program → MethodInfo → List (Option TagShape) → Option Insn → Option Target
    → Option (Option TagShape) → Bool
keeps_at p m frames (Some insn) (Some target) (Some (Some f)) =
    keeps_here p m frames insn target (row p m insn.pc target insn.op) f
keeps_at p m frames insn target f = true

-- ---- a method

-- where the method begins, `this` is in local 0
abbrev pub begins_well : MethodInfo → Option TagShape → Bool
begins_well m frame = passes_test (λ f. is_static m.flags || this_at f.locals 0) frame

abbrev pub keeps_all : Program → MethodInfo → List (Option TagShape) → Bool
keeps_all p m frames =
    begins_well m (reached_frame_at m frames 0)
    && all_before
    (λ i. keeps_at p m frames (slice_get m.code i) (slice_get m.targets i) (slice_get frames i))
    (length m.code)

-- ---- classes

-- a method is one of a class
abbrev pub is_method_of : ℕ → Option MethodInfo → Bool
is_method_of c None = false
is_method_of c (Some m) = m.class == c

-- the class of an `<init>` that lets its object out
abbrev pub leak_of : Program → Option MethodInfo → Option Tags → Option ℕ
leak_of p (Some m) (Some t) =
    if is_init m && not (keeps_all p m t.frames) then Some m.class else None
leak_of p m t = None

abbrev pub class_noted : List Bool → Option ℕ → List Bool
class_noted flags None = flags
class_noted flags (Some c) =
    if nat_le (file_class 0) c && nat_lt (c - file_class 0) (length flags)
    then slice_set flags (c - file_class 0) false else flags

-- after the first methods
abbrev pub frozen_upto : Program → List Tags → ℕ → List Bool
frozen_upto p tags zero = replicate (length p.names) true
frozen_upto p tags (suc u) =
    class_noted (frozen_upto p tags u) (leak_of p (slice_get p.methods u) (slice_get tags u))
