-- What counts against a field whose arrays never leave their objects, should it be one: the first
-- instruction of a method that puts it out, and how.
use Rattle.std.specs.Prelude.{◌≡◌, ◌<◌, ℕ, Bool, false, if◌then◌else◌, List, length, replicate}
use Rattle.std.specs.Prelude.{Option, Some, None, slice_get, slice_index_or}
use Rattle.jvm_types.specs.declared.code.Insn.{Insn}
use Rattle.jvm_types.specs.declared.code.Op.{Op}
use Rattle.jvm_types.specs.declared.code.Op.TheVariants as ops
use Rattle.jvm_types.specs.declared.op_row.OpRow.{OpRow}
use Rattle.jvm_types.specs.declared.program.Target.{Target}
use Rattle.jvm_types.specs.declared.program.MethodInfo.{MethodInfo}
use Rattle.jvm_types.specs.declared.program.Program.{Program}
use Rattle.checked_program.specs.LockTags.{TagShape}
use Rattle.checked_program.specs.TaggedCode.{row_of}
use Rattle.checked_program.specs.Visits.{HasFrames}
use Rattle.guard_analysis.specs.ColourVisits.{colour_plan, is_array_field}
use Rattle.guard_analysis.specs.FieldUses.{writes_guarded}
use Rattle.guard_analysis.specs.OwnedFound.{branched_flags, edges_out, method_out, read_colour}
use Rattle.guard_analysis.specs.OwnedFound.{taken_before, used_out}
use Rattle.guard_analysis.specs.declared.array_faults.Misuse.{Misuse}
use Rattle.guard_analysis.specs.declared.array_faults.Misuse.TheVariants.{Read, Written, NotNew}
use Rattle.guard_analysis.specs.declared.array_faults.Misuse.TheVariants.{Stored, Taken, Meets}
use Rattle.guard_analysis.specs.declared.array_faults.Against.{Against}
use Rattle.guard_analysis.specs.declared.colouring.Colour.{Colour}
use Rattle.guard_analysis.specs.declared.colouring.Colour.TheVariants.{Plain, Of}

-- ---- one instruction

abbrev pub none_out : Program → List Bool
none_out p = replicate (length p.fields) false

abbrev pub is_out : List Bool → (fi : ℕ) → Bool
is_out outs fi = slice_index_or outs fi false

-- it reads the field, writes it, or writes an element
abbrev pub ill_used : MethodInfo → Op → TagShape → Misuse
ill_used m (ops.Getfield n) f = Read
ill_used m (ops.Putfield n) f = if writes_guarded m f then NotNew else Written
ill_used m op f = Stored

-- what the instruction i does that puts out a field, the first of the three
abbrev pub against_by : (used taken met : List Bool) → (fi : ℕ) → Misuse → Option Misuse
against_by used taken met fi ill =
    if is_out used fi then Some ill else if is_out taken fi then Some Taken
    else if is_out met fi then Some Meets else None

abbrev pub against_in : Program → MethodInfo → (branched : List Bool)
    → List (Option (List Colour)) → (i : ℕ) → Insn → Target → OpRow → TagShape → List Colour
    → List Bool → (fi : ℕ) → Option Misuse
against_in p m branched frames i insn target r f stack outs fi =
    let used = used_out p m branched i insn.op target f stack outs in
    let taken = taken_before used insn.op stack (length r.takes) in
    against_by used taken (edges_out p m frames insn target r stack taken) fi
    (ill_used m insn.op f)

-- where it is reached
abbrev pub against_if : Program → MethodInfo → (branched : List Bool)
    → List (Option (List Colour)) → (i : ℕ) → Option Insn → Option Target
    → Option (Option TagShape) → Option (Option (List Colour)) → List Bool → (fi : ℕ)
    → Option Misuse
against_if p m branched frames i (Some insn) (Some target) (Some (Some f)) (Some (Some stack)) outs
    fi =
    against_in p m branched frames i insn target (row_of p m insn target) f stack outs fi
against_if p m branched frames i insn target f stack outs fi = None

-- ---- one method

-- behind the instructions before it, with the tags and the first frames of the method
abbrev pub against_at : Program → MethodInfo → List (Option TagShape) → List (Option (List Colour))
    → (fi i : ℕ) → Option Misuse
against_at p m tags frames fi i =
    against_if p m (branched_flags m) frames i (slice_get m.code i) (slice_get m.targets i)
    (slice_get tags i) (slice_get frames i)
    (method_out p m tags (branched_flags m) frames (none_out p) i) fi

-- the first instruction that counts against a field
abbrev pub IsFirstBy : Program → MethodInfo → List (Option TagShape) → List (Option (List Colour))
    → (fi : ℕ) → Option Against → Type 0
IsFirstBy p m tags frames fi None =
    (i : ℕ) → i < length m.code → against_at p m tags frames fi i ≡ None
IsFirstBy p m tags frames fi (Some found) =
    (found.at < length m.code) × (against_at p m tags frames fi found.at ≡ Some found.misuse)
    × ((i : ℕ) → i < found.at → against_at p m tags frames fi i ≡ None)

pub record IsFirstAgainst (p : Program) (m : MethodInfo) (tags : List (Option TagShape)) (fi : ℕ)
    (found : Option Against) : Type 0 where
  pub frames : List (Option (List Colour))
  pub visited : HasFrames (colour_plan p m) frames
  pub first : IsFirstBy p m tags frames fi found

-- the field that a colour names, if its arrays may stay in its object by its flags and its type
abbrev pub array_named : Program → Colour → Option ℕ
array_named p Plain = None
array_named p (Of fi) = if is_array_field p fi then Some fi else None

-- the field that the array was read from of which the instruction i reads an element
pub record IsReadFrom (p : Program) (m : MethodInfo) (i : ℕ) (field : Option ℕ) : Type 0 where
  pub frames : List (Option (List Colour))
  pub visited : HasFrames (colour_plan p m) frames
  pub is : field ≡ array_named p (read_colour (slice_get m.code i) (slice_get frames i))
