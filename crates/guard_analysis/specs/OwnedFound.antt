-- Which array fields are owned, found for all at once: a flag for each field says that it is out.
-- One pass over the instructions looks at what each does with the arrays that the colours of the
-- first visits name, and compares what its edges bring with what stands at their targets.
use Rattle.std.specs.Prelude.{◌≡◌, ◌↔◌, ◌&&◌, ◌-◌, ℕ, zero, suc, Bool, true, false, not, ◌==◌}
use Rattle.std.specs.Prelude.{nat_lt, if◌then◌else◌, List, [], ◌∷◌, ◌++◌, length, map, replicate}
use Rattle.std.specs.Prelude.{Option, Some, None, slice_get, slice_set, slice_index_or}
use Rattle.std.specs.List.{AllZip}
use Rattle.code_table.specs.PcTables.{number_at}
use Rattle.jvm_types.specs.CodeTable.{row, branches_to}
use Rattle.jvm_types.specs.Verifying.{edges}
use Rattle.jvm_types.specs.declared.code.Insn.{Insn}
use Rattle.jvm_types.specs.declared.code.Op.{Op}
use Rattle.jvm_types.specs.declared.code.Op.TheVariants as ops
use Rattle.jvm_types.specs.declared.op_row.OpRow.{OpRow}
use Rattle.jvm_types.specs.declared.program.Row.{Row}
use Rattle.jvm_types.specs.declared.program.Target.{Target}
use Rattle.jvm_types.specs.declared.program.Target.TheVariants as targets
use Rattle.jvm_types.specs.declared.program.FieldInfo.{FieldInfo}
use Rattle.jvm_types.specs.declared.program.MethodInfo.{MethodInfo}
use Rattle.jvm_types.specs.declared.program.Program.{Program}
use Rattle.checked_program.specs.LockTags.{TagShape, is_this}
use Rattle.checked_program.specs.Tagging.{catchers}
use Rattle.checked_program.specs.TaggedCode.{Tagged, row_of}
use Rattle.checked_program.specs.FrozenPlaces.{is_field_of, stands_guarded}
use Rattle.checked_program.specs.OwnedArrays.{IsOwnedArrayField, ReadsOwned, may_take_array}
use Rattle.checked_program.specs.Visits.{HasFrames}
use Rattle.checked_program.specs.declared.tag.Tag.TheVariants.{Untagged}
use Rattle.checked_program.specs.declared.tag.Tags.{Tags}
use Rattle.jvm_types.specs.ClassNames.{file_class}
use Rattle.guard_analysis.specs.FieldUses.{writes_guarded, field_noted, class_flag}
use Rattle.guard_analysis.specs.ColourVisits.{colour_plan, is_array_field, field_colours_after}
use Rattle.guard_analysis.specs.ColourVisits.{same_colour, colour_at}
use Rattle.guard_analysis.specs.declared.owned_arrays.Owned.{Owned}
use Rattle.guard_analysis.specs.declared.colouring.Colour.{Colour}
use Rattle.guard_analysis.specs.declared.colouring.Colour.TheVariants.{Plain, Of}

-- ---- the field that a colour names is out

abbrev pub named_by : Colour → Option ℕ
named_by Plain = None
named_by (Of fi) = Some fi

abbrev pub colour_out : List Bool → Colour → List Bool
colour_out outs c = field_noted outs (named_by c)

-- of the first fields those of a class, and of all
abbrev pub class_out_before : Program → (class : ℕ) → List Bool → ℕ → List Bool
class_out_before p class outs zero = outs
class_out_before p class outs (suc fi) =
    if is_field_of class (slice_get p.fields fi)
    then slice_set (class_out_before p class outs fi) fi true
    else class_out_before p class outs fi

abbrev pub class_out : Program → (class : ℕ) → List Bool → List Bool
class_out p class outs = class_out_before p class outs (length outs)

-- ---- two frames: the fields that they name at places where they differ

abbrev pub differ_out : List Bool → Colour → Colour → List Bool
differ_out outs c d = if same_colour c d then outs else colour_out (colour_out outs c) d

abbrev pub compared_before : List Bool → List Colour → List Colour → ℕ → List Bool
compared_before outs cs ds zero = outs
compared_before outs cs ds (suc k) =
    differ_out (compared_before outs cs ds k) (colour_at cs k) (colour_at ds k)

-- where frames have different depths a method has no colouring for any field of its class
abbrev pub compared : Program → (class : ℕ) → List Bool → List Colour → List Colour → List Bool
compared p class outs cs ds =
    if length cs == length ds then compared_before outs cs ds (length cs)
    else class_out p class outs

abbrev pub compared_with : Program → (class : ℕ) → List Bool → List Colour
    → Option (Option (List Colour)) → List Bool
compared_with p class outs cs (Some (Some ds)) = compared p class outs cs ds
compared_with p class outs cs o = outs

abbrev pub colours_of : List (Option (List Colour)) → Option ℕ → Option (Option (List Colour))
colours_of frames None = None
colours_of frames (Some j) = slice_get frames j

-- the frame that edges bring to some pcs
abbrev pub compared_at : Program → MethodInfo → List (Option (List Colour)) → List Bool
    → List Colour → (pc : ℕ) → List Bool
compared_at p m frames outs cs pc =
    compared_with p m.class outs cs (colours_of frames (number_at m.code pc))

abbrev pub compared_each : Program → MethodInfo → List (Option (List Colour)) → List Bool
    → List Colour → List ℕ → List Bool
compared_each p m frames outs cs [] = outs
compared_each p m frames outs cs (to ∷ tos) =
    compared_each p m frames (compared_at p m frames outs cs to) cs tos

abbrev pub handlers_of : List Row → List ℕ
handlers_of rows = map (λ (handler : Row). handler.handler) rows

-- ---- one instruction

abbrev pub get_out : Program → List Bool → (fi : ℕ) → TagShape → List Bool
get_out p outs fi f =
    if is_array_field p fi && not (is_this (slice_index_or f.stack 0 Untagged))
    then field_noted outs (Some fi) else outs

abbrev pub is_making_array : Op → Bool
is_making_array ops.Newarray = true
is_making_array op = false

abbrev pub is_newarray : Option Insn → Bool
is_newarray None = false
is_newarray (Some insn) = is_making_array insn.op

-- it stands right after a `newarray`, and control comes to it from there alone
abbrev pub stores_new : MethodInfo → (branched : List Bool) → (i : ℕ) → Bool
stores_new m branched zero = false
stores_new m branched (suc before) =
    is_newarray (slice_get m.code before) && not (slice_index_or branched (suc before) false)

abbrev pub put_out : Program → List Bool → MethodInfo → (branched : List Bool) → (i fi : ℕ)
    → TagShape → List Bool
put_out p outs m branched i fi f =
    if is_array_field p fi && not (writes_guarded m f && stores_new m branched i)
    then field_noted outs (Some fi) else outs

abbrev pub store_out : List Bool → MethodInfo → TagShape → List Colour → List Bool
store_out outs m f stack = if stands_guarded m f then outs else colour_out outs (colour_at stack 2)

abbrev pub used_out : Program → MethodInfo → (branched : List Bool) → (i : ℕ) → Op → Target
    → TagShape → List Colour → List Bool → List Bool
used_out p m branched i (ops.Getfield n) (targets.Field fi) f stack outs = get_out p outs fi f
used_out p m branched i (ops.Putfield n) (targets.Field fi) f stack outs =
    put_out p outs m branched i fi f
used_out p m branched i ops.Iastore target f stack outs = store_out outs m f stack
used_out p m branched i op target f stack outs = outs

-- it takes so many values
abbrev pub taken_before : List Bool → Op → List Colour → ℕ → List Bool
taken_before outs op stack zero = outs
taken_before outs op stack (suc k) =
    if may_take_array op k then taken_before outs op stack k
    else colour_out (taken_before outs op stack k) (colour_at stack k)

abbrev pub edges_out : Program → MethodInfo → List (Option (List Colour)) → Insn → Target → OpRow
    → List Colour → List Bool → List Bool
edges_out p m frames insn target r stack outs =
    compared_each p m frames
    (compared_each p m frames outs (field_colours_after p insn target r stack) (edges insn))
    (Plain ∷ []) (handlers_of (catchers m insn))

abbrev pub insn_out : Program → MethodInfo → (branched : List Bool) → List (Option (List Colour))
    → (i : ℕ) → Insn → Target → OpRow → TagShape → List Colour → List Bool → List Bool
insn_out p m branched frames i insn target r f stack outs =
    edges_out p m frames insn target r stack (taken_before
    (used_out p m branched i insn.op target f stack outs) insn.op stack (length r.takes))

-- where it is reached
abbrev pub out_at : Program → MethodInfo → (branched : List Bool) → List (Option (List Colour))
    → (i : ℕ) → Option Insn → Option Target → Option (Option TagShape)
    → Option (Option (List Colour)) → List Bool → List Bool
out_at p m branched frames i (Some insn) (Some target) (Some (Some f)) (Some (Some stack)) outs =
    insn_out p m branched frames i insn target (row_of p m insn target) f stack outs
out_at p m branched frames i insn target f stack outs = outs

-- ---- one method: its first instructions

abbrev pub method_out : Program → MethodInfo → List (Option TagShape) → (branched : List Bool)
    → List (Option (List Colour)) → List Bool → ℕ → List Bool
method_out p m tags branched frames outs zero = outs
method_out p m tags branched frames outs (suc i) =
    out_at p m branched frames i (slice_get m.code i) (slice_get m.targets i) (slice_get tags i)
    (slice_get frames i) (method_out p m tags branched frames outs i)

-- of each instruction, whether a branch, a switch or a handler row has it as a target
abbrev pub targets_set : List Insn → List Bool → List ℕ → List Bool
targets_set code flags [] = flags
targets_set code flags (to ∷ tos) = targets_set code (field_noted flags (number_at code to)) tos

abbrev pub branches_set : List Insn → List Bool → List Insn → List Bool
branches_set code flags [] = flags
branches_set code flags (insn ∷ insns) =
    branches_set code (targets_set code flags (branches_to insn.op)) insns

abbrev pub branched_flags : MethodInfo → List Bool
branched_flags m =
    targets_set m.code (branches_set m.code (replicate (length m.code) false) m.code)
    (handlers_of m.rows)

-- ---- the elements that are read

-- the colour of the array that an instruction reads an element of
abbrev pub colour_read : Op → List Colour → Colour
colour_read ops.Iaload stack = colour_at stack 1
colour_read op stack = Plain

abbrev pub read_colour : Option Insn → Option (Option (List Colour)) → Colour
read_colour (Some insn) (Some (Some stack)) = colour_read insn.op stack
read_colour insn stack = Plain

abbrev pub read_colours_before : MethodInfo → List (Option (List Colour)) → ℕ → List Colour
read_colours_before m frames zero = []
read_colours_before m frames (suc i) =
    read_colours_before m frames i ++ read_colour (slice_get m.code i) (slice_get frames i) ∷ []

abbrev pub is_flagged : List Bool → Colour → Bool
is_flagged flags Plain = false
is_flagged flags (Of fi) = slice_index_or flags fi false

abbrev pub element_flags_before : (owned : List Bool) → List Colour → ℕ → List Bool
element_flags_before owned colours zero = []
element_flags_before owned colours (suc i) =
    element_flags_before owned colours i ++ is_flagged owned (colour_at colours i) ∷ []

-- ---- the fields that are not out

abbrev pub may_own : Program → (frozen : List Bool) → (fi : ℕ) → Option FieldInfo → Bool
may_own p frozen fi None = false
may_own p frozen fi (Some field) = is_array_field p fi && class_flag frozen field.class

abbrev pub fields_left_before : Program → (frozen outs : List Bool) → ℕ → List Bool
fields_left_before p frozen outs zero = []
fields_left_before p frozen outs (suc fi) =
    fields_left_before p frozen outs fi
    ++ (may_own p frozen fi (slice_get p.fields fi) && not (slice_index_or outs fi false)) ∷ []

-- the classes of files that have such a field, flagged
abbrev pub owning_with : Bool → Option FieldInfo → List Bool → List Bool
owning_with true (Some field) flags = field_noted flags (Some (field.class - file_class 0))
owning_with own field flags = flags

abbrev pub owning_before : Program → (frozen : List Bool) → ℕ → List Bool
owning_before p frozen zero = replicate (length frozen) false
owning_before p frozen (suc fi) =
    owning_with (may_own p frozen fi (slice_get p.fields fi)) (slice_get p.fields fi)
    (owning_before p frozen fi)

-- ---- what is found

-- the colours of the arrays that a method reads elements of, by the first frames of its
-- instructions, and the fields that are out
pub record IsMethodChecked (p : Program) (m : MethodInfo) (tags : List (Option TagShape))
    (outs after : List Bool) (colours : List Colour) : Type 0 where
  pub frames : List (Option (List Colour))
  pub visited : HasFrames (colour_plan p m) frames
  pub outs_are : after ≡ method_out p m tags (branched_flags m) frames outs (length m.code)
  pub colours_are : colours ≡ read_colours_before m frames (length m.code)

-- method by method: those of the flagged classes
pub data AreMethodsChecked (p : Program) (tags : List Tags) (owning : List Bool) : ℕ → List Bool
    → List (List Colour) → Type 0 where
  none : AreMethodsChecked p tags owning 0 (replicate (length p.fields) false) []
  checked : (u : ℕ) (outs after : List Bool) (reads : List (List Colour)) (colours : List Colour)
      (m : MethodInfo) (t : Tags) → AreMethodsChecked p tags owning u outs reads
      → slice_get p.methods u ≡ Some m → slice_get tags u ≡ Some t
      → class_flag owning m.class ≡ true → IsMethodChecked p m t.frames outs after colours
      → AreMethodsChecked p tags owning (suc u) after (reads ++ colours ∷ [])
  passed : (u : ℕ) (outs : List Bool) (reads : List (List Colour)) (m : MethodInfo)
      → AreMethodsChecked p tags owning u outs reads → slice_get p.methods u ≡ Some m
      → class_flag owning m.class ≡ false
      → AreMethodsChecked p tags owning (suc u) outs (reads ++ [] ∷ [])

-- a flag for each instruction of each method
abbrev pub code_length : Option MethodInfo → ℕ
code_length None = 0
code_length (Some m) = length m.code

abbrev pub element_rows_before : List MethodInfo → (owned : List Bool) → List (List Colour) → ℕ
    → List (List Bool)
element_rows_before ms owned reads zero = []
element_rows_before ms owned reads (suc u) =
    element_rows_before ms owned reads u
    ++ element_flags_before owned (slice_index_or reads u []) (code_length (slice_get ms u)) ∷ []

pub record AreOwnedFound (p : Program) (tags : Tagged) (owned : Owned) : Type 0 where
  pub few : length owned.owners ≡ length p.fields
  pub owners : (fi : ℕ)
      → (slice_index_or owned.owners fi false ≡ true) ↔ IsOwnedArrayField p tags fi
  pub long : AllZip (λ (m : MethodInfo) (flags : List Bool). length flags ≡ length m.code) p.methods
      owned.elements
  pub elements : (mi i : ℕ)
      → (slice_index_or (slice_index_or owned.elements mi []) i false ≡ true)
      ↔ ReadsOwned p tags mi i
