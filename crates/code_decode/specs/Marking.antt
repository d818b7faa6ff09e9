-- The rules on branches and handler rows, by a mark for each pc at which an instruction begins.
use Rattle.std.specs.Prelude.{◌≡◌, ℕ, ◌+◌, ℤ, pos, nat_abs, int_lt, nat_lt, Bool, true, false, not}
use Rattle.std.specs.Prelude.{◌==◌, ◌&&◌, ◌||◌, if◌then◌else◌, List, [], ◌∷◌, slice_index_or}
use Rattle.std.specs.Prelude.{Option, Some, None, Result, Ok, Err}
use Rattle.jvm_types.specs.CodeFault.{code_fault}
use Rattle.jvm_types.specs.declared.class_file.Handler.{Handler}
use Rattle.jvm_types.specs.declared.code.Insn.{Insn}
use Rattle.jvm_types.specs.declared.refusal.KRule.{KRule}
use Rattle.jvm_types.specs.declared.refusal.KRule.TheVariants.{K3, K4}
use Rattle.code_decode.specs.declared.sweep.Branching.{Branching}
use Rattle.code_decode.specs.declared.error.CodeError.{CodeError}
use Rattle.code_decode.specs.declared.error.CodeError.TheVariants as errors
use Rattle.jvm_types.specs.ReadCode.{insns_of}

abbrev pub has_mark : List Bool → ℕ → Bool
has_mark marks i = slice_index_or marks i false

abbrev pub mark_at : List Bool → ℤ → Bool
mark_at marks to = not (int_lt to (pos 0)) && has_mark marks (nat_abs to)

abbrev pub all_marked : List Bool → List ℤ → Bool
all_marked marks [] = true
all_marked marks (to ∷ tos) = mark_at marks to && all_marked marks tos

abbrev pub unmarked_branch : List Bool → List Branching → Option (KRule × ℕ)
unmarked_branch marks [] = None
unmarked_branch marks (b ∷ bs) =
    if all_marked marks b.targets then unmarked_branch marks bs else Some (K3, b.pc)

abbrev pub marked_row : List Bool → ℕ → Handler → Bool
marked_row marks size h =
    nat_lt h.start h.end && has_mark marks h.start && (has_mark marks h.end || h.end == size)
    && has_mark marks h.handler

abbrev pub unmarked_row : List Bool → ℕ → ℕ → List Handler → Option (KRule × ℕ)
unmarked_row marks size number [] = None
unmarked_row marks size number (h ∷ hs) =
    if marked_row marks size h then unmarked_row marks size (number + 1) hs else Some (K4, number)

-- memory ran out, or this is the first fault
abbrev pub IsFirstCodeFault : List ℕ → List Handler → CodeError → Type 0
IsFirstCodeFault code rows errors.Memory = Unit {0}
IsFirstCodeFault code rows (errors.Refused rule at) = code_fault code rows ≡ Some (rule, at)

-- memory ran out
abbrev pub IsWantOfMemory : CodeError → Type 0
IsWantOfMemory errors.Memory = Unit {0}
IsWantOfMemory (errors.Refused rule at) = ⊥

-- the instructions that are read off the code, or its first fault
abbrev pub IsCodeDecoded : List ℕ → List Handler → Result (List Insn) CodeError → Type 0
IsCodeDecoded code rows (Ok insns) = (code_fault code rows ≡ None) × (insns ≡ insns_of 0 0 code)
IsCodeDecoded code rows (Err e) = IsFirstCodeFault code rows e
