-- Which places of a method hold a value that it read from a field: a colouring of the method for
-- the field. Where there is one, it is determined from the entry, since every edge brings the
-- colours of its target.
use Rattle.std.specs.Prelude.{◌≡◌, ℕ, Bool, true, false, ◌==◌, List, [], ◌∷◌, replicate}
use Rattle.std.specs.Prelude.{slice_index_or}
use Rattle.std.specs.List.{list_any}
use Rattle.jvm_types.specs.Numbers.{has_number}
use Rattle.jvm_types.specs.CodeTable.{stack_after, locals_after}
use Rattle.jvm_types.specs.Verifying.{edges}
use Rattle.jvm_types.specs.declared.code.Insn.{Insn}
use Rattle.jvm_types.specs.declared.code.Op.{Op}
use Rattle.jvm_types.specs.declared.code.Op.TheVariants as ops
use Rattle.jvm_types.specs.declared.op_row.OpRow.{OpRow}
use Rattle.jvm_types.specs.declared.program.Target.{Target}
use Rattle.jvm_types.specs.declared.program.Target.TheVariants as targets
use Rattle.jvm_types.specs.declared.program.MethodInfo.{MethodInfo}
use Rattle.jvm_types.specs.declared.program.Program.{Program}
use Rattle.checked_program.specs.LockTags.{TagShape}
use Rattle.checked_program.specs.Tagging.{catchers}
use Rattle.checked_program.specs.TaggedCode.{Tagged, IsAt, row_of}

-- ---- which places are coloured before an instruction: of the stack, its top first, and of the
-- locals

pub record ColourShape : Type 0 where
  pub stack : List Bool
  pub locals : List Bool

-- at the entry none is
abbrev pub entry_colours : MethodInfo → ColourShape
entry_colours m = record { stack = []; locals = replicate m.max_locals false }

-- the result of a `getfield` of the field is coloured, and every other result is not
abbrev pub is_read_of : (fi : ℕ) → Op → Target → Bool
is_read_of fi (ops.Getfield i) (targets.Field other) = other == fi
is_read_of fi op target = false

-- loads, stores and stack instructions move colours
abbrev pub colours_by : (made : Bool) → OpRow → ColourShape → ColourShape
colours_by made r f =
    record {
      stack = stack_after false (λ type. made) r f.stack f.locals;
      locals = locals_after false (λ type. made) r.writes f.stack f.locals;
    }

abbrev pub colours_after : (fi : ℕ) → Insn → Target → OpRow → ColourShape → ColourShape
colours_after fi insn target r f = colours_by (is_read_of fi insn.op target) r f

-- the exception is not
abbrev pub colours_at_handler : ColourShape → ColourShape
colours_at_handler f = record f { stack = false ∷ [] }

abbrev pub is_coloured : List Bool → (k : ℕ) → Bool
is_coloured colours k = slice_index_or colours k false

-- ---- the colouring: every edge brings the colours of its target

-- colours i: those before the instruction i, where that is reached
pub record IsColouring (p : Program) (tags : Tagged) (mi fi : ℕ) (colours : ℕ → ColourShape)
    : Type 0 where
  pub entry : (m : MethodInfo) (insn : Insn) (target : Target) (f : TagShape)
      → IsAt p tags mi 0 m insn target f → colours 0 ≡ entry_colours m
  pub onward : (i j : ℕ) (m : MethodInfo) (insn other : Insn) (target next : Target)
      (f g : TagShape) → IsAt p tags mi i m insn target f → IsAt p tags mi j m other next g
      → has_number (edges insn) other.pc ≡ true
      → colours j ≡ colours_after fi insn target (row_of p m insn target) (colours i)
  pub caught : (i j : ℕ) (m : MethodInfo) (insn other : Insn) (target next : Target)
      (f g : TagShape) → IsAt p tags mi i m insn target f → IsAt p tags mi j m other next g
      → list_any (λ handler. handler.handler == other.pc) (catchers m insn) ≡ true
      → colours j ≡ colours_at_handler (colours i)
