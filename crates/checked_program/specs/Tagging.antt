-- Lock tagging: which monitors a method has entered at each instruction, by the tags of the values
-- that they were entered on. It accepts methods whose locking is structured (JVMS 2.11.10, which
-- leaves it open to enforce that).
use Rattle.std.specs.Prelude.{◌≡◌, ℕ, Bool, true, false, not, ◌&&◌, ◌||◌, ◌==◌, if◌then◌else◌, List}
use Rattle.std.specs.Prelude.{[], ◌∷◌, ◌++◌, length, map, drop, Option, Some, slice_get}
use Rattle.std.specs.List.{list_any, AllByRecursion}
use Rattle.jvm_types.specs.CodeTable.{row, can_throw, stack_after, locals_after}
use Rattle.jvm_types.specs.declared.op_row.OpRow.{OpRow}
use Rattle.jvm_types.specs.Verifying.{edges, covering, is_return}
use Rattle.jvm_types.specs.declared.code.Insn.{Insn}
use Rattle.jvm_types.specs.declared.code.Op.{Op}
use Rattle.jvm_types.specs.declared.code.Op.TheVariants as ops
use Rattle.jvm_types.specs.declared.stack_move.StackMove.TheVariants as moves
use Rattle.jvm_types.specs.declared.program.Row.{Row}
use Rattle.jvm_types.specs.declared.program.Target.{Target}
use Rattle.jvm_types.specs.declared.program.MethodInfo.{MethodInfo}
use Rattle.jvm_types.specs.declared.program.Program.{Program}
use Rattle.jvm_types.specs.declared.refusal.SRule.{SRule}
use Rattle.jvm_types.specs.declared.refusal.SRule.TheVariants.{S1, S2, S3, S4}
use Rattle.checked_program.specs.Visits.{Meeting, Act, Break, Bring, Plan, HasFrames, IsBroken}
use Rattle.checked_program.specs.Visits.{EdgeFits}
use Rattle.checked_program.specs.LockTags.{TagShape, same_tag, same_tags, meet_tags, without}
use Rattle.checked_program.specs.LockTags.{entry_tags, IsShapeBelow}
use Rattle.checked_program.specs.declared.tag.Tag.{Tag}
use Rattle.checked_program.specs.declared.tag.Tag.TheVariants.{Untagged, This, At}
use Rattle.checked_program.specs.declared.tag.Tags.{Tags}

-- ---- the tags after an instruction

-- the row of the instruction moves them, and what it makes is untagged
abbrev pub moved_tags : OpRow → TagShape → TagShape
moved_tags r f =
    record {
      stack = stack_after Untagged (λ type. Untagged) r f.stack f.locals;
      locals = locals_after Untagged (λ type. Untagged) r.writes f.stack f.locals;
      held = f.held;
    }

-- with the stack of the frame beside it; only a `dup` of an untagged value makes a tag
abbrev pub tags_by_op : ℕ → OpRow → Op → List Tag → TagShape → TagShape
tags_by_op pc r (ops.Stack moves.Dup) (Untagged ∷ ts) f =
    record { stack = At pc ∷ At pc ∷ without pc ts; locals = without pc f.locals; held = f.held }
tags_by_op pc r ops.Monitorenter (t ∷ ts) f = record (moved_tags r f) { held = t ∷ f.held }
tags_by_op pc r ops.Monitorexit ts f = record (moved_tags r f) { held = drop 1 f.held }
tags_by_op pc r op ts f = moved_tags r f

abbrev pub tags_after : Insn → OpRow → TagShape → TagShape
tags_after insn r f = tags_by_op insn.pc r insn.op f.stack f

-- ---- where an exception may go

abbrev pub catches_all : Row → Bool
catches_all handler = handler.catch_class == 0

-- the rows up to the first that catches all
abbrev pub until_all : List Row → List Row
until_all [] = []
until_all (handler ∷ handlers) =
    if catches_all handler then handler ∷ [] else handler ∷ until_all handlers

-- the rows that an exception of an instruction may go to; verification has an edge to every
-- covering row
abbrev pub catchers : MethodInfo → Insn → List Row
catchers m insn = if can_throw insn.op then until_all (covering m insn.pc) else []

-- the tags at a handler: the locals as they are before the instruction, and the one exception on
-- the stack
abbrev pub tags_at_handler : TagShape → TagShape
tags_at_handler f = record f { stack = Untagged ∷ [] }

-- ---- the rules at one instruction

-- S1: `monitorenter` on a value without a tag
abbrev pub enters_untagged : Op → List Tag → Bool
enters_untagged ops.Monitorenter (This ∷ ts) = false
enters_untagged ops.Monitorenter (At pc ∷ ts) = false
enters_untagged ops.Monitorenter ts = true
enters_untagged op ts = false

-- S2: `monitorexit` on a value whose tag is not the innermost held one
abbrev pub is_innermost : Tag → List Tag → Bool
is_innermost Untagged held = false
is_innermost t [] = false
is_innermost t (u ∷ held) = same_tag t u

abbrev pub exits_other : Op → List Tag → List Tag → Bool
exits_other ops.Monitorexit [] held = true
exits_other ops.Monitorexit (t ∷ ts) held = not (is_innermost t held)
exits_other op ts held = false

-- S4: a return with a held tag, or an exception that may leave the method with one
abbrev pub may_leave : MethodInfo → Insn → Bool
may_leave m insn =
    is_return insn.op || (can_throw insn.op && not (list_any catches_all (covering m insn.pc)))

abbrev pub leaves_held : MethodInfo → Insn → List Tag → Bool
leaves_held m insn [] = false
leaves_held m insn (t ∷ held) = may_leave m insn

-- ---- the visits

-- S3: two edges meet with different held lists
abbrev pub tag_meeting : Meeting TagShape
tag_meeting = record {
  meet =
      λ f g.
      record {
        stack = meet_tags f.stack g.stack;
        locals = meet_tags f.locals g.locals;
        held = f.held;
      };
  same =
      λ f g. same_tags f.stack g.stack && (same_tags f.locals g.locals && same_tags f.held g.held);
  clashes = λ f g. not (same_tags f.held g.held);
}

abbrev pub break_if : Bool → SRule → ℕ → List (Act TagShape SRule)
break_if true rule pc = Break rule pc ∷ []
break_if false rule pc = []

-- the rules in their order, and S3 where an edge is brought: the edges of the instruction first,
-- then those to handlers
abbrev pub tag_acts : MethodInfo → Insn → OpRow → TagShape → List (Act TagShape SRule)
tag_acts m insn r f =
    break_if (enters_untagged insn.op f.stack) S1 insn.pc
    ++ break_if (exits_other insn.op f.stack f.held) S2 insn.pc
    ++ (Bring S3 (edges insn) (tags_after insn r f)
    ∷ map (λ handler. Bring S3 (handler.handler ∷ []) (tags_at_handler f)) (catchers m insn))
    ++ break_if (leaves_held m insn f.held) S4 insn.pc

abbrev pub acts_at : Program → MethodInfo → Option Insn → Option Target → TagShape
    → List (Act TagShape SRule)
acts_at p m (Some insn) (Some target) f = tag_acts m insn (row p m insn.pc target insn.op) f
acts_at p m insn target f = []

abbrev pub tag_plan : Program → MethodInfo → Plan TagShape SRule
tag_plan p m =
    record {
      meeting = tag_meeting;
      code = m.code;
      first = entry_tags m;
      acts = λ i f. acts_at p m (slice_get m.code i) (slice_get m.targets i) f;
    }

-- ---- the answer

-- no visit of the method breaks a rule, and these are the last frames
abbrev pub HasTagging : Program → MethodInfo → List (Option TagShape) → Type 0
HasTagging p m frames = HasFrames (tag_plan p m) frames

abbrev pub IsTaggingOf : Program → MethodInfo → Tags → Type 0
IsTaggingOf p m t = HasTagging p m t.frames

-- a method is refused by a rule, at a pc
abbrev pub IsTagRefused : Program → MethodInfo → SRule → ℕ → Type 0
IsTagRefused p m rule pc = IsBroken (tag_plan p m) rule pc

-- ---- the local law

-- at an instruction with these tags no rule is broken, and each edge brings the held list of its
-- target and, where a place there has a tag, that tag
pub record IsTagSound (m : MethodInfo) (insn : Insn) (r : OpRow) (frames : List (Option TagShape))
    (f : TagShape) : Type 0 where
  pub enters : enters_untagged insn.op f.stack ≡ false
  pub exits : exits_other insn.op f.stack f.held ≡ false
  pub leaves : leaves_held m insn f.held ≡ false
  pub edges_fit : AllByRecursion (EdgeFits IsShapeBelow m.code frames (tags_after insn r f))
      (edges insn)
  pub handlers_fit : AllByRecursion
      (λ handler. EdgeFits IsShapeBelow m.code frames (tags_at_handler f) handler.handler)
      (catchers m insn)

pub record IsTagAssignment (p : Program) (m : MethodInfo) (frames : List (Option TagShape))
    : Type 0 where
  pub long : length frames ≡ length m.code
  pub entry : EdgeFits IsShapeBelow m.code frames (entry_tags m) 0
  pub sound : (i : ℕ) (insn : Insn) (target : Target) (f : TagShape)
      → slice_get m.code i ≡ Some insn → slice_get m.targets i ≡ Some target
      → slice_get frames i ≡ Some (Some f)
      → IsTagSound m insn (row p m insn.pc target insn.op) frames f
