-- Which monitors the frames of a thread show that it has entered and not left.
use Rattle.std.specs.Prelude.{◌≡◌, ℕ, false, List, [], ◌∷◌, ◌++◌, length, map, drop, Option, Some}
use Rattle.std.specs.Prelude.{None, if◌then◌else◌}
use Rattle.std.specs.List.{AllByRecursion}
use Rattle.jvm_types.specs.Members.{is_synchronized}
use Rattle.jvm_types.specs.declared.code.Insn.{Insn}
use Rattle.jvm_types.specs.declared.program.MethodInfo.{MethodInfo}
use Rattle.jvm_types.specs.declared.program.Program.{Program}
use Rattle.checked_program.specs.Visits.{frame_at_pc}
use Rattle.checked_program.specs.LockTags.{TagShape, same_tag}
use Rattle.checked_program.specs.MarkedProgram.{MarkedProgram}
use Rattle.checked_program.specs.declared.tag.Tag.{Tag}
use Rattle.checked_program.specs.declared.tag.Tag.TheVariants.{Untagged, This, At}
use Rattle.machine_types.specs.Frames.{monitor_of}
use Rattle.machine_types.specs.Standing.{Standing, CallsMethod, Operands, Whole, Lacking, Taken}
use Rattle.machine_types.specs.Standing.{Thrown, row_at}
use Rattle.machine_types.specs.Threads.{Frame}

-- ---- the values of tags

-- of `this` the receiver; of each `dup` of the method some one value
abbrev pub tag_value : (choice : ℕ → ℕ) → (receiver : ℕ) → Tag → ℕ
tag_value choice receiver Untagged = 0
tag_value choice receiver This = receiver
tag_value choice receiver (At pc) = choice pc

abbrev pub HasValue : (choice : ℕ → ℕ) → (receiver : ℕ) → Tag → (v : ℕ) → Type 0
HasValue choice receiver Untagged v = Unit {0}
HasValue choice receiver This v = v ≡ receiver
HasValue choice receiver (At pc) v = v ≡ choice pc

-- every place with a tag is there, and has the tag's value
abbrev pub HaveValues : (choice : ℕ → ℕ) → (receiver : ℕ) → List Tag → List ℕ → Type 0
HaveValues choice receiver [] vs = Unit {0}
HaveValues choice receiver (t ∷ ts) [] = ⊥
HaveValues choice receiver (t ∷ ts) (v ∷ vs) =
    HasValue choice receiver t v × HaveValues choice receiver ts vs

abbrev pub StackShows : Operands → (choice : ℕ → ℕ) → (receiver : ℕ) → List Tag → List ℕ → Type 0
StackShows Whole choice receiver ts vs = HaveValues choice receiver ts vs
StackShows Lacking choice receiver ts vs = (v : ℕ) → HaveValues choice receiver ts (v ∷ vs)
StackShows (Taken count) choice receiver ts vs = HaveValues choice receiver (drop count ts) vs
StackShows Thrown choice receiver ts vs = Unit {0}

-- ---- tags that are made again

-- where the `dup` of a tag stands, that tag is not held: each path to it has one held list
abbrev pub held_tags : Option TagShape → List Tag
held_tags None = []
held_tags (Some t) = t.held

abbrev pub IsMade : List Insn → List (Option TagShape) → Tag → Type 0
IsMade code frames (At pc) =
    AllByRecursion (λ t. same_tag (At pc) t ≡ false) (held_tags (frame_at_pc code frames pc))
IsMade code frames t = Unit {0}

pub record AreMade (code : List Insn) (frames : List (Option TagShape)) (tags : TagShape)
    : Type 0 where
  pub stack : AllByRecursion (IsMade code frames) tags.stack
  pub locals : AllByRecursion (IsMade code frames) tags.locals
  pub held : AllByRecursion (IsMade code frames) tags.held

-- ---- one frame

-- an entry of the monitor of a synchronized method
abbrev pub own_entry : Program → MethodInfo → Frame → List ℕ
own_entry p m f = if is_synchronized m.flags then monitor_of p m f ∷ [] else []

-- an entry for each held tag, innermost first, and then the method's own
abbrev pub shown_entries : Program → (choice : ℕ → ℕ) → MethodInfo → TagShape → Frame → List ℕ
shown_entries p choice m tags f = map (tag_value choice f.receiver) tags.held ++ own_entry p m f

-- a frame shows these entries, with some choice of a value for each tag
pub record Shows (c : MarkedProgram) (operands : Operands) (f : Frame) (shown : List ℕ)
    : Type 0 where
  pub stands : Standing c f
  pub made : AreMade stands.method.code stands.at.frames stands.tags
  pub choice : ℕ → ℕ
  pub locals : HaveValues choice f.receiver stands.tags.locals f.locals
  pub stack : StackShows operands choice f.receiver stands.tags.stack f.stack
  pub shown_are : shown ≡ shown_entries c.program choice stands.method stands.tags f

-- ---- all frames of a thread

-- a frame that waits, at its call, for a method
pub record ShowsAtCall (c : MarkedProgram) (callee : ℕ) (f : Frame) (shown : List ℕ) : Type 0 where
  pub count : ℕ
  pub shows : Shows c (Taken count) f shown
  pub calls : CallsMethod c f shows.stands callee
  pub taken : count ≡ length (row_at c f shows.stands).takes

-- the frames below one of a method
abbrev pub ShowBelow : MarkedProgram → (callee : ℕ) → List Frame → (shown : List ℕ) → Type 0
ShowBelow c callee [] shown = shown ≡ []
ShowBelow c callee (f ∷ fs) shown =
    (own : List ℕ) × (rest : List ℕ) × (shown ≡ own ++ rest) × ShowsAtCall c callee f own
    × ShowBelow c f.method fs rest

-- innermost first
abbrev pub Show : MarkedProgram → Operands → List Frame → (shown : List ℕ) → Type 0
Show c operands [] shown = shown ≡ []
Show c operands (f ∷ fs) shown =
    (own : List ℕ) × (rest : List ℕ) × (shown ≡ own ++ rest) × Shows c operands f own
    × ShowBelow c f.method fs rest
