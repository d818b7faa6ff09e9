-- How what a thread holds, its phase and its attempt agree with what its frames show: its locking
-- is structured (JVMS 2.11.10).
use Rattle.std.specs.Prelude.{◌≡◌, ◌≢◌, ℕ, ◌⊎◌, ◌+◌, ◌-◌, ◌<◌, ◌==◌, Bool, true, false, List, []}
use Rattle.std.specs.Prelude.{◌∷◌, length, take, unwrap_or, slice_get, Option, Some, None}
use Rattle.std.specs.Prelude.{if◌then◌else◌}
use Rattle.std.specs.List.{AllZip, Contains}
use Rattle.jvm_types.specs.ClassNames.{file_of_class}
use Rattle.jvm_types.specs.CodeTable.{can_throw}
use Rattle.jvm_types.specs.Members.{is_synchronized}
use Rattle.jvm_types.specs.Verifying.{is_return}
use Rattle.jvm_types.specs.declared.code.Insn.{Insn}
use Rattle.jvm_types.specs.declared.code.Op.{Op}
use Rattle.jvm_types.specs.declared.code.Op.TheVariants as ops
use Rattle.jvm_types.specs.declared.outcome.End.{End}
use Rattle.jvm_types.specs.declared.outcome.End.TheVariants as ends
use Rattle.checked_program.specs.OwnedArrays.{AreUses}
use Rattle.checked_program.specs.Sections.{Section, section_mode}
use Rattle.checked_program.specs.SectionLaws.{Part, AreParts}
use Rattle.checked_program.specs.Marks.{HasMark}
use Rattle.checked_program.specs.MarkedProgram.{MarkedProgram}
use Rattle.checked_program.specs.declared.section.Mode.{Mode}
use Rattle.checked_program.specs.declared.section.Mode.TheVariants.{OnClass}
use Rattle.checked_program.specs.declared.section.Uses.{Uses}
use Rattle.machine_types.specs.Elision.{put_back}
use Rattle.machine_types.specs.Frames.{monitor_of}
use Rattle.machine_types.specs.HeldMonitors.{held_at, depth_at}
use Rattle.machine_types.specs.Sections.{entered_at}
use Rattle.machine_types.specs.Shown.{Show}
use Rattle.machine_types.specs.Standing.{Standing, Operands, Whole, Lacking, Thrown, tags_of}
use Rattle.machine_types.specs.Threads.{Frame, Attempt, Thread}
use Rattle.machine_types.specs.declared.phase.Phase.{Phase}
use Rattle.machine_types.specs.declared.lock.Held.{Held}
use Rattle.machine_types.specs.declared.lock.Kept.TheVariants as keeps
use Rattle.machine_types.specs.declared.phase.After.{After}
use Rattle.machine_types.specs.declared.phase.After.TheVariants as afters
use Rattle.machine_types.specs.declared.phase.Toward.{Toward}
use Rattle.machine_types.specs.declared.phase.Toward.TheVariants as towards
use Rattle.machine_types.specs.declared.phase.Phase.TheVariants as phases
use Rattle.machine_types.specs.Words.{class_object}
use Rattle.jvm_types.specs.declared.program.Program.{Program}

-- ---- how often a monitor is entered

abbrev pub count_in : (m : ℕ) → List ℕ → ℕ
count_in m [] = 0
count_in m (n ∷ ns) = (if n == m then 1 else 0) + count_in m ns

abbrev pub held_depth : (m : ℕ) → List Held → ℕ
held_depth m held = unwrap_or (depth_at held m) 0

abbrev pub once_at : (n m : ℕ) → ℕ
once_at n m = if n == m then 1 else 0

-- an attempt counts as an entry of its monitor, and so does each entry inside it
abbrev pub tried_depth : (m : ℕ) → Option Attempt → ℕ
tried_depth m None = 0
tried_depth m (Some a) = if a.monitor == m then a.inner + 1 else 0

-- entries that the frames show and the thread has not made yet, or has given up to wait
abbrev pub lacked : Phase → (m : ℕ) → ℕ
lacked (phases.Enter n tried) m = once_at n m
lacked (phases.Acquire n) m = once_at n m
lacked (phases.Take n count) m = once_at n m
lacked (phases.Flag n u) m = once_at n m
lacked (phases.TakeFat n r) m = once_at n m
lacked (phases.WaitLook n r depth) m = if n == m then depth else 0
lacked (phases.Retake n r depth) m = if n == m then depth else 0
lacked phase m = 0

-- entries that the thread still has and the frames no longer show: that of a `monitorexit`
abbrev pub entries_left : After → (n m : ℕ) → ℕ
entries_left afters.Next n m = once_at n m
entries_left a n m = 0

abbrev pub left_toward : Toward → (n m : ℕ) → ℕ
left_toward (towards.Leave a) n m = entries_left a n m
left_toward towards.Wait n m = 0

abbrev pub left_over : Phase → (m : ℕ) → ℕ
left_over (phases.Leave n a) m = entries_left a n m
left_over (phases.Grow n toward) m = left_toward toward n m
left_over (phases.FlatOut n a) m = entries_left a n m
left_over (phases.Own n r toward) m = left_toward toward n m
left_over (phases.FatIn n r toward) m = left_toward toward n m
left_over phase m = 0

-- ---- what the top frame has of its operands

abbrev pub operands_after : After → Operands
operands_after (afters.Unwind x class) = Thrown
operands_after a = Whole

abbrev pub operands_toward : Toward → Operands
operands_toward (towards.Leave a) = operands_after a
operands_toward towards.Wait = Whole

abbrev pub operands_in : Phase → Operands
operands_in (phases.Made a word) = Lacking
operands_in (phases.Throw x class) = Thrown
operands_in (phases.Leave n a) = operands_after a
operands_in (phases.Grow n toward) = operands_toward toward
operands_in (phases.FlatOut n a) = operands_after a
operands_in (phases.Own n r toward) = operands_toward toward
operands_in (phases.FatIn n r toward) = operands_toward toward
operands_in phase = Whole

-- ---- where the top frame stands, by the phase

abbrev pub HasFrame : List Frame → Type 0
HasFrame [] = ⊥
HasFrame (f ∷ fs) = Unit {0}

-- at an instruction that passes a test
abbrev pub TopIs : MarkedProgram → (Op → Bool) → List Frame → Type 0
TopIs c test [] = ⊥
TopIs c test (f ∷ fs) = (k : Standing c f) × (test k.insn.op ≡ true)

abbrev pub is_element_op : Option ℕ → Op → Bool
is_element_op None ops.Iaload = true
is_element_op (Some v) ops.Iastore = true
is_element_op stored op = false

-- of a synchronized method whose monitor is m, at an instruction with no held tag
pub record IsLeaving (c : MarkedProgram) (m : ℕ) (f : Frame) (k : Standing c f) : Type 0 where
  pub synchronized : is_synchronized k.method.flags ≡ true
  pub monitor : monitor_of c.program k.method f ≡ m
  pub none : k.tags.held ≡ []

abbrev pub any_op : Op → Bool
any_op op = true

abbrev pub TopLeaves : MarkedProgram → (m : ℕ) → (Op → Bool) → List Frame → Type 0
TopLeaves c m test [] = ⊥
TopLeaves c m test (f ∷ fs) = (k : Standing c f) × IsLeaving c m f k × (test k.insn.op ≡ true)

abbrev pub AfterShows : MarkedProgram → (m : ℕ) → After → List Frame → Type 0
AfterShows c m afters.Next fs = HasFrame fs
AfterShows c m afters.Return fs = TopLeaves c m is_return fs
AfterShows c m (afters.Unwind x class) fs = TopLeaves c m any_op fs

abbrev pub TowardShows : MarkedProgram → (m : ℕ) → Toward → List Frame → Type 0
TowardShows c m (towards.Leave a) fs = AfterShows c m a fs
TowardShows c m towards.Wait fs = HasFrame fs

-- right behind a `monitorenter`
abbrev pub IsBehindEntry : List Insn → (pc : ℕ) → Type 0
IsBehindEntry code pc =
    (insn : Insn) × (Contains code insn) × (insn.op ≡ ops.Monitorenter) × (insn.next ≡ pc)

-- at pc 0 of a synchronized method whose monitor is m, or right behind a `monitorenter`
abbrev pub TopEnters : MarkedProgram → (m : ℕ) → List Frame → Type 0
TopEnters c m [] = ⊥
TopEnters c m (f ∷ fs) =
    (k : Standing c f)
    × (((f.pc ≡ 0) × (is_synchronized k.method.flags ≡ true)
    × (monitor_of c.program k.method f ≡ m))
    ⊎ (IsBehindEntry k.method.code f.pc × (k.tags.held ≢ [])))

-- ---- how the monitor of the phase is held

abbrev pub IsFlat : Option Held → Type 0
IsFlat None = ⊥
IsFlat (Some h) = (count : ℕ) × (h.kept ≡ keeps.Flat count)

abbrev pub IsFat : (r : ℕ) → Option Held → Type 0
IsFat r None = ⊥
IsFat r (Some h) = h.kept ≡ keeps.Fat r

-- a release gives up the last entry
abbrev pub IsOnce : Toward → (depth : ℕ) → Type 0
IsOnce (towards.Leave a) depth = depth ≡ 1
IsOnce towards.Wait depth = Unit {0}

-- an entry that is not made yet; it is the innermost one that is shown
pub record EntryShows (c : MarkedProgram) (m : ℕ) (fs : List Frame) (shown : List ℕ) : Type 0 where
  pub outer : List ℕ
  pub innermost : shown ≡ m ∷ outer
  pub enters : TopEnters c m fs

-- and where the lock is to be taken
pub record LockShows (c : MarkedProgram) (m : ℕ) (fs : List Frame) (shown : List ℕ)
    (held : List Held) (attempt : Option Attempt) : Type 0 where
  pub entry : EntryShows c m fs shown
  pub not_held : held_at held m ≡ None
  pub no_attempt : attempt ≡ None

pub record GrowShows (c : MarkedProgram) (m : ℕ) (toward : Toward) (fs : List Frame)
    (held : List Held) : Type 0 where
  pub toward_shows : TowardShows c m toward fs
  pub flat : IsFlat (held_at held m)
  pub once : IsOnce toward (held_depth m held)

pub record WaitShows (m depth : ℕ) (fs : List Frame) (held : List Held) : Type 0 where
  pub frame : HasFrame fs
  pub not_held : held_at held m ≡ None
  pub some : 0 < depth

abbrev pub PhaseShows : MarkedProgram → Phase → List Frame → (shown : List ℕ) → List Held
    → Option Attempt → Type 0
PhaseShows c phases.Idle fs shown held a = fs ≡ []
PhaseShows c phases.Start fs shown held a = fs ≡ []
PhaseShows c (phases.Ending e) fs shown held a = fs ≡ []
PhaseShows c (phases.Ended e) fs shown held a = fs ≡ []
PhaseShows c (phases.Element word stored) fs shown held a = TopIs c (is_element_op stored) fs
PhaseShows c (phases.Throw x class) fs shown held a = TopIs c can_throw fs
PhaseShows c (phases.Enter m tried) fs shown held a = EntryShows c m fs shown
PhaseShows c (phases.Acquire m) fs shown held a = LockShows c m fs shown held a
PhaseShows c (phases.Take m count) fs shown held a = LockShows c m fs shown held a
PhaseShows c (phases.Flag m u) fs shown held a = LockShows c m fs shown held a
PhaseShows c (phases.TakeFat m r) fs shown held a = LockShows c m fs shown held a
PhaseShows c (phases.Leave m after) fs shown held a = AfterShows c m after fs
PhaseShows c (phases.Grow m toward) fs shown held a = GrowShows c m toward fs held
PhaseShows c (phases.FlatOut m after) fs shown held a = GrowShows c m (towards.Leave after) fs held
PhaseShows c (phases.Own m r toward) fs shown held a = GrowShows c m toward fs held
PhaseShows c (phases.FatIn m r toward) fs shown held a = GrowShows c m toward fs held
PhaseShows c (phases.WaitBit m r) fs shown held a = HasFrame fs × IsFat r (held_at held m)
PhaseShows c (phases.WaitOut m r) fs shown held a = HasFrame fs × IsFat r (held_at held m)
PhaseShows c (phases.WaitLook m r depth) fs shown held a = WaitShows m depth fs held
PhaseShows c (phases.Retake m r depth) fs shown held a = WaitShows m depth fs held
PhaseShows c (phases.NotifyLook m r) fs shown held a = HasFrame fs × IsFat r (held_at held m)
PhaseShows c (phases.NotifyOne m r u) fs shown held a = HasFrame fs × IsFat r (held_at held m)
PhaseShows c (phases.NotifyAll m r) fs shown held a = HasFrame fs × IsFat r (held_at held m)
PhaseShows c phase fs shown held a = HasFrame fs

-- ---- one thread, by its phase

-- each monitor stands once on the held list, and is entered
abbrev pub AreHeldOnce : List Held → Type 0
AreHeldOnce [] = Unit {0}
AreHeldOnce (h ∷ hs) = (held_at hs h.monitor ≡ None) × (0 < h.depth) × AreHeldOnce hs

pub record Stands (c : MarkedProgram) (phase : Phase) (fs : List Frame) (held : List Held)
    (attempt : Option Attempt) : Type 0 where
  pub shown : List ℕ
  pub show : Show c (operands_in phase) fs shown
  -- what is held and tried are the entries that are shown
  pub depths : (m : ℕ)
      → count_in m shown + left_over phase m
      ≡ held_depth m held + tried_depth m attempt + lacked phase m
  pub once : AreHeldOnce held
  pub phase_shows : PhaseShows c phase fs shown held attempt

-- ---- inside an attempt

abbrev pub IsPhaseInside : (m : ℕ) → Phase → Type 0
IsPhaseInside m phases.Run = Unit {0}
IsPhaseInside m (phases.Element word stored) = Unit {0}
IsPhaseInside m (phases.Throw x class) = Unit {0}
IsPhaseInside m (phases.Enter n tried) = n ≡ m
IsPhaseInside m (phases.Leave n a) = n ≡ m
IsPhaseInside m (phases.Ending e) = Unit {0}
IsPhaseInside m (phases.Ended e) = Unit {0}
IsPhaseInside m phase = ⊥

-- the section that an attempt runs
abbrev pub section_of : Attempt → Section
section_of a = record { method = a.entry.method; spot = entered_at a.entry.pc }

-- the monitor of a section: of its class, or of the receiver of its frame
abbrev pub mode_monitor : Program → (receiver : ℕ) → Mode → ℕ
mode_monitor p receiver (OnClass class) = class_object p (file_of_class class)
mode_monitor p receiver mode = receiver

abbrev pub section_monitor : Program → Section → (receiver : ℕ) → ℕ
section_monitor p s receiver = mode_monitor p receiver (section_mode p s)

-- its frames, from the top one down to the one that entered the section
abbrev pub frames_inside : Attempt → List Frame → List Frame
frames_inside a frames = take (length frames - a.base) frames

abbrev pub IsPart : (c : MarkedProgram) → Frame → Part → Type 0
IsPart c f part =
    (k : Standing c f) × (part ≡ record { method = f.method; at = k.number; receiver = f.receiver })

-- they are parts of the section
abbrev pub RunsSection : MarkedProgram → Attempt → List Frame → Type 0
RunsSection c a fs =
    (parts : List Part) × (mode : Mode) × AllZip (IsPart c) fs parts
    × AreParts c.program (tags_of c) (section_of a) a.entry.receiver parts mode

-- the section is done but for its last look at the lock word
pub record Finishes (a : Attempt) (phase : Phase) (fs : List Frame) : Type 0 where
  pub leaves : phase ≡ phases.Leave a.monitor afters.Next
  pub outermost : a.inner ≡ 0
  pub frame : Frame
  pub alone : fs ≡ frame ∷ []
  pub method : frame.method ≡ a.entry.method
  pub receiver : frame.receiver ≡ a.entry.receiver

pub record AttemptStands (c : MarkedProgram) (phase : Phase) (fs : List Frame) (held : List Held)
    (a : Attempt) : Type 0 where
  pub inside : IsPhaseInside a.monitor phase
  pub not_held : held_at held a.monitor ≡ None
  pub based : a.base < length fs
  -- with the frame of the entry put back, the thread stands as it did then
  pub goes_back : Stands c (phases.Enter a.monitor a.number) (put_back a fs) held None
  pub monitor : a.monitor ≡ section_monitor c.program (section_of a) a.entry.receiver
  pub uses : Uses
  pub are_uses : AreUses c.program (tags_of c) uses
  pub marked : HasMark c.program (tags_of c) uses (section_of a) 0
  pub frames : Finishes a phase (frames_inside a fs) ⊎ RunsSection c a (frames_inside a fs)

abbrev pub AttemptStandsIn : MarkedProgram → Phase → List Frame → List Held → Option Attempt
    → Type 0
AttemptStandsIn c phase fs held None = Unit {0}
AttemptStandsIn c phase fs held (Some a) = AttemptStands c phase fs held a

-- ---- a limit leaves a thread as it was in some phase

abbrev pub CountsTurns : Phase → Type 0
CountsTurns (phases.Acquire m) = Unit {0}
CountsTurns (phases.Take m count) = Unit {0}
CountsTurns (phases.Flag m u) = Unit {0}
CountsTurns (phases.TakeFat m r) = Unit {0}
CountsTurns (phases.WaitLook m r depth) = Unit {0}
CountsTurns (phases.Retake m r depth) = Unit {0}
CountsTurns phase = ⊥

abbrev pub DrawsToWait : Phase → Type 0
DrawsToWait (phases.Grow m towards.Wait) = Unit {0}
DrawsToWait phase = ⊥

abbrev pub IsLimitAt : End → Phase → (was : Phase) → Type 0
IsLimitAt ends.Steps phase was = was ≡ phases.Run
IsLimitAt ends.Prints phase was = was ≡ phases.Run
IsLimitAt ends.Turns phase was = CountsTurns was
IsLimitAt ends.Records phase was = DrawsToWait was
IsLimitAt e phase was = was ≡ phase

-- the phase that counts
abbrev pub IsAs : Phase → (was : Phase) → Type 0
IsAs (phases.Ending e) was = IsLimitAt e (phases.Ending e) was
IsAs (phases.Ended e) was = IsLimitAt e (phases.Ended e) was
IsAs phase was = was ≡ phase

-- ---- the whole

-- was: the phase of each thread that counts
pub record IsStructured (c : MarkedProgram) (was : Phase) (s : Thread) : Type 0 where
  pub is_as : IsAs s.phase was
  pub stands : Stands c was s.frames s.held s.attempt
  pub attempt : AttemptStandsIn c was s.frames s.held s.attempt

abbrev pub Structure : MarkedProgram → (was : ℕ → Phase) → List Thread → Type 0
Structure c was threads =
    (t : ℕ) (s : Thread) → slice_get threads t ≡ Some s → IsStructured c (was t) s
