-- What a list of events has done: of each thread the plain steps that are due of its open attempt,
-- and the instructions that it began in vain; and of all threads the shadow, the plain steps that
-- the list stands for.
use Rattle.std.specs.Prelude.{ℕ, ◌+◌, ◌==◌, nat_lt, Bool, true, false, List, [], ◌∷◌, ◌++◌, map}
use Rattle.std.specs.Prelude.{replicate, Option, Some, None, slice_get, slice_set, slice_index_or}
use Rattle.std.specs.Prelude.{if◌then◌else◌}
use Rattle.machine_types.specs.Accesses.{found_by}
use Rattle.machine_types.specs.Core.{Core, Happening, Of, NextPart, happened, start}
use Rattle.machine_types.specs.Effects.{Effect, Indexes, Prints, Notifies, NotifiesAll, Stuck}
use Rattle.machine_types.specs.Elision.{is_same, is_checked}
use Rattle.machine_types.specs.Events.{wanted}
use Rattle.machine_types.specs.Frames.{Top, top_of, effect_at}
use Rattle.machine_types.specs.HeldMonitors.{held_at}
use Rattle.machine_types.specs.Instructions.{has_print_left}
use Rattle.machine_types.specs.Ints.{low}
use Rattle.machine_types.specs.LockWords.{word_of_lock}
use Rattle.machine_types.specs.LockWords as locks
use Rattle.machine_types.specs.Monitors.{Claim, Has, Tries, HasNot, claim}
use Rattle.checked_program.specs.MarkedProgram.{MarkedProgram}
use Rattle.machine_types.specs.Threads.{Attempt, Thread, Phase, Config, Held}
use Rattle.machine_types.specs.Words.{header_length}
use Rattle.machine_types.specs.declared.lock.Kept.{Kept}
use Rattle.machine_types.specs.declared.lock.Kept.TheVariants as keeps
use Rattle.machine_types.specs.declared.phase.Phase.TheVariants as phases
use Rattle.machine_types.specs.declared.plain.Act.{Act}
use Rattle.machine_types.specs.declared.plain.Act.TheVariants.{Begin, Do, Enter, Exit, Wait, Notify}
use Rattle.machine_types.specs.declared.plain.Act.TheVariants.{NotifyAll, Retake}
use Rattle.machine_types.specs.declared.plain.PlainStep.{PlainStep}

-- ---- the acts of one event, as if the thread held what it has an attempt on

abbrev pub act_if : Bool → Act → List Act
act_if true act = act ∷ []
act_if false act = []

-- on a flat lock the notification is done with its instruction
abbrev pub notified_by : Kept → Act → List Act
notified_by (keeps.Flat c) act = Do ∷ act ∷ []
notified_by (keeps.Fat r) act = Do ∷ []

abbrev pub notify_acts : Option Held → Act → List Act
notify_acts None act = Do ∷ []
notify_acts (Some h) act = notified_by h.kept act

-- an element that is there is read or stored in a second event
abbrev pub instruction_acts : Thread → Effect → (got : ℕ) → List Act
instruction_acts s (Indexes array index stored) got =
    if nat_lt (low index) (header_length got) then [] else Do ∷ []
instruction_acts s (Prints n) got = act_if (has_print_left s) Do
instruction_acts s (Notifies m) got = notify_acts (held_at s.held m) (Notify None)
instruction_acts s (NotifiesAll m) got = notify_acts (held_at s.held m) NotifyAll
instruction_acts s Stuck got = []
instruction_acts s e got = Do ∷ []

abbrev pub run_acts : MarkedProgram → Thread → Option Top → (got : ℕ) → List Act
run_acts c s None got = []
run_acts c s (Some at) got = instruction_acts s (effect_at c.program at) got

abbrev pub enter_acts : Claim → List Act
enter_acts HasNot = []
enter_acts claim = Enter ∷ []

abbrev pub release_acts : Thread → Kept → (got : ℕ) → List Act
release_acts s (keeps.Flat c) got = act_if (got == word_of_lock (locks.Held s.number)) Exit
release_acts s (keeps.Fat r) got = Exit ∷ []

abbrev pub leave_acts : Thread → Claim → (got : ℕ) → List Act
leave_acts s (Has h) got = if nat_lt 1 h.depth then Exit ∷ [] else release_acts s h.kept got
leave_acts s (Tries a) got = act_if (nat_lt 0 a.inner) Exit
leave_acts s HasNot got = []

abbrev pub acts_of : MarkedProgram → Thread → Phase → (got : ℕ) → List Act
acts_of c s phases.Start got = Begin ∷ []
acts_of c s phases.Run got = run_acts c s (top_of c.program s.frames) got
acts_of c s (phases.Element word stored) got = Do ∷ []
acts_of c s (phases.Throw x class) got = Do ∷ []
acts_of c s (phases.Enter m tried) got = enter_acts (claim s m)
acts_of c s (phases.Take m count) got = act_if (got == word_of_lock (locks.Free count)) Enter
acts_of c s (phases.TakeFat m r) got = act_if (got == 0) Enter
acts_of c s (phases.Leave m a) got = leave_acts s (claim s m) got
acts_of c s (phases.FlatOut m a) got = Exit ∷ []
acts_of c s (phases.WaitOut m r) got = Wait ∷ []
acts_of c s (phases.Retake m r depth) got = act_if (got == 0) Retake
acts_of c s (phases.NotifyLook m r) got = act_if (got == 0) (Notify None)
acts_of c s (phases.NotifyOne m r u) got = Notify (Some u) ∷ []
acts_of c s (phases.NotifyAll m r) got = NotifyAll ∷ []
acts_of c s phase got = []

-- ---- what an event inside an attempt does with it

pub data Fate : Type 0 where
  GoesOn : Fate
  Fails : Fate
  Finishes : Fate

abbrev pub fate_by : (same : Bool) → Fate → Fate
fate_by true fate = fate
fate_by false fate = Fails

abbrev pub run_fate : MarkedProgram → Attempt → Option Top → (got : ℕ) → Fate
run_fate c a None got = GoesOn
run_fate c a (Some at) got =
    if is_checked at.frame.pc (effect_at c.program at) then fate_by (is_same a got) GoesOn
    else GoesOn

abbrev pub leave_fate : Claim → (got : ℕ) → Fate
leave_fate (Tries a) got = if nat_lt 0 a.inner then GoesOn else fate_by (is_same a got) Finishes
leave_fate claim got = GoesOn

abbrev pub fate : MarkedProgram → Thread → Attempt → Phase → (got : ℕ) → Fate
fate c s a phases.Run got = run_fate c a (top_of c.program s.frames) got
fate c s a (phases.Throw x class) got = fate_by (is_same a got) GoesOn
fate c s a (phases.Leave m b) got = leave_fate (claim s m) got
fate c s a phase got = GoesOn

-- ---- the past of a thread

pub record Past : Type 0 where
  -- the acts that the events of its open attempt stand for
  pub due : List Act
  -- the instructions that it began there
  pub pending : ℕ
  -- the instructions that it began in attempts that failed
  pub wasted : ℕ

abbrev pub no_past : Past
no_past = record { due = []; pending = 0; wasted = 0 }

-- with one instruction more where the event begins one
abbrev pub with_begun : ℕ → Phase → ℕ
with_begun n phases.Run = n + 1
with_begun n phase = n

abbrev pub past_by : Past → Phase → List Act → Fate → Past
past_by d phase acts GoesOn = record d { due = d.due ++ acts; pending = with_begun d.pending phase }
past_by d phase acts Fails =
    record { due = []; pending = 0; wasted = d.wasted + with_begun d.pending phase }
past_by d phase acts Finishes = record d { due = []; pending = 0 }

abbrev pub past_after : MarkedProgram → Thread → Option Attempt → (got : ℕ) → Past → Past
past_after c s None got d = d
past_after c s (Some a) got d = past_by d s.phase (acts_of c s s.phase got) (fate c s a s.phase got)

-- ---- the acts that an event stands for

-- a section that was elided stands where it finishes: its entry, what is due, its exit
abbrev pub shown_by : Fate → Past → List Act
shown_by Finishes d = Enter ∷ d.due ++ Exit ∷ []
shown_by fate d = []

abbrev pub shown_at : MarkedProgram → Thread → Option Attempt → (got : ℕ) → Past → List Act
shown_at c s None got d = acts_of c s s.phase got
shown_at c s (Some a) got d = shown_by (fate c s a s.phase got) d

-- ---- along a list of events

-- a state with the pasts of its threads
pub record Told : Type 0 where
  pub core : Core
  pub pasts : List Past

abbrev pub told_start : MarkedProgram → Config → Told
told_start c cfg = record { core = start c cfg; pasts = replicate (c.program.workers + 1) no_past }

abbrev pub past_at : Told → (t : ℕ) → Past
past_at w t = slice_index_or w.pasts t no_past

-- the word that a thread's event finds
abbrev pub found_by_event : MarkedProgram → Told → Thread → ℕ
found_by_event c w s = found_by w.core.words (wanted c s s.phase)

abbrev pub pasts_after : MarkedProgram → Told → (t : ℕ) → Option Thread → List Past
pasts_after c w t None = w.pasts
pasts_after c w t (Some s) =
    slice_set w.pasts t (past_after c s s.attempt (found_by_event c w s) (past_at w t))

abbrev pub pasts_of : MarkedProgram → Told → Happening → List Past
pasts_of c w (Of t) = pasts_after c w t (slice_get w.core.threads t)
pasts_of c w NextPart = w.pasts

abbrev pub told : MarkedProgram → Told → Happening → Told
told c w h = record { core = happened c w.core h; pasts = pasts_of c w h }

abbrev pub all_told : MarkedProgram → Told → List Happening → Told
all_told c w [] = w
all_told c w (h ∷ hs) = all_told c (told c w h) hs

abbrev pub steps_of : (t : ℕ) → List Act → List PlainStep
steps_of t acts = map (λ act. record { thread = t; act = act }) acts

abbrev pub shown_of : MarkedProgram → Told → (t : ℕ) → Option Thread → List PlainStep
shown_of c w t None = []
shown_of c w t (Some s) = steps_of t (shown_at c s s.attempt (found_by_event c w s) (past_at w t))

-- the plain steps of one event
abbrev pub shown : MarkedProgram → Told → Happening → List PlainStep
shown c w (Of t) = shown_of c w t (slice_get w.core.threads t)
shown c w NextPart = []

abbrev pub shadow_from : MarkedProgram → Told → List Happening → List PlainStep
shadow_from c w [] = []
shadow_from c w (h ∷ hs) = shown c w h ++ shadow_from c (told c w h) hs

-- the plain steps of a list of events from the start
unfoldable pub shadow : MarkedProgram → Config → List Happening → List PlainStep
shadow c cfg hs = shadow_from c (told_start c cfg) hs

-- the pasts after it
unfoldable pub past : MarkedProgram → Config → List Happening → (t : ℕ) → Past
past c cfg hs t = past_at (all_told c (told_start c cfg) hs) t
