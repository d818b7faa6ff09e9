-- Two of the parts in which a thread's state is lawful by itself: its numbers are within their
-- bounds, and its roots are those of its part.
use Rattle.std.specs.Prelude.{◌≡◌, ◌<◌, ◌≤◌, ℕ, zero, suc, ◌+◌, List, [], ◌∷◌, length, Option, Some}
use Rattle.std.specs.Prelude.{None, IfSome, IsTrue}
use Rattle.std.specs.List.{AllByRecursion}
use Rattle.jvm_types.specs.Numbers.{has_number}
use Rattle.jvm_types.specs.declared.limits.TheConstants.{MOST_WORKERS}
use Rattle.jvm_types.specs.declared.outcome.End.TheVariants as ends
use Rattle.jvm_types.specs.declared.program.Program.{Program}
use Rattle.machine_types.specs.FoundWords.{most_count}
use Rattle.machine_types.specs.HeldMonitors.{depth_at}
use Rattle.machine_types.specs.Parts.{init_roots, run_roots, done_roots}
use Rattle.machine_types.specs.Threads.{Frame, Attempt, Thread, Phase, Held}
use Rattle.jvm_types.specs.declared.fixed_words.TheConstants.{MONITOR_RECORDS}
use Rattle.machine_types.specs.declared.lock.Kept.{Kept}
use Rattle.machine_types.specs.declared.lock.Kept.TheVariants as keeps
use Rattle.machine_types.specs.declared.phase.Phase.TheVariants as phases

-- ---- counts of locks, and numbers of records and of other threads

abbrev pub KeptFits : Kept → Type 0
KeptFits (keeps.Flat c) = c < most_count
KeptFits (keeps.Fat r) = r < MONITOR_RECORDS

abbrev pub PhaseFits : Phase → Type 0
PhaseFits (phases.Take m c) = c < most_count
PhaseFits (phases.Flag m u) = u ≤ MOST_WORKERS
PhaseFits (phases.TakeFat m r) = r < MONITOR_RECORDS
PhaseFits (phases.Own m r toward) = r < MONITOR_RECORDS
PhaseFits (phases.FatIn m r toward) = r < MONITOR_RECORDS
PhaseFits (phases.WaitBit m r) = r < MONITOR_RECORDS
PhaseFits (phases.WaitOut m r) = r < MONITOR_RECORDS
PhaseFits (phases.WaitLook m r depth) = r < MONITOR_RECORDS
PhaseFits (phases.Retake m r depth) = r < MONITOR_RECORDS
PhaseFits (phases.NotifyLook m r) = r < MONITOR_RECORDS
PhaseFits (phases.NotifyOne m r u) = (r < MONITOR_RECORDS) × (u ≤ MOST_WORKERS)
PhaseFits (phases.NotifyAll m r) = r < MONITOR_RECORDS
PhaseFits phase = Unit {0}

-- ---- limits of the run

-- the limit of turns is met in an end by it alone
abbrev pub TurnsFit : Phase → (turns most : ℕ) → Type 0
TurnsFit (phases.Ending ends.Turns) turns most = turns ≤ most
TurnsFit (phases.Ended ends.Turns) turns most = turns ≤ most
TurnsFit phase turns most = turns < most

abbrev pub StepsFit : Phase → (instructions most : ℕ) → Type 0
StepsFit phases.Run instructions most = instructions < most
StepsFit phase instructions most = instructions ≤ most

-- ---- depths: each entry took an instruction

abbrev pub WaitFits : Phase → (instructions : ℕ) → Type 0
WaitFits (phases.WaitLook m r depth) instructions = depth ≤ instructions
WaitFits (phases.Retake m r depth) instructions = depth ≤ instructions
WaitFits phase instructions = Unit {0}

abbrev pub IsInner : (m : ℕ) → Attempt → (instructions : ℕ) → Type 0
IsInner m a instructions = a.monitor ≡ m → a.inner < instructions

-- one more entry of the monitor that is entered has been begun
abbrev pub EntryFits : Phase → List Held → Option Attempt → (instructions : ℕ) → Type 0
EntryFits (phases.Enter m tried) held attempt instructions =
    (IfSome (depth_at held m) (λ depth. depth < instructions))
    × (IfSome attempt (λ a. IsInner m a instructions))
EntryFits phase held attempt instructions = Unit {0}

-- ---- sections: each one took an instruction, and the one at hand has too

abbrev pub flat_held : List Held → ℕ
flat_held [] = 0
flat_held (h ∷ hs) = one_if_flat h.kept + flat_held hs
  where
    one_if_flat : Kept → ℕ
    one_if_flat (keeps.Flat c) = 1
    one_if_flat (keeps.Fat r) = 0

-- outside an attempt an entry is under way
abbrev pub entry_under_way : Phase → ℕ
entry_under_way (phases.Enter m tried) = 1
entry_under_way (phases.Acquire m) = 1
entry_under_way (phases.Take m c) = 1
entry_under_way (phases.Flag m u) = 1
entry_under_way (phases.TakeFat m r) = 1
entry_under_way phase = 0

-- in an attempt its own entry is, and the instruction that is under way may be none that enters
abbrev pub attempt_under_way : Phase → ℕ
attempt_under_way phases.Run = 1
attempt_under_way (phases.Ending e) = 1
attempt_under_way (phases.Ended e) = 1
attempt_under_way phase = 2

abbrev pub under_way : Option Attempt → Phase → ℕ
under_way None phase = entry_under_way phase
under_way (Some a) phase = attempt_under_way phase

-- ---- all of them

pub record IsBounded (p : Program) (s : Thread) : Type 0 where
  pub number : s.number ≤ p.workers
  pub kept : AllByRecursion (λ h. KeptFits h.kept) s.held
  pub noted : IfSome s.attempt (λ a. a.noted < most_count)
  pub phase : PhaseFits s.phase
  pub prints : length s.prints ≤ s.cfg.prints
  pub turns : TurnsFit s.phase s.turns s.cfg.turns
  pub steps : StepsFit s.phase s.counts.instructions s.cfg.steps
  pub depths : AllByRecursion (λ h. h.depth ≤ s.counts.instructions) s.held
  pub waits : WaitFits s.phase s.counts.instructions
  pub inner : IfSome s.attempt (λ a. a.inner ≤ s.counts.instructions)
  pub entry : EntryFits s.phase s.held s.attempt s.counts.instructions
  pub inflated : s.counts.inflated + flat_held s.held ≤ s.counts.locked
  pub sections : s.counts.elided + s.counts.failed + s.counts.locked + under_way s.attempt s.phase
      ≤ s.counts.instructions

-- ---- roots

-- of thread 0 by how many parts came after `init`
abbrev pub part_roots : Program → (number part : ℕ) → List ℕ
part_roots p zero (suc (suc part)) = done_roots p
part_roots p zero part = init_roots p
part_roots p number part = run_roots p

-- in Start there is a root and no frame, and from Run to NotifyAll there is a frame
abbrev pub FramesFit : Phase → List Frame → (roots : List ℕ) → Type 0
FramesFit phases.Idle frames roots = Unit {0}
FramesFit phases.Start frames [] = ⊥
FramesFit phases.Start frames (number ∷ roots) = frames ≡ []
FramesFit (phases.Ending e) frames roots = Unit {0}
FramesFit (phases.Ended e) frames roots = Unit {0}
FramesFit phase [] roots = ⊥
FramesFit phase (f ∷ frames) roots = Unit {0}

pub record IsRooted (p : Program) (s : Thread) : Type 0 where
  pub roots : AllByRecursion (λ number. IsTrue (has_number (part_roots p s.number s.part) number))
      s.roots
  pub frames : FramesFit s.phase s.frames s.roots
