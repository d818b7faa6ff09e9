-- How often attempts of a thread have failed at the entry of a section that it came to last, told
-- by its events alone, and not by the number that the thread itself keeps; and which accesses only
-- look.
use Rattle.std.specs.Prelude.{◌≡◌, ℕ, ◌+◌, ◌<◌, ◌≤◌, ◌==◌, Bool, true, false, List, [], ◌∷◌, Option}
use Rattle.std.specs.Prelude.{Some, None, slice_get, if◌then◌else◌}
use Rattle.checked_program.specs.MarkedProgram.{MarkedProgram}
use Rattle.machine_types.specs.Accesses.{found_by}
use Rattle.machine_types.specs.Core.{Core, Happening, Of, NextPart, happened, start}
use Rattle.machine_types.specs.Events.{wanted, moved}
use Rattle.machine_types.specs.History.{Fate, Fails, fate}
use Rattle.machine_types.specs.Parts.{has_finished}
use Rattle.machine_types.specs.Threads.{Attempt, Thread}
use Rattle.machine_types.specs.declared.access.Access.{Access}
use Rattle.machine_types.specs.declared.access.Access.TheVariants.{Load, Rest}
use Rattle.machine_types.specs.declared.config.Config.{Config}
use Rattle.machine_types.specs.declared.phase.Phase.{Phase}
use Rattle.machine_types.specs.declared.phase.Phase.TheVariants as phases

-- an instruction brings a thread to a monitor
abbrev pub comes_to_enter : (was now : Phase) → Bool
comes_to_enter phases.Run (phases.Enter m tried) = true
comes_to_enter was now = false

abbrev pub fails_more : Fate → (failed : ℕ) → ℕ
fails_more Fails failed = failed + 1
fails_more fate failed = failed

-- Behind an event of a thread: inside an attempt one more where that fails; outside, none yet where
-- an instruction brings the thread to a monitor. Whatever else leads back to that monitor is of the
-- same entry. What is entered inside an attempt is the monitor of that attempt, and no entry of its
-- own.
abbrev pub failed_after : MarkedProgram → Thread → Option Attempt → (got failed : ℕ) → ℕ
failed_after c x (Some a) got failed = fails_more (fate c x a x.phase got) failed
failed_after c x None got failed =
    if comes_to_enter x.phase (moved c x x.phase got).phase then 0 else failed

abbrev pub failed_of : MarkedProgram → Core → Option Thread → (failed : ℕ) → ℕ
failed_of c s None failed = failed
failed_of c s (Some x) failed =
    failed_after c x x.attempt (found_by s.words (wanted c x x.phase)) failed

abbrev pub failed_with : MarkedProgram → Core → (t failed : ℕ) → Happening → ℕ
failed_with c s t failed (Of u) =
    if u == t then failed_of c s (slice_get s.threads t) failed else failed
failed_with c s t failed NextPart = failed

abbrev pub failed_from : MarkedProgram → Core → (t failed : ℕ) → List Happening → ℕ
failed_from c s t failed [] = failed
failed_from c s t failed (h ∷ hs) = failed_from c (happened c s h) t (failed_with c s t failed h) hs

-- how many attempts of thread t have failed since it came to the entry that it came to last
unfoldable pub failed_here : MarkedProgram → Config → List Happening → (t : ℕ) → ℕ
failed_here c cfg hs t = failed_from c (start c cfg) t 0 hs

-- ---- what a thread keeps of it

-- at an entry how many have been tried, and in an attempt which one it is
abbrev pub KeepsCount : Option Attempt → Phase → (failed : ℕ) → Type 0
KeepsCount (Some a) phase failed = (a.number ≡ failed + 1) × (failed < 2)
KeepsCount None (phases.Enter m tried) failed = tried ≡ failed
KeepsCount None phase failed = Unit {0}

-- thread t keeps that so many have failed, and these are no more than may
pub record HasFailedCount (s : Core) (t failed : ℕ) : Type 0 where
  pub few : failed ≤ 2
  pub kept : (x : Thread) → slice_get s.threads t ≡ Some x → KeepsCount x.attempt x.phase failed

-- ---- what an event inside an attempt accesses

-- a load, or nothing
abbrev pub IsLook : Option Access → Type 0
IsLook None = Unit {0}
IsLook (Some (Load w)) = Unit {0}
IsLook access = ⊥

-- or, where a limit has ended the thread, the load by which it rests
abbrev pub OnlyLooks : Phase → Option Access → Type 0
OnlyLooks (phases.Ending e) access = (access ≡ Some Rest) × (has_finished e ≡ false)
OnlyLooks phase access = IsLook access
