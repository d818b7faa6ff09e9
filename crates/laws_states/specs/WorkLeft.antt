-- What a thread has still to do, as a number that each of its events makes smaller: an event begins
-- an instruction, counts a turn, takes away a root or a frame, or comes nearer to the end of a
-- chain of events that do none of this.
use Rattle.std.specs.Prelude.{◌≡◌, ◌<◌, ℕ, ◌+◌, ◌-◌, ◌*◌, true, List, length, Option, Some, None}
use Rattle.std.specs.List.{sum_by}
use Rattle.checked_program.specs.MarkedProgram.{MarkedProgram, IsMarked}
use Rattle.machine_types.specs.Core.{Core, event, is_live, lives}
use Rattle.machine_types.specs.Events.{moved}
use Rattle.machine_types.specs.HeldMonitors.{held_at}
use Rattle.machine_types.specs.Lawful.{IsLawful}
use Rattle.machine_types.specs.Threads.{Attempt, Thread}
use Rattle.machine_types.specs.declared.config.Config.{Config}
use Rattle.machine_types.specs.declared.lock.Held.{Held}
use Rattle.machine_types.specs.declared.lock.Kept.{Kept}
use Rattle.machine_types.specs.declared.lock.Kept.TheVariants as keeps
use Rattle.machine_types.specs.declared.phase.Phase.{Phase}
use Rattle.machine_types.specs.declared.phase.Phase.TheVariants as phases
use Rattle.laws_states.specs.RunFacts.{AreThreads}

-- ---- the place in a chain

-- a flat lock may have to be made fat first
abbrev pub leaving_work : Kept → ℕ
leaving_work (keeps.Flat count) = 10
leaving_work (keeps.Fat r) = 3

abbrev pub leaving_held : Option Held → ℕ
leaving_held None = 3
leaving_held (Some h) = leaving_work h.kept

-- each phase leads to lower ones, to an instruction, or to another turn, frame or root
abbrev pub chain : List Held → Phase → ℕ
chain held phases.Idle = 0
chain held (phases.Ended e) = 0
chain held (phases.Ending e) = 1
chain held phases.Run = 2
chain held phases.Start = 3
chain held (phases.Element word stored) = 3
chain held (phases.Made a word) = 3
chain held (phases.NotifyAll m r) = 3
chain held (phases.NotifyOne m r u) = 3
chain held (phases.NotifyLook m r) = 4
chain held (phases.TakeFat m r) = 3
chain held (phases.Take m count) = 4
chain held (phases.Acquire m) = 5
chain held (phases.Flag m u) = 6
chain held (phases.Enter m tried) = 6
chain held (phases.Retake m r depth) = 3
chain held (phases.WaitLook m r depth) = 4
chain held (phases.WaitOut m r) = 5
chain held (phases.WaitBit m r) = 6
chain held (phases.FatIn m r toward) = 7
chain held (phases.Own m r toward) = 8
chain held (phases.FlatOut m a) = 3
chain held (phases.Grow m toward) = 9
chain held (phases.Leave m a) = leaving_held (held_at held m)
chain held (phases.Throw x class) = 11

abbrev pub trying : Option Attempt → ℕ
trying None = 0
trying (Some a) = 12

-- an attempt begins at an instruction, and behind one it may fail, and enter again
abbrev pub inside : Phase → Option Attempt → ℕ
inside phases.Idle attempt = 0
inside phases.Run attempt = 0
inside (phases.Ending e) attempt = 0
inside (phases.Ended e) attempt = 0
inside phase attempt = trying attempt

-- no chain is longer
abbrev pub longest_chain : ℕ
longest_chain = 24

-- ---- all of it

-- how many chains may still begin: each instruction pushes one frame at most, and has all turns
-- again
abbrev pub chains_left : Thread → ℕ
chains_left x =
    (x.cfg.turns + 2) * (x.cfg.steps - x.counts.instructions) + (x.cfg.turns - x.turns) + 2
    * length x.roots + length x.frames

abbrev pub work_in : Thread → Phase → ℕ
work_in x phase = longest_chain * chains_left x + (chain x.held phase + inside phase x.attempt)

abbrev pub work_left : Thread → ℕ
work_left x = work_in x x.phase

abbrev pub all_work : Core → ℕ
all_work s = sum_by work_left s.threads

-- ---- the laws

-- the next event of a live thread, by whatever word it finds
abbrev pub EventsLessenWork : Type 0
EventsLessenWork = (c : MarkedProgram) (x : Thread) (got : ℕ) → IsMarked c → IsLawful c x
    → is_live x.phase ≡ true → work_left (moved c x x.phase got) < work_left x

-- of a state whose threads are lawful
abbrev pub EventsLessenAllWork : Type 0
EventsLessenAllWork = (c : MarkedProgram) (cfg : Config) (s : Core) (t : ℕ) → IsMarked c
    → AreThreads c cfg s → lives s t ≡ true → all_work (event c s t) < all_work s

-- what a thread may have to do, by its settings, roots and frames
abbrev pub WorkIsBounded : Type 0
WorkIsBounded =
    (x : Thread)
    → work_left x
    < longest_chain
    * ((x.cfg.turns + 2) * (x.cfg.steps + 1) + 2 * length x.roots + length x.frames)
