-- What most events leave of a thread: what it holds, how many locks it took, and how many instructions it began.
use Rattle.std.proofs.Common.{◌≡◌, ℕ, zero, suc, List, Option, Some, refl, arith}
use Rattle.jvm_types.specs.declared.program.Program.{Program}
use Rattle.checked_program.specs.MarkedProgram.{MarkedProgram}
use Rattle.machine_types.specs.{Elision.{is_same, fails, elided}, Events.moved, Going.{goes_on_if, goes_after}, Monitors.finishes, Onward.{Onward, after}, Threads.{Thread, Attempt}}
use Rattle.machine_types.specs.declared.{lock.Held.Held, phase.{After.After, Phase.Phase}}
use Rattle.laws_threads.proofs.ThreadMove.{Move, becomes, mover, by_move, if_either, takes_in, gives_up_in, same_onward}
use Rattle.machine_types.specs.declared.phase.Phase.TheVariants as phases
use Rattle.laws_threads.proofs.ThreadMove as moves

pub record Tally : Type 0 where
  pub held : List Held
  pub locked : ℕ
  pub instructions : ℕ

abbrev pub tally_of : Thread → Tally
tally_of s = record { held = s.held; locked = s.counts.locked; instructions = s.counts.instructions }

pub goes_if : (s : Thread) (o : Option Onward) → tally_of (goes_on_if s o) ≡ tally_of s
goes_if = same_onward tally_of (λ s frames phase turns. refl)

-- phases whose event takes no monitor, leaves none, makes none fat, and looks at none to enter it
abbrev pub LeavesLocks : Phase → Type 0
LeavesLocks (phases.Enter m tried) = ⊥
LeavesLocks (phases.Acquire m) = ⊥
LeavesLocks (phases.Take m count) = ⊥
LeavesLocks (phases.Flag m u) = ⊥
LeavesLocks (phases.TakeFat m r) = ⊥
LeavesLocks (phases.Leave m a) = ⊥
LeavesLocks (phases.Grow m toward) = ⊥
LeavesLocks (phases.FlatOut m a) = ⊥
LeavesLocks (phases.Own m r toward) = ⊥
LeavesLocks (phases.FatIn m r toward) = ⊥
LeavesLocks (phases.WaitOut m r) = ⊥
LeavesLocks (phases.WaitLook m r depth) = ⊥
LeavesLocks (phases.Retake m r depth) = ⊥
LeavesLocks phase = Unit {0}

tally_moved : (c : MarkedProgram) (s : Thread) (got : ℕ) (was : Phase) (k : Move c s got was) → LeavesLocks was → tally_of (becomes c s got was k) ≡ tally_of s
tally_moved c s got was (moves.goes o k) n = goes_if s (Some o)
tally_moved c s got _ (moves.starts number roots e) n = goes_if _ _
tally_moved c s got was (moves.takes_lock m kept k) n = absurd (takes_in (λ (w : Phase). LeavesLocks w → ⊥) got m was kept k (λ count n. n) (λ r n. n) n)
tally_moved c s got was (moves.gives_up m a k) n = absurd (gives_up_in (λ (w : Phase). LeavesLocks w → ⊥) s m a was k (λ n. n) (λ n. n) n)
tally_moved c s got was k n = first_of (cc, grind arith)

-- from the thread that has counted its instruction
pub same_tally : (c : MarkedProgram) (s : Thread) (phase : Phase) (got : ℕ) → LeavesLocks phase → tally_of (moved c s phase got) ≡ tally_of (mover c.program phase s)
same_tally c s phase got n = by_move (λ (y : Thread). tally_of y ≡ tally_of (mover c.program phase s)) c s phase got (λ k. tally_moved c (mover c.program phase s) got phase k n)

-- where a section that was tried is left
pub finished : (p : Program) (s : Thread) (a : After) (t : Attempt) (inner got : ℕ) → tally_of (finishes p s a t inner got) ≡ tally_of s
finished p s a t zero got = if_either (λ (y : Thread). tally_of y ≡ tally_of s) (is_same t got) (goes_after p (elided s) a) (fails s t) (goes_if (elided s) (after p s.frames a)) refl
finished p s a t (suc inner) got = goes_if (record s { attempt = Some (record t { inner = inner }) }) (after p s.frames a)
