-- How the part of a thread begins, for each thread by itself.
use Rattle.std.specs.Prelude.{ℕ, zero, suc, List}
use Rattle.jvm_types.specs.declared.program.Program.{Program}
use Rattle.machine_types.specs.Core.{part_phase, with_roots, how_ended}
use Rattle.machine_types.specs.Parts.{run_roots, done_roots}
use Rattle.machine_types.specs.Threads.{Thread}
use Rattle.machine_types.specs.declared.phase.Phase.{Phase}
use Rattle.machine_types.specs.declared.phase.Phase.TheVariants.{Idle}

-- at the start of the run
abbrev pub start_phase : (number : ℕ) → (roots : List ℕ) → Phase
start_phase zero roots = part_phase roots
start_phase (suc t) roots = Idle

-- when thread 0 has made `init` it keeps how that ended; its next part is `done`
abbrev pub part_begun_by : Program → (number part : ℕ) → Thread → Thread
part_begun_by p zero zero s = record s { part = 1; first = how_ended s.phase }
part_begun_by p zero (suc part) s = with_roots (done_roots p) (record s { part = 2 })
part_begun_by p (suc t) part s = with_roots (run_roots p) s

abbrev pub part_begun : Program → Thread → Thread
part_begun p s = part_begun_by p s.number s.part s
