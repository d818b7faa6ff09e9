-- When a part may begin, and each thread's own share of its begin.
use Rattle.std.specs.Prelude.{◌≡◌, ℕ, zero, suc, Bool, true, List, ◌∷◌, map, Some, slice_get}
use Rattle.std.specs.List.{list_all}
use Rattle.jvm_types.specs.declared.program.Program.{Program}
use Rattle.machine_types.specs.Core.{ended_by, may_begin, next_threads}
use Rattle.machine_types.specs.Parts.{has_finished}
use Rattle.machine_types.specs.Threads.{Thread}
use Rattle.frames.specs.ThreadParts.{part_begun}

-- each of these workers has returned or was ended by an exception
abbrev pub have_finished : (workers : List Thread) → Bool
have_finished workers = list_all (λ w. ended_by has_finished w.phase) workers

-- a thread's own share of the begin of a part
abbrev pub own_begun : Thread → Thread
own_begun x = part_begun x.program.program x

-- where the workers begin every thread has a share, where `done` does thread 0 alone
abbrev pub shares_begun : (part : ℕ) → Thread → (workers : List Thread) → List Thread
shares_begun zero x workers = map own_begun (x ∷ workers)
shares_begun (suc part) x workers = own_begun x ∷ workers

-- the threads of a program, by their numbers
abbrev pub AreNumbered : Program → List Thread → Type 0
AreNumbered p threads =
    (t : ℕ) (x : Thread) → slice_get threads t ≡ Some x → (x.number ≡ t) × (x.program.program ≡ p)

abbrev pub SharesAreNext : Type 0
SharesAreNext =
    (p : Program) (x : Thread) (workers : List Thread) → AreNumbered p (x ∷ workers)
    → may_begin (x ∷ workers) ≡ true
    → shares_begun x.part x workers ≡ next_threads p (x ∷ workers)
