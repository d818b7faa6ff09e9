-- How far the parts of a run have come: what thread 0 keeps of `init`, that all workers are done
-- when `done` begins, and which roots are left.
use Rattle.std.specs.Prelude.{◌≡◌, ◌≤◌, ℕ, zero, suc, true, List, [], Option, Some, None, slice_get}
use Rattle.jvm_types.specs.declared.outcome.End.{End}
use Rattle.jvm_types.specs.declared.outcome.End.TheVariants as ends
use Rattle.jvm_types.specs.declared.program.Program.{Program}
use Rattle.machine_types.specs.Parts.{done_roots, has_finished}
use Rattle.machine_types.specs.Threads.{Thread}
use Rattle.machine_types.specs.declared.phase.Phase.{Phase}
use Rattle.machine_types.specs.declared.phase.Phase.TheVariants as phases

-- behind `init`, which has returned, thread 0 keeps how it ended
abbrev pub FirstFits : (part : ℕ) → (first : Option End) → Type 0
FirstFits zero first = first ≡ None
FirstFits part first = first ≡ Some ends.Returned

abbrev pub HasReturned : Phase → Type 0
HasReturned (phases.Ending ends.Returned) = Unit {0}
HasReturned (phases.Ended ends.Returned) = Unit {0}
HasReturned phase = ⊥

-- its part has ended, and no limit ended it
abbrev pub HasFinished : Phase → Type 0
HasFinished (phases.Ended e) = has_finished e ≡ true
HasFinished phase = ⊥

-- those of `done` before it begins, and none after
abbrev pub DoneRoots : Program → Phase → (roots : List ℕ) → Type 0
DoneRoots p phases.Start roots = roots ≡ done_roots p
DoneRoots p phase roots = roots ≡ []

pub record PartsStand (p : Program) (threads : List Thread) : Type 0 where
  pub first : (x : Thread) → slice_get threads 0 ≡ Some x → FirstFits x.part x.first
  pub few : (x : Thread) → slice_get threads 0 ≡ Some x → x.part ≤ 2
  -- when `done` has begun
  pub workers : (x y : Thread) (u : ℕ) → slice_get threads 0 ≡ Some x → 2 ≤ x.part
      → slice_get threads (suc u) ≡ Some y → HasFinished y.phase
  pub done : (x : Thread) → slice_get threads 0 ≡ Some x → 2 ≤ x.part → DoneRoots p x.phase x.roots
  -- a part that returned has run all of its roots
  pub returned : (t : ℕ) (x : Thread) → slice_get threads t ≡ Some x → HasReturned x.phase
      → x.roots ≡ []
