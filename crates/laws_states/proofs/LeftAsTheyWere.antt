-- An event of a thread leaves the other threads, and the begin of a part all words, attempts and held lists.
use Rattle.std.proofs.{Common.{◌≡◌, ◌≢◌, ◌∙◌, ℕ, zero, suc, Bool, true, false, List, [], ◌∷◌, map, Option, Some, None, refl, ap, slice_get, if◌then◌else◌}, lemmas.Bool.ne_eqb}
use Rattle.jvm_types.specs.declared.{outcome.End.End, program.Program.Program}
use Rattle.checked_program.specs.MarkedProgram.{MarkedProgram}
use Rattle.machine_types.specs.{Accesses.found_by, Core.{Core, event_of, how_ended, may_begin, next_threads, part_begins, with_roots}, Events.{wanted, moved}, Parts.{run_roots, done_roots}}
use Rattle.machine_types.specs.Threads.{Thread}
use Rattle.laws_threads.proofs.StateSteps.{set_other}
use Rattle.laws_states.specs.ChangeLaws.{EventsLeaveOthers, PartsLeaveWords}

-- ---- an event

other_left : (c : MarkedProgram) (s : Core) (t u : ℕ) → u ≢ t → (o : Option Thread) → slice_get (event_of c s t o).threads u ≡ slice_get s.threads u
other_left c s t u other None = refl
other_left c s t u other (Some x) = set_other s.threads t u (moved c x x.phase (found_by s.words (wanted c x x.phase))) (ne_eqb u t other)

pub events_leave_others : EventsLeaveOthers
events_leave_others c s t u other = other_left c s t u other (slice_get s.threads t)

-- ---- the begin of a part

-- what neither roots and phase change, nor how far the parts have come
module _ {A : Type 0} (of : Thread → A) (rooted : (roots : List ℕ) (x : Thread) → of (with_roots roots x) ≡ of x) (counted : (x : Thread) (part : ℕ) (first : Option End) → of (record x { part = part; first = first }) ≡ of x) (p : Program) where
  workers_left : (roots : List ℕ) (workers : List Thread) → map of (map (with_roots roots) workers) ≡ map of workers
  workers_left roots [] = refl
  workers_left roots (w ∷ workers) = λ i. rooted roots w i ∷ workers_left roots workers i

  part_left : (part : ℕ) (x : Thread) (workers : List Thread) → map of (part_begins p part x workers) ≡ map of (x ∷ workers)
  part_left zero x workers = λ i. counted x 1 (how_ended x.phase) i ∷ workers_left (run_roots p) workers i
  part_left (suc part) x workers = ap (λ y. y ∷ map of workers) (rooted (done_roots p) (record x { part = 2 }) ∙ counted x 2 x.first)

  pub next_left : (threads : List Thread) → map of (next_threads p threads) ≡ map of threads
  next_left [] = refl
  next_left (x ∷ workers) = elim (may_begin (x ∷ workers)) as (λ (b : Bool). map of (if b then part_begins p x.part x workers else x ∷ workers) ≡ map of (x ∷ workers))
      [ true ↦ part_left x.part x workers | false ↦ refl ]

pub parts_leave_words : PartsLeaveWords
parts_leave_words c s = record {
  words = refl;
  attempts_left = next_left (λ x. x.attempt) (λ roots x. refl) (λ x part first. refl) c.program s.threads;
  held_left = next_left (λ x. x.held) (λ roots x. refl) (λ x part first. refl) c.program s.threads;
}
