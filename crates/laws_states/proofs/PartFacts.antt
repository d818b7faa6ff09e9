-- What holds of the words holds at the start of a run, and where a part begins: no word changes then, nor what bounds the counters.
use Rattle.std.proofs.Common.{◌≡◌, ℕ, zero, suc, ◌+◌, Bool, true, false, List, [], ◌∷◌, map, Option, Some, None, refl, ap, subst, arith, slice_get, if◌then◌else◌}
use Rattle.std.{specs.List.{AllByRecursion, range_with_len}, proofs.lemmas.List.Sums.sum_by-cons}
use Rattle.jvm_types.specs.declared.program.Program.{Program}
use Rattle.checked_program.specs.MarkedProgram.{MarkedProgram}
use Rattle.machine_types.specs.{Bounds.flat_held, Core.{Core, start_thread, may_begin, may_begin_by, part_phase, with_roots, part_begins, next_threads}, Lawful.IsLawful, Parts.{run_roots, done_roots}}
use Rattle.machine_types.specs.{PlainMemory.start_objects, Structure.{IsStructured, Structure}, Threads.Thread, declared.{config.Config.Config, phase.Phase.Phase}}
use Rattle.laws_threads.specs.PartLaws.{PartFits, PartsFit, NextKeepsStructure, counted_next}
use Rattle.laws_states.specs.{Counters.{drawn_for_flat, instructions_of, flat_of, taken_of}, HeapLaws.{StartHasHeap, NextKeepsHeap}}
use Rattle.laws_states.specs.{KeptWords.{StartLocksFit, StartRecordsFit, StartCountersFit, NextKeepsCounters}, RunFacts.AreThreads, RunLaws.{StartHasRunFacts, NextKeepsFacts}}
use Rattle.laws_states.proofs.StartWords.{locks_at_start, records_at_start, small_at_start, free_at_start, ticket_at_start, record_at_start}
use Rattle.machine_types.specs.declared.phase.Phase.TheVariants as phases

-- ---- the start

none_held : (c : MarkedProgram) (cfg : Config) (t : ℕ) → flat_held (start_thread c cfg t).held ≡ 0
none_held c cfg zero = refl
none_held c cfg (suc t) = refl

none_flat : (c : MarkedProgram) (cfg : Config) (from n : ℕ) → flat_of (map (start_thread c cfg) (range_with_len from n)) ≡ 0
none_flat c cfg from zero = refl
none_flat c cfg from (suc n) = omega (arith, sum_by-cons (λ x. flat_held x.held) (start_thread c cfg from) (map (start_thread c cfg) (range_with_len (from + 1) n)), none_held c cfg from, none_flat c cfg (from + 1) n)

pub start_counters_fit : StartCountersFit
start_counters_fit c cfg = record {
  free = omega (arith, free_at_start c.program);
  tickets = omega (arith, ticket_at_start c.program);
  records = omega (arith, record_at_start c.program, none_flat c cfg 0 (c.program.workers + 1));
}

pub start_locks_fit : StartLocksFit
start_locks_fit c cfg = locks_at_start c.program cfg.range

pub start_records_fit : StartRecordsFit
start_records_fit c cfg = records_at_start c.program

pub start_has_facts : StartHasHeap → StartLocksFit → StartRecordsFit → StartCountersFit → StartHasRunFacts
start_has_facts heap locks records counters c cfg marked = record {
  objects = start_objects c.program;
  heap = heap c cfg marked;
  locks = locks c cfg;
  records = records c cfg;
  counters = counters c cfg;
  small = small_at_start c.program marked.checked.program;
}

-- ---- a part begins

part_draws_none : (roots : List ℕ) → drawn_for_flat (part_phase roots) ≡ 0
part_draws_none [] = refl
part_draws_none (number ∷ roots) = refl

-- sums of what the begin of a part leaves of each thread
pub record SameSums (xs ys : List Thread) : Type 0 where
  pub instructions : instructions_of ys ≡ instructions_of xs
  pub flat : flat_of ys ≡ flat_of xs
  pub taken : taken_of ys ≡ taken_of xs

same_sums : (xs : List Thread) → SameSums xs xs
same_sums xs = record { instructions = refl; flat = refl; taken = refl }

one_more : (x y : Thread) (xs ys : List Thread) → y.counts.instructions ≡ x.counts.instructions → flat_held y.held ≡ flat_held x.held → y.counts.locked + drawn_for_flat y.phase ≡ x.counts.locked + drawn_for_flat x.phase
    → SameSums xs ys → SameSums (x ∷ xs) (y ∷ ys)
one_more x y xs ys i f k h = record {
  instructions = omega (arith, sum_by-cons (λ z. z.counts.instructions) x xs, sum_by-cons (λ z. z.counts.instructions) y ys, i, h.instructions);
  flat = omega (arith, sum_by-cons (λ z. flat_held z.held) x xs, sum_by-cons (λ z. flat_held z.held) y ys, f, h.flat);
  taken = omega (arith, sum_by-cons (λ z. z.counts.locked + drawn_for_flat z.phase) x xs, sum_by-cons (λ z. z.counts.locked + drawn_for_flat z.phase) y ys, k, h.taken);
}

workers_same : (roots : List ℕ) (workers : List Thread) → AllByRecursion (λ w. w.phase ≡ phases.Idle) workers → SameSums workers (map (with_roots roots) workers)
workers_same roots [] idle = same_sums []
workers_same roots (w ∷ workers) idle =
    one_more w (with_roots roots w) workers (map (with_roots roots) workers) refl refl (omega (arith, part_draws_none roots, (ap drawn_for_flat idle.0))) (workers_same roots workers idle.1)

part_same : (p : Program) (part : ℕ) (x : Thread) (workers : List Thread) → PartFits part x.phase workers → may_begin_by part x.phase workers ≡ true → SameSums (x ∷ workers) (part_begins p part x workers)
part_same p zero x workers fits may = one_more x _ workers (map (with_roots (run_roots p)) workers) refl refl refl (workers_same (run_roots p) workers fits)
part_same p (suc zero) x workers fits may =
    one_more x (with_roots (done_roots p) (record x { part = 2 })) workers workers refl refl (omega (arith, part_draws_none (done_roots p), (ap drawn_for_flat fits))) (same_sums workers)
part_same p (suc (suc part)) x workers fits may = cc

next_same : (p : Program) (threads : List Thread) → PartsFit threads → SameSums threads (next_threads p threads)
next_same p [] fits = same_sums []
next_same p (x ∷ workers) fits = (elim (may_begin (x ∷ workers)) as (λ (b : Bool). may_begin (x ∷ workers) ≡ b → SameSums (x ∷ workers) (if b then part_begins p x.part x workers else x ∷ workers))
    [ true ↦ λ may. part_same p x.part x workers fits may | false ↦ λ may. same_sums (x ∷ workers) ]) refl

pub next_keeps_counters : NextKeepsCounters
next_keeps_counters c s parts fit =
    let same = next_same c.program s.threads parts in
    record { free = omega (arith, fit.free, same.instructions); tickets = omega (arith, fit.tickets, same.instructions); records = omega (arith, fit.records, same.flat, same.taken) }

-- ---- the phase of each thread that counts

was_of : (c : MarkedProgram) (o : Option Thread) → ((x : Thread) → o ≡ Some x → IsLawful c x) → Phase
was_of c None k = phases.Idle
was_of c (Some x) k = (k x refl).was

module _ (c : MarkedProgram) (cfg : Config) (s : Core) (threads : AreThreads c cfg s) where
  was : ℕ → Phase
  was t = was_of c (slice_get s.threads t) (threads.lawful t)

  structure : Structure c was s.threads
  unfolding was was_of
  structure t x e = (elim (slice_get s.threads t) as (λ (o : Option Thread). (k : (y : Thread) → o ≡ Some y → IsLawful c y) → o ≡ Some x → IsStructured c (was_of c o k) x)
      [ None ↦ λ k e. absurd (cc) | Some y ↦ λ k e. let same : y ≡ x = cc in subst (λ (z : Thread). IsStructured c (k y refl).was z) same (k y refl).structured ]) (threads.lawful t) e

pub next_keeps_facts : NextKeepsStructure → NextKeepsHeap → NextKeepsCounters → NextKeepsFacts
next_keeps_facts keep heap counters c cfg s threads facts = record {
  objects = facts.objects;
  heap = heap c facts.objects (counted_next c (was c cfg s threads) s) s facts.heap (keep c (was c cfg s threads) s threads.parts (structure c cfg s threads));
  locks = facts.locks;
  records = facts.records;
  counters = counters c s threads.parts facts.counters;
  small = facts.small;
}
