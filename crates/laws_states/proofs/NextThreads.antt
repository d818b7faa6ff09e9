-- The begin of a part keeps the threads of a run: each is one of the program, and lawful.
use Rattle.std.{proofs.Common.{◌≡◌, ℕ, zero, suc, Bool, true, false, List, [], ◌∷◌, map, Some, refl, sym, ap, subst, ◌∙◌, slice_get, IsTrue, if◌then◌else◌}, specs.List.AllByRecursion}
use Rattle.std.proofs.lemmas.List.{length-map}
use Rattle.jvm_types.specs.Numbers.{has_number}
use Rattle.laws_programs.proofs.LocalGoing.{at_index}
use Rattle.checked_program.specs.MarkedProgram.{MarkedProgram}
use Rattle.machine_types.specs.{Bounds.part_roots, Core.{Core, may_begin, may_begin_by, how_ended, next, next_threads, part_begins, with_roots}, Facts.IsThread, Lawful.IsLawful}
use Rattle.machine_types.{specs.{Parts.{run_roots, done_roots}, Threads.Thread, declared.{config.Config.Config}}, proofs.AtStart.all_among}
use Rattle.laws_threads.{specs.PartLaws.PartFits, proofs.PartSteps.returned}
use Rattle.laws_states.{specs.RunFacts.AreThreads, proofs.{Lists.{first_each, mapped_each}, PartLawful.{IsBetween, is_idle, has_returned as is_returned, lawful_anew, lawful_seen}}}
use Rattle.jvm_types.specs.declared.outcome.End.TheVariants as ends
use Rattle.machine_types.specs.declared.phase.Phase.TheVariants as phases

is_among : (ns : List ℕ) → AllByRecursion (λ n. IsTrue (has_number ns n)) ns
is_among ns = all_among ns ns (λ n e. e)

-- ---- a worker's part begins

abbrev begun : MarkedProgram → Thread → Thread
begun c w = with_roots (run_roots c.program) w

run_among : (c : MarkedProgram) (cfg : Config) (i : ℕ) (w : Thread) → IsThread c cfg (suc i) w → AllByRecursion (λ n. IsTrue (has_number (part_roots c.program w.number w.part) n)) (run_roots c.program)
run_among c cfg i w own = subst (λ (n : ℕ). AllByRecursion (λ k. IsTrue (has_number (part_roots c.program n w.part) k)) (run_roots c.program)) (sym own.number) (is_among (run_roots c.program))

worker_lawful : (c : MarkedProgram) (cfg : Config) (i : ℕ) (w : Thread) → IsThread c cfg (suc i) w → w.phase ≡ phases.Idle → IsLawful c w → IsLawful c (begun c w)
worker_lawful c cfg i w own idle h = lawful_anew c w w.part w.first (run_roots c.program) (subst IsBetween (sym idle) is_idle) (run_among c cfg i w own) h

worker_is : (c : MarkedProgram) (cfg : Config) (i : ℕ) (w : Thread) → IsThread c cfg (suc i) w → w.phase ≡ phases.Idle → IsLawful c w → IsThread c cfg (suc i) (begun c w)
worker_is c cfg i w own idle h = record { number = own.number; program = own.program; settings = own.settings; rooted = (worker_lawful c cfg i w own idle h).rooted; part = own.part }

-- ---- thread 0 sees it begin, and begins `done`

abbrev seen : Thread → Thread
seen x = record x { part = 1; first = how_ended x.phase }

seen_is : (c : MarkedProgram) (cfg : Config) (x : Thread) → IsThread c cfg 0 x → x.part ≡ 0 → IsLawful c x → IsThread c cfg 0 (seen x)
seen_is c cfg x own e h = record { number = own.number; program = own.program; settings = own.settings; rooted = (lawful_seen c x (how_ended x.phase) own.number e h).rooted; part = λ n. absurd (n refl) }

abbrev last : MarkedProgram → Thread → Thread
last c x = with_roots (done_roots c.program) (record x { part = 2 })

done_among : (c : MarkedProgram) (cfg : Config) (x : Thread) → IsThread c cfg 0 x → AllByRecursion (λ n. IsTrue (has_number (part_roots c.program x.number 2) n)) (done_roots c.program)
done_among c cfg x own = subst (λ (n : ℕ). AllByRecursion (λ k. IsTrue (has_number (part_roots c.program n 2) k)) (done_roots c.program)) (sym own.number) (is_among (done_roots c.program))

last_lawful : (c : MarkedProgram) (cfg : Config) (x : Thread) → IsThread c cfg 0 x → x.phase ≡ phases.Ended ends.Returned → IsLawful c x → IsLawful c (last c x)
last_lawful c cfg x own e h = lawful_anew c x 2 x.first (done_roots c.program) (subst IsBetween (sym e) is_returned) (done_among c cfg x own) h

last_is : (c : MarkedProgram) (cfg : Config) (x : Thread) → IsThread c cfg 0 x → x.phase ≡ phases.Ended ends.Returned → IsLawful c x → IsThread c cfg 0 (last c x)
last_is c cfg x own e h = record { number = own.number; program = own.program; settings = own.settings; rooted = (last_lawful c cfg x own e h).rooted; part = λ n. absurd (n refl) }

-- ---- all of them

abbrev AreThreadsOf : MarkedProgram → Config → Core → List Thread → Type 0
AreThreadsOf c cfg s ts = AreThreads c cfg (record s { threads = ts })

workers_run : (c : MarkedProgram) (cfg : Config) (s : Core) (x : Thread) (workers : List Thread) → AreThreadsOf c cfg s (x ∷ workers) → x.part ≡ 0 → x.phase ≡ phases.Ended ends.Returned → AreThreadsOf c cfg s (seen x ∷ map (begun c) workers)
workers_run c cfg s x workers h e over = record {
  count = ap suc (length-map workers (begun c)) ∙ h.count;
  own = mapped_each (IsThread c cfg) (seen x) (begun c) workers (seen_is c cfg x (h.own 0 x refl) e (h.lawful 0 x refl)) (λ i w g. worker_is c cfg i w (h.own (suc i) w g) (idle_at i w g) (h.lawful (suc i) w g));
  lawful = mapped_each (λ t y. IsLawful c y) (seen x) (begun c) workers (lawful_seen c x (how_ended x.phase) (h.own 0 x refl).number e (h.lawful 0 x refl))
      (λ i w g. worker_lawful c cfg i w (h.own (suc i) w g) (idle_at i w g) (h.lawful (suc i) w g));
  parts = over;
}
  where
    idle_at : (i : ℕ) (w : Thread) → slice_get workers i ≡ Some w → w.phase ≡ phases.Idle
    idle_at i w g = at_index (λ w. w.phase ≡ phases.Idle) workers i w (subst (λ (n : ℕ). PartFits n x.phase workers) e h.parts) g

done_runs : (c : MarkedProgram) (cfg : Config) (s : Core) (x : Thread) (workers : List Thread) → AreThreadsOf c cfg s (x ∷ workers) → x.phase ≡ phases.Ended ends.Returned → AreThreadsOf c cfg s (last c x ∷ workers)
done_runs c cfg s x workers h over = record {
  count = h.count;
  own = first_each (IsThread c cfg) (last c x) workers (last_is c cfg x (h.own 0 x refl) over (h.lawful 0 x refl)) (λ i. h.own (suc i));
  lawful = first_each (λ t y. IsLawful c y) (last c x) workers (last_lawful c cfg x (h.own 0 x refl) over (h.lawful 0 x refl)) (λ i. h.lawful (suc i));
  parts = tt;
}

part_run : (c : MarkedProgram) (cfg : Config) (s : Core) (x : Thread) (workers : List Thread) (n : ℕ) → x.part ≡ n → AreThreadsOf c cfg s (x ∷ workers) → may_begin_by n x.phase workers ≡ true → AreThreadsOf c cfg s (part_begins c.program n x workers)
part_run c cfg s x workers zero e k may = workers_run c cfg s x workers k e (returned x.phase may)
part_run c cfg s x workers (suc zero) e k may = done_runs c cfg s x workers k (subst (λ (n : ℕ). PartFits n x.phase workers) e k.parts)
part_run c cfg s x workers (suc (suc n)) e k may = cc

-- nothing changes where no part may begin
pub next_threads_are : (c : MarkedProgram) (cfg : Config) (s : Core) → AreThreads c cfg s → AreThreads c cfg (next c s)
next_threads_are c cfg s h = by_threads s.threads h
  where
    by_threads : (ts : List Thread) → AreThreadsOf c cfg s ts → AreThreadsOf c cfg s (next_threads c.program ts)
    by_threads [] k = k
    by_threads (x ∷ workers) k = (elim (may_begin (x ∷ workers)) as
        (λ (b : Bool). may_begin (x ∷ workers) ≡ b → AreThreadsOf c cfg s (if b then part_begins c.program x.part x workers else x ∷ workers))
        [ true ↦ λ may. part_run c cfg s x workers x.part refl k may | false ↦ λ may. k ]) refl
