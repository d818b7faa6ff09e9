-- Of which runs no limit ended a part: by the threads, and by the report.
use Rattle.std.proofs.Common.{◌≡◌, ◌≤◌, ℕ, zero, suc, Bool, true, false, List, [], ◌∷◌, Option, Some, refl, sym, ap, subst, arith, slice_get, if◌then◌else◌, nat_lt}
use Rattle.std.proofs.lemmas.Bool.Decides.{nat_tests}
use Rattle.jvm_types.specs.declared.outcome.End.{End}
use Rattle.jvm_types.specs.declared.outcome.End.TheVariants as ends
use Rattle.jvm_types.specs.declared.program.Program.{Program}
use Rattle.machine_types.specs.Core.{Core, outcome, report_of, done_end, end_or_not_run, reported_end}
use Rattle.machine_types.specs.Parts.{has_returned, has_finished}
use Rattle.machine_types.specs.Threads.{Thread}
use Rattle.machine_types.specs.declared.phase.Phase.{Phase}
use Rattle.machine_types.specs.declared.phase.Phase.TheVariants as phases
use Rattle.laws_states.specs.PartsStand.{PartsStand, FirstFits, HasFinished}
use Rattle.plain_orders.specs.EndedRuns.{HasNoLimit}

-- thread 0 returned or was ended by an exception, and so was each worker, once they began
pub record EndedAlone (threads : List Thread) : Type 0 where
  pub first : (x : Thread) → slice_get threads 0 ≡ Some x → HasFinished x.phase
  pub workers : (x y : Thread) (u : ℕ) → slice_get threads 0 ≡ Some x → 1 ≤ x.part
      → slice_get threads (suc u) ≡ Some y → HasFinished y.phase

finished_phase : (phase : Phase) → has_finished (end_or_not_run phase) ≡ true → HasFinished phase
finished_phase (phases.Ended e) f = f
finished_phase phase f = absurd (not_so f)
  where
    not_so : false ≡ true → ⊥
    not_so g = cc

not_less : (n : ℕ) → nat_lt (suc (suc n)) 2 ≡ false
not_less n = grind (arith, nat_tests)

-- by the part of thread 0
module _ (z : Thread) (zs : List Thread) (limit : HasNoLimit (outcome (record { words = []; threads = z ∷ zs }))) where
  no_part : FirstFits 0 z.first → HasFinished z.phase
  no_part k = finished_phase z.phase (subst (λ (o : Option End). has_finished (reported_end z.phase o) ≡ true) k (limit.first (report_of z) refl))

  returned : FirstFits 1 z.first → has_returned (reported_end z.phase z.first) ≡ true
  returned k = ap (λ (o : Option End). has_returned (reported_end z.phase o)) k

  done_ran : FirstFits 1 z.first → has_finished (done_end (z ∷ zs)) ≡ true
  done_ran k = limit.done (report_of z) refl (returned k)

  -- by the number of that part
  done_by : (n : ℕ) → z.part ≡ n → FirstFits 1 z.first → has_finished (if nat_lt n 2 then ends.NotRun else end_or_not_run z.phase) ≡ true
  done_by n e k = subst (λ (m : ℕ). has_finished (if nat_lt m 2 then ends.NotRun else end_or_not_run z.phase) ≡ true) e (done_ran k)

  alone_by : (n : ℕ) → z.part ≡ n → FirstFits n z.first → ((w : Thread) (u : ℕ) → 2 ≤ z.part → slice_get (z ∷ zs) (suc u) ≡ Some w → HasFinished w.phase)
      → EndedAlone (z ∷ zs)
  alone_by zero e k later = record {
    first = λ x f. subst (λ (w : Thread). HasFinished w.phase) (same z x f) (no_part k);
    workers = λ x y u f l g. absurd (let h = ap (λ (w : Thread). w.part) (same z x f) in omega (arith, e, l, h));
  }
    where
      same : (a b : Thread) → Some a ≡ Some b → a ≡ b
      same a b f = cc
  alone_by (suc zero) e k later = absurd (not_so (done_by 1 e k))
    where
      not_so : has_finished ends.NotRun ≡ true → ⊥
      not_so f = cc
  alone_by (suc (suc n)) e k later = record {
    first = λ x f. subst (λ (w : Thread). HasFinished w.phase) (same z x f) (finished_phase z.phase
        (subst (λ (b : Bool). has_finished (if b then ends.NotRun else end_or_not_run z.phase) ≡ true) (not_less n) (done_by (suc (suc n)) e k)));
    workers = λ x y u f l g. later y u (omega (arith, e)) g;
  }
    where
      same : (a b : Thread) → Some a ≡ Some b → a ≡ b
      same a b f = cc

pub alone_by_report : (p : Program) (s : Core) → PartsStand p s.threads → HasNoLimit (outcome s) → EndedAlone s.threads
alone_by_report p s parts limit = by_threads s.threads refl
  where
    by_threads : (threads : List Thread) → s.threads ≡ threads → EndedAlone s.threads
    by_threads [] e = subst EndedAlone (sym e) (record { first = λ x f. cc; workers = λ x y u f l g. cc })
    by_threads (z ∷ zs) e =
        let stand = subst (PartsStand p) e parts in
        let told : HasNoLimit (outcome (record { words = []; threads = z ∷ zs })) = subst (λ (ts : List Thread). HasNoLimit (outcome (record { words = []; threads = ts }))) e limit in
        subst EndedAlone (sym e) (alone_by z zs told z.part refl (stand.first z refl) (λ w u l f. stand.workers z w u refl l f))
